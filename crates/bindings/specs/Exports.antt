-- The promises of the exported calls: the refusal, every lent array and every word of the lent buffers, each an equation with the flat form of
-- what the wrapped call says. old and new are lent memory before and after. Assumes nothing.
use Rattle.std.specs.Prelude.{ℕ, Bool, false, List, [], ◌∷◌, ◌≡◌, Float, length, Option, Some, None}
use Rattle.lists.specs.Choice.{bit}
use Rattle.rules.specs.Events.{eight}
use Rattle.rules.specs.Image.{image_of}
use Rattle.rules.specs.Step.{Transition}
use Rattle.rules.specs.View.{lit}
use Rattle.rules.specs.Says.{Says, lent, Shape, box, discrete}
use Rattle.rules.specs.Calls.{Draw}
use Rattle.contents.specs.declared.Span.{Span}
use Rattle.standing.specs.Calls.{Move}
use Rattle.flat.specs.Flat.{events_bytes}
use Rattle.flat.specs.Games.{match_numbers}
pub use Rattle.telling.specs.Told.{refusal_of, told, one, Tells, FlatBody}

-- ---- flat forms

abbrev pub bit_number : Bool → List ℕ
bit_number b = bit b ∷ []

-- the words or numbers themselves
abbrev pub whole : {B : Type 0} → List B → List B
whole v = v

-- whether there is a key, and the key
abbrev pub key_numbers : Option ℕ → List ℕ
key_numbers None = 0 ∷ 0 ∷ []
key_numbers (Some n) = 1 ∷ n ∷ []

-- the legal actions are those below the number
abbrev pub action_numbers : List ℕ → List ℕ
action_numbers l = length l ∷ []

-- whether it is discrete and of how many numbers; planes, rows, columns
abbrev pub shape_numbers : Shape → List ℕ
shape_numbers (box p h w l t) = 0 ∷ 0 ∷ p ∷ h ∷ w ∷ []
shape_numbers (discrete n) = 1 ∷ n ∷ 0 ∷ 0 ∷ 0 ∷ []

-- low, high
abbrev pub shape_bounds : Shape → List Float
shape_bounds (box p h w l t) = l ∷ t ∷ []
shape_bounds (discrete n) = lit false ∷ lit false ∷ []

-- where a page lies in its book
abbrev pub span_numbers : Span → List ℕ
span_numbers q = q.start ∷ q.len ∷ []

abbrev pub step_numbers : Transition → List ℕ
step_numbers o = length (image_of o.next) ∷ bit o.terminal ∷ []

abbrev pub draw_numbers : Draw → List ℕ
draw_numbers d = length (image_of d.next) ∷ length d.cells ∷ []

-- ---- promises

-- an answer in a lent buffer, and how many words it has in a lent array
pub record Writes {A B : Type 0} (f : A → List B) (x : Says A) (old new : List B) (old_count new_count : List ℕ) (r : ℕ) : Type 0 where
  pub refusal : r ≡ refusal_of x
  pub count : new_count ≡ told (λ a. one (length (f a))) old_count x
  pub words : new ≡ lent f old x

pub record FlatSpace (x : Says Shape) (old new : List ℕ) (old_bounds new_bounds : List Float) (r : ℕ) : Type 0 where
  pub refusal : r ≡ refusal_of x
  pub sizes : new ≡ told shape_numbers old x
  pub bounds : new_bounds ≡ told shape_bounds old_bounds x

pub record FlatSteps (x : Says Transition) (old new : List ℕ) (old_events new_events : List (List ℕ)) (old_end new_end : List ℕ) (r : ℕ) : Type 0 where
  pub refusal : r ≡ refusal_of x
  pub words : new ≡ lent (λ o. image_of o.next) old x
  pub events : new_events ≡ told (λ o. events_bytes (eight o.events)) old_events x
  pub end : new_end ≡ told step_numbers old_end x

pub record FlatDraws (x : Says Draw) (old new old_list new_list old_counts new_counts : List ℕ) (r : ℕ) : Type 0 where
  pub refusal : r ≡ refusal_of x
  pub words : new ≡ lent (λ d. image_of d.next) old x
  pub list : new_list ≡ lent (λ d. d.cells) old_list x
  pub counts : new_counts ≡ told draw_numbers old_counts x

-- a move that a match takes: the events and the match, each in place
pub record FlatMoves (x : Says Move) (old new : List (List ℕ)) (old_game new_game : List ℕ) (r : ℕ) : Type 0 where
  pub refusal : r ≡ refusal_of x
  pub events : new ≡ told (λ t. events_bytes t.events) old x
  pub game : new_game ≡ told (λ t. match_numbers t.game) old_game x
