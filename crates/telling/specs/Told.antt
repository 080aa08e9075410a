-- What is told in lent arrays: the refusal, and the arrays afterwards. Assumes nothing.
use Rattle.std.specs.Prelude.{ℕ, List, [], ◌∷◌, ◌≡◌, length, take, drop, Ok, Err}
use Rattle.rules.specs.Says.{Says}
use Rattle.rules.specs.Calls.{body_asked}
use Rattle.image.specs.Memory.{start_asked}
use Rattle.flat.specs.Flat.{refusal_number}

-- ---- flat forms

module _ {A : Type 0} where
  -- 0 for an answer
  abbrev pub refusal_of : Says A → ℕ
  refusal_of (Err k) = refusal_number k
  refusal_of (Ok a) = 0

module _ {A B : Type 0} where
  -- a lent array afterwards: 'A refusal .. leaves all lent words untouched', an answer is the whole array
  abbrev pub told : (A → List B) → List B → Says A → List B
  told f old (Err k) = old
  told f old (Ok a) = f a

abbrev pub one : {A : Type 0} → A → List A
one x = x ∷ []

-- ---- promises

-- an answer in one lent array
pub record Tells {A B : Type 0} (f : A → List B) (x : Says A) (old new : List B) (r : ℕ) : Type 0 where
  pub refusal : r ≡ refusal_of x
  pub answer : new ≡ told f old x

-- where the body query's part lies in the caller's image
pub record FlatBody (w : List ℕ) (i : ℕ) (part : List ℕ) (r : ℕ) : Type 0 where
  pub refusal : r ≡ 0
  pub start_len : part ≡ start_asked w i ∷ length (body_asked w i) ∷ []
  pub words : take (length (body_asked w i)) (drop (start_asked w i) w) ≡ body_asked w i
