-- What is told, part by part. Assumes nothing.
use Rattle.std.specs.Prelude.{Option}
use Prim.Native.Nat.{ℕ, ◌<◌}
use native.Mathlib.Omega.{arith}
use Rattle.std.proofs.lemmas.List.{get_or_default}
use mathlib.Core.Path.{◌≡◌, ap, ◌∙◌}
use mathlib.Core.List.{List, [], ◌∷◌}
use lib.ListN.{length, get_or}
use Rattle.lists.specs.Choice.{bit}
use Rattle.lists.specs.Below.{each_below}
use Rattle.rules.specs.Events.{blank}
use Rattle.rules.specs.declared.Event.{Event}
use Rattle.rules.specs.declared.Hit.{Hit}
use Rattle.rules.specs.Causes.{cause_number}
use Rattle.flat.specs.Flat.{event_bytes, events_bytes, hit_words, unhit, hits_words}

pub event_told : (e : Event) (a d c k w l x y : ℕ) → a ≡ bit e.ate_food → d ≡ bit e.died → c ≡ cause_number e.death_cause → k ≡ bit e.killed_opponent → w ≡ bit e.won
    → l ≡ bit e.lost → x ≡ bit e.drew → y ≡ bit e.survived_to_max_ticks → (a ∷ d ∷ c ∷ k ∷ w ∷ l ∷ x ∷ y ∷ []) ≡ event_bytes e
event_told e a d c k w l x y pa pd pc pk pw pl px py = rw (pa, pd, pc, pk, pw, pl, px, py)

-- eight places of a list, each told
eight_told : {A : Type 0} (f : A → List ℕ) (z : A) (xs : List A) (a b c d e k g h : List ℕ) → a ≡ f (get_or xs 0 z) → b ≡ f (get_or xs 1 z) → c ≡ f (get_or xs 2 z) → d ≡ f (get_or xs 3 z)
    → e ≡ f (get_or xs 4 z) → k ≡ f (get_or xs 5 z) → g ≡ f (get_or xs 6 z) → h ≡ f (get_or xs 7 z) → (a ∷ b ∷ c ∷ d ∷ e ∷ k ∷ g ∷ h ∷ []) ≡ each_below 8 (λ i. f (get_or xs i z))
unfolding each_below
eight_told f z xs a b c d e k g h pa pb pc pd pe pk pg ph = rw (pa, pb, pc, pd, pe, pk, pg, ph)

pub events_told : (es : List Event) (a b c d e f g h : List ℕ) → a ≡ event_bytes (get_or es 0 blank) → b ≡ event_bytes (get_or es 1 blank) → c ≡ event_bytes (get_or es 2 blank) → d ≡ event_bytes (get_or es 3 blank)
    → e ≡ event_bytes (get_or es 4 blank) → f ≡ event_bytes (get_or es 5 blank) → g ≡ event_bytes (get_or es 6 blank) → h ≡ event_bytes (get_or es 7 blank) → (a ∷ b ∷ c ∷ d ∷ e ∷ f ∷ g ∷ h ∷ []) ≡ events_bytes es
unfolding events_bytes
events_told es = eight_told event_bytes blank es

-- what an element's bytes are, read at any default
pub place_told : (es : List Event) (long : length es ≡ 8) (i : ℕ) → i < 8 → (x : Event) (a : List ℕ) → a ≡ event_bytes (get_or es i x) → a ≡ event_bytes (get_or es i blank)
place_told es long i l x a p = p ∙ ap event_bytes (get_or_default es i x blank (omega (arith, l, long)))

pub hits_told : (hs : List (Option Hit)) (a b c d e f g h : List ℕ) → a ≡ hit_words (get_or hs 0 unhit) → b ≡ hit_words (get_or hs 1 unhit) → c ≡ hit_words (get_or hs 2 unhit) → d ≡ hit_words (get_or hs 3 unhit)
    → e ≡ hit_words (get_or hs 4 unhit) → f ≡ hit_words (get_or hs 5 unhit) → g ≡ hit_words (get_or hs 6 unhit) → h ≡ hit_words (get_or hs 7 unhit) → (a ∷ b ∷ c ∷ d ∷ e ∷ f ∷ g ∷ h ∷ []) ≡ hits_words hs
unfolding hits_words
hits_told hs = eight_told hit_words unhit hs
