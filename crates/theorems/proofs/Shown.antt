-- What a fault names is the first that shows it: the record out of range, the start out of line, the body with a cell twice (02, wish 4). Assumes nothing.
use Prim.Native.Nat.{ℕ, ◌<◌}
use mathlib.Core.Path.{◌≡◌, sym, ◌∙◌}
use mathlib.Core.Bool.{Bool, true, false, not, true≢false}
use mathlib.Core.List.{List}
use lib.Dec.{eqb}
use borrow.Author.Tests.{not-true, not-false}
use Rattle.lists.specs.Below.{all_below}
use Rattle.lists.specs.Lists.{distinct}
use Rattle.lists.proofs.Tests.{ordered, less, more}
use Rattle.lists.proofs.Lowest.{none_lower, lowest_holds, none_out}
use Rattle.rules.specs.Image.{snakes_in, start_at, start_due, body_at, contents_fit, record_fits, ranges_fit, starts_fit, bodies_fit}
use Rattle.rules.specs.Faults.{first_out}

-- i is the first below n that does not fit
pub record FirstOut (n : ℕ) (fits : ℕ → Bool) (i : ℕ) : Type 0 where
  pub within : i < n
  pub here : fits i ≡ false
  pub before : (j : ℕ) → j < i → fits j ≡ true

module _ (n : ℕ) (fits : ℕ → Bool) (h : all_below n fits ≡ false) where
  some_within : first_out n fits < n
  some_within = elim (ordered (first_out n fits) n) [ less l t ↦ l | more l t ↦ absurd (true≢false (sym (none_out fits n l) ∙ h)) ]

  pub out_first : FirstOut n fits (first_out n fits)
  out_first = record {
    within = some_within;
    here = not-true (fits (first_out n fits)) (lowest_holds (λ i. not (fits i)) n some_within);
    before = λ j l. not-false (fits j) (none_lower (λ i. not (fits i)) n j l);
  }

module _ (w : List ℕ) where
  pub range_shown : contents_fit w ≡ true → ranges_fit w ≡ false → FirstOut (snakes_in w) (record_fits w) (first_out (snakes_in w) (record_fits w))
  unfolding ranges_fit
  range_shown c h = out_first (snakes_in w) (record_fits w) (rw c at h)

  pub start_shown : starts_fit w ≡ false → FirstOut (snakes_in w) (λ i. eqb (start_at w i) (start_due w i)) (first_out (snakes_in w) (λ i. eqb (start_at w i) (start_due w i)))
  unfolding starts_fit
  start_shown h = out_first (snakes_in w) (λ i. eqb (start_at w i) (start_due w i)) h

  pub twice_shown : bodies_fit w ≡ false → FirstOut (snakes_in w) (λ i. distinct (body_at w i)) (first_out (snakes_in w) (λ i. distinct (body_at w i)))
  unfolding bodies_fit
  twice_shown h = out_first (snakes_in w) (λ i. distinct (body_at w i)) h
