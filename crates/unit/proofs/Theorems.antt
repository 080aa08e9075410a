-- 02's theorems of the outcome of a unit number, of every answer that meets its promise; and that a draw's index so made is never refused by 27.
-- Assumes nothing.
use Rattle.std.specs.Prelude.{Ok, Err}
use Rattle.std.proofs.Common.{◌≡◌, ℕ, suc, ◌+◌, ◌-◌, ◌<◌, ◌≤◌, min, false, not, ltb, List, ◌++◌, length, drop, pos, negsuc, sym, refl, ap, ◌∙◌, subst, true≢false, arith, le-ltb, lt-ltb, ne_eqb}
use lib.Ieee.{Float, fin, binary64, mul, of_int, to_unsigned}
use Rattle.lists.specs.Lists.{any}
use Rattle.rules.specs.Image.{state_of}
use Rattle.rules.specs.Chance.{outcomes, drawn, after_draw}
use Rattle.rules.specs.Says.{Says, by_table}
use Rattle.rules.specs.Faults.{image_rows}
use Rattle.rules.specs.Orders.{count_order, draw_rows, draw_order}
use Rattle.rules.specs.Calls.{Draw, drawn_of, count_says, draw_says}
use Rattle.rules.specs.Promises.{Counts, Draws}
use Rattle.rules.specs.declared.Drawn.{Drawn}
use Rattle.rules.proofs.Tables.{given_out, given_is, table_seen, table_without, table_listed}
use Rattle.unit.specs.UnitNumber.{outside_count, outcome_of, whole_part}
use Rattle.unit.specs.Orders.{outcome_order}
use Rattle.unit.specs.Calls.{outcome_says}
use Rattle.unit.specs.Promises.{Chooses}
use Rattle.unit.specs.Chosen.{Choosable, Chosen, NeverAbove}
use Rattle.unit.proofs.Products.{product, count_value}
use Rattle.unit.proofs.Choosing.{in_range}
use Rattle.rules.specs.declared.refusal.Refusal.TheVariants as Refusal

-- 'the rounded product of count and u': the exact one, of 3 and the number nearest to a third, is 1 - 2^-54, which rounds to 1
pub rounds_up : outcome_of 3 (fin false 6004799503160661 (negsuc 53)) ≡ 1
unfolding outcome_of mul to_unsigned of_int
rounds_up = refl

module _ (c : ℕ) (u : Float) where
  -- a whole number from the whole part to one more, cut at c - 1
  cut : (w k : ℕ) → w < c → w ≤ k → k ≤ suc w → (min k (c - 1) < c) × (w ≤ min k (c - 1)) × (min k (c - 1) ≤ w + 1)
  cut w k h a b = (omega arith, omega arith, omega arith)

  rounded : Choosable c u → (outcome_of c u < c) × (whole_part c u ≤ outcome_of c u) × (outcome_of c u ≤ whole_part c u + 1)
  unfolding outcome_of
  rounded q =
      let p = product c u q in
      cut (whole_part c u) (to_unsigned 64 (mul binary64 (of_int binary64 (pos c)) u)) p.inside p.least p.most

  -- counts 1 to 2^53 and u from 0 to below 1: an index comes, and what is shown of it
  pub outcome_chosen : Choosable c u → (r : Says ℕ) → Chooses c u r → Chosen c u r
  unfolding outcome_says by_table outside_count
  outcome_chosen q r p =
      let f = rounded q in
      record {
        index = outcome_of c u;
        answer = (p.answer ∙ rw (ne_eqb c 0 (λ e. omega (arith, q.some)), le-ltb 9007199254740992 c q.few, q.unit));
        legal = f.0;
        never_less = f.1;
        one_more = f.2;
        lossless = count_value c q.few;
      }

  -- an index that comes is below the count
  pub outcome_below : (r : Says ℕ) (i : ℕ) → Chooses c u r → r ≡ Ok i → i < c
  unfolding outcome_says
  outcome_below r i p e =
      let t = outcome_order c u in
      let g = sym p.answer ∙ e in
      let q = in_range c u (given_out t (outcome_of c u) i g 0) (given_out t (outcome_of c u) i g 1) in
      subst (λ (k : ℕ). k < c) (given_is t (outcome_of c u) i g) (rounded q).0

-- ---- of a draw

module _ (w : List ℕ) (i : ℕ) where
  -- where its row does not hold, no other gives 27
  below_27 : i < outcomes (state_of w) → (old new list cells : List ℕ) (d : Says Drawn) → Draws w i old new list cells d → d ≡ Err Refusal.Outcome → ⊥
  unfolding draw_says any image_rows
  below_27 h old new list cells d p e =
      let f : Draw → Drawn = λ x. drawn_of x in
      let t = draw_order w i (length old) (length list) in
      let x : Draw = record { next = after_draw (state_of w) i; cells = drawn (state_of w) i } in
      let rest = drop 1 (draw_rows w i (length old) (length list)) in
      let above = table_without (count_order w) rest (Refusal.Outcome, not (ltb i (outcomes (state_of w)))) (Ok (f x)) (λ z. ap not (lt-ltb i (outcomes (state_of w)) h)) in
      true≢false (sym (table_listed (count_order w ++ rest) (f x) Refusal.Outcome (sym above ∙ sym (table_seen f t x) ∙ sym p.answer ∙ e)))

  -- the count of an image, and an index chosen of it by a unit number: a draw of that index may be refused, but not by 27
  pub chosen_draws : (c : ℕ) (u : Float) (n r : Says ℕ) → Counts w n → n ≡ Ok c → Chooses c u r → r ≡ Ok i → NeverAbove w i
  unfolding count_says
  chosen_draws c u n r p e q f =
      let k : outcomes (state_of w) ≡ c = given_is (count_order w) (outcomes (state_of w)) c (sym p.answer ∙ e) in
      let h : i < outcomes (state_of w) = rw k (outcome_below c u r i q f) in
      record { below = h; never_27 = below_27 h }
