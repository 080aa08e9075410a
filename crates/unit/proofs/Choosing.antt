-- What the outcome of a unit number says by the tests that the code makes: one law for each return. Assumes nothing.
use Rattle.std.specs.Prelude.{Ok, Err}
use Rattle.std.proofs.Common.{◌≡◌, ℕ, ◌^◌, Bool, true, false, not, eqb, ltb, sym, ap, ◌∙◌, pos_of_ne-zero, ltb-false}
use lib.Ieee.{Float}
use borrow.Author.Tests.{eqb-false, not-true, not-false}
use Rattle.lists.proofs.Tests.{or_false_left, or_false_right}
use Rattle.rules.specs.Says.{by_table}
use Rattle.rules.specs.declared.refusal.Refusal.{Refusal}
use Rattle.unit.specs.UnitNumber.{outside_count, is_unit, outcome_of}
use Rattle.unit.specs.Calls.{outcome_says}
use Rattle.unit.specs.Chosen.{Choosable}
use Rattle.rules.specs.declared.refusal.Refusal.TheVariants as Refusal

module _ (c : ℕ) (u : Float) where
  -- what is not refused is in range
  pub in_range : outside_count c ≡ false → not (is_unit u) ≡ false → Choosable c u
  unfolding outside_count
  in_range a b = record {
    some = pos_of_ne-zero (eqb-false c 0 (or_false_left (eqb c 0) (ltb (2 ^ 53) c) a));
    few = ltb-false (2 ^ 53) c (or_false_right (eqb c 0) (ltb (2 ^ 53) c) a);
    unit = not-false (is_unit u) b;
  }

  module _ (o : Bool) (k : o ≡ outside_count c) where
    -- 80: the count is outside its range
    pub outcome_80 : o ≡ true → (x : Refusal) → x ≡ Refusal.UnitCount → Err x ≡ outcome_says c u
    unfolding outcome_says by_table
    outcome_80 t x r = let h = sym k ∙ t in rw (r, h)

    module _ (t : o ≡ false) (b : Bool) (a : b ≡ is_unit u) where
      -- 81: u is outside its own
      pub outcome_81 : not b ≡ true → (x : Refusal) → x ≡ Refusal.UnitNumber → Err x ≡ outcome_says c u
      unfolding outcome_says by_table
      outcome_81 n x r = let h = sym k ∙ t in let f = sym a ∙ not-true b n in rw (r, h, f)

      -- neither: so both are in range, and the index comes
      module _ (n : not b ≡ false) where
        pub choosable : Choosable c u
        choosable = in_range (sym k ∙ t) (ap not (sym a) ∙ n)

        pub outcome_comes : (i : ℕ) → i ≡ outcome_of c u → Ok i ≡ outcome_says c u
        unfolding outcome_says by_table
        outcome_comes i e = let h = sym k ∙ t in let f = sym a ∙ not-false b n in rw (e, h, f)
