-- The check of a setting is its first half, and its second where the first finds nothing. Assumes nothing.
use Prim.Native.Nat.{ℕ, ◌≤◌, ◌^◌}
use native.Mathlib.Omega.{arith}
use mathlib.Core.Path.{◌≡◌, sym, ◌∙◌}
use mathlib.Core.Bool.{true, false, not, ◌&&◌}
use lib.Dec.{ltb, eqb}
use lib.ListN.{get_or}
use borrow.Author.Tests.{ltb-false, eqb-false}
use Rattle.rules.specs.Tables.{none_hold}
use Rattle.rules.proofs.Tables.{and_then, then_first, then_gives, table_after, table_gives, table_given, fault_none, none_fault, row_out}
use Rattle.lists.proofs.Tests.{or_false_left, or_false_right}
use Rattle.rules.specs.Setting.{is_set, is_zero, side_of, area_of, worst, limits_order, places_order, setting_order, setting_check}
use Rattle.std.specs.Prelude.{Ok}
use Rattle.rules.specs.Says.{Says}
use Rattle.rules.specs.Calls.{setting_says}
use Rattle.rules.specs.SettingParts.{limits_says, Limited, place_says}
use Rattle.rules.specs.declared.Setting.{Setting}
use Rattle.rules.specs.declared.refusal.Refusal.TheVariants as Refusal

pub check_parts : (s : Setting) → setting_says s ≡ and_then (limits_says s) (place_says s.grid_size s.num_snakes s.initial_length s.initial_food_count)
unfolding setting_says limits_says place_says
check_parts s = table_after (limits_order s) (places_order s.grid_size s.num_snakes s.initial_length s.initial_food_count) (Ok tt)

-- a setting is accepted by its number as by what is said of it
pub accepted_says : (s : Setting) → setting_check s ≡ 0 → setting_says s ≡ Ok tt
unfolding setting_check setting_says
accepted_says s e = table_gives (setting_order s) (Ok tt) (fault_none (setting_order s) e)

pub says_accepted : (s : Setting) → setting_says s ≡ Ok tt → setting_check s ≡ 0
unfolding setting_check setting_says
says_accepted s e = none_fault (setting_order s) (table_given (setting_order s) tt tt e).0

-- ---- what each half tells, where it finds nothing

pub limits_none : (s : Setting) → setting_says s ≡ Ok tt → limits_says s ≡ Ok tt
limits_none s e = then_first (limits_says s) (place_says s.grid_size s.num_snakes s.initial_length s.initial_food_count) tt (sym (check_parts s) ∙ e)

pub places_none : (s : Setting) → setting_says s ≡ Ok tt → place_says s.grid_size s.num_snakes s.initial_length s.initial_food_count ≡ Ok tt
places_none s e = then_gives (limits_says s) (place_says s.grid_size s.num_snakes s.initial_length s.initial_food_count) tt (sym (check_parts s) ∙ e)

module _ (s : Setting) (e : limits_says s ≡ Ok tt) where
  none : none_hold (limits_order s) ≡ true
  unfolding limits_says
  none = (table_given (limits_order s) tt tt e).0

  -- the test of row k, from 0, does not hold
  out : (k : ℕ) → (get_or (limits_order s) k (Refusal.Buffer, false)).1 ≡ false
  out k = row_out (limits_order s) k none

  pub limited : Limited s
  limited =
      let z : s.initial_length ≡ 0 → ⊥ = eqb-false s.initial_length 0 (out 1) in
      record {
        snakes_min = ltb-false s.num_snakes 2 (or_false_left (ltb s.num_snakes 2) (ltb 8 s.num_snakes) (out 0));
        snakes_max = ltb-false 8 s.num_snakes (or_false_right (ltb s.num_snakes 2) (ltb 8 s.num_snakes) (out 0));
        size_min = omega arith;
        grid_max = out 4;
        food_max = ltb-false (area_of s) s.initial_food_count (out 5);
      }

  -- 'food lead 0' and 'food lead set, snakes not 2' do not hold
  pub lead_some : is_zero s.win_food_lead ≡ false
  lead_some = out 2

  pub lead_two_or : (is_set s.win_food_lead && not (eqb s.num_snakes 2)) ≡ false
  lead_two_or = out 3

  pub worst_most : worst s.num_snakes (side_of s.grid_size) s.initial_food_count ≤ 2 ^ 53
  worst_most = ltb-false (2 ^ 53) (worst s.num_snakes (side_of s.grid_size) s.initial_food_count) (out 6)

-- the first half found nothing
pub limited_by : (s : Setting) (r : Says (Unit {0})) → r ≡ limits_says s → r ≡ Ok tt → Limited s
limited_by s r e z = limited s (sym e ∙ z)
