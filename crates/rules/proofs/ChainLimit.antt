-- Refusal 7 of document 01 is never given: on a grid of at most 32, food above 10,000 is above g² and so 6. Assumes nothing.
use Rattle.std.specs.Prelude.{Ok}
use Prim.Native.Nat.{ℕ}
use native.Mathlib.Omega.{arith}
use mathlib.Core.Path.{◌≡◌, sym, ◌∙◌}
use mathlib.Core.Bool.{false, true≢false}
use mathlib.Core.List.{[], ◌++◌}
use lib.Dec.{ltb}
use lib.IntN.{pos}
use lib.ListN.{take, drop}
use lib.Signed.{lt_z}
use borrow.Author.Tests.{ltb-false, le-ltb}
use Rattle.lists.specs.Lists.{any}
use Rattle.rules.specs.Tables.{Table, FirstRow}
use Rattle.rules.specs.Says.{Says, by_table}
use Rattle.rules.specs.Setting.{side_of, area_of, setting_order, chain_order}
use Rattle.rules.specs.declared.Setting.{Setting}
use Rattle.rules.proofs.Tables.{row_out, table_first, table_without, table_listed}
use Rattle.rules.proofs.Facts.{square_le}
use Rattle.rules.proofs.Starts.{side_small}
use Rattle.rules.specs.declared.refusal.Refusal.TheVariants as Refusal

module _ (s : Setting) where
  -- food that is not above g², on a grid of at most 32
  few_enough : lt_z (pos 32) s.grid_size ≡ false → ltb (area_of s) s.initial_food_count ≡ false → ltb 10000 s.initial_food_count ≡ false
  few_enough five six =
      let small = square_le (side_of s.grid_size) (side_small s.grid_size five) in
      le-ltb 10000 s.initial_food_count (omega (arith, small, ltb-false (area_of s) s.initial_food_count six))

  -- with the row of 7 or without it, a call that begins with the setting's table and goes on with other rows says the same
  pub without_7 : {A : Type 0} (rows : Table) (r : Says A) → by_table (chain_order s ++ rows) r ≡ by_table (setting_order s ++ rows) r
  without_7 rows r =
      let front = take 6 (setting_order s) in
      table_without front (drop 6 (setting_order s) ++ rows) (Refusal.Chain, ltb 10000 s.initial_food_count) r (λ h. few_enough (row_out front 4 h) (row_out front 5 h))

  -- so 7 is never given
  pub never_7 : FirstRow (chain_order s) Refusal.Chain → ⊥
  unfolding any
  never_7 f =
      let r : Says ℕ = Ok 0 in
      true≢false (sym (table_listed (setting_order s) 0 Refusal.Chain (sym (without_7 [] r) ∙ table_first (chain_order s) r Refusal.Chain f)))
