-- Contents of which each test passes are accepted: the other way round. Assumes nothing.
use Prim.Native.Nat.{ℕ, ◌+◌, ◌-◌, ◌<◌, ◌≤◌}
use native.Mathlib.Omega.{arith}
use mathlib.Core.Path.{◌≡◌}
use mathlib.Core.Bool.{true, false, not, ◌&&◌}
use mathlib.Core.List.{List}
use lib.Dec.{ltb, eqb}
use lib.ListN.{length}
use borrow.Author.Tests.{lt-ltb, le-ltb, lt-leb, eq-eqb}
use Rattle.lists.specs.Below.{all_below, some_below}
use Rattle.lists.specs.Lists.{all}
use Rattle.rules.specs.Tables.{none_hold}
use Rattle.lists.proofs.Below.{all_true, some_false}
use Rattle.lists.proofs.Tests.{compared, same, other}
use Rattle.rules.specs.Image.{word}
use Rattle.rules.specs.Setting.{setting_check}
use Rattle.contents.specs.Settings.{limit_off, setting_in}
use Rattle.contents.specs.Contents.{front, pages_in, start_in}
use Rattle.contents.specs.Orders.{layout_rows, start_rows, contents_order, rises, outside}

module _ (c : List ℕ) (n : ℕ) (long : 17 ≤ length c) (one : word c 0 ≡ 1) (yes_no : word c 4 ≤ 1) (lead_on : limit_off c 5 ≡ false) (ticks_on : limit_off c 11 ≡ false)
    (setting : setting_check (setting_in c) ≡ 0) (contents_in : front (pages_in c) ≤ length c) (after_contents : 0 < pages_in c → start_in c 0 ≡ front (pages_in c))
    (rising : (i : ℕ) → 1 + i < pages_in c → start_in c i < start_in c (1 + i)) (starts_in : (i : ℕ) → i < pages_in c → start_in c i < n)
    (none_left : pages_in c ≡ 0 → n ≤ 17) where
  first_row : (ltb 0 (pages_in c) && not (eqb (start_in c 0) (front (pages_in c)))) ≡ false
  first_row = elim (compared (pages_in c) 0) [
    | same e t ↦ rw (le-ltb 0 (pages_in c) (omega arith))
    | other m t ↦ rw (lt-ltb 0 (pages_in c) (omega arith), eq-eqb _ _ (after_contents (omega arith)))
  ]

  last_row : (eqb (pages_in c) 0 && ltb 17 n) ≡ false
  last_row = elim (compared (pages_in c) 0) [ same e t ↦ rw (t, le-ltb 17 n (none_left e)) | other m t ↦ rw t ]

  all_rise : all_below (pages_in c - 1) (rises c) ≡ true
  all_rise = all_true (rises c) (pages_in c - 1) (λ i h. lt-ltb _ _ (rising i (omega arith)))

  all_in : some_below (pages_in c) (outside c n) ≡ false
  all_in = some_false (outside c n) (pages_in c) (λ i h. lt-leb _ _ (starts_in i h))

  pub clear : none_hold (contents_order c n) ≡ true
  unfolding contents_order layout_rows start_rows all
  clear =
      rw (le-ltb (length c) 17 long, eq-eqb (word c 0) 1 one, le-ltb 1 (word c 4) yes_no, lead_on, ticks_on, eq-eqb (setting_check (setting_in c)) 0 setting, le-ltb (length c) (front (pages_in c)) contents_in, first_row, all_rise, all_in, last_row)
