-- From the words of the initial state to the promise of the call. Assumes nothing.
use Rattle.std.specs.Prelude.{Ok, Err}
use Prim.Native.Nat.{ℕ, ◌+◌, ◌*◌, ◌<◌, ◌≤◌}
use native.Mathlib.Omega.{arith}
use mathlib.Core.Path.{◌≡◌, refl, sym, ap, ◌∙◌}
use mathlib.Core.List.{List, [], ◌∷◌, ◌++◌}
use lib.Dec.{ltb}
use lib.ListN.{length, take, drop, length-append}
use lib.Seq.{take-append_seam}
use mir.Syntax.{w32, w64}
use mir.Val.{Fits, SFits, to_z, of_z}
use mir.Facts.{to_z-of_z}
use borrow.Author.Tests.{lt-ltb, le-ltb}
use Rattle.lists.specs.Choice.{bit}
use Rattle.lists.specs.Below.{concat_below}
use Rattle.lists.specs.Lists.{write_at, over_front}
use Rattle.lists.proofs.Repeats.{sum_same}
use Rattle.lists.proofs.Below.{concat_long, sum_ext}
use Rattle.lists.proofs.Concat.{blocks_long}
use Rattle.lists.proofs.Writes.{write_front}
use Rattle.rules.specs.Image.{image_of}
use Rattle.rules.specs.Calls.{setting_says, initial_says}
use Rattle.rules.specs.Promises.{Starts}
use Rattle.rules.specs.Says.{Says, seen, lent}
use Rattle.rules.specs.Setting.{side_of, setting_check, initial_state}
use Rattle.rules.specs.SettingParts.{cells_of, start_cells, start_record, start_contents}
use Rattle.rules.specs.declared.Setting.{Setting}
use Rattle.rules.specs.declared.refusal.Refusal.{Refusal}
use Rattle.rules.proofs.Tables.{and_then, start_for, initial_says_lem}
use Rattle.rules.proofs.SettingParts.{accepted_says, says_accepted}
use Rattle.rules.proofs.Facts.{square_le}
use Rattle.rules.proofs.InitialFacts.{cells_long, start_image}
use Rattle.rules.proofs.SettingFacts.{accepts}
use Rattle.setting.specs.Starts.{Startable, Room}
use Rattle.placed.specs.Tested.{Tested}
use Rattle.rules.specs.declared.refusal.Refusal.TheVariants as Refusal

module _ (s : Setting) (old : List ℕ) where
  refused : (new : List ℕ) (r : Says ℕ) (k : Refusal) → initial_says s (length old) ≡ Err k → new ≡ old → r ≡ Err k → Starts s old new r
  refused new r k e n q =
      record {
        answer = q ∙ sym (ap (seen (λ t. length (image_of t))) e);
        words = n ∙ sym (ap (lent image_of old) e);
      }

  pub starts_refused : (k : Refusal) (cells kept left : List ℕ) (r : Says (Unit {0})) → Tested (setting_says s) cells kept left r → r ≡ Err k → Starts s old old (Err k)
  starts_refused k cells kept left r t q =
      refused old (Err k) k (initial_says_lem s (length old) ∙ ap (λ (y : Says (Unit {0})). and_then y (start_for s (length old))) (sym t.says ∙ q)) refl refl

module _ (s : Setting) (e : setting_check s ≡ 0) where
  total_is : length (start_cells s) ≡ s.num_snakes * s.initial_length
  total_is =
      concat_long s.num_snakes (cells_of (side_of s.grid_size) s.num_snakes s.initial_length)
      ∙ sum_ext s.num_snakes (λ i. length (cells_of (side_of s.grid_size) s.num_snakes s.initial_length i)) (λ i. s.initial_length) (cells_long s (accepts s e))
      ∙ sum_same s.num_snakes s.initial_length

  total_most : s.num_snakes * s.initial_length ≤ 1024
  total_most = let a = accepts s e in omega (arith, a.food_free, square_le (side_of s.grid_size) a.side_max)

  part_cells : (old new : List ℕ) → new ≡ write_at old 0 (start_cells s) → take (s.num_snakes * s.initial_length) new ≡ start_cells s
  unfolding over_front
  part_cells old new q =
      ap (λ (k : ℕ). take k new) (sym total_is)
      ∙ ap (take (length (start_cells s))) (q ∙ write_front old (start_cells s))
      ∙ take-append_seam (start_cells s) (drop (length (start_cells s)) old)

  image_long : length (image_of (initial_state s)) ≡ 5 + 4 * s.num_snakes + length (start_cells s)
  image_long =
      let f = start_record s.num_snakes s.initial_length in
      let b : length (concat_below s.num_snakes f) ≡ 4 * s.num_snakes = blocks_long f 4 s.num_snakes (λ _. refl) in
      ap (λ (l : List ℕ). length l) (start_image s (accepts s e))
      ∙ omega (arith, b, length-append (concat_below s.num_snakes f) (start_cells s))

-- ---- the core: b is the place of the first body

module _ (s : Setting) (cells : List ℕ) (p : Startable s cells) (b : ℕ) (past : b ≡ 5 + 4 * s.num_snakes) where
  count_is : b + length cells ≡ length (image_of (initial_state s))
  count_is = omega (arith, ap (λ (l : List ℕ). length l) p.placed, image_long s p.accepted)

  pub starts_short : (old : List ℕ) → length old < b + length cells → Starts s old old (Err Refusal.Buffer)
  starts_short old h =
      refused s old old (Err Refusal.Buffer) Refusal.Buffer
      (rw (initial_says_lem s (length old), accepted_says s p.accepted, lt-ltb (length old) (length (image_of (initial_state s))) (omega (arith, count_is))))
      refl refl

  -- a signed number is handed on as the machine reads it back
  module _ (f : SFits w32 s.grid_size) (g : ℕ) (side : g ≡ side_of (to_z w32 (of_z w32 s.grid_size))) where
    side_is : g ≡ side_of s.grid_size
    side_is = side ∙ ap side_of (to_z-of_z f)

    module _ (old : List ℕ) (h : b + length cells ≤ length old) where
      pub fits : Room s.num_snakes g s.initial_food_count s.initial_length cells old
      fits =
          let a = accepts s p.accepted in
          let m = square_le (side_of s.grid_size) a.side_max in
          record {
            snakes = a.snakes_max;
            side = omega (arith, side_is, a.side_max);
            due = omega (arith, a.food_free, m);
            few = omega (arith, a.size_max, m);
            words = omega arith;
          }

      given : initial_says s (length old) ≡ Ok (initial_state s)
      given = rw (initial_says_lem s (length old), accepted_says s p.accepted, le-ltb (length old) (length (image_of (initial_state s))) (omega (arith, count_is)))

      pub starts_done : (new : List ℕ)
          → new ≡ write_at old 0 ((s.num_snakes ∷ g ∷ s.initial_food_count ∷ bit (ltb 0 s.initial_food_count) ∷ 0 ∷ []) ++ (concat_below s.num_snakes (start_record s.num_snakes s.initial_length) ++ cells))
          → Starts s old new (Ok (b + length cells))
      starts_done new w =
          let r = concat_below s.num_snakes (start_record s.num_snakes s.initial_length) in
          record {
            answer = ap Ok count_is ∙ sym (ap (seen (λ t. length (image_of t))) given);
            words =
                w
                ∙ ap (λ (k : ℕ). write_at old 0 ((s.num_snakes ∷ k ∷ s.initial_food_count ∷ bit (ltb 0 s.initial_food_count) ∷ 0 ∷ []) ++ (r ++ cells))) side_is
                ∙ ap (λ (l : List ℕ). write_at old 0 (start_contents s ++ (r ++ l))) p.placed
                ∙ ap (write_at old 0) (sym (start_image s (accepts s p.accepted)))
                ∙ write_front old (image_of (initial_state s))
                ∙ sym (ap (lent image_of old) given);
          }

-- ---- the call: the check has found nothing, and the cells of all bodies stand at the front

module _ (s : Setting) (r : Says (Unit {0})) (old new : List ℕ) (t : Tested (setting_says s) (start_cells s) old new r) (z : r ≡ Ok tt) where
  none_found : setting_check s ≡ 0
  none_found = says_accepted s (sym t.says ∙ z)

  pub total_fits_lem : Fits w64 (s.num_snakes * s.initial_length)
  total_fits_lem = record { fits = omega (arith, total_most s none_found) }

  pub total_in : length new ≡ 1024 → s.num_snakes * s.initial_length ≤ length new
  total_in l = omega (arith, total_most s none_found)

  pub total_part : s.num_snakes * s.initial_length ≡ length (take (s.num_snakes * s.initial_length) new)
  total_part = sym (ap (λ (l : List ℕ). length l) (part_cells s none_found old new (t.words z)) ∙ total_is s none_found)

  pub startable : Startable s (take (s.num_snakes * s.initial_length) new)
  startable =
      let q = part_cells s none_found old new (t.words z) in
      record {
        accepted = none_found;
        placed = q;
        snakes = (accepts s none_found).snakes_max;
        few = omega (arith, ap (λ (l : List ℕ). length l) q, total_is s none_found, total_most s none_found);
      }
