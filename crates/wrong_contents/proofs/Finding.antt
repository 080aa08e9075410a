-- Which word each search finds: a law for each return and each turn of a loop. Assumes nothing.
use Rattle.std.specs.Prelude.{Some, None}
use Prim.Native.Nat.{ℕ, ◌+◌, ◌*◌, ◌<◌, ◌≤◌}
use native.Mathlib.Omega.{arith}
use mathlib.Core.Path.{◌≡◌, sym, ap, ◌∙◌}
use mathlib.Core.Bool.{Bool, true, false, not}
use mathlib.Core.List.{List}
use lib.ListN.{get_or}
use borrow.Author.Tests.{eq-eqb, ne_eqb, not-true, not-false}
use Rattle.lists.proofs.Lowest.{out_here, out_none}
use Rattle.rules.specs.Image.{snakes_in, record_fits}
use Rattle.rules.specs.Faults.{first_out, start_word}
use Rattle.wellformed.specs.Checked.{FirstOut}
use Rattle.wellformed.proofs.Checked.{start_fits}
use Rattle.wellformed.proofs.Loops.{RecordsTo, records_next, records_all, AddsTo, adds_next}

module _ (w : List ℕ) where
  -- ---- `first_record`: the records so far fit

  module _ (n i : ℕ) (v : RecordsTo w n true i) (h : i < n) (b : Bool) (e : b ≡ record_fits w i) where
    pub record_here : not b ≡ true → FirstOut n (record_fits w) (Some i)
    record_here t = (h, sym e ∙ not-true b t, sym v.so_far)

    pub record_on : not b ≡ false → RecordsTo w n true (i + 1)
    record_on t = rw (not-false b t) at (records_next w n true i v h b e)

  pub record_none : (n i : ℕ) → RecordsTo w n true i → n ≤ i → FirstOut n (record_fits w) None
  record_none n i v l = sym (records_all w n true i v l)

  -- ---- `first_start`: the starts so far fit, and the next is due at `due`

  module _ (due i : ℕ) (v : AddsTo w due true i) where
    module _ (h : i < snakes_in w) (k : ℕ) (e : k ≡ 5 + 4 * i) where
      pub start_here : (get_or w k 0 ≡ due → ⊥) → (r : ℕ) → r ≡ 5 + 4 * i → r ≡ start_word w
      unfolding start_word
      start_here n r q =
          let first : i ≡ first_out (snakes_in w) (start_fits w) = out_here _ (snakes_in w) i h (sym v.so_far) (ne_eqb _ _ (λ z. n (ap (λ (j : ℕ). get_or w j 0) e ∙ z ∙ sym v.due_is))) in
          q ∙ ap (λ (j : ℕ). 5 + 4 * j) first

      pub start_on : get_or w k 0 ≡ due → (m : ℕ) → m ≡ 6 + 4 * i → AddsTo w (due + get_or w m 0) true (i + 1)
      start_on z m q = rw (eq-eqb (get_or w k 0) due z) at (adds_next w due true i v h m q k e)

    pub start_none : snakes_in w ≤ i → (r : ℕ) → r ≡ 5 + 4 * snakes_in w → r ≡ start_word w
    unfolding start_word
    start_none l r q =
        let e : snakes_in w ≡ i = omega (arith, v.within) in
        q ∙ ap (λ (j : ℕ). 5 + 4 * j) (e ∙ out_none (start_fits w) (snakes_in w) i v.within l (sym v.so_far))
