-- How the starts are written, one after the other. Assumes nothing.
use Prim.Native.Nat.{ℕ, ◌+◌, ◌*◌, ◌-◌, ◌<◌, ◌≤◌}
use native.Mathlib.Omega.{arith}
use mathlib.Core.Path.{◌≡◌, refl, sym, ap, ◌∙◌}
use mathlib.Core.List.{List}
use lib.ListN.{length, take, drop}
use Rattle.lists.specs.Below.{concat_below}
use Rattle.lists.specs.Lists.{write_at}
use Rattle.lists.proofs.Concat.{blocks_long}
use Rattle.lists.proofs.Lists.{rest_is}
use Rattle.lists.proofs.Writes.{length_write, turn_start, turn_next}
use Rattle.contents.specs.Settings.{pair_words}
use Rattle.contents.specs.Contents.{start_of}
use Rattle.book.specs.Rows.{told_length, row_start, row_page}
use Rattle.book.specs.Writing.{Told, RowFits, StartsTo}
use Rattle.contents.specs.Written.{PairWritten}
use Rattle.book.proofs.RowLaws.{start_next, pages_long}

-- ---- the starts

module _ (p : ℕ) (row old : List ℕ) (f : RowFits p row) (room : 17 + 2 * p ≤ length old) where
  abbrev pairs : ℕ → List ℕ
  pairs j = pair_words (start_of p (row_page row) j)

  pairs_long : (i : ℕ) → length (concat_below i pairs) ≡ 2 * i
  pairs_long i = blocks_long pairs 2 i (λ j. refl)

  pub starts_open : StartsTo p row old 0 0 old
  unfolding row_start
  starts_open = record { here = omega arith; start = refl; inside = omega arith; small = omega arith; long = refl; words = turn_start old 17 pairs }

  module _ (i at : ℕ) (mid new : List ℕ) (q : StartsTo p row old i at mid) (t : ℕ) where
    pub starts_more : i < p → PairWritten (17 + 2 * i) (17 + 2 * p + at) mid new → Told (take (length row - at) (drop at row)) t → StartsTo p row old (i + 1) (at + t) new
    starts_more h w v =
        let told : t ≡ told_length (drop at row) = rw (rest_is row at) at v.length_told in
        let next : at + t ≡ row_start row (i + 1) = rw (told, q.start) (sym (start_next row i)) in
        let here : 17 + 2 * p + at ≡ start_of p (row_page row) i = omega (arith, q.start, pages_long p row f i (omega arith)) in
        let k : 17 + 2 * i ≡ 17 + length (concat_below i pairs) = omega (arith, pairs_long i) in
        record {
          here = omega arith;
          start = next;
          inside = omega (arith, next, f.starts (i + 1) (omega arith));
          small = omega (arith, next, f.small (i + 1) (omega arith));
          long = ap length w.words ∙ length_write mid (17 + 2 * i) (pair_words (17 + 2 * p + at)) (omega (arith, q.long)) ∙ q.long;
          words = w.words ∙ ap (λ (n : ℕ). write_at mid (17 + 2 * i) (pair_words n)) here ∙ turn_next old 17 pairs i (17 + 2 * i) mid k (omega arith) q.words;
        }

  pub starts_shut : (i at : ℕ) (new : List ℕ) → StartsTo p row old i at new → p ≤ i → StartsTo p row old p (length row) new
  starts_shut i at new q h =
      let e : i ≡ p = omega (arith, q.here) in
      let z : at ≡ length row = q.start ∙ ap (row_start row) e ∙ f.all in
      rw (e, z) at q
