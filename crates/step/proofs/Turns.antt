-- The turns of the loops that write the records and the bodies of the next image. Assumes nothing.
use mathlib.Core.Path.{◌≡◌, refl, sym, ap, ◌∙◌}
use mathlib.Core.List.{List, [], ◌∷◌}
use Prim.Native.Nat.{ℕ, ◌+◌, ◌*◌, ◌<◌, ◌≤◌}
use native.Mathlib.Omega.{arith}
use lib.ListN.{length, get_or}
use Rattle.lists.specs.Choice.{bit}
use Rattle.lists.specs.Below.{concat_below}
use Rattle.lists.specs.Lists.{write_at}
use Rattle.lists.specs.Written.{Written}
use Rattle.lists.proofs.Below.{sum_none, sum_next}
use Rattle.lists.proofs.Runs.{written_long, run_start, run_next, run_room}
use Rattle.lists.proofs.Writes.{length_write, turn_start, turn_next}
use Rattle.cells.specs.Writers.{body_with}
use Rattle.rules.specs.Headings.{number_of}
use Rattle.rules.specs.Image.{front}
use Rattle.consequences.specs.declared.after.After.{After}
use Rattle.consequences.specs.After.{gone, size_of, sizes, InImage, Short}
use Rattle.consequences.proofs.Laws.{size_le}
use Rattle.step.specs.Next.{record_in, body_in, RecordsTo, BodiesTo}
use Rattle.step.proofs.Words.{records_long}

-- ---- records

pub records_none : (d : List ℕ) (all : List After) (n : ℕ) → n ≤ 8 → front n ≤ length d → (start : ℕ) → start ≡ 5 + 4 * n → RecordsTo d all n 0 d start
records_none d all n few room start e = record {
  few = few;
  along = omega arith;
  room = room;
  long = refl;
  next = omega (arith, sum_none (sizes all));
  small = omega arith;
  words = turn_start d 5 (record_in n all);
}

-- a is snake i, s its size, k the place of its record
module _ (d : List ℕ) (all : List After) (short : Short all) (n i : ℕ) (out : List ℕ) (start : ℕ) (q : RecordsTo d all n i out start) (s : ℕ) (a : After) (pz : s ≡ size_of a) (pa : a ≡ get_or all i gone) where
  ps : s ≡ size_of (get_or all i gone)
  ps = pz ∙ ap size_of pa

  module _ (l : i < n) (k : ℕ) (pk : k ≡ 5 + 4 * i) where
    pub records_next : (new : List ℕ) → new ≡ write_at out k (start ∷ s ∷ number_of a.heading ∷ bit a.lives ∷ []) → RecordsTo d all n (i + 1) new (start + s)
    records_next new e =
        let f = record_in n all in
        let p : k ≡ 5 + length (concat_below i f) = omega (arith, records_long n i all) in
        let w : new ≡ write_at out k (f i) = e ∙ (λ t. write_at out k (q.next t ∷ ps t ∷ number_of (pa t).heading ∷ bit (pa t).lives ∷ [])) in
        record {
          few = q.few;
          along = omega arith;
          room = q.room;
          long = ap length w ∙ length_write out k (f i) (omega (arith, q.long, q.room)) ∙ q.long;
          next = omega (arith, ps, sum_next (sizes all) i, q.next);
          small = omega (arith, ps, size_le all short i, q.small);
          words = w ∙ turn_next d 5 f i k out p (omega (arith, q.room)) q.words;
        }

-- ---- bodies

module _ (d : List ℕ) (from : ℕ) (w : List ℕ) (all : List After) (n : ℕ) where
  pub bodies_none : InImage w all n → from + length (concat_below n (body_in w all)) ≤ length d → BodiesTo d from w all n 0 d from
  bodies_none parts room = record { parts = parts; along = omega arith; room = room; long = refl; run = run_start d from (body_in w all) }

  module _ (i : ℕ) (out : List ℕ) (at : ℕ) (q : BodiesTo d from w all n i out at) where
    -- a is snake i, k the place of its start
    module _ (l : i < n) (k : ℕ) (e : k ≡ 5 + 4 * i) (a : After) (pa : a ≡ get_or all i gone) where
      body_at : body_in w all i ≡ body_with w (get_or w k 0) a.keep a.cell a.lives
      body_at = sym (λ t. body_with w (get_or w (e t) 0) (pa t).keep (pa t).cell (pa t).lives)

      room_next : at + length (body_in w all i) ≤ length out
      room_next = omega (arith, run_room d from (body_in w all) i n at out q.run l, q.room, q.long)

      pub body_fits : at + length (body_with w (get_or w k 0) a.keep a.cell a.lives) ≤ length out
      body_fits = rw (← body_at) room_next

      pub part_there : get_or w k 0 + a.keep ≤ length w
      part_there = rw (e, pa) (q.parts.parts i l).fits

      pub bodies_next : (new : List ℕ) (r : ℕ) → Written out at (body_with w (get_or w k 0) a.keep a.cell a.lives) new r → BodiesTo d from w all n (i + 1) new r
      bodies_next new r z =
          let y : Written out at (body_in w all i) new r = rw (← body_at) at z in
          record {
            parts = q.parts;
            along = omega arith;
            room = q.room;
            long = written_long out at (body_in w all i) new r y room_next ∙ q.long;
            run = run_next d from (body_in w all) i at out new r (omega (arith, q.room)) q.run y;
          }
