-- The initial state's words: the records one after the other, and contents, records and bodies as one write. Assumes nothing.
use Prim.Native.Nat.{ℕ, ◌+◌, ◌*◌, ◌<◌, ◌≤◌, zero-le}
use native.Mathlib.Nat.{mul-le-mul}
use native.Mathlib.Omega.{arith}
use mathlib.Core.Path.{◌≡◌, refl, ap, ap₂, subst, ◌∙◌}
use mathlib.Core.List.{List, [], ◌∷◌, ◌++◌, append_assoc}
use lib.Dec.{ltb}
use lib.ListN.{length, length-append}
use mir.Syntax.{w64}
use mir.Val.{Fits}
use Rattle.lists.specs.Choice.{bit}
use Rattle.lists.specs.Below.{concat_below}
use Rattle.lists.specs.Lists.{write_at}
use Rattle.lists.proofs.Concat.{blocks_long}
use Rattle.lists.proofs.Writes.{turn_start, turn_next, length_write, write_more}
use Rattle.rules.specs.Headings.{number_of}
use Rattle.rules.specs.Placement.{start_heading}
use Rattle.rules.specs.SettingParts.{start_record}
use Rattle.rules.specs.declared.Heading.{Heading}
use Rattle.setting.specs.Starts.{RecordRoom, RecordsWritten}

-- ---- the records

records_long : (n size i : ℕ) → length (concat_below i (start_record n size)) ≡ 4 * i
records_long n size i = blocks_long (start_record n size) 4 i (λ _. refl)

module _ (n size : ℕ) (old : List ℕ) where
  pub records_none : RecordsWritten n size 0 old old
  records_none = record { within = omega arith; long = refl; records = turn_start old 5 (start_record n size) }

  module _ (room : RecordRoom n size old) (i : ℕ) (l : i < n) where
    cells_most : size * i ≤ 1024 * 8
    cells_most = let h : i ≤ 8 = omega (arith, room.snakes) in mul-le-mul room.few h

    pub cells_fit_lem : Fits w64 (size * i)
    cells_fit_lem = record { fits = omega (arith, cells_most) }

    pub size_small : size < 65536
    size_small = omega (arith, room.few)

    -- a is the place of the record
    pub record_in_lem : (a : ℕ) → a ≡ 5 + 4 * i → (out : List ℕ) → RecordsWritten n size i old out → a + 4 ≤ length out
    record_in_lem a here out m = omega (arith, room.words, m.long)

    -- b is the place of the first body
    module _ (b : ℕ) (past : b ≡ 5 + 4 * n) where
      pub start_fits : Fits w64 (b + size * i)
      start_fits = record { fits = omega (arith, cells_most, room.snakes) }

      pub start_small : b + size * i < 65536
      start_small = omega (arith, cells_most, room.snakes)

      pub records_next : (a : ℕ) (h : Heading) (out new : List ℕ) → RecordsWritten n size i old out
          → new ≡ write_at out a ((b + size * i) ∷ size ∷ number_of h ∷ 1 ∷ []) → a ≡ 5 + 4 * i → h ≡ start_heading i → RecordsWritten n size (i + 1) old new
      records_next a h out new m e here way =
          let f = start_record n size in
          let w : new ≡ write_at out a (f i) = e ∙ ap₂ (λ (k : ℕ) (h : Heading). write_at out a ((k + size * i) ∷ size ∷ number_of h ∷ 1 ∷ [])) past way in
          let j : a ≡ 5 + length (concat_below i f) = omega (arith, records_long n size i) in
          record {
            within = omega arith;
            long = ap length w ∙ length_write out a (f i) (omega (arith, m.long, room.words)) ∙ m.long;
            records = w ∙ turn_next old 5 f i a out j (omega (arith, room.words)) m.records;
          }

  pub records_all : (i : ℕ) (new : List ℕ) → RecordsWritten n size i old new → n ≤ i → RecordsWritten n size n old new
  records_all i new m l = let e : i ≡ n = omega (arith, m.within) in subst (λ (k : ℕ). RecordsWritten n size k old new) e m

-- ---- contents, records and bodies, written one after the other, are one write

three_writes : (d a b r : List ℕ) (j k : ℕ) → length a ≡ j → j + length b ≡ k → write_at (write_at (write_at d 0 a) j b) k r ≡ write_at d 0 (a ++ (b ++ r))
three_writes d a b r j k e f =
    let p : j ≡ 0 + length a = omega arith in
    let q : k ≡ 0 + length (a ++ b) = omega (arith, length-append a b) in
    ap (λ (i : ℕ). write_at (write_at (write_at d 0 a) i b) k r) p
    ∙ ap (λ (l : List ℕ). write_at l k r) (write_more d 0 a b zero-le)
    ∙ ap (λ (i : ℕ). write_at (write_at d 0 (a ++ b)) i r) q
    ∙ write_more d 0 (a ++ b) r zero-le
    ∙ ap (write_at d 0) (append_assoc a b r)

-- b is the place of the first body
pub start_written : (n g food size : ℕ) (cells old contents records new : List ℕ) (b : ℕ)
    → RecordsWritten n size n contents records
    → new ≡ write_at records b cells
    → b ≡ 5 + 4 * n
    → contents ≡ write_at old 0 (n ∷ g ∷ food ∷ bit (ltb 0 food) ∷ 0 ∷ [])
    → new ≡ write_at old 0 ((n ∷ g ∷ food ∷ bit (ltb 0 food) ∷ 0 ∷ []) ++ (concat_below n (start_record n size) ++ cells))
start_written n g food size cells old contents records new b m e past c =
    e
    ∙ ap (λ (l : List ℕ). write_at l b cells) (m.records ∙ ap (λ (l : List ℕ). write_at l 5 (concat_below n (start_record n size))) c)
    ∙ three_writes old (n ∷ g ∷ food ∷ bit (ltb 0 food) ∷ 0 ∷ []) (concat_below n (start_record n size)) cells 5 b refl (omega (arith, records_long n size n))
