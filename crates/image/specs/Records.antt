-- A snake's four words as a record. Assumes nothing.
use Rattle.std.specs.Prelude.{ℕ, List, eqb}
use Rattle.rules.specs.Headings.{heading_of}
use Rattle.rules.specs.Image.{start_at, length_at, heading_at, alive_at}
use Rattle.image.specs.declared.SnakeRecord.{SnakeRecord}

abbrev pub record_at : List ℕ → ℕ → SnakeRecord
record_at w i = record { start = start_at w i; len = length_at w i; heading = heading_of (heading_at w i); alive = eqb (alive_at w i) 1 }
