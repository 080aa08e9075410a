use Rattle.parsing.proofs.Cutting.{piece_short}
use lib.ListN.{drop, length-drop}
use native.Mathlib.Omega.{arith}
use Rattle.parsing.proofs.split.line_end.Goals as goal

pub returns : goal.returns
returns c =
    let a = c.args in
    let e = c.piece_end.ensures in
    (e, omega (arith, e), omega (arith, e, piece_short 10 (drop a.from a.part.now), length-drop a.from a.part.now))
