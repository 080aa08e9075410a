use native.Mathlib.Omega.{arith}
use Rattle.printing.specs.Text.{deeds_text}
use Rattle.printing.proofs.Writing.{both}
use Rattle.printing.proofs.letters.put_deeds.Goals as goal

pub returns : goal.returns
unfolding deeds_text
returns c =
    let p = rw (c.letter_of.ensures, c.is_death.ensures, c.get-cause.ensures) at c.put_if-j.ensures in
    both (both c.put_if-i.ensures p (omega arith)) c.put_if.ensures (omega arith)
