-- One promise, one answer: two answers that meet it are equal. Assumes nothing.
use Rattle.std.proofs.Common.{◌≡◌, ℕ, sym, ◌∙◌}
use lib.Ieee.{Float}
use Rattle.unit.specs.Promises.{Chooses}
use Rattle.rules.specs.Says.{Says}

pub one_outcome : (c : ℕ) (u : Float) (r q : Says ℕ) → Chooses c u r → Chooses c u q → r ≡ q
one_outcome c u r q p o = (p.answer ∙ sym o.answer)
