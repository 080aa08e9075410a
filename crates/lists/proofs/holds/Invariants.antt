-- The invariant: what was found so far, or what is still to come, is the whole answer.
use mathlib.Core.Path.{◌≡◌}
use mathlib.Core.Bool.{◌||◌}
use lib.ListN.{drop}
use Rattle.lists.specs.Lists.{member}
use Rattle.lists.proofs.holds.Given as goal

abbrev pub invariant-loop-word : goal.invariant-loop-word
invariant-loop-word l = (l.found || member l.x (drop l.word-index l.list)) ≡ member l.x l.list
