use Rattle.score.proofs.rewards.of_dead.Goals as goal

pub returns : goal.returns
returns c = rw (c.added.ensures, c.added-x.ensures)
