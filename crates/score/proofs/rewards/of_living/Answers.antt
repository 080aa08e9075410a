use Rattle.score.proofs.rewards.of_living.Goals as goal

pub returns : goal.returns
returns c = rw (c.added.ensures, c.added-x-4.ensures, c.added-x-3.ensures, c.added-x-2.ensures, c.added-x.ensures)
