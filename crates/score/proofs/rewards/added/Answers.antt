use Rattle.score.proofs.rewards.added.Goals as goal

pub returns-then-flag : goal.returns-then-flag
returns-then-flag c = simp c.if-flag.true
