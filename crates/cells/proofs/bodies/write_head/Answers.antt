use native.Mathlib.Omega.{arith}
use Rattle.cells.proofs.Heads.{head_written, head_left}
use Rattle.cells.proofs.bodies.write_head.Goals as goal

pub bounds-out-at : goal.bounds-out-at
bounds-out-at c = let a = c.args in let e = (head_written a.out.now a.at a.head a.lives c.requires c.if-lives.true).end in omega arith

pub returns-then-lives : goal.returns-then-lives
returns-then-lives c = let a = c.args in head_written a.out.now a.at a.head a.lives c.requires c.if-lives.true

pub returns : goal.returns
returns c = let a = c.args in head_left a.out.now a.at a.head a.lives c.if-lives.false
