use Rattle.judge.proofs.Moving.{moves_none, moves_next}
use Rattle.judge.proofs.moves.move_all.Goals as goal

pub loop-i-init : goal.loop-i-init
loop-i-init c = moves_none c.args.image.now c.args.actions.now c.requires.sound c.requires.actions_len

pub loop-i-preserved : goal.loop-i-preserved
loop-i-preserved c = search moves_next
