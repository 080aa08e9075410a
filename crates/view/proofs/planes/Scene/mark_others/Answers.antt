-- `view::Scene::mark_others` meets its contract: each turn's way is one law of `Marks`. Assumes nothing.
use Rattle.view.proofs.Marks.{others_none, others_same, others_next}
use Rattle.view.proofs.planes.Scene.mark_others.Goals as goal
use Rattle.view.proofs.planes.Scene.mark_others.Goals.{then-i-agent, else-i-agent}

pub loop-i-init : goal.loop-i-init
loop-i-init c = search others_none

pub loop-i-preserved : goal.loop-i-preserved
loop-i-preserved c =
    elim c.if-i-agent.branch [ then-i-agent w ↦ rw w.obs-is (search (others_next, w.if-i-agent.true)) | else-i-agent w ↦ rw w.obs-is (search others_same) ]
