-- `view::Scene::mark_others` meets its contract. The invariant: the first i snakes but the agent are marked (`OthersMarked`); each turn's way is one law of `Marks`.
-- Assumes nothing.
use Rattle.view.specs.Marks.{OthersMarked}
use Rattle.view.proofs.planes.Scene.mark_others.Given as goal

abbrev pub invariant-loop-i : goal.invariant-loop-i
invariant-loop-i l = OthersMarked l.self.image.now l.self.side l.self.heading l.agent l.n l.i l.initial.obs l.obs
