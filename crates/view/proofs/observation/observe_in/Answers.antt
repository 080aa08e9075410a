-- `view::observe_in` meets its contract: the image is sound, which bounds each number, and each `return` is one law of `Gates`, by the tests that led there.
-- Assumes nothing.
use Rattle.view.proofs.Gates.{observe_26, observe_29, observe_done}
use Rattle.view.proofs.observation.observe_in.Goals as goal

pub returns-then-image-agent : goal.returns-then-image-agent
returns-then-image-agent c = search observe_26

pub returns-then-obs-size : goal.returns-then-obs-size
returns-then-obs-size c = search observe_29

pub returns : goal.returns
returns c = search observe_done
