-- `contents::tests::check_contents` meets its contract: fewer than 17 words, a layout that is off, or starts that are, and else none of them. Assumes nothing.
use Rattle.contents.proofs.Fitting.{contents_cut, contents_off, contents_late, contents_on}
use Rattle.contents.proofs.tests.check_contents.Goals as goal
use Rattle.contents.proofs.tests.check_contents.Goals.{then-contents-lt17-via-then-contents-lt17, then-contents-lt17-via-else-contents-lt17+then-not-layout_fits, then-contents-lt17-via-else-contents-lt17+else-not-layout_fits+then-not-starts_fit}

pub returns-then-contents-lt17 : goal.returns-then-contents-lt17
returns-then-contents-lt17 c = elim c.then-contents-lt17.branch [
  | then-contents-lt17-via-then-contents-lt17 w ↦ contents_cut _ _ w.if-contents-lt17.true
  | then-contents-lt17-via-else-contents-lt17+then-not-layout_fits w ↦ contents_off _ _ w.if-contents-lt17.false _ w.layout_fits.ensures w.if-not-layout_fits.true
  | then-contents-lt17-via-else-contents-lt17+else-not-layout_fits+then-not-starts_fit w ↦ contents_late _ _ w.if-contents-lt17.false _ _ w.layout_fits.ensures w.starts_fit.ensures w.if-not-starts_fit.true
]

pub returns : goal.returns
returns c = contents_on _ _ c.if-contents-lt17.false _ _ c.layout_fits.ensures c.if-not-layout_fits.false c.starts_fit.ensures c.if-not-starts_fit.false
