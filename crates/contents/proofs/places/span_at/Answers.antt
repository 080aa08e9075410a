-- `contents::places::span_at` meets its contract: the start is the page's, and the end is above it. Assumes nothing.
use Rattle.contents.proofs.Finding.{find_part}
use Rattle.contents.proofs.places.span_at.Goals as goal

pub returns : goal.returns
returns c = search find_part
