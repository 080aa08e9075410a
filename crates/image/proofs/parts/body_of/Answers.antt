-- `image::body_of` meets its contract: a sound image holds the body whole, and the part from its start word on is the body, at that word's place (`Read`).
-- Assumes nothing.
use Rattle.lists.proofs.Fits.{word_fits}
use Rattle.image.proofs.Read.{body_fits, start_fits, body_ends, body_read, body_place}
use Rattle.image.proofs.parts.body_of.Goals as goal

pub overflow_cast-start : goal.overflow_cast-start
overflow_cast-start c = search word_fits

pub overflow_cast-len : goal.overflow_cast-len
overflow_cast-len c = search word_fits

pub overflow_add-result : goal.overflow_add-result
overflow_add-result c = search body_fits

pub offset_bounds-image-start : goal.offset_bounds-image-start
offset_bounds-image-start c = search start_fits

pub slice_bounds-result-end : goal.slice_bounds-result-end
slice_bounds-result-end c = search body_ends

pub returns : goal.returns
returns c = search (body_read, body_place)
