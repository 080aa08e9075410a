-- What the buffers of a replay hold, so that each part of them that is lent is there, and every image and every list of cells fits. Assumes nothing.
use Rattle.std.specs.Prelude.{ℕ, ◌≤◌, ◌≡◌, List, length}
use Rattle.stream.specs.declared.Progress.{Progress}

-- the image and the bytes that are held stand in their buffers
pub record Ready (r : Progress) (line image : List ℕ) : Type 0 where
  pub held : r.fill ≤ length line
  pub wide : 201 ≤ length line
  pub words : r.desk.words ≤ length image
  pub room : 9253 ≤ length image

-- the buffers that serve one line: the next image, the cells drawn, the text
pub record Spare (next list out : List ℕ) : Type 0 where
  pub room : length next ≡ 9253
  pub cells : length list ≡ 1024
  pub text : 462 ≤ length out
