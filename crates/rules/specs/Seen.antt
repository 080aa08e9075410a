-- What is stated of the view: what stands above what, which images an agent cannot tell apart. Assumes nothing.
use Rattle.std.specs.Prelude.{ℕ, ◌+◌, ◌/◌, ◌%◌, ◌<◌, ◌≡◌, List, Float, drop}
use Rattle.rules.specs.Image.{front, snakes_in, side_in, food_count_in, start_at, length_at, heading_at, body_at, food_at}
use Rattle.rules.specs.Says.{Says}

-- one cell directly above another on side g
pub record Above (g high low : ℕ) : Type 0 where
  pub row : high / g + 1 ≡ low / g
  pub col : high % g ≡ low % g

-- all that an agent sees of an image
pub record Alike (w v : List ℕ) (a : ℕ) : Type 0 where
  pub side : side_in w ≡ side_in v
  pub snakes : snakes_in w ≡ snakes_in v
  pub heading : heading_at w a ≡ heading_at v a
  pub bodies : (i : ℕ) → i < snakes_in w → body_at w i ≡ body_at v i
  pub food : food_at w ≡ food_at v

-- images that differ at most in the words of 'other snakes' headings, alive flags, food due or birth'
pub record DifferOnly (w v : List ℕ) (a : ℕ) : Type 0 where
  pub snakes : snakes_in w ≡ snakes_in v
  pub side : side_in w ≡ side_in v
  pub foods : food_count_in w ≡ food_count_in v
  pub starts : (i : ℕ) → i < snakes_in w → start_at w i ≡ start_at v i
  pub lengths : (i : ℕ) → i < snakes_in w → length_at w i ≡ length_at v i
  pub heading : heading_at w a ≡ heading_at v a
  pub cells : drop (front (snakes_in w)) w ≡ drop (front (snakes_in w)) v

-- two calls into equal buffers: equal answers, and equal numbers afterwards
pub record SameSeen (new new' : List Float) (r r' : Says ℕ) : Type 0 where
  pub answers : r ≡ r'
  pub numbers : new ≡ new'
