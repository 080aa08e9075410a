-- A state of the arena: what an image stands for. Snakes are asked for by number. Assumes nothing.
use Rattle.std.specs.Prelude.{ℕ, ◌*◌, Bool, false, List, [], length, get_or}
use Rattle.rules.specs.declared.Heading.{Heading}
use Rattle.rules.specs.declared.Heading.TheVariants.{Up}

pub record Snake : Type 0 where
  pub heading : Heading
  pub alive : Bool
  pub body : List ℕ

pub record State : Type 0 where
  pub side : ℕ
  pub due : ℕ
  pub birth : Bool
  pub snakes : List Snake
  pub food : List ℕ

-- what stands past the last snake
abbrev pub nobody : Snake
nobody = record { heading = Up; alive = false; body = [] }

abbrev pub count : State → ℕ
count s = length s.snakes

abbrev pub snake_of : State → ℕ → Snake
snake_of s i = get_or s.snakes i nobody

abbrev pub area : State → ℕ
area s = s.side * s.side
