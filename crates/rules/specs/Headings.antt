-- Headings and actions (01, 'The state image' and 'Modules' 1). Assumes nothing.
use Rattle.std.specs.Prelude.{ℕ, zero, suc}
use Rattle.rules.specs.declared.Heading.{Heading}
use Rattle.rules.specs.declared.Heading.TheVariants.{Up, Right, Down, Left}
use Rattle.rules.specs.declared.RelativeAction.{RelativeAction}
use Rattle.rules.specs.declared.RelativeAction.TheVariants.{Forward, TurnLeft, TurnRight}

-- 'heading (0 Up, 1 Right, 2 Down, 3 Left)'
abbrev pub number_of : Heading → ℕ
number_of Up = 0
number_of Right = 1
number_of Down = 2
number_of Left = 3

abbrev pub heading_of : ℕ → Heading
heading_of zero = Up
heading_of (suc zero) = Right
heading_of (suc (suc zero)) = Down
heading_of (suc (suc (suc n))) = Left

-- 'Actions 0 forward, 1 left, 2 right'; no other number reaches a rule
abbrev pub action_of : ℕ → RelativeAction
action_of zero = Forward
action_of (suc zero) = TurnLeft
action_of (suc (suc n)) = TurnRight

abbrev pub clockwise : Heading → Heading
clockwise Up = Right
clockwise Right = Down
clockwise Down = Left
clockwise Left = Up

abbrev pub counterclockwise : Heading → Heading
counterclockwise Up = Left
counterclockwise Left = Down
counterclockwise Down = Right
counterclockwise Right = Up

-- `relative_to_absolute`
abbrev pub turned : Heading → RelativeAction → Heading
turned h Forward = h
turned h TurnLeft = counterclockwise h
turned h TurnRight = clockwise h
