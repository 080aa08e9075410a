-- What an agent sees (01, 'Observation'). Assumes nothing.
use Rattle.std.specs.Prelude.{ℕ, ◌+◌, ◌*◌, ◌-◌, ◌/◌, ◌%◌, Bool, List, [], ◌∷◌, map, eqb, get_or, take, drop, Float}
use Rattle.std.specs.Float.Ieee.{of_bits}
use Rattle.std.specs.Float.{binary32}
use Rattle.lists.specs.Choice.{◌if◌else◌}
use Rattle.lists.specs.Below.{each_below, concat_below}
use Rattle.lists.specs.Lists.{member}
use Rattle.rules.specs.State.{State, count, snake_of}
use Rattle.rules.specs.Image.{body_of}
use Rattle.rules.specs.declared.Heading.{Heading}
use Rattle.rules.specs.declared.Heading.TheVariants.{Up, Right, Down, Left}

-- 'Turn by heading: Up (r,c); Right (g-1-c, r); Down (g-1-r, g-1-c); Left (c, g-1-r)'
abbrev pub shows : ℕ → Heading → ℕ → ℕ → ℕ × ℕ
shows g Up r c = (r, c)
shows g Right r c = (g - 1 - c, r)
shows g Down r c = (g - 1 - r, g - 1 - c)
shows g Left r c = (c, g - 1 - r)

-- the cell at which a cell shows
abbrev pub turned_cell : ℕ → Heading → ℕ → ℕ
turned_cell g h c = (shows g h (c / g) (c % g)).0 * g + (shows g h (c / g) (c % g)).1

-- '0.0 or 1.0'
abbrev pub lit : Bool → Float
lit b = of_bits binary32 (0x3f80_0000 if b else 0)

-- a plane of m cells, 1.0 at the cells of the list
unfoldable pub plane : ℕ → List ℕ → List Float
plane m cells = each_below m (λ k. lit (member k cells))

-- 'own first cell, own rest, others' first cells, others' rest, food', of n bodies
abbrev pub channels : ℕ → (ℕ → List ℕ) → List ℕ → ℕ → List (List ℕ)
channels n body food a =
    take 1 (body a)
    ∷ drop 1 (body a)
    ∷ concat_below n (λ i. [] if eqb i a else take 1 (body i))
    ∷ concat_below n (λ i. [] if eqb i a else drop 1 (body i))
    ∷ food
    ∷ []

-- 'Five planes of g² f32': all that agent a sees is the side, its own heading, the bodies and the food
unfoldable pub view_of : ℕ → Heading → ℕ → (ℕ → List ℕ) → List ℕ → ℕ → List Float
view_of g h n body food a = concat_below 5 (λ ch. plane (g * g) (map (turned_cell g h) (get_or (channels n body food a) ch [])))

unfoldable pub view : State → ℕ → List Float
view s a = view_of s.side (snake_of s a).heading (count s) (body_of s) s.food a
