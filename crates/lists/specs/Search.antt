-- The first place of a number in a list. Assumes nothing.
use Rattle.std.specs.Prelude.{ℕ, List, Option, Some, None}
use Rattle.lists.specs.Choice.{◌if◌else◌}
use Rattle.lists.specs.Lists.{member, place}

unfoldable pub found_in : List ℕ → ℕ → Option ℕ
found_in l x = Some (place x l) if member x l else None
