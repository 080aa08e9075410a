-- A board of 1,024 squares on which passes leave stamps: a cell stands twice in a list if it has the pass's stamp already. Assumes nothing.
use Rattle.std.specs.Prelude.{ℕ, ◌+◌, ◌<◌, Bool, List, ◌≡◌, length, get_or}
use Rattle.lists.specs.Lists.{distinct}

-- every number of the list is below n: past its end stands 0, so that no length is named
abbrev pub Under : ℕ → List ℕ → Type 0
Under n l = (k : ℕ) → get_or l k 0 < n

-- a board on which the stamp is new: every mark is below it
pub record Board (stamp : ℕ) (board : List ℕ) : Type 0 where
  pub size : length board ≡ 1024
  pub new : Under stamp board

-- the answer of a pass, and a board on which the next stamp is new
pub record Stamped (l : List ℕ) (stamp : ℕ) (r : Bool) (board : List ℕ) : Type 0 where
  pub says : r ≡ distinct l
  pub next : Board (stamp + 1) board
