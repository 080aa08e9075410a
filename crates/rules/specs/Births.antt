-- A chain of draws, one after the other, and how many it has. Assumes nothing.
use Rattle.std.specs.Prelude.{ℕ, zero, suc, ◌<◌, ◌≡◌, eqb}
use Rattle.lists.specs.Below.{lowest_from}
use Rattle.rules.specs.State.{State}
use Rattle.rules.specs.Chance.{outcomes, after_draw}

-- the state after k draws; `index j` is the index of draw j
unfoldable pub after_draws : (ℕ → ℕ) → ℕ → State → State
after_draws index zero t = t
after_draws index (suc k) t = after_draws (λ j. index (suc j)) k (after_draw t (index 0))

-- the draws of a chain: the fewest after which no food is due. A draw takes at least one apple from what is due, so at most that many
unfoldable pub chain_draws : (ℕ → ℕ) → State → ℕ
chain_draws index t = lowest_from (λ k. eqb (after_draws index k t).due 0) 0 (suc t.due)

-- k draws leave no food due, and fewer do not
pub record Ends (index : ℕ → ℕ) (t : State) (k : ℕ) : Type 0 where
  pub last : (after_draws index k t).due ≡ 0
  pub before : (j : ℕ) → j < k → 0 < (after_draws index j t).due

-- each index is below the count of the state that it is drawn in
abbrev pub InRange : (ℕ → ℕ) → State → Type 0
InRange index t = (j : ℕ) → 0 < (after_draws index j t).due → index j < outcomes (after_draws index j t)
