-- `bindings::lundaspro_flat_observation_space` meets its contract: what it says is what the arena's answer says (`Saying`). Assumes nothing.
use borrow.Author.Rules.{rules}
use Rattle.bindings.proofs.Saying.{seen_space}
use Rattle.bindings.proofs.views.lundaspro_flat_observation_space.Goals as goal

pub returns : goal.returns
returns c = search (rules, seen_space)
