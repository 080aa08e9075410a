-- `bindings::lundaspro_flat_actor` meets its contract: each case of the answer (`Saying`). Assumes nothing.
use borrow.Author.Rules.{rules}
use Rattle.bindings.proofs.Saying.{chance_told, all_told, actor_refused}
use Rattle.bindings.proofs.views.lundaspro_flat_actor.Goals as goal

pub returns-in-Ok-Chance : goal.returns-in-Ok-Chance
returns-in-Ok-Chance c = search (rules, chance_told)

pub returns-in-Ok-Simultaneous : goal.returns-in-Ok-Simultaneous
returns-in-Ok-Simultaneous c = search (rules, all_told)

pub returns-in-Err : goal.returns-in-Err
returns-in-Err c = search actor_refused
