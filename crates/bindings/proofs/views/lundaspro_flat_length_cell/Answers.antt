-- `bindings::lundaspro_flat_length_cell` meets its contract: each case of the answer (`Saying`). Assumes nothing.
use borrow.Author.Rules.{rules}
use Rattle.bindings.proofs.Saying.{key_told, no_key_told, key_refused}
use Rattle.bindings.proofs.views.lundaspro_flat_length_cell.Goals as goal

pub returns-in-Ok-Some : goal.returns-in-Ok-Some
returns-in-Ok-Some c = search (rules, key_told)

pub returns-in-Ok-None : goal.returns-in-Ok-None
returns-in-Ok-None c = search (rules, no_key_told)

pub returns-in-Err : goal.returns-in-Err
returns-in-Err c = search key_refused
