-- `bindings::lundaspro_flat_legal_actions` meets its contract: each case of the answer (`Saying`). Assumes nothing.
use borrow.Author.Rules.{rules}
use Rattle.bindings.proofs.Saying.{any_told, none_told, legal_refused}
use Rattle.bindings.proofs.views.lundaspro_flat_legal_actions.Goals as goal

pub returns-in-Ok-AnyAction : goal.returns-in-Ok-AnyAction
returns-in-Ok-AnyAction c = search (rules, any_told)

pub returns-in-Ok-NoAction : goal.returns-in-Ok-NoAction
returns-in-Ok-NoAction c = search (rules, none_told)

pub returns-in-Err : goal.returns-in-Err
returns-in-Err c = search legal_refused
