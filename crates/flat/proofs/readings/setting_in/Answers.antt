-- `flat::setting_in` meets its contract: field by field (`Read`). Assumes nothing.
use borrow.Author.Rules.{rules}
use Rattle.flat.proofs.Read.{setting_read}
use Rattle.flat.proofs.readings.setting_in.Goals as goal

pub returns : goal.returns
returns c = search (rules, setting_read)
