-- `make_book::table::put_contents` meets its contract: what the check accepts fits its words (`accepted_wordy`), and the array holds the longest contents.
-- Assumes nothing.
use Rattle.contents.proofs.Laying.{accepted_wordy}
use Rattle.make_book.proofs.table.put_contents.Goals as goal

pub write_front-requires-clause-wordy : goal.write_front-requires-clause-wordy
write_front-requires-clause-wordy c = accepted_wordy c.args.setting c.validate.result c.validate.ensures c.in-Ok.is
