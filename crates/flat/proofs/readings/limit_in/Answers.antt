-- `flat::limit_in` meets its contract: a number counts where its flag is set (`Read`). Assumes nothing.
use Rattle.flat.proofs.Read.{is_unset, is_set}
use Rattle.flat.proofs.readings.limit_in.Goals as goal

pub returns-then-set-eq0 : goal.returns-then-set-eq0
returns-then-set-eq0 c = search is_unset

pub returns-else-set-eq0 : goal.returns-else-set-eq0
returns-else-set-eq0 c = search is_set
