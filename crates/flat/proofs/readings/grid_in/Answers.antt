-- `flat::grid_in` meets its contract: the three ranges of a number (`Read`). Assumes nothing.
use Rattle.flat.proofs.Read.{small_grid, no_grid, low_grid_fits, low_grid}
use Rattle.flat.proofs.readings.grid_in.Goals as goal

pub returns-then-number-lt2147483648 : goal.returns-then-number-lt2147483648
returns-then-number-lt2147483648 c = search small_grid

pub returns-then-number-lt18446744071562067968 : goal.returns-then-number-lt18446744071562067968
returns-then-number-lt18446744071562067968 c = search no_grid

pub overflow_sub-result : goal.overflow_sub-result
overflow_sub-result c = search low_grid_fits

pub returns : goal.returns
returns c = search low_grid
