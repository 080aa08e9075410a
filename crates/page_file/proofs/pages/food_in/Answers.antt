-- `page_file::pages::food_in` meets its contract: an image that passes the check is sound (`passed`). Assumes nothing.
use Rattle.rules.proofs.Facts.{passed}
use Rattle.page_file.proofs.pages.food_in.Goals as goal

pub food_of-requires : goal.food_of-requires
food_of-requires c = search passed
