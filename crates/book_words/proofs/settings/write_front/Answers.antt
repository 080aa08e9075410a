-- `book_words::settings::write_front` meets its contract: the 17 words are those of the definition, one by one (`front_is`). Assumes nothing.
use mathlib.Core.Path.{◌≡◌, ap}
use lib.IntN.{nat_abs}
use mir.Syntax.{w32}
use mir.Val.{to_z, of_z}
use borrow.Author.Rules.{rules}
use Rattle.book_words.proofs.Laying.{front_is}
use Rattle.book_words.proofs.settings.write_front.Goals as goal

pub returns : goal.returns
returns c =
    let e : to_z w32 (of_z w32 c.args.setting.grid_size) ≡ c.args.setting.grid_size = search rules in
    front_is c.args.setting c.requires.wordy _ _ c.limit_words-lead.ensures c.limit_words-ticks.ensures _ _ _ _ _ (ap nat_abs e) c.flag.ensures c.write_at.ensures
