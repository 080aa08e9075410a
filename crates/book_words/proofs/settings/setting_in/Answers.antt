-- `book_words::settings::setting_in` meets its contract: each field is read where the definition has it. Assumes nothing.
use mathlib.Core.Path.{◌≡◌}
use mir.Syntax.{w32}
use mir.Val.{to_z, of_z}
use borrow.Author.Rules.{rules}
use Rattle.book_words.proofs.Told.{setting_read}
use Rattle.book_words.proofs.settings.setting_in.Goals as goal

pub returns : goal.returns
returns c =
    let e : to_z w32 (of_z w32 c.from.result) ≡ c.from.result = search rules in
    rw e (search setting_read)
