-- A setting's words and a number's, handed on. Assumes nothing.
pub use Rattle.book_words.specs.Settings.{pair_words, four_words, pair_at, four_at, amount, limit_words, limit_of, limit_at, limit_off, setting_words}
unfoldable pub use Rattle.book_words.specs.Settings.{setting_in}
