-- What the functions that write them ensure and require, handed on. Assumes nothing.
pub use Rattle.book_words.specs.Written.{Wordy, Fronted, PairWritten}
