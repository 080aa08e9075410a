-- What the stream does with the bytes that are lent to it, and a replay as a program makes it of its calls. Assumes nothing.
use Rattle.std.specs.Prelude.{ℕ, ◌<◌, ◌≡◌, true, false, List, [], ◌∷◌, ◌++◌, take, drop}
use Rattle.parsing.specs.Fields.{up_to}
use Rattle.parsing.specs.Split.{Holds}
use Rattle.referee.specs.Run.{Took, Closed, desk_after}
use Rattle.referee.specs.declared.Turned.{Turned}
use Rattle.stream.specs.declared.Progress.{Progress}

-- before anything came
pub record Fresh (q : Progress) : Type 0 where
  pub begun : q.desk.begun ≡ false
  pub words : q.desk.words ≡ 0
  pub fill : q.fill ≡ 0
  pub on : q.on ≡ true

-- ---- one step: r becomes q, `old` and `new` are the image before and after, the text to print stands at the front of `out`

-- the line is taken that is made of the bytes held, whatever they are, and of `piece`
pub record Takes (r q : Progress) (line piece old new out : List ℕ) : Type 0 where
  pub turned : Turned
  pub took : (s : List ℕ) → Holds line r.fill s → Took r.desk old (s ++ piece) new (take q.text out) turned
  pub desk : q.desk ≡ desk_after turned
  pub fill : q.fill ≡ 0
  pub on : q.on ≡ turned.more

-- what is left of the part has no newline: it goes behind the bytes held
pub record Waits (r q : Progress) (part before after old new : List ℕ) : Type 0 where
  pub whole : up_to 10 (drop r.at part) ≡ drop r.at part
  pub past : drop q.at part ≡ []
  pub held : (s : List ℕ) → Holds before r.fill s → Holds after q.fill (s ++ drop r.at part)
  pub desk : q.desk ≡ r.desk
  pub image : new ≡ old
  pub text : q.text ≡ 0
  pub on : q.on ≡ r.on

-- what came, up to the end of a line; `before` and `after` are the line's buffer
pub data Step (r q : Progress) (part before after old new out : List ℕ) : Type 0 where
  waits : Waits r q part before after old new → Step r q part before after old new out
  takes : drop r.at part ≡ up_to 10 (drop r.at part) ++ (10 ∷ drop q.at part) → Takes r q before (up_to 10 (drop r.at part)) old new out → Step r q part before after old new out

-- ---- a part, step by step; `said` is what the steps give to print

pub data Steps (part : List ℕ) (r : Progress) (line image : List ℕ) : Progress → List ℕ → List ℕ → List ℕ → Type 0 where
  none : Steps part r line image r line image []
  more : {q p : Progress} {before after old new said : List ℕ} (out : List ℕ) → Steps part r line image q before old said → q.on ≡ true → Step q p part before after old new out
      → Steps part r line image p after new (said ++ take p.text out)

-- a stream at the front of the next part
abbrev pub front : Progress → Progress
front r = record { desk = r.desk; fill = r.fill; at = 0; text = 0; on = r.on; heard = r.heard }

-- all of it, unless the replay stops
pub record TakesAll (r q : Progress) (part before after old new : List ℕ) : Type 0 where
  pub said : List ℕ
  pub steps : Steps part (front r) before old q after new said
  pub past : q.on ≡ true → drop q.at part ≡ []

-- ---- the end of the input

-- a last line that no newline ended
pub data Last (r q : Progress) (line old new out : List ℕ) : Type 0 where
  stopped : r.on ≡ false → q.on ≡ false → new ≡ old → q.text ≡ 0 → Last r q line old new out
  nothing : r.fill ≡ 0 → q.desk ≡ r.desk → q.on ≡ r.on → new ≡ old → q.text ≡ 0 → Last r q line old new out
  last : r.on ≡ true → 0 < r.fill → Takes r q line [] old new out → Last r q line old new out

-- the placings, where the replay was not stopped; n is how many bytes of `out` are to be printed
pub record Ends (r : Progress) (n : ℕ) (out : List ℕ) : Type 0 where
  pub closed : r.on ≡ true → Closed r.desk (take n out)
  pub stopped : r.on ≡ false → n ≡ 0

-- both; the last line's text stands at the front of `lent`, the placings at the front of `out`
pub record Finishes (r : Progress) (n : ℕ) (line old new : List ℕ) : Type 0 where
  pub after : Progress
  pub lent : List ℕ
  pub out : List ℕ
  pub last : Last r after line old new lent
  pub ends : Ends after n out

-- ---- a replay: parts of the input in a row, then its end; all that is to be printed from there on

pub data Replay : Progress → List ℕ → List ℕ → List ℕ → List ℕ → Type 0 where
  reads : {r q : Progress} {before after old new input printed : List ℕ} (part : List ℕ) (all : TakesAll r q part before after old new) → Replay q after new input printed
      → Replay r before old (part ++ input) (all.said ++ printed)
  -- nothing more comes, or it is not read
  finishes : {r : Progress} {n : ℕ} {line old new input : List ℕ} → (r.on ≡ true → input ≡ []) → (f : Finishes r n line old new)
      → Replay r line old input (take f.after.text f.lent ++ take n f.out)
