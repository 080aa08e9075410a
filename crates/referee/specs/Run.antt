-- A replay as a program makes it: bytes are held until a newline comes, `take_line` takes the line that is held, `close` ends it. Assumes nothing.
use Rattle.std.specs.Prelude.{ℕ, ◌≤◌, ◌≡◌, true, false, List, [], ◌∷◌, ◌++◌, length, take}
use Rattle.parsing.specs.Fields.{up_to}
use Rattle.parsing.specs.Split.{Holds}
use Rattle.printing.specs.Text.{Wrote}
use Rattle.referee.specs.Match.{line_says, close_text, Plays}
use Rattle.referee.specs.declared.Desk.{Desk}
use Rattle.referee.specs.declared.Turned.{Turned}

-- the line s was held in a buffer, `take_line` took it with room for every image, and what it wrote is printed
pub record Took (d : Desk) (image s new printed : List ℕ) (r : Turned) : Type 0 where
  pub buffer : List ℕ
  pub fill : ℕ
  pub long : 201 ≤ length buffer
  pub held : Holds buffer fill s
  pub out : List ℕ
  pub exit : List ℕ
  pub plays : Plays (line_says d (take d.words image) (take fill buffer) 9253 1024) d.game image new out exit r
  pub prints : printed ≡ take r.text exit

-- the end of the input: `close`, and what it wrote is printed
pub record Closed (d : Desk) (printed : List ℕ) : Type 0 where
  pub out : List ℕ
  pub exit : List ℕ
  pub count : ℕ
  pub wrote : Wrote out exit 0 count (close_text d) 170
  pub prints : printed ≡ take count exit

-- the desk after a line
abbrev pub desk_after : Turned → Desk
desk_after r = record { begun = true; game = r.game; words = r.words }

-- a desk with its image, the bytes held since the last newline, the input that is still to come, and all that is printed from there on
pub data Run : Desk → List ℕ → List ℕ → List ℕ → List ℕ → Type 0 where
  -- bytes come that are no newline
  holds : {d : Desk} {image s input printed : List ℕ} (part : List ℕ) → up_to 10 part ≡ part → Run d image (s ++ part) input printed → Run d image s (part ++ input) printed
  -- a newline comes
  goes : {d : Desk} {image s input printed : List ℕ} (new said : List ℕ) (r : Turned) → Took d image s new said r → r.more ≡ true → Run (desk_after r) new [] input printed
      → Run d image s (10 ∷ input) (said ++ printed)
  stops : {d : Desk} {image s input said : List ℕ} (new : List ℕ) (r : Turned) → Took d image s new said r → r.more ≡ false → Run d image s (10 ∷ input) said
  -- nothing more comes, and nothing or something is held
  ends : {d : Desk} {image said : List ℕ} → Closed d said → Run d image [] [] said
  goes_last : {d : Desk} {image s : List ℕ} {x : ℕ} (new said end : List ℕ) (r : Turned) → Took d image (x ∷ s) new said r → r.more ≡ true → Closed (desk_after r) end → Run d image (x ∷ s) [] (said ++ end)
  stops_last : {d : Desk} {image s said : List ℕ} {x : ℕ} (new : List ℕ) (r : Turned) → Took d image (x ∷ s) new said r → r.more ≡ false → Run d image (x ∷ s) [] said
