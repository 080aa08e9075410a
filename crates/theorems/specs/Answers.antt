-- What it says that a call refuses by its table, and that a step or a draw answers its definition. Assumes nothing.
use Rattle.std.specs.Prelude.{ℕ, ◌≡◌, List, length, take, Ok}
use Rattle.rules.specs.Tables.{Table, FirstRow}
use Rattle.rules.specs.Events.{eight}
use Rattle.rules.specs.State.{State}
use Rattle.rules.specs.Image.{image_of}
use Rattle.rules.specs.Step.{Transition}
use Rattle.rules.specs.Chance.{drawn, after_draw}
use Rattle.rules.specs.declared.refusal.Refusal.{Refusal}
use Rattle.rules.specs.declared.Stepped.{Stepped}
use Rattle.rules.specs.declared.Drawn.{Drawn}
use Rattle.rules.specs.Says.{Says}

-- refused by k if and only if k is the refusal of the table's first row that holds
pub record RefusedBy {R : Type 0} (refusal : Refusal → R) (t : Table) (r : R) : Type 0 where
  pub number : (k : Refusal) → r ≡ refusal k → FirstRow t k
  pub refused : (k : Refusal) → FirstRow t k → r ≡ refusal k

-- a step: the next image, the events, and whether it is terminal
pub record StepIs (o : Transition) (new : List ℕ) (r : Says Stepped) : Type 0 where
  pub answer : r ≡ Ok (record { words = length (image_of o.next); terminal = o.terminal; events = eight o.events })
  pub image : take (length (image_of o.next)) new ≡ image_of o.next

-- a draw: the next image, and the ordered list of the cells drawn
pub record DrawIs (t : State) (i : ℕ) (new cells : List ℕ) (r : Says Drawn) : Type 0 where
  pub answer : r ≡ Ok (record { words = length (image_of (after_draw t i)); cells = length (drawn t i) })
  pub image : take (length (image_of (after_draw t i))) new ≡ image_of (after_draw t i)
  pub list : take (length (drawn t i)) cells ≡ drawn t i
