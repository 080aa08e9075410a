-- The promise of each public call: for every input which answer or number comes, and every word of the lent buffers afterwards.
-- old and new are a lent buffer before and after. Assumes nothing.
use Rattle.std.specs.Prelude.{ℕ, Bool, false, List, ◌≡◌, ℤ, Float, length, Option, Ok, Err}
use Rattle.rules.specs.Headings.{turned}
use Rattle.rules.specs.Image.{image_of, well_formed}
use Rattle.rules.specs.Says.{Says, seen, lent, chance_of, actions_of, shape_of}
use Rattle.rules.specs.Calls.{stepped_of, drawn_of, setting_says, image_says, initial_says, step_says, struck_says, observe_says, count_says, draw_says, rank_says, actor_says, legal_says, key_says, truncation_says, reward_says, space_says, action_says, body_asked}
use Rattle.rules.specs.declared.Heading.{Heading}
use Rattle.rules.specs.declared.RelativeAction.{RelativeAction}
use Rattle.rules.specs.declared.Setting.{Setting}
use Rattle.rules.specs.declared.Event.{Event}
use Rattle.rules.specs.declared.Weights.{Weights}
use Rattle.rules.specs.declared.Hit.{Hit}
use Rattle.rules.specs.declared.refusal.Refusal.{Refusal}
use Rattle.rules.specs.declared.Stepped.{Stepped}
use Rattle.rules.specs.declared.Drawn.{Drawn}
use Rattle.rules.specs.declared.Actor.{Actor}
use Rattle.rules.specs.declared.Legal.{Legal}
use Rattle.rules.specs.declared.Space.{Space}

pub record Turns (h : Heading) (a : RelativeAction) (r : Heading) : Type 0 where
  pub answer : r ≡ turned h a

pub record Checks (w : List ℕ) (r : Bool) : Type 0 where
  pub answer : r ≡ well_formed w

-- accepted, or the first fault of 50 to 56 and the first word that shows it
pub record Examines (w : List ℕ) (r : Says (Unit {0})) : Type 0 where
  pub answer : r ≡ image_says w

-- the same of an image that is known not to be well-formed
pub record Faulty (w : List ℕ) (r : Refusal) : Type 0 where
  pub answer : well_formed w ≡ false → Err r ≡ image_says w

pub record Validates (s : Setting) (r : Says (Unit {0})) : Type 0 where
  pub answer : r ≡ setting_says s

pub record Starts (s : Setting) (old new : List ℕ) (r : Says ℕ) : Type 0 where
  pub answer : r ≡ seen (λ t. length (image_of t)) (initial_says s (length old))
  pub words : new ≡ lent image_of old (initial_says s (length old))

pub record Steps (s : Setting) (w acts old new : List ℕ) (r : Says Stepped) : Type 0 where
  pub answer : r ≡ seen stepped_of (step_says s w acts (length old))
  pub words : new ≡ lent (λ o. image_of o.next) old (step_says s w acts (length old))

pub record Strikes (s : Setting) (w acts : List ℕ) (r : Says (List (Option Hit))) : Type 0 where
  pub answer : r ≡ struck_says s w acts

pub record Observes (w : List ℕ) (a : ℕ) (old new : List Float) (r : Says ℕ) : Type 0 where
  pub answer : r ≡ seen (λ v. length v) (observe_says w a (length old))
  pub numbers : new ≡ lent (λ v. v) old (observe_says w a (length old))

pub record Counts (w : List ℕ) (r : Says ℕ) : Type 0 where
  pub answer : r ≡ count_says w

pub record Draws (w : List ℕ) (i : ℕ) (old new old_list new_list : List ℕ) (r : Says Drawn) : Type 0 where
  pub answer : r ≡ seen drawn_of (draw_says w i (length old) (length old_list))
  pub words : new ≡ lent (λ d. image_of d.next) old (draw_says w i (length old) (length old_list))
  pub list : new_list ≡ lent (λ d. d.cells) old_list (draw_says w i (length old) (length old_list))

pub record Ranks (w l : List ℕ) (r : Says ℕ) : Type 0 where
  pub answer : r ≡ rank_says w l

pub record ActsNext (w : List ℕ) (r : Says Actor) : Type 0 where
  pub answer : seen chance_of r ≡ actor_says w

pub record Allows (w : List ℕ) (a : ℕ) (r : Says Legal) : Type 0 where
  pub answer : seen actions_of r ≡ legal_says w a

pub record Keys (w : List ℕ) (r : Says (Option ℕ)) : Type 0 where
  pub answer : r ≡ key_says w

pub record Truncates (w : List ℕ) (a : ℕ) (e : Event) (r : Says Event) : Type 0 where
  pub answer : r ≡ truncation_says w a e

pub record Rewards (w : Weights) (e : Event) (r : Says Float) : Type 0 where
  pub answer : r ≡ reward_says w e

pub record ObservationSpace (g : ℤ) (r : Says Space) : Type 0 where
  pub answer : seen shape_of r ≡ space_says g

pub record ActionSpace (r : Space) : Type 0 where
  pub answer : Ok (shape_of r) ≡ action_says

-- the part that the body query hands back
pub record Parts (w : List ℕ) (i : ℕ) (r : List ℕ) : Type 0 where
  pub answer : r ≡ body_asked w i
