-- Two answers that meet one promise are equal, and so are the lent buffers: for each public call. Assumes nothing.
use Rattle.std.specs.Prelude.{Option, Ok, Err}
use mathlib.Core.Path.{◌≡◌, refl, sym, ap, ◌∙◌}
use mathlib.Core.Bool.{Bool}
use mathlib.Core.List.{List}
use Prim.Native.Nat.{ℕ}
use native.Mathlib.Omega.{arith}
use lib.IntN.{ℤ}
use lib.Ieee.{Float}
use Rattle.rules.specs.Says.{Says, seen, chance_of, actions_of, shape_of}
use Rattle.rules.specs.Promises.{Turns, Checks, Examines, Validates, Starts, Steps, Strikes, Observes, Counts, Draws, Ranks, ActsNext, Allows, Keys, Truncates, Rewards, ObservationSpace, ActionSpace, Parts}
use Rattle.rules.specs.declared.Heading.{Heading}
use Rattle.rules.specs.declared.RelativeAction.{RelativeAction}
use Rattle.rules.specs.declared.Setting.{Setting}
use Rattle.rules.specs.declared.Event.{Event}
use Rattle.rules.specs.declared.Weights.{Weights}
use Rattle.rules.specs.declared.Stepped.{Stepped}
use Rattle.rules.specs.declared.Drawn.{Drawn}
use Rattle.rules.specs.declared.Hit.{Hit}
use Rattle.rules.specs.declared.Actor.{Actor}
use Rattle.rules.specs.declared.Actor.TheVariants.{Chance, Simultaneous}
use Rattle.rules.specs.declared.Legal.{Legal}
use Rattle.rules.specs.declared.Legal.TheVariants.{AnyAction, NoAction}
use Rattle.rules.specs.declared.Space.{Space}
use Rattle.rules.specs.declared.Space.TheVariants.{Box, Discrete}

-- ---- what an answer says tells which answer it is

abbrev Apart : Type 0
Apart = ◌≡◌ {A = ℕ} 0 1

actor_of : (a b : Actor) → chance_of a ≡ chance_of b → a ≡ b
actor_of Chance Chance h = refl
actor_of Chance Simultaneous h = let z : Apart = cc in absurd (omega arith)
actor_of Simultaneous Chance h = let z : Apart = cc in absurd (omega arith)
actor_of Simultaneous Simultaneous h = refl

legal_of : (a b : Legal) → actions_of a ≡ actions_of b → a ≡ b
legal_of AnyAction AnyAction h = refl
legal_of AnyAction NoAction h = let z : Apart = cc in absurd (omega arith)
legal_of NoAction AnyAction h = let z : Apart = cc in absurd (omega arith)
legal_of NoAction NoAction h = refl

pub space_of : (a b : Space) → shape_of a ≡ shape_of b → a ≡ b
space_of (Box p u v x y) (Box p' u' v' x' y') h =
    let e : p ≡ p' = cc in
    let f : u ≡ u' = cc in
    let g : v ≡ v' = cc in
    let i : x ≡ x' = cc in
    let j : y ≡ y' = cc in
    λ t. Box (e t) (f t) (g t) (i t) (j t)
space_of (Box p u v x y) (Discrete n) h = let z : Apart = cc in absurd (omega arith)
space_of (Discrete n) (Box p u v x y) h = let z : Apart = cc in absurd (omega arith)
space_of (Discrete n) (Discrete m) h = ap Discrete (cc)

-- of answers that are seen through f, where f tells which value it is
pub seen_one : {A B : Type 0} (f : A → B) → ((x y : A) → f x ≡ f y → x ≡ y) → (a b : Says A) → seen f a ≡ seen f b → a ≡ b
seen_one f g (Ok x) (Ok y) h = let e : f x ≡ f y = cc in ap Ok (g x y e)
seen_one f g (Ok x) (Err k) h = let z : Apart = cc in absurd (omega arith)
seen_one f g (Err k) (Ok y) h = let z : Apart = cc in absurd (omega arith)
seen_one f g (Err k) (Err l) h = let e : k ≡ l = cc in ap Err e

-- ---- one answer for each call

pub one_turn : (h : Heading) (a : RelativeAction) (r q : Heading) → Turns h a r → Turns h a q → r ≡ q
one_turn h a r q p o = p.answer ∙ sym o.answer

pub one_check : (w : List ℕ) (r q : Bool) → Checks w r → Checks w q → r ≡ q
one_check w r q p o = p.answer ∙ sym o.answer

pub one_examination : (w : List ℕ) (r q : Says (Unit {0})) → Examines w r → Examines w q → r ≡ q
one_examination w r q p o = p.answer ∙ sym o.answer

pub one_verdict : (s : Setting) (r q : Says (Unit {0})) → Validates s r → Validates s q → r ≡ q
one_verdict s r q p o = p.answer ∙ sym o.answer

pub one_start : (s : Setting) (old new other : List ℕ) (r q : Says ℕ) → Starts s old new r → Starts s old other q → (r ≡ q) × (new ≡ other)
one_start s old new other r q p o = (p.answer ∙ sym o.answer, p.words ∙ sym o.words)

pub one_step : (s : Setting) (w acts old new other : List ℕ) (r q : Says Stepped) → Steps s w acts old new r → Steps s w acts old other q → (r ≡ q) × (new ≡ other)
one_step s w acts old new other r q p o = (p.answer ∙ sym o.answer, p.words ∙ sym o.words)

pub one_struck : (s : Setting) (w acts : List ℕ) (r q : Says (List (Option Hit))) → Strikes s w acts r → Strikes s w acts q → r ≡ q
one_struck s w acts r q p o = p.answer ∙ sym o.answer

pub one_view : (w : List ℕ) (a : ℕ) (old new other : List Float) (r q : Says ℕ) → Observes w a old new r → Observes w a old other q → (r ≡ q) × (new ≡ other)
one_view w a old new other r q p o = (p.answer ∙ sym o.answer, p.numbers ∙ sym o.numbers)

pub one_count : (w : List ℕ) (r q : Says ℕ) → Counts w r → Counts w q → r ≡ q
one_count w r q p o = p.answer ∙ sym o.answer

pub one_draw : (w : List ℕ) (i : ℕ) (old new other list cells cells' : List ℕ) (r q : Says Drawn)
    → Draws w i old new list cells r → Draws w i old other list cells' q → (r ≡ q) × (new ≡ other) × (cells ≡ cells')
one_draw w i old new other list cells cells' r q p o = (p.answer ∙ sym o.answer, p.words ∙ sym o.words, p.list ∙ sym o.list)

pub one_rank : (w l : List ℕ) (r q : Says ℕ) → Ranks w l r → Ranks w l q → r ≡ q
one_rank w l r q p o = p.answer ∙ sym o.answer

pub one_actor : (w : List ℕ) (r q : Says Actor) → ActsNext w r → ActsNext w q → r ≡ q
one_actor w r q p o = seen_one chance_of actor_of r q (p.answer ∙ sym o.answer)

pub one_legal : (w : List ℕ) (a : ℕ) (r q : Says Legal) → Allows w a r → Allows w a q → r ≡ q
one_legal w a r q p o = seen_one actions_of legal_of r q (p.answer ∙ sym o.answer)

pub one_key : (w : List ℕ) (r q : Says (Option ℕ)) → Keys w r → Keys w q → r ≡ q
one_key w r q p o = p.answer ∙ sym o.answer

pub one_truncation : (w : List ℕ) (a : ℕ) (e : Event) (r q : Says Event) → Truncates w a e r → Truncates w a e q → r ≡ q
one_truncation w a e r q p o = p.answer ∙ sym o.answer

pub one_reward : (w : Weights) (e : Event) (r q : Says Float) → Rewards w e r → Rewards w e q → r ≡ q
one_reward w e r q p o = p.answer ∙ sym o.answer

pub one_space : (g : ℤ) (r q : Says Space) → ObservationSpace g r → ObservationSpace g q → r ≡ q
one_space g r q p o = seen_one shape_of space_of r q (p.answer ∙ sym o.answer)

pub one_action_space : (r q : Space) → ActionSpace r → ActionSpace q → r ≡ q
one_action_space r q p o = let e : shape_of r ≡ shape_of q = let h = p.answer ∙ sym o.answer in cc in space_of r q e

pub one_body : (w : List ℕ) (i : ℕ) (r q : List ℕ) → Parts w i r → Parts w i q → r ≡ q
one_body w i r q p o = p.answer ∙ sym o.answer
