-- Who was hit where, of the calls' answers: beside the events of the step of the same setting, image and actions. Assumes nothing.
use Rattle.std.specs.Prelude.{Option, Some, None, Ok, is_some}
use Prim.Native.Nat.{ℕ, ◌<◌, ◌≤◌}
use native.Mathlib.Omega.{arith}
use mathlib.Core.Path.{◌≡◌, refl, sym, ap, subst, ◌∙◌}
use mathlib.Core.Bool.{Bool, true, false, not}
use mathlib.Core.List.{List, ◌++◌}
use lib.Dec.{ltb}
use lib.ListN.{length, get_or, replicate}
use borrow.Author.Tests.{lt-ltb}
use Rattle.lists.specs.Below.{each_below, lowest_from}
use Rattle.lists.proofs.Tests.{and_right}
use Rattle.lists.proofs.Lists.{all_append}
use Rattle.lists.proofs.Below.{each_at, each_past, filled_at, filled_is}
use Rattle.rules.specs.Tables.{Table, none_hold}
use Rattle.rules.specs.State.{State, nobody, count}
use Rattle.rules.specs.Setting.{setting_order}
use Rattle.rules.specs.Image.{state_of}
use Rattle.rules.specs.Events.{blank, eight}
use Rattle.rules.specs.Step.{Moved, stays, moved_of, cause_of, transition_of, stepped}
use Rattle.rules.specs.Struck.{no_hit, stops_head, hit_of, hits_in, strikes, HitsItself, HitsAnother}
use Rattle.rules.specs.Faults.{image_rows}
use Rattle.rules.specs.Orders.{asked_rows, struck_order, step_order}
use Rattle.rules.specs.Says.{Says, seen, beside}
use Rattle.rules.specs.Calls.{struck_says}
use Rattle.rules.specs.Promises.{Steps, Strikes}
use Rattle.rules.specs.declared.Cause.{Cause}
use Rattle.rules.specs.declared.Cause.TheVariants.{Wall, SelfBody, OppBody, HeadOn}
use Rattle.rules.specs.declared.Event.{Event}
use Rattle.rules.specs.declared.Hit.{Hit}
use Rattle.rules.specs.declared.refusal.Refusal.{Refusal}
use Rattle.rules.specs.declared.Setting.{Setting}
use Rattle.rules.specs.declared.Stepped.{Stepped}
use Rattle.rules.proofs.Facts.{sound}
use Rattle.rules.proofs.Parts.{state_count}
use Rattle.rules.proofs.Struck.{met_below, hits_itself, hits_another, hit_told, hit_else}
use Rattle.rules.proofs.Faults.{rows_formed}
use Rattle.flat.specs.Flat.{hit_words}
use Rattle.theorems.proofs.Definitions.{lawful, step_is}
use Rattle.theorems.proofs.Placings.{event_at_lem}

-- the moved world of a state
abbrev pub moved_in : State → List ℕ → ℕ → Moved
moved_in t acts i = get_or (each_below (count t) (moved_of t acts)) i (stays nobody)

-- a step's event says the cause
cause_in_lem : (s : Setting) (g n : ℕ) (food : List ℕ) (m : ℕ → Moved) (i : ℕ) → i < n → (get_or (transition_of s g n food m).events i blank).death_cause ≡ cause_of g n m i
unfolding transition_of
cause_in_lem s g n food m i h = ap (λ (x : Event). x.death_cause) (each_at n _ blank i h) ∙ each_at n (cause_of g n m) None i h

cause_told : (s : Setting) (t : State) (acts : List ℕ) (i : ℕ) → i < count t → (get_or (stepped s t acts).events i blank).death_cause ≡ cause_of t.side (count t) (moved_in t acts) i
unfolding stepped
cause_told s t acts i h = cause_in_lem s t.side (count t) t.food (moved_in t acts) i h

-- in the exported words: a snake below 8 stands there exactly where one was hit
abbrev hit_said : Option Hit → Bool
hit_said h = ltb (get_or (hit_words h) 0 0) 8

said_told : (g n : ℕ) (m : ℕ → Moved) (i : ℕ) → i < n → n ≤ 8 → hit_said (hit_of g n m i) ≡ strikes (cause_of g n m i)
said_told g n m i l few = go (cause_of g n m i) refl
  where
    go : (c : Option Cause) → cause_of g n m i ≡ c → hit_said (hit_of g n m i) ≡ strikes (cause_of g n m i)
    go None e = rw e
    go (Some Wall) e = rw e
    go (Some SelfBody) e = rw (e, lt-ltb i 8 (omega (arith, l, few)))
    go (Some OppBody) e = rw (e, lt-ltb (lowest_from (stops_head g n m i) 0 n) 8 (omega (arith, met_below g n m i e, few)))
    go (Some HeadOn) e = rw e

module _ (s : Setting) (w acts : List ℕ) (r : Says (List (Option Hit))) (p : Strikes s w acts r) (none : none_hold (struck_order s w acts) ≡ true) where
  abbrev t : State
  t = state_of w

  -- the hits that it answers
  abbrev hits : List (Option Hit)
  hits = beside (λ (h : List (Option Hit)). h) (replicate 8 no_hit) r

  pub struck_is : r ≡ Ok (hits_in t acts)
  unfolding struck_says
  struck_is = p.answer ∙ lawful (struck_order s w acts) (hits_in t acts) none

  hits_are : hits ≡ hits_in t acts
  hits_are = ap (beside (λ (h : List (Option Hit)). h) (replicate 8 no_hit)) struck_is

  few : count t ≤ 8
  few =
      let rows : Table = image_rows w ++ asked_rows s w acts in
      let rest = and_right (none_hold (setting_order s)) (none_hold rows) (sym (all_append (λ (e : Refusal × Bool). not e.1) (setting_order s) rows) ∙ none) in
      omega (arith, (sound w (rows_formed w (asked_rows s w acts) rest)).snakes_max, state_count w)

  hit_is : (i : ℕ) → i < count t → get_or hits i no_hit ≡ hit_of t.side (count t) (moved_in t acts) i
  unfolding hits_in
  hit_is i h = ap (λ (l : List (Option Hit)). get_or l i no_hit) hits_are ∙ filled_at (hit_of t.side (count t) (moved_in t acts)) (count t) 8 no_hit no_hit i h

  -- from n on nobody
  pub struck_past : (i : ℕ) → count t ≤ i → get_or hits i no_hit ≡ no_hit
  unfolding hits_in
  struck_past i h =
      let f = hit_of t.side (count t) (moved_in t acts) in
      ap (λ (l : List (Option Hit)). get_or l i no_hit) hits_are ∙ filled_is f (count t) 8 no_hit i ∙ each_past (count t) f no_hit i h

  -- beside the step's answer
  module _ (old new : List ℕ) (o : Says Stepped) (q : Steps s w acts old new o) (room : none_hold (step_order s w acts (length old)) ≡ true) (i : ℕ) (h : i < count t) where
    -- the events that it answers
    abbrev events : List Event
    events = beside (λ (x : Stepped). x.events) (replicate 8 blank) o

    abbrev cause : Option Cause
    cause = (get_or events i blank).death_cause

    abbrev hit : Option Hit
    hit = get_or hits i no_hit

    events_are : events ≡ eight (stepped s t acts).events
    events_are = ap (beside (λ (x : Stepped). x.events) (replicate 8 blank)) (step_is s w acts old new o q room).answer

    cause_is : cause ≡ cause_of t.side (count t) (moved_in t acts) i
    cause_is =
        ap (λ (es : List Event). (get_or es i blank).death_cause) events_are
        ∙ ap (λ (x : Event). x.death_cause) (event_at_lem s t acts i h)
        ∙ cause_told s t acts i h

    pub struck_told : (is_some hit ≡ strikes cause) × (ltb (get_or (hit_words hit) 0 0) 8 ≡ strikes cause)
    struck_told =
        let g = t.side in
        let n = count t in
        let m = moved_in t acts in (
          ap is_some (hit_is i h) ∙ hit_told g n m i ∙ ap strikes (sym cause_is),
          ap hit_said (hit_is i h) ∙ said_told g n m i h few ∙ ap strikes (sym cause_is),
        )

    pub struck_nobody : strikes cause ≡ false → hit ≡ no_hit
    struck_nobody e = hit_is i h ∙ hit_else t.side (count t) (moved_in t acts) i (sym (ap strikes cause_is) ∙ e)

    pub struck_itself : cause ≡ (Some SelfBody) → HitsItself t.side (moved_in t acts) i hit
    struck_itself e = subst (HitsItself t.side (moved_in t acts) i) (sym (hit_is i h)) (hits_itself t.side (count t) (moved_in t acts) i (sym cause_is ∙ e))

    pub struck_another : cause ≡ (Some OppBody) → HitsAnother t.side (count t) (moved_in t acts) i hit
    struck_another e = subst (HitsAnother t.side (count t) (moved_in t acts) i) (sym (hit_is i h)) (hits_another t.side (count t) (moved_in t acts) i (sym cause_is ∙ e))
