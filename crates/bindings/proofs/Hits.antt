-- What the call tells of as hit can be said in words: its snake is below 8, and 8 says nobody. Assumes nothing.
use Rattle.std.specs.Prelude.{Option, Some, None, Ok}
use Prim.Native.Nat.{ℕ, ◌<◌, ◌≤◌}
use mathlib.Core.Path.{◌≡◌, refl, sym, ap, ◌∙◌}
use mathlib.Core.Bool.{Bool, true, not}
use mathlib.Core.List.{List, [], ◌++◌}
use lib.Dec.{ltb}
use Rattle.lists.specs.Choice.{◌if◌else◌}
use native.Mathlib.Omega.{arith}
use borrow.Author.Tests.{ltb-true, lt-ltb, ne_eqb}
use lib.ListN.{get_or}
use Rattle.lists.specs.Below.{each_below, lowest_from}
use Rattle.lists.proofs.Below.{each_at, each_past, filled_is}
use Rattle.lists.proofs.Lists.{all_append}
use Rattle.lists.proofs.Tests.{ordered, less, more, and_right}
use Rattle.rules.specs.Tables.{none_hold}
use Rattle.rules.specs.Faults.{image_rows}
use Rattle.rules.specs.Setting.{setting_order}
use Rattle.rules.specs.Orders.{asked_rows, struck_order}
use Rattle.rules.specs.State.{State, nobody, count}
use Rattle.rules.specs.Image.{state_of}
use Rattle.rules.specs.Step.{Moved, stays, moved_of, cause_of}
use Rattle.rules.specs.Struck.{hit_of, stops_head, hits_in}
use Rattle.rules.specs.Calls.{struck_says}
use Rattle.rules.specs.declared.refusal.Refusal.{Refusal}
use Rattle.rules.specs.declared.Setting.{Setting}
use Rattle.rules.specs.declared.Cause.{Cause}
use Rattle.rules.specs.declared.Cause.TheVariants.{Wall, SelfBody, OppBody, HeadOn}
use Rattle.rules.specs.declared.Hit.{Hit}
use Rattle.rules.proofs.Tables.{table_given}
use Rattle.rules.proofs.Faults.{rows_formed}
use Rattle.rules.proofs.Facts.{sound}
use Rattle.rules.proofs.Parts.{state_count}
use Rattle.rules.proofs.Struck.{met_below}
use Rattle.flat.specs.Flat.{unhit, hit_words, hits_words}
use Rattle.bindings.proofs.Theorems.{sayable}

-- ---- of n snakes

-- whether a hit is nobody, or of a snake below 8
abbrev pub told_below : Option Hit → Bool
told_below None = true
told_below (Some h) = ltb h.snake 8

module _ (g n : ℕ) (m : ℕ → Moved) (i : ℕ) (l : i < n) (few : n ≤ 8) where
  hit_few : told_below (hit_of g n m i) ≡ true
  hit_few = go (cause_of g n m i) refl
    where
      go : (c : Option Cause) → cause_of g n m i ≡ c → told_below (hit_of g n m i) ≡ true
      go None e = rw e
      go (Some Wall) e = rw e
      go (Some SelfBody) e = rw (e, lt-ltb i 8 (omega (arith, l, few)))
      go (Some OppBody) e = rw (e, lt-ltb (lowest_from (stops_head g n m i) 0 n) 8 (omega (arith, met_below g n m i e, few)))
      go (Some HeadOn) e = rw e

hits_few : (t : State) (acts : List ℕ) → count t ≤ 8 → (i : ℕ) → told_below (get_or (hits_in t acts) i unhit) ≡ true
unfolding hits_in
hits_few t acts few i =
    let n = count t in
    let ms : List Moved = each_below n (moved_of t acts) in
    let m : ℕ → Moved = λ i. get_or ms i (stays nobody) in
    let f : ℕ → Option Hit = hit_of t.side n m in
    ap told_below (filled_is f n 8 unhit i) ∙ elim (ordered i n) [
      | less l u ↦ ap told_below (each_at n f unhit i l) ∙ hit_few t.side n m i l few
      | more l u ↦ ap told_below (each_past n f unhit i l)
    ]

-- ---- of the call

pub struck_below : (s : Setting) (w acts : List ℕ) (hs : List (Option Hit)) → struck_says s w acts ≡ Ok hs → (i : ℕ) → told_below (get_or hs i unhit) ≡ true
unfolding struck_says
struck_below s w acts hs e i =
    let given = table_given (struck_order s w acts) (hits_in (state_of w) acts) hs e in
    let rows : none_hold (image_rows w ++ asked_rows s w acts) ≡ true =
    and_right (none_hold (setting_order s)) _ (sym (all_append (λ (e : Refusal × Bool). not e.1) (setting_order s) (image_rows w ++ asked_rows s w acts)) ∙ given.0) in
    let few : count (state_of w) ≤ 8 = rw (state_count w) (sound w (rows_formed w (asked_rows s w acts) rows)).snakes_max in
    ap (λ (h : List (Option Hit)). told_below (get_or h i unhit)) (sym given.1) ∙ hits_few (state_of w) acts few i

-- so no hit has the words that say nobody
below_sayable : (h : Option Hit) → told_below h ≡ true → sayable h ≡ true
below_sayable None p = refl
below_sayable (Some h) p = rw (ne_eqb h.snake 8 (λ q. let l : h.snake < 8 = ltb-true h.snake 8 p in omega (arith, l, q)))

pub struck_few : (s : Setting) (w acts : List ℕ) (hs : List (Option Hit)) → struck_says s w acts ≡ Ok hs → (i : ℕ) → sayable (get_or hs i unhit) ≡ true
struck_few s w acts hs e i = below_sayable (get_or hs i unhit) (struck_below s w acts hs e i)

-- ---- read back by the clients' test: a hit where the snake is below 8, else nobody

abbrev pub hit_read : List ℕ → Option Hit
hit_read l = Some (record { snake = get_or l 0 0; position = get_or l 1 0 }) if ltb (get_or l 0 0) 8 else None

below_back : (h : Option Hit) → told_below h ≡ true → hit_read (hit_words h) ≡ h
below_back None p = refl
below_back (Some h) p = rw p

pub struck_back : (s : Setting) (w acts : List ℕ) (hs : List (Option Hit)) → struck_says s w acts ≡ Ok hs
    → each_below 8 (λ i. hit_read (get_or (hits_words hs) i [])) ≡ each_below 8 (λ i. get_or hs i unhit)
unfolding each_below hits_words
struck_back s w acts hs e =
    let b : (i : ℕ) → hit_read (hit_words (get_or hs i unhit)) ≡ get_or hs i unhit = λ i. below_back (get_or hs i unhit) (struck_below s w acts hs e i) in
    rw (b 0, b 1, b 2, b 3, b 4, b 5, b 6, b 7)
