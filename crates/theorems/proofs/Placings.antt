-- Exactly the matches that the lead ends have another `p` line than 01 gave them, 1 for the longer snake and 2 for the other: of every turn that a
-- replay comes to, and so of every output. Assumes nothing.
use Rattle.std.specs.Prelude.{Option, None, Ok, Err, Some}
use Prim.Native.Nat.{ℕ, zero, suc, ◌+◌, ◌-◌, ◌<◌}
use native.Mathlib.Omega.{arith}
use mathlib.Core.Path.{◌≡◌, refl, sym, ap, ◌∙◌}
use mathlib.Core.Bool.{Bool, true, false, not, ◌&&◌, ◌||◌, true≢false, false≢true}
use mathlib.Core.List.{List, [], ◌∷◌, ◌++◌, append_assoc}
use mathlib.Core.Logic.{◌⊎◌, inl, inr}
use lib.Dec.{ltb}
use lib.ListN.{length, get_or, take, replicate, get_or-append}
use borrow.Author.Tests.{le-ltb, not-true}
use Rattle.lists.specs.Choice.{◌if◌else◌}
use Rattle.lists.specs.Below.{some_below, each_below, concat_below, filled}
use Rattle.lists.proofs.Tests.{tell, and_left, and_right}
use Rattle.lists.proofs.Below.{some_found, some_false, each_at, each_long, each_past, each_ext, filled_none, filled_at, filled_is}
use Rattle.rules.specs.State.{Snake, State, nobody, count, snake_of}
use Rattle.rules.specs.Image.{image_of, state_of}
use Rattle.rules.specs.Events.{dies, blank, eight}
use Rattle.rules.specs.Setting.{setting_check, initial_state}
use Rattle.rules.specs.SettingFacts.{Accepts}
use Rattle.rules.specs.Step.{Moved, Transition, stays, moved_of, cause_of, after, transition_of, stepped}
use Rattle.rules.specs.Chance.{drawn, after_draw}
use Rattle.rules.specs.Says.{Says, seen}
use Rattle.rules.specs.Calls.{initial_says, step_says, draw_says}
use Rattle.rules.specs.Orders.{initial_order, step_order, draw_order}
use Rattle.rules.specs.declared.Cause.{Cause}
use Rattle.rules.specs.declared.Event.{Event}
use Rattle.rules.specs.declared.Setting.{Setting}
use Rattle.rules.proofs.Image.{state_back}
use Rattle.rules.proofs.InitialFacts.{start_count, start_long}
use Rattle.rules.proofs.SettingFacts.{accepts}
use Rattle.rules.proofs.Tables.{given_is, initial_says_lem, start_for}
use Rattle.parsing.specs.Lines.{read_first, read_later}
use Rattle.parsing.specs.Split.{lines_of}
use Rattle.parsing.specs.declared.Line.{Line}
use Rattle.parsing.specs.declared.Line.TheVariants as Line
use Rattle.printing.specs.Text.{digits_up_to, decimal_text, refusal_text, placings_text}
use Rattle.standing.specs.Placings.{placing_of, end_placing, placings_of}
use Rattle.standing.specs.Standing.{fresh, snakes_of, counted, death_at, behind_at, lost_alive, ends_by, moved, end_text}
use Rattle.standing.specs.declared.Match.{Match}
use Rattle.referee.specs.Match.{Turn, opened, opened_by, begin_says, drawn_turn, moved_turn, asked, turn_says, play_on, played, replay_of}
use Rattle.referee.proofs.Saying.{snakes_kept}
use Rattle.theorems.specs.Lead.{leads_in, led_in, by_lead, end_before, two_places, Reached, begun, taken, Ending, refused, placed, place_of, Placed}
use Rattle.theorems.proofs.Lead.{Leading, leading, found, some_one, corpse_unled, living_lost, lead_terminal}
use Rattle.rules.specs.declared.refusal.Refusal.TheVariants as Refusal
use Rattle.rules.specs.Refusals.{code_of}
use Rattle.rules.proofs.SettingParts.{says_accepted}
use Rattle.rules.proofs.Tables.{then_first}
use Rattle.rules.specs.Calls.{setting_says}

-- ---- what is known of a match m and its state t

record Known (m : Match) (t : State) : Type 0 where
  accepted : Accepts m.setting
  same : count t ≡ m.setting.num_snakes
  deaths : (i : ℕ) → i < count t → (snake_of t i).alive ≡ true → get_or m.deaths i 0 ≡ 0
  behind : (i : ℕ) → i < count t → get_or m.behind i false ≡ led_in m.setting t i
  over : by_lead m.setting t ≡ true → m.over ≡ true

-- who leads, in a state
lead_facts : (s : Setting) (t : State) (i j : ℕ) → leads_in s t i j ≡ true → Leading (count t) s.win_food_lead (snake_of t) i j
lead_facts s t i j e = leading (count t) (λ _. None) (snake_of t) s.win_food_lead i j e

-- one who is led makes it the end by the lead
led_ends : (s : Setting) (t : State) (i : ℕ) → i < count t → led_in s t i ≡ true → by_lead s t ≡ true
led_ends s t i h e = elim (some_one (count t) (λ j. leads_in s t j i) e) [
  | found j k q ↦ some_found (λ i. some_below (count t) (leads_in s t i)) (count t) j k (some_found (leads_in s t j) (count t) i h q)
]

none_led : (s : Setting) (t : State) (i : ℕ) → i < count t → by_lead s t ≡ false → led_in s t i ≡ false
none_led s t i h e = elim (tell (led_in s t i)) [
  | inl q ↦ absurd (true≢false (sym (led_ends s t i h q) ∙ e))
  | inr f ↦ f
]

-- ---- at the start

blanks : {A : Type 0} (n : ℕ) (b : A) (i : ℕ) → get_or (replicate n b) i b ≡ b
blanks n b i = ap (λ l. get_or l i b) (filled_none (λ _. b) n b) ∙ filled_is (λ _. b) 0 n b i ∙ each_past 0 (λ _. b) b i (omega arith)

-- all are as long
level : (s : Setting) → Accepts s → (i j : ℕ) → i < count (initial_state s) → j < count (initial_state s) → leads_in s (initial_state s) i j ≡ false
level s a i j h k = elim (tell (leads_in s (initial_state s) i j)) [
  | inl e ↦
      let c = start_count s a in
      let l = (lead_facts s (initial_state s) i j e).apart in
      absurd (omega (arith, l, start_long s a i (omega arith), start_long s a j (omega arith)))
  | inr f ↦ f
]

start_known : (s : Setting) → Accepts s → Known (fresh s) (initial_state s)
start_known s a =
    let t = initial_state s in
    record {
      accepted = a;
      same = start_count s a;
      deaths = λ i _ _. blanks 8 0 i;
      behind = λ i h. blanks 8 false i ∙ sym (some_false (λ j. leads_in s t j i) (count t) (λ j k. level s a j i k h));
      over = λ e. absurd (true≢false (sym e ∙ some_false (λ i. some_below (count t) (leads_in s t i)) (count t) (λ i h. some_false (leads_in s t i) (count t) (λ j k. level s a i j h k))));
    }

-- ---- after a draw, which leaves the snakes

drawn_known : (m : Match) (t : State) (i : ℕ) → Known m t → Known m (after_draw t i)
unfolding after_draw
drawn_known m t i k = record { accepted = k.accepted; same = k.same; deaths = k.deaths; behind = k.behind; over = k.over }

-- ---- after a move

-- who lives after a move lived before it, and did not die
record Survives (e : Event) (z : Snake) : Type 0 where
  lived : z.alive ≡ true
  spared : e.died ≡ false

moves_alive : (z : Snake) (x : Moved) (b : Bool) → x.moves ≡ true → b ≡ z.alive → (x if b else stays z).moves ≡ true → z.alive ≡ true
moves_alive z x true p q e = sym q
moves_alive z x false p q e = absurd (false≢true e)

survives_in : (s : Setting) (g n : ℕ) (food : List ℕ) (m : ℕ → Moved) (i : ℕ) → i < n → (snake_of (transition_of s g n food m).next i).alive ≡ true
    → ((m i).moves ≡ true) × ((get_or (transition_of s g n food m).events i blank).died ≡ false)
unfolding transition_of
survives_in s g n food m i h e =
    let c : ℕ → Option Cause = λ j. get_or (each_below n (cause_of g n m)) j None in
    let f : ((m i).moves && not (dies (c i))) ≡ true = sym (ap (λ (z : Snake). z.alive) (each_at n (λ j. after g (m j) (c j)) nobody i h)) ∙ e in (
      and_left (m i).moves (not (dies (c i))) f,
      ap (λ (x : Event). x.died) (each_at n _ blank i h) ∙ not-true (dies (c i)) (and_right (m i).moves (not (dies (c i))) f),
    )

survives : (s : Setting) (t : State) (acts : List ℕ) (i : ℕ) → i < count t → (snake_of (stepped s t acts).next i).alive ≡ true
    → Survives (get_or (stepped s t acts).events i blank) (snake_of t i)
unfolding stepped
survives s t acts i h e =
    let m : ℕ → Moved = λ i. get_or (each_below (count t) (moved_of t acts)) i (stays nobody) in
    let p = survives_in s t.side (count t) t.food m i h e in
    let q : (moved_of t acts i).moves ≡ true = ap (λ (x : Moved). x.moves) (sym (each_at (count t) (moved_of t acts) (stays nobody) i h)) ∙ p.0 in
    record { lived = moves_alive (snake_of t i) _ (snake_of t i).alive refl refl q; spared = p.1 }

events_long : (s : Setting) (t : State) (acts : List ℕ) → length (stepped s t acts).events ≡ count t
unfolding stepped transition_of
events_long s t acts = each_long (count t) _

-- of the eight places those of the snakes are the step's
pub event_at_lem : (s : Setting) (t : State) (acts : List ℕ) (i : ℕ) → i < count t → get_or (eight (stepped s t acts).events) i blank ≡ get_or (stepped s t acts).events i blank
event_at_lem s t acts i h =
    let es = (stepped s t acts).events in
    let l = events_long s t acts in
    get_or-append es (replicate (8 - length es) blank) blank i (omega arith)

module _ (m : Match) (t : State) (acts : List ℕ) (k : Known m t) where
  abbrev o : Transition
  o = stepped m.setting t acts

  few : (i : ℕ) → i < count t → i < 8
  few i h = omega (arith, k.same, k.accepted.snakes_max)

  step_known : Known (moved m o.terminal (eight o.events)) o.next
  step_known =
      let kept = snakes_kept m.setting t acts in
      let es = eight o.events in
      record {
        accepted = k.accepted;
        same = kept ∙ k.same;
        deaths = λ i h e.
            let l : i < count t = omega (arith, kept) in
            let v = survives m.setting t acts i l e in
            let d : (get_or es i blank).died ≡ false = ap (λ (x : Event). x.died) (event_at_lem m.setting t acts i l) ∙ v.spared in
            filled_at (death_at (counted m.moves) m.deaths es) 8 8 0 0 i (few i l)
            ∙ ap (λ (b : Bool). counted m.moves if b else get_or m.deaths i 0) d ∙ k.deaths i l v.lived;
        behind = λ i h.
            let l : i < count t = omega (arith, kept) in
            filled_at (behind_at es) 8 8 false false i (few i l) ∙ ap lost_alive (event_at_lem m.setting t acts i l) ∙ living_lost m.setting t acts i l;
        over = λ e. ap (λ (b : Bool). b || ends_by m b) (lead_terminal m.setting t acts e);
      }

-- ---- every turn that a replay comes to

data Seen {A B : Type 0} (f : A → B) (x : Says A) (b : B) : Type 0 where
  saw : (a : A) → x ≡ Ok a → f a ≡ b → Seen f x b

seen_gives : {A B : Type 0} (f : A → B) (x : Says A) (b : B) → seen f x ≡ Ok b → Seen f x b
seen_gives f (Err k) b e = let z : ◌≡◌ {A = ℕ} 0 1 = cc in absurd (omega arith)
seen_gives f (Ok a) b e = saw a refl cc

opens : (x : Option Setting) (room : ℕ) (t : Turn) → opened_by x room ≡ Ok t → Known t.game t.next
unfolding initial_says
opens None room t e = let z : ◌≡◌ {A = ℕ} 0 1 = cc in absurd (omega arith)
opens (Some s) room t e = elim (seen_gives (opened s) (initial_says s room) t e) [
  | saw a p q ↦
      let z = says_accepted s (then_first (setting_says s) (start_for s room) a (sym (initial_says_lem s room) ∙ p)) in
      rw (← q, ← given_is (initial_order s room) (initial_state s) a p) (start_known s (accepts s z))
]

asks : (m : Match) (t : State) (room cells : ℕ) (x : Option Line) (u : Turn) → Known m t → asked m (image_of t) room cells x ≡ Ok u → Known u.game u.next
unfolding draw_says step_says moved_turn
asks m t room cells None u k e = let z : ◌≡◌ {A = ℕ} 0 1 = cc in absurd (omega arith)
asks m t room cells (Some (Line.Draw i)) u k e =
    let w = image_of t in
    elim (seen_gives (drawn_turn m) (draw_says w i room cells) u e) [
      | saw d p q ↦
          let n = given_is (draw_order w i room cells) (record { next = after_draw (state_of w) i; cells = drawn (state_of w) i }) d p in
          rw (← q, ← n, state_back t) (drawn_known m t i k)
    ]
asks m t room cells (Some (Line.Move acts)) u k e =
    let w = image_of t in
    let l = take (snakes_of m) acts in
    elim (seen_gives (moved_turn m) (step_says m.setting w l room) u e) [
      | saw o p q ↦
          let n = given_is (step_order m.setting w l room) (stepped m.setting (state_of w) l) o p in
          rw (← q, ← n, state_back t) (step_known m t l k)
    ]

before_33 : (b : Bool) (x : Says Turn) (u : Turn) → (Err Refusal.Over if b else x) ≡ Ok u → x ≡ Ok u
before_33 true x u e = let z : ◌≡◌ {A = ℕ} 0 1 = cc in absurd (omega arith)
before_33 false x u e = e

known : (t : Turn) → Reached t → Known t.game t.next
unfolding begin_says turn_says
known t (begun line room e) = opens (read_first line) room t e
known t (taken v line room cells r e) =
    let x = read_later (snakes_of v.game) line in
    let k = known v r in
    asks v.game v.next room cells x t k (before_33 v.game.over (asked v.game (image_of v.next) room cells x) t e)

-- ---- its placings

-- a number below 10 is one digit
digit : (k : ℕ) → ltb k 10 ≡ true → decimal_text k ≡ (48 + k) ∷ []
unfolding digits_up_to
digit k e = rw e

two_line : (f : ℕ → ℕ) (a b : ℕ) → f 0 ≡ a → f 1 ≡ b → ltb a 10 ≡ true → ltb b 10 ≡ true → placings_text (filled f 2 8 0) 2 ≡ two_places a b
unfolding placings_text concat_below filled each_below
two_line f a b p q h k = rw (p, q, digit a h, digit b k)

-- one of two
of_two : (P : ℕ → Type 0) → P 0 → P 1 → (i : ℕ) → i < 2 → P i
of_two P a b zero h = a
of_two P a b (suc zero) h = b
of_two P a b (suc (suc i)) h = absurd (omega arith)

module _ (m : Match) (t : State) (k : Known m t) where
  abbrev s : Setting
  s = m.setting

  number_is : snakes_of m ≡ count t
  number_is = ap (λ (b : Bool). 8 if b else s.num_snakes) (le-ltb 8 s.num_snakes k.accepted.snakes_max) ∙ sym k.same

  -- as 01 places it
  as_before : (i : ℕ) → i < count t → led_in s t i ≡ false → place_of m i ≡ placing_of (snakes_of m) m.deaths i
  unfolding end_placing
  as_before i h e = ap (λ (b : Bool). 2 if b else placing_of (snakes_of m) m.deaths i) (k.behind i h ∙ e)

  place_behind : (i : ℕ) → i < count t → led_in s t i ≡ true → place_of m i ≡ 2
  unfolding end_placing
  place_behind i h e = ap (λ (b : Bool). 2 if b else placing_of (snakes_of m) m.deaths i) (k.behind i h ∙ e)

  lives_first : (i : ℕ) → i < count t → (snake_of t i).alive ≡ true → placing_of (snakes_of m) m.deaths i ≡ 1
  unfolding placing_of
  lives_first i h e = rw (k.deaths i h e)

  same_line : by_lead s t ≡ false → end_text m ≡ end_before m
  unfolding end_text end_before placings_of filled
  same_line e =
      ap (λ (l : List ℕ). placings_text (l ++ replicate (8 - snakes_of m) 0) (snakes_of m))
      (each_ext (snakes_of m) (place_of m) (placing_of (snakes_of m) m.deaths) (λ i h. let l : i < count t = omega (arith, number_is) in as_before i l (none_led s t i l e)))

  -- where x leads y, of two
  module _ (x y : ℕ) (two : (P : ℕ → Type 0) → P x → P y → (i : ℕ) → i < 2 → P i) (below : x < 2) (under : y < 2) (e : leads_in s t x y ≡ true) where
    f : Leading (count t) s.win_food_lead (snake_of t) x y
    f = lead_facts s t x y e

    pair : count t ≡ 2
    pair = k.same ∙ k.accepted.lead_two f.lead f.set

    -- the longer is not led
    unled : (i : ℕ) → i < count t → leads_in s t i x ≡ false
    unled i h = elim (tell (leads_in s t i x)) [
      | inl q ↦
          let g = (lead_facts s t i x q).apart in
          absurd (two (λ i. length (snake_of t x).body < length (snake_of t i).body → ⊥) (λ v. omega arith) (λ v. omega (arith, f.apart)) i (omega (arith, pair)) g)
      | inr q ↦ q
    ]

    winner : place_of m x ≡ 1
    winner =
        let h : x < count t = omega (arith, pair) in
        as_before x h (some_false (λ j. leads_in s t j x) (count t) unled) ∙ lives_first x h f.longer

    loser : place_of m y ≡ 2
    loser = place_behind y (omega (arith, pair)) (some_found (λ j. leads_in s t j y) (count t) x (omega (arith, pair)) e)

    loser_before : placing_of (snakes_of m) m.deaths y ≡ 1
    loser_before = lives_first y (omega (arith, pair)) f.other

    winner_before : placing_of (snakes_of m) m.deaths x ≡ 1
    winner_before = lives_first x (omega (arith, pair)) f.longer

    two_said : (a b : ℕ) → place_of m 0 ≡ a → place_of m 1 ≡ b → ltb a 10 ≡ true → ltb b 10 ≡ true → end_text m ≡ two_places a b
    unfolding end_text placings_of
    two_said a b p q u v = ap (λ (n : ℕ). placings_text (filled (place_of m) n 8 0) n) (number_is ∙ pair) ∙ two_line (place_of m) a b p q u v

    two_before : placing_of (snakes_of m) m.deaths 0 ≡ 1 → placing_of (snakes_of m) m.deaths 1 ≡ 1 → end_before m ≡ two_places 1 1
    unfolding end_before
    two_before p q =
        ap (λ (n : ℕ). placings_text (filled (placing_of (snakes_of m) m.deaths) n 8 0) n) (number_is ∙ pair) ∙ two_line (placing_of (snakes_of m) m.deaths) 1 1 p q refl refl

  swapped : (P : ℕ → Type 0) → P 1 → P 0 → (i : ℕ) → i < 2 → P i
  swapped P a b i h = of_two P b a i h

  longer_first : leads_in s t 0 1 ≡ true → (end_text m ≡ two_places 1 2) × (end_before m ≡ two_places 1 1)
  longer_first e =
      let z : 0 < 2 = omega arith in
      let o : 1 < 2 = omega arith in (
        two_said 0 1 of_two z o e 1 2 (winner 0 1 of_two z o e) (loser 0 1 of_two z o e) refl refl,
        two_before 0 1 of_two z o e (winner_before 0 1 of_two z o e) (loser_before 0 1 of_two z o e),
      )

  longer_second : leads_in s t 1 0 ≡ true → (end_text m ≡ two_places 2 1) × (end_before m ≡ two_places 1 1)
  longer_second e =
      let z : 0 < 2 = omega arith in
      let o : 1 < 2 = omega arith in (
        two_said 1 0 swapped o z e 2 1 (loser 1 0 swapped o z e) (winner 1 0 swapped o z e) refl refl,
        two_before 1 0 swapped o z e (loser_before 1 0 swapped o z e) (winner_before 1 0 swapped o z e),
      )

  -- which of the two leads
  which_leads : by_lead s t ≡ true → (leads_in s t 0 1 ≡ true) ⊎ (leads_in s t 1 0 ≡ true)
  which_leads e = elim (some_one (count t) (λ i. some_below (count t) (leads_in s t i)) e) [
    | found i h q ↦ elim (some_one (count t) (leads_in s t i) q) [
      | found j l r ↦
          let f = lead_facts s t i j r in
          let p : count t ≡ 2 = k.same ∙ k.accepted.lead_two f.lead f.set in
          of_two (λ i. (j : ℕ) → j < 2 → leads_in s t i j ≡ true → (leads_in s t 0 1 ≡ true) ⊎ (leads_in s t 1 0 ≡ true))
          (of_two (λ j. leads_in s t 0 j ≡ true → (leads_in s t 0 1 ≡ true) ⊎ (leads_in s t 1 0 ≡ true)) (λ v. absurd (omega (arith, (lead_facts s t 0 0 v).apart))) (λ v. inl v))
          (of_two (λ j. leads_in s t 1 j ≡ true → (leads_in s t 0 1 ≡ true) ⊎ (leads_in s t 1 0 ≡ true)) (λ v. inr v) (λ v. absurd (omega (arith, (lead_facts s t 1 1 v).apart))))
          i (omega arith) j (omega arith) r
    ]
  ]

  other_line : by_lead s t ≡ true → end_text m ≡ end_before m → ⊥
  other_line e q = elim (which_leads e) [
    | inl l ↦
        let p = longer_first l in
        let z : ◌≡◌ {A = ℕ} 50 49 = ap (λ (x : List ℕ). get_or x 4 0) (sym p.0 ∙ q ∙ p.1) in
        omega arith
    | inr l ↦
        let p = longer_second l in
        let z : ◌≡◌ {A = ℕ} 50 49 = ap (λ (x : List ℕ). get_or x 2 0) (sym p.0 ∙ q ∙ p.1) in
        omega arith
  ]

  placed_by : Placed m t
  placed_by = record {
    over = k.over;
    another = other_line;
    which = which_leads;
    first = longer_first;
    second = longer_second;
    others = same_line;
    living = λ e i h a. as_before i h (none_led s t i h e) ∙ lives_first i h a;
    dead = λ i h a. as_before i h (some_false (λ j. leads_in s t j i) (count t) (λ j _. corpse_unled (count t) (λ _. None) (snake_of t) s.win_food_lead j i a));
  }

pub places_by_lead : (t : Turn) → Reached t → Placed t.game t.next
places_by_lead t r = placed_by t.game t.next (known t r)

-- ---- every output

ends_on : (lines : List (List ℕ)) (x : Says Turn) → ((t : Turn) → x ≡ Ok t → Reached t) → Ending (play_on lines x)
unfolding play_on
ends_on [] (Err k) r = refused [] k refl
ends_on [] (Ok t) r = placed t.text t (r t refl) refl
ends_on (line ∷ lines) (Err k) r = refused [] k refl
ends_on (line ∷ lines) (Ok t) r =
    let rest = ends_on lines (turn_says t.game (image_of t.next) line 9253 1024) (λ u e. taken t line 9253 1024 (r t refl) e) in
    elim rest [
      | refused shown k q ↦ refused (t.text ++ shown) k (ap (λ (l : List ℕ). t.text ++ l) q ∙ sym (append_assoc t.text shown (refusal_text (code_of k))))
      | placed shown u v q ↦ placed (t.text ++ shown) u v (ap (λ (l : List ℕ). t.text ++ l) q ∙ sym (append_assoc t.text shown (end_text u.game)))
    ]

-- a replay ends by a refusal or by the places of a turn that it comes to
pub replay_ends : (input : List ℕ) → Ending (replay_of input)
unfolding replay_of
replay_ends input = go (lines_of input)
  where
    go : (lines : List (List ℕ)) → Ending (played lines)
    go [] = refused [] Refusal.Line refl
    go (line ∷ lines) = ends_on lines (begin_says line 9253) (λ t e. begun line 9253 e)
