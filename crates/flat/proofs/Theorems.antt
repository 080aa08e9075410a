-- The flat forms lose nothing: what is told, read again, is what it was; every setting can be said; a number that is no 32-bit grid is refused
-- by the grid's own number. Assumes nothing.
use Rattle.std.specs.Prelude.{Option, Some, None, Err}
use Prim.Native.Nat.{ℕ, ◌+◌, ◌-◌, ◌*◌, ◌/◌, ◌%◌, ◌<◌, ◌≤◌}
use mathlib.Core.Path.{◌≡◌, refl, sym, ap, ap₂, ◌∙◌}
use mathlib.Core.Bool.{Bool, true, false}
use mathlib.Core.List.{List, [], ◌∷◌}
use native.Mathlib.Omega.{arith}
use borrow.Author.Tests.{lt-ltb, le-ltb}
use lib.IntN.{ℤ, pos, negsuc}
use lib.ListN.{length, get_or, replicate}
use mir.Syntax.{w32}
use mir.Val.{SFits}
use Rattle.lists.specs.Choice.{bit}
use Rattle.lists.specs.Below.{each_below}
use Rattle.lists.proofs.Below.{each_ext, each_back}
use Rattle.rules.specs.Events.{blank}
use Rattle.rules.specs.Setting.{setting_order}
use Rattle.rules.specs.Says.{by_table}
use Rattle.rules.specs.Calls.{space_says}
use Rattle.rules.specs.declared.refusal.Refusal.{Refusal}
use Rattle.rules.specs.declared.Setting.{Setting}
use Rattle.rules.specs.declared.Cause.{Cause}
use Rattle.rules.specs.declared.Cause.TheVariants.{Wall, SelfBody, OppBody, HeadOn}
use Rattle.rules.specs.declared.Event.{Event}
use Rattle.rules.specs.Causes.{cause_in, cause_number}
use Rattle.standing.specs.Standing.{fresh}
use Rattle.standing.specs.declared.Match.{Match}
use Rattle.flat.specs.Flat.{flag_in, limit_in, grid_in, setting_in, event_in, event_bytes, events_bytes, refusal_number, refusal_in}
use Rattle.flat.specs.Games.{events_in, match_in, match_numbers}
use Rattle.flat.proofs.Read.{no_grid}
use Rattle.rules.specs.Refusals.{word_shown, refusal_by}

-- ---- an event

pub flag_back : (b : Bool) → flag_in (bit b) ≡ b
flag_back true = refl
flag_back false = refl

cause_back : (c : Option Cause) → cause_in (cause_number c) ≡ c
cause_back None = refl
cause_back (Some Wall) = refl
cause_back (Some SelfBody) = refl
cause_back (Some OppBody) = refl
cause_back (Some HeadOn) = refl

pub event_back : (e : Event) → event_in (event_bytes e) ≡ e
event_back e = λ i. record {
  ate_food = flag_back e.ate_food i;
  died = flag_back e.died i;
  death_cause = cause_back e.death_cause i;
  killed_opponent = flag_back e.killed_opponent i;
  won = flag_back e.won i;
  lost = flag_back e.lost i;
  drew = flag_back e.drew i;
  survived_to_max_ticks = flag_back e.survived_to_max_ticks i;
}

-- ---- tables of eight

eight_is : {A : Type 0} (l : List A) (d : A) → length l ≡ 8 → each_below 8 (λ i. get_or l i d) ≡ l
eight_is l d e = ap (λ (n : ℕ). each_below n (λ i. get_or l i d)) (sym e) ∙ each_back l d

eight_read : (es : List Event) → events_in (events_bytes es) ≡ each_below 8 (λ i. get_or es i blank)
unfolding events_in events_bytes each_below
eight_read es = simp event_back

pub events_back : (es : List Event) → length es ≡ 8 → events_in (events_bytes es) ≡ es
events_back es e = eight_read es ∙ eight_is es blank e

-- ---- a match

-- before the first move all is 0
pub new_match : (s : Setting) → match_numbers (fresh s) ≡ replicate 19 0
unfolding match_numbers each_below
new_match s = refl

flags_back : (l : List Bool) → length l ≡ 8 → each_below 8 (λ i. flag_in (bit (get_or l i false))) ≡ l
flags_back l e = each_ext 8 (λ i. flag_in (bit (get_or l i false))) (λ i. get_or l i false) (λ i h. flag_back (get_or l i false)) ∙ eight_is l false e

pub match_back : (m : Match) → length m.deaths ≡ 8 → length m.behind ≡ 8 → match_in m.setting (match_numbers m) ≡ m
unfolding match_in match_numbers each_below
match_back m p q = λ i. record {
  setting = m.setting;
  moves = m.moves;
  deaths = eight_is m.deaths 0 p i;
  behind = flags_back m.behind q i;
  over = flag_back m.over i;
  timeout = flag_back m.timeout i;
}

-- ---- a refusal

-- a number below 256 and a word below 65,536 are told by one number
told_back : (n at : ℕ) → n < 256 → at < 65536 → refusal_in (n + 256 * (at % 65536)) ≡ refusal_by n at
told_back n at h s =
    let e : n + 256 * (at % 65536) ≡ n + 256 * at = omega arith in
    let p : (n + 256 * at) % 256 ≡ n = omega arith in
    let q : (n + 256 * at) / 256 ≡ at = omega arith in
    ap refusal_in e ∙ ap₂ refusal_by p q

pub refusal_back : (k : Refusal) → word_shown k < 65536 → refusal_in (refusal_number k) ≡ k
refusal_back Refusal.Snakes s = refl
refusal_back Refusal.LengthZero s = refl
refusal_back Refusal.LeadZero s = refl
refusal_back Refusal.LeadNotTwo s = refl
refusal_back Refusal.Grid s = refl
refusal_back Refusal.FoodArea s = refl
refusal_back Refusal.Chain s = refl
refusal_back Refusal.Product s = refl
refusal_back Refusal.Untraceable s = refl
refusal_back Refusal.CellOutside s = refl
refusal_back Refusal.CellTaken s = refl
refusal_back Refusal.FoodFree s = refl
refusal_back Refusal.OtherSetting s = refl
refusal_back Refusal.FoodDue s = refl
refusal_back Refusal.NoneDue s = refl
refusal_back Refusal.ActionCount s = refl
refusal_back Refusal.Action s = refl
refusal_back Refusal.Agent s = refl
refusal_back Refusal.Outcome s = refl
refusal_back Refusal.Count s = refl
refusal_back Refusal.Buffer s = refl
refusal_back Refusal.List s = refl
refusal_back Refusal.Weight s = refl
refusal_back Refusal.Line s = refl
refusal_back Refusal.Over s = refl
refusal_back Refusal.Contents s = refl
refusal_back Refusal.Page s = refl
refusal_back Refusal.Pages s = refl
refusal_back (Refusal.CutShort at) s = told_back 50 at (omega arith) s
refusal_back (Refusal.OutOfRange at) s = told_back 51 at (omega arith) s
refusal_back (Refusal.Start at) s = told_back 52 at (omega arith) s
refusal_back (Refusal.Total at) s = told_back 53 at (omega arith) s
refusal_back (Refusal.CellBeyond at) s = told_back 54 at (omega arith) s
refusal_back (Refusal.CellTwice at) s = told_back 55 at (omega arith) s
refusal_back (Refusal.FoodOrder at) s = told_back 56 at (omega arith) s
refusal_back Refusal.UnitCount s = refl
refusal_back Refusal.UnitNumber s = refl

-- ---- a setting, as a caller says it

abbrev pub grid_number : ℤ → ℕ
grid_number (pos n) = n
grid_number (negsuc n) = 18446744073709551615 - n

pub grid_back : (z : ℤ) → SFits w32 z → grid_in (grid_number z) ≡ z
unfolding grid_in
grid_back (pos n) f = rw (lt-ltb n 2147483648 f.sfits)
grid_back (negsuc n) f =
    let h : n < 2147483648 = f.sfits in
    let e : 18446744073709551615 - (18446744073709551615 - n) ≡ n = omega arith in
    rw (le-ltb (18446744073709551615 - n) 2147483648 (omega arith), le-ltb (18446744073709551615 - n) 18446744071562067968 (omega arith), e)

abbrev limit_set : Option ℕ → ℕ
limit_set None = 0
limit_set (Some n) = 1

abbrev limit_number : Option ℕ → ℕ
limit_number None = 0
limit_number (Some n) = n

limit_back : (l : Option ℕ) → limit_in (limit_set l) (limit_number l) ≡ l
limit_back None = refl
limit_back (Some n) = refl

abbrev pub setting_numbers : Setting → List ℕ
setting_numbers s =
    s.num_snakes ∷ grid_number s.grid_size ∷ s.initial_length ∷ bit s.play_to_last ∷ limit_set s.win_food_lead ∷ limit_number s.win_food_lead ∷ s.initial_food_count
    ∷ limit_set s.max_ticks ∷ limit_number s.max_ticks ∷ []

pub setting_back : (s : Setting) → SFits w32 s.grid_size → setting_in (setting_numbers s) ≡ s
setting_back s f = λ i. record {
  num_snakes = s.num_snakes;
  grid_size = grid_back s.grid_size f i;
  initial_length = s.initial_length;
  play_to_last = flag_back s.play_to_last i;
  win_food_lead = limit_back s.win_food_lead i;
  initial_food_count = s.initial_food_count;
  max_ticks = limit_back s.max_ticks i;
}

-- ---- a number that no 32 bits hold: the row of 5 holds

module _ (n : ℕ) (low : 2147483648 ≤ n) (high : n < 18446744071562067968) where
  pub no_grid_setting : (s : List ℕ) → get_or s 1 0 ≡ n → get_or (setting_order (setting_in s)) 4 (Refusal.Buffer, false) ≡ (Refusal.Grid, true)
  no_grid_setting s e = rw (e, ← no_grid n low high)

  pub no_grid_space : space_says (grid_in n) ≡ Err Refusal.Grid
  unfolding space_says by_table
  no_grid_space = rw (← no_grid n low high)
