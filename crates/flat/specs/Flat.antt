-- What a caller's flat numbers mean, and what is told in flat numbers. Assumes nothing.
use Rattle.std.specs.Prelude.{ℕ, ◌+◌, ◌-◌, ◌*◌, ◌/◌, ◌%◌, Bool, not, List, [], ◌∷◌, eqb, ltb, ℤ, pos, negsuc, Float, get_or, Option, Some, None}
use Rattle.std.specs.Float.{nan}
use Rattle.lists.specs.Choice.{◌if◌else◌, bit}
use Rattle.lists.specs.Below.{each_below}
use Rattle.rules.specs.Events.{blank}
use Rattle.rules.specs.Causes.{cause_number, cause_in}
use Rattle.rules.specs.declared.refusal.Refusal.{Refusal}
use Rattle.rules.specs.declared.Setting.{Setting}
use Rattle.rules.specs.declared.Weights.{Weights}
use Rattle.rules.specs.declared.Event.{Event}
use Rattle.rules.specs.declared.Hit.{Hit}
use Rattle.rules.specs.Refusals.{code_of, word_shown, refusal_by}

-- ---- what a caller's numbers mean

-- 0 no, any other number yes
abbrev pub flag_in : ℕ → Bool
flag_in n = not (eqb n 0)

abbrev pub limit_in : ℕ → ℕ → Option ℕ
limit_in set n = None if eqb set 0 else Some n

-- a 32-bit signed number as 64 bits of two's complement; any other is read as 2^31 - 1, which is above every grid
unfoldable pub grid_in : ℕ → ℤ
grid_in n = pos n if ltb n 2147483648 else pos 2147483647 if ltb n 18446744071562067968 else negsuc (18446744073709551615 - n)

-- nine numbers
abbrev pub setting_in : List ℕ → Setting
setting_in s = record {
  num_snakes = get_or s 0 0;
  grid_size = grid_in (get_or s 1 0);
  initial_length = get_or s 2 0;
  play_to_last = flag_in (get_or s 3 0);
  win_food_lead = limit_in (get_or s 4 0) (get_or s 5 0);
  initial_food_count = get_or s 6 0;
  max_ticks = limit_in (get_or s 7 0) (get_or s 8 0);
}

-- seven numbers
abbrev pub weights_in : List Float → Weights
weights_in w = record {
  step = get_or w 0 nan;
  food = get_or w 1 nan;
  loss = get_or w 2 nan;
  draw = get_or w 3 nan;
  kill = get_or w 4 nan;
  win = get_or w 5 nan;
  survival = get_or w 6 nan;
}

-- eight bytes; a cause above 4 is none
abbrev pub event_in : List ℕ → Event
event_in e = record {
  ate_food = flag_in (get_or e 0 0);
  died = flag_in (get_or e 1 0);
  death_cause = cause_in (get_or e 2 0);
  killed_opponent = flag_in (get_or e 3 0);
  won = flag_in (get_or e 4 0);
  lost = flag_in (get_or e 5 0);
  drew = flag_in (get_or e 6 0);
  survived_to_max_ticks = flag_in (get_or e 7 0);
}

-- ---- what is told

-- a refusal as one number: the paper's, and 256 times the word. No refusal's word is above 65,535 (proofs/Words: `fault_word`)
abbrev pub refusal_number : Refusal → ℕ
refusal_number k = code_of k + 256 * (word_shown k % 65536)

-- and what such a number says
abbrev pub refusal_in : ℕ → Refusal
refusal_in r = refusal_by (r % 256) (r / 256)

abbrev pub event_bytes : Event → List ℕ
event_bytes e =
    bit e.ate_food ∷ bit e.died ∷ cause_number e.death_cause ∷ bit e.killed_opponent ∷ bit e.won ∷ bit e.lost ∷ bit e.drew ∷ bit e.survived_to_max_ticks ∷ []

-- the eight events of a step
unfoldable pub events_bytes : List Event → List (List ℕ)
events_bytes es = each_below 8 (λ i. event_bytes (get_or es i blank))

-- the snake that was hit, and the position; 8 and 0 where nobody was
abbrev pub hit_words : Option Hit → List ℕ
hit_words None = 8 ∷ 0 ∷ []
hit_words (Some h) = h.snake ∷ h.position ∷ []

-- what stands past eight hits: nothing asks for it
abbrev pub unhit : Option Hit
unhit = None

-- the eight hits
unfoldable pub hits_words : List (Option Hit) → List (List ℕ)
hits_words hs = each_below 8 (λ i. hit_words (get_or hs i unhit))
