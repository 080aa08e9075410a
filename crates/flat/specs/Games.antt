-- A match as nineteen numbers, beside the setting's nine: moves, over, timeout, eight deaths, eight that lost and live; and a step's events, read.
-- Assumes nothing.
use Rattle.std.specs.Prelude.{ℕ, ◌+◌, false, List, [], ◌∷◌, ◌++◌, get_or}
use Rattle.lists.specs.Choice.{bit}
use Rattle.lists.specs.Below.{each_below}
use Rattle.rules.specs.declared.Event.{Event}
use Rattle.rules.specs.declared.Setting.{Setting}
use Rattle.standing.specs.declared.Match.{Match}
use Rattle.flat.specs.Flat.{flag_in, event_in}

-- the eight events of a step
unfoldable pub events_in : List (List ℕ) → List Event
events_in es = each_below 8 (λ i. event_in (get_or es i []))

-- every number is read: a flag is set where it is not 0
unfoldable pub match_in : Setting → List ℕ → Match
match_in s m = record {
  setting = s;
  moves = get_or m 0 0;
  deaths = each_below 8 (λ i. get_or m (3 + i) 0);
  behind = each_below 8 (λ i. flag_in (get_or m (11 + i) 0));
  over = flag_in (get_or m 1 0);
  timeout = flag_in (get_or m 2 0);
}

unfoldable pub match_numbers : Match → List ℕ
match_numbers m =
    m.moves ∷ bit m.over ∷ bit m.timeout ∷ (each_below 8 (λ i. get_or m.deaths i 0) ++ each_below 8 (λ i. bit (get_or m.behind i false)))
