-- A step's events and a match, read and told part by part. Assumes nothing.
use Prim.Native.Nat.{ℕ}
use mathlib.Core.Path.{◌≡◌, refl}
use mathlib.Core.Bool.{false, not}
use mathlib.Core.List.{List, [], ◌∷◌}
use lib.Dec.{eqb}
use lib.ListN.{get_or}
use Rattle.lists.specs.Choice.{bit}
use Rattle.lists.specs.Below.{each_below}
use Rattle.rules.specs.declared.Event.{Event}
use Rattle.rules.specs.declared.Setting.{Setting}
use Rattle.standing.specs.declared.Match.{Match}
use Rattle.flat.specs.Flat.{event_in}
use Rattle.flat.specs.Games.{events_in, match_in, match_numbers}

pub events_read : (es : List (List ℕ)) (a b c d e f g h : Event) → a ≡ event_in (get_or es 0 []) → b ≡ event_in (get_or es 1 []) → c ≡ event_in (get_or es 2 []) → d ≡ event_in (get_or es 3 [])
    → e ≡ event_in (get_or es 4 []) → f ≡ event_in (get_or es 5 []) → g ≡ event_in (get_or es 6 []) → h ≡ event_in (get_or es 7 []) → (a ∷ b ∷ c ∷ d ∷ e ∷ f ∷ g ∷ h ∷ []) ≡ events_in es
unfolding events_in each_below
events_read es a b c d e f g h pa pb pc pd pe pf pg ph = rw (pa, pb, pc, pd, pe, pf, pg, ph)

pub match_read : (s : Setting) (m : List ℕ)
    → record {
      setting = s;
      moves = get_or m 0 0;
      deaths = get_or m 3 0 ∷ get_or m 4 0 ∷ get_or m 5 0 ∷ get_or m 6 0 ∷ get_or m 7 0 ∷ get_or m 8 0 ∷ get_or m 9 0 ∷ get_or m 10 0 ∷ [];
      behind = not (eqb (get_or m 11 0) 0) ∷ not (eqb (get_or m 12 0) 0) ∷ not (eqb (get_or m 13 0) 0) ∷ not (eqb (get_or m 14 0) 0) ∷ not (eqb (get_or m 15 0) 0) ∷ not (eqb (get_or m 16 0) 0) ∷ not (eqb (get_or m 17 0) 0) ∷ not (eqb (get_or m 18 0) 0) ∷ [];
      over = not (eqb (get_or m 1 0) 0);
      timeout = not (eqb (get_or m 2 0) 0);
    } ≡ match_in s m
unfolding match_in each_below
match_read s m = refl

pub match_told : (m : Match) (o t a b c d e f g h : ℕ) → o ≡ bit m.over → t ≡ bit m.timeout
    → a ≡ bit (get_or m.behind 0 false) → b ≡ bit (get_or m.behind 1 false) → c ≡ bit (get_or m.behind 2 false) → d ≡ bit (get_or m.behind 3 false)
    → e ≡ bit (get_or m.behind 4 false) → f ≡ bit (get_or m.behind 5 false) → g ≡ bit (get_or m.behind 6 false) → h ≡ bit (get_or m.behind 7 false)
    → (m.moves ∷ o ∷ t ∷ get_or m.deaths 0 0 ∷ get_or m.deaths 1 0 ∷ get_or m.deaths 2 0 ∷ get_or m.deaths 3 0 ∷ get_or m.deaths 4 0 ∷ get_or m.deaths 5 0 ∷ get_or m.deaths 6 0 ∷ get_or m.deaths 7 0 ∷ a ∷ b ∷ c ∷ d ∷ e ∷ f ∷ g ∷ h ∷ []) ≡ match_numbers m
unfolding match_numbers each_below
match_told m o t a b c d e f g h po pt pa pb pc pd pe pf pg ph = rw (po, pt, pa, pb, pc, pd, pe, pf, pg, ph)
