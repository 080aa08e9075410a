-- Who lost on a move and lives, noted snake by snake; a placing by it; how many snakes a match has. Assumes nothing.
use Rattle.std.proofs.Common.{ℕ, ◌+◌, ◌<◌, ◌≤◌, ◌≡◌, ap, ◌∙◌, Bool, true, false, List, arith, get_or, length, replicate}
use Rattle.std.proofs.lemmas.List.{get_or_default}
use Rattle.std.proofs.Math.ListN.{set}
use Rattle.lists.specs.Below.{filled}
use Rattle.lists.proofs.Below.{filled_none, filled_more}
use Rattle.rules.specs.Events.{blank}
use Rattle.rules.specs.declared.Event.{Event}
use Rattle.std.proofs.lemmas.Bool.Decides.{nat_tests}
use Rattle.standing.specs.Placings.{placing_of, end_placing}
use Rattle.standing.specs.Standing.{snakes_of, lost_alive, behind_at, behind_after}
use Rattle.standing.specs.declared.Match.{Match}

-- ---- the first i snakes noted

pub record Noted (es : List Event) (i : ℕ) (out : List Bool) : Type 0 where
  pub within : i ≤ 8
  pub table : out ≡ filled (behind_at es) i 8 false

module _ (es : List Event) where
  pub noted_none : (out : List Bool) → out ≡ replicate 8 false → Noted es 0 out
  noted_none out p = record { within = omega arith; table = p ∙ filled_none (behind_at es) 8 false }

  module _ (i : ℕ) (out : List Bool) (m : Noted es i out) where
    pub noted_next : i < 8 → i < length es → (b : Bool) (d : Event) → b ≡ lost_alive (get_or es i d) → Noted es (i + 1) (set out i b)
    noted_next h l b d p =
        let q : b ≡ lost_alive (get_or es i blank) = p ∙ ap lost_alive (get_or_default es i d blank l) in
        record {
          within = omega arith;
          table = ap (λ (x : List Bool). set x i b) m.table ∙ rw q (filled_more (behind_at es) i 8 false h);
        }

    pub noted_all : 8 ≤ i → out ≡ behind_after es
    noted_all h = let e : i ≡ 8 = omega (arith, m.within) in rw e at m.table

-- ---- a placing

module _ (n : ℕ) (deaths : List ℕ) (behind : List Bool) (i : ℕ) where
  pub placed_behind : get_or behind i false ≡ true → 2 ≡ end_placing n deaths behind i
  unfolding end_placing
  placed_behind e = rw e

  pub placed_else : get_or behind i false ≡ false → (r : ℕ) → r ≡ placing_of n deaths i → r ≡ end_placing n deaths behind i
  unfolding end_placing
  placed_else e r p = rw (e, p)

pub at_most_eight : (m : Match) → snakes_of m ≤ 8
at_most_eight m = grind (arith, nat_tests)
