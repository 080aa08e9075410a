-- A hit is told exactly for the two causes by a body; what stands at its position, and that nothing stands there before it. Assumes nothing.
use Rattle.std.specs.Prelude.{Option, Some, None, is_some}
use Prim.Native.Nat.{ℕ, zero, suc, ◌<◌, ◌≤◌}
use native.Mathlib.Omega.{arith}
use mathlib.Core.Path.{◌≡◌, refl, sym, ap, subst, ◌∙◌}
use mathlib.Core.Bool.{Bool, true, false, not, ◌&&◌, ◌||◌, and-false}
use lib.Dec.{ltb, eqb}
use lib.IntN.{pos}
use lib.ListN.{length, get_or}
use borrow.Author.Tests.{not-true, eq-eqb, lt-ltb, ltb-true}
use Rattle.lists.specs.Choice.{◌if◌else◌}
use Rattle.lists.specs.Below.{lowest_from}
use Rattle.lists.specs.Lists.{member, place}
use Rattle.lists.proofs.Tests.{and_left, and_right, or_second, both}
use Rattle.lists.proofs.Below.{some_never}
use Rattle.lists.proofs.Lowest.{none_lower, lowest_holds, some_lowest}
use Rattle.lists.proofs.Members.{clash, place_lt, get_d_place, place_first}
use Rattle.rules.specs.Grid.{inside, same, cell_of}
use Rattle.rules.specs.Step.{Moved, another, on_body, cause_of}
use Rattle.rules.specs.Struck.{no_hit, behind_head, stops_head, hit_by, hit_of, strikes, stands_at, FirstBehind, HitsItself, HitsAnother}
use Rattle.rules.specs.declared.Cause.{Cause}
use Rattle.rules.specs.declared.Cause.TheVariants.{Wall, SelfBody, OppBody, HeadOn}
use Rattle.rules.specs.declared.Place.{Place}

-- ---- the tests behind a cause

abbrev Apart : Type 0
Apart = ◌≡◌ {A = ℕ} 0 1

abbrev chosen : Bool → Bool → Bool → Bool → Bool → Option Cause
chosen a b c d e = None if not a else (Some HeadOn) if b else (Some Wall) if not c else (Some SelfBody) if d else (Some OppBody) if e else None

self_only : (a b c d e : Bool) → chosen a b c d e ≡ (Some SelfBody) → d ≡ true
self_only false b c d e h = let z : Apart = cc in absurd (omega arith)
self_only true true c d e h = let z : Apart = cc in absurd (omega arith)
self_only true false false d e h = let z : Apart = cc in absurd (omega arith)
self_only true false true true e h = refl
self_only true false true false true h = let z : Apart = cc in absurd (omega arith)
self_only true false true false false h = let z : Apart = cc in absurd (omega arith)

opp_only : (a b c d e : Bool) → chosen a b c d e ≡ (Some OppBody) → (b ≡ false) × (e ≡ true)
opp_only false b c d e h = let z : Apart = cc in absurd (omega arith)
opp_only true true c d e h = let z : Apart = cc in absurd (omega arith)
opp_only true false false d e h = let z : Apart = cc in absurd (omega arith)
opp_only true false true true e h = let z : Apart = cc in absurd (omega arith)
opp_only true false true false true h = (refl, refl)
opp_only true false true false false h = let z : Apart = cc in absurd (omega arith)

-- ---- where no two heads meet, a head on another's cell is on its rest

only_rest : (x a b : Bool) → (x && a) ≡ false → (x && (a || b)) ≡ (x && b)
only_rest true a b e = rw e
only_rest false a b e = refl

pub apart_rest : (g n : ℕ) (m : ℕ → Moved) (i : ℕ) → another g n m i (λ j. same (m i).head (m j).head) ≡ false
    → (j : ℕ) → j < n → stops_head g n m i j ≡ (not (eqb i j) && (m j).moves && member (cell_of g (m i).head) (m j).rest)
apart_rest g n m i e j l =
    only_rest (not (eqb i j) && (m j).moves) (same (m i).head (m j).head) (member (cell_of g (m i).head) (m j).rest)
    (some_never (λ j. not (eqb i j) && (m j).moves && same (m i).head (m j).head) n j l e)

-- ---- the first cell behind the head

-- none before it is at p
before : (g : ℕ) (p : Place) (z : Moved) (l : ℕ) → 1 ≤ l → l < behind_head g p z → stands_at g p z l ≡ false
before g p z zero a b = absurd (omega arith)
before g p z (suc l) a b = ap (λ (t : Bool). ltb l (length z.rest) && t) (place_first (cell_of g p) z.rest l (omega arith)) ∙ and-false (ltb l (length z.rest))

pub first_behind : (g : ℕ) (p : Place) (z : Moved) → member (cell_of g p) z.rest ≡ true → FirstBehind g p z (behind_head g p z)
first_behind g p z m =
    let x = cell_of g p in
    record {
      behind = omega arith;
      first = before g p z;
      there = both (lt-ltb (place x z.rest) (length z.rest) (place_lt x z.rest m)) (eq-eqb x (get_or z.rest (place x z.rest) 0) (sym (get_d_place x z.rest m)));
    }

-- ---- snake i of n

module _ (g n : ℕ) (m : ℕ → Moved) (i : ℕ) where
  -- a head is met; a body is
  abbrev head_met : Bool
  head_met = another g n m i (λ j. same (m i).head (m j).head)

  abbrev body_met : Bool
  body_met = another g n m i (on_body g n m (m i).head)

  abbrev meets : ℕ → Bool
  meets j = not (eqb i j) && (m j).moves && same (m i).head (m j).head

  pub self_holds : cause_of g n m i ≡ (Some SelfBody) → member (cell_of g (m i).head) (m i).rest ≡ true
  unfolding cause_of
  self_holds h = self_only (m i).moves head_met (inside (pos g) (m i).head) (member (cell_of g (m i).head) (m i).rest) body_met h

  pub opp_tests : cause_of g n m i ≡ (Some OppBody) → (head_met ≡ false) × (body_met ≡ true)
  unfolding cause_of
  opp_tests h = opp_only (m i).moves head_met (inside (pos g) (m i).head) (member (cell_of g (m i).head) (m i).rest) body_met h

  pub hits_itself : cause_of g n m i ≡ (Some SelfBody) → HitsItself g m i (hit_of g n m i)
  hits_itself h = rw h (record { hit = record { snake = i; position = behind_head g (m i).head (m i) }; told = refl; itself = refl; at = first_behind g (m i).head (m i) (self_holds h) })

  module _ (h : cause_of g n m i ≡ (Some OppBody)) where
    abbrev met : ℕ
    met = lowest_from (stops_head g n m i) 0 n

    pub met_below : met < n
    met_below = ltb-true met n (sym (some_lowest (stops_head g n m i) n) ∙ (opp_tests h).1)

    met_stops : stops_head g n m i met ≡ true
    met_stops = lowest_holds (stops_head g n m i) n met_below

    met_living : (not (eqb i met) && (m met).moves) ≡ true
    met_living = and_left (not (eqb i met) && (m met).moves) (on_body g n m (m i).head met) met_stops

    met_apart : same (m i).head (m met).head ≡ false
    met_apart = sym (ap (λ (b : Bool). b && same (m i).head (m met).head) met_living) ∙ some_never meets n met met_below (opp_tests h).0

    pub met_holds : member (cell_of g (m i).head) (m met).rest ≡ true
    met_holds = or_second (same (m i).head (m met).head) (member (cell_of g (m i).head) (m met).rest) met_apart (and_right (not (eqb i met) && (m met).moves) (on_body g n m (m i).head met) met_stops)

    -- no head was hit
    pub hit_behind : hit_of g n m i ≡ Some (record { snake = met; position = behind_head g (m i).head (m met) })
    hit_behind = ap (hit_by g n m i) h ∙ (λ t. Some (record { snake = met; position = 0 if met_apart t else behind_head g (m i).head (m met) }))

    another_hit : HitsAnother g n m i (Some (record { snake = met; position = behind_head g (m i).head (m met) }))
    another_hit = record {
      hit = record { snake = met; position = behind_head g (m i).head (m met) };
      told = refl;
      below = met_below;
      other = λ e. clash (eq-eqb i met (sym e)) (not-true (eqb i met) (and_left (not (eqb i met)) (m met).moves met_living));
      living = and_right (not (eqb i met)) (m met).moves met_living;
      apart = met_apart;
      at = first_behind g (m i).head (m met) met_holds;
      lowest = λ j l. none_lower (stops_head g n m i) n j l;
    }

    pub hits_another : HitsAnother g n m i (hit_of g n m i)
    hits_another = subst (HitsAnother g n m i) (sym hit_behind) another_hit

  -- a hit is told exactly for these causes
  pub hit_told : is_some (hit_of g n m i) ≡ strikes (cause_of g n m i)
  hit_told = go (cause_of g n m i) refl
    where
      go : (c : Option Cause) → cause_of g n m i ≡ c → is_some (hit_of g n m i) ≡ strikes (cause_of g n m i)
      go None e = rw e
      go (Some Wall) e = rw e
      go (Some SelfBody) e = rw e
      go (Some OppBody) e = rw e
      go (Some HeadOn) e = rw e

  pub hit_else : strikes (cause_of g n m i) ≡ false → hit_of g n m i ≡ no_hit
  hit_else h = go (cause_of g n m i) refl
    where
      go : (c : Option Cause) → cause_of g n m i ≡ c → hit_of g n m i ≡ no_hit
      go None e = ap (hit_by g n m i) e
      go (Some Wall) e = ap (hit_by g n m i) e
      go (Some SelfBody) e = absurd (clash (ap strikes e) h)
      go (Some OppBody) e = absurd (clash (ap strikes e) h)
      go (Some HeadOn) e = ap (hit_by g n m i) e
