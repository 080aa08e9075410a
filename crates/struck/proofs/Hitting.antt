-- Each hit by its cause, all of them, and the promise from either end. Assumes nothing.
use Rattle.std.specs.Prelude.{Option, Some, None, Ok, Err, is_some}
use Prim.Native.Nat.{ℕ, ◌+◌, ◌<◌, ◌≤◌}
use native.Mathlib.Omega.{arith}
use mathlib.Core.Path.{◌≡◌, refl, sym, ap, ◌∙◌}
use mathlib.Core.Bool.{Bool}
use mathlib.Core.List.{List}
use lib.Dec.{ltb}
use lib.ListN.{length, get_or, set, replicate}
use borrow.Author.Tests.{lt-ltb}
use Rattle.lists.specs.Choice.{◌if◌else◌}
use Rattle.lists.specs.Below.{each_below, lowest_from, filled}
use Rattle.lists.specs.Lists.{place}
use Rattle.lists.proofs.Lowest.{lowest_same}
use Rattle.lists.proofs.Search.{found_member, found_place}
use Rattle.rules.specs.Grid.{cell_of}
use Rattle.rules.specs.State.{nobody}
use Rattle.rules.specs.Image.{snakes_in, side_in, state_of}
use Rattle.rules.specs.Facts.{Sound}
use Rattle.rules.specs.Step.{Moved, stays, moved_of, cause_of}
use Rattle.rules.specs.Struck.{no_hit, stops_head, hit_by, hit_of, hits_in}
use Rattle.rules.specs.Says.{Says, seen}
use Rattle.rules.specs.Orders.{asked_order}
use Rattle.rules.specs.Calls.{struck_says}
use Rattle.rules.specs.Promises.{Strikes}
use Rattle.rules.specs.declared.Cause.{Cause}
use Rattle.rules.specs.declared.Cause.TheVariants.{Wall, SelfBody, OppBody, HeadOn}
use Rattle.rules.specs.declared.Hit.{Hit}
use Rattle.rules.specs.declared.refusal.Refusal.{Refusal}
use Rattle.rules.specs.declared.Setting.{Setting}
use Rattle.rules.proofs.Parts.{state_count}
use Rattle.rules.proofs.Struck.{apart_rest, self_holds, opp_tests, met_below, hit_behind}
use Rattle.rules.proofs.Tables.{table_seen}
use Rattle.judge.specs.declared.Move.{Move}
use Rattle.judge.specs.declared.Judged.{Judged}
use Rattle.judge.specs.World.{still, world, causes_of, judged_world, Judges}
use Rattle.judge.specs.Loops.{Filling}
use Rattle.judge.specs.Judging.{RestFound, Judging, HitFits, hit_in, stops_at, Stopped}
use Rattle.judge.proofs.Loops.{fill_none, fill_next, fill_all}
use Rattle.judge.proofs.Judging.{found_fits, judging_at, cause_judged}
use Rattle.step.specs.Asked.{Asks}
use Rattle.struck.specs.Own.{own_at, OwnHit}

-- ---- what a snake hits of itself

module _ (w : List ℕ) (all : List Move) (i : ℕ) (f : Option ℕ) (e : RestFound w i (get_or all i still) (get_or all i still).cell f) where
  abbrev rest : List ℕ
  rest = (world w all i).rest

  abbrev cell : ℕ
  cell = (get_or all i still).cell

  own_by : {b : Bool} → is_some f ≡ b → (h : Option Hit) → h ≡ (Some (hit_in i (place cell rest)) if b else no_hit) → OwnHit w all i h
  own_by t h p = record { is = p ∙ sym (ap (λ (b : Bool). Some (hit_in i (place cell rest)) if b else no_hit) (sym (found_member cell rest) ∙ ap is_some (sym e.is) ∙ t)) }

  pub own_none : f ≡ None → OwnHit w all i None
  own_none q = own_by (ap is_some q) None refl

  module _ (k : ℕ) (q : f ≡ Some k) where
    pub own_fits : (n : ℕ) → Judging w all n i → HitFits i k
    own_fits n j = found_fits w all n i j i j.one cell k (sym q ∙ e.is)

    pub own_at_lem : (h : Hit) → h ≡ hit_in i k → OwnHit w all i (Some h)
    own_at_lem h p = own_by (ap is_some q) (Some h) (ap Some (p ∙ ap (hit_in i) (found_place cell rest k (sym q ∙ e.is))))

-- ---- whom a snake hits, by its cause c

module _ (w : List ℕ) (all : List Move) (n i : ℕ) (q : Judging w all n i) (c : Option Cause) (e : c ≡ cause_of (side_in w) n (world w all) i) where
  abbrev m : ℕ → Moved
  m = world w all

  hit_by_lem : (d : Option Cause) → c ≡ d → (h : Option Hit) → h ≡ hit_by (side_in w) n m i d → h ≡ hit_of (side_in w) n m i
  hit_by_lem d t h p = p ∙ ap (hit_by (side_in w) n m i) (sym t ∙ e)

  pub hit_free : c ≡ None → None ≡ hit_of (side_in w) n m i
  hit_free t = hit_by_lem None t None refl

  pub hit_wall : c ≡ (Some Wall) → None ≡ hit_of (side_in w) n m i
  hit_wall t = hit_by_lem (Some Wall) t None refl

  pub hit_heads : c ≡ (Some HeadOn) → None ≡ hit_of (side_in w) n m i
  hit_heads t = hit_by_lem (Some HeadOn) t None refl

  pub hit_own : c ≡ (Some SelfBody) → (h : Option Hit) → OwnHit w all i h → h ≡ hit_of (side_in w) n m i
  hit_own t h p =
      let x = cell_of (side_in w) (m i).head in
      hit_by_lem (Some SelfBody) t h (p.is
      ∙ ap (own_at w all i) (q.rests.cells i)
      ∙ ap (λ (b : Bool). Some (hit_in i (place x (m i).rest)) if b else no_hit) (self_holds (side_in w) n m i (sym e ∙ t)))

  pub hit_other : c ≡ (Some OppBody) → (h : Option Hit) → Stopped w all n i (get_or all i still).cell h → h ≡ hit_of (side_in w) n m i
  hit_other t h p =
      let x = cell_of (side_in w) (m i).head in
      let o : cause_of (side_in w) n m i ≡ (Some OppBody) = sym e ∙ t in
      let one = lowest_same (stops_at w all i x) (stops_head (side_in w) n m i) n (λ k l. sym (apart_rest (side_in w) n m i (opp_tests (side_in w) n m i o).0 k l)) in
      let met = lowest_from (stops_head (side_in w) n m i) 0 n in
      p.is
      ∙ ap (λ (x : ℕ). let j = lowest_from (stops_at w all i x) 0 n in Some (hit_in j (place x (m j).rest)) if ltb j n else no_hit) (q.rests.cells i)
      ∙ ap (λ (j : ℕ). Some (hit_in j (place x (m j).rest)) if ltb j n else no_hit) one
      ∙ ap (λ (b : Bool). Some (hit_in met (place x (m met).rest)) if b else no_hit) (lt-ltb met n (met_below (side_in w) n m i o))
      ∙ sym (hit_behind (side_in w) n m i o)

-- ---- all of them

module _ (w acts : List ℕ) (s : Sound w) (pl : length acts ≡ snakes_in w) (js : Judged) (q : Judges w acts js) where
  abbrev hit : ℕ → Option Hit
  hit = hit_of (side_in w) (length acts) (judged_world w js)

  pub hit_judging : (i : ℕ) → i < length acts → Judging w js.moves (length acts) i
  hit_judging = judging_at w acts s js.moves q.moves pl

  pub cause_handed : (i : ℕ) → i < length acts → causes_of js i ≡ cause_of (side_in w) (length acts) (judged_world w js) i
  cause_handed i l = cause_judged w acts js q i (omega (arith, pl)) ∙ (λ t. cause_of (side_in w) (sym pl t) (judged_world w js) i)

  pub hits_none : Filling hit no_hit (length acts) 0 (replicate 8 no_hit)
  hits_none = fill_none hit no_hit (length acts) (omega (arith, s.snakes_max))

  module _ (i : ℕ) (hs : List (Option Hit)) (f : Filling hit no_hit (length acts) i hs) where
    pub hits_next : i < length acts → (h : Option Hit) → h ≡ hit i → Filling hit no_hit (length acts) (i + 1) (set hs i h)
    hits_next l h e = fill_next hit no_hit (length acts) i hs f l h e

    pub hits_all : length acts ≤ i → hs ≡ hits_in (state_of w) acts
    unfolding hits_in state_of
    hits_all l =
        let e = state_count w in
        fill_all hit no_hit (length acts) i hs f l
        ∙ (λ t. filled (hit_of (side_in w) (pl t) (q.moved t)) (pl t) 8 no_hit)
        ∙ sym (λ t. filled (hit_of (side_in w) (e t) (λ i. get_or (each_below (e t) (moved_of (state_of w) acts)) i (stays nobody))) (e t) 8 no_hit)

-- ---- the promise: v is the verdict

module _ (s : Setting) (w acts : List ℕ) (v : Says (Unit {0})) (a : Asks s w acts v) where
  struck_says_lem : struck_says s w acts ≡ seen (λ u. hits_in (state_of w) acts) v
  unfolding struck_says
  struck_says_lem = sym (table_seen (λ (u : Unit {0}). hits_in (state_of w) acts) (asked_order s w acts) tt) ∙ ap (seen (λ (u : Unit {0}). hits_in (state_of w) acts)) (sym a.answer)

  pub strikes_refused : (k : Refusal) → v ≡ Err k → Strikes s w acts (Err k)
  strikes_refused k t = record { answer = sym (struck_says_lem ∙ ap (seen (λ (u : Unit {0}). hits_in (state_of w) acts)) t) }

  pub strikes_done : v ≡ (Ok tt) → (hs : List (Option Hit)) → hs ≡ hits_in (state_of w) acts → Strikes s w acts (Ok hs)
  strikes_done t hs p = record { answer = ap Ok p ∙ sym (struck_says_lem ∙ ap (seen (λ (u : Unit {0}). hits_in (state_of w) acts)) t) }
