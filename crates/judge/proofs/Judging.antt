-- A cause by its five tests, the tests on an array of moves, and what the judged moves say. Assumes nothing.
use Rattle.std.specs.Prelude.{Option, Some, None, is_some}
use Prim.Native.Nat.{ℕ, ◌+◌, ◌-◌, ◌*◌, ◌<◌, ◌≤◌}
use native.Mathlib.Omega.{arith}
use mathlib.Core.Path.{◌≡◌, refl, sym, ap, ◌∙◌}
use mathlib.Core.Bool.{Bool, true, false, not, ◌&&◌, ◌||◌, and-false, false≢true}
use mathlib.Core.List.{List}
use lib.Dec.{eqb, ltb}
use lib.IntN.{pos}
use lib.ListN.{length, get_or, take, drop, set, replicate}
use borrow.Author.Tests.{not-true, not-false, lt-ltb, le-ltb}
use Rattle.lists.specs.Choice.{◌if◌else◌}
use Rattle.lists.specs.Below.{some_below, each_below, lowest_from, filled}
use Rattle.lists.specs.Lists.{member, place}
use Rattle.lists.specs.Search.{found_in}
use Rattle.lists.proofs.Lists.{rest_is, part_long}
use Rattle.lists.proofs.Lowest.{some_lowest, Passing, pass_here, pass_on, pass_all}
use Rattle.lists.proofs.Members.{place_lt}
use Rattle.lists.proofs.Search.{found_member, found_holds, found_place}
use Rattle.lists.proofs.Missing.{missing_part}
use Rattle.lists.proofs.Tests.{ordered, less, more}
use Rattle.lists.proofs.Below.{some_ext, some_false, each_at, each_past, filled_is}
use Rattle.rules.specs.Grid.{same, inside, cell_of}
use Rattle.rules.specs.State.{nobody}
use Rattle.rules.specs.Image.{front, snakes_in, side_in, start_at, food_at, state_of}
use Rattle.rules.specs.Facts.{Sound}
use Rattle.rules.proofs.Parts.{state_count}
use Rattle.rules.proofs.Struck.{apart_rest}
use Rattle.rules.specs.Step.{Moved, stays, moved_of, another, on_body, cause_of, transition_of, stepped}
use Rattle.rules.specs.Struck.{no_hit, stops_head}
use Rattle.rules.specs.declared.Cause.{Cause}
use Rattle.rules.specs.declared.Cause.TheVariants.{Wall, SelfBody, OppBody, HeadOn}
use Rattle.rules.specs.declared.Hit.{Hit}
use Rattle.rules.specs.declared.Place.{Place}
use Rattle.rules.specs.declared.Setting.{Setting}
use Rattle.judge.specs.declared.Move.{Move}
use Rattle.judge.specs.declared.Judged.{Judged}
use Rattle.judge.specs.World.{still, shown, world, causes_of, judged_world, moved_world, Judges}
use Rattle.judge.specs.Loops.{Filling, Seeking}
use Rattle.judge.specs.Moving.{move_at}
use Rattle.judge.specs.Judging.{Rests, RestIn, RestFound, Judging, meets_at, hit_in, HitFits, stops_by, stops_at, stop_found, other_hit, body_cause, Stops, Stopped, OnBody}
use Rattle.judge.proofs.Loops.{fill_none, fill_next, fill_all, seek_next, seek_all}
use Rattle.judge.proofs.Moving.{origin_cell, shown_move, move_part, move_short, move_cell, move_inner}

-- ---- one cause

module _ (g n : ℕ) (m : ℕ → Moved) (i : ℕ) where
  cause_by : {a b c d e : Bool} → (m i).moves ≡ a → another g n m i (λ j. same (m i).head (m j).head) ≡ b → inside (pos g) (m i).head ≡ c
      → member (cell_of g (m i).head) (m i).rest ≡ d → another g n m i (on_body g n m (m i).head) ≡ e
      → (None if not a else (Some HeadOn) if b else (Some Wall) if not c else (Some SelfBody) if d else (Some OppBody) if e else None) ≡ cause_of g n m i
  unfolding cause_of
  cause_by p q r s t = sym (λ k. None if not (p k) else (Some HeadOn) if q k else (Some Wall) if not (r k) else (Some SelfBody) if s k else (Some OppBody) if t k else None)

  -- where no two heads meet, a head on another's cell is on its rest
  heads_apart : another g n m i (λ j. same (m i).head (m j).head) ≡ false
      → another g n m i (on_body g n m (m i).head) ≡ another g n m i (λ j. member (cell_of g (m i).head) (m j).rest)
  heads_apart e = some_ext n (stops_head g n m i) (λ j. not (eqb i j) && (m j).moves && member (cell_of g (m i).head) (m j).rest) (apart_rest g n m i e)

-- the cause of a head on the grid, by its two tests
module _ (w : List ℕ) (all : List Move) (n i cell : ℕ) where
  body_by : {d e : Bool} → member cell (world w all i).rest ≡ d → some_below n (stops_at w all i cell) ≡ e → (c : Option Cause) → c ≡ ((Some SelfBody) if d else (Some OppBody) if e else None) → OnBody w all n i cell c
  body_by p e c r = record { is = r ∙ sym (λ k. (Some SelfBody) if p k else (Some OppBody) if e k else None) }

  -- the cell is on no body at all
  body_none : Rests w all → member cell (drop (front (snakes_in w)) w) ≡ false → OnBody w all n i cell None
  body_none r h =
      body_by (r.clear i cell h)
      (some_false (stops_at w all i cell) n (λ j l. ap (λ (b : Bool). not (eqb i j) && (get_or all j still).moves && b) (r.clear j cell h) ∙ and-false (not (eqb i j) && (get_or all j still).moves)))
      None refl

-- snake i of n, by the tests made so far
module _ (w : List ℕ) (all : List Move) (n i : ℕ) (q : Judging w all n i) where
  abbrev me : Move
  me = get_or all i still

  pub cause_stays : not me.moves ≡ true → None ≡ cause_of (side_in w) n (world w all) i
  cause_stays h = cause_by (side_in w) n (world w all) i (not-true me.moves h) refl refl refl refl

  -- all others are passed, and met is whether one of them moved to the same place
  module _ (go : not me.moves ≡ false) (j : ℕ) (met : Bool) (pm : Seeking (meets_at all i me.head) n j met) (end : n ≤ j) where
    meets : met ≡ some_below n (meets_at all i me.head)
    meets = seek_all (meets_at all i me.head) n j met pm end

    pub cause_meets : met ≡ true → (Some HeadOn) ≡ cause_of (side_in w) n (world w all) i
    cause_meets h = cause_by (side_in w) n (world w all) i (not-false me.moves go) (sym meets ∙ h) refl refl refl

    module _ (h : met ≡ false) where
      apart : some_below n (meets_at all i me.head) ≡ false
      apart = sym meets ∙ h

      inner : inside (pos (side_in w)) me.head ≡ me.inside
      inner = sym (q.rests.inner i (not-false me.moves go))

      pub cause_wall : not me.inside ≡ true → (Some Wall) ≡ cause_of (side_in w) n (world w all) i
      cause_wall t = cause_by (side_in w) n (world w all) i (not-false me.moves go) apart (inner ∙ not-true me.inside t) refl refl

      module _ (t : not me.inside ≡ false) where
        pub cause_body : (c : Option Cause) → OnBody w all n i me.cell c → c ≡ cause_of (side_in w) n (world w all) i
        cause_body c b =
            b.is
            ∙ ap (body_cause w all n i) (q.rests.cells i)
            ∙ cause_by (side_in w) n (world w all) i (not-false me.moves go) apart (inner ∙ not-false me.inside t) refl (heads_apart (side_in w) n (world w all) i apart)

        -- f is the first word after the records: the cell is on no body at all
        pub cause_clear : (f : ℕ) → f ≡ 5 + 4 * n → (b : Bool) → b ≡ member me.cell (take (length w - f) (drop f w)) → not b ≡ true → None ≡ cause_of (side_in w) n (world w all) i
        cause_clear f pf b e h =
            let p : f ≡ front (snakes_in w) = omega (arith, q.snakes) in
            let z = ap (λ (k : ℕ). member me.cell (drop k w)) (sym p) ∙ ap (member me.cell) (sym (rest_is w f)) ∙ sym e ∙ not-true b h in
            cause_body None (body_none w all n i me.cell q.rests z)

-- ---- another's head

-- b is whether the heads are the same
pub meets_next : (all : List Move) (n i : ℕ) (p : Place) (j : ℕ) (found : Bool) → Seeking (meets_at all i p) n j found → j < n → (b : Bool) → b ≡ same p (get_or all j still).head
    → Seeking (meets_at all i p) n (j + 1) (found || (not (eqb i j) && (get_or all j still).moves && b))
meets_next all n i p j found q l b e =
    seek_next (meets_at all i p) n j found q l (not (eqb i j) && (get_or all j still).moves && b) (ap (λ (b : Bool). not (eqb i j) && (get_or all j still).moves && b) e)

-- ---- a rest

pub rest_in : (w : List ℕ) (all : List Move) (n i : ℕ) → Judging w all n i → (j : ℕ) → j < n → RestIn w j (get_or all j still)
rest_in w all n i q j l =
    let s = q.sound in
    let h : j < snakes_in w = omega (arith, q.snakes) in
    record {
      few = omega (arith, s.snakes_max);
      words = omega (arith, s.records_in);
      small = omega (arith, s.bodies_in j h, s.total, s.small);
      fits = q.rests.fits j h;
    }

-- what is found in a rest has a small place
pub found_fits : (w : List ℕ) (all : List Move) (n i : ℕ) → Judging w all n i → (j : ℕ) → j < n → (cell k : ℕ) → Some k ≡ found_in (world w all j).rest cell → HitFits j k
found_fits w all n i q j l cell k e =
    let f = (rest_in w all n i q j l).fits in
    let short = place_lt cell (world w all j).rest (found_holds cell (world w all j).rest k e) in
    let size = part_long w (start_at w j) (get_or all j still).keep f in
    record {
      few = omega (arith, q.sound.snakes_max, q.snakes);
      short = omega (arith, short, size, found_place cell (world w all j).rest k e, f, q.sound.small);
    }

pub own_in : (w : List ℕ) (all : List Move) (n i : ℕ) → Judging w all n i → RestIn w i (get_or all i still)
own_in w all n i q = rest_in w all n i q i q.one

-- ---- another's rest

module _ (w : List ℕ) (i j : ℕ) (m : Move) (cell : ℕ) where
  abbrev rest : List ℕ
  rest = (shown w j m).rest

  -- the cell is found exactly where the snake stops a head there
  stop_told : is_some (stop_found w i j m cell) ≡ stops_by w i j m cell
  stop_told = go (not (eqb i j) && m.moves)
    where
      go : (b : Bool) → is_some (found_in rest cell if b else None) ≡ (b && member cell rest)
      go true = found_member cell rest
      go false = refl

  module _ (k : ℕ) (e : Some k ≡ stop_found w i j m cell) where
    stop_rest : Some k ≡ found_in rest cell
    stop_rest = go (not (eqb i j) && m.moves) e
      where
        go : (b : Bool) → Some k ≡ (found_in rest cell if b else None) → Some k ≡ found_in rest cell
        go true h = h
        go false h = absurd (false≢true (sym (ap is_some h)))

    stop_place : k ≡ place cell rest
    stop_place = found_place cell rest k stop_rest

-- none of the snakes before j stops a head there
abbrev pub NoStop : List ℕ → List Move → ℕ → ℕ → ℕ → ℕ → Type 0
NoStop w all n i cell j = Passing (stops_at w all i cell) (lowest_from (stops_at w all i cell) 0 n) n j

module _ (w : List ℕ) (all : List Move) (n i cell : ℕ) where
  module _ (j : ℕ) (l : j < n) (r : Option ℕ) (s : Stops w i j (get_or all j still) cell r) where
    pub other_on : NoStop w all n i cell j → r ≡ None → NoStop w all n i cell (j + 1)
    other_on q e = pass_on (stops_at w all i cell) n _ j q l (sym (stop_told w i j (get_or all j still) cell) ∙ ap is_some (sym s.is ∙ e))

    module _ (k : ℕ) (e : r ≡ Some k) where
      pub hit_fits : Judging w all n i → HitFits j k
      hit_fits q = found_fits w all n i q j l cell k (stop_rest w i j (get_or all j still) cell k (sym e ∙ s.is))

      pub other_here : NoStop w all n i cell j → (h : Hit) → h ≡ hit_in j k → Stopped w all n i cell (Some h)
      other_here q h p =
          let here : Some k ≡ stop_found w i j (get_or all j still) cell = sym e ∙ s.is in
          let low = pass_here (stops_at w all i cell) n _ j q l (sym (stop_told w i j (get_or all j still) cell) ∙ ap is_some (sym here)) in
          record {
            is = ap Some (p ∙ ap (hit_in j) (stop_place w i j (get_or all j still) cell k here))
                ∙ sym (ap (λ (b : Bool). Some (hit_in j (place cell (world w all j).rest)) if b else no_hit) (lt-ltb j n l))
                ∙ ap (λ (j : ℕ). Some (hit_in j (place cell (world w all j).rest)) if ltb j n else no_hit) low;
          }

  pub other_none : (j : ℕ) → NoStop w all n i cell j → n ≤ j → (h : Option Hit) → h ≡ no_hit → Stopped w all n i cell h
  other_none j q l h p = record {
    is = p
        ∙ sym (ap (λ (b : Bool). Some (hit_in j (place cell (world w all j).rest)) if b else no_hit) (le-ltb j n l))
        ∙ ap (λ (j : ℕ). Some (hit_in j (place cell (world w all j).rest)) if ltb j n else no_hit) (pass_all (stops_at w all i cell) n _ j q l);
  }

  -- a snake is hit exactly where one stops the head
  other_told : is_some (other_hit w all n i cell) ≡ some_below n (stops_at w all i cell)
  other_told = go (ltb (lowest_from (stops_at w all i cell) 0 n) n) (lowest_from (stops_at w all i cell) 0 n) ∙ sym (some_lowest (stops_at w all i cell) n)
    where
      go : (b : Bool) (j : ℕ) → is_some (Some (hit_in j (place cell (world w all j).rest)) if b else None) ≡ b
      go true j = refl
      go false j = refl

-- ---- the cause of a head on the grid

module _ (w : List ℕ) (all : List Move) (n i : ℕ) (q : Judging w all n i) (cell : ℕ) where
  module _ (own : Option ℕ) (e : RestFound w i (get_or all i still) cell own) (b : Bool) (t : b ≡ is_some own) where
    own_told : member cell (world w all i).rest ≡ b
    own_told = sym (found_member cell (world w all i).rest) ∙ ap is_some (sym e.is) ∙ sym t

    pub body_own : b ≡ true → OnBody w all n i cell (Some SelfBody)
    body_own h = body_by w all n i cell (own_told ∙ h) refl (Some SelfBody) refl

    module _ (f : b ≡ false) (other : Option Hit) (z : Stopped w all n i cell other) (x : Bool) (u : x ≡ is_some other) where
      stopped_told : some_below n (stops_at w all i cell) ≡ x
      stopped_told = sym (other_told w all n i cell) ∙ ap is_some (sym z.is) ∙ sym u

      pub body_other : x ≡ true → OnBody w all n i cell (Some OppBody)
      body_other h = body_by w all n i cell (own_told ∙ f) (stopped_told ∙ h) (Some OppBody) refl

      pub body_clear : x ≡ false → OnBody w all n i cell None
      body_clear h = body_by w all n i cell (own_told ∙ f) (stopped_told ∙ h) None refl

-- ---- the array of moves

module _ (w acts : List ℕ) (s : Sound w) (all : List Move) (q : all ≡ filled (move_at w acts) (snakes_in w) 8 still) where
  all_at : (j : ℕ) → get_or all j still ≡ get_or (each_below (snakes_in w) (move_at w acts)) j still
  all_at j = ap (λ (l : List Move). get_or l j still) q ∙ filled_is (move_at w acts) (snakes_in w) 8 still j

  -- what holds of each snake's move, and of what is still, holds of the array
  inside_at : (P : ℕ → Move → Type 0) → ((j : ℕ) → P j still) → ((i : ℕ) → i < snakes_in w → P i (move_at w acts i)) → (j : ℕ) → P j (get_or all j still)
  inside_at P p f j = elim (ordered j (snakes_in w)) [
    | less l t ↦ rw (all_at j, each_at (snakes_in w) (move_at w acts) still j l) (f j l)
    | more l t ↦ rw (all_at j, each_past (snakes_in w) (move_at w acts) still j l) (p j)
  ]

  part_at : (j : ℕ) → j < snakes_in w → start_at w j + (get_or all j still).keep ≤ length w
  part_at j l = rw (all_at j, each_at (snakes_in w) (move_at w acts) still j l) (move_part w s j l (get_or acts j 0))

  short_at : (j : ℕ) → (get_or all j still).keep ≤ 1024
  short_at = inside_at (λ j m. m.keep ≤ 1024) (λ j. omega arith) (λ i l. move_short w s i l (get_or acts i 0))

  clear_at : (x : ℕ) → member x (drop (front (snakes_in w)) w) ≡ false → (j : ℕ) → member x (shown w j (get_or all j still)).rest ≡ false
  unfolding member
  clear_at x e = inside_at (λ j m. member x (shown w j m).rest ≡ false) (λ j. refl) (λ i l. missing_part x w (front (snakes_in w)) (start_at w i) (move_at w acts i).keep (omega (arith, s.starts i l)) e)

  cell_at : (j : ℕ) → (get_or all j still).cell ≡ cell_of (side_in w) (get_or all j still).head
  cell_at = inside_at (λ j m. m.cell ≡ cell_of (side_in w) m.head) (λ j. origin_cell (side_in w)) (λ i l. move_cell w s i l (get_or acts i 0))

  inner_at : (j : ℕ) → (get_or all j still).moves ≡ true → (get_or all j still).inside ≡ inside (pos (side_in w)) (get_or all j still).head
  inner_at = inside_at (λ j m. m.moves ≡ true → m.inside ≡ inside (pos (side_in w)) m.head) (λ j t. absurd (false≢true t)) (λ i l. move_inner w s i l (get_or acts i 0))

  all_rests : Rests w all
  all_rests = record { fits = part_at; clear = λ j x e. clear_at x e j; cells = cell_at; inner = inner_at }

  past_still : (j : ℕ) → snakes_in w ≤ j → get_or all j still ≡ still
  past_still j l = all_at j ∙ each_past (snakes_in w) (move_at w acts) still j l

  world_at : (j : ℕ) → world w all j ≡ moved_world w acts j
  world_at j = elim (ordered j (snakes_in w)) [
    | less l t ↦
        ap (shown w j) (all_at j ∙ each_at (snakes_in w) (move_at w acts) still j l)
        ∙ shown_move w s j l acts
        ∙ sym (each_at (snakes_in w) (moved_of (state_of w) acts) (stays nobody) j l)
    | more l t ↦ ap (shown w j) (past_still j l) ∙ sym (each_past (snakes_in w) (moved_of (state_of w) acts) (stays nobody) j l)
  ]

  pub world_is : world w all ≡ moved_world w acts
  world_is = λ k j. world_at j k

  -- ---- what each move led to

  module _ (pl : length acts ≡ snakes_in w) where
    pub judging_at : (i : ℕ) → i < length acts → Judging w all (length acts) i
    judging_at i l = record { sound = s; rests = all_rests; snakes = pl; one = l }

    abbrev judged_at : ℕ → Option Cause
    judged_at = cause_of (side_in w) (length acts) (world w all)

    pub causes_none : Filling judged_at None (length acts) 0 (replicate 8 None)
    causes_none = fill_none judged_at None (length acts) (omega (arith, s.snakes_max))

    module _ (cs : List (Option Cause)) (i : ℕ) (f : Filling judged_at None (length acts) i cs) where
      pub causes_next : i < length acts → (c : Option Cause) → c ≡ judged_at i → Filling judged_at None (length acts) (i + 1) (set cs i c)
      causes_next l c e = fill_next judged_at None (length acts) i cs f l c e

      module _ (l : length acts ≤ i) where
        causes_are : cs ≡ filled (cause_of (side_in w) (snakes_in w) (world w all)) (snakes_in w) 8 None
        causes_are = fill_all judged_at None (length acts) i cs f l ∙ ap (λ (k : ℕ). filled (cause_of (side_in w) k (world w all)) k 8 None) pl

        causes_at : (j : ℕ) → get_or cs j None ≡ get_or (each_below (snakes_in w) (cause_of (side_in w) (snakes_in w) (world w all))) j None
        causes_at j = ap (λ (l : List (Option Cause)). get_or l j None) causes_are ∙ filled_is (cause_of (side_in w) (snakes_in w) (world w all)) (snakes_in w) 8 None j

        pub judges : Judges w acts (record { moves = all; causes = cs })
        judges = record { moves = q; moved = world_is; causes = λ k j. causes_at j k; cells = cell_at; parts = part_at; short = short_at }

-- ---- what the definition makes of judged moves

pub cause_judged : (w acts : List ℕ) (js : Judged) → Judges w acts js → (i : ℕ) → i < snakes_in w → causes_of js i ≡ cause_of (side_in w) (snakes_in w) (judged_world w js) i
cause_judged w acts js j i l = (λ k. j.causes k i) ∙ each_at (snakes_in w) (cause_of (side_in w) (snakes_in w) (judged_world w js)) None i l

pub stepped_by : (w acts : List ℕ) (js : Judged) (s : Setting) → Judges w acts js
    → stepped s (state_of w) acts ≡ transition_of s (side_in w) (snakes_in w) (food_at w) (judged_world w js)
unfolding stepped state_of
stepped_by w acts js s j =
    let e = state_count w in
    (λ k. transition_of s (side_in w) (e k) (food_at w) (λ i. get_or (each_below (e k) (moved_of (state_of w) acts)) i (stays nobody)))
    ∙ ap (transition_of s (side_in w) (snakes_in w) (food_at w)) (sym j.moved)
