-- The move by the image's words is the definition's, and stays within the image. Assumes nothing.
use Prim.Native.Nat.{ℕ, ◌+◌, ◌-◌, ◌*◌, ◌<◌, ◌≤◌}
use native.Mathlib.Omega.{arith}
use mathlib.Core.Path.{◌≡◌, refl, sym, ap, ◌∙◌}
use mathlib.Core.Bool.{Bool, true, false, false≢true}
use mathlib.Core.List.{List}
use lib.Dec.{eqb}
use lib.IntN.{pos}
use lib.ListN.{length, get_or, take, drop, set, replicate}
use lib.Seq.{take-take, get_or-take, get_or-drop}
use borrow.Author.Tests.{eqb-true}
use Rattle.lists.specs.Choice.{◌if◌else◌}
use Rattle.lists.proofs.Lists.{part_long}
use Rattle.rules.specs.Headings.{heading_of, turned, action_of}
use Rattle.rules.specs.Grid.{inside, cell_of}
use Rattle.rules.specs.State.{Snake}
use Rattle.rules.specs.Image.{word, snakes_in, side_in, start_at, length_at, heading_at, alive_at, body_at, food_at, snake_at, state_of}
use Rattle.rules.specs.Facts.{Sound}
use Rattle.rules.specs.Promises.{Turns}
use Rattle.rules.proofs.Parts.{state_snake, body_in_lem}
use Rattle.rules.specs.Step.{on_food, goes, stays, head_to, move, moved_of}
use Rattle.rules.specs.declared.Heading.{Heading}
use Rattle.rules.specs.declared.Place.{Place}
use Rattle.rules.specs.declared.RelativeAction.{RelativeAction}
use Rattle.image.specs.declared.SnakeRecord.{SnakeRecord}
use Rattle.image.specs.Records.{record_at}
use Rattle.judge.specs.declared.Move.{Move}
use Rattle.judge.specs.World.{still, shown}
use Rattle.judge.specs.Loops.{Filling}
use Rattle.judge.specs.Moving.{goes_to, going, staying, move_by, move_at}
use Rattle.judge.proofs.Loops.{fill_none, fill_next}

-- ---- one snake

module _ (w : List ℕ) (i len : ℕ) (fit : start_at w i + len ≤ length w) where
  abbrev body : List ℕ
  body = take len (drop (start_at w i) w)

  rest_kept : (e : Bool) → take (len if e else len - 1) (drop (start_at w i) w) ≡ (body if e else take (length body - 1) body)
  rest_kept true = refl
  rest_kept false = rw (part_long w (start_at w i) len fit) (sym (take-take (len - 1) len (drop (start_at w i) w) (omega arith)))

  shown_goes : (g : ℕ) (h : Heading) (p : Place) (e : Bool) → shown w i (goes_to g len h p e) ≡ goes body h p e
  shown_goes g h p e = λ k. record { moves = true; heading = h; head = p; rest = rest_kept e k; eats = e }

  first_cell : 0 < len → word w (start_at w i) ≡ get_or body 0 0
  first_cell room = let n : start_at w i + 0 ≡ start_at w i = omega arith in rw (get_or-take, get_or-drop, n)

either : (P : Move → Type 0) (b : Bool) (m n : Move) → P m → P n → P (m if b else n)
either P true m n p q = p
either P false m n p q = q

zero_either : (b : Bool) (x : ℕ) → 0 ≡ x → 0 ≡ (x if b else 0)
zero_either true x e = e
zero_either false x e = refl

-- the cell of no account
pub origin_cell : (g : ℕ) → 0 ≡ cell_of g (record { row = pos 0; col = pos 0 })
origin_cell g = zero_either (inside (pos g) (record { row = pos 0; col = pos 0 })) (0 * g + 0) (omega arith)

module _ (w : List ℕ) (s : Sound w) (i : ℕ) (l : i < snakes_in w) where
  move_is : (a : ℕ) (b : Bool) → eqb (alive_at w i) 1 ≡ b
      → shown w i (going w (start_at w i) (length_at w i) (turned (heading_of (heading_at w i)) (action_of a)) if b else staying (length_at w i) (heading_of (heading_at w i)))
      ≡ (let h = turned (heading_of (heading_at w i)) (action_of a) in
      let p = head_to (side_in w) h (get_or (body_at w i) 0 0) in
      goes (body_at w i) h p (on_food (side_in w) (food_at w) p) if b else stays (snake_at w i))
  move_is a true e =
      let h = turned (heading_of (heading_at w i)) (action_of a) in
      let q = first_cell w i (length_at w i) (body_in_lem w s i l) (s.living i l (eqb-true _ _ e)) in
      let p : ℕ → Place = head_to (side_in w) h in
      shown_goes w i (length_at w i) (body_in_lem w s i l) (side_in w) h (p (word w (start_at w i))) (on_food (side_in w) (food_at w) (p (word w (start_at w i))))
      ∙ ap (λ (c : ℕ). goes (body_at w i) h (p c) (on_food (side_in w) (food_at w) (p c))) q
  move_is a false e = refl

  pub shown_move : (acts : List ℕ) → shown w i (move_at w acts i) ≡ moved_of (state_of w) acts i
  unfolding move_by state_of
  shown_move acts = move_is (get_or acts i 0) (eqb (alive_at w i) 1) refl ∙ ap (λ (z : Snake). move (side_in w) (food_at w) z (get_or acts i 0)) (sym (state_snake w i l))

  -- what holds of a snake that goes on, and of one that stays
  each_way : (P : Move → Type 0) → ((h : Heading) (p : Place) (e : Bool) → P (goes_to (side_in w) (length_at w i) h p e))
      → ((h : Heading) → P (staying (length_at w i) h)) → (a : ℕ) → P (move_by w i a)
  unfolding move_by
  each_way P f q a =
      let h = heading_of (heading_at w i) in
      let t = turned h (action_of a) in
      let p = head_to (side_in w) t (word w (start_at w i)) in
      either P (eqb (alive_at w i) 1) (going w (start_at w i) (length_at w i) t) (staying (length_at w i) h) (f t p (on_food (side_in w) (food_at w) p)) (q h)

  fed : (h : Heading) (p : Place) (e : Bool) → (goes_to (side_in w) (length_at w i) h p e).keep ≤ length_at w i
  fed h p true = omega arith
  fed h p false = omega arith

  keep_le : (a : ℕ) → (move_by w i a).keep ≤ length_at w i
  keep_le = each_way (λ m. m.keep ≤ length_at w i) fed (λ h. omega arith)

  pub move_part : (a : ℕ) → start_at w i + (move_by w i a).keep ≤ length w
  move_part a = omega (arith, keep_le a, s.bodies_in i l, s.total)

  pub move_short : (a : ℕ) → (move_by w i a).keep ≤ 1024
  move_short a = omega (arith, keep_le a, s.lengths i l, s.area_max)

  pub move_cell : (a : ℕ) → (move_by w i a).cell ≡ cell_of (side_in w) (move_by w i a).head
  move_cell = each_way (λ m. m.cell ≡ cell_of (side_in w) m.head) (λ h p e. refl) (λ h. origin_cell (side_in w))

  pub move_inner : (a : ℕ) → (move_by w i a).moves ≡ true → (move_by w i a).inside ≡ inside (pos (side_in w)) (move_by w i a).head
  move_inner = each_way (λ m. m.moves ≡ true → m.inside ≡ inside (pos (side_in w)) m.head) (λ h p e t. refl) (λ h t. absurd (false≢true t))

-- ---- z is snake i's record

module _ (w : List ℕ) (i : ℕ) (z : SnakeRecord) (q : z ≡ record_at w i) where
  move_by_lem : {b : Bool} (a : ℕ) → z.alive ≡ b
      → (going w z.start z.len (turned z.heading (action_of a)) if b else staying z.len z.heading) ≡ move_by w i a
  unfolding move_by
  move_by_lem a t =
      let e = sym t ∙ ap (λ (z : SnakeRecord). z.alive) q in
      λ k. going w (q k).start (q k).len (turned (q k).heading (action_of a)) if e k else staying (q k).len (q k).heading

  -- it acts: by the number a, which is the action r, it turns to t
  pub living_moves : (a : ℕ) (r : RelativeAction) → r ≡ action_of a → (t : Heading) → Turns z.heading r t → z.alive ≡ true → (m : Move) → m ≡ going w z.start z.len t → m ≡ move_by w i a
  living_moves a r pr t pt e m pm = pm ∙ ap (going w z.start z.len) (pt.answer ∙ ap (turned z.heading) pr) ∙ move_by_lem a e

  pub corpse_stays : (a : ℕ) → z.alive ≡ false → staying z.len z.heading ≡ move_by w i a
  corpse_stays a e = move_by_lem a e

-- ---- all of them

module _ (w acts : List ℕ) (s : Sound w) (n : length acts ≡ snakes_in w) where
  pub moves_none : Filling (move_at w acts) still (length acts) 0 (replicate 8 still)
  moves_none = fill_none (move_at w acts) still (length acts) (omega (arith, s.snakes_max))

  module _ (i : ℕ) (all : List Move) (q : Filling (move_at w acts) still (length acts) i all) where
    pub moves_next : i < length acts → (m : Move) → m ≡ move_by w i (get_or acts i 0) → Filling (move_at w acts) still (length acts) (i + 1) (set all i m)
    moves_next l m e = fill_next (move_at w acts) still (length acts) i all q l m e
