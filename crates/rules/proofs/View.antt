-- What an agent sees: where cells show under each heading, and on what the planes depend. Assumes nothing.
use Prim.Native.Nat.{ℕ, zero, suc, ◌+◌, ◌-◌, ◌*◌, ◌/◌, ◌%◌, ◌≤◌, ◌<◌}
use mathlib.Core.Path.{◌≡◌, refl, sym, ap, ap₂, ◌∙◌}
use mathlib.Core.Bool.{true, false, false≢true}
use mathlib.Core.List.{List, [], ◌∷◌, map}
use native.Mathlib.Omega.{arith}
use lib.Dec.{eqb, leb, ltb}
use lib.IntN.{pos}
use lib.ListN.{get_or, take, drop}
use lib.Seq.{drop-drop}
use borrow.Author.Tests.{ltb-true, lt-ltb}
use Rattle.lists.specs.Choice.{◌if◌else◌}
use Rattle.lists.specs.Below.{sum_below, concat_below}
use Rattle.lists.specs.Lists.{all}
use Rattle.lists.proofs.Tests.{and_left, and_right, both}
use Rattle.lists.proofs.Below.{concat_ext, sum_ext}
use Rattle.boards.proofs.Squares.{row_lt, col_lt, cell_is, cell_lt, row_of, col_of_lem, far_rows}
use Rattle.rules.specs.Headings.{heading_of}
use Rattle.rules.specs.State.{Snake}
use Rattle.rules.specs.Grid.{ahead, inside, within, cell_of, place_of}
use Rattle.rules.specs.Image.{front, snakes_in, side_in, start_at, length_at, heading_at, food_start, body_of, body_at, food_at, state_of}
use Rattle.rules.specs.Facts.{Sound}
use Rattle.rules.specs.View.{shows, turned_cell, plane, channels, view_of, view}
use Rattle.rules.specs.Seen.{Above, Alike, DifferOnly}
use Rattle.rules.specs.declared.Heading.{Heading}
use Rattle.rules.specs.declared.Heading.TheVariants.{Up, Right, Down, Left}
use Rattle.rules.proofs.Parts.{state_count, state_snake, state_body, body_from}

-- ---- where a cell shows

module _ (g c : ℕ) (h : c < g * g) where
  pub up_shows : c ≡ turned_cell g Up c
  up_shows = sym (cell_is g c)

  -- Down is Up, and Left is Right, counted from the far end
  pub down_shows : g * g - 1 - c ≡ turned_cell g Down c
  down_shows =
      let r = row_lt g c h in
      let k = col_lt g c h in
      omega (arith, cell_is g c, far_rows g (c / g) r)

  pub left_shows : g * g - 1 - turned_cell g Right c ≡ turned_cell g Left c
  left_shows =
      let r = row_lt g c h in
      let k = col_lt g c h in
      omega (arith, far_rows g (c % g) k)

  pub shows_lt : (d : Heading) → turned_cell g d c < g * g
  shows_lt Up = cell_lt g (c / g) (c % g) (col_lt g c h) (row_lt g c h)
  shows_lt Right = let r = row_lt g c h in let k = col_lt g c h in cell_lt g (g - 1 - c % g) (c / g) r (omega arith)
  shows_lt Down = let r = row_lt g c h in let k = col_lt g c h in cell_lt g (g - 1 - c / g) (g - 1 - c % g) (omega arith) (omega arith)
  shows_lt Left = let r = row_lt g c h in let k = col_lt g c h in cell_lt g (c % g) (g - 1 - c / g) (omega arith) k

-- cells of the grid show on the grid
pub shows_all : (g : ℕ) (d : Heading) (l : List ℕ) → all (λ c. ltb c (g * g)) l ≡ true → all (λ c. ltb c (g * g)) (map (turned_cell g d) l) ≡ true
unfolding all
shows_all g d [] t = refl
shows_all g d (c ∷ l) t =
    let h = ltb-true c (g * g) (and_left (ltb c (g * g)) (all (λ c. ltb c (g * g)) l) t) in
    both (lt-ltb (turned_cell g d c) (g * g) (shows_lt g c h d)) (shows_all g d l (and_right (ltb c (g * g)) (all (λ c. ltb c (g * g)) l) t))

-- ---- rows and columns as they show

-- the cell at a row and a column
abbrev cell_at : ℕ → ℕ × ℕ → ℕ
cell_at g p = p.0 * g + p.1

module _ (g r c : ℕ) (hr : r < g) (hc : c < g) where
  row_shown : (d : Heading) → cell_at g (shows g d r c) / g ≡ (shows g d r c).0
  row_shown Up = row_of g r c hc
  row_shown Right = row_of g (g - 1 - c) r hr
  row_shown Down = row_of g (g - 1 - r) (g - 1 - c) (omega arith)
  row_shown Left = row_of g c (g - 1 - r) (omega arith)

  col_shown : (d : Heading) → cell_at g (shows g d r c) % g ≡ (shows g d r c).1
  col_shown Up = col_of_lem g r c hc
  col_shown Right = col_of_lem g (g - 1 - c) r hr
  col_shown Down = col_of_lem g (g - 1 - r) (g - 1 - c) (omega arith)
  col_shown Left = col_of_lem g c (g - 1 - r) (omega arith)

-- the heading that turns a cell back
pub back_of : Heading → Heading
back_of Up = Up
back_of Right = Left
back_of Down = Down
back_of Left = Right

-- a turn and the turn back: so each turn is a bijection of the cells of the grid
pub turned_back : (g c : ℕ) → c < g * g → (d : Heading) → turned_cell g (back_of d) (turned_cell g d c) ≡ c
unfolding back_of
turned_back g c h d =
    let r = row_lt g c h in
    let k = col_lt g c h in
    ap₂ (λ (x y : ℕ). cell_at g (shows g (back_of d) x y)) (row_shown g (c / g) (c % g) r k d) (col_shown g (c / g) (c % g) r k d) ∙ back d
  where
    back : (d : Heading) → cell_at g (shows g (back_of d) (shows g d (c / g) (c % g)).0 (shows g d (c / g) (c % g)).1) ≡ c
    back Up = cell_is g c
    back Right =
        let k = col_lt g c h in
        let e : g - 1 - (g - 1 - c % g) ≡ c % g = omega arith in
        rw e (cell_is g c)
    back Down =
        let r = row_lt g c h in
        let k = col_lt g c h in
        let e : g - 1 - (g - 1 - c / g) ≡ c / g = omega arith in
        let f : g - 1 - (g - 1 - c % g) ≡ c % g = omega arith in
        rw (e, f) (cell_is g c)
    back Left =
        let r = row_lt g c h in
        let e : g - 1 - (g - 1 - c / g) ≡ c / g = omega arith in
        rw e (cell_is g c)

-- ---- the cell ahead shows directly above the head

module _ (g r c : ℕ) (hr : r < g) (hc : c < g) where
  -- a cell at another row and column
  at_cell : (d : Heading) (r' c' : ℕ) → r' < g → c' < g → (shows g d r' c').0 + 1 ≡ (shows g d r c).0 → (shows g d r' c').1 ≡ (shows g d r c).1
      → Above g (turned_cell g d (r' * g + c')) (cell_at g (shows g d r c))
  at_cell d r' c' a b e f =
      let p = ap₂ (λ (x y : ℕ). cell_at g (shows g d x y)) (row_of g r' c' b) (col_of_lem g r' c' b) in
      record {
        row = ap (λ (x : ℕ). x / g + 1) p ∙ ap (λ (x : ℕ). x + 1) (row_shown g r' c' a b d) ∙ e ∙ sym (row_shown g r c hr hc d);
        col = ap (λ (x : ℕ). x % g) p ∙ col_shown g r' c' a b d ∙ f ∙ sym (col_shown g r c hr hc d);
      }

above_at : (g r c : ℕ) → r < g → c < g → (d : Heading) → inside (pos g) (ahead d (record { row = pos r; col = pos c })) ≡ true
    → Above g (turned_cell g d (cell_of g (ahead d (record { row = pos r; col = pos c })))) (cell_at g (shows g d r c))
above_at g zero c hr hc Up t = absurd (false≢true t)
above_at g (suc r) c hr hc Up t = rw t (at_cell g (suc r) c hr hc Up r c (omega arith) hc (omega arith) refl)
above_at g r c hr hc Right t =
    let b : suc c < g = ltb-true (suc c) g (and_right (leb 0 (suc c)) (ltb (suc c) g) (and_right (within (pos g) (pos r)) (within (pos g) (pos (suc c))) t)) in
    rw t (at_cell g r c hr hc Right r (suc c) hr b (omega arith) refl)
above_at g r c hr hc Down t =
    let b : suc r < g = ltb-true (suc r) g (and_right (leb 0 (suc r)) (ltb (suc r) g) (and_left (within (pos g) (pos (suc r))) (within (pos g) (pos c)) t)) in
    rw t (at_cell g r c hr hc Down (suc r) c b hc (omega arith) refl)
above_at g r zero hr hc Left t = absurd (false≢true (and_right (within (pos g) (pos r)) false t))
above_at g r (suc c) hr hc Left t = rw t (at_cell g r (suc c) hr hc Left r c hr (omega arith) (omega arith) refl)

-- under each heading, where the cell ahead is on the grid
pub ahead_above : (g head : ℕ) → head < g * g → (d : Heading) → inside (pos g) (ahead d (place_of g head)) ≡ true
    → Above g (turned_cell g d (cell_of g (ahead d (place_of g head)))) (turned_cell g d head)
ahead_above g head h d t = above_at g (head / g) (head % g) (row_lt g head h) (col_lt g head h) d t

-- ---- on what the planes depend

-- the others' parts, by their bodies alone
others_ext : (n a : ℕ) (part : List ℕ → List ℕ) (b c : ℕ → List ℕ) → ((i : ℕ) → i < n → b i ≡ c i)
    → concat_below n (λ i. [] if eqb i a else part (b i)) ≡ concat_below n (λ i. [] if eqb i a else part (c i))
others_ext n a part b c h = concat_ext n (λ i. [] if eqb i a else part (b i)) (λ i. [] if eqb i a else part (c i))
    (λ i l. ap (λ (x : List ℕ). [] if eqb i a else part x) (h i l))

module _ (n : ℕ) (b c : ℕ → List ℕ) (a : ℕ) (l : a < n) (h : (i : ℕ) → i < n → b i ≡ c i) where
  channels_ext : (food : List ℕ) → channels n b food a ≡ channels n c food a
  channels_ext food =
      ap₂ (λ (x y : List ℕ). take 1 (b a) ∷ drop 1 (b a) ∷ x ∷ y ∷ food ∷ []) (others_ext n a (take 1) b c h) (others_ext n a (drop 1) b c h)
      ∙ ap (λ (x : List ℕ). take 1 x ∷ drop 1 x ∷ concat_below n (λ i. [] if eqb i a else take 1 (c i)) ∷ concat_below n (λ i. [] if eqb i a else drop 1 (c i)) ∷ food ∷ []) (h a l)

  pub view_ext : (g : ℕ) (d : Heading) (food : List ℕ) → view_of g d n b food a ≡ view_of g d n c food a
  unfolding view_of
  view_ext g d food = ap (λ (ls : List (List ℕ)). concat_below 5 (λ ch. plane (g * g) (map (turned_cell g d) (get_or ls ch [])))) (channels_ext food)

module _ (w : List ℕ) (a : ℕ) where
  parts_are : (d : Heading) → view_of (state_of w).side d (snakes_in w) (body_at w) (state_of w).food a ≡ view_of (side_in w) d (snakes_in w) (body_at w) (food_at w) a
  unfolding state_of
  parts_are d = refl

  -- what is seen, read off the image
  pub view_is : a < snakes_in w → view (state_of w) a ≡ view_of (side_in w) (heading_of (heading_at w a)) (snakes_in w) (body_at w) (food_at w) a
  unfolding view
  view_is h =
      ap₂ (λ (n : ℕ) (s : Snake). view_of (state_of w).side s.heading n (body_of (state_of w)) (state_of w).food a) (state_count w) (state_snake w a h)
      ∙ view_ext (snakes_in w) (body_of (state_of w)) (body_at w) a h (λ i l. state_body w i l) (state_of w).side (heading_of (heading_at w a)) (state_of w).food
      ∙ parts_are (heading_of (heading_at w a))

pub same_view : (w v : List ℕ) (a : ℕ) → a < snakes_in w → Alike w v a → view (state_of w) a ≡ view (state_of v) a
same_view w v a h k =
    let d = heading_of (heading_at v a) in
    view_is w a h
    ∙ ap₂ (λ (g : ℕ) (x : ℕ). view_of g (heading_of x) (snakes_in w) (body_at w) (food_at w) a) k.side k.heading
    ∙ ap (λ (f : List ℕ). view_of (side_in v) d (snakes_in w) (body_at w) f a) k.food
    ∙ view_ext (snakes_in w) (body_at w) (body_at v) a h k.bodies (side_in v) d (food_at v)
    ∙ ap (λ (n : ℕ). view_of (side_in v) d n (body_at v) (food_at v) a) k.snakes
    ∙ sym (view_is v a (rw (sym k.snakes) h))

module _ (w v : List ℕ) (a : ℕ) (s : Sound w) (k : DifferOnly w v a) where
  -- whatever starts past the contents
  past : (at : ℕ) → front (snakes_in w) ≤ at → drop at w ≡ drop at v
  past at h =
      let f = front (snakes_in w) in
      let e : f + (at - f) ≡ at = omega arith in
      rw e at (sym (drop-drop (at - f) f w) ∙ ap (drop (at - f)) k.cells ∙ drop-drop (at - f) f v)

  pub alike : Alike w v a
  alike = record {
    side = k.side;
    snakes = k.snakes;
    heading = k.heading;
    bodies = λ i h.
        ap₂ (λ (n : ℕ) (l : List ℕ). take n l) (k.lengths i h) (past (start_at w i) (body_from w s i h) ∙ ap (λ (x : ℕ). drop x v) (k.starts i h));
    food =
        past (food_start w) (omega arith)
        ∙ ap (λ (x : ℕ). drop x v) (ap₂ (λ (x y : ℕ). front x + y) k.snakes (sum_ext (snakes_in w) (length_at w) (length_at v) k.lengths ∙ ap (λ (n : ℕ). sum_below n (length_at v)) k.snakes));
  }
