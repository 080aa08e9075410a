-- Demand 3 of the calls' answers and buffers: whatever meets the promises of count, draw and rank answers P, draws fairly and ranks back. Assumes nothing.
use Rattle.std.specs.Prelude.{Ok}
use Prim.Native.Nat.{ℕ, zero, suc, ◌+◌, ◌-◌, ◌^◌, ◌<◌, ◌≤◌, min}
use native.Mathlib.Nat.{pos_of_ne-zero, le_refl, le_trans, not-suc-le-zero, le_of_suc-le-suc}
use native.Mathlib.Omega.{arith}
use mathlib.Core.Path.{◌≡◌, refl, sym, ap, subst, ◌∙◌}
use mathlib.Core.Bool.{Bool, true, false, not}
use mathlib.Core.List.{List, [], ◌++◌, append_assoc, append-nil}
use lib.Dec.{ltb, eqb}
use lib.ListN.{length, get_or, take}
use borrow.Author.Tests.{ltb-true, ltb-false, eqb-false, lt-ltb, le-ltb, ne_eqb, not-false}
use Rattle.lists.specs.Below.{count_below}
use Rattle.lists.specs.Lists.{all, over_front, member, distinct}
use Rattle.lists.specs.Equal.{same_list}
use Rattle.lists.specs.Products.{falling, factorial}
use Rattle.rules.specs.Tables.{Table, none_hold}
use Rattle.lists.proofs.Below.{count_ext}
use Rattle.lists.proofs.Insert.{over_take}
use Rattle.rules.proofs.Tables.{row_out}
use Rattle.rules.proofs.Faults.{none_after, rows_formed, rows_after}
use Rattle.rules.specs.State.{State}
use Rattle.rules.specs.Image.{due_in, image_of, state_of, well_formed}
use Rattle.rules.specs.Chance.{free, draw_size, outcomes, drawn, with_food, after_draw, rank_of, can_rank}
use Rattle.rules.specs.Fair.{Fair, Countable, Drawable, DrawWrote, RanksAsOne, Changed, Drawing}
use Rattle.rules.specs.Births.{after_draws, Ends, InRange}
use Rattle.rules.specs.Says.{Says, seen, lent}
use Rattle.rules.specs.Faults.{image_rows}
use Rattle.rules.specs.Orders.{due_rows, count_order, draw_rows, draw_order, rank_rows, rank_order}
use Rattle.rules.specs.Calls.{Draw, drawn_of, count_says, draw_says, rank_says}
use Rattle.rules.specs.Promises.{Counts, Draws, Ranks}
use Rattle.rules.specs.declared.Drawn.{Drawn}
use Rattle.rules.proofs.Facts.{sound}
use Rattle.rules.proofs.Tables.{table_gives, table_given, table_seen}
use Rattle.rules.proofs.Image.{state_back}
use Rattle.rules.proofs.Parts.{state_food}
use Rattle.rules.proofs.FreeCells.{free_short}
use Rattle.rules.proofs.DrawFacts.{after_due, next_long}
use Rattle.rules.proofs.Fairness.{fair, settled, birth_count, birth_few, born, born_full}
use Rattle.rules.proofs.Again.{draw_again}
use Rattle.rules.proofs.Births.{chain_ends}
use Rattle.rules.specs.declared.refusal.Refusal.TheVariants as Refusal

pub fair_image : (w : List ℕ) → well_formed w ≡ true → Fair (state_of w)
fair_image w ok = fair (state_of w) (state_food w (sound w ok))

-- ---- 50 to 56, 23 and 28, with which the tables of count, draw and rank begin

module _ (w : List ℕ) where
  -- where more rows follow, none of which holds
  none_holds : (rows : Table) → Countable w → none_hold rows ≡ true → none_hold (count_order w ++ rows) ≡ true
  unfolding all
  none_holds rows q h =
      ap none_hold (append_assoc (image_rows w) (due_rows w) rows)
      ∙ none_after w _ q.formed (rw (ne_eqb (due_in w) 0 (λ e. omega (arith, q.due)), le-ltb (2 ^ 64 - 1) (outcomes (state_of w)) q.fits, h))

  -- where none holds: the image is well-formed, and no row after its own holds
  past_image : (rows : Table) → none_hold (count_order w ++ rows) ≡ true → none_hold (image_rows w ++ (due_rows w ++ rows)) ≡ true
  past_image rows none = ap none_hold (sym (append_assoc (image_rows w) (due_rows w) rows)) ∙ none

  later_row : (rows : Table) → none_hold (count_order w ++ rows) ≡ true → (k : ℕ) → (get_or (due_rows w ++ rows) k (Refusal.Buffer, false)).1 ≡ false
  later_row rows none k = row_out (due_rows w ++ rows) k (rows_after w (due_rows w ++ rows) (past_image rows none))

  countable : (rows : Table) → none_hold (count_order w ++ rows) ≡ true → Countable w
  countable rows none =
      let some = eqb-false (due_in w) 0 (later_row rows none 0) in
      record {
        formed = rows_formed w (due_rows w ++ rows) (past_image rows none);
        due = pos_of_ne-zero some;
        fits = ltb-false (2 ^ 64 - 1) (outcomes (state_of w)) (later_row rows none 1);
      }

  -- the count answers P, the product of k factors from n downward
  pub count_answers : Countable w → (r : Says ℕ) → Counts w r → r ≡ Ok (falling (length (free (state_of w))) (draw_size (state_of w)))
  unfolding count_says all
  count_answers q r c =
      let p = outcomes (state_of w) in
      (c.answer ∙ table_gives (count_order w) (Ok p) (ap none_hold (sym (append-nil (count_order w))) ∙ none_holds [] q refl)) ∙ ap Ok (fair_image w q.formed).count

-- ---- the draw that is answered

pub record Answered (w : List ℕ) (i : ℕ) (old new list cells : List ℕ) (n k : ℕ) : Type 0 where
  pub counted : Countable w
  pub below : i < outcomes (state_of w)
  pub words : new ≡ over_front (image_of (after_draw (state_of w) i)) old
  pub drawn_list : cells ≡ over_front (drawn (state_of w) i) list
  pub long : n ≡ length (image_of (after_draw (state_of w) i))
  pub many : k ≡ length (drawn (state_of w) i)

module _ (w : List ℕ) (i : ℕ) (old new list cells : List ℕ) (r : Says Drawn) (p : Draws w i old new list cells r) where
  abbrev drawing : Draw
  drawing = record { next = after_draw (state_of w) i; cells = drawn (state_of w) i }

  abbrev rows : Table
  rows = draw_order w i (length old) (length list)

  -- those after the image's, 23 and 28
  abbrev last_rows : Table
  last_rows = draw_rows w i (length old) (length list)

  -- with an index below P and room for the image's words and k more, and for k cells, it answers, and says how much it wrote
  pub draw_comes : Drawable w i old list → r ≡ Ok (record { words = length w + draw_size (state_of w); cells = draw_size (state_of w) })
  unfolding draw_says all
  draw_comes q =
      let t = state_of w in
      let long = next_long w (sound w q.countable.formed) i q.below in
      let many = (fair_image w q.countable.formed).long i q.below in
      let last : none_hold last_rows ≡ true =
      rw (lt-ltb i (outcomes t) q.below, le-ltb (length old) (length (image_of (after_draw t i))) (omega (arith, q.room)), le-ltb (length list) (length (drawn t i)) (omega (arith, q.list_room))) in
      let e = table_gives rows (Ok drawing) (none_holds w last_rows q.countable last) in
      p.answer ∙ ap (seen drawn_of) e ∙ (λ x. Ok (record { words = long x; cells = many x }))

  -- so what it wrote are the fronts of its two buffers
  pub draw_wrote : Drawable w i old list → DrawWrote w i (take (length w + draw_size (state_of w)) new) (take (draw_size (state_of w)) cells)
  draw_wrote q = record {
    old = old;
    new = new;
    lent_list = list;
    cells = cells;
    answer = r;
    count = length w + draw_size (state_of w);
    many = draw_size (state_of w);
    meets = p;
    done = draw_comes q;
    image_is = refl;
    list_is = refl;
  }

  -- where it is answered, it was lawful, and the buffers hold the next image and the ordered list
  pub draw_answers : (n k : ℕ) → r ≡ Ok (record { words = n; cells = k }) → Answered w i old new list cells n k
  unfolding draw_says
  draw_answers n k done =
      let t = state_of w in
      let e : seen drawn_of (draw_says w i (length old) (length list)) ≡ Ok (record { words = n; cells = k }) = sym p.answer ∙ done in
      let given = table_given rows (drawn_of drawing) (record { words = n; cells = k }) (sym (table_seen drawn_of rows drawing) ∙ e) in
      let none = given.0 in
      let q : draw_says w i (length old) (length list) ≡ Ok drawing = table_gives rows (Ok drawing) none in
      record {
        counted = countable w last_rows none;
        below = ltb-true i (outcomes t) (not-false (ltb i (outcomes t)) (later_row w last_rows none 2));
        words = p.words ∙ ap (lent (λ (d : Draw). image_of d.next) old) q;
        drawn_list = p.list ∙ ap (lent (λ (d : Draw). d.cells) list) q;
        long = ap (λ (d : Drawn). d.words) (sym given.1);
        many = ap (λ (d : Drawn). d.cells) (sym given.1);
      }

front_is : (s old new : List ℕ) (n : ℕ) → new ≡ over_front s old → n ≡ length s → take n new ≡ s
front_is s old new n e q = rw (q, e) (over_take s old)

module _ (w : List ℕ) (i : ℕ) (image list : List ℕ) (d : DrawWrote w i image list) where
  answered : Answered w i d.old d.new d.lent_list d.cells d.count d.many
  answered = draw_answers w i d.old d.new d.lent_list d.cells d.answer d.meets d.count d.many d.done

  written_fair : Fair (state_of w)
  written_fair = fair_image w answered.counted.formed

  -- the image is that of the state after the draw, and the list the cells drawn
  pub written_image : image ≡ image_of (after_draw (state_of w) i)
  written_image = d.image_is ∙ front_is (image_of (after_draw (state_of w) i)) d.old d.new d.count answered.words answered.long

  pub written_list : list ≡ drawn (state_of w) i
  written_list = d.list_is ∙ front_is (drawn (state_of w) i) d.lent_list d.cells d.many answered.drawn_list answered.many

  pub written_state : state_of image ≡ after_draw (state_of w) i
  written_state = ap state_of written_image ∙ state_back (after_draw (state_of w) i)

  pub written_below : i < outcomes (state_of w)
  written_below = answered.below

  -- it draws k different free cells, and its list can be ranked
  pub list_fair : (length list ≡ draw_size (state_of w)) × (distinct list ≡ true) × ((c : ℕ) → member c list ≡ true → member c (free (state_of w)) ≡ true)
      × (can_rank (state_of w) list ≡ true)
  list_fair =
      let h = written_below in
      let f = written_fair in
      rw written_list (f.long i h, f.once i h, f.among i h, f.rankable i h)

-- ---- draw and rank undo each other, of the words that the calls wrote

module _ (w l : List ℕ) where
  ranks_as : Countable w → can_rank (state_of w) l ≡ true → (r : Says ℕ) → Ranks w l r → r ≡ Ok (rank_of (state_of w) l)
  unfolding rank_says all
  ranks_as q h r c =
      let k = rank_of (state_of w) l in
      (c.answer ∙ table_gives (rank_order w l) (Ok k) (none_holds w (rank_rows w l) q (rw h)))

module _ (w : List ℕ) (i : ℕ) (image list : List ℕ) (d : DrawWrote w i image list) where
  list_rank : rank_of (state_of w) list ≡ i
  list_rank = ap (rank_of (state_of w)) (written_list w i image list d) ∙ (written_fair w i image list d).back i (written_below w i image list d)

  -- ranking the list that a draw wrote answers the index drawn
  pub rank_back : (r : Says ℕ) → Ranks w list r → r ≡ Ok i
  rank_back r c = ranks_as w list (answered w i image list d).counted (list_fair w i image list d).3 r c ∙ ap Ok list_rank

-- two indices that list the same cells in the same order are one
pub list_one : (w : List ℕ) (i j : ℕ) (image other list : List ℕ) → DrawWrote w i image list → DrawWrote w j other list → i ≡ j
list_one w i j image other list d e = sym (list_rank w i image list d) ∙ list_rank w j other list e

module _ (w l : List ℕ) (i : ℕ) (c : Ranks w l (Ok i)) where
  none_held : (none_hold (rank_order w l) ≡ true) × (rank_of (state_of w) l ≡ i)
  unfolding rank_says
  none_held = table_given (rank_order w l) (rank_of (state_of w) l) i (sym c.answer)

  ranked : Countable w
  ranked = countable w (rank_rows w l) none_held.0

  can_rank_lem : can_rank (state_of w) l ≡ true
  can_rank_lem = not-false (can_rank (state_of w) l) (later_row w (rank_rows w l) none_held.0 2)

  -- what a draw of the index that a rank answered lists is what was ranked
  pub list_forth : (image list : List ℕ) → DrawWrote w i image list → list ≡ l
  list_forth image list d = written_list w i image list d ∙ ap (drawn (state_of w)) (sym none_held.1) ∙ (fair_image w ranked.formed).forth l can_rank_lem

  -- and with room such a draw is answered, and writes that list
  pub rank_forth : (old new list cells : List ℕ) (r : Says Drawn) → Draws w i old new list cells r → length w + length l ≤ length old → length l ≤ length list
      → (r ≡ Ok (record { words = length w + length l; cells = length l })) × (take (length l) cells ≡ l)
  rank_forth old new list cells r p room list_room =
      let f = fair_image w ranked.formed in
      let k : length l ≡ draw_size (state_of w) = sym (ap length (f.forth l can_rank_lem)) ∙ f.long (rank_of (state_of w) l) (f.ranks l can_rank_lem) in
      let q : Drawable w i old list = record { countable = ranked; below = rw none_held.1 at (f.ranks l can_rank_lem); room = omega arith; list_room = omega arith } in
      let d = draw_comes w i old new list cells r p q in
      rw k (d, list_forth _ _ (draw_wrote w i old new list cells r p q))

-- each list of k different free cells ranks as one index below P: what a draw of it lists is that list, and no other index's draw lists it
pub rank_answers : (w l : List ℕ) → Countable w → can_rank (state_of w) l ≡ true → (r : Says ℕ) → Ranks w l r → RanksAsOne w l r
rank_answers w l q h r c =
    let e = ranks_as w l q h r c in
    record {
      index = rank_of (state_of w) l;
      answer = e;
      below = (fair_image w q.formed).ranks l h;
      lists = list_forth w l (rank_of (state_of w) l) (subst (Ranks w l) e c);
      alone = λ i image d. sym (list_rank w i image l d);
    }

-- ---- the sets that come, and what else changes

module _ (w : List ℕ) (ok : well_formed w ≡ true) where
  -- each set of k free cells is added by exactly k! of the indices below P
  pub sets_fair : (image list : ℕ → List ℕ) → ((i : ℕ) → i < outcomes (state_of w) → DrawWrote w i (image i) (list i)) → (s : List ℕ) → can_rank (state_of w) s ≡ true
      → count_below (outcomes (state_of w)) (λ i. same_list (state_of (image i)).food (with_food (state_of w).food s)) ≡ factorial (draw_size (state_of w))
  sets_fair image list d s h =
      count_ext (outcomes (state_of w)) (λ i. same_list (state_of (image i)).food (with_food (state_of w).food s)) (λ i. same_list (after_draw (state_of w) i).food (with_food (state_of w).food s))
      (λ i l. ap (λ (t : State). same_list t.food (with_food (state_of w).food s)) (written_state w i (image i) (list i) (d i l)))
      ∙ (fair_image w ok).sets s h

module _ (w : List ℕ) (i : ℕ) (image list : List ℕ) (d : DrawWrote w i image list) where
  changed : (due : ℕ) (birth : Bool) → (after_draw (state_of w) i).due ≡ due → (after_draw (state_of w) i).birth ≡ birth → Changed w image list due birth
  unfolding after_draw
  changed due birth x y =
      let e = written_state w i image list d in
      record {
        side = ap (λ (t : State). t.side) e;
        snakes = ap (λ (t : State). t.snakes) e;
        food = ap (λ (t : State). t.food) e ∙ ap (with_food (state_of w).food) (sym (written_list w i image list d));
        due_is = ap (λ (t : State). t.due) e ∙ x;
        birth_is = ap (λ (t : State). t.birth) e ∙ y;
      }

  -- a draw that is not at birth leaves nothing due
  pub draw_changes : (state_of w).birth ≡ false → Changed w image list 0 false
  draw_changes b = let s = settled (state_of w) i b in changed 0 false s.due s.birth

  -- 'A birth draw takes 1 from due ..; birth stays unless due was 1', where a cell is free
  pub birth_changes : (state_of w).birth ≡ true → 0 < length (free (state_of w)) → Changed w image list ((state_of w).due - 1) (not (eqb (state_of w).due 1))
  birth_changes b some =
      let t = state_of w in
      let s = born t b i (rw (birth_count t b some) at (written_below w i image list d)) in
      changed (t.due - 1) (not (eqb t.due 1)) s.due s.birth

  -- '.. or sets it to 0 when n = 0; birth stays unless .. n was 0'
  pub full_changes : (state_of w).birth ≡ true → length (free (state_of w)) ≡ 0 → Changed w image list 0 false
  full_changes b none = let s = (born_full (state_of w) b i none).0 in changed 0 false s.due s.birth

  -- what it wrote is well-formed again
  pub written_again : well_formed image ≡ true
  written_again = ap well_formed (written_image w i image list d) ∙ draw_again w i (answered w i image list d).counted.formed (written_below w i image list d)

-- ---- a chain of draws at birth: image j + 1 is what draw j wrote, and each draw with food due is answered

-- at birth a well-formed image with food due has few outcomes, so that with room an index below them is answered
pub birth_countable : (w : List ℕ) → well_formed w ≡ true → 0 < due_in w → (state_of w).birth ≡ true → Countable w
unfolding state_of
birth_countable w ok due b =
    let t = state_of w in
    let s = sound w ok in
    record { formed = ok; due = due; fits = le_trans (birth_few t b) (omega (arith, free_short t, s.area_max)) }

-- as it is with room, and one of the chain where the next image is what it wrote
pub chain_draw : (image : ℕ → List ℕ) (index : ℕ → ℕ) (j : ℕ) (old new list cells : List ℕ) (r : Says Drawn) → Draws (image j) (index j) old new list cells r
    → Drawable (image j) (index j) old list → image (suc j) ≡ take (length (image j) + draw_size (state_of (image j))) new → Drawing image index j
chain_draw image index j old new list cells r p q e =
    let k = draw_size (state_of (image j)) in
    record { list = take k cells; writes = subst (λ (w : List ℕ). DrawWrote (image j) (index j) w (take k cells)) (sym e) (draw_wrote (image j) (index j) old new list cells r p q) }

module _ (image : ℕ → List ℕ) (index : ℕ → ℕ) (draws : (j : ℕ) → 0 < (state_of (image j)).due → Drawing image index j) where
  drawn_next : (j : ℕ) → 0 < (state_of (image j)).due → state_of (image (suc j)) ≡ after_draw (state_of (image j)) (index j)
  drawn_next j h = let d = draws j h in written_state (image j) (index j) (image (suc j)) d.list d.writes

  drawn_below : (j : ℕ) → 0 < (state_of (image j)).due → index j < outcomes (state_of (image j))
  drawn_below j h = let d = draws j h in written_below (image j) (index j) (image (suc j)) d.list d.writes

-- the chain without its first draw
later : (image : ℕ → List ℕ) (index : ℕ → ℕ) → ((j : ℕ) → 0 < (state_of (image j)).due → Drawing image index j)
    → (j : ℕ) → 0 < (state_of (image (suc j))).due → Drawing (λ k. image (suc k)) (λ k. index (suc k)) j
later image index draws j h = let d = draws (suc j) h in record { list = d.list; writes = d.writes }

-- what is due does not grow
due_falls : (k : ℕ) (index : ℕ → ℕ) (t : State) → (after_draws index k t).due ≤ t.due
unfolding after_draws
due_falls zero index t = le_refl _
due_falls (suc k) index t = le_trans (due_falls k (λ j. index (suc j)) (after_draw t (index 0))) (after_due t (index 0))

-- image k is what k draws of the definition make, while food is due before
images_are : (k : ℕ) (image : ℕ → List ℕ) (index : ℕ → ℕ) → ((j : ℕ) → 0 < (state_of (image j)).due → Drawing image index j)
    → ((j : ℕ) → j < k → 0 < (after_draws index j (state_of (image 0))).due) → state_of (image k) ≡ after_draws index k (state_of (image 0))
unfolding after_draws
images_are zero image index draws h = refl
images_are (suc k) image index draws h =
    let e = drawn_next image index draws 0 (h 0 (omega arith)) in
    images_are k (λ j. image (suc j)) (λ j. index (suc j)) (later image index draws)
    (λ j l. subst (λ (s : State). 0 < (after_draws (λ i. index (suc i)) j s).due) (sym e) (h (suc j) (omega arith)))
    ∙ ap (after_draws (λ i. index (suc i)) k) e

-- and where food is still due after k draws, it was due before each
due_before : (k : ℕ) (index : ℕ → ℕ) (t : State) → 0 < (after_draws index k t).due → (j : ℕ) → j < k → 0 < (after_draws index j t).due
unfolding after_draws
due_before zero index t h j l = absurd (not-suc-le-zero l)
due_before (suc k) index t h zero l = let f = due_falls (suc k) index t in omega arith
due_before (suc k) index t h (suc j) l = due_before k (λ i. index (suc i)) (after_draw t (index 0)) h j (le_of_suc-le-suc l)

-- 'A birth chain with p due ends after exactly min(p, n+1) draws', of the calls' answers
module _ (image : ℕ → List ℕ) (index : ℕ → ℕ) (draws : (j : ℕ) → 0 < (state_of (image j)).due → Drawing image index j) (birth : (state_of (image 0)).birth ≡ true) where
  in_range : InRange index (state_of (image 0))
  in_range j h =
      let e = images_are j image index draws (due_before j index (state_of (image 0)) h) in
      subst (λ (s : State). index j < outcomes s) e (drawn_below image index draws j (rw e h))

  ends : Ends index (state_of (image 0)) (min (state_of (image 0)).due (length (free (state_of (image 0))) + 1))
  ends = chain_ends index (state_of (image 0)) birth in_range

  pub chain_ended : (state_of (image (min (state_of (image 0)).due (length (free (state_of (image 0))) + 1)))).due ≡ 0
  chain_ended =
      let k = min (state_of (image 0)).due (length (free (state_of (image 0))) + 1) in
      ap (λ (s : State). s.due) (images_are k image index draws ends.before) ∙ ends.last

  pub chain_not_before : (j : ℕ) → j < min (state_of (image 0)).due (length (free (state_of (image 0))) + 1) → 0 < (state_of (image j)).due
  chain_not_before j l = rw (images_are j image index draws (λ i h. ends.before i (omega arith))) (ends.before j l)
