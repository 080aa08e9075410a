-- What draw and rank say, by the tests in their order: one law for each return. Assumes nothing.
use Rattle.std.specs.Prelude.{Ok, Err, Some, None}
use mathlib.Core.Path.{◌≡◌, refl, sym, ap, ◌∙◌}
use mathlib.Core.Bool.{false, not}
use mathlib.Core.List.{List}
use Prim.Native.Nat.{ℕ, ◌+◌, ◌≤◌, ◌<◌}
use native.Mathlib.Nat.{pos_of_ne-zero}
use native.Mathlib.Omega.{arith}
use mir.Syntax.{w64}
use mir.Val.{Fits}
use lib.Dec.{ltb}
use lib.ListN.{length}
use borrow.Author.Tests.{lt-ltb, le-ltb}
use Rattle.lists.specs.Choice.{◌if◌else◌}
use Rattle.rules.specs.Image.{due_in, area_in, image_of, state_of, well_formed}
use Rattle.rules.specs.Facts.{Sound}
use Rattle.rules.specs.Chance.{outcomes, drawn, after_draw, rank_of, can_rank}
use Rattle.rules.specs.Calls.{Draw, draw_says, rank_says}
use Rattle.rules.specs.Tables.{Table}
use Rattle.rules.specs.Says.{Says, by_table}
use Rattle.rules.specs.Orders.{draw_rows, rank_rows}
use Rattle.rules.specs.Promises.{Draws, Ranks, Examines}
use Rattle.rules.specs.declared.Drawn.{Drawn}
use Rattle.rules.specs.declared.refusal.Refusal.{Refusal}
use Rattle.rules.proofs.FreeCells.{free_short}
use Rattle.rules.proofs.Fairness.{listed}
use Rattle.strips.specs.Marks.{unmarked}
use Rattle.outcomes.specs.Odds.{Stands}
use Rattle.outcomes.specs.declared.odds.Odds.{Odds}
use Rattle.outcomes.proofs.Marking.{count_eq}
use Rattle.outcomes.proofs.Rows.{faulty_first, none_due, too_many, none_holds}
use Rattle.chance.specs.Answers.{draw_of, Ready, Drew}
use Rattle.chance.specs.Ranking.{Rankable, Ranked}
use Rattle.chance.proofs.Bounds.{size_le, count_fits}
use Rattle.chance.proofs.Horner.{wrong_length, can_rank_lem}
use Rattle.rules.proofs.DrawFacts.{next_long}
use Rattle.rules.specs.declared.refusal.Refusal.TheVariants as Refusal

-- the words of an image and of what a draw takes
pub words_fit : (w strips : List ℕ) (o : Odds) → Stands w strips o → Sound w → Fits w64 (length w + o.size)
unfolding state_of
words_fit w strips o p s = omega (arith, free_short (state_of w), s.area_max, s.small, size_le w strips o p, p.free_is)

-- ---- draw

module _ (w : List ℕ) (i : ℕ) (old list : List ℕ) where
  -- 27 and 29
  abbrev last_rows : Table
  last_rows = draw_rows w i (length old) (length list)

  abbrev answer : Says Draw
  answer = Ok (draw_of w i)

  -- a refusal leaves both buffers as they were
  refusing : (k : Refusal) → draw_says w i (length old) (length list) ≡ Err k → Draws w i old old list list (Err k)
  refusing k e = record { answer = rw e refl; words = rw e refl; list = rw e refl }

  pub draw_faulty : (a : Says (Unit {0})) → Examines w a → (x : Refusal) → a ≡ Err x → Draws w i old old list list (Err x)
  unfolding draw_says
  draw_faulty a e x g = refusing x (faulty_first last_rows answer w a e x g)

  module _ (s : Sound w) where
    pub draw_23 : due_in w ≡ 0 → Draws w i old old list list (Err Refusal.NoneDue)
    unfolding draw_says
    draw_23 z = refusing Refusal.NoneDue (none_due last_rows answer w s z)

    module _ (n : due_in w ≡ 0 → ⊥) (strips : List ℕ) (o : Odds) (p : Stands w strips o) where
      pub draw_28 : o.count ≡ None → Draws w i old old list list (Err Refusal.Count)
      unfolding draw_says
      draw_28 e = refusing Refusal.Count (too_many last_rows answer w s n strips o p e)

      module _ (m : ℕ) (c : o.count ≡ Some m) where
        further : draw_says w i (length old) (length list) ≡ by_table last_rows answer
        unfolding draw_says
        further = none_holds last_rows answer w s n strips o p m c

        pub draw_27 : m ≤ i → Draws w i old old list list (Err Refusal.Outcome)
        unfolding by_table
        draw_27 h = refusing Refusal.Outcome (further ∙ rw (le-ltb i (outcomes (state_of w)) (let e = count_eq w strips o p m c in omega arith)))

        module _ (h : i < m) where
          below : i < outcomes (state_of w)
          below = let e = count_eq w strips o p m c in omega arith

          long : length (image_of (after_draw (state_of w) i)) ≡ length w + o.size
          long = next_long w s i below ∙ ap (λ (k : ℕ). length w + k) (sym p.size_is)

          cells_long : length (drawn (state_of w) i) ≡ o.size
          cells_long = (listed (state_of w) i below).long ∙ sym p.size_is

          pub draw_29 : length old < length w + o.size → Draws w i old old list list (Err Refusal.Buffer)
          unfolding by_table
          draw_29 l =
              refusing Refusal.Buffer
              (further ∙ rw (lt-ltb i (outcomes (state_of w)) below, lt-ltb (length old) (length (image_of (after_draw (state_of w) i))) (omega (arith, long))))

          module _ (k : length w + o.size ≤ length old) where
            fits : ltb (length old) (length (image_of (after_draw (state_of w) i))) ≡ false
            fits = le-ltb (length old) (length (image_of (after_draw (state_of w) i))) (omega (arith, long))

            pub list_29 : length list < o.size → Draws w i old old list list (Err Refusal.Buffer)
            unfolding by_table
            list_29 l =
                refusing Refusal.Buffer
                (further ∙ rw (lt-ltb i (outcomes (state_of w)) below, fits, lt-ltb (length list) (length (drawn (state_of w) i)) (omega (arith, cells_long))))

            module _ (l : o.size ≤ length list) where
              none_refuses : draw_says w i (length old) (length list) ≡ answer
              unfolding by_table
              none_refuses =
                  further ∙ rw (lt-ltb i (outcomes (state_of w)) below, fits, le-ltb (length list) (length (drawn (state_of w) i)) (omega (arith, cells_long)))

              pub draw_gives : (new new_list : List ℕ) (d : Drawn) → Drew (draw_of w i) old new list new_list d → Draws w i old new list new_list (Ok d)
              draw_gives new new_list d a =
                  let e = none_refuses in record { answer = rw e (ap Ok a.answer); words = rw e a.words; list = rw e a.list }

-- where no row holds
pub draw_ready : (w : List ℕ) (i : ℕ) (o : Odds) (strips : List ℕ) (room more : ℕ) → Stands w strips o → Sound w → (due_in w ≡ 0 → ⊥) → (m : ℕ) → o.count ≡ Some m → i < m
    → length w + o.size ≤ room → o.size ≤ more → Ready w i o strips room more
draw_ready w i o strips room more p s n m c h k l = record {
  sound = s;
  stands = p;
  due = pos_of_ne-zero n;
  below = let e = count_eq w strips o p m c in omega arith;
  words = k;
  cells = l;
}

-- ---- rank

module _ (w l : List ℕ) where
  abbrev index : Says ℕ
  index = Ok (rank_of (state_of w) l)

  pub rank_faulty : (a : Says (Unit {0})) → Examines w a → (x : Refusal) → a ≡ Err x → Ranks w l (Err x)
  unfolding rank_says
  rank_faulty a e x g = record { answer = sym (faulty_first (rank_rows w l) index w a e x g) }

  module _ (s : Sound w) where
    pub rank_23 : due_in w ≡ 0 → Ranks w l (Err Refusal.NoneDue)
    unfolding rank_says
    rank_23 z = record { answer = sym (none_due (rank_rows w l) index w s z) }

    module _ (n : due_in w ≡ 0 → ⊥) (strips : List ℕ) (o : Odds) (p : Stands w strips o) where
      pub rank_28 : o.count ≡ None → Ranks w l (Err Refusal.Count)
      unfolding rank_says
      rank_28 e = record { answer = sym (too_many (rank_rows w l) index w s n strips o p e) }

      module _ (m : ℕ) (c : o.count ≡ Some m) where
        ranked : rank_says w l ≡ (Err Refusal.List if not (can_rank (state_of w) l) else index)
        unfolding rank_says by_table
        ranked = none_holds (rank_rows w l) index w s n strips o p m c

        pub rank_30 : (length l ≡ o.size → ⊥) → Ranks w l (Err Refusal.List)
        rank_30 h =
            record { answer = sym (ranked ∙ rw (wrong_length (state_of w) l (λ e. h (e ∙ sym p.size_is)))) }

        module _ (e : length l ≡ o.size) where
          pub rankable : Rankable l (area_in w) o.free strips
          rankable =
              let k = size_le w strips o p in
              record {
                squares = record { area_max = s.area_max; size = p.size; left_is = p.free_is ∙ ap length (sym p.shows) };
                few = omega arith;
                fits = rw e (count_fits w strips o p m c);
              }

          pub rank_says_lem : (r : Says ℕ) → Ranked (unmarked strips (area_in w)) l r → Ranks w l r
          unfolding rank_of
          rank_says_lem r q = record { answer = rw p.shows at q.answer ∙ sym (ranked ∙ rw (can_rank_lem (state_of w) l (e ∙ p.size_is))) }
