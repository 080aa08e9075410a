-- A draw's list and its next image, as the code makes them, are those of the definition. Assumes nothing.
use mathlib.Core.Path.{◌≡◌, refl, sym, ap, ap₂, ◌∙◌}
use mathlib.Core.Bool.{Bool, not, ◌&&◌, ◌||◌}
use mathlib.Core.List.{List, ◌++◌}
use Prim.Native.Nat.{ℕ, ◌+◌, ◌-◌, ◌≤◌}
use native.Mathlib.Omega.{arith}
use lib.Dec.{eqb}
use lib.ListN.{length, take, drop}
use lib.Seq.{length-take-le, take_at}
use borrow.Rule.Slice.PartMut.{put_mid}
use Rattle.lists.specs.Choice.{◌if◌else◌}
use Rattle.lists.specs.Lists.{over_front}
use Rattle.rules.specs.Image.{due_in, birth_in, area_in, image_of, state_of}
use Rattle.rules.specs.Chance.{drawn_from, drawn, after_draw}
use Rattle.rules.proofs.DrawFacts.{drawn_due}
use Rattle.rules.proofs.Fairness.{listed}
use Rattle.rules.proofs.FreeCells.{free_short}
use Rattle.strips.specs.Marks.{unmarked, Open}
use Rattle.outcomes.specs.declared.odds.Odds.{Odds}
use Rattle.chance.specs.Next.{next_words, Growing}
use Rattle.chance.specs.Answers.{draw_of, Ready, Drew}
use Rattle.rules.proofs.DrawFacts.{next_long}
use Rattle.chance.proofs.NextImage.{next_is, drawn_fresh}
use Rattle.chance.proofs.Bounds.{size_le}

module _ (w : List ℕ) (i : ℕ) (o : Odds) (strips : List ℕ) (room : ℕ) (list : List ℕ) (p : Ready w i o strips room (length list)) where
  pub strips_open : Open (area_in w) o.free strips
  strips_open = record {
    area_max = p.sound.area_max;
    size = p.stands.size;
    left_is = p.stands.free_is ∙ ap length (sym p.stands.shows);
  }

  cells_long : length (drawn (state_of w) i) ≡ o.size
  cells_long = (listed (state_of w) i p.below).long ∙ sym p.stands.size_is

  none_off : o.size - 0 ≡ o.size
  none_off = omega arith

  part_long : length (take (o.size - 0) (drop 0 list)) ≡ o.size
  part_long = rw none_off (length-take-le o.size list p.cells)

  pub part_few : length (take (o.size - 0) (drop 0 list)) ≤ o.free
  part_few = rw part_long (size_le w strips o p.stands)

  -- ys are the cells that the index draws, in the list's first words
  module _ (ys : List ℕ) (e : ys ≡ drawn_from (unmarked strips (area_in w)) (length (take (o.size - 0) (drop 0 list))) i) where
    list_drawn : ys ≡ drawn (state_of w) i
    unfolding drawn
    list_drawn = e ∙ ap₂ (λ (c : List ℕ) (n : ℕ). drawn_from c n i) p.stands.shows (part_long ∙ p.stands.size_is)

    list_after : put_mid 0 (o.size - 0) list ys ≡ over_front (drawn (state_of w) i) list
    unfolding over_front
    list_after = ap₂ (λ (l : List ℕ) (n : ℕ). l ++ drop n list) list_drawn (none_off ∙ sym cells_long)

    abbrev part : List ℕ
    part = take (o.size - 0) (drop 0 (put_mid 0 (o.size - 0) list ys))

    part_is : part ≡ drawn (state_of w) i
    unfolding over_front
    part_is =
        let c = drawn (state_of w) i in
        ap₂ (λ (n : ℕ) (l : List ℕ). take n l) none_off list_after ∙ take_at c (drop (length c) list) o.size cells_long

    module _ (d : ℕ) (q : d ≡ (due_in w - 1 if eqb (birth_in w) 1 && not (eqb o.free 0) else 0)) where
      due_next : d ≡ (after_draw (state_of w) i).due
      unfolding after_draw state_of
      due_next = q ∙ ap (λ (n : ℕ). due_in w - 1 if eqb (birth_in w) 1 && not (eqb n 0) else 0) p.stands.free_is

      pub growing : Growing w d part room
      unfolding state_of
      growing =
          let a = free_short (state_of w) in
          let f = p.stands.free_is in
          let m = p.sound.area_max in
          let z = size_le w strips o p.stands in
          let l : length part ≡ o.size = ap length part_is ∙ cells_long in
          record {
            sound = p.sound;
            due_max = rw due_next (drawn_due w p.sound i p.below);
            few = omega arith;
            words = rw l p.words;
            fresh = rw part_is (drawn_fresh w p.sound i p.below);
          }

      module _ (b : Bool) (t : b ≡ (eqb (birth_in w) 1 && not (eqb o.free 0 || eqb (due_in w) 1))) where
        birth_next : b ≡ (after_draw (state_of w) i).birth
        unfolding after_draw state_of
        birth_next = t ∙ ap (λ (n : ℕ). eqb (birth_in w) 1 && not (eqb n 0 || eqb (due_in w) 1)) p.stands.free_is

        words_next : (old : List ℕ) → over_front (next_words w d b part) old ≡ over_front (image_of (after_draw (state_of w) i)) old
        words_next old = rw (due_next, birth_next, part_is) (ap (λ (l : List ℕ). over_front l old) (sym (next_is w p.sound i)))

        pub draw_done : (old new : List ℕ) → new ≡ over_front (next_words w d b part) old
            → Drew (draw_of w i) old new list (put_mid 0 (o.size - 0) list ys) (record { words = length w + o.size; cells = o.size })
        draw_done old new k = record {
          answer =
              let l : length (image_of (after_draw (state_of w) i)) ≡ length w + o.size = next_long w p.sound i p.below ∙ ap (λ (n : ℕ). length w + n) (sym p.stands.size_is) in
              rw (l, cells_long) refl;
          words = k ∙ words_next old;
          list = list_after;
        }
