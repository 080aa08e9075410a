-- The image after a draw, word by word: the records and bodies stay, and the food grows. Assumes nothing.
use mathlib.Core.Path.{◌≡◌, sym, ap, ap₂, ◌∙◌}
use mathlib.Core.Bool.{Bool}
use mathlib.Core.List.{List, [], ◌∷◌, ◌++◌, append_assoc, append-nil}
use Prim.Native.Nat.{ℕ, ◌+◌, ◌-◌, ◌≤◌, ◌<◌}
use native.Mathlib.Nat.{le_of_eq}
use native.Mathlib.Omega.{arith}
use lib.ListN.{length, take, drop, length-append, length-drop, take-append-drop, drop_of_length-le}
use lib.Seq.{take_at, drop_at, drop-drop, drop-append-add, drop-append-le, length-take-le}
use borrow.Rule.Slice.PartMut.{put_mid}
use Rattle.lists.proofs.Lists.{rest_is}
use Rattle.lists.proofs.Writes.{write_front}
use Rattle.lists.specs.Choice.{bit}
use Rattle.lists.specs.Below.{concat_below}
use Rattle.lists.specs.Lists.{write_at, over_front}
use Rattle.rules.specs.State.{count}
use Rattle.rules.specs.Image.{body_of, record_of, image_of, snakes_in, side_in, food_count_in, food_start, food_at, state_of}
use Rattle.rules.specs.Facts.{Sound}
use Rattle.rules.specs.Chance.{outcomes, drawn, with_food, after_draw}
use Rattle.rules.proofs.FreeCells.{free_off_food}
use Rattle.rules.proofs.Facts.{start_first, start_mono}
use Rattle.rules.proofs.Fairness.{listed}
use Rattle.rules.proofs.Sets.{with_long}
use Rattle.rules.proofs.Words.{image_of_lem}
use Rattle.rules.proofs.Parts.{state_count, food_long}
use Rattle.cells.specs.Writers.{Fresh}
use Rattle.chance.specs.Next.{next_words, Growing}

module _ (w : List ℕ) (s : Sound w) where
  food_from : 5 ≤ food_start w
  food_from = let a = start_mono w 0 (snakes_in w) (omega arith) in let b = start_first w in omega arith

  -- the records and bodies of the state's image
  abbrev table : List ℕ
  table = concat_below (count (state_of w)) (record_of (state_of w))

  abbrev bodies : List ℕ
  bodies = concat_below (count (state_of w)) (body_of (state_of w))

  past_five : table ++ (bodies ++ food_at w) ≡ drop 5 w
  unfolding image_of state_of
  past_five = ap (drop 5) (image_of_lem w s)

  middle : table ++ bodies ≡ take (food_start w - 5) (drop 5 w)
  middle =
      let whole : (table ++ bodies) ++ food_at w ≡ drop 5 w = append_assoc table bodies (food_at w) ∙ past_five in
      let l : length (table ++ bodies) ≡ food_start w - 5 =
      let a = ap length whole in let t = s.total in let f = food_from in
      omega (arith, length-append (table ++ bodies) (food_at w), length-drop 5 w, food_long w s) in
      sym (ap (take (food_start w - 5)) (sym whole) ∙ take_at (table ++ bodies) (food_at w) (food_start w - 5) l)

  module _ (i : ℕ) where
    pub next_is : image_of (after_draw (state_of w) i) ≡ next_words w (after_draw (state_of w) i).due (after_draw (state_of w) i).birth (drawn (state_of w) i)
    unfolding image_of next_words after_draw state_of
    next_is =
        let t = state_of w in
        let cells = drawn t i in
        let f = with_food (food_at w) cells in
        let n : length f ≡ food_count_in w + length cells = with_long cells (food_at w) ∙ ap (λ (k : ℕ). k + length cells) (food_long w s) in
        (λ j. state_count w j ∷ side_in w ∷ (after_draw t i).due ∷ bit (after_draw t i).birth ∷ n j ∷ (table ++ (bodies ++ f)))
        ∙ ap (λ (r : List ℕ). snakes_in w ∷ side_in w ∷ (after_draw t i).due ∷ bit (after_draw t i).birth ∷ (food_count_in w + length cells) ∷ r)
        (sym (append_assoc table bodies f) ∙ ap (λ (m : List ℕ). m ++ f) middle)

  next_words_long : (due : ℕ) (birth : Bool) (cells : List ℕ) → length (next_words w due birth cells) ≡ length w + length cells
  unfolding next_words
  next_words_long due birth cells =
      let f = food_from in
      let t = s.total in
      let a : length (take (food_start w - 5) (drop 5 w)) ≡ food_start w - 5 = length-take-le (food_start w - 5) (drop 5 w) (omega (arith, length-drop 5 w)) in
      omega (arith, length-append (take (food_start w - 5) (drop 5 w)) (with_food (food_at w) cells), with_long cells (food_at w), food_long w s)

  module _ (i : ℕ) (h : i < outcomes (state_of w)) where
    pub drawn_fresh : Fresh (food_at w) (drawn (state_of w) i)
    unfolding state_of
    drawn_fresh =
        let r = listed (state_of w) i h in
        record { rising = s.rising; once = r.once; away = λ c m. free_off_food (state_of w) c (r.among c m) }

-- ---- the words as they are written: the image, then words 0 to 4, then the food's part

module _ (w : List ℕ) (due : ℕ) (birth : Bool) (cells d : List ℕ) (g : Growing w due cells (length d)) where
  abbrev s : Sound w
  s = g.sound

  abbrev five : List ℕ
  five = snakes_in w ∷ side_in w ∷ due ∷ bit birth ∷ (food_count_in w + length cells) ∷ []

  abbrev mid : List ℕ
  mid = take (food_start w - 5) (drop 5 w)

  abbrev rest : List ℕ
  rest = drop (length w) d

  abbrev at : ℕ
  at = length w - food_count_in w

  at_is : at ≡ food_start w
  at_is = let t = s.total in omega arith

  parts : drop 5 w ≡ mid ++ food_at w
  parts =
      let f = food_from w s in
      let e : 5 + (food_start w - 5) ≡ food_start w = omega arith in
      sym (ap (λ (l : List ℕ). mid ++ l) (sym (drop-drop (food_start w - 5) 5 w ∙ ap (λ (k : ℕ). drop k w) e)) ∙ take-append-drop (food_start w - 5) (drop 5 w))

  copied : write_at (write_at d 0 w) 0 five ≡ (five ++ mid) ++ (food_at w ++ rest)
  unfolding over_front
  copied =
      write_front (write_at d 0 w) five
      ∙ ap (λ (l : List ℕ). five ++ drop 5 l) (write_front d w)
      ∙ ap (λ (l : List ℕ). five ++ l) (drop-append-le 5 w rest s.five ∙ ap (λ (l : List ℕ). l ++ rest) parts ∙ append_assoc mid (food_at w) rest)

  head_long : length (five ++ mid) ≡ at
  head_long =
      let f = food_from w s in
      let t = s.total in
      let a : length mid ≡ food_start w - 5 = length-take-le (food_start w - 5) (drop 5 w) (omega (arith, length-drop 5 w)) in
      omega (arith, length-append five mid, at_is)

  module _ (a o : List ℕ) (q : a ≡ write_at d 0 w) (e : o ≡ write_at a 0 five) where
    is : o ≡ (five ++ mid) ++ (food_at w ++ rest)
    is = e ∙ ap (λ (l : List ℕ). write_at l 0 five) q ∙ copied

    pub food_part : take (length o - at) (drop at o) ≡ food_at w ++ rest
    food_part = rest_is o at ∙ ap (drop at) is ∙ drop_at (five ++ mid) (food_at w ++ rest) at head_long

    food_front : take (food_count_in w) (take (length o - at) (drop at o)) ≡ food_at w
    food_front = ap (take (food_count_in w)) food_part ∙ take_at (food_at w) rest (food_count_in w) (food_long w s)

    food_room : food_count_in w + length cells ≤ length (take (length o - at) (drop at o))
    food_room = rw food_part (omega (arith, g.words, length-append (food_at w) rest, food_long w s, length-drop (length w) d))

    pub food_grows : (food_count_in w + length cells ≤ length (take (length o - at) (drop at o))) × Fresh (take (food_count_in w) (take (length o - at) (drop at o))) cells
    food_grows = (food_room, rw food_front g.fresh)

    grown : (ys : List ℕ) → ys ≡ over_front (with_food (take (food_count_in w) (take (length o - at) (drop at o))) cells) (take (length o - at) (drop at o))
        → ys ≡ with_food (food_at w) cells ++ drop (length w + length cells) d
    unfolding over_front
    grown ys y =
        let f = with_food (food_at w) cells in
        y
        ∙ ap₂ (λ (l r : List ℕ). with_food l cells ++ drop (length (with_food l cells)) r) food_front food_part
        ∙ ap (λ (l : List ℕ). f ++ l)
        (ap (λ (k : ℕ). drop k (food_at w ++ rest)) (with_long cells (food_at w))
        ∙ drop-append-add (food_at w) rest (length cells)
        ∙ drop-drop (length cells) (length w) d)

    -- the food's part put back
    pub next_written : (ys : List ℕ) → ys ≡ over_front (with_food (take (food_count_in w) (take (length o - at) (drop at o))) cells) (take (length o - at) (drop at o))
        → put_mid at (length o - at) o ys ≡ over_front (next_words w due birth cells) d
    unfolding over_front next_words
    next_written ys y =
        let f = with_food (food_at w) cells in
        let tail = drop (length w + length cells) d in
        let none : drop (length o - at) (drop at o) ≡ [] = drop_of_length-le (drop at o) (le_of_eq (length-drop at o)) in
        let n = next_words_long w s due birth cells in
        ap₂ (λ (l r : List ℕ). l ++ (ys ++ r)) (ap (take at) is ∙ take_at (five ++ mid) (food_at w ++ rest) at head_long) none
        ∙ ap (λ (l : List ℕ). (five ++ mid) ++ l) (append-nil ys ∙ grown ys y)
        ∙ sym (append_assoc (five ++ mid) f tail)
        ∙ ap₂ (λ (l : List ℕ) (k : ℕ). l ++ drop k d) (append_assoc five mid f) (sym n)
