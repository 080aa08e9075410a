-- Every word of an image past its records is a taken cell, and no other cell is taken. Assumes nothing.
use mathlib.Core.Path.{◌≡◌, sym, ap, ap₂, ◌∙◌}
use mathlib.Core.Bool.{Bool, ◌||◌, or_comm}
use mathlib.Core.List.{List, ◌++◌}
use Prim.Native.Nat.{ℕ}
use lib.ListN.{drop}
use Rattle.lists.specs.Below.{some_below, concat_below}
use Rattle.lists.specs.Lists.{member}
use Rattle.lists.proofs.Lists.{member_append}
use Rattle.lists.proofs.Members.{member_concat}
use Rattle.rules.specs.State.{count}
use Rattle.rules.specs.Image.{front, body_of, snakes_in, area_in, state_of}
use Rattle.rules.specs.Facts.{Sound}
use Rattle.rules.specs.Chance.{taken, free_from, free}
use Rattle.rules.proofs.Image.{past_front}
use Rattle.rules.proofs.Words.{image_of_lem}
use Rattle.rules.proofs.Parts.{state_count}
use Rattle.boards.proofs.Free.{free_ext}

module _ (w : List ℕ) (s : Sound w) where
  pub words_past : drop (front (snakes_in w)) w ≡ concat_below (count (state_of w)) (body_of (state_of w)) ++ (state_of w).food
  words_past = ap₂ (λ (k : ℕ) (l : List ℕ). drop (front k) l) (sym (state_count w)) (sym (image_of_lem w s)) ∙ past_front (state_of w)

  pub taken_words : (c : ℕ) → member c (drop (front (snakes_in w)) w) ≡ taken (state_of w) c
  taken_words c =
      let t = state_of w in
      let bodies = concat_below (count t) (body_of t) in
      ap (member c) words_past
      ∙ member_append c bodies t.food
      ∙ ap (λ (b : Bool). b || member c t.food) (member_concat c (count t) (body_of t))
      ∙ or_comm (some_below (count t) (λ i. member c (body_of t i))) (member c t.food)

  pub free_words : free_from (λ c. member c (drop (front (snakes_in w)) w)) 0 (area_in w) ≡ free (state_of w)
  unfolding free state_of
  free_words = free_ext _ (taken (state_of w)) (area_in w) 0 (λ c _ _. taken_words c)
