-- The apples that are left: their number, and how a loop writes them. Assumes nothing.
use mathlib.Core.Path.{◌≡◌, refl, sym, ap, ◌∙◌}
use mathlib.Core.Bool.{Bool, true, false, not, cond}
use mathlib.Core.List.{List, [], ◌∷◌, ◌++◌, append-nil}
use Prim.Native.Nat.{ℕ, ◌+◌, ◌≤◌, ◌<◌}
use native.Mathlib.Omega.{arith}
use lib.ListN.{length, get_or, set, take, length-append}
use lib.Seq.{take_all}
use Rattle.std.specs.List.{count_by}
use Rattle.std.proofs.lemmas.List.Recursion.{is_count_by}
use borrow.Author.Tests.{not-true, not-false}
use Rattle.lists.specs.Lists.{keep, member, write_at}
use Rattle.lists.proofs.Runs.{write_one}
use Rattle.lists.proofs.Writes.{write_none}
use Rattle.lists.proofs.Lists.{keep_taken, keep_part}
use Rattle.lists.proofs.Shorter.{keep_all}
use Rattle.cells.specs.Writers.{left}

-- nothing eaten: the food is one copy
pub left_all : (e food : List ℕ) → length e ≡ 0 → left e food ≡ food
unfolding left member
left_all [] food h = keep_all (λ a. not (member a [])) food (λ x. refl)
left_all (x ∷ e) food h = absurd (omega arith)

one_more : (b : Bool) (x : ℕ) (l : List ℕ) → length (cond b (x ∷ l) l) ≡ cond b (1 + length l) (length l)
one_more true x l = omega arith
one_more false x l = refl

-- a loop that has passed the first j apples
module _ (e food : List ℕ) where
  left_none : left e [] ≡ []
  unfolding left keep
  left_none = refl

  left_end : (j : ℕ) → length food ≤ j → left e (take j food) ≡ left e food
  left_end j h = ap (left e) (take_all j food h)

  left_part : (j : ℕ) → length (left e (take j food)) ≤ length (left e food)
  unfolding left
  left_part j = keep_part (λ a. not (member a e)) food j

  pub left_count : count_by (λ a. not (member a e)) food ≡ length (left e food)
  unfolding left keep
  left_count = sym (is_count_by (λ l. length (left e l)) (λ a. not (member a e)) refl (λ x l. one_more (not (member x e)) x (left e l)) food)

  module _ (j : ℕ) (h : j < length food) where
    left_next : left e (take (j + 1) food) ≡ left e (take j food) ++ cond (not (member (get_or food j 0) e)) (get_or food j 0 ∷ []) []
    unfolding left
    left_next = keep_taken (λ a. not (member a e)) food j 0 h

    left_held : member (get_or food j 0) e ≡ true → left e (take (j + 1) food) ≡ left e (take j food)
    left_held t = left_next ∙ rw t (append-nil (left e (take j food)))

    left_free : member (get_or food j 0) e ≡ false → left e (take (j + 1) food) ≡ left e (take j food) ++ (get_or food j 0 ∷ [])
    left_free t = left_next ∙ rw t

-- ---- `write_left`: those left of the first i apples are written, and `at` is the index after them

pub record LeftTo (e food d : List ℕ) (from : ℕ) (out : List ℕ) (at i : ℕ) : Type 0 where
  pub at_is : at ≡ from + length (left e (take i food))
  pub out_is : out ≡ write_at d from (left e (take i food))

module _ (e food d : List ℕ) (from : ℕ) where
  pub left_start : LeftTo e food d from d from 0
  left_start = record {
    at_is = omega (arith, ap length (left_none e food));
    out_is = sym (ap (write_at d from) (left_none e food) ∙ write_none d from);
  }

  module _ (out : List ℕ) (at i : ℕ) (v : LeftTo e food d from out at i) where
    module _ (h : i < length food) (b : Bool) (t : b ≡ member (get_or food i 0) e) where
      pub left_skip : not b ≡ false → LeftTo e food d from out at (i + 1)
      left_skip n =
          let z = left_held e food i h (sym t ∙ not-false b n) in
          record { at_is = v.at_is ∙ ap (λ (l : List ℕ). from + length l) (sym z); out_is = v.out_is ∙ ap (write_at d from) (sym z) }

      module _ (n : not b ≡ true) (r : from + length (left e food) ≤ length d) where
        room : from + length (left e (take i food)) < length d
        room =
            let z = left_free e food i h (sym t ∙ not-true b n) in
            omega (arith, ap length z, length-append (left e (take i food)) (get_or food i 0 ∷ []), left_part e food (i + 1))

        pub left_room : at < length d
        left_room = rw v.at_is room

        pub left_put : length out ≡ length d → LeftTo e food d from (set out at (get_or food i 0)) (at + 1) (i + 1)
        left_put w =
            let z = left_free e food i h (sym t ∙ not-true b n) in
            record {
              at_is = omega (arith, ap length z, length-append (left e (take i food)) (get_or food i 0 ∷ []), v.at_is);
              out_is = write_one d out (left e (take i food)) from at (get_or food i 0) room w v.at_is v.out_is ∙ ap (write_at d from) (sym z);
            }

    pub left_done : length food ≤ i → out ≡ write_at d from (left e food)
    left_done h = v.out_is ∙ ap (write_at d from) (left_end e food i h)
