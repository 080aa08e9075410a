-- The cells eaten: the turns of the loop that gathers them, and which apples are left. Assumes nothing.
use mathlib.Core.Path.{◌≡◌, refl, sym, ap, ◌∙◌}
use mathlib.Core.Bool.{Bool, true, false, not, ◌&&◌, ◌||◌}
use mathlib.Core.List.{List, [], ◌∷◌, ◌++◌, append-nil}
use Prim.Native.Nat.{ℕ, zero, suc, ◌+◌, ◌<◌, ◌≤◌}
use native.Mathlib.Nat.{add-zero}
use native.Mathlib.Omega.{arith}
use lib.Dec.{eqb}
use lib.ListN.{length, get_or, length-append}
use Rattle.lists.specs.Choice.{◌if◌else◌, bit}
use Rattle.lists.specs.Below.{some_below, count_below, concat_below}
use Rattle.lists.specs.Lists.{keep, member}
use Rattle.lists.proofs.Below.{count_none, count_next, concat_none, concat_next}
use Rattle.lists.proofs.Lists.{member_append}
use Rattle.cells.specs.Writers.{left}
use Rattle.rules.specs.Step.{eaten_by}
use Rattle.consequences.specs.declared.after.After.{After}
use Rattle.consequences.specs.After.{gone, cells, eating}
use Rattle.step.specs.Eaten.{bite, EatenTo}

-- ---- the loop

pub eaten_none : (all : List After) (n : ℕ) → n ≤ 8 → (xs : List ℕ) → xs ≡ [] → EatenTo all n 0 xs
eaten_none all n h xs e =
    let z : length xs ≡ 0 = ap length e in
    record { few = h; along = omega arith; fewer = omega arith; so_far = e ∙ sym (concat_none (bite all)); counted = z ∙ sym (count_none (eating all)) }

-- a is snake i
module _ (all : List After) (n i : ℕ) (xs : List ℕ) (q : EatenTo all n i xs) where
  module _ (l : i < n) (a : After) (pa : a ≡ get_or all i gone) where
    bites : (b : Bool) → a.ate ≡ b → concat_below (i + 1) (bite all) ≡ concat_below i (bite all) ++ (a.cell ∷ [] if b else [])
    bites b e = concat_next (bite all) i ∙ sym (λ k. concat_below i (bite all) ++ ((pa k).cell ∷ [] if (pa k).ate else [])) ∙ ap (λ (b : Bool). concat_below i (bite all) ++ (a.cell ∷ [] if b else [])) e

    counts : (b : Bool) → a.ate ≡ b → count_below (i + 1) (eating all) ≡ count_below i (eating all) + bit b
    counts b e = count_next (eating all) i ∙ sym (λ k. count_below i (eating all) + bit (pa k).ate) ∙ ap (λ (b : Bool). count_below i (eating all) + bit b) e

    -- it did not eat
    pub eaten_same : a.ate ≡ false → EatenTo all n (i + 1) xs
    eaten_same e = record {
      few = q.few;
      along = omega arith;
      fewer = omega (arith, q.fewer);
      so_far = q.so_far ∙ sym (bites false e ∙ append-nil (concat_below i (bite all)));
      counted = q.counted ∙ sym (counts false e ∙ add-zero (count_below i (eating all)));
    }

    -- it ate
    pub eaten_more : a.ate ≡ true → (ys : List ℕ) → ys ≡ xs ++ a.cell ∷ [] → EatenTo all n (i + 1) ys
    eaten_more e ys p =
        let long : length ys ≡ length xs + 1 = ap length p ∙ length-append xs (a.cell ∷ []) in
        record {
          few = q.few;
          along = omega arith;
          fewer = omega (arith, q.fewer);
          so_far = p ∙ ap (λ (t : List ℕ). t ++ (a.cell ∷ [])) q.so_far ∙ sym (bites true e);
          counted = long ∙ ap (λ (k : ℕ). k + 1) q.counted ∙ sym (counts true e);
        }

-- ---- the apples left

bite_holds : (a x : ℕ) (b : Bool) → member a (x ∷ [] if b else []) ≡ (b && eqb a x)
unfolding member
bite_holds a x true = mathlib.Core.Bool.or-false (eqb a x)
bite_holds a x false = refl

-- an apple is eaten where it is one of the cells eaten
pub eaten_is : (all : List After) (n a : ℕ) → member a (concat_below n (bite all)) ≡ eaten_by n (cells all) (eating all) a
unfolding concat_below some_below member
eaten_is all zero a = refl
eaten_is all (suc n) a =
    member_append a (concat_below n (bite all)) (bite all n)
    ∙ (λ k. eaten_is all n a k || bite_holds a (cells all n) (eating all n) k)

pub left_is : (all : List After) (n : ℕ) (food : List ℕ) → left (concat_below n (bite all)) food ≡ keep (λ a. not (eaten_by n (cells all) (eating all) a)) food
unfolding left
left_is all n food = λ k. keep (λ a. not (eaten_is all n a k)) food
