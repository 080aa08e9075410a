-- A pass that leaves its stamp on a board finds exactly whether a cell stands twice. Assumes nothing.
use Prim.Native.Nat.{ℕ, zero, suc, ◌+◌, ◌<◌, ◌≤◌}
use native.Mathlib.Numerals.{add-one}
use native.Mathlib.Omega.{arith}
use mathlib.Core.Bool.{Bool, true, false, not, ◌&&◌, and-true}
use mathlib.Core.List.{List, [], ◌∷◌}
use mathlib.Core.Path.{◌≡◌, refl, sym, ◌∙◌}
use lib.Dec.{eqb}
use native.Mathlib.Nat.{le_trans, min-le_left}
use lib.ListN.{length, get_or, set, take, drop, replicate, length-set, length-replicate, length-take, drop_of_length-le, get_or-eq_default}
use lib.Seq.{get_or-set_same, get_or-set_other, get_or-take, get_or-drop, drop-cons}
use borrow.Author.Tests.{eq-eqb, ne_eqb}
use Rattle.lists.specs.Lists.{member, distinct}
use Rattle.boards.specs.Boards.{Under, Board, Stamped}
use Rattle.lists.proofs.Tests.{compared, same, other, ordered, less, more, gather}

-- the pass: no cell of the list has the stamp when its turn comes
unfoldable pub fresh : ℕ → List ℕ → List ℕ → Bool
fresh s b [] = true
fresh s b (x ∷ xs) = not (eqb (get_or b x 0) s) && fresh s (set b x s) xs

-- no cell of the list has the stamp now
unfoldable unmarked : ℕ → List ℕ → List ℕ → Bool
unmarked s b [] = true
unmarked s b (x ∷ xs) = not (eqb (get_or b x 0) s) && unmarked s b xs

swap : (m h u : Bool) → (m && (h && u)) ≡ (h && (m && u))
swap true h u = refl
swap false true u = refl
swap false false u = refl

-- one cell more has the stamp
one_more : (s x : ℕ) (b l : List ℕ) → x < length b → unmarked s (set b x s) l ≡ (not (member x l) && unmarked s b l)
unfolding unmarked member
one_more s x b [] h = refl
one_more s x b (y ∷ ys) h = elim (compared x y) [
  | same e t ↦ rw (t, ← e, get_or-set_same b x s 0 h, eq-eqb s s refl)
  | other n t ↦ rw (t, get_or-set_other b x y s 0 (λ q. n (sym q)), one_more s x b ys h) (swap (not (eqb (get_or b y 0) s)) (not (member x ys)) (unmarked s b ys))
]

-- the pass finds the cells that stand twice, and those that had the stamp before
pass : (s : ℕ) (b l : List ℕ) → Under (length b) l → fresh s b l ≡ (distinct l && unmarked s b l)
unfolding fresh distinct unmarked
pass s b [] h = refl
pass s b (x ∷ xs) h =
    let ih = pass s (set b x s) xs (λ k. rw (length-set b x s) (h (suc k))) in
    rw (ih, one_more s x b xs (h 0)) (gather (not (eqb (get_or b x 0) s)) (not (member x xs)) (distinct xs) (unmarked s b xs))

none : (s : ℕ) (b l : List ℕ) → Under s b → unmarked s b l ≡ true
unfolding unmarked
none s b [] h = refl
none s b (x ∷ xs) h = let g = h x in rw (ne_eqb (get_or b x 0) s (λ e. omega arith), none s b xs h)

-- where the stamp is new to the board, the pass is the test
pass_new : (s : ℕ) (b l : List ℕ) → Under 1024 l → Board s b → fresh s b l ≡ distinct l
pass_new s b l h n = rw (pass s b l (λ k. rw n.size (h k)), none s b l n.new) (and-true (distinct l))

-- what a loop that has passed the first i cells goes by
module _ (l : List ℕ) (i s : ℕ) (b : List ℕ) where
  pass_end : length l ≤ i → fresh s b (drop i l) ≡ true
  unfolding fresh
  pass_end h = rw (drop_of_length-le l h)

  pass_stop : i < length l → get_or b (get_or l i 0) 0 ≡ s → fresh s b (drop i l) ≡ false
  unfolding fresh
  pass_stop h e = rw (drop-cons l i 0 h, eq-eqb (get_or b (get_or l i 0) 0) s e)

  pass_on : i < length l → (get_or b (get_or l i 0) 0 ≡ s → ⊥) → fresh s b (drop i l) ≡ fresh s (set b (get_or l i 0) s) (drop (i + 1) l)
  unfolding fresh
  pass_on h e = rw (drop-cons l i 0 h, ne_eqb (get_or b (get_or l i 0) 0) s e, add-one)

-- a mark leaves the next stamp new
under_set : (s x : ℕ) (b : List ℕ) → x < length b → Under (s + 1) b → Under (s + 1) (set b x s)
under_set s x b l h k = elim (compared k x) [
  | same e t ↦ rw (e, get_or-set_same b x s 0 l) (omega arith)
  | other n t ↦ rw (get_or-set_other b x k s 0 n) (h k)
]

board_set : (s x : ℕ) (b : List ℕ) → x < 1024 → Board (s + 1) b → Board (s + 1) (set b x s)
board_set s x b l h = record { size = length-set b x s ∙ h.size; new = under_set s x b (rw h.size l) h.new }

board_more : {s : ℕ} {b : List ℕ} → Board s b → Board (s + 1) b
board_more h = record { size = h.size; new = λ k. let g = h.new k in omega arith }

-- ---- the loop: the pass over what is left, on the board as it is now, gives the whole answer

pub record Stamping (l : List ℕ) (stamp : ℕ) (board : List ℕ) (i : ℕ) : Type 0 where
  pub within : i ≤ length l
  pub rest : fresh stamp board (drop i l) ≡ distinct l
  pub next : Board (stamp + 1) board

module _ (l : List ℕ) (s : ℕ) (b : List ℕ) where
  pub stamp_none : Under 1024 l → Board s b → Stamping l s b 0
  stamp_none u n = record { within = omega arith; rest = pass_new s b l u n; next = board_more n }

  module _ (i : ℕ) (v : Stamping l s b i) where
    pub stamp_all : length l ≤ i → Stamped l s true b
    stamp_all h = record { says = sym (pass_end l i s b h) ∙ v.rest; next = v.next }

    module _ (h : i < length l) where
      pub stamp_twice : get_or b (get_or l i 0) 0 ≡ s → Stamped l s false b
      stamp_twice e = record { says = sym (pass_stop l i s b h e) ∙ v.rest; next = v.next }

      pub stamp_next : Under 1024 l → (get_or b (get_or l i 0) 0 ≡ s → ⊥) → Stamping l s (set b (get_or l i 0) s) (i + 1)
      stamp_next u n = record {
        within = omega arith;
        rest = sym (pass_on l i s b h n) ∙ v.rest;
        next = board_set s (get_or l i 0) b (u i) v.next;
      }

under_blank : (n : ℕ) → Under 1 (replicate n 0)
under_blank zero k = omega arith
under_blank (suc n) zero = omega arith
under_blank (suc n) (suc k) = under_blank n k

-- an empty board has no mark
pub board_blank : Board 1 (replicate 1024 0)
board_blank = record { size = length-replicate {A = ℕ} 1024 0; new = under_blank 1024 }

-- the numbers of a part
pub part_under : (l : List ℕ) (m a n : ℕ) → 0 < m → ((k : ℕ) → a ≤ k → k < a + n → get_or l k 0 < m) → Under m (take n (drop a l))
part_under l m a n z h k = elim (ordered k n) [
  | less q t ↦ rw (get_or-take n (drop a l) k 0 q, get_or-drop a l k 0) (h (a + k) (omega arith) (omega arith))
  | more q t ↦ rw (get_or-eq_default (take n (drop a l)) 0 {n = k} (rw (length-take n (drop a l)) (le_trans (min-le_left n (length (drop a l))) q))) z
]

pub rest_under : (l : List ℕ) (m a : ℕ) → 0 < m → ((k : ℕ) → a ≤ k → k < length l → get_or l k 0 < m) → Under m (drop a l)
rest_under l m a z h k = elim (ordered (a + k) (length l)) [
  | less q t ↦ rw (get_or-drop a l k 0) (h (a + k) (omega arith) q)
  | more q t ↦ rw (get_or-drop a l k 0, get_or-eq_default l 0 {n = a + k} q) z
]
