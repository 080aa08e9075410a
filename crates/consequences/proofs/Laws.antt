-- What each function of the consequences finds, from what its calls promise and the tests that it makes. Assumes nothing.
use Rattle.std.specs.Prelude.{Option, Some, None, is_some}
use Prim.Native.Nat.{ℕ, zero, suc, ◌+◌, ◌*◌, ◌<◌, ◌≤◌}
use native.Mathlib.Numerals.{add-one}
use native.Mathlib.Omega.{arith}
use mathlib.Core.Path.{◌≡◌, refl, sym, ap, ap₂, ◌∙◌}
use mathlib.Core.Bool.{Bool, true, false, not, ◌||◌}
use mathlib.Core.List.{List}
use lib.Dec.{eqb, ltb}
use lib.ListN.{length, get_or, take, drop, set, replicate}
use Rattle.std.specs.List.{list_any}
use Rattle.std.specs.Option.{option_eq}
use Rattle.std.proofs.lemmas.List.{get_or-take}
use Rattle.std.proofs.lemmas.List.Folds.{list_any_more}
use borrow.Author.Tests.{not-false, lt-ltb, le-ltb, ne_eqb}
use Rattle.lists.specs.Choice.{◌if◌else◌, bit}
use Rattle.lists.specs.Below.{some_below, count_below, lowest_from}
use Rattle.lists.specs.Lists.{member}
use Rattle.lists.specs.Search.{found_in}
use Rattle.lists.proofs.Tests.{bit_le, ordered, less, more}
use Rattle.lists.proofs.Search.{found_member}
use Rattle.lists.proofs.Below.{some_none, some_next, count_none, count_next, sum_none, sum_next}
use Rattle.rules.specs.declared.Cause.{Cause}
use Rattle.rules.specs.declared.Event.{Event}
use Rattle.rules.specs.Events.{dies, blank}
use Rattle.judge.specs.declared.Move.{Move}
use Rattle.judge.specs.World.{still}
use Rattle.judge.specs.Loops.{Filling}
use Rattle.judge.proofs.Loops.{fill_none, fill_next}
use Rattle.lists.proofs.Lowest.{Passing, pass_here, pass_on, pass_all}
use Rattle.consequences.specs.declared.after.After.{After}
use Rattle.consequences.specs.declared.after.Tally.{Tally}
use Rattle.consequences.specs.After.{settled, settled_at, gone, living, causes, size_of, sizes, PartIn, Short, Counting, holds_at, holds_in, one_of, is_one, killer_in, credited_to, HasCell, Holder, KilledBy, Credited, event_by, event_at}

-- ---- the settled snakes

module _ (ms : List Move) (cs : List (Option Cause)) (n : ℕ) where
  pub settled_none : n ≤ 8 → Filling (settled_at ms cs) gone n 0 (replicate 8 gone)
  settled_none h = fill_none (settled_at ms cs) gone n h

  pub settled_next : (i : ℕ) (all : List After) → Filling (settled_at ms cs) gone n i all → i < n → (a : After) → a ≡ settled (get_or ms i still) (get_or cs i None)
      → Filling (settled_at ms cs) gone n (i + 1) (set all i a)
  settled_next i all q l a e = fill_next (settled_at ms cs) gone n i all q l a e

-- one of those that there are, by its number
pub each_one : (all xs : List After) (n : ℕ) → xs ≡ take n all → (i : ℕ) → i < n → get_or xs i gone ≡ get_or all i gone
each_one all xs n e i l = ap (λ (xs : List After). get_or xs i gone) e ∙ get_or-take n all i gone l

-- ---- counts

-- a snake's cells, by what it keeps
pub size_le : (all : List After) → Short all → (i : ℕ) → sizes all i ≤ 1025
size_le all h i = omega (arith, h i, bit_le (get_or all i gone).lives)

pub count_start : (all : List After) (n : ℕ) → n ≤ 8 → Counting all n 0 0 0 0
count_start all n h = record {
  few = h;
  along = omega arith;
  lived = sym (count_none (living all));
  died = sym (count_none (λ i. dies (causes all i)));
  size = sym (sum_none (sizes all));
  lived_few = omega arith;
  died_few = omega arith;
  size_small = omega arith;
}

pub short_at : (all : List After) → Short all → (i : ℕ) (a : After) → a ≡ get_or all i gone → a.keep ≤ 1024
short_at all h i a e = rw e (h i)

-- a is snake i, and s its size
module _ (all : List After) (short : Short all) (n i alive deaths cells : ℕ) (q : Counting all n i alive deaths cells) (s : ℕ) (a : After) (pz : s ≡ size_of a) (pa : a ≡ get_or all i gone) where
  ps : s ≡ size_of (get_or all i gone)
  ps = pz ∙ ap size_of pa

  -- l, d and s are the counts of one snake more
  pub count_on : i < n → (l : ℕ) → l ≡ alive + bit a.lives → (d : ℕ) (b : Bool) → d ≡ deaths + bit b → b ≡ dies a.cause
      → Counting all n (i + 1) l d (cells + s)
  count_on m l pl d b pd pb =
      let one = bit_le a.lives in
      let two = bit_le b in
      record {
        few = q.few;
        along = omega arith;
        lived = pl ∙ (λ k. q.lived k + bit (pa k).lives) ∙ sym (count_next (living all) i);
        died = pd ∙ (λ k. q.died k + bit (pb k)) ∙ (λ k. count_below i (λ i. dies (causes all i)) + bit (dies (pa k).cause)) ∙ sym (count_next (λ i. dies (causes all i)) i);
        size = (λ k. q.size k + ps k) ∙ sym (sum_next (sizes all) i);
        lived_few = omega (arith, q.lived_few);
        died_few = omega (arith, q.died_few);
        size_small = omega (arith, ps, size_le all short i, q.size_small);
      }

-- ---- who killed

-- a survivor's body is its cell and the rest; k is the place of the start
module _ (w : List ℕ) (i : ℕ) (a : After) (q : PartIn w i a) (k : ℕ) (e : k ≡ 5 + 4 * i) where
  -- f is where the cell is found, b whether it is
  pub cell_held : (cell : ℕ) → not a.lives ≡ false → (f : Option ℕ) → f ≡ found_in (take a.keep (drop (get_or w k 0) w)) cell → (b : Bool) → b ≡ is_some f
      → HasCell w i a cell (eqb cell a.cell || b)
  unfolding member
  cell_held cell h f p b q =
      let told = q ∙ ap is_some p ∙ found_member cell (take a.keep (drop (get_or w k 0) w)) in
      record { is = rw (not-false a.lives h) (ap (λ (b : Bool). eqb cell a.cell || b) (told ∙ ap (λ (k : ℕ). member cell (take a.keep (drop (get_or w k 0) w))) e)) }

one_in : (n k : ℕ) → k < n → one_of n k ≡ Some k
one_in n k l = ap (λ (b : Bool). Some k if b else None) (lt-ltb k n l)

one_out : (n k : ℕ) → n ≤ k → one_of n k ≡ None
one_out n k l = ap (λ (b : Bool). Some k if b else None) (le-ltb k n l)

-- the test of one who is found is the test of the number
pub one_is : (n k i : ℕ) → i < n → is_one (one_of n k) i ≡ eqb k i
one_is n k i l = elim (ordered k n) [
  | less m t ↦ ap (λ (x : Option ℕ). is_one x i) (one_in n k m)
  | more m t ↦ ap (λ (x : Option ℕ). is_one x i) (one_out n k m) ∙ sym (ne_eqb k i (λ e. omega arith))
]

-- none of the snakes before j holds the cell
abbrev pub NoHolder : List ℕ → List After → ℕ → ℕ → ℕ → Type 0
NoHolder w all n cell j = Passing (holds_in w all cell) (lowest_from (holds_in w all cell) 0 n) n j

module _ (w : List ℕ) (all : List After) (n cell j : ℕ) (q : NoHolder w all n cell j) where
  -- a is snake j
  module _ (l : j < n) (b : Bool) (a : After) (h : HasCell w j a cell b) (e : a ≡ get_or all j gone) where
    held : holds_in w all cell j ≡ b
    held = ap (λ (a : After). holds_at w j a cell) (sym e) ∙ sym h.is

    pub holder_here : b ≡ true → Holder w all n cell (Some j)
    holder_here t = record { is = sym (one_in n j l) ∙ ap (one_of n) (pass_here (holds_in w all cell) n _ j q l (held ∙ t)) }

    pub holder_on : b ≡ false → NoHolder w all n cell (j + 1)
    holder_on t = pass_on (holds_in w all cell) n _ j q l (held ∙ t)

  pub holder_none : n ≤ j → Holder w all n cell None
  holder_none l = record { is = sym (one_out n j l) ∙ ap (one_of n) (pass_all (holds_in w all cell) n _ j q l) }

pub killers_next : (w : List ℕ) (all : List After) (n i : ℕ) (to : List (Option ℕ)) → Filling (killer_in w all n) None n i to → i < n → (r : Option ℕ) → KilledBy w all n i r
    → Filling (killer_in w all n) None n (i + 1) (set to i r)
killers_next w all n i to q l r k = fill_next (killer_in w all n) None n i to q l r k.is

-- the library's equality with snake j
told_one : (x : Option ℕ) (j : ℕ) → option_eq eqb x (Some j) ≡ is_one x j
told_one None j = refl
told_one (Some k) j = refl

-- one of the first n is j
taken_any : (to : List (Option ℕ)) (j n : ℕ) → n ≤ length to → list_any (λ x. option_eq eqb x (Some j)) (take n to) ≡ some_below n (credited_to to j)
taken_any to j zero h = sym (some_none (credited_to to j))
taken_any to j (suc n) h =
    rw (← add-one n) (list_any_more (λ x. option_eq eqb x (Some j)) to n None h ∙ ap₂ ◌||◌ (taken_any to j n (omega arith)) (told_one (get_or to n None) j) ∙ sym (some_next (credited_to to j) n))

pub credited_so : (to : List (Option ℕ)) (n j : ℕ) → n ≤ length to → (r : Bool) → r ≡ list_any (λ x. option_eq eqb x (Some j)) (take n to) → Credited to n j r
credited_so to n j h r e = record { is = e ∙ taken_any to j n h }

-- ---- events

module _ (all : List After) (to : List (Option ℕ)) (n : ℕ) (counts : Tally) (leader : Option ℕ) where
  abbrev event : ℕ → Event
  event = event_at all to n counts.alive counts.deaths leader

  pub events_none : n ≤ 8 → (told : List Event) → told ≡ replicate 8 blank → Filling event blank n 0 told
  events_none h told e = rw e (fill_none event blank n h)

  pub events_next : (i : ℕ) (told : List Event) → Filling event blank n i told → i < n → (x : Event) → x ≡ event_by (get_or all i gone) to n counts.alive counts.deaths leader i → Filling event blank n (i + 1) (set told i x)
  events_next i told q l x e = fill_next event blank n i told q l x e
