-- Who leads, as the code finds it: the two that live, and which of them is longer by the lead or more. Assumes nothing.
use Rattle.std.specs.Prelude.{ℕ, ◌-◌, ◌<◌, ◌≤◌, ◌≡◌, Bool, true, false, not, ◌&&◌, ◌||◌, List, eqb, ltb, leb, get_or, Option, Some, None, is_some}
use Rattle.lists.specs.Choice.{◌if◌else◌}
use Rattle.lists.specs.Below.{some_below, count_below}
use Rattle.consequences.specs.declared.after.After.{After}
use Rattle.consequences.specs.After.{gone, living, is_one}

-- of n snakes so many live
pub record Living (all : List After) (n alive : ℕ) : Type 0 where
  pub few : n ≤ 8
  pub count : alive ≡ count_below n (living all)

-- from `from` on none lives before r
pub record NoneLiving (all : List After) (n from r : ℕ) : Type 0 where
  pub on : from ≤ r
  pub end : r ≤ n
  pub none : count_below r (living all) ≡ count_below from (living all)

-- and snake r does
pub record FirstLiving (all : List After) (n from r : ℕ) : Type 0 where
  pub past : NoneLiving all n from r
  pub one : r < n
  pub lives : living all r ≡ true

abbrev pub NextLiving : List After → ℕ → ℕ → Option ℕ → Type 0
NextLiving all n from None = NoneLiving all n from n
NextLiving all n from (Some r) = FirstLiving all n from r

-- i and j live, and no other
pub record TwoLive (all : List After) (n i j : ℕ) : Type 0 where
  pub few : n ≤ 8
  pub one : i < n
  pub two : j < n
  pub apart : i ≡ j → ⊥
  pub first : living all i ≡ true
  pub second : living all j ≡ true
  pub others : (x : ℕ) → x < n → (x ≡ i → ⊥) → (x ≡ j → ⊥) → living all x ≡ false

pub record Longer (a b : After) (k : ℕ) (r : Bool) : Type 0 where
  pub is : r ≡ (ltb b.keep a.keep && leb k (a.keep - b.keep))

-- two live, i and j, and i keeps more cells than j, by the lead or more
abbrev pub leads_in : List After → ℕ → Option ℕ → ℕ → ℕ → Bool
leads_in all alive None i j = false
leads_in all alive (Some k) i j =
    eqb alive 2 && (living all i && living all j && ltb (get_or all j gone).keep (get_or all i gone).keep && leb k ((get_or all i gone).keep - (get_or all j gone).keep))

-- what is read from r, the one that leads, or nobody: who won by a lead, who lost by it, and whether there is one
pub record Leader (all : List After) (n alive : ℕ) (lead : Option ℕ) (r : Option ℕ) : Type 0 where
  pub wins : (i : ℕ) → i < n → some_below n (leads_in all alive lead i) ≡ is_one r i
  pub loses : (i : ℕ) → i < n → some_below n (λ j. leads_in all alive lead j i) ≡ (living all i && not (is_one r i) && is_some r)
  pub ends : some_below n (λ i. some_below n (leads_in all alive lead i)) ≡ is_some r

-- the same where two live and k is the lead
pub record Leads (all : List After) (n k : ℕ) (r : Option ℕ) : Type 0 where
  pub leader : Leader all n 2 (Some k) r

pub record Ends (alive : ℕ) (last : Bool) (leader : Option ℕ) (r : Bool) : Type 0 where
  pub is : r ≡ (leb alive (0 if last else 1) || is_some leader)
