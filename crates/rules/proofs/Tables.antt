-- What a call says by its table of refusals. Assumes nothing.
use Rattle.std.specs.Prelude.{Ok, Err}
use Prim.Native.Nat.{ℕ, zero, suc}
use native.Mathlib.Nat.{suc-ne-zero}
use native.Mathlib.Omega.{arith}
use borrow.Author.Tests.{not-true, eq-eqb}
use mathlib.Core.Path.{◌≡◌, refl, ap, ◌∙◌}
use mathlib.Core.Bool.{Bool, true, false, not, ◌&&◌, ◌||◌, or-true, false≢true}
use mathlib.Core.List.{[], ◌∷◌, ◌++◌}
use lib.Dec.{ltb, eqb}
use lib.ListN.{length, get_or}
use Rattle.lists.specs.Choice.{◌if◌else◌}
use Rattle.lists.specs.Lists.{all, any}
use Rattle.lists.proofs.Tests.{and_left, and_right}
use Rattle.rules.specs.Tables.{Table, fault, none_hold, FirstRow}
use Rattle.rules.specs.State.{State}
use Rattle.rules.specs.Image.{image_of}
use Rattle.rules.specs.Setting.{setting_order, initial_state}
use Rattle.rules.specs.Calls.{setting_says, initial_says}
use Rattle.rules.specs.Says.{Says, by_table, seen}
use Rattle.rules.specs.declared.Setting.{Setting}
use Rattle.rules.specs.declared.refusal.Refusal.{Refusal}
use Rattle.rules.specs.Refusals.{code_of}

-- no refusal has the number 0
abbrev nonzero : Refusal → Bool
nonzero k = ltb 0 (code_of k)

pub coded : (k : Refusal) → nonzero k ≡ true
coded Refusal.Snakes = refl
coded Refusal.LengthZero = refl
coded Refusal.LeadZero = refl
coded Refusal.LeadNotTwo = refl
coded Refusal.Grid = refl
coded Refusal.FoodArea = refl
coded Refusal.Chain = refl
coded Refusal.Product = refl
coded Refusal.Untraceable = refl
coded Refusal.CellOutside = refl
coded Refusal.CellTaken = refl
coded Refusal.FoodFree = refl
coded Refusal.OtherSetting = refl
coded Refusal.FoodDue = refl
coded Refusal.NoneDue = refl
coded Refusal.ActionCount = refl
coded Refusal.Action = refl
coded Refusal.Agent = refl
coded Refusal.Outcome = refl
coded Refusal.Count = refl
coded Refusal.Buffer = refl
coded Refusal.List = refl
coded Refusal.Weight = refl
coded Refusal.Line = refl
coded Refusal.Over = refl
coded Refusal.Contents = refl
coded Refusal.Page = refl
coded Refusal.Pages = refl
coded (Refusal.CutShort at) = refl
coded (Refusal.OutOfRange at) = refl
coded (Refusal.Start at) = refl
coded (Refusal.Total at) = refl
coded (Refusal.CellBeyond at) = refl
coded (Refusal.CellTwice at) = refl
coded (Refusal.FoodOrder at) = refl
coded Refusal.UnitCount = refl
coded Refusal.UnitNumber = refl

-- where nothing is found, no row holds
pub fault_none : (t : Table) → fault t ≡ 0 → none_hold t ≡ true
unfolding fault all
fault_none [] z = refl
fault_none (e ∷ es) z = go (code_of e.0) e.1 (coded e.0) (fault_none es) z
  where
    go : (n : ℕ) (b : Bool) → ltb 0 n ≡ true → (fault es ≡ 0 → none_hold es ≡ true) → (n if b else fault es) ≡ 0 → (not b && none_hold es) ≡ true
    go zero b p q z = absurd (false≢true p)
    go (suc n) true p q z = absurd (suc-ne-zero n z)
    go (suc n) false p q z = q z

-- and where no row holds, nothing is found
pub none_fault : (t : Table) → none_hold t ≡ true → fault t ≡ 0
unfolding fault all
none_fault [] h = refl
none_fault (e ∷ es) h = go (code_of e.0) e.1 (and_left _ _ h) (none_fault es (and_right (not e.1) _ h))
  where
    go : (n : ℕ) (b : Bool) → not b ≡ true → fault es ≡ 0 → (n if b else fault es) ≡ 0
    go n true n_out q = absurd (false≢true n_out)
    go n false n_out q = q

-- where no row holds, the k-th does not
pub row_out : (t : Table) (k : ℕ) → none_hold t ≡ true → (get_or t k (Refusal.Buffer, false)).1 ≡ false
unfolding all
row_out [] k h = refl
row_out (e ∷ es) zero h = not-true e.1 (and_left (not e.1) (none_hold es) h)
row_out (e ∷ es) (suc k) h = row_out es k (and_right (not e.1) (none_hold es) h)

module _ {A : Type 0} where
  -- no row holds: what comes otherwise
  pub table_gives : (t : Table) (r : Says A) → none_hold t ≡ true → by_table t r ≡ r
  unfolding by_table all
  table_gives [] r h = refl
  table_gives (e ∷ es) r h = rest e.1 (and_left _ _ h) (table_gives es r (and_right (not e.1) _ h))
    where
      rest : (b : Bool) → not b ≡ true → by_table es r ≡ r → (Err e.0 if b else by_table es r) ≡ r
      rest true n q = absurd (false≢true n)
      rest false n q = q

  pub table_both : (t u : Table) (r : Says A) → by_table (t ++ u) r ≡ by_table t (by_table u r)
  unfolding by_table
  table_both [] u r = refl
  table_both (e ∷ es) u r = ap (λ (x : Says A). Err e.0 if e.1 else x) (table_both es u r)

  -- what two tables in a row say by the answer of the first: its refusal, or what the second says
  abbrev pub and_then : Says (Unit {0}) → Says A → Says A
  and_then (Err k) r = Err k
  and_then (Ok u) r = r

  pub table_after : (t u : Table) (r : Says A) → by_table (t ++ u) r ≡ and_then (by_table t (Ok tt)) (by_table u r)
  unfolding by_table
  table_after [] u r = refl
  table_after (e ∷ es) u r = go e.1 (table_after es u r)
    where
      go : (b : Bool) → by_table (es ++ u) r ≡ and_then (by_table es (Ok tt)) (by_table u r)
          → (Err e.0 if b else by_table (es ++ u) r) ≡ and_then (Err e.0 if b else by_table es (Ok tt)) (by_table u r)
      go true q = refl
      go false q = q

  -- where both give, so does the first
  pub then_first : (x : Says (Unit {0})) (r : Says A) (a : A) → and_then x r ≡ Ok a → x ≡ Ok tt
  then_first (Err k) r a h = let z : ◌≡◌ {A = ℕ} 0 1 = cc in absurd (omega arith)
  then_first (Ok u) r a h = refl

  -- and the second
  pub then_gives : (x : Says (Unit {0})) (r : Says A) (a : A) → and_then x r ≡ Ok a → r ≡ Ok a
  then_gives (Err k) r a h = let z : ◌≡◌ {A = ℕ} 0 1 = cc in absurd (omega arith)
  then_gives (Ok u) r a h = h

  -- a refusal is that of the first row that holds
  pub table_refuses : (t : Table) (a : A) (k : Refusal) → by_table t (Ok a) ≡ Err k → FirstRow t k
  unfolding by_table all
  table_refuses [] a k h = let z : ◌≡◌ {A = ℕ} 0 1 = cc in absurd (omega arith)
  table_refuses (e ∷ es) a k h = go e.0 e.1 (λ q. table_refuses es a k q) h
    where
      go : (n : Refusal) (b : Bool) → (by_table es (Ok a) ≡ Err k → FirstRow es k) → (Err n if b else by_table es (Ok a)) ≡ Err k → FirstRow ((n, b) ∷ es) k
      go n true later q = let z : n ≡ k = cc in record { before = []; after = es; here = ap (λ (m : Refusal). (m, true) ∷ es) z; none = refl }
      go n false later q =
          let f = later q in
          record { before = (n, false) ∷ f.before; after = f.after; here = ap (λ (l : Table). (n, false) ∷ l) f.here; none = f.none }

  -- and the first row that holds refuses
  pub table_first : (t : Table) (r : Says A) (k : Refusal) → FirstRow t k → by_table t r ≡ Err k
  unfolding by_table
  table_first t r k f =
      let u : Table = (k, true) ∷ f.after in
      ap (λ (l : Table). by_table l r) f.here ∙ table_both f.before u r ∙ table_gives f.before (by_table u r) f.none

  -- a row that does not hold where those before it do not may be left out
  pub table_without : (t u : Table) (e : Refusal × Bool) (r : Says A) → (none_hold t ≡ true → e.1 ≡ false) → by_table (t ++ (e ∷ u)) r ≡ by_table (t ++ u) r
  unfolding by_table all
  table_without [] u e r h = rw (h refl)
  table_without (x ∷ xs) u e r h = go x.1 (table_without xs u e r) h
    where
      go : (b : Bool) → ((none_hold xs ≡ true → e.1 ≡ false) → by_table (xs ++ (e ∷ u)) r ≡ by_table (xs ++ u) r) → ((not b && none_hold xs) ≡ true → e.1 ≡ false)
          → (Err x.0 if b else by_table (xs ++ (e ∷ u)) r) ≡ (Err x.0 if b else by_table (xs ++ u) r)
      go true later q = refl
      go false later q = later q

  -- a refusal has the number of one of the rows
  pub table_listed : (t : Table) (a : A) (k : Refusal) → by_table t (Ok a) ≡ Err k → any (λ (e : Refusal × Bool). eqb (code_of e.0) (code_of k)) t ≡ true
  unfolding by_table any
  table_listed [] a k h = let z : ◌≡◌ {A = ℕ} 0 1 = cc in absurd (omega arith)
  table_listed (e ∷ es) a k h = go e.0 e.1 (λ q. table_listed es a k q) h
    where
      rest : Bool
      rest = any (λ (e : Refusal × Bool). eqb (code_of e.0) (code_of k)) es

      go : (n : Refusal) (b : Bool) → (by_table es (Ok a) ≡ Err k → rest ≡ true) → (Err n if b else by_table es (Ok a)) ≡ Err k → (eqb (code_of n) (code_of k) || rest) ≡ true
      go n true later q = let z : n ≡ k = cc in rw (eq-eqb (code_of n) (code_of k) (ap (λ (m : Refusal). code_of m) z))
      go n false later q = rw (later q) (or-true (eqb (code_of n) (code_of k)))

  -- where a call gives, no row holds, and what it gives is what comes otherwise
  pub table_given : (t : Table) (a b : A) → by_table t (Ok a) ≡ Ok b → (none_hold t ≡ true) × (a ≡ b)
  unfolding by_table all
  table_given [] a b h = (refl, cc)
  table_given (e ∷ es) a b h = go e.0 e.1 (λ q. table_given es a b q) h
    where
      go : (n : Refusal) (c : Bool) → (by_table es (Ok a) ≡ Ok b → (none_hold es ≡ true) × (a ≡ b)) → (Err n if c else by_table es (Ok a)) ≡ Ok b
          → ((not c && none_hold es) ≡ true) × (a ≡ b)
      go n true later q = let z : ◌≡◌ {A = ℕ} 0 1 = cc in absurd (omega arith)
      go n false later q = later q

  module _ (t : Table) (a b : A) (e : by_table t (Ok a) ≡ Ok b) where
    -- so the k-th row does not hold
    pub given_out : (k : ℕ) → (get_or t k (Refusal.Buffer, false)).1 ≡ false
    given_out k = row_out t k (table_given t a b e).0

    pub given_is : a ≡ b
    given_is = (table_given t a b e).1

  -- the same, where what is given is seen through f
  pub table_seen : {B : Type 0} (f : A → B) (t : Table) (a : A) → seen f (by_table t (Ok a)) ≡ by_table t (Ok (f a))
  unfolding by_table
  table_seen f [] a = refl
  table_seen f (e ∷ es) a = go e.0 e.1 (table_seen f es a)
    where
      go : (n : Refusal) (c : Bool) → seen f (by_table es (Ok a)) ≡ by_table es (Ok (f a)) → seen f (Err n if c else by_table es (Ok a)) ≡ (Err n if c else by_table es (Ok (f a)))
      go n true q = refl
      go n false q = q

-- ---- the calls that begin with the setting

-- what comes where the setting is accepted
abbrev pub start_for : Setting → ℕ → Says State
start_for s room = Err Refusal.Buffer if ltb room (length (image_of (initial_state s))) else Ok (initial_state s)

pub initial_says_lem : (s : Setting) (room : ℕ) → initial_says s room ≡ and_then (setting_says s) (start_for s room)
unfolding initial_says setting_says by_table
initial_says_lem s room = table_after (setting_order s) ((Refusal.Buffer, ltb room (length (image_of (initial_state s)))) ∷ []) (Ok (initial_state s))
