-- What the loop goes by in which each digit gives way to the cell that it picks. Assumes nothing.
use mathlib.Core.Path.{◌≡◌, refl, sym, ap, ◌∙◌}
use mathlib.Core.List.{List, [], ◌∷◌, ◌++◌, append_assoc, append-nil}
use Prim.Native.Nat.{ℕ, ◌+◌, ◌<◌, ◌≤◌}
use native.Mathlib.Numerals.{add-one}
use native.Mathlib.Omega.{arith}
use mir.Syntax.{w16}
use mir.Val.{Fits}
use lib.ListN.{length, get_or, set, take, drop, drop_of_length-le, length-set}
use lib.Seq.{drop-cons, drop-drop, drop-set-lt, get_or-drop, take_all, take-suc-set}
use Rattle.lists.specs.Lists.{without}
use Rattle.rules.specs.Chance.{pick}
use Rattle.lists.proofs.Members.{length_without}
use Rattle.strips.specs.Marks.{unmarked, Marked, Counted, Numbered, Free, Took}
use Rattle.strips.proofs.Finding.{unmarked_less, open_member, numbered_free}
use Rattle.outcomes.specs.Odds.{Pickable}

pick_next : (cells ds : List ℕ) (j : ℕ) → j < length ds
    → pick cells (drop j ds) ≡ get_or cells (get_or ds j 0) 0 ∷ pick (without (get_or cells (get_or ds j 0) 0) cells) (drop (j + 1) ds)
unfolding pick
pick_next cells ds j h = rw (drop-cons ds j 0 h, add-one j)

pick_end : (cells ds : List ℕ) (j : ℕ) → length ds ≤ j → pick cells (drop j ds) ≡ []
unfolding pick
pick_end cells ds j h = rw (drop_of_length-le ds h)

listed_next : (list : List ℕ) (j x : ℕ) (rest : List ℕ) → j < length list → take (j + 1) (set list j x) ++ rest ≡ take j list ++ (x ∷ rest)
listed_next list j x rest h = rw (add-one j, take-suc-set list j x h) (append_assoc (take j list) (x ∷ []) rest)

-- one cell drawn, marked and listed: what is listed and what is still to be picked stay the same together
pick_turn : (list ds strips new : List ℕ) (j n x : ℕ) → Marked x strips new → j < length ds → j < length list → x ≡ get_or (unmarked strips n) (get_or ds j 0) 0
    → take (j + 1) (set list j x) ++ pick (unmarked new n) (drop (j + 1) ds) ≡ take j list ++ pick (unmarked strips n) (drop j ds)
pick_turn list ds strips new j n x m h k e =
    listed_next list j x (pick (unmarked new n) (drop (j + 1) ds)) k
    ∙ ap (λ (r : List ℕ). take j list ++ r) (rw (unmarked_less strips new x m n, pick_next (unmarked strips n) ds j h, ← e))

-- what is listed once all digits have given way
pick_done : (list old cells : List ℕ) (j : ℕ) → length list ≡ length old → length list ≤ j → take j list ++ pick cells (drop j old) ≡ list
pick_done list old cells j e h =
    rw (pick_end cells old j (omega arith)) (append-nil (take j list) ∙ take_all j list h)

head_is : (l : List ℕ) (j : ℕ) → get_or (drop j l) 0 0 ≡ get_or l j 0
head_is l j = get_or-drop j l 0 0 ∙ ap (λ (k : ℕ). get_or l k 0) (let e : j + 0 ≡ j = omega arith in e)

-- the digit that is read is still the old one
digit_at : (list old : List ℕ) (j : ℕ) → drop j list ≡ drop j old → get_or list j 0 ≡ get_or old j 0
digit_at list old j e = sym (head_is list j) ∙ ap (λ (l : List ℕ). get_or l 0 0) e ∙ head_is old j

digits_rest : (list old : List ℕ) (j x : ℕ) → drop j list ≡ drop j old → drop (j + 1) (set list j x) ≡ drop (j + 1) old
digits_rest list old j x e =
    drop-set-lt (j + 1) list j x (omega arith) ∙ sym (drop-drop 1 j list) ∙ ap (drop 1) e ∙ drop-drop 1 j old

-- ---- the loop: j digits have given way, and each cell that they picked has its mark

pub record Picking (old : List ℕ) (area : ℕ) (start list strips tally : List ℕ) (j : ℕ) : Type 0 where
  pub within : j ≤ length list
  pub long : length list ≡ length old
  pub counted : Counted area strips tally
  pub left : length (unmarked strips area) + j ≡ length (unmarked start area)
  pub done : take j list ++ pick (unmarked strips area) (drop j old) ≡ pick (unmarked start area) old
  pub rest : drop j list ≡ drop j old

pub picking_none : (old : List ℕ) (area : ℕ) (start tally : List ℕ) → Pickable old area start tally → Picking old area start old start tally 0
picking_none old area start tally p = record { within = omega arith; long = refl; counted = p.counted; left = omega arith; done = refl; rest = refl }

module _ (old : List ℕ) (area : ℕ) (start list strips tally : List ℕ) (j : ℕ) (v : Picking old area start list strips tally j) where
  pub picking_all : length old ≤ j → list ≡ pick (unmarked start area) old
  picking_all h = sym (pick_done list old (unmarked strips area) j v.long (omega (arith, v.long))) ∙ v.done

  -- the digit that stands next
  module _ (g : j < length old) (d : ℕ) (z : d ≡ get_or list j 0) (first : List ℕ) (p : Pickable old area start first) where
    h : j < length list
    h = omega (arith, v.long)

    old_digit : d ≡ get_or old j 0
    old_digit = z ∙ digit_at list old j v.rest

    -- the cell that it picks is there
    pub picking_asks : Numbered area strips tally d
    picking_asks = record { counted = v.counted; room = omega (arith, p.below j (omega (arith, v.long)), v.left, old_digit) }

    module _ (x : ℕ) (e : x ≡ get_or (unmarked strips area) d 0) where
      pub picking_free : Free area strips tally x
      picking_free = numbered_free strips area tally d x picking_asks e

      pub picking_fits : Fits w16 x
      picking_fits = omega (arith, picking_free.inside, v.counted.area_max)

      pub picking_next : (new after : List ℕ) → Took area x strips new after → Picking old area start (set list j x) new after (j + 1)
      picking_next new after t =
          let q : x ≡ get_or (unmarked strips area) (get_or old j 0) 0 = e ∙ ap (λ (k : ℕ). get_or (unmarked strips area) k 0) old_digit in
          let here = open_member strips area x picking_free.inside picking_free.clear in
          record {
            within = simp length-set (omega arith);
            long = simp length-set v.long;
            counted = t.counted;
            left = omega (arith, v.left, ap length (unmarked_less strips new x t.marks area), length_without x (unmarked strips area) here);
            done = pick_turn list old strips new j area x t.marks (omega (arith, v.long)) h q ∙ v.done;
            rest = digits_rest list old j x v.rest;
          }
