-- The indices below the count and the ordered lists of k different cells match one to one, by the draw and the rank. Assumes nothing.
use mathlib.Core.Path.{◌≡◌, refl, sym, ap, ◌∙◌}
use mathlib.Core.Logic.{⊎_elim}
use mathlib.Core.Bool.{true}
use mathlib.Core.List.{List, [], ◌∷◌}
use Prim.Native.Nat.{ℕ, zero, suc, ◌+◌, ◌*◌, ◌/◌, ◌%◌, ◌<◌}
use native.Mathlib.Nat.{zero-lt-suc, suc_inj, div-lt_iff_lt-mul, mod-lt, div-add-mod'}
use native.Mathlib.Omega.{arith}
use lib.Arith.{digits_lt, digits_div, digits_mod}
use lib.ListN.{length, get_or}
use Rattle.lists.specs.Lists.{member, distinct, without, place}
use Rattle.lists.specs.Products.{falling}
use Rattle.lists.proofs.Products.{pos_right, falling_open, falling_none}
use Rattle.lists.proofs.Lists.{member_at}
use Rattle.lists.proofs.Members.{fails, member_none, member_first, member_more, member_cases, place_lt, get_d_place, place_get_d, length_without, of_without, in_without, not_in_without, distinct_without, distinct_none, distinct_more, distinct_rest, distinct_apart}
use Rattle.rules.specs.Chance.{digits, pick, drawn_from, rank_in}
use Rattle.rules.proofs.Digits.{digits_first, digits_length}

-- an ordered list of k different cells of a list
pub record Listed (cells : List ℕ) (k : ℕ) (l : List ℕ) : Type 0 where
  pub long : length l ≡ k
  pub among : (c : ℕ) → member c l ≡ true → member c cells ≡ true
  pub once : distinct l ≡ true

-- each cell of the list is there when its turn comes
abbrev pub InTurn : List ℕ → List ℕ → Type 0
InTurn cells [] = Unit {0}
InTurn cells (c ∷ l) = (member c cells ≡ true) × InTurn (without c cells) l

pub in_turn_lem : (cells l : List ℕ) → ((c : ℕ) → member c l ≡ true → member c cells ≡ true) → distinct l ≡ true → InTurn cells l
in_turn_lem cells [] f u = tt
in_turn_lem cells (c ∷ l) f u = (
  f c (member_first c l),
  in_turn_lem (without c cells) l (λ x m. in_without x c cells (distinct_apart x c l u m) (f x (member_more x c l m))) (distinct_rest c l u),
)

pub turn_among : (cells l : List ℕ) → InTurn cells l → (c : ℕ) → member c l ≡ true → member c cells ≡ true
turn_among cells [] g c m = absurd (member_none c m)
turn_among cells (x ∷ l) g c m =
    ⊎_elim (λ e. rw e g.0) (λ k. of_without c x cells (turn_among (without x cells) l g.1 c k)) (member_cases c x l m)

pub turn_distinct : (cells l : List ℕ) → distinct cells ≡ true → InTurn cells l → distinct l ≡ true
turn_distinct cells [] u g = distinct_none
turn_distinct cells (c ∷ l) u g =
    distinct_more c l (fails (member c l) (λ m. not_in_without c cells u (turn_among (without c cells) l g.1 c m)))
    (turn_distinct (without c cells) l (distinct_without c cells u) g.1)

pick_length : (ds cells : List ℕ) → length (pick cells ds) ≡ length ds
unfolding pick
pick_length [] cells = refl
pick_length (d ∷ ds) cells = ap suc (pick_length ds _)

pub drawn_length : (cells : List ℕ) (k i : ℕ) → length (drawn_from cells k i) ≡ k
unfolding drawn_from
drawn_length cells k i = pick_length (digits (length cells) k i) cells ∙ digits_length (length cells) k i

pub drawn_none : (cells : List ℕ) (i : ℕ) → drawn_from cells 0 i ≡ []
unfolding drawn_from pick digits
drawn_none cells i = refl

-- one draw: the first digit picks the first cell c, and the rest of the index draws from the list less c
module _ (cells : List ℕ) (m k i : ℕ) (e : length cells ≡ suc m) (h : i < suc m * falling m k) where
  some : zero < falling m k
  some = pos_right (suc m) (falling m k) i h

  first_lt : i / falling m k < length cells
  first_lt = rw e ((div-lt_iff_lt-mul some).1 h)

  left : length (without (get_or cells (i / falling m k) 0) cells) ≡ m
  left = suc_inj (sym (length_without (get_or cells (i / falling m k) 0) cells (member_at cells (i / falling m k) first_lt)) ∙ e)

  rest_lt : i % falling m k < falling (length (without (get_or cells (i / falling m k) 0) cells)) k
  rest_lt = rw left (mod-lt i some)

  pub drawn_step : drawn_from cells (suc k) i ≡ get_or cells (i / falling m k) 0 ∷ drawn_from (without (get_or cells (i / falling m k) 0) cells) k (i % falling m k)
  unfolding drawn_from pick
  drawn_step = rw (e, left, digits_first m k i h)

pub drawn_turn_lem : (k : ℕ) (cells : List ℕ) (i : ℕ) → i < falling (length cells) k → InTurn cells (drawn_from cells k i)
drawn_turn_lem zero cells i h = rw (drawn_none cells i) tt
drawn_turn_lem (suc k) cells i h =
    let (m, e, q) = falling_open (length cells) k i h in
    let d = i / falling m k in
    rw (drawn_step cells m k i e q)
    (member_at cells d (first_lt cells m k i e q), drawn_turn_lem k (without (get_or cells d 0) cells) (i % falling m k) (rest_lt cells m k i e q))

-- ranking what was drawn gives the index back
pub rank_drawn : (k : ℕ) (cells : List ℕ) (i : ℕ) → distinct cells ≡ true → i < falling (length cells) k → rank_in cells (drawn_from cells k i) ≡ i
unfolding rank_in
rank_drawn zero cells i u h = rw (drawn_none cells i) (let z : i < 1 = rw falling_none at h in omega arith)
rank_drawn (suc k) cells i u h =
    let (m, e, q) = falling_open (length cells) k i h in
    let f = falling m k in
    let c = get_or cells (i / f) 0 in
    rw (
      drawn_step cells m k i e q,
      rank_drawn k (without c cells) (i % f) (distinct_without c cells u) (rest_lt cells m k i e q),
      drawn_length (without c cells) k (i % f),
      left cells m k i e q,
      place_get_d cells (i / f) u (first_lt cells m k i e q),
    ) (div-add-mod' i f)

pub rank_lt : (l cells : List ℕ) → InTurn cells l → rank_in cells l < falling (length cells) (length l)
unfolding rank_in falling
rank_lt [] cells g = zero-lt-suc 0
rank_lt (c ∷ l) cells g =
    let n = length_without c cells g.0 in
    let p : place c cells < suc (length (without c cells)) = rw n at (place_lt c cells g.0) in
    rw n (digits_lt p (rank_lt l (without c cells) g.1))

-- drawing by the rank gives the list back
pub drawn_rank : (l cells : List ℕ) → InTurn cells l → drawn_from cells (length l) (rank_in cells l) ≡ l
unfolding rank_in
drawn_rank [] cells g = drawn_none cells 0
drawn_rank (c ∷ l) cells g =
    let w = without c cells in
    let f = falling (length w) (length l) in
    let n = length_without c cells g.0 in
    let b : rank_in w l < f = rank_lt l w g.1 in
    let p : place c cells < suc (length w) = rw n at (place_lt c cells g.0) in
    let i = place c cells * f + rank_in w l in
    rw (drawn_step cells (length w) (length l) i n (digits_lt p b), digits_div (place c cells) b, digits_mod (place c cells) b, get_d_place c cells g.0, drawn_rank l w g.1)

pub listed_turn : (cells l : List ℕ) (k : ℕ) → Listed cells k l → InTurn cells l
listed_turn cells l k r = in_turn_lem cells l r.among r.once

-- an index below the count draws an ordered list of k different cells
pub drawn_listed : (cells : List ℕ) (k i : ℕ) → distinct cells ≡ true → i < falling (length cells) k → Listed cells k (drawn_from cells k i)
drawn_listed cells k i u h = record {
  long = drawn_length cells k i;
  among = turn_among cells (drawn_from cells k i) (drawn_turn_lem k cells i h);
  once = turn_distinct cells (drawn_from cells k i) u (drawn_turn_lem k cells i h);
}
