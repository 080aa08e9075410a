-- What a match's calls say, the exported calls say in numbers; and the numbers lose nothing from move to move. Assumes nothing.
use Rattle.std.specs.Prelude.{Ok, Err}
use Prim.Native.Nat.{ℕ}
use mathlib.Core.Path.{◌≡◌, refl, sym, ap, ◌∙◌}
use mathlib.Core.Bool.{Bool, true, false}
use mathlib.Core.List.{List}
use native.Mathlib.Omega.{arith}
use lib.ListN.{length}
use Rattle.lists.specs.Choice.{◌if◌else◌, bit}
use Rattle.rules.specs.Says.{Says, seen}
use Rattle.rules.specs.declared.Event.{Event}
use Rattle.rules.specs.declared.refusal.Refusal.{Refusal}
use Rattle.rules.specs.declared.Setting.{Setting}
use Rattle.standing.specs.Calls.{Move, move_says, taken_of, Takes}
use Rattle.standing.specs.Shown.{events_shown}
use Rattle.standing.specs.Standing.{moved, places_of}
use Rattle.standing.specs.declared.Match.{Match}
use Rattle.standing.specs.declared.Taken.{Taken}
use Rattle.flat.specs.Flat.{refusal_number, flag_in, setting_in, events_bytes}
use Rattle.flat.specs.Games.{events_in, match_in, match_numbers}
use Rattle.flat.proofs.Theorems.{flag_back, events_back, match_back}
use Rattle.bindings.specs.Exports.{whole, Tells, FlatMoves}
use Rattle.bindings.proofs.Saying.{given}
use Rattle.bindings.proofs.Theorems.{named}
use Rattle.rules.specs.declared.refusal.Refusal.TheVariants as Refusal

-- ---- a move

module _ (old : List (List ℕ)) (g : List ℕ) where
  took : (x : Says Move) (t : Taken) → Ok t ≡ seen taken_of x → FlatMoves x old (events_bytes t.events) g (match_numbers t.game) 0
  took (Err k) t q = let z : ◌≡◌ {A = ℕ} 0 1 = cc in absurd (omega arith)
  took (Ok a) t q =
      let e : t ≡ taken_of a = cc in
      record { refusal = refl; events = ap (λ (x : Taken). events_bytes x.events) e; game = ap (λ (x : Taken). match_numbers x.game) e }

  not_taken : (x : Says Move) (k : Refusal) → Err k ≡ seen taken_of x → (r : ℕ) → r ≡ refusal_number k → FlatMoves x old old g g r
  not_taken (Err j) k q r p = let e : k ≡ j = cc in record { refusal = p ∙ ap refusal_number e; events = refl; game = refl }
  not_taken (Ok a) k q r p = let z : ◌≡◌ {A = ℕ} 0 1 = cc in absurd (omega arith)

-- m and es are what the caller's numbers are read as
module _ (s s' : Setting) (g : List ℕ) (m : Match) (n : ℕ) (w : List ℕ) (old : List (List ℕ)) (es : List Event) (a : Says Taken)
    (q : Takes (move_says m (flag_in n) w es) a) (pm : m ≡ match_in s g) (ps : s ≡ s') (pe : es ≡ events_in old) where
  pub move_told : (t : Taken) → a ≡ Ok t → (bytes : List (List ℕ)) → bytes ≡ events_bytes t.events → (numbers : List ℕ) → numbers ≡ match_numbers t.game
      → FlatMoves (move_says (match_in s' g) (flag_in n) w (events_in old)) old bytes g numbers 0
  move_told t v bytes pb numbers pn = rw (pb, pn, ← ps, ← pm, ← pe) (took old g (move_says m (flag_in n) w es) t (sym v ∙ q.answer))

  pub move_refused : (k : Refusal) → a ≡ Err k → (r : ℕ) → r ≡ refusal_number k → FlatMoves (move_says (match_in s' g) (flag_in n) w (events_in old)) old old g g r
  move_refused k v r p = rw (← ps, ← pm, ← pe) (not_taken old g (move_says m (flag_in n) w es) k (sym v ∙ q.answer) r p)

-- ---- the places

pub places_told : (s s' : Setting) (g : List ℕ) (m : Match) → m ≡ match_in s g → s ≡ s' → (r : List ℕ) → r ≡ places_of m → (old : List ℕ) → Tells whole (Ok (places_of (match_in s' g))) old r 0
places_told s s' g m pm ps r pr old = rw (← ps, ← pm, pr) (given whole (Ok (places_of m)) old (places_of m) refl)

-- ---- laws for callers

-- refusal 0 says that the match took the move
pub move_named : (m : Match) (over : Bool) (w : List ℕ) (es : List Event) → named (move_says m over w es) ≡ true
unfolding named
move_named m over w es = go m.over
  where
    go : (b : Bool) → named {A = Move} (Err Refusal.Over if b else Ok (record { game = moved m over es; events = events_shown m over w es })) ≡ true
    go true = refl
    go false = refl

-- what a call wrote and the next one reads: a match, and a step's end and events
pub same_move : (s : List ℕ) (m : Match) → m.setting ≡ setting_in s → length m.deaths ≡ 8 → length m.behind ≡ 8
    → (over : Bool) (w : List ℕ) (es : List Event) → length es ≡ 8
    → move_says (match_in (setting_in s) (match_numbers m)) (flag_in (bit over)) w (events_in (events_bytes es)) ≡ move_says m over w es
same_move s m e p q over w es l =
    let b : match_in (setting_in s) (match_numbers m) ≡ m = ap (λ (x : Setting). match_in x (match_numbers m)) (sym e) ∙ match_back m p q in
    ap (λ (x : Match). move_says x (flag_in (bit over)) w (events_in (events_bytes es))) b
    ∙ ap (λ (x : Bool). move_says m x w (events_in (events_bytes es))) (flag_back over)
    ∙ ap (move_says m over w) (events_back es l)

-- two answers that meet one promise
pub one_move : (x : Says Move) (old new new' : List (List ℕ)) (g h h' : List ℕ) (r r' : ℕ) → FlatMoves x old new g h r → FlatMoves x old new' g h' r' → (r ≡ r') × (new ≡ new') × (h ≡ h')
one_move x old new new' g h h' r r' p p' = (p.refusal ∙ sym p'.refusal, p.events ∙ sym p'.events, p.game ∙ sym p'.game)
