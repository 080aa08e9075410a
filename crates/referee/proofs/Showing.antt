-- The words of a state's image show the line of the state, and mark its living. Assumes nothing.
use Prim.Native.Nat.{ℕ, suc, ◌-◌, ◌<◌}
use native.Mathlib.Nat.{add-zero}
use native.Mathlib.Omega.{arith}
use mathlib.Core.Path.{◌≡◌, refl, sym, ap, ◌∙◌}
use mathlib.Core.Bool.{Bool}
use mathlib.Core.List.{List, [], ◌∷◌, ◌++◌}
use lib.Dec.{eqb}
use lib.ListN.{length, get_or, take, drop, replicate}
use lib.Seq.{get_or-drop, get_or-take}
use Rattle.lists.specs.Below.{filled}
use Rattle.lists.proofs.Below.{each_ext, concat_ext}
use Rattle.rules.specs.State.{State, count, snake_of}
use Rattle.rules.specs.Image.{length_at, alive_at, start_at, body_of, image_of}
use Rattle.rules.specs.Events.{blank}
use Rattle.rules.specs.Turns.{truncated}
use Rattle.rules.specs.declared.Event.{Event}
use Rattle.rules.proofs.Image.{alive_is, length_is, body_is, bit_back}
use Rattle.printing.specs.Text.{first_text, body_text, snake_text, head_text, line_text}
use Rattle.standing.specs.Shown.{snake_shown, snake_shown_by, line_shown, mark_shown}
use Rattle.referee.specs.Match.{marked_at, marked}

-- the first word of a part that is not empty
first_is : (w b : List ℕ) (k n : ℕ) → take n (drop k w) ≡ b → n ≡ length b → first_text (length b) (get_or w k 0) ≡ first_text (length b) (get_or b 0 0)
first_is w [] k n e q = refl
first_is w (x ∷ b) k n e q =
    let h : 0 < n = omega arith in
    let p : get_or (take n (drop k w)) 0 0 ≡ x = ap (λ (l : List ℕ). get_or l 0 0) e in
    let r : get_or (take n (drop k w)) 0 0 ≡ get_or w k 0 = rw (get_or-take, get_or-drop, add-zero) in
    ap (λ (y : ℕ). first_text (suc (length b)) y) (sym r ∙ p)

module _ (t : State) where
  abbrev w : List ℕ
  w = image_of t

  alive_shown : (i : ℕ) → i < count t → eqb (alive_at w i) 1 ≡ (snake_of t i).alive
  alive_shown i h = ap (λ (k : ℕ). eqb k 1) (alive_is t i h) ∙ bit_back (snake_of t i).alive

  snake_shown_lem : (i : ℕ) → i < count t → (e : Event) → snake_shown w i e ≡ snake_text (snake_of t i) e
  unfolding snake_shown snake_text body_text
  snake_shown_lem i h e =
      let l = length_is t i h in
      rw (alive_shown i h, l, first_is w (body_of t i) (start_at w i) (length_at w i) (body_is t i h) l)

  pub line_shown_lem : (letter : ℕ) (over : Bool) (es : List Event) → line_shown letter over w es (count t) ≡ line_text letter over t es
  unfolding line_shown line_text image_of
  line_shown_lem letter over es =
      ap (λ (l : List ℕ). head_text letter over t.due (length t.food) ++ l ++ (10 ∷ []))
      (concat_ext (count t) (snake_shown_by w es) (λ i. snake_text (snake_of t i) (get_or es i blank)) (λ i h. snake_shown_lem i h (get_or es i blank)))

  pub marks_shown : (es : List Event) → filled (mark_shown w es) (count t) 8 blank ≡ marked t es
  unfolding filled
  marks_shown es = ap (λ (l : List Event). l ++ replicate (8 - count t) blank)
      (each_ext (count t) (mark_shown w es) (marked_at t es) (λ i h. ap (truncated (get_or es i blank)) (alive_shown i h)))
