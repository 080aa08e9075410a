-- The refusals in their order: what the verdict says by the tests made so far, and what is known of an image that none of them refuses. Assumes nothing.
use Rattle.std.specs.Prelude.{Ok, Err}
use Prim.Native.Nat.{ℕ, ◌+◌, ◌*◌, ◌<◌, ◌≤◌}
use native.Mathlib.Omega.{arith}
use mathlib.Core.Path.{◌≡◌, refl, sym, ap, subst, ◌∙◌}
use mathlib.Core.Bool.{Bool, true, false, ◌&&◌, ◌||◌}
use mathlib.Core.List.{List, [], ◌∷◌, ◌++◌}
use lib.Dec.{ltb, eqb}
use lib.ListN.{length, get_or, replicate}
use borrow.Author.Tests.{eqb-true, not-false, ltb-false, lt-ltb, le-ltb, eq-eqb, ne_eqb}
use Rattle.lists.specs.Below.{some_below}
use Rattle.lists.proofs.Below.{some_ext}
use Rattle.rules.specs.Tables.{Table, none_hold}
use Rattle.rules.specs.Setting.{setting_order}
use Rattle.rules.specs.State.{Snake, snake_of}
use Rattle.rules.specs.Image.{snakes_in, side_in, due_in, food_at, state_of, image_of}
use Rattle.rules.specs.Facts.{Sound}
use Rattle.rules.specs.Says.{Says, seen, lent, by_table}
use Rattle.rules.specs.Promises.{Validates, Examines, Steps}
use Rattle.rules.specs.Calls.{setting_says, image_says, step_says, stepped_of}
use Rattle.rules.specs.Faults.{image_rows}
use Rattle.rules.specs.Orders.{differs, bad_action, asked_rows, asked_order}
use Rattle.rules.specs.Step.{Transition, transition_of, stepped}
use Rattle.rules.specs.declared.Setting.{Setting}
use Rattle.rules.specs.declared.refusal.Refusal.{Refusal}
use Rattle.rules.specs.declared.Stepped.{Stepped}
use Rattle.rules.proofs.Facts.{sound}
use Rattle.rules.proofs.Tables.{and_then, row_out, table_after, then_gives, table_given}
use Rattle.rules.proofs.Faults.{no_fault, rows_formed, rows_after}
use Rattle.rules.proofs.Parts.{state_count, state_snake}
use Rattle.judge.specs.declared.Judged.{Judged}
use Rattle.judge.specs.World.{judged_world, Judges}
use Rattle.judge.specs.Loops.{Seeking}
use Rattle.step.specs.Applied.{Ready, Applied, room_for}
use Rattle.step.specs.Asked.{AsksImage, Asks, bad_at}
use Rattle.judge.proofs.Judging.{cause_judged, stepped_by}
use Rattle.judge.proofs.Loops.{seek_next, seek_all}
use Rattle.rules.specs.declared.refusal.Refusal.TheVariants as Refusal

-- ---- 25, by the image's words

module _ (w acts : List ℕ) where
  bad_words : some_below (snakes_in w) (bad_at w acts) ≡ bad_action (state_of w) acts
  bad_words =
      some_ext (snakes_in w) (bad_at w acts) (λ i. (snake_of (state_of w) i).alive && ltb 2 (get_or acts i 0))
      (λ i h. ap (λ (z : Snake). z.alive && ltb 2 (get_or acts i 0)) (sym (state_snake w i h)))
      ∙ ap (λ (n : ℕ). some_below n (λ i. (snake_of (state_of w) i).alive && ltb 2 (get_or acts i 0))) (sym (state_count w))

  module _ (i : ℕ) (bad : Bool) (q : Seeking (bad_at w acts) (length acts) i bad) where
    -- k is the place of the alive flag
    pub bad_next : i < length acts → (k : ℕ) → k ≡ 8 + 4 * i → Seeking (bad_at w acts) (length acts) (i + 1) (bad || (eqb (get_or w k 0) 1 && ltb 2 (get_or acts i 0)))
    bad_next l k e =
        seek_next (bad_at w acts) (length acts) i bad q l (eqb (get_or w k 0) 1 && ltb 2 (get_or acts i 0)) (ap (λ (k : ℕ). eqb (get_or w k 0) 1 && ltb 2 (get_or acts i 0)) e)

    pub bad_all : length acts ≡ snakes_in w → length acts ≤ i → bad ≡ bad_action (state_of w) acts
    bad_all n l = seek_all (bad_at w acts) (length acts) i bad q l ∙ ap (λ (k : ℕ). some_below k (bad_at w acts)) n ∙ bad_words

-- ---- a checked image, by the tests made so far: b is the answer of `differs`

module _ (s : Setting) (w acts : List ℕ) (b : Bool) (d : b ≡ differs s w) where
  pub asked_21 : b ≡ true → AsksImage s w acts (Err Refusal.OtherSetting)
  unfolding by_table
  asked_21 t = record { answer = rw (sym d ∙ t) }

  module _ (h : b ≡ false) where
    pub asked_22 : 0 < due_in w → AsksImage s w acts (Err Refusal.FoodDue)
    unfolding by_table
    asked_22 t = record { answer = rw (sym d ∙ h, lt-ltb 0 (due_in w) t) }

    module _ (z : due_in w ≤ 0) where
      pub asked_24 : (length acts ≡ snakes_in w → ⊥) → AsksImage s w acts (Err Refusal.ActionCount)
      unfolding by_table
      asked_24 t = record { answer = rw (sym d ∙ h, le-ltb 0 (due_in w) z, ne_eqb (length acts) (snakes_in w) t) }

      module _ (n : length acts ≡ snakes_in w) (bad : Bool) (q : bad ≡ bad_action (state_of w) acts) where
        pub asked_25 : bad ≡ true → AsksImage s w acts (Err Refusal.Action)
        unfolding by_table
        asked_25 t = record { answer = rw (sym d ∙ h, le-ltb 0 (due_in w) z, eq-eqb (length acts) (snakes_in w) n, sym q ∙ t) }

        pub asked_none : bad ≡ false → AsksImage s w acts (Ok tt)
        unfolding by_table
        asked_none t = record { answer = rw (sym d ∙ h, le-ltb 0 (due_in w) z, eq-eqb (length acts) (snakes_in w) n, sym q ∙ t) }

-- ---- all of them: v is the verdict on the setting

module _ (s : Setting) (w acts : List ℕ) (v : Says (Unit {0})) (p : Validates s v) where
  abbrev rows : Says (Unit {0})
  rows = by_table (image_rows w ++ asked_rows s w acts) (Ok tt)

  -- what is asked of a checked image
  abbrev asks : Says (Unit {0})
  asks = by_table (asked_rows s w acts) (Ok tt)

  -- the verdict on the setting, or what is asked of the image
  by_rows : by_table (asked_order s w acts) (Ok tt) ≡ and_then v rows
  unfolding setting_says
  by_rows = table_after (setting_order s) (image_rows w ++ asked_rows s w acts) (Ok tt) ∙ ap (λ (x : Says (Unit {0})). and_then x rows) (sym p.answer)

  pub asked_setting : (k : Refusal) → v ≡ Err k → Asks s w acts (Err k)
  asked_setting k e = record { answer = sym (by_rows ∙ ap (λ (x : Says (Unit {0})). and_then x rows) e) }

  module _ (e : v ≡ (Ok tt)) (x : Says (Unit {0})) (f : Examines w x) where
    rows_are : rows ≡ and_then x asks
    unfolding image_says
    rows_are = table_after (image_rows w) (asked_rows s w acts) (Ok tt) ∙ ap (λ (x : Says (Unit {0})). and_then x asks) (sym f.answer)

    accepted : by_table {A = Unit {0}} (asked_order s w acts) (Ok tt) ≡ and_then x asks
    accepted = by_rows ∙ ap (λ (x : Says (Unit {0})). and_then x rows) e ∙ rows_are

    pub asked_faulty : (k : Refusal) → x ≡ Err k → Asks s w acts (Err k)
    asked_faulty k t = record { answer = sym (accepted ∙ ap (λ (x : Says (Unit {0})). and_then x asks) t) }

    module _ (t : x ≡ Ok tt) where
      pub image_sound : Sound w
      unfolding image_says
      image_sound = sound w (sym (no_fault w) ∙ (table_given (image_rows w) tt tt (sym f.answer ∙ t)).0)

      pub asked_image : (r : Says (Unit {0})) → AsksImage s w acts r → Asks s w acts r
      asked_image r q = record { answer = q.answer ∙ sym (accepted ∙ ap (λ (x : Says (Unit {0})). and_then x asks) t) }

-- ---- what is known where none refuses

module _ (s : Setting) (w acts : List ℕ) (v : Says (Unit {0})) (a : Asks s w acts v) (e : v ≡ (Ok tt)) where
  abbrev table : Table
  table = image_rows w ++ asked_rows s w acts

  none : none_hold table ≡ true
  none =
      let both = sym (table_after (setting_order s) table (Ok tt)) ∙ sym a.answer ∙ e in
      (table_given table tt tt (then_gives (by_table (setting_order s) (Ok tt)) (by_table table (Ok tt)) tt both)).0

  -- the k-th row after the image's own
  no_row : (k : ℕ) → (get_or (asked_rows s w acts) k (Refusal.Buffer, false)).1 ≡ false
  no_row k = row_out (asked_rows s w acts) k (rows_after w (asked_rows s w acts) none)

  pub asked_sound : Sound w
  asked_sound = sound w (rows_formed w (asked_rows s w acts) none)

  pub asked_same : differs s w ≡ false
  asked_same = no_row 0

  pub asked_due : due_in w ≡ 0
  asked_due = let h = ltb-false 0 (due_in w) (no_row 1) in omega arith

  pub asked_count : length acts ≡ snakes_in w
  asked_count = eqb-true _ _ (not-false (eqb (length acts) (snakes_in w)) (no_row 2))

  pub asked_good : bad_action (state_of w) acts ≡ false
  asked_good = no_row 3

-- ---- judged moves are ready to be applied

pub judged_ready : (w acts : List ℕ) (js : Judged) → Judges w acts js → Ready w js
judged_ready w acts js j = record { causes = cause_judged w acts js j; cells = λ i h. j.cells i; parts = j.parts; short = λ i h. j.short i }

pub step_so : (s : Setting) (w acts : List ℕ) (js : Judged) → Judges w acts js → (old new : List ℕ) (r : Says Stepped)
    → Applied (transition_of s (side_in w) (snakes_in w) (food_at w) (judged_world w js)) old new r → Applied (stepped s (state_of w) acts) old new r
step_so s w acts js j old new r a = subst (λ (o : Transition). Applied o old new r) (sym (stepped_by w acts js s j)) a

-- ---- the promise, from either end

-- a call that asks the same, and then the rows u, says the verdict, and else what those rows say
pub asked_then : {A : Type 0} (s : Setting) (w acts : List ℕ) (v : Says (Unit {0})) → Asks s w acts v → (u : Table) (r : Says A) → by_table (asked_order s w acts ++ u) r ≡ and_then v (by_table u r)
asked_then s w acts v a u r = table_after (asked_order s w acts) u r ∙ ap (λ (x : Says (Unit {0})). and_then x (by_table u r)) (sym a.answer)

module _ (s : Setting) (w acts : List ℕ) (v : Says (Unit {0})) (a : Asks s w acts v) (old : List ℕ) where
  -- a step's one row more is the room
  step_says_lem : step_says s w acts (length old) ≡ and_then v (room_for (stepped s (state_of w) acts) (length old))
  unfolding step_says by_table
  step_says_lem =
      let o = stepped s (state_of w) acts in
      asked_then s w acts v a ((Refusal.Buffer, ltb (length old) (length (image_of o.next))) ∷ []) (Ok o)

  promised : (x : Says Transition) → step_says s w acts (length old) ≡ x → (new : List ℕ) (r : Says Stepped) → r ≡ seen stepped_of x → new ≡ lent (λ o. image_of o.next) old x
      → Steps s w acts old new r
  promised x p new r q n = record { answer = q ∙ sym (ap (seen stepped_of) p); words = n ∙ sym (ap (lent (λ (o : Transition). image_of o.next) old) p) }

  pub steps_refused : (k : Refusal) → v ≡ Err k → Steps s w acts old old (Err k)
  steps_refused k e =
      let p : step_says s w acts (length old) ≡ Err k = step_says_lem ∙ ap (λ (x : Says (Unit {0})). and_then x (room_for (stepped s (state_of w) acts) (length old))) e in
      promised (Err k) p old (Err k) refl refl

  pub steps_done : v ≡ (Ok tt) → (new : List ℕ) (r : Says Stepped) → Applied (stepped s (state_of w) acts) old new r → Steps s w acts old new r
  steps_done e new r q =
      let o = room_for (stepped s (state_of w) acts) (length old) in
      let p : step_says s w acts (length old) ≡ o = step_says_lem ∙ ap (λ (x : Says (Unit {0})). and_then x o) e in
      promised o p new r q.answer q.words
