-- What a program prints that reads by `take_all` and ends by `finish` is the replay of its input. Assumes nothing.
use Prim.Native.Nat.{ℕ, ◌<◌}
use native.Mathlib.Omega.{arith}
use mathlib.Core.Path.{◌≡◌, refl, sym, ap, ◌∙◌}
use mathlib.Core.Bool.{Bool, true, false, cond, true≢false}
use mathlib.Core.List.{List, [], ◌∷◌, ◌++◌, append_assoc, append-nil}
use lib.Dec.{eqb}
use lib.ListN.{take, drop}
use Rattle.parsing.specs.Fields.{up_to}
use Rattle.parsing.specs.Split.{Holds}
use Rattle.referee.specs.Match.{replay_of}
use Rattle.referee.specs.Run.{Took, Closed, desk_after, Run, holds, goes, stops, ends, goes_last, stops_last}
use Rattle.referee.specs.declared.Desk.{Desk}
use Rattle.referee.proofs.Whole.{run_prints}
use Rattle.stream.specs.Steps.{Fresh, Takes, Waits, Step, waits, takes, Steps, none, more, front, Last, stopped, nothing, last, Ends, Replay, reads, finishes}
use Rattle.stream.specs.declared.Progress.{Progress}

-- ---- the bytes before a newline, and none

up_by : (t : Bool) (x : ℕ) (s : List ℕ) → eqb x 10 ≡ t → up_to 10 (up_to 10 s) ≡ up_to 10 s → up_to 10 (cond t [] (x ∷ up_to 10 s)) ≡ cond t [] (x ∷ up_to 10 s)
unfolding up_to
up_by true x s e h = refl
up_by false x s e h = rw (e, h)

up_again : (s : List ℕ) → up_to 10 (up_to 10 s) ≡ up_to 10 s
unfolding up_to
up_again [] = refl
up_again (x ∷ s) = up_by (eqb x 10) x s refl (up_again s)

held_none : (line : List ℕ) (fill : ℕ) → fill ≡ 0 → Holds line fill []
held_none line fill e = record { counted = e; front = λ l. refl }

none_held : (line : List ℕ) (fill : ℕ) (s : List ℕ) → fill ≡ 0 → Holds line fill s → s ≡ []
none_held line fill [] e h = refl
none_held line fill (x ∷ s) e h = absurd (omega (arith, h.counted))

no_text : (n : ℕ) (out : List ℕ) → n ≡ 0 → take n out ≡ []
no_text n out e = ap (λ (k : ℕ). take k out) e

like : {d e : Desk} {a b s i j p q : List ℕ} → d ≡ e → a ≡ b → i ≡ j → p ≡ q → Run d a s i p → Run e b s j q
like x y z w run = rw (← x, ← y, ← z, ← w) run

-- ---- a part

module _ (part : List ℕ) (r : Progress) (line image s : List ℕ) where
  -- where the steps lead: to a run from there on, or to the end of one
  data Leads (q : Progress) (after new said : List ℕ) : Type 0 where
    on : (t : List ℕ) → q.on ≡ true → Holds after q.fill t
        → ((input printed : List ℕ) → Run q.desk new t (drop q.at part ++ input) printed → Run r.desk image s (drop r.at part ++ input) (said ++ printed)) → Leads q after new said
    off : q.on ≡ false → ((input : List ℕ) → Run r.desk image s (drop r.at part ++ input) said) → Leads q after new said

  module _ (q p : Progress) (before after old new said out t : List ℕ)
      (f : (input printed : List ℕ) → Run q.desk old t (drop q.at part ++ input) printed → Run r.desk image s (drop r.at part ++ input) (said ++ printed)) where
    lead_waits : Holds before q.fill t → q.on ≡ true → Waits q p part before after old new → Leads p after new (said ++ take p.text out)
    lead_waits k o w =
        on (t ++ drop q.at part) (w.on ∙ o) (w.held t k)
        (λ input printed run.
        let a : Run q.desk old (t ++ drop q.at part) input printed = like w.desk w.image (ap (λ (l : List ℕ). l ++ input) w.past) refl run in
        let b = f input printed (holds (drop q.at part) w.whole a) in
        let e : said ++ take p.text out ≡ said = ap (λ (l : List ℕ). said ++ l) (no_text p.text out w.text) ∙ append-nil said in
        like refl refl refl (ap (λ (l : List ℕ). l ++ printed) (sym e)) b)

    lead_takes : (m : Bool) → Holds before q.fill t → drop q.at part ≡ up_to 10 (drop q.at part) ++ (10 ∷ drop p.at part) → (k : Takes q p before (up_to 10 (drop q.at part)) old new out)
        → k.turned.more ≡ m → Leads p after new (said ++ take p.text out)
    lead_takes true h c k m =
        let up = up_to 10 (drop q.at part) in
        on [] (k.on ∙ m) (held_none after p.fill k.fill)
        (λ input printed run.
        let a : Run (desk_after k.turned) new [] (drop p.at part ++ input) printed = like k.desk refl refl refl run in
        let b = goes new (take p.text out) k.turned (k.took t h) m a in
        let g : Run q.desk old t (up ++ (10 ∷ (drop p.at part ++ input))) (take p.text out ++ printed) = holds up (up_again (drop q.at part)) b in
        let e : up ++ (10 ∷ (drop p.at part ++ input)) ≡ drop q.at part ++ input = sym (append_assoc up (10 ∷ drop p.at part) input) ∙ ap (λ (l : List ℕ). l ++ input) (sym c) in
        like refl refl refl (sym (append_assoc said (take p.text out) printed)) (f input (take p.text out ++ printed) (like refl refl e refl g)))
    lead_takes false h c k m =
        let up = up_to 10 (drop q.at part) in
        off (k.on ∙ m)
        (λ input.
        let b = stops {input = drop p.at part ++ input} new k.turned (k.took t h) m in
        let g : Run q.desk old t (up ++ (10 ∷ (drop p.at part ++ input))) (take p.text out) = holds up (up_again (drop q.at part)) b in
        let e : up ++ (10 ∷ (drop p.at part ++ input)) ≡ drop q.at part ++ input = sym (append_assoc up (10 ∷ drop p.at part) input) ∙ ap (λ (l : List ℕ). l ++ input) (sym c) in
        f input (take p.text out) (like refl refl e refl g))

  lead_on : (q p : Progress) (before after old new said out : List ℕ) → Leads q before old said → q.on ≡ true → Step q p part before after old new out → Leads p after new (said ++ take p.text out)
  lead_on q p before after old new said out (off e g) o x = absurd (true≢false (sym o ∙ e))
  lead_on q p before after old new said out (on t e h f) o (waits w) = lead_waits q p before after old new said out t f h o w
  lead_on q p before after old new said out (on t e h f) o (takes c k) = lead_takes q p before after old new said out t f k.turned.more h c k refl

  leads : {q : Progress} {after new said : List ℕ} → Holds line r.fill s → r.on ≡ true → Steps part r line image q after new said → Leads q after new said
  leads h e none = on s e h (λ input printed run. run)
  leads h e (more {q = q} {p = p} {before = before} {after = after} {old = old} {new = new} {said = said} out steps o x) = lead_on q p before after old new said out (leads h e steps) o x

-- a stream that was stopped stays so
stays_off : {part : List ℕ} {r : Progress} {line image : List ℕ} {q : Progress} {after new said : List ℕ} → r.on ≡ false → Steps part r line image q after new said → (q.on ≡ false) × (said ≡ [])
stays_off e none = (e, refl)
stays_off e (more out steps o x) = absurd (true≢false (sym o ∙ (stays_off e steps).0))

-- ---- the end of the input

module _ (r q : Progress) (n : ℕ) (line old new lent out : List ℕ) (x : Ends q n out) where
  end_off : r.on ≡ false → Last r q line old new lent → take q.text lent ++ take n out ≡ []
  end_off e (stopped f o i t) = rw (no_text q.text lent t, no_text n out (x.stopped o))
  end_off e (nothing f d o i t) = rw (no_text q.text lent t, no_text n out (x.stopped (o ∙ e)))
  end_off e (last o h k) = absurd (true≢false (sym o ∙ e))

  end_none : (s : List ℕ) → s ≡ [] → q.desk ≡ r.desk → q.on ≡ true → q.text ≡ 0 → Run r.desk old s [] (take q.text lent ++ take n out)
  end_none s i d o t =
      let c : Closed r.desk (take n out) = rw (← d) (x.closed o) in
      rw (i, no_text q.text lent t) (ends {image = old} c)

  end_last : (m : Bool) (s : List ℕ) → Holds line r.fill s → 0 < r.fill → (k : Takes r q line [] old new lent) → k.turned.more ≡ m → Run r.desk old s [] (take q.text lent ++ take n out)
  end_last m [] h l k e = absurd (omega (arith, h.counted))
  end_last true (y ∷ s) h l k e =
      let w : Took r.desk old (y ∷ s) new (take q.text lent) k.turned = rw (← append-nil (y ∷ s)) (k.took (y ∷ s) h) in
      let c : Closed (desk_after k.turned) (take n out) = rw (← k.desk) (x.closed (k.on ∙ e)) in
      goes_last new (take q.text lent) (take n out) k.turned w e c
  end_last false (y ∷ s) h l k e =
      let w : Took r.desk old (y ∷ s) new (take q.text lent) k.turned = rw (← append-nil (y ∷ s)) (k.took (y ∷ s) h) in
      let g : take q.text lent ++ take n out ≡ take q.text lent = ap (λ (l : List ℕ). take q.text lent ++ l) (no_text n out (x.stopped (k.on ∙ e))) ∙ append-nil (take q.text lent) in
      like refl refl refl (sym g) (stops_last new k.turned w e)

  end_runs : (s : List ℕ) → Holds line r.fill s → r.on ≡ true → Last r q line old new lent → Run r.desk old s [] (take q.text lent ++ take n out)
  end_runs s h e (stopped f o i t) = absurd (true≢false (sym e ∙ f))
  end_runs s h e (nothing f d o i t) = end_none s (none_held line r.fill s f h) d (o ∙ e) t
  end_runs s h e (last o l k) = end_last k.turned.more s h l k refl

-- ---- the whole input

silent : {r : Progress} {line image input printed : List ℕ} → r.on ≡ false → Replay r line image input printed → printed ≡ []
silent e (reads part all rest) =
    let p = stays_off e all.steps in
    let q = silent p.0 rest in
    rw (p.1, q)
silent e (finishes {r = r} {n = n} {line = line} {old = old} {new = new} i f) = end_off r f.after n line old new f.lent f.out f.ends e f.last

run_of : {r : Progress} {line image input printed : List ℕ} (s : List ℕ) → Holds line r.fill s → r.on ≡ true → Replay r line image input printed → Run r.desk image s input printed
run_of s h e (reads {r = r} {q = q} {before = before} {after = after} {old = old} {new = new} {input = input} {printed = printed} part all rest) = elim (leads part (front r) before old s h e all.steps) [
  | on t o k f ↦ let a = run_of t k o rest in f input printed (like refl refl (ap (λ (l : List ℕ). l ++ input) (sym (all.past o))) refl a)
  | off o f ↦ like refl refl refl (sym (append-nil all.said) ∙ ap (λ (l : List ℕ). all.said ++ l) (sym (silent o rest))) (f input)
]
run_of s h e (finishes {r = r} {n = n} {line = line} {old = old} {new = new} {input = input} i f) =
    like refl refl (sym (i e)) refl (end_runs r f.after n line old new f.lent f.out f.ends s h e f.last)

-- whatever stands in the buffers before
pub stream_prints : (r : Progress) (line image input printed : List ℕ) → Fresh r → Replay r line image input printed → printed ≡ replay_of input
stream_prints r line image input printed e x = run_prints r.desk image input printed e.begun (run_of [] (held_none line r.fill e.fill) e.on x)
