-- From what `feed` and `take_line` promise to what a step of the stream does. Assumes nothing.
use Prim.Native.Nat.{ℕ, suc, ◌+◌, ◌-◌, ◌<◌, ◌≤◌}
use native.Mathlib.Omega.{arith}
use mathlib.Core.Path.{◌≡◌, refl, sym, ap, ◌∙◌}
use mathlib.Core.Bool.{Bool, true, false, cond}
use mathlib.Core.List.{List, [], ◌∷◌, ◌++◌, append-nil}
use lib.Dec.{eqb}
use lib.ListN.{length, take, drop, length-drop, drop_of_length-le}
use lib.Seq.{drop-drop, take_all}
use borrow.Author.Tests.{eqb-true}
use Rattle.lists.proofs.Tests.{ordered, less, more}
use Rattle.parsing.specs.Fields.{up_to}
use Rattle.parsing.specs.Split.{Holds, Feeds}
use Rattle.parsing.proofs.Cutting.{piece_front}
use Rattle.referee.specs.Match.{line_says, Plays}
use Rattle.referee.specs.Run.{Took}
use Rattle.referee.specs.declared.Turned.{Turned}
use Rattle.stream.specs.Room.{Ready, Spare}
use Rattle.stream.specs.Steps.{Takes, Step, waits, takes, Steps}
use Rattle.stream.specs.declared.Progress.{Progress}

-- ---- where a line ends

cut_whole : (s : List ℕ) → length (up_to 10 s) ≡ length s → up_to 10 s ≡ s
cut_whole s e = sym (piece_front 10 s) ∙ take_all (length (up_to 10 s)) s (omega arith)

newline_by : (t : Bool) (x : ℕ) (s : List ℕ) → eqb x 10 ≡ t → (length (up_to 10 s) < length s → s ≡ up_to 10 s ++ (10 ∷ drop (suc (length (up_to 10 s))) s))
    → length (cond t [] (x ∷ up_to 10 s)) < suc (length s) → x ∷ s ≡ cond t [] (x ∷ up_to 10 s) ++ (10 ∷ drop (suc (length (cond t [] (x ∷ up_to 10 s)))) (x ∷ s))
newline_by true x s e f h = ap (λ (k : ℕ). k ∷ s) (eqb-true x 10 e)
newline_by false x s e f h = ap (λ (l : List ℕ). x ∷ l) (f (omega arith))

cut_newline : (s : List ℕ) → length (up_to 10 s) < length s → s ≡ up_to 10 s ++ (10 ∷ drop (suc (length (up_to 10 s))) s)
unfolding up_to
cut_newline [] h = absurd (omega arith)
cut_newline (x ∷ s) h = newline_by (eqb x 10) x s refl (cut_newline s) h

below : (a b : ℕ) → a ≤ b → (a ≡ b → ⊥) → a < b
below a b h e = elim (ordered a b) [ less l t ↦ l | more l t ↦ absurd (e (omega arith)) ]

-- ---- the line that is held

pub took_held : (r : Progress) (line image new next list out exit : List ℕ) (t : Turned) → Ready r line image → Spare next list out
    → Plays (line_says r.desk (take r.desk.words image) (take r.fill line) (length next) (length list)) r.desk.game image new out exit t
    → (s : List ℕ) → Holds line r.fill s → Took r.desk image (s ++ []) new (take t.text exit) t
took_held r line image new next list out exit t e b p s h =
    let q : Plays (line_says r.desk (take r.desk.words image) (take r.fill line) 9253 1024) r.desk.game image new out exit t = rw (b.room, b.cells) at p in
    let k : Took r.desk image s new (take t.text exit) t = record { buffer = line; fill = r.fill; long = e.wide; held = h; out = out; exit = exit; plays = q; prints = refl } in
    rw (append-nil s) k

-- ---- what came, up to the end of a line

module _ (r : Progress) (part before after old : List ℕ) (end fill : ℕ) (e : end ≡ r.at + length (up_to 10 (drop r.at part))) (a : r.at < length part)
    (f : Feeds before after r.fill fill (take (end - r.at) (drop r.at part))) where
  abbrev left : List ℕ
  left = drop r.at part

  lent_is : take (end - r.at) left ≡ up_to 10 left
  lent_is = let g : end - r.at ≡ length (up_to 10 left) = omega arith in ap (λ (k : ℕ). take k left) g ∙ piece_front 10 left

  fed : (s : List ℕ) → Holds before r.fill s → Holds after fill (s ++ up_to 10 left)
  fed s h = let g = f.holds s h in rw (← lent_is) g

  pub step_waits : (q : Progress) (out : List ℕ) → end ≡ length part → q.at ≡ end + 1 → q.fill ≡ fill → q.desk ≡ r.desk → q.text ≡ 0 → q.on ≡ r.on → Step r q part before after old old out
  step_waits q out n p i d t o =
      let w : up_to 10 left ≡ left = cut_whole left (omega (arith, length-drop r.at part)) in
      let m : length part ≤ q.at = omega arith in
      waits record {
        whole = w;
        past = drop_of_length-le part m;
        held = λ s h. let g : Holds after fill (s ++ left) = rw (← w) (fed s h) in rw i g;
        desk = d;
        image = refl;
        text = t;
        on = o;
      }

  pub step_takes : {h q : Progress} {new out : List ℕ} → end ≤ length part → (end ≡ length part → ⊥) → q.at ≡ end + 1 → h.fill ≡ fill → h.desk ≡ r.desk → Takes h q after [] old new out → Step r q part before after old new out
  step_takes {h = h} {q = q} {new = new} {out = out} m w p i d t =
      let n = below end (length part) m w in
      let b : left ≡ up_to 10 left ++ (10 ∷ drop (suc (length (up_to 10 left))) left) = cut_newline left (omega (arith, length-drop r.at part)) in
      let j : r.at + suc (length (up_to 10 left)) ≡ q.at = omega arith in
      let g : drop (suc (length (up_to 10 left))) left ≡ drop q.at part = drop-drop (suc (length (up_to 10 left))) r.at part ∙ ap (λ (k : ℕ). drop k part) j in
      takes
      (b ∙ ap (λ (l : List ℕ). up_to 10 left ++ (10 ∷ l)) g)
      record {
        turned = t.turned;
        took = λ s k.
            let l : Holds after h.fill (s ++ up_to 10 left) = rw i (fed s k) in
            let u : Took r.desk old ((s ++ up_to 10 left) ++ []) new (take q.text out) t.turned = rw (← d) (t.took (s ++ up_to 10 left) l) in
            rw (← append-nil (s ++ up_to 10 left)) u;
        desk = t.desk;
        fill = t.fill;
        on = t.on;
      }

-- ---- a part, step by step

pub record Stepped (part : List ℕ) (r : Progress) (line image : List ℕ) (q : Progress) (after new : List ℕ) : Type 0 where
  pub said : List ℕ
  pub steps : Steps part r line image q after new said

-- whether its text could be written is no part of a step
pub printed_or_not : {r q : Progress} {part before after old new out : List ℕ} (heard : Bool) → Step r q part before after old new out
    → Step r (record { desk = q.desk; fill = q.fill; at = q.at; text = q.text; on = q.on; heard = heard }) part before after old new out
printed_or_not heard (waits w) = waits record { whole = w.whole; past = w.past; held = w.held; desk = w.desk; image = w.image; text = w.text; on = w.on }
printed_or_not heard (takes e t) = takes e record { turned = t.turned; took = t.took; desk = t.desk; fill = t.fill; on = t.on }
