-- What an agent cannot see, from the promise of the observation alone. Assumes nothing.
use Rattle.std.specs.Prelude.{Ok, Err}
use Prim.Native.Nat.{ℕ, ◌*◌}
use mathlib.Core.Path.{◌≡◌, sym, ap, ap₂, ◌∙◌}
use mathlib.Core.Logic.{⊎_elim}
use mathlib.Core.Bool.{true, false}
use mathlib.Core.List.{List}
use lib.Dec.{ltb}
use lib.Ieee.{Float}
use lib.ListN.{length}
use borrow.Author.Tests.{ltb-true}
use Rattle.lists.specs.Choice.{◌if◌else◌}
use Rattle.lists.proofs.Tests.{tell}
use Rattle.rules.specs.Image.{snakes_in, well_formed}
use Rattle.rules.specs.Says.{Says, seen, lent, by_table}
use Rattle.rules.specs.Calls.{observe_says}
use Rattle.rules.specs.Promises.{Observes}
use Rattle.rules.proofs.Facts.{sound}
use Rattle.rules.proofs.Faults.{image_on}
use Rattle.rules.specs.Seen.{Alike, DifferOnly, SameSeen}
use Rattle.rules.proofs.View.{same_view, alike}
use Rattle.rules.specs.declared.refusal.Refusal.TheVariants as Refusal

module _ (w v : List ℕ) (a : ℕ) (p : well_formed w ≡ true) (q : well_formed v ≡ true) (k : Alike w v a) where
  inside_says : (room : ℕ) → ltb a (snakes_in w) ≡ true → observe_says w a room ≡ observe_says v a room
  unfolding observe_says by_table
  inside_says room t =
      let u : ltb a (snakes_in v) ≡ true = ap (ltb a) (sym k.snakes) ∙ t in
      image_on w _ _ p
      ∙ rw (t, u)
      (ap₂ (λ (g : ℕ) (x : List Float). Err Refusal.Buffer if ltb room (5 * (g * g)) else Ok x) k.side (same_view w v a (ltb-true a (snakes_in w) t) k))
      ∙ sym (image_on v _ _ q)

  outside_says : (room : ℕ) → ltb a (snakes_in w) ≡ false → observe_says w a room ≡ observe_says v a room
  unfolding observe_says by_table
  outside_says room t = let u : ltb a (snakes_in v) ≡ false = ap (ltb a) (sym k.snakes) ∙ t in image_on w _ _ p ∙ (rw (t, u)) ∙ sym (image_on v _ _ q)

  same_says : (room : ℕ) → observe_says w a room ≡ observe_says v a room
  same_says room = ⊎_elim (inside_says room) (outside_says room) (tell (ltb a (snakes_in w)))

module _ (w v : List ℕ) (a : ℕ) (p : well_formed w ≡ true) (q : well_formed v ≡ true)
    (old new new' : List Float) (r r' : Says ℕ) (x : Observes w a old new r) (y : Observes v a old new' r') where
  -- of images alike in side, number of snakes, bodies, food and the agent's own heading
  pub same_seen : Alike w v a → SameSeen new new' r r'
  same_seen k =
      let e = same_says w v a p q k (length old) in
      record {
        answers = (x.answer ∙ ap (seen (λ v. length v)) e ∙ sym y.answer);
        numbers = x.numbers ∙ ap (lent (λ v. v) old) e ∙ sym y.numbers;
      }

  -- of images 'that differ only in other snakes' headings, alive flags, food due or birth'
  pub hidden_unseen : DifferOnly w v a → SameSeen new new' r r'
  hidden_unseen k = same_seen (alike w v a (sound w p) k)
