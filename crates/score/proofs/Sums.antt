-- What the reward says by the tests that it makes: one law for each return. Assumes nothing.
use Rattle.std.specs.Prelude.{Ok, Err}
use mathlib.Core.Path.{◌≡◌, sym, ◌∙◌}
use mathlib.Core.Bool.{Bool, true, false, not}
use lib.Ieee.{Float}
use borrow.Author.Tests.{not-true, not-false}
use Rattle.rules.specs.Says.{by_table}
use Rattle.rules.specs.Calls.{reward_says}
use Rattle.rules.specs.Reward.{all_finite, reward_dead, reward_living, reward_of}
use Rattle.rules.specs.declared.Event.{Event}
use Rattle.rules.specs.declared.refusal.Refusal.{Refusal}
use Rattle.rules.specs.declared.Weights.{Weights}

module _ (w : Weights) (e : Event) (b : Bool) (a : b ≡ all_finite w) where
  -- 31: a weight is not finite
  pub reward_31 : not b ≡ true → (x : Refusal) → x ≡ Refusal.Weight → Err x ≡ reward_says w e
  unfolding reward_says by_table
  reward_31 t x r = let f = sym a ∙ not-true b t in rw (r, f)

  module _ (t : not b ≡ false) (k : Float) where
    pub reward_dead_lem : e.died ≡ true → k ≡ reward_dead w e → Ok k ≡ reward_says w e
    unfolding reward_says reward_of by_table
    reward_dead_lem d q = let f = sym a ∙ not-false b t in rw (q, f, d)

    pub reward_living_lem : e.died ≡ false → k ≡ reward_living w e → Ok k ≡ reward_says w e
    unfolding reward_says reward_of by_table
    reward_living_lem d q = let f = sym a ∙ not-false b t in rw (q, f, d)
