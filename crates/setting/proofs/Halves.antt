-- The halves of the check put together. Assumes nothing.
use Rattle.std.specs.Prelude.{Ok, Err}
use Prim.Native.Nat.{ℕ}
use native.Mathlib.Omega.{arith}
use mathlib.Core.Path.{◌≡◌, sym, ap, ◌∙◌}
use mathlib.Core.List.{List}
use Rattle.rules.specs.Calls.{setting_says}
use Rattle.rules.specs.SettingParts.{limits_says, place_says}
use Rattle.rules.specs.Says.{Says}
use Rattle.rules.specs.Promises.{Validates}
use Rattle.rules.specs.declared.Setting.{Setting}
use Rattle.rules.specs.declared.refusal.Refusal.{Refusal}
use Rattle.rules.proofs.Tables.{and_then}
use Rattle.rules.proofs.SettingParts.{check_parts}
use Rattle.placed.specs.Tested.{Tested}

refused_none : {k : Refusal} → ◌≡◌ {A = Says (Unit {0})} (Err k) (Ok tt) → ⊥
refused_none e = let z : ◌≡◌ {A = ℕ} 0 1 = cc in omega arith

module _ (s : Setting) (r : Says (Unit {0})) (e : r ≡ limits_says s) where
  abbrev second : Says (Unit {0})
  second = place_says s.grid_size s.num_snakes s.initial_length s.initial_food_count

  half : (x : Says (Unit {0})) → r ≡ x → setting_says s ≡ and_then x second
  half x q = check_parts s ∙ ap (λ (y : Says (Unit {0})). and_then y second) (sym e ∙ q)

  -- what the first half refuses
  pub refused_first : (k : Refusal) → r ≡ Err k → Err k ≡ setting_says s
  refused_first k q = sym (half (Err k) q)

  pub judge_first : (cells old : List ℕ) (k : Refusal) → r ≡ Err k → Tested (setting_says s) cells old old (Err k)
  judge_first cells old k q = record { says = refused_first k q; words = λ z. absurd (refused_none z) }

  -- what the second says where the first refuses nothing
  pub second_says : r ≡ Ok tt → (v : Says (Unit {0})) → v ≡ second → Validates s v
  second_says q v f = record { answer = f ∙ sym (half (Ok tt) q) }

  pub judge_second : (cells old new : List ℕ) → r ≡ Ok tt → (v : Says (Unit {0})) → Tested second cells old new v → Tested (setting_says s) cells old new v
  judge_second cells old new q v j = record { says = j.says ∙ sym (half (Ok tt) q); words = j.words }
