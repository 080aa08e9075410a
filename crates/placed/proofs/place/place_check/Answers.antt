use mathlib.Core.Path.{◌≡◌}
use mathlib.Core.Bool.{true, false}
use lib.IntN.{pos}
use lib.Signed.{lt_z}
use mir.Syntax.{w32}
use mir.Val.{to_z, of_z}
use Rattle.rules.proofs.SmallGrids.{small_two, small_less}
use Rattle.rules.proofs.Starts.{grid_two}
use Rattle.placed.proofs.Judging.{judge_small}
use borrow.Author.Rules.{rules}
use Rattle.placed.proofs.place.place_check.Goals as goal

pub returns-then-grid-lt2 : goal.returns-then-grid-lt2
returns-then-grid-lt2 c =
    let s = c.args.setting in
    let p = c.requires.limited in
    let e : to_z w32 (of_z w32 s.grid_size) ≡ s.grid_size = search rules in
    let h : lt_z s.grid_size (pos 2) ≡ true = rw e at c.if-grid-lt2.true in
    judge_small _ _ _ _ _ _ (small_less s.num_snakes s.initial_food_count p.snakes_min p.snakes_max s.grid_size s.initial_length p.size_min h) c.beyond.ensures

pub returns-then-grid-lt3 : goal.returns-then-grid-lt3
returns-then-grid-lt3 c =
    let s = c.args.setting in
    let p = c.requires.limited in
    let e : to_z w32 (of_z w32 s.grid_size) ≡ s.grid_size = search rules in
    let h : lt_z s.grid_size (pos 2) ≡ false = rw e at c.if-grid-lt2.false in
    let k : lt_z s.grid_size (pos 3) ≡ true = rw e at c.if-grid-lt3.true in
    judge_small _ _ _ _ _ _ (small_two s.num_snakes s.initial_food_count p.snakes_min p.snakes_max s.grid_size s.initial_length p.size_min (grid_two s.grid_size h k)) c.beyond-then-grid-lt3.ensures
