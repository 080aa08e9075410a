use mathlib.Core.Path.{◌≡◌, ap, ◌∙◌}
use mir.Syntax.{w32}
use mir.Val.{to_z, of_z}
use borrow.Author.Rules.{rules}
use Rattle.rules.specs.Setting.{side_of}
use Rattle.placement.proofs.Apart.{apart_check}
use Rattle.placed.proofs.place.check_places.Goals as goal

pub returns-then-size-span : goal.returns-then-size-span
returns-then-size-span c =
    let s = c.args.setting in
    let e : to_z w32 (of_z w32 s.grid_size) ≡ s.grid_size = search rules in
    c.check_food.ensures ∙ apart_check s c.requires _ (c.side_of-g.ensures ∙ ap side_of e) _ c.span.ensures c.if-size-span.true
