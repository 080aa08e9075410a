-- Not held: nothing; held: at its place.
use mathlib.Core.Path.{sym, ◌∙◌}
use Rattle.lists.proofs.Search.{found_none, found_at, found_position}
use Rattle.lists.proofs.find.Goals as goal

pub returns-then-not-holds : goal.returns-then-not-holds
returns-then-not-holds c = sym (found_none _ _ (sym c.holds.ensures ∙ c.if-not-holds.true))

pub returns : goal.returns
returns c =
    let a = c.args in
    let h = sym c.holds.ensures ∙ c.if-not-holds.false in
    c.place_of.ensures ∙ found_position a.x a.list.now h ∙ sym (found_at _ _ h)
