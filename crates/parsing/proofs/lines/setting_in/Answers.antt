use mathlib.Core.Path.{sym, ◌∙◌}
use borrow.Author.Rules.{rules}
use Rattle.parsing.specs.Lines.{setting_in}
use Rattle.parsing.proofs.lines.setting_in.Goals as goal

pub returns-in_err-number_at : goal.returns-in_err-number_at
unfolding setting_in
returns-in_err-number_at c = c.from_residual.ensures ∙ rw (sym c.number_at.ensures ∙ c.in_err-number_at.was)

pub returns-in_err-grid_at : goal.returns-in_err-grid_at
unfolding setting_in
returns-in_err-grid_at c = c.from_residual-in_err-grid_at.ensures ∙ rw (sym c.number_at.ensures ∙ c.in_ok-number_at.was, sym c.grid_at.ensures ∙ c.in_err-grid_at.was)

pub returns-in_err-number_at-2 : goal.returns-in_err-number_at-2
unfolding setting_in
returns-in_err-number_at-2 c = c.from_residual-in_err-number_at-2.ensures ∙ rw (sym c.number_at.ensures ∙ c.in_ok-number_at.was, sym c.grid_at.ensures ∙ c.in_ok-grid_at.was, sym c.number_at-2.ensures ∙ c.in_err-number_at-2.was)

pub returns-in_err-flag_at : goal.returns-in_err-flag_at
unfolding setting_in
returns-in_err-flag_at c = c.from_residual-in_err-flag_at.ensures ∙ rw (sym c.number_at.ensures ∙ c.in_ok-number_at.was, sym c.grid_at.ensures ∙ c.in_ok-grid_at.was, sym c.number_at-2.ensures ∙ c.in_ok-number_at-2.was, sym c.flag_at.ensures ∙ c.in_err-flag_at.was)

pub returns-in_err-bound_at : goal.returns-in_err-bound_at
unfolding setting_in
returns-in_err-bound_at c = c.from_residual-in_err-bound_at.ensures ∙ rw (sym c.number_at.ensures ∙ c.in_ok-number_at.was, sym c.grid_at.ensures ∙ c.in_ok-grid_at.was, sym c.number_at-2.ensures ∙ c.in_ok-number_at-2.was, sym c.flag_at.ensures ∙ c.in_ok-flag_at.was, sym c.bound_at.ensures ∙ c.in_err-bound_at.was)

pub returns-in_err-number_at-3 : goal.returns-in_err-number_at-3
unfolding setting_in
returns-in_err-number_at-3 c = c.from_residual-in_err-number_at-3.ensures ∙ rw (sym c.number_at.ensures ∙ c.in_ok-number_at.was, sym c.grid_at.ensures ∙ c.in_ok-grid_at.was, sym c.number_at-2.ensures ∙ c.in_ok-number_at-2.was, sym c.flag_at.ensures ∙ c.in_ok-flag_at.was, sym c.bound_at.ensures ∙ c.in_ok-bound_at.was, sym c.number_at-3.ensures ∙ c.in_err-number_at-3.was)

pub returns-in_err-bound_at-2 : goal.returns-in_err-bound_at-2
unfolding setting_in
returns-in_err-bound_at-2 c = c.from_residual-in_err-bound_at-2.ensures ∙ rw (sym c.number_at.ensures ∙ c.in_ok-number_at.was, sym c.grid_at.ensures ∙ c.in_ok-grid_at.was, sym c.number_at-2.ensures ∙ c.in_ok-number_at-2.was, sym c.flag_at.ensures ∙ c.in_ok-flag_at.was, sym c.bound_at.ensures ∙ c.in_ok-bound_at.was, sym c.number_at-3.ensures ∙ c.in_ok-number_at-3.was, sym c.bound_at-2.ensures ∙ c.in_err-bound_at-2.was)

pub returns : goal.returns
unfolding setting_in
returns c = rw (sym c.number_at.ensures ∙ c.in_ok-number_at.was, sym c.grid_at.ensures ∙ c.in_ok-grid_at.was, sym c.number_at-2.ensures ∙ c.in_ok-number_at-2.was, sym c.flag_at.ensures ∙ c.in_ok-flag_at.was, sym c.bound_at.ensures ∙ c.in_ok-bound_at.was, sym c.number_at-3.ensures ∙ c.in_ok-number_at-3.was, sym c.bound_at-2.ensures ∙ c.in_ok-bound_at-2.was) (search rules)
