-- `bounds::too_many` meets its contract: a product that does not fit is above the limit (`fitted_above`). Assumes nothing.
use Rattle.std.proofs.Common.{arith, sym, ap, ltb, ◌∙◌}
use Rattle.lists.specs.Products.{falling}
use Rattle.lists.proofs.Fitted.{fitted_above, fitted_is}
use Rattle.bounds.proofs.numbers.too_many.Goals as goal

pub returns-in-Some : goal.returns-in-Some
returns-in-Some c = ap (ltb 9007199254740992) (fitted_is (falling c.args.area c.args.k) c.in-Some.product (sym c.product.ensures ∙ c.in-Some.is))

pub returns-in-None : goal.returns-in-None
returns-in-None c = sym (fitted_above (falling c.args.area c.args.k) (sym c.product.ensures ∙ c.in-None.is) 9007199254740992 (omega arith))
