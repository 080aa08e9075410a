-- Places: a row and a column as integers, since a head may leave the grid ('Off-grid heads: signed pairs, until judged'). Assumes nothing.
use Rattle.std.specs.Prelude.{ℕ, ◌+◌, ◌*◌, ◌/◌, ◌%◌, Bool, false, ◌&&◌, eqb, ℤ, pos, negsuc, nat_abs}
use Rattle.std.proofs.Math.IntN.{suc_ℤ, pred_ℤ}
use Rattle.std.specs.Int.Signed.{le_z, lt_z}
use Rattle.lists.specs.Choice.{◌if◌else◌}
use Rattle.rules.specs.declared.Place.{Place}
use Rattle.rules.specs.declared.Heading.{Heading}
use Rattle.rules.specs.declared.Heading.TheVariants.{Up, Right, Down, Left}

-- the neighbour of a place
abbrev pub ahead : Heading → Place → Place
ahead Up p = record { row = pred_ℤ p.row; col = p.col }
ahead Right p = record { row = p.row; col = suc_ℤ p.col }
ahead Down p = record { row = suc_ℤ p.row; col = p.col }
ahead Left p = record { row = p.row; col = pred_ℤ p.col }

abbrev pub within : ℤ → ℤ → Bool
within g x = le_z (pos 0) x && lt_z x g

-- `in_bounds`
abbrev pub inside : ℤ → Place → Bool
inside g p = within g p.row && within g p.col

abbrev pub same_z : ℤ → ℤ → Bool
same_z (pos a) (pos b) = eqb a b
same_z (pos a) (negsuc b) = false
same_z (negsuc a) (pos b) = false
same_z (negsuc a) (negsuc b) = eqb a b

abbrev pub same : Place → Place → Bool
same p q = same_z p.row q.row && same_z p.col q.col

-- 'Cell = row·g + column'; 0 off the grid, where no rule asks for it
abbrev pub cell_of : ℕ → Place → ℕ
cell_of g p = nat_abs p.row * g + nat_abs p.col if inside (pos g) p else 0

abbrev pub place_of : ℕ → ℕ → Place
place_of g c = record { row = pos (c / g); col = pos (c % g) }
