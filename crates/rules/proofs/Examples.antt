-- Document 01's twelve examples hold of the definitions: one statement, by computation. So do the rows of the second table. Assumes nothing.
use mathlib.Core.Path.{refl}
use lib.Ieee.{of_bits, of_int, add}
use Rattle.lists.specs.Below.{all_below, some_below, count_below, each_below, concat_below, lowest_from}
use Rattle.lists.specs.Lists.{any, keep, member, insert, without, place}
use Rattle.lists.specs.Products.{falling}
use Rattle.rules.specs.Placement.{unblocked, trail, placed}
use Rattle.rules.specs.Setting.{bad_cell, setting_check}
use Rattle.rules.specs.Step.{cause_of, transition_of, stepped}
use Rattle.rules.specs.Chance.{free_from, free, outcomes, digits, pick, drawn_from, drawn, rank_in, rank_of}
use Rattle.rules.specs.LengthKey.{sorted, folded, length_key}
use Rattle.rules.specs.Reward.{reward_of}
use Rattle.rules.specs.Examples.{EachHolds, the_twelve, the_others}
use Rattle.rules.specs.Tables.{fault}

pub examples_hold : EachHolds the_twelve
unfolding all_below some_below count_below each_below concat_below lowest_from any keep member insert without place falling unblocked trail placed bad_cell setting_check cause_of transition_of stepped free_from free outcomes digits pick drawn_from drawn rank_in rank_of sorted folded length_key the_twelve fault
examples_hold =
    ((refl, refl), (refl, ((refl, refl), (refl, (refl, (refl, (refl, ((refl, refl, refl, refl), ((refl, refl, refl, refl), (refl, (refl, (refl, (refl, (refl, tt))))))))))))))

pub more_hold : EachHolds the_others
unfolding some_below count_below each_below lowest_from keep member cause_of transition_of stepped reward_of of_bits of_int add the_others
more_hold = (refl, (refl, (refl, (refl, (refl, tt)))))
