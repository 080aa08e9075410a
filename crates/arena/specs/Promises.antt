-- The promises of the calls and what they cite, handed on: who calls the arena cites them here. Assumes nothing.
pub use Rattle.rules.specs.Promises.{Turns, Checks, Examines, Validates, Starts, Steps, Strikes, Observes, Counts, Draws, Ranks, ActsNext, Allows, Keys, Truncates, Rewards, ObservationSpace, ActionSpace, Parts}
pub use Rattle.rules.specs.Calls.{setting_says, image_says, initial_says, step_says, struck_says, observe_says, count_says, Draw, draw_says, rank_says, actor_says, legal_says, key_says, truncation_says, reward_says, space_says, action_says, body_asked}
pub use Rattle.rules.specs.Says.{Says, seen, beside, lent, chance_of, actions_of, Shape, box, discrete, shape_of}
pub use Rattle.rules.specs.Headings.{turned}
pub use Rattle.rules.specs.Events.{blank, eight}
pub use Rattle.rules.specs.Struck.{no_hit}
pub use Rattle.rules.specs.Image.{image_of, well_formed}
pub use Rattle.unit.specs.Promises.{Chooses}
pub use Rattle.unit.specs.Calls.{outcome_says}
pub use Rattle.image.specs.Memory.{word_place, start_asked}
