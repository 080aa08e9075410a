-- Causes of death and events. Assumes nothing.
use Rattle.std.specs.Prelude.{◌-◌, Bool, true, false, List, ◌++◌, length, replicate, Option, Some, None}
use Rattle.rules.specs.declared.Cause.{Cause}
use Rattle.rules.specs.declared.Cause.TheVariants.{Wall, SelfBody, OppBody, HeadOn}
use Rattle.rules.specs.declared.Event.{Event}

abbrev pub dies : Option Cause → Bool
dies None = false
dies (Some Wall) = true
dies (Some SelfBody) = true
dies (Some OppBody) = true
dies (Some HeadOn) = true

abbrev pub by_body : Option Cause → Bool
by_body None = false
by_body (Some Wall) = false
by_body (Some SelfBody) = false
by_body (Some OppBody) = true
by_body (Some HeadOn) = false

abbrev pub blank : Event
blank = record { ate_food = false; died = false; death_cause = None; killed_opponent = false; won = false; lost = false; drew = false; survived_to_max_ticks = false }

-- 'Event entries from n on are blank'
abbrev pub eight : List Event → List Event
eight es = es ++ replicate (8 - length es) blank
