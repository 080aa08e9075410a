-- The replay's output, as bytes (01, 'Replay': 'Each line prints'). Assumes nothing.
use Rattle.std.specs.Prelude.{ℕ, zero, suc, ◌+◌, ◌/◌, ◌%◌, ◌≤◌, ◌≡◌, Bool, cond, List, [], ◌∷◌, ◌++◌, ltb, eqb, length, get_or, Option, Some, None}
use Rattle.lists.specs.Choice.{◌if◌else◌, bit}
use Rattle.lists.specs.Below.{concat_below}
use Rattle.lists.specs.Lists.{write_at}
use Rattle.rules.specs.State.{Snake, State, count, snake_of}
use Rattle.rules.specs.Events.{dies, blank}
use Rattle.rules.specs.declared.Cause.{Cause}
use Rattle.rules.specs.declared.Cause.TheVariants.{Wall, SelfBody, OppBody, HeadOn}
use Rattle.rules.specs.declared.Event.{Event}

-- n in decimal, of at most k digits
unfoldable pub digits_up_to : ℕ → ℕ → List ℕ
digits_up_to zero n = []
digits_up_to (suc k) n = let r = digits_up_to k (n / 10) in cond (ltb n 10) ((48 + n) ∷ []) (r ++ ((48 + n % 10) ∷ []))

-- a number below 2^64 has at most twenty digits
abbrev pub decimal_text : ℕ → List ℕ
decimal_text n = digits_up_to 20 n

abbrev pub digit_of : Bool → ℕ
digit_of b = 48 + bit b

-- a letter where a flag is set
abbrev pub one : Bool → ℕ → List ℕ
one b l = l ∷ [] if b else []

-- W, S, O, H
abbrev pub letter_of : Option Cause → ℕ
letter_of None = 0
letter_of (Some Wall) = 87
letter_of (Some SelfBody) = 83
letter_of (Some OppBody) = 79
letter_of (Some HeadOn) = 72

-- 'letters in the order a (ate), W/S/O/H, k,
unfoldable pub deeds_text : Event → List ℕ
deeds_text e = one e.ate_food 97 ++ one (dies e.death_cause) (letter_of e.death_cause) ++ one e.killed_opponent 107

-- w, l, x (drew), y (survived),
unfoldable pub ends_text : Event → List ℕ
ends_text e = one e.won 119 ++ one e.lost 108 ++ one e.drew 120 ++ one e.survived_to_max_ticks 121

-- `-` if none'
abbrev pub or_dash : List ℕ → List ℕ
or_dash [] = 45 ∷ []
or_dash (b ∷ s) = b ∷ s

unfoldable pub events_text : Event → List ℕ
events_text e = or_dash (deeds_text e ++ ends_text e)

-- 'first cell (`-` if none)'
abbrev pub first_text : ℕ → ℕ → List ℕ
first_text size cell = 45 ∷ [] if eqb size 0 else decimal_text cell

-- alive, length and first cell, after a space
unfoldable pub body_text : Bool → ℕ → ℕ → List ℕ
body_text alive size cell = (32 ∷ digit_of alive ∷ []) ++ (58 ∷ decimal_text size) ++ (58 ∷ first_text size cell)

-- 'per snake alive:length:first cell (`-` if none):events'
unfoldable pub snake_text : Snake → Event → List ℕ
snake_text z e = body_text z.alive (length z.body) (get_or z.body 0 0) ++ (58 ∷ []) ++ events_text e

-- 'letter (`i` first), terminal, due, food count'
unfoldable pub head_text : ℕ → Bool → ℕ → ℕ → List ℕ
head_text letter over due food = (letter ∷ []) ++ (32 ∷ digit_of over ∷ []) ++ (32 ∷ decimal_text due) ++ (32 ∷ decimal_text food)

-- the line of a state and its events; each line ends with a newline
unfoldable pub line_text : ℕ → Bool → State → List Event → List ℕ
line_text letter over t es =
    head_text letter over t.due (length t.food) ++ concat_below (count t) (λ i. snake_text (snake_of t i) (get_or es i blank)) ++ (10 ∷ [])

-- 'A refusal prints `r` and its number'
unfoldable pub refusal_text : ℕ → List ℕ
refusal_text k = (114 ∷ []) ++ (32 ∷ decimal_text k) ++ (10 ∷ [])

-- '`p` and each place'
abbrev pub placing_text : List ℕ → ℕ → List ℕ
placing_text ps i = 32 ∷ decimal_text (get_or ps i 0)

unfoldable pub placings_text : List ℕ → ℕ → List ℕ
placings_text ps n = (112 ∷ []) ++ concat_below n (placing_text ps) ++ (10 ∷ [])

-- ---- what a writer does

-- the bytes s went into d at `at`, and r is the index after them: `Written` of lists, with what a chain of writers asks of the next: that
-- they are at most `most`, and that the buffer is as long as before
pub record Wrote (d e : List ℕ) (at r : ℕ) (s : List ℕ) (most : ℕ) : Type 0 where
  pub words : e ≡ write_at d at s
  pub next : r ≡ at + length s
  pub near : r ≤ at + most
  pub long : length e ≡ length d
