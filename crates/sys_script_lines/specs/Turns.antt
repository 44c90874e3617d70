-- The turns of a schedule.
use Rattle.std.specs.Prelude.{ℕ, ◌-◌, List, Option, Some, None}
use Rattle.std.specs.Option.{option_map, option_and_then}
use Rattle.run_events.specs.declared.event.TheConstants.{LOG_THREADS}
use Rattle.sys_script_lines.specs.Parts.{cut_at}
use Rattle.sys_script_lines.specs.Numbers.{number_in}

-- the number of a thread
abbrev pub thread : List ℕ → Option ℕ
thread text = number_in 0 (LOG_THREADS - 1) text

-- a thread for one step, or, after `*`, for so many
abbrev pub turn_by : List ℕ → Option (List ℕ × List ℕ) → Option (ℕ × ℕ)
turn_by word None = option_map (λ t. (t, 1)) (thread word)
turn_by word (Some halves) = option_and_then (λ t. option_map (λ n. (t, n)) (number_in 1 1000000 halves.1))
    (thread halves.0)

abbrev pub turn : List ℕ → Option (ℕ × ℕ)
turn word = turn_by word (cut_at 42 word)
