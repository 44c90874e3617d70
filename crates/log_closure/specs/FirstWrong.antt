-- The first wrong event, computed.
use Rattle.std.specs.Prelude.{ℕ, ◌+◌, Bool, false, ◌||◌, if◌then◌else◌, ◌==◌, max, List, [], ◌∷◌, ◌++◌, Option, Some, None}
use Rattle.run_events.specs.declared.event.EventName.{EventName}
use Rattle.log_closure.specs.declared.tie.Tie.{Tie}
use Rattle.log_closure.specs.declared.error.OrderError.{OrderError}
use Rattle.log_closure.specs.declared.error.OrderError.TheVariants.{Twice, Missing, Clock}
use Rattle.log_closure.specs.Events.{LogEvent}
use Rattle.log_closure.specs.Ties.{listed, ties, keys, keys_of, needs}

-- one of the keys stands before it
abbrev pub repeats : List Tie → List Tie → Bool
repeats before [] = false
repeats before (k ∷ ks) = listed before k || repeats (before ++ k ∷ []) ks

-- the clock of the first event of the file that has the tie
abbrev pub clock_at : List LogEvent → Tie → Option ℕ
clock_at [] t = None
clock_at (e ∷ es) t = if listed (ties e) t then Some e.entry.clock else clock_at es t

abbrev pub both : Option ℕ → Option ℕ → Option ℕ
both None r = None
both (Some c) None = None
both (Some c) (Some d) = Some (max c d)

-- the greatest of the clocks that stand at these ties, if each has one, and 0 where there are no ties
abbrev pub greatest : (Tie → Option ℕ) → List Tie → Option ℕ
greatest at [] = Some 0
greatest at (s ∷ ss) = both (at s) (greatest at ss)

-- what is wrong with the clock, where the greatest before is this one
abbrev pub clock_wrong : Bool → EventName → ℕ → Option ℕ → Option OrderError
clock_wrong whole name clock None = if whole then Some (Missing name) else None
clock_wrong whole name clock (Some c) = if clock == (c + 1) then None else Some (Clock name)

-- what is wrong with the event
abbrev pub wrong : Bool → List LogEvent → List LogEvent → LogEvent → Option OrderError
wrong whole all before e = if repeats (keys_of before) (keys e) then Some (Twice e.name)
    else clock_wrong whole e.name e.entry.clock (greatest (clock_at all) (needs (ties e)))

abbrev pub or_else : {A : Type 0} → Option A → Option A → Option A
or_else None r = r
or_else (Some x) r = Some x

-- what is wrong with the first event that does not fit, of those after `before`
abbrev pub first_wrong : Bool → List LogEvent → List LogEvent → List LogEvent → Option OrderError
first_wrong whole all before [] = None
first_wrong whole all before (e ∷ es) = or_else (wrong whole all before e)
    (first_wrong whole all (before ++ e ∷ []) es)

-- the place of the first event that repeats a key, of those after `before`, which begin at n
abbrev pub first_twice : ℕ → List LogEvent → List LogEvent → Option ℕ
first_twice n before [] = None
first_twice n before (e ∷ es) = if repeats (keys_of before) (keys e) then Some n
    else first_twice (n + 1) (before ++ e ∷ []) es
