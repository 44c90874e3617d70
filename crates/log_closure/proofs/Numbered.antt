-- No event has a name twice.
use Rattle.std.specs.Prelude.{map, ◌≡◌, ◌<◌, false, List, [], ◌∷◌, ◌++◌}
use Rattle.log_closure.specs.declared.tie.Tie.{Tie}
use Rattle.log_closure.specs.Events.{LogEvent, In}
use Rattle.log_closure.specs.Ties.{listed, keys, thread_tie}

-- no event before has its thread's tie, and no key has the class of threads
abbrev pub Numbered : List LogEvent → List LogEvent → Type 0
Numbered before [] = Unit {0}
Numbered before (e ∷ es) = (listed (map thread_tie before) (thread_tie e) ≡ false) × ((k : Tie) → In k (keys e) → 0 < k.class) × Numbered (before ++ e ∷ []) es
