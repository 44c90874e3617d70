-- The classes of keys: the number that logs hold, and the word that is printed.
use Rattle.std.specs.Prelude.{ℕ, List, codes}
use Rattle.run_events.specs.declared.key.Class.{Class}
use Rattle.run_events.specs.declared.key.Class.TheVariants.{Mutex, User, Callback, Thread, Pool, Out, Async}

-- the number of a class
abbrev pub number_of : Class → ℕ
number_of Mutex = 1
number_of User = 2
number_of Callback = 3
number_of Thread = 4
number_of Pool = 5
number_of Out = 6
number_of Async = 7

-- the word of a class
abbrev pub word_of : Class → List ℕ
word_of Mutex = codes "mutex"
word_of User = codes "user"
word_of Callback = codes "callback"
word_of Thread = codes "thread"
word_of Pool = codes "pool"
word_of Out = codes "out"
word_of Async = codes "async"
