-- What is kept of a run.
use Rattle.std.specs.Prelude.{◌≡◌, ℕ, ◌<◌, Bool, false, ◌||◌, List, [], Option, None, get_or, length}
use Rattle.run_events.specs.declared.key.Class.TheVariants.{Callback}
use Rattle.run_events.specs.declared.key.Key.{Key}
use Rattle.marks.specs.Places.{thread_count}
use Rattle.replay_runs.specs.Keys.{key}

-- by function, whether it is registered, and of each thread the index of its last return of the function
pub record KeptState : Type 0 where
  pub registered : List Bool
  pub returned : List (List (Option ℕ))

-- the index that is kept of a thread and a function
abbrev pub kept_of : List (List (Option ℕ)) → (thread func : ℕ) → Option ℕ
kept_of rows t f = get_or (get_or rows f []) t None

-- each function has a place for each thread
abbrev pub AreWide : List (List (Option ℕ)) → Type 0
AreWide rows = (f : ℕ) → f < length rows → length (get_or rows f []) ≡ thread_count

-- what holds of each state
pub record IsSound (s : KeptState) : Type 0 where
  pub functions : length s.returned ≡ length s.registered
  pub threads : AreWide s.returned

-- of so many functions no return is kept
pub record AreBlank (n : ℕ) (rows : List (List (Option ℕ))) : Type 0 where
  pub functions : length rows ≡ n
  pub threads : AreWide rows
  pub none : (t f : ℕ) → kept_of rows t f ≡ None

-- a function is registered now where it was, or where it has one of these keys
pub record AreRegistered (is_key : Key → Bool) (old new : List Bool) : Type 0 where
  pub functions : length new ≡ length old
  pub are : (f : ℕ) → f < length old → get_or new f false ≡ (get_or old f false || is_key (key Callback f))
