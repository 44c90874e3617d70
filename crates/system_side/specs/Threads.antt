-- Threads: where each stands, and which may step.
use Rattle.std.specs.Prelude.{◌≡◌, ℕ, ◌-◌, ◌<◌, ◌≤◌, ℤ, pos, negsuc, Bool, true, false, List, ◌++◌, length, Option, Some, None, if◌then◌else◌}
use Rattle.std.specs.List.{slice_get, range_with_len}
use Rattle.std.specs.Int.{bit_at}
use Rattle.std.specs.Ordering.{int_eq}
use Rattle.system_side.specs.declared.threads.Wait.{Wait}
use Rattle.system_side.specs.declared.threads.Wait.TheVariants.{Mutex, Thread}
use Rattle.system_side.specs.declared.threads.Standing.{Standing}
use Rattle.system_side.specs.declared.threads.Standing.TheVariants.{Ready, Waits, Ended}

-- whether both wait for one mutex, or for the end of one thread
abbrev pub same_wait : Wait → Wait → Bool
same_wait (Mutex m) (Mutex n) = int_eq m n
same_wait (Thread t) (Thread u) = int_eq t u
same_wait _ _ = false

abbrev pub waits_for : Wait → Standing → Bool
waits_for wait Ready = false
waits_for wait (Waits other) = same_wait other wait
waits_for wait (Ended value) = false

-- where a thread stands once what may be waited for has come
abbrev pub woken : Wait → Standing → Standing
woken wait standing = if waits_for wait standing then Ready else standing

-- where a thread stands, if it was started
abbrev pub standing_of : List Standing → ℤ → Option Standing
standing_of threads (pos t) = slice_get threads t
standing_of threads (negsuc _) = None

abbrev pub may_step : Standing → Bool
may_step Ready = true
may_step (Waits _) = false
may_step (Ended _) = false

abbrev pub is_running : Standing → Bool
is_running Ready = true
is_running (Waits _) = true
is_running (Ended _) = false

abbrev pub holds_of : (Standing → Bool) → Option Standing → Bool
holds_of test None = false
holds_of test (Some standing) = test standing

-- the thread was started, hasn't ended and isn't blocked
abbrev pub is_ready : List Standing → ℕ → Bool
is_ready threads t = holds_of may_step (slice_get threads t)

-- the thread was started and hasn't ended
abbrev pub has_not_ended : List Standing → ℕ → Bool
has_not_ended threads t = holds_of is_running (slice_get threads t)

-- the order in which threads are looked at for a wish
abbrev pub order_of : ℕ → List ℕ
order_of wish = range_with_len wish (32 - wish) ++ range_with_len 0 wish

-- the result of a thread; -1 of one that wasn't started
abbrev pub result_of : Option Standing → Option ℤ
result_of None = Some (negsuc 0)
result_of (Some Ready) = None
result_of (Some (Waits _)) = None
result_of (Some (Ended value)) = Some value

-- what a thread is answered that joins another: -1 where it is itself
abbrev pub joined : List Standing → ℕ → ℤ → Option ℤ
joined threads thread t = if int_eq t (pos thread) then Some (negsuc 0) else result_of (standing_of threads t)

abbrev pub bit : Bool → ℕ
bit true = 1
bit false = 0

-- the mask has the bits of the threads that may step
pub record HasBits (mask : ℕ) (threads : List Standing) : Type 0 where
  pub at : (t : ℕ) → t < 32 → bit_at mask t ≡ bit (is_ready threads t)

-- threads with room for 32, and the mask of those that may step
pub record IsKept (room mask : ℕ) (threads : List Standing) : Type 0 where
  pub enough_room : 32 ≤ room
  pub few : length threads ≤ 32
  pub bits : HasBits mask threads
