-- Which runs the state stands for.
use Rattle.std.specs.Prelude.{◌≡◌, ℕ, ◌<◌, Bool, true, false, List, [], ◌∷◌, map, Option, get_or, length}
use Rattle.run_events.specs.declared.event.Record.{Record}
use Rattle.run_events.specs.declared.key.Key.{Key}
use Rattle.run_events.specs.declared.key.KeyMark.{KeyMark}
use Rattle.marks.specs.Places.{thread_count}
use Rattle.marks.specs.Ranges.{Piece}
use Rattle.marks.specs.Marks.{Commit, Ret, Event, Made, Mark}
use Rattle.marks.specs.Bytes.{Byte}
use Rattle.replay_runs.specs.Runs.{marks_of}
use Rattle.replay_runs.specs.Interface.{Interface}
use Rattle.replay_runs.specs.Threads.{last_return, same_return}
use Rattle.replay_runs.specs.Pool.{is_call_event, is_registered}
use Rattle.replay_runs.specs.Laws.{fresh}
use Rattle.steps_above_interface.specs.State.{KeptState, kept_of}
use Rattle.steps_above_interface.specs.Returns.{ShowReturns, last_index}

-- the state is that after these marks, from a start at which nothing was done: of functions with `cache` the
-- last returns are kept
pub record IsStateOf (i : Interface) (memory : ℕ → Byte) (past : List Mark) (s : KeptState) : Type 0 where
  pub registered : (f : ℕ) → f < length s.registered →
      get_or s.registered f false ≡ is_registered (fresh memory) f past
  pub returned : (t f : ℕ) → t < thread_count → f < length s.registered → i.is_cached f ≡ true →
      kept_of s.returned t f ≡ last_index f (marks_of (fresh memory) t past)

-- no mark was made
abbrev pub Begins : KeptState → Type 0
Begins s = (i : Interface) (memory : ℕ → Byte) → IsStateOf i memory [] s

-- whatever run the state is of, that is whether the function is registered in it
abbrev pub AnswersRegistered : KeptState → (func : ℕ) → Bool → Type 0
AnswersRegistered s f answer = (i : Interface) (memory : ℕ → Byte) (past : List Mark) →
    IsStateOf i memory past s → answer ≡ is_registered (fresh memory) f past

-- and that is the index of the thread's last return of the function, which has `cache`
abbrev pub AnswersLast : KeptState → (thread func : ℕ) → Option ℕ → Type 0
AnswersLast s t f answer = (i : Interface) (memory : ℕ → Byte) (past : List Mark) →
    IsStateOf i memory past s → i.is_cached f ≡ true →
    answer ≡ last_index f (marks_of (fresh memory) t past)

-- the mark is a Call with these keys
pub record IsCallWith (keys : List Key) (m : Mark) : Type 0 where
  pub event : Event
  pub act : m.act ≡ Made event
  pub call : is_call_event event.kind ≡ true
  pub keys_are : map (λ (q : KeyMark). q.key) event.keys ≡ keys

-- whatever run the old state is of, the new one is of it with each such Call
abbrev pub CountsCall : List Key → KeptState → KeptState → Type 0
CountsCall keys old new = (i : Interface) (memory : ℕ → Byte) (past : List Mark) (m : Mark) →
    IsCallWith keys m → IsStateOf i memory past old → IsStateOf i memory (m ∷ past) new

-- whatever run the state is of, in which the function has `cache`, and which these records show: that is
-- whether the thread's last return of the function gave the same
abbrev pub AnswersRepeats : KeptState → List Record → (thread func value : ℕ) → List (List ℕ) → Bool → Type 0
AnswersRepeats s records t f value pieces answer = (i : Interface) (memory : ℕ → Byte) (past : List Mark) →
    IsStateOf i memory past s → i.is_cached f ≡ true →
    ShowReturns records (marks_of (fresh memory) t past) →
    answer ≡ same_return (last_return ((fresh memory).returned t f) f (marks_of (fresh memory) t past))
    (record { result = value; bytes = pieces })

-- the mark is a Ret of the function, with this index among the thread's events
pub record IsReturnOf (thread func index : ℕ) (m : Mark) : Type 0 where
  pub of_thread : m.thread ≡ thread
  pub index_is : m.index ≡ index
  pub event : Event
  pub act : m.act ≡ Made event
  pub args : List ℕ
  pub result : ℕ
  pub same : Bool
  pub outs : List Piece
  pub commit : Commit
  pub kind : event.kind ≡ Ret func args result same outs commit

-- whatever run the old state is of, the new one is of it with each such Ret
abbrev pub CountsReturn : (thread func index : ℕ) → KeptState → KeptState → Type 0
CountsReturn t f n old new = (i : Interface) (memory : ℕ → Byte) (past : List Mark) (m : Mark) →
    IsReturnOf t f n m → IsStateOf i memory past old → IsStateOf i memory (m ∷ past) new
