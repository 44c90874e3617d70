-- What is open in a thread: as its marks say, and as the place says where it stands in the code.
use Rattle.std.specs.Prelude.{◌≡◌, ◌≢◌, ◌⊎◌, ℕ, ◌+◌, ◌-◌, true, if◌then◌else◌, List, [], ◌∷◌, map, drop, Option, Some, None, is_some}
use Rattle.marks.specs.declared.side.Side.{Side}
use Rattle.marks.specs.declared.side.Side.TheVariants.{Replay, System}
use Rattle.marks.specs.declared.range.Range.{Range}
use Rattle.marks.specs.Ranges.{range}
use Rattle.marks.specs.Marks.{Mark}
use Rattle.marks.specs.Opens.{OpenCall, frames, open_calls, open_ups, is_stop}
use Rattle.marks.specs.Wants.{Want, Outside, Turns, Loads, Stores, Enters, Leaves, Allocs, Frees, Calls, Below, Gives, Returns, CallsBack, UpReturns, Steps, Fails, Answer, answer_to}
use Rattle.c_code.specs.declared.activation.Activation.{Activation}
use Rattle.c_code.specs.declared.activation.Waiting.{Waiting}
use Rattle.c_code.specs.declared.activation.Waiting.TheVariants.{ForValue, ForRet, ForUpRet, ForBelow, ForOutside}
use Rattle.c_code.specs.Machine.{Laid, Config, Going, Under, Entering, Closing, Starting, Done, Lost, take_args}
use Rattle.c_code.specs.Valid.{IsValid}
use Rattle.c_code.specs.Fits.{held_by}
use Rattle.c_code.specs.MarkLists.{Reading, Split, Above, Wants, same_side, replay_part, step, state, want_above}
use Rattle.c_code.specs.Laws.{IsWanted}

-- a call by replay code of a function of the interface, before its return
pub record CallBelow : Type 0 where
  pub func : ℕ
  pub args : List ℕ

-- the frames of replay code and those of system code, the calls below the cut, and the functions that were
-- called back; of
-- each the innermost first
pub record Opens : Type 0 where
  pub above : List Range
  pub below : List Range
  pub calls : List CallBelow
  pub ups : List ℕ

abbrev pub nothing : Opens
nothing = record { above = []; below = []; calls = []; ups = [] }

-- ---- as the marks say

-- the marks below the cut
abbrev pub system_part : List Mark → List Mark
system_part [] = []
system_part (m ∷ ms) = if same_side m.side System then m ∷ system_part ms else system_part ms

abbrev pub call_below : OpenCall → CallBelow
call_below c = record { func = c.func; args = c.args }

-- of a thread with these marks, the newest first
abbrev pub opens_by : List Mark → Opens
opens_by past = record {
  above = frames (replay_part past);
  below = frames (system_part past);
  calls = map call_below (open_calls (replay_part past));
  ups = open_ups (replay_part past);
}

-- of one all of whose marks are above the cut
abbrev pub opens_above : List Mark → Opens
opens_above past = record {
  above = frames past;
  below = [];
  calls = map call_below (open_calls past);
  ups = open_ups past;
}

-- ---- as the place in the code says

abbrev pub added : Side → Side → Range → List Range → List Range
added side on r rs = if same_side on side then r ∷ rs else rs

abbrev pub with_frame : Side → Range → Opens → Opens
with_frame side r o = record {
  above = added Replay side r o.above;
  below = added System side r o.below;
  calls = o.calls;
  ups = o.ups;
}

abbrev pub with_call : ℕ → List ℕ → Opens → Opens
with_call f args o = record {
  above = o.above;
  below = o.below;
  calls =
      record { func = f; args = args } ∷ o.calls;
  ups = o.ups;
}

abbrev pub with_up : ℕ → Opens → Opens
with_up f o = record { above = o.above; below = o.below; calls = o.calls; ups = f ∷ o.ups }

-- a function that is entered has its frame
abbrev pub in_function : Activation → Opens → Opens
in_function a o = with_frame a.side (range a.base a.size) o

abbrev pub taken : Option (List ℕ × List ℕ) → List ℕ
taken (Some t) = t.0
taken None = []

-- the topmost n values, the lowest of them first
abbrev pub topmost : ℕ → List ℕ → List ℕ
topmost n values = taken (take_args n [] values)

-- of what waits, and the values that are kept for it, where `height` has the depth of the evaluation stack
-- before each
-- instruction
abbrev pub opens_waiting : (ℕ → ℕ) → List Waiting → List ℕ → Opens
opens_waiting height [] vs = nothing
opens_waiting height (ForValue a ∷ ws) vs = in_function a
    (opens_waiting height ws (drop (height a.at - 1) vs))
opens_waiting height (ForRet call ∷ ws) vs = in_function call.then
    (with_call call.func (topmost call.args vs)
    (opens_waiting height ws (drop (height call.then.at - 1 + held_by call) vs)))
opens_waiting height (ForUpRet a f ∷ ws) vs =
    with_up f (in_function a (opens_waiting height ws (drop (height a.at - 1) vs)))
opens_waiting height (ForBelow call f ∷ ws) vs =
    with_up f (in_function call.then (with_call call.func (topmost call.args vs)
    (opens_waiting height ws (drop (height call.then.at - 1 + held_by call) vs))))
opens_waiting height (ForOutside f ∷ ws) vs = with_up f (opens_waiting height ws vs)

-- of a thread that stands here; below a call it waits as for the call's return
abbrev pub opens_in : (ℕ → ℕ) → Config → Opens
opens_in height (Going a vs ws) = in_function a (opens_waiting height ws (drop (height a.at) vs))
opens_in height (Under call vs ws) = opens_waiting height (ForRet call ∷ ws) vs
opens_in height (Entering side indirect f args vs ws) = opens_waiting height ws vs
opens_in height (Closing v w vs ws) = opens_waiting height (w ∷ ws) vs
opens_in height (Starting f args) = nothing
opens_in height (Done v) = nothing
opens_in height Lost = nothing

-- ---- the laws

-- a thread begins with its function, and above the cut outside of all functions
abbrev pub Begins : Reading → Config → Type 0
Begins Split (Going a vs ws) = ⊥
Begins Split (Under call vs ws) = ⊥
Begins Split (Entering side indirect f args vs ws) = ⊥
Begins Split (Closing v w vs ws) = ⊥
Begins Split (Starting f args) = Unit {0}
Begins Split (Done v) = ⊥
Begins Split Lost = ⊥
Begins Above (Going a vs ws) = ⊥
Begins Above (Under call vs ws) = ⊥
Begins Above (Entering side indirect f args vs ws) = ⊥
Begins Above (Closing v w vs ws) = ⊥
Begins Above (Starting f args) = ⊥
Begins Above (Done v) = Unit {0}
Begins Above Lost = ⊥

-- each mark answers what is wanted after those before it, or is a Stop
abbrev pub AreAnswers : Reading → Laid → Config → List Mark → Type 0
AreAnswers r l c [] = Unit {0}
AreAnswers r l c (m ∷ past) = (IsWanted (step r l (state r l c past)) m ⊎ (is_stop m.act ≡ true)) ×
    AreAnswers r l c past

-- what is open where a thread stands is what is open by the marks that led it there
abbrev pub MarksAreOpen : Reading → Laid → Type 0
MarksAreOpen r l = (valid : IsValid l.code) (c : Config) (past : List Mark) → Begins r c →
    AreAnswers r l c past → state r l c past ≢ Lost → opens_in valid.height (state r l c past) ≡
    opens_by past

abbrev pub IsFirst : {A : Type 0} → A → List A → Type 0
IsFirst x [] = ⊥
IsFirst x (y ∷ ys) = x ≡ y

abbrev pub frames_on : Side → Opens → List Range
frames_on Replay o = o.above
frames_on System o = o.below

-- what is wanted ends the innermost frame of its side, is below the innermost call, or ends the innermost
-- call back
abbrev pub EndsInnermost : Side → Want → Opens → Type 0
EndsInnermost side Outside o = Unit {0}
EndsInnermost side Turns o = Unit {0}
EndsInnermost side (Loads origin at width) o = Unit {0}
EndsInnermost side (Stores origin at bytes) o = Unit {0}
EndsInnermost side (Enters indirect f args bytes) o = Unit {0}
EndsInnermost side (Leaves at size) o = IsFirst (range at size) (frames_on side o)
EndsInnermost side (Allocs size) o = Unit {0}
EndsInnermost side (Frees at) o = Unit {0}
EndsInnermost side (Calls indirect f args) o = Unit {0}
EndsInnermost side (Below f args) o = IsFirst (record { func = f; args = args }) o.calls
EndsInnermost side (Gives f args) o = IsFirst (record { func = f; args = args }) o.calls
EndsInnermost side (Returns f args v) o = IsFirst (record { func = f; args = args }) o.calls
EndsInnermost side (CallsBack f args bytes) o = Unit {0}
EndsInnermost side (UpReturns f v) o = IsFirst f o.ups
EndsInnermost side (Steps indirect f args) o = Unit {0}
EndsInnermost side (Fails kind) o = Unit {0}

abbrev pub WantsEndInnermost : Reading → Laid → Type 0
WantsEndInnermost r l = IsValid l.code → (c : Config) (past : List Mark) (side : Side) (want : Want) (to :
    Answer → Config) → Begins r c → AreAnswers r l c past →
    step r l (state r l c past) ≡ Wants side want to → EndsInnermost side want (opens_by past)

-- the same of marks above the cut, each of which answers what is wanted there after those before it
abbrev pub AnswerAbove : Laid → List Mark → Type 0
AnswerAbove l [] = Unit {0}
AnswerAbove l (m ∷ past) = (m.side ≡ Replay) ×
    ((is_some (answer_to (want_above l past) m.act) ≡ true) ⊎ (is_stop m.act ≡ true)) × AnswerAbove l past

abbrev pub WantsAboveEndInnermost : Laid → Type 0
WantsAboveEndInnermost l = IsValid l.code → (past : List Mark) → AnswerAbove l past →
    EndsInnermost Replay (want_above l past) (opens_above past)
