-- What a mark changes of what is open, told from what was wanted and what the mark answers.
use Rattle.std.proofs.Common.{◌≡◌, ℕ, ◌&&◌, Bool, true, false, not, cond, eqb, List, [], ◌∷◌, length, map, Some, refl, sym, ap, ◌∙◌, subst, eqb-true}
use Rattle.std.proofs.lemmas.Bool.{and_parts}
use Rattle.marks.specs.declared.side.Side.{Side}
use Rattle.marks.specs.declared.side.Side.TheVariants.{Replay, System}
use Rattle.marks.specs.declared.fault.FaultKind.TheVariants.{StackFull}
use Rattle.marks.specs.declared.range.Range.{Range}
use Rattle.marks.specs.Ranges.{range}
use Rattle.marks.specs.Marks.{Nowhere, EventKind, Call, Ret, Up, UpRet, Alloc, Free, Stop, Event, Act, Turn, Load, Store, Enter, Leave, Step, Fault, Made, Mark, side_of}
use Rattle.marks.specs.Opens.{OpenCall, tail, frames_after, frames, calls_after, act_calls, open_calls, ups_after, act_ups, open_ups, is_stop_event, is_stop}
use Rattle.marks.specs.Wants.{Want, Outside, Turns, Loads, Stores, Enters, Leaves, Allocs, Frees, Calls, Below, Gives, Returns, CallsBack, UpReturns, Steps, Fails, Answer, Go, Value, Frame, CalledBack, Stopped, answer_to, answer_if, stopped_if, event_answer, is_fault_of, is_fault_at_byte, same_numbers}
use Rattle.c_code.specs.MarkLists.{same_side, replay_part}
use Rattle.c_code.specs.Opens.{Opens, system_part, call_below, opens_by, with_frame, with_call, with_up}
use Rattle.c_code.proofs.Sides.{answered, numbers_same}

-- ---- what is taken away

abbrev pub without : Side → Side → List Range → List Range
without side on rs = cond (same_side on side) (tail rs) rs

abbrev pub no_frame : Side → Opens → Opens
no_frame side o = record { above = without Replay side o.above; below = without System side o.below; calls = o.calls; ups = o.ups }

abbrev pub no_call : Opens → Opens
no_call o = record { above = o.above; below = o.below; calls = tail o.calls; ups = o.ups }

abbrev pub no_up : Opens → Opens
no_up o = record { above = o.above; below = o.below; calls = o.calls; ups = tail o.ups }

-- ---- what a mark of a side leaves open

abbrev pub event_opens : EventKind → Opens → Opens
event_opens (Call f args ins outs prepared) o = with_call f args o
event_opens (Ret f args v same outs commit) o = no_call o
event_opens (Up f args) o = with_up f o
event_opens (UpRet f v) o = no_up o
event_opens (Alloc at size) o = o
event_opens (Free at size) o = o
event_opens (Stop fault) o = o

abbrev pub act_opens : Side → Act → Opens → Opens
act_opens side Turn o = o
act_opens side (Load p at bytes) o = o
act_opens side (Store p at bytes) o = o
act_opens side (Enter f args at bytes) o = with_frame side (range at (length bytes)) o
act_opens side (Leave at size) o = no_frame side o
act_opens side (Step f args v ins pieces freed) o = o
act_opens side (Fault kind crosses ins outs access) o = o
act_opens side (Made e) o = event_opens e.kind o

-- an event stands above the cut, but for a Stop, which opens nothing
abbrev pub IsInPlace : Side → Act → Type 0
IsInPlace System (Made e) = is_stop_event e.kind ≡ true
IsInPlace side act = Unit {0}

map_tail : (cs : List OpenCall) → map call_below (tail cs) ≡ tail (map call_below cs)
map_tail [] = refl
map_tail (c ∷ cs) = refl

module _ (past : List Mark) where
  abbrev above : List Mark
  above = replay_part past

  abbrev below : List Mark
  below = system_part past

  -- with a mark above the cut
  abbrev over : Act → Opens
  over a = record { above = frames_after a (frames above); below = frames below; calls = map call_below (act_calls a (open_calls above)); ups = act_ups a (open_ups above) }

  over_event : (e : Event) (k : EventKind) → e.kind ≡ k → record { above = frames above; below = frames below; calls = map call_below (calls_after k (open_calls above)); ups = ups_after k (open_ups above) } ≡ event_opens k (opens_by past)
  over_event e (Call f args ins outs prepared) h = refl
  over_event e (Ret f args v same outs commit) h = λ i. record { above = frames above; below = frames below; calls = map_tail (open_calls above) i; ups = open_ups above }
  over_event e (Up f args) h = refl
  over_event e (UpRet f v) h = refl
  over_event e (Alloc at size) h = refl
  over_event e (Free at size) h = refl
  over_event e (Stop fault) h = refl

  over_act : (a : Act) → over a ≡ act_opens Replay a (opens_by past)
  over_act Turn = refl
  over_act (Load p at bytes) = refl
  over_act (Store p at bytes) = refl
  over_act (Enter f args at bytes) = refl
  over_act (Leave at size) = refl
  over_act (Step f args v ins pieces freed) = refl
  over_act (Fault kind crosses ins outs access) = refl
  over_act (Made e) = over_event e e.kind refl

  -- with a mark below the cut
  abbrev under : Act → Opens
  under a = record { above = frames above; below = frames_after a (frames below); calls = map call_below (open_calls above); ups = open_ups above }

  under_event : (k : EventKind) → is_stop_event k ≡ true → opens_by past ≡ event_opens k (opens_by past)
  under_event (Stop fault) h = refl
  under_event (Alloc at size) h = refl
  under_event (Free at size) h = refl
  under_event (Call f args ins outs prepared) h = absurd cc
  under_event (Ret f args v same outs commit) h = absurd cc
  under_event (Up f args) h = absurd cc
  under_event (UpRet f v) h = absurd cc

  under_act : (a : Act) → IsInPlace System a → under a ≡ act_opens System a (opens_by past)
  under_act Turn h = refl
  under_act (Load p at bytes) h = refl
  under_act (Store p at bytes) h = refl
  under_act (Enter f args at bytes) h = refl
  under_act (Leave at size) h = refl
  under_act (Step f args v ins pieces freed) h = refl
  under_act (Fault kind crosses ins outs access) h = refl
  under_act (Made e) h = under_event e.kind h

  abbrev with_mark : Side → Mark → Opens
  with_mark side m =
      let up = cond (same_side side Replay) (m ∷ above) above in
      let down = cond (same_side side System) (m ∷ below) below in
      record { above = frames up; below = frames down; calls = map call_below (open_calls up); ups = open_ups up }

  by_side : (side : Side) (m : Mark) → IsInPlace side m.act → with_mark side m ≡ act_opens side m.act (opens_by past)
  by_side Replay m h = over_act m.act
  by_side System m h = under_act m.act h

  -- one mark more
  pub one_more : (m : Mark) → IsInPlace m.side m.act → opens_by (m ∷ past) ≡ act_opens m.side m.act (opens_by past)
  one_more m h = by_side m.side m h

pub stop_in_place : (side : Side) (a : Act) → is_stop a ≡ true → IsInPlace side a
stop_in_place Replay a h = tt
stop_in_place System (Made e) h = h
stop_in_place System Turn h = tt
stop_in_place System (Load p at bytes) h = tt
stop_in_place System (Store p at bytes) h = tt
stop_in_place System (Enter f args at bytes) h = tt
stop_in_place System (Leave at size) h = tt
stop_in_place System (Step f args v ins pieces freed) h = tt
stop_in_place System (Fault kind crosses ins outs access) h = tt

stop_kind : (side : Side) (o : Opens) (k : EventKind) → is_stop_event k ≡ true → event_opens k o ≡ o
stop_kind side o (Stop fault) h = refl
stop_kind side o (Alloc at size) h = refl
stop_kind side o (Free at size) h = refl
stop_kind side o (Call f args ins outs prepared) h = absurd cc
stop_kind side o (Ret f args v same outs commit) h = absurd cc
stop_kind side o (Up f args) h = absurd cc
stop_kind side o (UpRet f v) h = absurd cc

pub stop_opens : (side : Side) (a : Act) (o : Opens) → is_stop a ≡ true → act_opens side a o ≡ o
stop_opens side (Made e) o h = stop_kind side o e.kind h
stop_opens side Turn o h = refl
stop_opens side (Load p at bytes) o h = refl
stop_opens side (Store p at bytes) o h = refl
stop_opens side (Enter f args at bytes) o h = absurd cc
stop_opens side (Leave at size) o h = absurd cc
stop_opens side (Step f args v ins pieces freed) o h = refl
stop_opens side (Fault kind crosses ins outs access) o h = refl

-- an answer to what is wanted stands where it is in place
pub answer_in_place : (side : Side) (a : Act) → IsInPlace (side_of side a) a
answer_in_place Replay Turn = tt
answer_in_place Replay (Load p at bytes) = tt
answer_in_place Replay (Store p at bytes) = tt
answer_in_place Replay (Enter f args at bytes) = tt
answer_in_place Replay (Leave at size) = tt
answer_in_place Replay (Step f args v ins pieces freed) = tt
answer_in_place Replay (Fault kind crosses ins outs access) = tt
answer_in_place Replay (Made e) = tt
answer_in_place System Turn = tt
answer_in_place System (Load p at bytes) = tt
answer_in_place System (Store p at bytes) = tt
answer_in_place System (Enter f args at bytes) = tt
answer_in_place System (Leave at size) = tt
answer_in_place System (Step f args v ins pieces freed) = tt
answer_in_place System (Fault kind crosses ins outs access) = tt
answer_in_place System (Made e) = tt

-- ---- what an answer to what is wanted leaves open

-- it opens and closes nothing
abbrev pub IsQuiet : Want → Type 0
IsQuiet Outside = ⊥
IsQuiet Turns = Unit {0}
IsQuiet (Loads p at n) = Unit {0}
IsQuiet (Stores p at bytes) = Unit {0}
IsQuiet (Enters i f args bytes) = ⊥
IsQuiet (Leaves at n) = ⊥
IsQuiet (Allocs n) = Unit {0}
IsQuiet (Frees at) = Unit {0}
IsQuiet (Calls i f args) = ⊥
IsQuiet (Below f args) = ⊥
IsQuiet (Gives f args) = ⊥
IsQuiet (Returns f args v) = ⊥
IsQuiet (CallsBack f args bytes) = ⊥
IsQuiet (UpReturns f v) = ⊥
IsQuiet (Steps i f args) = Unit {0}
IsQuiet (Fails kind) = Unit {0}

abbrev pub outside_opens : Answer → Opens → Opens
outside_opens (CalledBack g bs) o = with_up g o
outside_opens Go o = o
outside_opens (Value v) o = o
outside_opens (Frame at) o = o
outside_opens Stopped o = o

abbrev pub below_opens : Answer → Opens → Opens
below_opens (CalledBack g bs) o = with_up g o
below_opens Go o = no_call o
below_opens (Value v) o = no_call o
below_opens (Frame at) o = no_call o
below_opens Stopped o = no_call o

abbrev pub enter_opens : Side → List ℕ → Answer → Opens → Opens
enter_opens side bytes (Frame at) o = with_frame side (range at (length bytes)) o
enter_opens side bytes Go o = o
enter_opens side bytes (Value v) o = o
enter_opens side bytes (CalledBack g bs) o = o
enter_opens side bytes Stopped o = o

abbrev pub back_opens : Side → ℕ → List ℕ → Answer → Opens → Opens
back_opens side f bytes (CalledBack g bs) o = with_up f o
back_opens side f bytes (Frame at) o = with_frame side (range at (length bytes)) o
back_opens side f bytes Go o = o
back_opens side f bytes (Value v) o = o
back_opens side f bytes Stopped o = o

abbrev pub want_opens : Side → Want → Answer → Opens → Opens
want_opens side Outside x o = outside_opens x o
want_opens side Turns x o = o
want_opens side (Loads p at n) x o = o
want_opens side (Stores p at bytes) x o = o
want_opens side (Enters i f args bytes) x o = enter_opens side bytes x o
want_opens side (Leaves at n) x o = no_frame side o
want_opens side (Allocs n) x o = o
want_opens side (Frees at) x o = o
want_opens side (Calls i f args) x o = with_call f args o
want_opens side (Below f args) x o = below_opens x o
want_opens side (Gives f args) x o = no_call o
want_opens side (Returns f args v) x o = no_call o
want_opens side (CallsBack f args bytes) x o = back_opens side f bytes x o
want_opens side (UpReturns f v) x o = no_up o
want_opens side (Steps i f args) x o = o
want_opens side (Fails kind) x o = o

pub quiet_want : (side : Side) (want : Want) (x : Answer) (o : Opens) → IsQuiet want → want_opens side want x o ≡ o
quiet_want side Turns x o q = refl
quiet_want side (Loads p at n) x o q = refl
quiet_want side (Stores p at bytes) x o q = refl
quiet_want side (Allocs n) x o q = refl
quiet_want side (Frees at) x o q = refl
quiet_want side (Steps i f args) x o q = refl
quiet_want side (Fails kind) x o q = refl
quiet_want side Outside x o q = absurd q
quiet_want side (Enters i f args bytes) x o q = absurd q
quiet_want side (Leaves at n) x o q = absurd q
quiet_want side (Calls i f args) x o q = absurd q
quiet_want side (Below f args) x o q = absurd q
quiet_want side (Gives f args) x o q = absurd q
quiet_want side (Returns f args v) x o q = absurd q
quiet_want side (CallsBack f args bytes) x o q = absurd q
quiet_want side (UpReturns f v) x o q = absurd q

-- the mark goes on
abbrev pub GoesOn : Answer → Type 0
GoesOn Stopped = ⊥
GoesOn Go = Unit {0}
GoesOn (Value v) = Unit {0}
GoesOn (Frame at) = Unit {0}
GoesOn (CalledBack g bs) = Unit {0}

-- a test that gives an answer that goes on isn't that of a fault
no_fault : (b : Bool) (x : Answer) → stopped_if b ≡ Some x → GoesOn x → ⊥
no_fault true x h g = let s : Stopped ≡ x = cc in subst GoesOn (sym s) g
no_fault false x h g = cc

module _ (o : Opens) where
  -- ---- wants that open and close nothing

  quiet_event : (want : Want) (k : EventKind) (x : Answer) → IsQuiet want → event_answer want k ≡ Some x → event_opens k o ≡ o
  quiet_event (Allocs n) (Alloc at size) x q h = refl
  quiet_event (Allocs n) (Free at size) x q h = refl
  quiet_event (Allocs n) (Stop fault) x q h = refl
  quiet_event (Allocs n) (Call f args ins outs prepared) x q h = absurd cc
  quiet_event (Allocs n) (Ret f args v same outs commit) x q h = absurd cc
  quiet_event (Allocs n) (Up f args) x q h = absurd cc
  quiet_event (Allocs n) (UpRet f v) x q h = absurd cc
  quiet_event (Frees at) (Alloc x' size) x q h = refl
  quiet_event (Frees at) (Free x' size) x q h = refl
  quiet_event (Frees at) (Stop fault) x q h = refl
  quiet_event (Frees at) (Call f args ins outs prepared) x q h = absurd cc
  quiet_event (Frees at) (Ret f args v same outs commit) x q h = absurd cc
  quiet_event (Frees at) (Up f args) x q h = absurd cc
  quiet_event (Frees at) (UpRet f v) x q h = absurd cc
  quiet_event Turns k x q h = absurd cc
  quiet_event (Loads p at n) k x q h = absurd cc
  quiet_event (Stores p at bytes) k x q h = absurd cc
  quiet_event (Steps i f args) k x q h = absurd cc
  quiet_event (Fails kind) k x q h = absurd cc
  quiet_event want k x q h = absurd q

  quiet_enter : (want : Want) (f : ℕ) (args : List ℕ) (at : ℕ) (bytes : List ℕ) (x : Answer) → IsQuiet want → answer_to want (Enter f args at bytes) ≡ Some x → ⊥
  unfolding answer_to
  quiet_enter Turns f args at bytes x q h = cc
  quiet_enter (Loads p y n) f args at bytes x q h = cc
  quiet_enter (Stores p y bs) f args at bytes x q h = cc
  quiet_enter (Allocs n) f args at bytes x q h = cc
  quiet_enter (Frees y) f args at bytes x q h = frees (eqb y 0) h
    where
      frees : (b : Bool) → stopped_if (not b && false) ≡ Some x → ⊥
      frees true h = cc
      frees false h = cc
  quiet_enter (Steps i g bs) f args at bytes x q h = cc
  quiet_enter (Fails kind) f args at bytes x q h = cc
  quiet_enter want f args at bytes x q h = q

  quiet_leave : (want : Want) (at size : ℕ) (x : Answer) → IsQuiet want → answer_to want (Leave at size) ≡ Some x → ⊥
  unfolding answer_to
  quiet_leave Turns at size x q h = cc
  quiet_leave (Loads p y n) at size x q h = cc
  quiet_leave (Stores p y bs) at size x q h = cc
  quiet_leave (Allocs n) at size x q h = cc
  quiet_leave (Frees y) at size x q h = frees (eqb y 0) h
    where
      frees : (b : Bool) → stopped_if (not b && false) ≡ Some x → ⊥
      frees true h = cc
      frees false h = cc
  quiet_leave (Steps i g bs) at size x q h = cc
  quiet_leave (Fails kind) at size x q h = cc
  quiet_leave want at size x q h = q

  quiet_made : (want : Want) (e : Event) (x : Answer) → IsQuiet want → answer_to want (Made e) ≡ Some x → event_opens e.kind o ≡ o
  unfolding answer_to
  quiet_made want e x q h = quiet_event want e.kind x q h

  quiet_act : (side : Side) (want : Want) (a : Act) (x : Answer) → IsQuiet want → answer_to want a ≡ Some x → act_opens side a o ≡ o
  quiet_act side want Turn x q h = refl
  quiet_act side want (Load p at bytes) x q h = refl
  quiet_act side want (Store p at bytes) x q h = refl
  quiet_act side want (Enter f args at bytes) x q h = absurd (quiet_enter want f args at bytes x q h)
  quiet_act side want (Leave at size) x q h = absurd (quiet_leave want at size x q h)
  quiet_act side want (Step f args v ins pieces freed) x q h = refl
  quiet_act side want (Fault kind crosses ins outs access) x q h = refl
  quiet_act side want (Made e) x q h = quiet_made want e x q h

  quiet : (side : Side) (want : Want) (a : Act) (x : Answer) → IsQuiet want → answer_to want a ≡ Some x → act_opens (side_of side a) a o ≡ want_opens side want x o
  quiet side want a x q h = quiet_act (side_of side a) want a x q h ∙ sym (quiet_want side want x o q)

  -- ---- wants that an event alone answers

  abbrev IsEventWant : Want → Type 0
  IsEventWant Outside = Unit {0}
  IsEventWant (Below f args) = Unit {0}
  IsEventWant (Gives f args) = Unit {0}
  IsEventWant (Returns f args v) = Unit {0}
  IsEventWant (UpReturns f v) = Unit {0}
  IsEventWant want = ⊥

  no_act : (want : Want) (a : Act) (x : Answer) → IsEventWant want → ((e : Event) → a ≡ Made e → ⊥) → answer_to want a ≡ Some x → ⊥
  unfolding answer_to
  no_act Outside (Made e) x q n h = n e refl
  no_act Outside a x q n h = cc
  no_act (Below f args) (Made e) x q n h = n e refl
  no_act (Below f args) a x q n h = cc
  no_act (Gives f args) (Made e) x q n h = n e refl
  no_act (Gives f args) a x q n h = cc
  no_act (Returns f args v) (Made e) x q n h = n e refl
  no_act (Returns f args v) a x q n h = cc
  no_act (UpReturns f v) (Made e) x q n h = n e refl
  no_act (UpReturns f v) a x q n h = cc
  no_act want a x q n h = q

  outside_event : (k : EventKind) (x : Answer) → event_answer Outside k ≡ Some x → event_opens k o ≡ outside_opens x o
  outside_event (Up g bs) x h = let e : CalledBack g bs ≡ x = cc in ap (λ y. outside_opens y o) e
  outside_event k x h = absurd cc

  below_event : (f : ℕ) (args : List ℕ) (k : EventKind) (x : Answer) → event_answer (Below f args) k ≡ Some x → event_opens k o ≡ below_opens x o
  below_event f args (Ret g bs v same outs commit) x h = ap (λ y. below_opens y o) (answered (eqb g f && same_numbers bs args) (Value v) x h).1
  below_event f args (Up g bs) x h = let e : CalledBack g bs ≡ x = cc in ap (λ y. below_opens y o) e
  below_event f args k x h = absurd cc

  gives_event : (f : ℕ) (args : List ℕ) (k : EventKind) (x : Answer) → event_answer (Gives f args) k ≡ Some x → event_opens k o ≡ no_call o
  gives_event f args (Ret g bs v same outs commit) x h = refl
  gives_event f args k x h = absurd cc

  returns_event : (f : ℕ) (args : List ℕ) (v : ℕ) (k : EventKind) (x : Answer) → event_answer (Returns f args v) k ≡ Some x → event_opens k o ≡ no_call o
  returns_event f args v (Ret g bs w same outs commit) x h = refl
  returns_event f args v k x h = absurd cc

  up_event : (f v : ℕ) (k : EventKind) (x : Answer) → event_answer (UpReturns f v) k ≡ Some x → event_opens k o ≡ no_up o
  up_event f v (UpRet g w) x h = refl
  up_event f v k x h = absurd cc

  -- ---- the others

  calls_event : (f : ℕ) (args : List ℕ) (i : Bool) (k : EventKind) (x : Answer) → event_answer (Calls i f args) k ≡ Some x → event_opens k o ≡ with_call f args o
  calls_event f args i (Call g bs ins outs prepared) x h =
      let p = and_parts (eqb g f) (same_numbers bs args) (answered (eqb g f && same_numbers bs args) Go x h).0 in
      let func : g ≡ f = eqb-true g f p.0 in
      let same : bs ≡ args = numbers_same bs args p.1 in
      λ j. with_call (func j) (same j) o
  calls_event f args i k x h = absurd cc

  back_event : (side : Side) (f : ℕ) (args bytes : List ℕ) (k : EventKind) (x : Answer) → event_answer (CallsBack f args bytes) k ≡ Some x → event_opens k o ≡ back_opens side f bytes x o
  back_event side f args bytes (Up g bs) x h =
      let a = answered (eqb g f && same_numbers bs args) (CalledBack f args) x h in
      let func : g ≡ f = eqb-true g f (and_parts (eqb g f) (same_numbers bs args) a.0).0 in
      ap (λ n. with_up n o) func ∙ ap (λ y. back_opens side f bytes y o) a.1
  back_event side f args bytes k x h = absurd cc

  abbrev Does : Side → Want → Act → Answer → Type 0
  Does side want a x = act_opens (side_of side a) a o ≡ want_opens side want x o

  enter_frame : (side : Side) (f : ℕ) (args bytes : List ℕ) (g : ℕ) (bs : List ℕ) (at : ℕ) (b : List ℕ) (x : Answer) → answer_if (eqb g f && (same_numbers bs args && same_numbers b bytes)) (Frame at) ≡ Some x → (with_frame side (range at (length b)) o ≡ enter_opens side bytes (Frame at) o) × (Frame at ≡ x)
  enter_frame side f args bytes g bs at b x h =
      let a = answered (eqb g f && (same_numbers bs args && same_numbers b bytes)) (Frame at) x h in
      let p = and_parts (eqb g f) (same_numbers bs args && same_numbers b bytes) a.0 in
      let same : b ≡ bytes = numbers_same b bytes (and_parts (same_numbers bs args) (same_numbers b bytes) p.1).1 in
      (ap (λ l. with_frame side (range at (length l)) o) same, a.1)

  enters_do : (side : Side) (i : Bool) (f : ℕ) (args bytes : List ℕ) (a : Act) (x : Answer) → answer_to (Enters i f args bytes) a ≡ Some x → GoesOn x → Does side (Enters i f args bytes) a x
  unfolding answer_to
  enters_do side i f args bytes (Enter g bs at b) x h go =
      let e = enter_frame side f args bytes g bs at b x h in
      e.0 ∙ ap (λ y. enter_opens side bytes y o) e.1
  enters_do side i f args bytes (Made e) x h go = absurd cc
  enters_do side i f args bytes (Fault kind crosses ins outs access) x h go = absurd (no_fault (is_fault_of StackFull Nowhere (Fault kind crosses ins outs access)) x h go)
  enters_do side i f args bytes a x h go = absurd cc

  leaves_do : (side : Side) (at n : ℕ) (a : Act) (x : Answer) → answer_to (Leaves at n) a ≡ Some x → Does side (Leaves at n) a x
  unfolding answer_to
  leaves_do side at n (Leave y size) x h = refl
  leaves_do side at n (Made e) x h = absurd cc
  leaves_do side at n a x h = absurd cc

  calls_do : (side : Side) (i : Bool) (f : ℕ) (args : List ℕ) (a : Act) (x : Answer) → answer_to (Calls i f args) a ≡ Some x → GoesOn x → Does side (Calls i f args) a x
  unfolding answer_to
  calls_do side i f args (Made e) x h go = calls_event f args i e.kind x h
  calls_do side i f args (Fault kind crosses ins outs access) x h go = absurd (no_fault (is_fault_at_byte true (Fault kind crosses ins outs access)) x h go)
  calls_do side i f args a x h go = absurd cc

  back_do : (side : Side) (f : ℕ) (args bytes : List ℕ) (a : Act) (x : Answer) → answer_to (CallsBack f args bytes) a ≡ Some x → GoesOn x → Does side (CallsBack f args bytes) a x
  unfolding answer_to
  back_do side f args bytes (Made e) x h go = back_event side f args bytes e.kind x h
  back_do side f args bytes (Enter g bs at b) x h go =
      let e = enter_frame side f args bytes g bs at b x h in
      e.0 ∙ ap (λ y. back_opens side f bytes y o) e.1
  back_do side f args bytes (Fault kind crosses ins outs access) x h go = absurd (no_fault (is_fault_of StackFull Nowhere (Fault kind crosses ins outs access)) x h go)
  back_do side f args bytes a x h go = absurd cc

  events_do : (side : Side) (want : Want) (a : Act) (x : Answer) → IsEventWant want → ((e : Event) → answer_to want (Made e) ≡ Some x → event_opens e.kind o ≡ want_opens side want x o) → answer_to want a ≡ Some x → Does side want a x
  events_do side want (Made e) x q made h = made e h
  events_do side want Turn x q made h = absurd (no_act want Turn x q (λ e z. cc) h)
  events_do side want (Load p at bytes) x q made h = absurd (no_act want (Load p at bytes) x q (λ e z. cc) h)
  events_do side want (Store p at bytes) x q made h = absurd (no_act want (Store p at bytes) x q (λ e z. cc) h)
  events_do side want (Enter f args at bytes) x q made h = absurd (no_act want (Enter f args at bytes) x q (λ e z. cc) h)
  events_do side want (Leave at size) x q made h = absurd (no_act want (Leave at size) x q (λ e z. cc) h)
  events_do side want (Step f args v ins pieces freed) x q made h = absurd (no_act want (Step f args v ins pieces freed) x q (λ e z. cc) h)
  events_do side want (Fault kind crosses ins outs access) x q made h = absurd (no_act want (Fault kind crosses ins outs access) x q (λ e z. cc) h)

  -- what is open after an answer that goes on
  pub answer_opens : (side : Side) (want : Want) (a : Act) (x : Answer) → answer_to want a ≡ Some x → GoesOn x → act_opens (side_of side a) a o ≡ want_opens side want x o
  unfolding answer_to
  answer_opens side Turns a x h go = quiet side Turns a x tt h
  answer_opens side (Loads p at n) a x h go = quiet side (Loads p at n) a x tt h
  answer_opens side (Stores p at bytes) a x h go = quiet side (Stores p at bytes) a x tt h
  answer_opens side (Allocs n) a x h go = quiet side (Allocs n) a x tt h
  answer_opens side (Frees at) a x h go = quiet side (Frees at) a x tt h
  answer_opens side (Steps i f args) a x h go = quiet side (Steps i f args) a x tt h
  answer_opens side (Fails kind) a x h go = quiet side (Fails kind) a x tt h
  answer_opens side Outside a x h go = events_do side Outside a x tt (λ e k. outside_event e.kind x k) h
  answer_opens side (Below f args) a x h go = events_do side (Below f args) a x tt (λ e k. below_event f args e.kind x k) h
  answer_opens side (Gives f args) a x h go = events_do side (Gives f args) a x tt (λ e k. gives_event f args e.kind x k) h
  answer_opens side (Returns f args v) a x h go = events_do side (Returns f args v) a x tt (λ e k. returns_event f args v e.kind x k) h
  answer_opens side (UpReturns f v) a x h go = events_do side (UpReturns f v) a x tt (λ e k. up_event f v e.kind x k) h
  answer_opens side (Enters i f args bytes) a x h go = enters_do side i f args bytes a x h go
  answer_opens side (Leaves at n) a x h go = leaves_do side at n a x h
  answer_opens side (Calls i f args) a x h go = calls_do side i f args a x h go
  answer_opens side (CallsBack f args bytes) a x h go = back_do side f args bytes a x h go

  -- ---- a mark that is a fault

  stop_event : (want : Want) (k : EventKind) → event_answer want k ≡ Some Stopped → ⊥
  stop_event Outside (Up g bs) h = cc
  stop_event (Allocs n) (Alloc at size) h = let e = (answered (eqb size n) (Value at) Stopped h).1 in cc
  stop_event (Frees at) (Free x size) h = let e = (answered (eqb x at) Go Stopped h).1 in cc
  stop_event (Calls i f args) (Call g bs ins outs prepared) h = let e = (answered (eqb g f && same_numbers bs args) Go Stopped h).1 in cc
  stop_event (Below f args) (Ret g bs v same outs commit) h = let e = (answered (eqb g f && same_numbers bs args) (Value v) Stopped h).1 in cc
  stop_event (Below f args) (Up g bs) h = cc
  stop_event (Gives f args) (Ret g bs v same outs commit) h = let e = (answered (eqb g f && same_numbers bs args) (Value v) Stopped h).1 in cc
  stop_event (Returns f args v) (Ret g bs w same outs commit) h = let e = (answered (eqb g f && (same_numbers bs args && eqb w v)) Go Stopped h).1 in cc
  stop_event (CallsBack f args bytes) (Up g bs) h = let e = (answered (eqb g f && same_numbers bs args) (CalledBack f args) Stopped h).1 in cc
  stop_event (UpReturns f v) (UpRet g w) h = let e = (answered (eqb g f && eqb w v) Go Stopped h).1 in cc
  stop_event want k h = cc

  stop_enter : (want : Want) (g : ℕ) (bs : List ℕ) (at : ℕ) (b : List ℕ) → answer_to want (Enter g bs at b) ≡ Some Stopped → ⊥
  unfolding answer_to
  stop_enter (Enters i f args bytes) g bs at b h = let e = (answered (eqb g f && (same_numbers bs args && same_numbers b bytes)) (Frame at) Stopped h).1 in cc
  stop_enter (CallsBack f args bytes) g bs at b h = let e = (answered (eqb g f && (same_numbers bs args && same_numbers b bytes)) (Frame at) Stopped h).1 in cc
  stop_enter (Frees y) g bs at b h = quiet_enter (Frees y) g bs at b Stopped tt h
  stop_enter want g bs at b h = cc

  stop_leave : (want : Want) (x size : ℕ) → answer_to want (Leave x size) ≡ Some Stopped → ⊥
  unfolding answer_to
  stop_leave (Leaves at n) x size h = let e = (answered (eqb x at && eqb size n) Go Stopped h).1 in cc
  stop_leave (Frees y) x size h = quiet_leave (Frees y) x size Stopped tt h
  stop_leave want x size h = cc

  -- what is open stays so
  pub fault_opens : (side : Side) (want : Want) (a : Act) → answer_to want a ≡ Some Stopped → act_opens side a o ≡ o
  unfolding answer_to
  fault_opens side want Turn h = refl
  fault_opens side want (Load p at bytes) h = refl
  fault_opens side want (Store p at bytes) h = refl
  fault_opens side want (Enter f args at bytes) h = absurd (stop_enter want f args at bytes h)
  fault_opens side want (Leave at size) h = absurd (stop_leave want at size h)
  fault_opens side want (Step f args v ins pieces freed) h = refl
  fault_opens side want (Fault kind crosses ins outs access) h = refl
  fault_opens side want (Made e) h = absurd (stop_event want e.kind h)
