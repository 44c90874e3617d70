-- Each step of a run gives an answer of the type that is asked for.
use Rattle.std.proofs.Common.{◌≡◌, ⊎_elim, ℕ, ◌+◌, ◌^◌, ◌<◌, ◌≤◌, Bool, true, false, ◌&&◌, eqb, List, [], ◌++◌, map, length, Option, Some, None, refl, sym, ap, ◌∙◌, subst, arith, eqb-true}
use Rattle.std.proofs.lemmas.Bool.{and_parts, lt-ltb}
use Rattle.run_events.specs.declared.key.Class.TheVariants.{Pool}
use Rattle.marks.specs.declared.side.Side.{Side}
use Rattle.marks.specs.declared.side.Side.TheVariants.{Replay, System}
use Rattle.marks.specs.declared.fault.FaultKind.{FaultKind}
use Rattle.marks.specs.declared.fault.FaultKind.TheVariants.{NotLive, StackFull}
use Rattle.marks.specs.Places.{thread_count, stack, stack_size, replay_pool, system_pool}
use Rattle.marks.specs.declared.range.Range.{Range}
use Rattle.marks.specs.Ranges.{Piece, range, number_of_bytes, are_bytes}
use Rattle.marks.specs.Marks.{Reading, Nowhere, EventKind, Call, Ret, Up, UpRet, Alloc, Free, Stop, Event, Act, Turn, Load, Store, Enter, Leave, Step, Fault, Made, Mark, released, side_of}
use Rattle.marks.specs.Wants.{Want, Outside, Turns, Loads, Stores, Enters, Leaves, Allocs, Frees, Calls, Below, Gives, Returns, CallsBack, UpReturns, Steps, Fails, Answer, Value, Frame, CalledBack, Stopped, answer_if, answer_to, event_answer, stopped_if, is_fault_of, is_fault_at_byte, same_numbers, same_origin}
use Rattle.c_builtins.specs.declared.builtin.Builtin.{Builtin}
use Rattle.c_builtins.specs.declared.builtin.Builtin.TheVariants as builtins
use Rattle.c_code.specs.declared.shape.Shape.TheVariants.{Pointer, Void}
use Rattle.c_code.specs.Values.{is_value}
use Rattle.c_code.specs.Machine.{Laid, first}
use Rattle.c_code.specs.MarkLists.{reply, result_of}
use Rattle.c_code.specs.Typed.{AreArguments, CarriesValues}
use Rattle.c_code.proofs.Sides.{replied}
use Rattle.replay_runs.specs.Runs.{Link, OfKey, marks_of, has, keys_of, is_listed, new_events, Allowed}
use Rattle.replay_runs.specs.Keys.{key, keys_for, sorted_keys}
use Rattle.replay_runs.specs.Pool.{IsPlace, blocks_from}
use Rattle.replay_runs.specs.Rules.{HasKeys, SharedAct, SharedEvent}
use Rattle.replay_runs.proofs.Keys.{listed_last}
use Rattle.whole_runs.specs.World.{World, begin, interface}
use Rattle.whole_runs.specs.Sides.{seen, place_on}
use Rattle.whole_runs.specs.Outcomes.{builtin_of}
use Rattle.whole_runs.specs.Below.{Given, ByPool, Says, NoMore, given, system_blocks}
use Rattle.whole_runs.specs.Steps.{Picked, IsMade, Agrees, EventAgrees, BringsGiven, StepOf, IsStep, GivesStep, rules_above}
use Rattle.whole_runs.specs.Ends.{Follows}
use Rattle.whole_runs.specs.Fits.{IsFit}
use Rattle.whole_runs_seen.specs.Suits.{AnswersSuit, IsFrame, IsFrameOrBack, IsNumber, IsOfType, Suits}
use Rattle.whole_runs_seen.proofs.Answered.{LeadsOn}
use Rattle.whole_runs_seen.proofs.Entries.{IsOwn}
use Rattle.whole_runs_seen.proofs.Stopping.{answers_lead}
use Rattle.whole_runs_seen.proofs.Threads.{AreThreads, threads_known, answer_of, own_want, carried, no_fault, picked_started}
use Rattle.whole_runs_threads.specs.Laws.{StepsSuit}
use Rattle.whole_runs_threads.proofs.Framing.{frame_room}
use Rattle.whole_runs_threads.proofs.Values.{builtin_result, given_suits}

-- ---- answers of each kind

given_if : (b : Bool) (y x : Answer) → answer_if b y ≡ Some x → (b ≡ true) × (y ≡ x)
given_if true y x e = (refl, cc)
given_if false y x e = absurd cc

no_stop : (b : Bool) (x : Answer) → stopped_if b ≡ Some x → LeadsOn x → ⊥
no_stop b x e h = subst LeadsOn (sym (given_if b Stopped x e).1) h

load_suits : (o : Option ℕ) (at n : ℕ) (a : Act) (x : Answer) → answer_to (Loads o at n) a ≡ Some x → LeadsOn x → IsNumber x
unfolding answer_to
load_suits o at n (Load p y bytes) x e h = subst IsNumber (given_if ((same_origin p o && eqb y at) && (eqb (length bytes) n && are_bytes bytes)) (Value (number_of_bytes bytes)) x e).1 tt
load_suits o at n Turn x e h = absurd (no_stop (is_fault_of NotLive (Reading (range at n)) Turn) x e h)
load_suits o at n (Store p y b) x e h = absurd (no_stop (is_fault_of NotLive (Reading (range at n)) (Store p y b)) x e h)
load_suits o at n (Enter g bs y b) x e h = absurd (no_stop (is_fault_of NotLive (Reading (range at n)) (Enter g bs y b)) x e h)
load_suits o at n (Leave y size) x e h = absurd (no_stop (is_fault_of NotLive (Reading (range at n)) (Leave y size)) x e h)
load_suits o at n (Step g bs v ins pieces freed) x e h = absurd (no_stop (is_fault_of NotLive (Reading (range at n)) (Step g bs v ins pieces freed)) x e h)
load_suits o at n (Fault k c ins outs access) x e h = absurd (no_stop (is_fault_of NotLive (Reading (range at n)) (Fault k c ins outs access)) x e h)
load_suits o at n (Made ev) x e h = absurd cc

enter_suits : (i : Bool) (f : ℕ) (args bytes : List ℕ) (a : Act) (x : Answer) → ((g : ℕ) (bs : List ℕ) (at : ℕ) (b : List ℕ) → a ≡ Enter g bs at b → is_value Pointer at ≡ true) → answer_to (Enters i f args bytes) a ≡ Some x → LeadsOn x → IsFrame x
unfolding answer_to
enter_suits i f args bytes (Enter g bs at b) x place e h = subst IsFrame (given_if (eqb g f && (same_numbers bs args && same_numbers b bytes)) (Frame at) x e).1 (place g bs at b refl)
enter_suits i f args bytes Turn x place e h = absurd (no_stop (is_fault_of StackFull Nowhere Turn) x e h)
enter_suits i f args bytes (Load p y b) x place e h = absurd (no_stop (is_fault_of StackFull Nowhere (Load p y b)) x e h)
enter_suits i f args bytes (Store p y b) x place e h = absurd (no_stop (is_fault_of StackFull Nowhere (Store p y b)) x e h)
enter_suits i f args bytes (Leave y size) x place e h = absurd (no_stop (is_fault_of StackFull Nowhere (Leave y size)) x e h)
enter_suits i f args bytes (Step g bs v ins pieces freed) x place e h = absurd (no_stop (is_fault_of StackFull Nowhere (Step g bs v ins pieces freed)) x e h)
enter_suits i f args bytes (Fault k c ins outs access) x place e h = absurd (no_stop (is_fault_of StackFull Nowhere (Fault k c ins outs access)) x e h)
enter_suits i f args bytes (Made ev) x place e h = absurd cc

module _ (l : Laid) (f : ℕ) (args bytes : List ℕ) (fits : AreArguments l f args) where
  up_suits : (k : EventKind) (x : Answer) → event_answer (CallsBack f args bytes) k ≡ Some x → IsFrameOrBack l f args x
  up_suits (Up g bs) x e = subst (IsFrameOrBack l f args) (given_if (eqb g f && same_numbers bs args) (CalledBack f args) x e).1 fits
  up_suits (Call g bs ins outs prepared) x e = absurd cc
  up_suits (Ret g bs v same outs commit) x e = absurd cc
  up_suits (UpRet g v) x e = absurd cc
  up_suits (Alloc at size) x e = absurd cc
  up_suits (Free at size) x e = absurd cc
  up_suits (Stop fault) x e = absurd cc

  back_suits : (a : Act) (x : Answer) → ((g : ℕ) (bs : List ℕ) (at : ℕ) (b : List ℕ) → a ≡ Enter g bs at b → is_value Pointer at ≡ true) → answer_to (CallsBack f args bytes) a ≡ Some x → LeadsOn x → IsFrameOrBack l f args x
  unfolding answer_to
  back_suits (Enter g bs at b) x place e h = subst (IsFrameOrBack l f args) (given_if (eqb g f && (same_numbers bs args && same_numbers b bytes)) (Frame at) x e).1 (place g bs at b refl)
  back_suits (Made ev) x place e h = up_suits ev.kind x e
  back_suits Turn x place e h = absurd (no_stop (is_fault_of StackFull Nowhere Turn) x e h)
  back_suits (Load p y b) x place e h = absurd (no_stop (is_fault_of StackFull Nowhere (Load p y b)) x e h)
  back_suits (Store p y b) x place e h = absurd (no_stop (is_fault_of StackFull Nowhere (Store p y b)) x e h)
  back_suits (Leave y size) x place e h = absurd (no_stop (is_fault_of StackFull Nowhere (Leave y size)) x e h)
  back_suits (Step g bs v ins pieces freed) x place e h = absurd (no_stop (is_fault_of StackFull Nowhere (Step g bs v ins pieces freed)) x e h)
  back_suits (Fault k c ins outs access) x place e h = absurd (no_stop (is_fault_of StackFull Nowhere (Fault k c ins outs access)) x e h)

alloc_event : (n : ℕ) (k : EventKind) (x : Answer) → ((at size : ℕ) → k ≡ Alloc at size → is_value Pointer at ≡ true) → event_answer (Allocs n) k ≡ Some x → IsOfType Pointer x
alloc_event n (Alloc at size) x place e = subst (IsOfType Pointer) (given_if (eqb size n) (Value at) x e).1 (place at size refl)
alloc_event n (Call g bs ins outs prepared) x place e = absurd cc
alloc_event n (Ret g bs v same outs commit) x place e = absurd cc
alloc_event n (Up g bs) x place e = absurd cc
alloc_event n (UpRet g v) x place e = absurd cc
alloc_event n (Free at size) x place e = absurd cc
alloc_event n (Stop fault) x place e = absurd cc

alloc_suits : (n : ℕ) (a : Act) (x : Answer) → ((ev : Event) (at size : ℕ) → a ≡ Made ev → ev.kind ≡ Alloc at size → is_value Pointer at ≡ true) → answer_to (Allocs n) a ≡ Some x → IsOfType Pointer x
unfolding answer_to
alloc_suits n (Made ev) x place e = alloc_event n ev.kind x (λ at size k. place ev at size refl k) e
alloc_suits n Turn x place e = absurd cc
alloc_suits n (Load p y b) x place e = absurd cc
alloc_suits n (Store p y b) x place e = absurd cc
alloc_suits n (Enter g bs y b) x place e = absurd cc
alloc_suits n (Leave y size) x place e = absurd cc
alloc_suits n (Step g bs v ins pieces freed) x place e = absurd cc
alloc_suits n (Fault k c ins outs access) x place e = absurd cc

-- ---- places

stack_word : (side : Side) (t at n : ℕ) → t < thread_count → at + n ≤ stack side t + stack_size → is_value Pointer at ≡ true
stack_word Replay t at n lt le = lt-ltb at (2 ^ 64) (omega (arith, lt, le))
stack_word System t at n lt le = lt-ltb at (2 ^ 64) (omega (arith, lt, le))

place_word : (pool : ℕ) (bs : List Range) (size at : ℕ) → pool ≤ system_pool → IsPlace pool bs size at → is_value Pointer at ≡ true
place_word pool bs size at low h = ⊎_elim
    (λ f. let top = f.0.high in lt-ltb at (2 ^ 64) (omega (arith, top, low)))
    (λ z. let none = z.0 in lt-ltb at (2 ^ 64) (omega (arith, none)))
    h

module _ (w : World) (fit : IsFit w) (past : List Mark) (follows : Follows w past) (s : Picked w past) (m : Mark) (h : IsMade w past s m) where
  abbrev l : Laid
  l = w.laid

  known : AreThreads w past
  known = threads_known w fit.code past follows

  few : s.thread < thread_count
  few = let lt = picked_started w fit.code past known s in let le = known.few in omega (arith, lt, le)

  -- a frame lies in a stack
  frame_word : (g : ℕ) (bs : List ℕ) (at : ℕ) (b : List ℕ) → m.act ≡ Enter g bs at b → is_value Pointer at ≡ true
  frame_word g bs at b is =
      let room = (frame_room w fit past follows s m h g bs at b is).0 in
      let placed : at ≡ place_on w s.side s.thread past = (subst (Agrees w past s.thread s.side s.want) is h.agrees).1 in
      stack_word s.side s.thread at (length b) few (subst (λ x. x + length b ≤ stack s.side s.thread + stack_size) (sym placed) room)

  -- a block in the pool
  block_word : (ev : Event) (at size : ℕ) → m.act ≡ Made ev → ev.kind ≡ Alloc at size → is_value Pointer at ≡ true
  block_word ev at size is kind =
      place_word replay_pool (blocks_from (begin w).blocks (new_events pool (seen past))) size at (omega arith)
      (subst (λ k. SharedEvent (interface w) (begin w) Pool 0 (new_events pool (seen past)) k) kind
      (subst (SharedAct (interface w) (begin w) (key Pool 0) (new_events pool (seen past))) is (may.shared pool has_pool)))
    where
      pool : Link
      pool = OfKey (key Pool 0)

      answered : (x : Answer) × (reply s.side s.want m ≡ Some x)
      answered = answer_of w fit.code past known s m h (reply s.side s.want m) refl h.replies

      above : m.side ≡ Replay
      above = (replied s.side s.want m answered.0 answered.1).0 ∙ ap (side_of s.side) is

      may : Allowed (rules_above (interface w) (begin w) s.want) (begin w) (seen past) m
      may = h.mark.above above

      has_pool : has m pool ≡ true
      has_pool =
          let mine = marks_of (begin w) m.thread (seen past) in
          let keyed : HasKeys (interface w) m.thread mine (Made ev) = subst (HasKeys (interface w) m.thread mine) is may.own.0 in
          let listed : is_listed ev.keys (key Pool 0) ≡ true = listed_last ev.keys [] (key Pool 0) (subst (λ q. map (λ y. y.key) ev.keys ≡ sorted_keys (keys_for (interface w) m.thread mine q)) kind keyed) in
          ap (λ a. is_listed (keys_of a) (key Pool 0)) is ∙ listed

  -- ---- results

  ret_word : (f : ℕ) (args : List ℕ) (v : ℕ) (up : List Piece) (g : Given) → given w past s.thread f args ≡ g → BringsGiven w past f args v up g → is_value (result_of l f) v ≡ true
  ret_word f args v up ByPool e b = absurd b
  ret_word f args v up (Says u pieces) e b = subst (λ x. is_value (result_of l f) x ≡ true) (sym b.0) (given_suits w fit past known s.thread f u args pieces e)
  ret_word f args v up NoMore e b = absurd b

  gives_event : (f : ℕ) (args : List ℕ) (k : EventKind) (x : Answer) → EventAgrees w past s.thread (Gives f args) k → event_answer (Gives f args) k ≡ Some x → IsOfType (result_of l f) x
  gives_event f args (Ret g bs v same outs commit) x a e =
      subst (IsOfType (result_of l f)) (given_if (eqb g f && same_numbers bs args) (Value v) x e).1 (ret_word f args v (outs ++ released commit) (given w past s.thread f args) refl a)
  gives_event f args (Call g bs ins outs prepared) x a e = absurd cc
  gives_event f args (Up g bs) x a e = absurd cc
  gives_event f args (UpRet g v) x a e = absurd cc
  gives_event f args (Alloc at size) x a e = absurd cc
  gives_event f args (Free at size) x a e = absurd cc
  gives_event f args (Stop fault) x a e = absurd cc

  gives_suits : (f : ℕ) (args : List ℕ) (a : Act) (x : Answer) → Agrees w past s.thread s.side (Gives f args) a → answer_to (Gives f args) a ≡ Some x → IsOfType (result_of l f) x
  unfolding answer_to
  gives_suits f args (Made ev) x a e = gives_event f args ev.kind x a e
  gives_suits f args Turn x a e = absurd cc
  gives_suits f args (Load p y b) x a e = absurd cc
  gives_suits f args (Store p y b) x a e = absurd cc
  gives_suits f args (Enter g bs y b) x a e = absurd cc
  gives_suits f args (Leave y size) x a e = absurd cc
  gives_suits f args (Step g bs v ins pieces freed) x a e = absurd cc
  gives_suits f args (Fault k c ins outs access) x a e = absurd cc

  given_word : (r : StepOf) (g : Given) → given w past s.thread r.func r.args ≡ g → GivesStep w past r g → is_value (result_of l r.func) r.result ≡ true
  given_word r ByPool e a = absurd a
  given_word r (Says v pieces) e a = subst (λ x. is_value (result_of l r.func) x ≡ true) (sym a.result_is) (given_suits w fit past known s.thread r.func v r.args pieces e)
  given_word r NoMore e a = absurd a

  step_word : (r : StepOf) (o : Option Builtin) → builtin_of r.func ≡ o → IsStep w past s.thread r o → is_value (result_of l r.func) r.result ≡ true
  step_word r (Some builtins.Malloc) e a = subst (λ t. is_value t r.result ≡ true) (sym (builtin_result l fit.code.valid r.func builtins.Malloc e)) (place_word system_pool (system_blocks past) (first r.args) r.result (omega arith) a.place)
  step_word r (Some builtins.Free) e a = subst (λ t. is_value t r.result ≡ true) (sym (builtin_result l fit.code.valid r.func builtins.Free e)) (subst (λ v. is_value Void v ≡ true) (sym a.result) refl)
  step_word r (Some builtins.Spawn) e a = given_word r (given w past s.thread r.func r.args) refl a
  step_word r (Some builtins.Join) e a = given_word r (given w past s.thread r.func r.args) refl a
  step_word r (Some builtins.Lock) e a = given_word r (given w past s.thread r.func r.args) refl a
  step_word r (Some builtins.Unlock) e a = given_word r (given w past s.thread r.func r.args) refl a
  step_word r (Some builtins.Print) e a = given_word r (given w past s.thread r.func r.args) refl a
  step_word r None e a = given_word r (given w past s.thread r.func r.args) refl a

  steps_suit : (i : Bool) (f : ℕ) (args : List ℕ) (a : Act) (x : Answer) → Agrees w past s.thread s.side (Steps i f args) a → answer_to (Steps i f args) a ≡ Some x → LeadsOn x → IsOfType (result_of l f) x
  unfolding answer_to
  steps_suit i f args (Step g bs v ins pieces freed) x a e k =
      let q = given_if (eqb g f && same_numbers bs args) (Value v) x e in
      let same : g ≡ f = eqb-true g f (and_parts (eqb g f) (same_numbers bs args) q.0).0 in
      let r : StepOf = record { func = g; args = bs; result = v; ins = ins; pieces = pieces; freed = freed } in
      subst (IsOfType (result_of l f)) q.1 (subst (λ j. is_value (result_of l j) v ≡ true) same (step_word r (builtin_of g) refl a))
  steps_suit i f args Turn x a e k = absurd (no_stop (is_fault_at_byte false Turn) x e k)
  steps_suit i f args (Load p y b) x a e k = absurd (no_stop (is_fault_at_byte false (Load p y b)) x e k)
  steps_suit i f args (Store p y b) x a e k = absurd (no_stop (is_fault_at_byte false (Store p y b)) x e k)
  steps_suit i f args (Enter g bs y b) x a e k = absurd (no_stop (is_fault_at_byte false (Enter g bs y b)) x e k)
  steps_suit i f args (Leave y size) x a e k = absurd (no_stop (is_fault_at_byte false (Leave y size)) x e k)
  steps_suit i f args (Fault kind c ins outs access) x a e k = absurd (no_stop (is_fault_at_byte false (Fault kind c ins outs access)) x e k)
  steps_suit i f args (Made ev) x a e k = absurd cc

  fails_not : (kind : FaultKind) (a : Act) (x : Answer) → answer_to (Fails kind) a ≡ Some x → LeadsOn x → ⊥
  unfolding answer_to
  fails_not kind (Made ev) x e k = absurd cc
  fails_not kind Turn x e k = no_stop (is_fault_of kind Nowhere Turn) x e k
  fails_not kind (Load p y b) x e k = no_stop (is_fault_of kind Nowhere (Load p y b)) x e k
  fails_not kind (Store p y b) x e k = no_stop (is_fault_of kind Nowhere (Store p y b)) x e k
  fails_not kind (Enter g bs y b) x e k = no_stop (is_fault_of kind Nowhere (Enter g bs y b)) x e k
  fails_not kind (Leave y size) x e k = no_stop (is_fault_of kind Nowhere (Leave y size)) x e k
  fails_not kind (Step g bs v ins pieces freed) x e k = no_stop (is_fault_of kind Nowhere (Step g bs v ins pieces freed)) x e k
  fails_not kind (Fault j c ins outs access) x e k = no_stop (is_fault_of kind Nowhere (Fault j c ins outs access)) x e k

  by : (want : Want) → IsOwn l s.side want → CarriesValues l want → Agrees w past s.thread s.side want m.act → (x : Answer) → answer_to want m.act ≡ Some x → LeadsOn x → Suits l want x
  by Outside o c a x e k = absurd o
  by Turns o c a x e k = tt
  by (Loads q at n) o c a x e k = load_suits q at n m.act x e k
  by (Stores q at bytes) o c a x e k = tt
  by (Enters i f args bytes) o c a x e k = enter_suits i f args bytes m.act x frame_word e k
  by (Leaves at n) o c a x e k = tt
  by (Allocs n) o c a x e k = alloc_suits n m.act x block_word e
  by (Frees at) o c a x e k = tt
  by (Calls i f args) o c a x e k = tt
  by (Below f args) o c a x e k = absurd o
  by (Gives f args) o c a x e k = gives_suits f args m.act x a e
  by (Returns f args v) o c a x e k = tt
  by (CallsBack f args bytes) o c a x e k = back_suits l f args bytes c m.act x frame_word e k
  by (UpReturns f v) o c a x e k = tt
  by (Steps i f args) o c a x e k = steps_suit i f args m.act x a e k
  by (Fails kind) o c a x e k = fails_not kind m.act x e k

  pub suit : (x : Answer) → reply s.side s.want m ≡ Some x → Suits l s.want x
  suit x e =
      by s.want (own_want w fit.code past known s) (carried w fit.code past known s) h.agrees x (replied s.side s.want m x e).1
      (answers_lead s.side s.want m x (no_fault w fit.code past known s m h m.act h.agrees) e)

pub answers_suit : (w : World) → IsFit w → AnswersSuit w
answers_suit w fit past follows s m h x e = suit w fit past follows s m h x e

pub suit_all : (w : World) → StepsSuit w
suit_all w fit = answers_suit w fit
