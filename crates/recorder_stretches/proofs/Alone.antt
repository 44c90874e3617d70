-- What the code of the only thread of a run comes to.
use Rattle.std.proofs.Common.{◌≡◌, ℕ, ◌<◌, Bool, true, false, List, length, Option, Some, None, refl, sym, ap, ◌∙◌, subst, arith}
use Rattle.marks.specs.declared.side.Side.{Side}
use Rattle.marks.specs.declared.side.Side.TheVariants.{Replay, System}
use Rattle.marks.specs.Marks.{Mark}
use Rattle.marks.specs.Wants.{Want, Answer}
use Rattle.c_code.specs.Machine.{Laid, Config, Going, Under, Entering, Closing, Starting, Done, Lost, Action, Silent, Asks, Pends, Awaits, Starts, Over, Stuck, Pending, action, entry, is_face}
use Rattle.c_code.specs.MarkLists.{Split, Next, Wants, below, called, entered_below, next_of, started as starts, step}
use Rattle.c_machine.specs.Accesses.{IsAccess as IsAccessShown, IsGoing}
use Rattle.c_machine.specs.declared.wants.Want.{Want as Shown}
use Rattle.c_machine.specs.declared.wants.Want.TheVariants as shows
use Rattle.c_machine.specs.Moves.{EntersBody, ThreadState, IsInside, at_call, ready}
use Rattle.c_machine.specs.Readers.{args_of, is_indirect, side_of}
use Rattle.c_machine.specs.Wants.{shown, shown_want}
use Rattle.whole_runs.specs.World.{World}
use Rattle.whole_runs.specs.Threads.{comes}
use Rattle.recorder_threads.specs.declared.wants.Next.TheVariants as next
use Rattle.recorder_threads.specs.declared.wants.Want.{Want as Told}
use Rattle.recorder_threads.specs.declared.wants.Want.TheVariants as told
use Rattle.recorder_threads.specs.Telling.{told_mark}
use Rattle.recorder_threads.specs.Threads.{IsNextOf, args_at, place_of, thread_at}
use Rattle.recorder_threads.specs.Wants.{IsNextTold, IsTold, WantsTold}
use Rattle.recorder_threads.proofs.Asked as asking
use Rattle.recorder_threads.proofs.Places.{rests, thread_is}
use Rattle.recorder_threads.proofs.Told.{IsNoCall, mark_told}
use Rattle.recorder_state.specs.declared.state.RunState.{RunState}
use Rattle.recorder_state.specs.Stands.{IsKnown, IsReached}
use Rattle.recorder_stretches.specs.Stretches.{IsAccessTold, IsAtAccess}
use Rattle.recorder_stretches.proofs.Bodies.{IsAccess}

-- ---- what its code comes to

-- an access or a round is one of code of this side
abbrev IsOf : Config → Next → Type 0
IsOf c (Wants side want to) = IsAccess want → side_of c ≡ side
IsOf c n = Unit {0}

module _ (l : Laid) where
  call_of : (c : Config) (p : Pending) (side : Side) (face : Bool) (at : Option ℕ) → IsOf c (called l p side face at)
  call_of c p Replay true at = λ h. absurd h
  call_of c p Replay false (Some at) = λ h. absurd h
  call_of c p Replay false None = λ h. absurd h
  call_of c p System face (Some at) = by p.call.indirect
    where
      by : (i : Bool) → IsOf c (entered_below l p i)
      by true = λ h. absurd h
      by false = λ h. absurd h
  call_of c p System face None = λ h. absurd h

  below_of : (c : Config) (p : Pending) (at : Option ℕ) → IsOf c (below Split l p at)
  below_of c p (Some at) = λ h. absurd h
  below_of c p None = λ h. absurd h

  start_of : (c : Config) (f : ℕ) (args : List ℕ) (at : Option ℕ) → IsOf c (starts l f args at)
  start_of c f args (Some at) = λ h. absurd h
  start_of c f args None = λ h. absurd h

  next_is_of : (c : Config) (a : Action) → asking.Asked l c a → IsOf (at_call a c) (next_of Split l a)
  next_is_of c (Asks s k to) h = λ access. sym h.0
  next_is_of c (Pends p) h = call_of (at_call (Pends p) c) p p.call.then.side (is_face l p.call.func) (entry l p.call.func)
  next_is_of c (Awaits p) h = below_of c p (entry l p.call.func)
  next_is_of c (Starts f args) h = start_of c f args (entry l f)
  next_is_of c (Silent d) h = tt
  next_is_of c (Over v) h = tt
  next_is_of c Stuck h = tt

  pub side_asked : (c : Config) (side : Side) (want : Want) (to : Answer → Config) → step Split l c ≡ Wants side want to → IsAccess want → side_of (ready l c) ≡ side
  side_asked c side want to e access = let here : IsOf (ready l c) (Wants side want to) = subst (IsOf (ready l c)) e (next_is_of c (action l c) (asking.asked l c)) in here access

-- what is told as an access is one
told_access : (l : Laid) (args : List ℕ) (said : Told) (want : Want) → IsAccessTold said → IsTold l args said want → IsAccess want
told_access l args told.Turn want h is = subst IsAccess (sym is) tt
told_access l args (told.Load at n) want h is = subst IsAccess (sym is.1) tt
told_access l args (told.Store at n v) want h is = subst IsAccess (sym is.1) tt
told_access l args (told.Enter i f size) want h is = absurd h
told_access l args told.Leave want h is = absurd h
told_access l args (told.Alloc n) want h is = absurd h
told_access l args (told.Free at) want h is = absurd h
told_access l args (told.Call i f) want h is = absurd h
told_access l args (told.Give f) want h is = absurd h
told_access l args (told.Return f v) want h is = absurd h
told_access l args (told.CallBack f size) want h is = absurd h
told_access l args (told.UpReturn v) want h is = absurd h
told_access l args (told.Step i f) want h is = absurd h
told_access l args (told.Fault n) want h is = absurd h

shown_no_call : (v : Shown) → IsAccessShown v → IsNoCall v
shown_no_call shows.Turn h f e = absurd cc
shown_no_call (shows.Load at n) h f e = absurd cc
shown_no_call (shows.Store at n v) h f e = absurd cc
shown_no_call (shows.Ended v) h f e = absurd h
shown_no_call (shows.Enter g size) h f e = absurd h
shown_no_call shows.Leave h f e = absurd h
shown_no_call (shows.Ret g v) h f e = absurd h
shown_no_call (shows.Alloc n) h f e = absurd h
shown_no_call (shows.Free at) h f e = absurd h
shown_no_call (shows.Call g) h f e = absurd h
shown_no_call (shows.UpRet v) h f e = absurd h
shown_no_call (shows.Fault n) h f e = absurd h

going_side : (side : Side) (c : Config) → IsGoing side c → side_of c ≡ side
going_side side (Going a vs ws) h = h
going_side side (Under call vs ws) h = absurd h
going_side side (Entering s i f args vs ws) h = absurd h
going_side side (Closing v u vs ws) h = absurd h
going_side side (Starting f args) h = absurd h
going_side side (Done v) h = absurd h
going_side side Lost h = absurd h

module _ (w : World) (s : RunState) (r : IsReached w s) (one : length s.threads ≡ 1) where
  abbrev pub past : List Mark
  past = r.past

  abbrev pub thread : ThreadState
  thread = thread_at s.threads 0

  lt : 0 < length s.threads
  lt = omega (arith, one)

  config_is : thread.config ≡ ready w.laid (place_of w past 0)
  config_is = ap (λ (t : ThreadState). t.config) (thread_is w past s.threads r.around.shown.threads 0 lt) ∙ (rests w past 0).config

  -- its side is that on which an access is told
  pub side_told : (side : Side) (said : Told) → IsAccessTold said → WantsTold w.laid (args_at s.threads 0) side said (comes w past 0) → side_of thread.config ≡ side
  side_told side said access n = ap side_of config_is ∙ side_asked w.laid (place_of w past 0) side n.want n.to n.wants (told_access w.laid (args_at s.threads 0) said n.want access n.is_told)

  -- an access that it shows is told
  pub access_told : (v : Shown) (side : Side) (want : Want) (to : Answer → Config) → IsAccessShown v → IsInside w.laid thread.config → IsGoing side thread.config → action w.laid thread.config ≡ Asks side want to → shown_want w.laid want ≡ Some v
      → IsNextTold w.laid (args_at s.threads 0) (told_mark side (is_indirect thread.config) v) (comes w past 0)
  access_told v side want to access inside going asks shows_so =
      let place : Config = place_of w past 0 in
      let e : shown w.laid (action w.laid (ready w.laid place)) ≡ Some v = sym (ap (λ c. shown w.laid (action w.laid c)) config_is) ∙ (ap (shown w.laid) asks ∙ shows_so) in
      let there : IsNextTold w.laid (args_of (ready w.laid place)) (told_mark (side_of (ready w.laid place)) (is_indirect (ready w.laid place)) v) (step Split w.laid place) =
      mark_told w.laid r.fit.code.valid place v (shown_no_call v access) (subst (EntersBody w.laid) config_is inside.enters) e (rests w past 0).settles in
      let here : IsNextTold w.laid (args_of thread.config) (told_mark (side_of thread.config) (is_indirect thread.config) v) (step Split w.laid place) =
      subst (λ c. IsNextTold w.laid (args_of c) (told_mark (side_of c) (is_indirect c) v) (step Split w.laid place)) (sym config_is) there in
      subst (λ d. IsNextTold w.laid (args_of thread.config) (told_mark d (is_indirect thread.config) v) (step Split w.laid place)) (going_side side thread.config going) here

-- where it is known to come to an access on this side, it is on that side
pub side_known : (w : World) (s : RunState) (r : IsReached w s) (side : Side) (at : IsAtAccess s side) → side_of (thread_at s.threads 0).config ≡ side
side_known w s r side at =
    let known : (at.thread < length s.threads) × IsNextOf w.laid s.threads at.thread (next.Wants side at.want) = subst (IsKnown w.laid s.threads) at.known r.known in
    let first : at.thread ≡ 0 = let lt = known.0 in let one = at.alone in omega (arith, lt, one) in
    let is : IsNextOf w.laid s.threads 0 (next.Wants side at.want) = subst (λ t. IsNextOf w.laid s.threads t (next.Wants side at.want)) first known.1 in
    side_told w s r at.alone side at.want at.access (is w r.past refl r.around.shown.threads)
