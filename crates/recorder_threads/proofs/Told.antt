-- What a thread shows where it rests tells what its code comes to.
use Rattle.std.proofs.Common.{◌≡◌, ℕ, Bool, true, false, ◌&&◌, List, [], ◌∷◌, length, Option, Some, None, refl, sym, ap, ◌∙◌, subst}
use Rattle.marks.specs.declared.side.Side.{Side}
use Rattle.marks.specs.declared.side.Side.TheVariants.{Replay, System}
use Rattle.marks.specs.Kinds.{fault_number}
use Rattle.marks.specs.Ranges.{number_of_bytes}
use Rattle.marks.specs.Wants.{Want, Outside, Turns, Loads, Stores, Enters, Leaves, Allocs, Frees, Calls, Below, Gives, Returns, CallsBack, UpReturns, Steps, Fails, Answer}
use Rattle.c_code.specs.declared.code.FuncInfo.{FuncInfo}
use Rattle.c_code.specs.declared.activation.Waiting.TheVariants.{ForValue}
use Rattle.c_code.specs.Machine.{Laid, Pending, Config, Going, Under, Entering, Closing, Starting, Done, Lost, Action, Silent, Asks, Pends, Awaits, Starts, Over, Stuck, action, awaiting, bytes_for, entry, entry_of, frame_of, framed, func_of, is_face, take_args, valued, with_args}
use Rattle.c_code.specs.MarkLists.{Split, Next, Wants, Ends, after_call_back, called, below, entered_below, has_entry, next_of, result_of, same_side, settled, started, step}
use Rattle.c_code.specs.Valid.{IsValid}
use Rattle.c_code.proofs.FrameBytes.{frame_count}
use Rattle.c_code.proofs.Settles.{IsLoud, settled_is_loud}
use Rattle.c_machine.specs.declared.wants.Want.{Want as Shown}
use Rattle.c_machine.specs.declared.wants.Want.TheVariants as shows
use Rattle.c_machine.specs.Callers.{IsAtReturn, crosses_at}
use Rattle.c_machine.specs.Makes.{IsCut}
use Rattle.c_machine.specs.Moves.{EntersBody, at_call, crosses, is_below, ready}
use Rattle.c_machine.specs.Readers.{args_of, is_indirect, mode_of, side_of}
use Rattle.c_machine.specs.Wants.{frame_size, shown, shown_want}
use Rattle.c_machine.proofs.Callers.{args_are}
use Rattle.c_machine.proofs.Facts.{Facts, facts}
use Rattle.c_machine.proofs.Returning.{return_wanted}
use Rattle.recorder_threads.specs.declared.wants.Want.{Want as Told}
use Rattle.recorder_threads.specs.declared.wants.Want.TheVariants as told
use Rattle.recorder_threads.specs.Wants.{IsFrameSize, IsNextTold, IsTold, WantsTold}
use Rattle.recorder_threads.specs.Telling.{body_frame, frame_in, told_call, told_crossing, told_mark}
use Rattle.recorder_threads.proofs.Asked.{Asked, Fits, asked}
use Rattle.recorder_threads.proofs.Crossing.{cross_is}

-- no call
abbrev pub IsNoCall : Shown → Type 0
IsNoCall w = (f : ℕ) → w ≡ shows.Call f → ⊥

shown_is : (v w : Shown) → Some v ≡ Some w → v ≡ w
shown_is v w e = cc

abbrev call_func : Shown → ℕ
call_func (shows.Call f) = f
call_func w = 0

-- ---- frames

module _ (l : Laid) (valid : IsValid l.code) where
  frame_is : (o : Option FuncInfo) (f at : ℕ) → func_of l.code f ≡ o → entry_of o ≡ Some at → (args : List ℕ) → length (bytes_for o args) ≡ frame_size o
  frame_is None f at e z args = absurd cc
  frame_is (Some info) f at e z args = frame_count info args (valid.steady.bodies f info at e z).holds

  some_entry : (f : ℕ) → has_entry (entry l f) ≡ true → (at : ℕ) × (entry l f ≡ Some at)
  some_entry f h = by (entry l f) refl h
    where
      by : (o : Option ℕ) → entry l f ≡ o → has_entry o ≡ true → (at : ℕ) × (entry l f ≡ Some at)
      by (Some at) e z = (at, e)
      by None e z = absurd cc

  pub size_is : (f at : ℕ) → entry l f ≡ Some at → (args : List ℕ) → IsFrameSize l f args (frame_size (func_of l.code f))
  size_is f at e args = record { body = ap has_entry e; count = frame_is (func_of l.code f) f at refl e args }

body_is : (o : Option FuncInfo) (at : ℕ) → entry_of o ≡ Some at → body_frame o ≡ Some (frame_size o)
body_is None at e = absurd cc
body_is (Some info) at e = ap (λ z. frame_in z info.frame) e

no_body : (o : Option FuncInfo) → entry_of o ≡ None → body_frame o ≡ None
no_body None e = refl
no_body (Some info) e = ap (λ z. frame_in z info.frame) e

-- ---- marks

abbrev returned_in : Action → List ℕ
returned_in (Asks s (Returns f args v) k) = args
returned_in x = []

module _ (l : Laid) (valid : IsValid l.code) where
  abbrev Tells : Config → Shown → Next → Type 0
  Tells c w n = IsNextTold l (args_of c) (told_mark (side_of c) (is_indirect c) w) n

  wants : (c : Config) (s : Side) (w : Want) (k : Answer → Config) (t : Told) → s ≡ side_of c → IsTold l (args_of c) t w → WantsTold l (args_of c) (side_of c) t (Wants s w k)
  wants c s w k t es is = record { want = w; to = k; wants = ap (λ d. Wants d w k) es; is_told = is }

  asks_told : (c : Config) (s : Side) (w : Want) (k : Answer → Config) (v : Shown) → action l c ≡ Asks s w k → EntersBody l c → s ≡ side_of c → Fits l c w → shown_want l w ≡ Some v → Tells c v (Wants s w k)
  asks_told c s Outside k v ea h es fits e = absurd cc
  asks_told c s Turns k v ea h es fits e = subst (λ x. Tells c x (Wants s Turns k)) (shown_is _ v e) (wants c s Turns k told.Turn es refl)
  asks_told c s (Loads o at n) k v ea h es fits e = subst (λ x. Tells c x (Wants s (Loads o at n) k)) (shown_is _ v e) (wants c s (Loads o at n) k (told.Load at n) es (o, refl, fits))
  asks_told c s (Stores o at bytes) k v ea h es fits e =
      subst (λ x. Tells c x (Wants s (Stores o at bytes) k)) (shown_is _ v e) (wants c s (Stores o at bytes) k (told.Store at (length bytes) (number_of_bytes bytes)) es (o, ap (Stores o at) fits.number, fits.width))
  asks_told c s (Enters i f args bytes) k v ea h es fits e =
      let entered = some_entry l valid f (fits.3 h) in
      let same : Enters i f args bytes ≡ Enters (is_indirect c) f (args_of c) (frame_of l f (args_of c)) = λ j. Enters (fits.0 j) f (fits.1 j) ((fits.2 ∙ ap (frame_of l f) fits.1) j) in
      subst (λ x. Tells c x (Wants s (Enters i f args bytes) k)) (shown_is _ v e)
      (wants c s (Enters i f args bytes) k (told.Enter (is_indirect c) f (frame_size (func_of l.code f))) es (same, size_is l valid f entered.0 entered.1 (args_of c)))
  asks_told c s (Leaves at n) k v ea h es fits e = subst (λ x. Tells c x (Wants s (Leaves at n) k)) (shown_is _ v e) (wants c s (Leaves at n) k told.Leave es (at, n, refl))
  asks_told c s (Allocs n) k v ea h es fits e = subst (λ x. Tells c x (Wants s (Allocs n) k)) (shown_is _ v e) (wants c s (Allocs n) k (told.Alloc n) es refl)
  asks_told c s (Frees at) k v ea h es fits e = subst (λ x. Tells c x (Wants s (Frees at) k)) (shown_is _ v e) (wants c s (Frees at) k (told.Free at) es refl)
  asks_told c s (Calls i f args) k v ea h es fits e = absurd cc
  asks_told c s (Below f args) k v ea h es fits e = absurd cc
  asks_told c s (Gives f args) k v ea h es fits e = absurd cc
  asks_told c s (Returns f args u) k v ea h es fits e =
      let at : IsAtReturn l c f u = return_wanted l f u c h (ap (shown l) ea) in
      let same : args ≡ args_of c = ap returned_in (sym ea ∙ at.1) in
      subst (λ x. Tells c x (Wants s (Returns f args u) k)) (shown_is _ v e) (wants c s (Returns f args u) k (told.Return f u) es (ap (λ xs. Returns f xs u) same))
  asks_told c s (CallsBack f args bytes) k v ea h es fits e = absurd cc
  asks_told c s (UpReturns f u) k v ea h es fits e = subst (λ x. Tells c x (Wants s (UpReturns f u) k)) (shown_is _ v e) (wants c s (UpReturns f u) k (told.UpReturn u) es (f, refl))
  asks_told c s (Steps i f args) k v ea h es fits e = absurd cc
  asks_told c s (Fails kind) k v ea h es fits e = subst (λ x. Tells c x (Wants s (Fails kind) k)) (shown_is _ v e) (wants c s (Fails kind) k (told.Fault (fault_number kind)) es (kind, refl, refl))

  -- a mark that it shows
  module _ (c : Config) (v : Shown) (no : IsNoCall v) (h : EntersBody l (ready l c)) (e : shown l (action l (ready l c)) ≡ Some v) where
    no_call : (f : ℕ) → action l (ready l c) ≡ action l (ready l c) → shown l (action l (ready l c)) ≡ Some (shows.Call f) → {A : Type 0} → A
    no_call f z k = absurd (no f (shown_is v (shows.Call f) (sym e ∙ k)))

    by_mark : (a : Action) → action l c ≡ a → IsLoud a → Facts l c a → Asked l c a → Tells (ready l c) v (next_of Split l a)
    by_mark (Silent d) ea loud f asks = absurd loud
    by_mark (Asks s w k) ea loud f asks =
        let et : ready l c ≡ c = ap (λ a. at_call a c) ea in
        let shows_so : shown_want l w ≡ Some v = sym (ap (shown l) (ap (action l) et ∙ ea)) ∙ e in
        subst (λ d. Tells d v (Wants s w k)) (sym et) (asks_told c s w k v ea (subst (EntersBody l) et h) asks.0 asks.1 shows_so)
    by_mark (Pends p) ea loud f asks =
        let et : ready l c ≡ Under p.call p.values p.waits = ap (λ a. at_call a c) ea in
        no_call p.call.func refl (ap (shown l) (ap (action l) et ∙ f.0))
    by_mark (Awaits p) ea loud f asks = let et : ready l c ≡ c = ap (λ a. at_call a c) ea in no_call p.call.func refl (ap (shown l) (ap (action l) et ∙ ea))
    by_mark (Starts g args) ea loud f asks = let et : ready l c ≡ c = ap (λ a. at_call a c) ea in no_call g refl (ap (shown l) (ap (action l) et ∙ ea))
    by_mark (Over u) ea loud f asks =
        let et : ready l c ≡ c = ap (λ a. at_call a c) ea in
        let shows_so : Some (shows.Ended u) ≡ Some v = sym (ap (shown l) (ap (action l) et ∙ ea)) ∙ e in
        subst (λ x. Tells (ready l c) x (Ends u)) (shown_is (shows.Ended u) v shows_so) refl
    by_mark Stuck ea loud f asks = let et : ready l c ≡ c = ap (λ a. at_call a c) ea in let shows_so : None ≡ Some v = sym (ap (shown l) (ap (action l) et ∙ ea)) ∙ e in absurd cc

    pub mark_told : settled l c ≡ c → Tells (ready l c) v (step Split l c)
    mark_told is = by_mark (action l c) refl (subst (λ d. IsLoud (action l d)) is (settled_is_loud l c)) (facts l c) (asked l c)

-- ---- calls

module _ (l : Laid) (valid : IsValid l.code) where
  -- what is told of a call of the function, where it crosses the cut and where it doesn't
  pub record CallTold (made : Bool) (q : Config) (args : List ℕ) (f : ℕ) (n : Next) : Type 0 where
    pub crossing : crosses_at l q ≡ true → IsNextTold l args (told_crossing (mode_of made q) (is_indirect q) f (body_frame (func_of l.code f))) n
    pub plain : crosses_at l q ≡ false → IsNextTold l args (told_call (side_of q) (is_indirect q) f (body_frame (func_of l.code f))) n

  abbrev frame : ℕ → Option ℕ
  frame f = body_frame (func_of l.code f)

  -- one that is to be made
  pends_crossing : (p : Pending) (side : Side) (face : Bool) (at : Option ℕ) → crosses l p.call ≡ (same_side side Replay && face) → crosses l p.call ≡ true → IsNextTold l p.args (told_crossing side p.call.indirect p.call.func (frame p.call.func)) (called l p side face at)
  pends_crossing p Replay true at e z = record { want = _; to = _; wants = refl; is_told = refl }
  pends_crossing p Replay false at e z = absurd cc
  pends_crossing p System face at e z = absurd cc

  entered_told : (p : Pending) (side : Side) (i : Bool) (at : ℕ) → entry l p.call.func ≡ Some at → (bytes : List ℕ) → bytes ≡ frame_of l p.call.func p.args → (to : Answer → Config)
      → WantsTold l p.args side (told.Enter i p.call.func (frame_size (func_of l.code p.call.func))) (Wants side (Enters i p.call.func p.args bytes) to)
  entered_told p side i at e bytes eb to = record { want = _; to = to; wants = refl; is_told = (ap (Enters i p.call.func p.args) eb, size_is l valid p.call.func at e p.args) }

  with_body : (f at : ℕ) → entry l f ≡ Some at → frame f ≡ Some (frame_size (func_of l.code f))
  with_body f at e = body_is (func_of l.code f) at e

  without_body : (f : ℕ) → entry l f ≡ None → frame f ≡ None
  without_body f e = no_body (func_of l.code f) e

  abbrev enters : Pending → Want
  enters p = Enters p.call.indirect p.call.func p.args (frame_of l p.call.func p.args)

  abbrev entering : Pending → Answer → Config
  entering p = framed l p.call.then.side p.call.func p.rest (ForValue p.call.then ∷ p.waits)

  abbrev steps : Pending → Want
  steps p = Steps p.call.indirect p.call.func p.args

  abbrev stepping : Pending → Answer → Config
  stepping p = valued (result_of l p.call.func) p.call.then p.rest p.waits

  pends_plain : (p : Pending) (side : Side) (face : Bool) (at : Option ℕ) → p.call.then.side ≡ side → entry l p.call.func ≡ at → crosses l p.call ≡ (same_side side Replay && face) → crosses l p.call ≡ false
      → IsNextTold l p.args (told_call side p.call.indirect p.call.func (frame p.call.func)) (called l p side face at)
  pends_plain p Replay true at es ea e z = absurd cc
  pends_plain p Replay false (Some at) es ea e z =
      subst (λ o. IsNextTold l p.args (told_call Replay p.call.indirect p.call.func o) (called l p Replay false (Some at))) (sym (with_body p.call.func at ea))
      (record { want = enters p; to = entering p; wants = ap (λ s. Wants s (enters p) (entering p)) es; is_told = (refl, size_is l valid p.call.func at ea p.args) })
  pends_plain p Replay false None es ea e z =
      subst (λ o. IsNextTold l p.args (told_call Replay p.call.indirect p.call.func o) (called l p Replay false None)) (sym (without_body p.call.func ea))
      (record { want = steps p; to = stepping p; wants = ap (λ s. Wants s (steps p) (stepping p)) es; is_told = refl })
  pends_plain p System face (Some at) es ea e z =
      subst (λ o. IsNextTold l p.args (told_call System p.call.indirect p.call.func o) (called l p System face (Some at))) (sym (with_body p.call.func at ea)) (by p.call.indirect refl)
    where
      bytes : List ℕ
      bytes = frame_of l p.call.func p.args

      by : (i : Bool) → p.call.indirect ≡ i → IsNextTold l p.args (told_call System i p.call.func (Some (frame_size (func_of l.code p.call.func)))) (entered_below l p i)
      by true ei = record { want = CallsBack p.call.func p.args bytes; to = after_call_back l p; wants = refl; is_told = (refl, size_is l valid p.call.func at ea p.args) }
      by false ei = record {
        want = Enters false p.call.func p.args bytes;
        to = entering p;
        wants = ap (λ s. Wants s (enters p) (entering p)) es ∙ ap (λ i. Wants System (Enters i p.call.func p.args bytes) (entering p)) ei;
        is_told = (refl, size_is l valid p.call.func at ea p.args);
      }
  pends_plain p System face None es ea e z =
      subst (λ o. IsNextTold l p.args (told_call System p.call.indirect p.call.func o) (called l p System face None)) (sym (without_body p.call.func ea))
      (record { want = steps p; to = stepping p; wants = ap (λ s. Wants s (steps p) (stepping p)) es; is_told = refl })

  -- one below which the thread is
  awaits_told : (p : Pending) (at : Option ℕ) → entry l p.call.func ≡ at → IsNextTold l p.args (told_crossing System p.call.indirect p.call.func (frame p.call.func)) (below Split l p at)
  awaits_told p (Some at) ea =
      subst (λ o. IsNextTold l p.args (told_crossing System p.call.indirect p.call.func o) (below Split l p (Some at))) (sym (with_body p.call.func at ea))
      (record { want = _; to = _; wants = refl; is_told = (refl, size_is l valid p.call.func at ea p.args) })
  awaits_told p None ea =
      subst (λ o. IsNextTold l p.args (told_crossing System p.call.indirect p.call.func o) (below Split l p None)) (sym (without_body p.call.func ea))
      (record { want = _; to = _; wants = refl; is_told = refl })

  -- a thread's first one
  starts_told : (f : ℕ) (args : List ℕ) (at : Option ℕ) → entry l f ≡ at → IsNextTold l args (told_call System true f (frame f)) (started l f args at)
  starts_told f args (Some at) ea =
      subst (λ o. IsNextTold l args (told_call System true f o) (started l f args (Some at))) (sym (with_body f at ea))
      (record { want = _; to = _; wants = refl; is_told = (refl, size_is l valid f at ea args) })
  starts_told f args None ea =
      subst (λ o. IsNextTold l args (told_call System true f o) (started l f args None)) (sym (without_body f ea))
      (record { want = _; to = _; wants = refl; is_told = refl })

  -- a thread at a call that is to be made is not below one
  not_below : (c : Config) (p : Pending) → action l c ≡ Pends p → is_below c ≡ false
  not_below (Under call vs ws) p e = absurd (by (take_args call.args [] vs) e)
    where
      by : (o : Option (List ℕ × List ℕ)) → with_args o (awaiting call vs ws) ≡ Pends p → ⊥
      by None z = cc
      by (Some taken) z = cc
  not_below (Going a vs ws) p e = refl
  not_below (Entering s i f args vs ws) p e = refl
  not_below (Closing v w vs ws) p e = refl
  not_below (Starting f args) p e = refl
  not_below (Done v) p e = refl
  not_below Lost p e = refl

  not_shown : (w : Want) (f : ℕ) → shown_want l w ≡ Some (shows.Call f) → {A : Type 0} → A
  not_shown Turns f e = absurd cc
  not_shown (Loads o at n) f e = absurd cc
  not_shown (Stores o at bytes) f e = absurd cc
  not_shown (Enters i g args bytes) f e = absurd cc
  not_shown (Leaves at n) f e = absurd cc
  not_shown (Allocs n) f e = absurd cc
  not_shown (Frees at) f e = absurd cc
  not_shown (Returns g args v) f e = absurd cc
  not_shown (UpReturns g v) f e = absurd cc
  not_shown (Fails kind) f e = absurd cc
  not_shown Outside f e = absurd cc
  not_shown (Calls i g args) f e = absurd cc
  not_shown (Below g args) f e = absurd cc
  not_shown (Gives g args) f e = absurd cc
  not_shown (CallsBack g args bytes) f e = absurd cc
  not_shown (Steps i g args) f e = absurd cc

  -- where the thread is below the call or not, and its arguments lie on top
  module _ (c : Config) (f : ℕ) (cut : IsCut l c) (e : shown l (action l (ready l c)) ≡ Some (shows.Call f)) where
    func_is : (g : ℕ) → shown l (action l (ready l c)) ≡ Some (shows.Call g) → g ≡ f
    func_is g k = ap call_func (shown_is (shows.Call g) (shows.Call f) (sym k ∙ e))

    same_args : (p : Pending) → action l (Under p.call p.values p.waits) ≡ Awaits p → p.args ≡ args_of (Under p.call p.values p.waits)
    same_args p ea = args_are p.call p.values p.waits p ea

    by_call : (a : Action) → action l c ≡ a → IsLoud a → Facts l c a → CallTold (is_below c) (ready l c) (args_of (ready l c)) f (next_of Split l a)
    by_call (Silent d) ea loud h = absurd loud
    by_call (Asks s w k) ea loud h =
        let et : ready l c ≡ c = ap (λ a. at_call a c) ea in
        not_shown w f (sym (ap (shown l) (ap (action l) et ∙ ea)) ∙ e)
    by_call (Pends p) ea loud h =
        let et : ready l c ≡ Under p.call p.values p.waits = ap (λ a. at_call a c) ea in
        let func = func_is p.call.func (ap (shown l) (ap (action l) et ∙ h.0)) in
        let side = p.call.then.side in
        let face = is_face l p.call.func in
        let z = cross_is l p side face refl refl in
        let here : CallTold false (Under p.call p.values p.waits) p.args p.call.func (called l p side face (entry l p.call.func)) = record {
          crossing = pends_crossing p side face (entry l p.call.func) z;
          plain = pends_plain p side face (entry l p.call.func) refl refl z;
        } in
        subst (λ b. CallTold b (ready l c) (args_of (ready l c)) f (next_of Split l (Pends p))) (sym (not_below c p ea))
        (subst (λ d. CallTold false d (args_of d) f (next_of Split l (Pends p))) (sym et)
        (subst (λ g. CallTold false (Under p.call p.values p.waits) (args_of (Under p.call p.values p.waits)) g (next_of Split l (Pends p))) func
        (subst (λ xs. CallTold false (Under p.call p.values p.waits) xs p.call.func (next_of Split l (Pends p))) (same_args p h.0) here)))
    by_call (Awaits p) ea loud h =
        let et : ready l c ≡ Under p.call p.values p.waits = ap (λ a. at_call a c) ea ∙ h.0 in
        let there : action l (Under p.call p.values p.waits) ≡ Awaits p = ap (action l) (sym h.0) ∙ ea in
        let func = func_is p.call.func (ap (shown l) (ap (action l) et ∙ there)) in
        let cr : crosses l p.call ≡ true = (subst (IsCut l) h.0 cut).0 in
        let here : CallTold true (Under p.call p.values p.waits) p.args p.call.func (below Split l p (entry l p.call.func)) = record {
          crossing = λ z. awaits_told p (entry l p.call.func) refl;
          plain = λ z. (let no : true ≡ false = sym cr ∙ z in absurd cc);
        } in
        subst (λ b. CallTold b (ready l c) (args_of (ready l c)) f (next_of Split l (Awaits p))) (sym (ap is_below h.0))
        (subst (λ d. CallTold true d (args_of d) f (next_of Split l (Awaits p))) (sym et)
        (subst (λ g. CallTold true (Under p.call p.values p.waits) (args_of (Under p.call p.values p.waits)) g (next_of Split l (Awaits p))) func
        (subst (λ xs. CallTold true (Under p.call p.values p.waits) xs p.call.func (next_of Split l (Awaits p))) (same_args p there) here)))
    by_call (Starts g args) ea loud h =
        let et : ready l c ≡ Starting (Some g) args = ap (λ a. at_call a c) ea ∙ h in
        let func = func_is g (ap (shown l) (ap (action l) et)) in
        let here : (b : Bool) → CallTold b (Starting (Some g) args) args g (started l g args (entry l g)) = λ b. record {
          crossing = λ z. absurd cc;
          plain = λ z. starts_told g args (entry l g) refl;
        } in
        subst (λ d. CallTold (is_below c) d (args_of d) f (next_of Split l (Starts g args))) (sym et)
        (subst (λ k. CallTold (is_below c) (Starting (Some g) args) args k (next_of Split l (Starts g args))) func (here (is_below c)))
    by_call (Over u) ea loud h = let et : ready l c ≡ c = ap (λ a. at_call a c) ea in let z : Some (shows.Ended u) ≡ Some (shows.Call f) = sym (ap (shown l) (ap (action l) et ∙ ea)) ∙ e in absurd cc
    by_call Stuck ea loud h = let et : ready l c ≡ c = ap (λ a. at_call a c) ea in let z : None ≡ Some (shows.Call f) = sym (ap (shown l) (ap (action l) et ∙ ea)) ∙ e in absurd cc

    pub call_told : settled l c ≡ c → CallTold (is_below c) (ready l c) (args_of (ready l c)) f (step Split l c)
    call_told is = by_call (action l c) refl (subst (λ d. IsLoud (action l d)) is (settled_is_loud l c)) (facts l c)
