-- A step leads from a place to one with what its mark leaves open.
use Rattle.std.proofs.Common.{◌≡◌, ◌≢◌, ◌⊎◌, inl, inr, ℕ, zero, suc, ◌+◌, Bool, true, false, cond, List, [], ◌∷◌, ◌++◌, length, Option, Some, None, refl, sym, ap, subst, arith}
use Rattle.marks.specs.declared.side.Side.{Side}
use Rattle.marks.specs.declared.side.Side.TheVariants.{Replay, System}
use Rattle.marks.specs.Ranges.{range}
use Rattle.marks.specs.Wants.{Want, Outside, Enters, Calls, Below, CallsBack, Steps, Answer, Go, Value, Frame, CalledBack, Stopped}
use Rattle.c_code.specs.declared.activation.Activation.{Activation}
use Rattle.c_code.specs.declared.activation.Call.{Call}
use Rattle.c_code.specs.declared.activation.Waiting.{Waiting}
use Rattle.c_code.specs.declared.activation.Waiting.TheVariants.{ForValue, ForRet, ForUpRet, ForBelow, ForOutside}
use Rattle.c_code.specs.Values.{is_value}
use Rattle.c_code.specs.Machine.{Laid, Config, Going, Under, Closing, Done, Lost, Action, Silent, Asks, Pends, Awaits, Starts, Over, Stuck, Pending, at_place, is_face, entry, frame_of, framed, valued, give, take_args, with_args, awaiting, returning, start, action}
use Rattle.c_code.specs.MarkLists.{Reading, Split, Above, Next, Quiet, Wants, Ends, No, result_of, called_back, after_below, after_call_back, after_outside, after_start, entered_below, called, below, outside, ended, started, next_of, step, room, or_stay, settle, settled}
use Rattle.c_code.specs.Valid.{Leads, IsSteady}
use Rattle.c_code.specs.Fits.{with_address}
use Rattle.c_code.specs.Opens.{Opens, nothing, with_call, with_up, in_function, taken, topmost, EndsInnermost}
use Rattle.c_code.proofs.OpenMarks.{want_opens, quiet_want}
use Rattle.c_code.proofs.Settles.{IsLoud}
use Rattle.c_code.proofs.Walk as walks
use Rattle.c_code.proofs.Walk.{call_to, Walks, walk, within_valued}
use Rattle.c_code.proofs.OpenPlaces.{Layers, Bottom, Layer, waits_in, values_in, opens_of, IsCrossing, Runs, runs_above, is_lost, SitsCall, Sits, AllSit, Stands, going, under, entering, closing, starting, done, lost, gives, stays_within, framed_at, framed_stands, back_stands, call_taken, left_frame, first_frame, quiet_ends}

module _ (r : Reading) (l : Laid) (height : ℕ → ℕ) where
  -- what is wanted, and where each answer leads
  abbrev pub Comes : Opens → Side → Want → (Answer → Config) → Type 0
  Comes o side want to = Runs r side × EndsInnermost side want o × ((x : Answer) → Stands r l height (want_opens side want x o) (to x))

  -- a call that code at a place makes
  pub data PendsIn : Opens → Pending → Type 0 where
    pends_in : (a : Activation) (f : ℕ) (i : Bool) (q : ℕ) (args seg rest under_args : List ℕ) (s : Layers) → Leads l.code height q (length rest + 1) → length seg ≡ length rest + with_address i (length args) → take_args (length args) [] (seg ++ values_in s) ≡ Some (args, under_args)
        → Runs r a.side → AllSit r l height s
        → PendsIn (in_function a (opens_of s)) (record { call = call_to f i args q a; args = args; values = seg ++ values_in s; rest = rest ++ values_in s; waits = waits_in s })

  -- a call below which code is
  pub data AwaitsIn : Opens → Pending → Type 0 where
    awaits_in : (call : Call) (seg rest args : List ℕ) (s : Layers) → SitsCall r l height call seg → Leads l.code height call.then.at (length rest + 1) → topmost call.args (seg ++ values_in s) ≡ args
        → Runs r call.then.side → AllSit r l height s
        → AwaitsIn (in_function call.then (with_call call.func args (opens_of s))) (record { call = call; args = args; values = seg ++ values_in s; rest = rest ++ values_in s; waits = waits_in s })

  abbrev pub Acts : Opens → Action → Type 0
  Acts o (Silent d) = Stands r l height o d
  Acts o (Asks side want to) = Comes o side want to
  Acts o (Pends p) = PendsIn o p
  Acts o (Awaits p) = AwaitsIn o p
  Acts o (Starts f args) = (o ≡ nothing) × (r ≡ Split)
  Acts o (Over v) = o ≡ nothing
  Acts o Stuck = ⊥

  abbrev pub Goes : Opens → Next → Type 0
  Goes o (Quiet d) = ⊥
  Goes o (Wants side want to) = Comes o side want to
  Goes o (Ends v) = (o ≡ nothing) × (r ≡ Split)
  Goes o No = ⊥

module _ (l : Laid) (height : ℕ → ℕ) (steady : IsSteady l.code height) (r : Reading) where
  abbrev S : Opens → Config → Type 0
  S = Stands r l height

  -- ---- instructions

  acts_walk : (a : Activation) (s : Layers) → Runs r a.side → AllSit r l height s → (n : Action) → Walks l height a (values_in s) (waits_in s) n → Acts r l height (in_function a (opens_of s)) n
  acts_walk a s runs sit n (walks.silent c w) = stays_within r l height a s runs sit c w
  acts_walk a s runs sit n (walks.asks side want to e q k) =
      let o = in_function a (opens_of s) in
      (subst (Runs r) (sym e) runs, quiet_ends side want o q, λ x. subst (λ p. S p (to x)) (sym (quiet_want side want x o q)) (stays_within r l height a s runs sit (to x) (k x)))
  acts_walk a s runs sit n (walks.leaves v) =
      let f = range a.base a.size in
      (runs, first_frame a.side f (opens_of s), λ x. subst (λ p. S p (give v (waits_in s) (values_in s))) (sym (left_frame a.side f (opens_of s))) (gives r l height v s sit))
  acts_walk a s runs sit n (walks.pends f i q args seg rest under_args leads len same) = pends_in a f i q args seg rest under_args s leads len same runs sit

  -- ---- below a call, and at its return

  acts_under : (call : Call) (seg : List ℕ) (s : Layers) → SitsCall r l height call seg → Runs r call.then.side → AllSit r l height s → Acts r l height (opens_of (Layer (ForRet call) seg s)) (action l (Under call (seg ++ values_in s) (waits_in s)))
  acts_under call seg s h runs sit =
      let t = call_taken r l height call seg h in
      let vs = values_in s in
      let o = opens_of (Layer (ForRet call) seg s) in
      let top : topmost call.args (seg ++ vs) ≡ t.args = ap taken (t.same vs) in
      let there = awaits_in call seg t.rest t.args s h t.leads top runs sit in
      subst (λ p. Acts r l height o (with_args p (awaiting call (seg ++ vs) (waits_in s)))) (sym (t.same vs))
      (subst (λ rest. AwaitsIn r l height o (record { call = call; args = t.args; values = seg ++ vs; rest = rest; waits = waits_in s })) (sym (t.uncovers vs))
      (subst (λ args. AwaitsIn r l height (in_function call.then (with_call call.func args (opens_of s))) (record { call = call; args = t.args; values = seg ++ vs; rest = t.rest ++ vs; waits = waits_in s })) (sym top) there))

  acts_return : (v : ℕ) (call : Call) (seg : List ℕ) (s : Layers) → SitsCall r l height call seg → Runs r call.then.side → AllSit r l height s → Acts r l height (opens_of (Layer (ForRet call) seg s)) (action l (Closing v (ForRet call) (seg ++ values_in s) (waits_in s)))
  acts_return v call seg s h runs sit =
      let t = call_taken r l height call seg h in
      let vs = values_in s in
      let o = opens_of (Layer (ForRet call) seg s) in
      let top : t.args ≡ topmost call.args (seg ++ vs) = sym (ap taken (t.same vs)) in
      let back = going call.then (v ∷ t.rest) s (t.leads.0, omega (arith, t.leads.1)) runs sit in
      subst (λ p. Acts r l height o (with_args p (returning v call (waits_in s)))) (sym (t.same vs))
      (runs_above r, (λ i. record { func = call.func; args = top i }), λ x. subst (λ rest. S (in_function call.then (opens_of s)) (Going call.then (v ∷ rest) (waits_in s))) (sym (t.uncovers vs)) back)

  acts_close : (v : ℕ) (w : Waiting) (seg : List ℕ) (s : Layers) → IsCrossing w → Sits r l height w seg s → AllSit r l height s → Acts r l height (opens_of (Layer w seg s)) (action l (Closing v w (seg ++ values_in s) (waits_in s)))
  acts_close v (ForValue a) seg s z h sit = absurd z
  acts_close v (ForRet call) seg s z h sit = acts_return v call seg s h.0 h.1 sit
  acts_close v (ForUpRet a f) seg s z h sit = (runs_above r, refl, λ x. going a (v ∷ seg) s (h.0.0, omega (arith, h.0.1)) h.1 sit)
  acts_close v (ForBelow call f) seg s z h sit = (runs_above r, refl, λ x. under call seg s h.0 h.1 sit)
  acts_close v (ForOutside f) seg Bottom z h sit = (runs_above r, refl, λ x. done v)
  acts_close v (ForOutside f) seg (Layer w vs s) z h sit = absurd h.1

  acts_start : (f : Option ℕ) (args : List ℕ) → r ≡ Split → Acts r l height nothing (start f args)
  acts_start (Some f) args e = (refl, e)
  acts_start None args e = (subst (λ q. Runs q System) (sym e) tt, tt, λ x. lost nothing)

  pub acts : (o : Opens) (c : Config) → S o c → c ≢ Lost → Acts r l height o (action l c)
  acts o c (going a seg s leads runs sit) n = acts_walk a s runs sit (action l (Going a (seg ++ values_in s) (waits_in s))) (walk l height steady a (values_in s) (waits_in s) seg leads)
  acts o c (under call seg s h runs sit) n = acts_under call seg s h runs sit
  acts o c (entering side i f args s runs sit) n = (runs, tt, λ x. framed_stands r l height steady side f args s runs sit x)
  acts o c (closing v w seg s z h sit) n = acts_close v w seg s z h sit
  acts o c (starting f args e) n = acts_start f args e
  acts o c (done v) n = refl
  acts o c (lost p) n = absurd (n refl)

  -- silent steps change nothing of what is open
  settle_stands : (n : ℕ) (o : Opens) (c : Config) → S o c → S o (settle n l c)
  settle_stands zero o c h = h
  settle_stands (suc n) o c h = by (is_lost r l height o c h) (λ d k. settle_stands n o d k)
    where
      each : (k : Action) → Acts r l height o k → ((d : Config) → S o d → S o (settle n l d)) → S o (or_stay k (settle n l) c)
      each (Silent d) k go = go d k
      each (Asks side want to) k go = h
      each (Pends p) k go = h
      each (Awaits p) k go = h
      each (Starts f args) k go = h
      each (Over v) k go = h
      each Stuck k go = h

      by : (c ≡ Lost) ⊎ (c ≢ Lost) → ((d : Config) → S o d → S o (settle n l d)) → S o (settle (suc n) l c)
      by (inl e) go = subst (λ d. S o (settle (suc n) l d)) (sym e) (lost o)
      by (inr z) go = each (action l c) (acts o c h z) go

  pub settled_stands : (o : Opens) (c : Config) → S o c → S o (settled l c)
  settled_stands o c h = settle_stands (suc (room l c)) o c h

  -- ---- calls

  module _ (a : Activation) (f : ℕ) (i : Bool) (q : ℕ) (args seg rest under_args : List ℕ) (s : Layers) (leads : Leads l.code height q (length rest + 1)) (len : length seg ≡ length rest + with_address i (length args)) (same : take_args (length args) [] (seg ++ values_in s) ≡ Some (args, under_args)) (runs : Runs r a.side) (sit : AllSit r l height s) where
    abbrev o : Opens
    o = in_function a (opens_of s)

    abbrev p : Pending
    p = record { call = call_to f i args q a; args = args; values = seg ++ values_in s; rest = rest ++ values_in s; waits = waits_in s }

    abbrev then : Activation
    then = at_place q a

    crosses : Comes r l height o Replay (Calls i f args) (λ x. Under (call_to f i args q a) (seg ++ values_in s) (waits_in s))
    crosses =
        let top : topmost (length args) (seg ++ values_in s) ≡ args = ap taken same in
        (runs_above r, tt, λ x. subst (λ bs. S (in_function a (with_call f bs (opens_of s))) (Under (call_to f i args q a) (seg ++ values_in s) (waits_in s))) top (under (call_to f i args q a) seg s (length rest, leads, len) runs sit))

    enters : Comes r l height o a.side (Enters i f args (frame_of l f args)) (framed l a.side f (rest ++ values_in s) (ForValue then ∷ waits_in s))
    enters = (runs, tt, λ x. framed_stands r l height steady a.side f args (Layer (ForValue then) rest s) runs ((leads, runs), sit) x)

    steps : Comes r l height o a.side (Steps i f args) (valued (result_of l f) then (rest ++ values_in s) (waits_in s))
    steps = (runs, tt, λ x. stays_within r l height a s runs sit (valued (result_of l f) then (rest ++ values_in s) (waits_in s) x) (within_valued l height steady a (values_in s) (waits_in s) (result_of l f) q rest leads x))

    backs : Runs r System → Comes r l height o System (CallsBack f args (frame_of l f args)) (after_call_back l p)
    backs below_runs = (below_runs, tt, by)
      where
        by : (x : Answer) → S (want_opens System (CallsBack f args (frame_of l f args)) x o) (after_call_back l p x)
        by (CalledBack g bs) = back_stands r l height f args (Layer (ForUpRet then f) rest s) ((leads, runs), sit)
        by (Frame base) = framed_at r l height steady System f args (Layer (ForValue then) rest s) below_runs ((leads, runs), sit) base
        by Go = lost o
        by (Value v) = lost o
        by Stopped = lost o

    enter_below : Runs r System → (j : Bool) → Goes r l height o (entered_below l p j)
    enter_below below_runs false = enters
    enter_below below_runs true = backs below_runs

    calls : (side : Side) → a.side ≡ side → (face : Bool) (e : Option ℕ) → Goes r l height o (called l p side face e)
    calls Replay z true e = crosses
    calls Replay z false (Some at) = enters
    calls Replay z false None = steps
    calls System z face (Some at) = enter_below (subst (Runs r) z runs) i
    calls System z face None = steps

  goes_called : (o : Opens) (p : Pending) → PendsIn r l height o p → Goes r l height o (called l p p.call.then.side (is_face l p.call.func) (entry l p.call.func))
  goes_called o p (pends_in a f i q args seg rest under_args s leads len same runs sit) = calls a f i q args seg rest under_args s leads len same runs sit a.side refl (is_face l f) (entry l f)

module _ (l : Laid) (height : ℕ → ℕ) (steady : IsSteady l.code height) where
  -- ---- below a call of the interface

  module _ (r : Reading) (call : Call) (seg rest args : List ℕ) (s : Layers) (sits : SitsCall r l height call seg) (leads : Leads l.code height call.then.at (length rest + 1)) (top : topmost call.args (seg ++ values_in s) ≡ args) (runs : Runs r call.then.side) (sit : AllSit r l height s) where
    abbrev inside : Opens
    inside = in_function call.then (with_call call.func args (opens_of s))

    abbrev waits : Pending
    waits = record { call = call; args = args; values = seg ++ values_in s; rest = rest ++ values_in s; waits = waits_in s }

    -- what the values say is what is open
    as_said : opens_of (Layer (ForRet call) seg s) ≡ inside
    as_said = ap (λ bs. in_function call.then (with_call call.func bs (opens_of s))) top

    returned : (x : Answer) → Stands r l height (in_function call.then (opens_of s)) (valued (result_of l call.func) call.then (rest ++ values_in s) (waits_in s) x)
    returned x = stays_within r l height call.then s runs sit (valued (result_of l call.func) call.then (rest ++ values_in s) (waits_in s) x) (within_valued l height steady call.then (values_in s) (waits_in s) (result_of l call.func) call.then.at rest leads x)

    own : Runs r System → (x : Answer) → Stands r l height (want_opens System (Enters false call.func args (frame_of l call.func args)) x inside) (framed l System call.func (seg ++ values_in s) (ForRet call ∷ waits_in s) x)
    own below_runs x =
        subst (λ o. Stands r l height (want_opens System (Enters false call.func args (frame_of l call.func args)) x o) (framed l System call.func (seg ++ values_in s) (ForRet call ∷ waits_in s) x)) as_said
        (framed_stands r l height steady System call.func args (Layer (ForRet call) seg s) below_runs ((sits, runs), sit) x)

    any : (x : Answer) → Stands r l height (want_opens Replay (Below call.func args) x inside) (after_below l waits x)
    any (CalledBack g bs) =
        subst (λ o. Stands r l height (with_up g o) (called_back l g bs (seg ++ values_in s) (ForBelow call g ∷ waits_in s))) as_said
        (back_stands r l height g bs (Layer (ForBelow call g) seg s) ((sits, runs), sit))
    any (Value v) = returned (Value v)
    any Go = returned Go
    any (Frame at) = returned (Frame at)
    any Stopped = returned Stopped

  goes_below : (r : Reading) (o : Opens) (p : Pending) → AwaitsIn r l height o p → (e : Option ℕ) → Goes r l height o (below r l p e)
  goes_below Split o p (awaits_in call seg rest args s sits leads top runs sit) (Some at) = (tt, tt, own Split call seg rest args s sits leads top runs sit tt)
  goes_below Split o p (awaits_in call seg rest args s sits leads top runs sit) None = (tt, refl, returned Split call seg rest args s sits leads top runs sit)
  goes_below Above o p (awaits_in call seg rest args s sits leads top runs sit) e = (refl, refl, any Above call seg rest args s sits leads top runs sit)

  -- ---- where a thread begins and ends

  goes_started : (f : ℕ) (args : List ℕ) (e : Option ℕ) → Goes Split l height nothing (started l f args e)
  goes_started f args (Some at) = (tt, tt, by)
    where
      by : (x : Answer) → Stands Split l height (want_opens System (CallsBack f args (frame_of l f args)) x nothing) (after_start l f args x)
      by (CalledBack g bs) = back_stands Split l height f args (Layer (ForOutside f) [] Bottom) ((refl, tt), tt)
      by (Frame base) = framed_at Split l height steady System f args Bottom tt tt base
      by Go = lost nothing
      by (Value v) = lost nothing
      by Stopped = lost nothing
  goes_started f args None = (tt, tt, by)
    where
      by : (x : Answer) → Stands Split l height nothing (ended (result_of l f) x)
      by (Value v) = given (is_value (result_of l f) v)
        where
          given : (t : Bool) → Stands Split l height nothing (cond t (Done v) Lost)
          given true = done v
          given false = lost nothing
      by Go = lost nothing
      by (Frame base) = lost nothing
      by (CalledBack g bs) = lost nothing
      by Stopped = lost nothing

  goes_outside : (r : Reading) (v : ℕ) → Goes r l height nothing (outside r l v)
  goes_outside Split v = (refl, refl)
  goes_outside Above v = (refl, tt, by)
    where
      by : (x : Answer) → Stands Above l height (want_opens Replay Outside x nothing) (after_outside l x)
      by (CalledBack g bs) = back_stands Above l height g bs (Layer (ForOutside g) [] Bottom) ((refl, tt), tt)
      by Go = lost nothing
      by (Value v) = lost nothing
      by (Frame at) = lost nothing
      by Stopped = lost nothing

  begun : (r : Reading) (o : Opens) (f : ℕ) (args : List ℕ) → o ≡ nothing → r ≡ Split → Goes r l height o (started l f args (entry l f))
  begun Split o f args e z = subst (λ p. Goes Split l height p (started l f args (entry l f))) (sym e) (goes_started f args (entry l f))
  begun Above o f args e z = absurd cc

  goes_on : (r : Reading) (o : Opens) (n : Action) → IsLoud n → Acts r l height o n → Goes r l height o (next_of r l n)
  goes_on r o (Silent d) loud h = absurd loud
  goes_on r o (Asks side want to) loud h = h
  goes_on r o (Pends p) loud h = goes_called l height steady r o p h
  goes_on r o (Awaits p) loud h = goes_below r o p h (entry l p.call.func)
  goes_on r o (Starts f args) loud h = begun r o f args h.0 h.1
  goes_on r o (Over v) loud h = subst (λ p. Goes r l height p (outside r l v)) (sym h) (goes_outside r v)
  goes_on r o Stuck loud h = absurd h

  -- what comes next where a thread stands
  pub next_goes : (r : Reading) (o : Opens) (c : Config) → IsLoud (action l c) → Stands r l height o c → c ≢ Lost → Goes r l height o (step r l c)
  next_goes r o c loud h n = goes_on r o (action l c) loud (acts l height steady r o c h n)
