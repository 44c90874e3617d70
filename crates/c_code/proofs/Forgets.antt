-- What a thread wants above the cut is a function of its marks there.
use Rattle.std.proofs.Common.{◌≡◌, ◌≢◌, ℕ, zero, suc, ◌+◌, ◌<◌, ◌&&◌, Bool, true, false, cond, List, [], ◌∷◌, ◌++◌, length, Option, Some, None, is_some, refl, sym, ap, ◌∙◌, subst, arith}
use Rattle.std.specs.Prelude.{reverse}
use Rattle.std.proofs.lemmas.List.{append-nil, reverse-append}
use Rattle.marks.specs.declared.side.Side.{Side}
use Rattle.marks.specs.declared.side.Side.TheVariants.{Replay, System}
use Rattle.marks.specs.declared.fault.FaultKind.TheVariants.{BadCall}
use Rattle.marks.specs.Marks.{Mark, Up}
use Rattle.marks.specs.Wants.{Want, Outside, Below, Calls, CallsBack, Enters, Fails, Gives, Returns, Steps, UpReturns, Answer, Go, Value, Frame, CalledBack, Stopped, answer_to, event_answer, is_below}
use Rattle.marks.proofs.Returned as returned_marks
use Rattle.c_code.specs.declared.shape.Shape.{Shape}
use Rattle.c_code.specs.declared.activation.Waiting.{Waiting}
use Rattle.c_code.specs.declared.activation.Waiting.TheVariants.{ForRet, ForUpRet}
use Rattle.c_code.specs.Values.{is_value}
use Rattle.c_code.specs.Machine.{Laid, Config, Going, Under, Entering, Closing, Starting, Done, Lost, Action, Silent, Asks, Pends, Awaits, Starts, Over, Stuck, Pending, entry, frame_of, framed, valued, is_face, func_of, give, take_args, with_args, returning, awaiting, action}
use Rattle.c_code.specs.MarkLists.{Split, Above, Next, Wants, Ends, No, result_of, takes_values, has_entry, called_back, after_below, after_call_back, after_outside, after_start, called, below, ended, started, next_of, step, room, or_stay, settle, settled, same_side, replay_part, Wrong, reply, lists, moved, move, at_end, state, want_of}
use Rattle.c_code.specs.Valid.{Leads, IsSteady, IsValid}
use Rattle.c_code.specs.Fits.{with_address}
use Rattle.c_code.specs.Laws.{AboveForgets, IsSeenAbove, MarksAnswerAbove, IsWanted, ReturnsValues, seen_above}
use Rattle.c_code.proofs.Settles.{IsLoud, falls, stays, settled_is_loud}
use Rattle.c_code.proofs.Prefixes.{prefixes, each_mark_is_wanted, right_on, state_settled}
use Rattle.c_code.proofs.Sides as sides
use Rattle.c_code.proofs.Sides.{Back as IsBack, IsPlain, IsUp}
use Rattle.c_code.proofs.Stacks as matches
use Rattle.c_code.proofs.Stacks.{Spot, on, crossing, calling, Stack, Caller, Lower, Back, Crossed, Outer, Bottom, all_waits, all_values, top_waits, top_values, under, closing, Stands, Matches, same_closing}
use Rattle.c_code.proofs.Pairs.{takes, Paired, silent, asks, pools, pends, Follow, pair_action, pair_framed, pair_valued}

-- ---- a call that waits with its arguments

abbrev pend : Side → (f n : ℕ) (i : Bool) (p : Spot) (args seg rest vs : List ℕ) → List Waiting → Pending
pend side f n i p args seg rest vs ws = record { call = calling side f n i p; args = args; values = seg ++ vs; rest = rest ++ vs; waits = ws }

-- below a call of the interface, above the cut
abbrev crossed_at : (f n : ℕ) (i : Bool) (p : Spot) (seg : List ℕ) → Stack → Config
crossed_at f n i p seg s = Under (crossing f n i p) (seg ++ top_values s Replay) (top_waits s None)

-- the arguments of a call, its values without them and without its address
pub record Taken (l : Laid) (f n : ℕ) (i : Bool) (p : Spot) (seg : List ℕ) (k : ℕ) : Type 0 where
  pub args : List ℕ
  pub rest : List ℕ
  pub left : length rest ≡ k
  pub awaits : (vs : List ℕ) (ws : List Waiting) → action l (Under (crossing f n i p) (seg ++ vs) ws) ≡ Awaits (record { call = crossing f n i p; args = args; values = seg ++ vs; rest = rest ++ vs; waits = ws })
  pub gives : (v : ℕ) (vs : List ℕ) (ws : List Waiting) → action l (Closing v (ForRet (crossing f n i p)) (seg ++ vs) ws) ≡ Asks Replay (Returns f args v) (λ x. Going (on Replay p) (v ∷ (rest ++ vs)) ws)

module _ (l : Laid) (f n : ℕ) (p : Spot) (seg : List ℕ) (k : ℕ) where
  taken_of : (i : Bool) (args rest : List ℕ) → ((vs : List ℕ) → take_args n [] (seg ++ vs) ≡ Some (args, rest ++ vs)) → length rest ≡ k + with_address i 0 → Taken l f n i p seg k
  taken_of false args rest same e = record {
    args = args;
    rest = rest;
    left = omega (arith, e);
    awaits = λ vs ws. ap (λ o. with_args o (awaiting (crossing f n false p) (seg ++ vs) ws)) (same vs);
    gives = λ v vs ws. ap (λ o. with_args o (returning v (crossing f n false p) ws)) (same vs);
  }
  taken_of true args [] same e = absurd (omega (arith, e))
  taken_of true args (address ∷ rest) same e = record {
    args = args;
    rest = rest;
    left = omega (arith, e);
    awaits = λ vs ws. ap (λ o. with_args o (awaiting (crossing f n true p) (seg ++ vs) ws)) (same vs);
    gives = λ v vs ws. ap (λ o. with_args o (returning v (crossing f n true p) ws)) (same vs);
  }

  counted : (i : Bool) → with_address i n ≡ with_address i 0 + n
  counted true = omega arith
  counted false = omega arith

  taken : (i : Bool) → length seg ≡ k + with_address i n → Taken l f n i p seg k
  taken i e =
      let t = takes n [] seg (omega (arith, e, counted i)) in
      taken_of i t.args t.rest t.same (omega (arith, e, counted i, t.left))

-- ---- what comes next of the thread, and above the cut

-- the answer is no call back
abbrev NotBack : Answer → Type 0
NotBack (CalledBack g bs) = ⊥
NotBack x = Unit {0}

-- what comes next of the thread's own code, and what comes next above the cut at this configuration
data Linked (l : Laid) (height : ℕ → ℕ) (d : Config) : Next → Next → Type 0 where
  same : (want : Want) (to up : Answer → Config) → seen_above want ≡ want → ((x : Answer) → Matches l height (to x) (up x)) → Linked l height d (Wants Replay want to) (Wants Replay want up)
  given : (f : ℕ) (args : List ℕ) (to up : Answer → Config) → ((x : Answer) → Matches l height (to x) (up x)) → Linked l height d (Wants Replay (Gives f args) to) (Wants Replay (Below f args) up)
  returned : (f : ℕ) (args : List ℕ) (v : ℕ) (to up : Answer → Config) → ((x : Answer) → Matches l height (to x) (up (Value v))) → Linked l height d (Wants Replay (Returns f args v) to) (Wants Replay (Below f args) up)
  plain : (want : Want) (to : Answer → Config) (n : Next) → IsPlain want → ((x : Answer) → Matches l height (to x) d) → is_below (want_of n) ≡ true → Linked l height d (Wants System want to) n
  back : (f : ℕ) (args bytes : List ℕ) (to : Answer → Config) (want : Want) (up : Answer → Config) → is_below want ≡ true → event_answer want (Up f args) ≡ Some (CalledBack f args)
      → ((x : Answer) → NotBack x → Matches l height (to x) d) → Matches l height (to (CalledBack f args)) (up (CalledBack f args)) → Linked l height d (Wants System (CallsBack f args bytes) to) (Wants Replay want up)
  over : (v : ℕ) (n : Next) → is_below (want_of n) ≡ true → Linked l height d (Ends v) n
  none : (n : Next) → Linked l height d No n

-- a mark answers what comes next
abbrev Answered : Next → Mark → Type 0
Answered (Wants side want to) m = (x : Answer) × (reply side want m ≡ Some x)
Answered n m = ⊥

answered : (n : Next) (m : Mark) → IsWanted n m → Answered n m
answered n m w = subst (λ n. Answered n m) (sym w.wants) (w.answer, w.answers)

module _ (l : Laid) (height : ℕ → ℕ) where
  abbrev M : Config → Config → Type 0
  M = Matches l height

  -- the configuration above the cut after a mark
  abbrev follow_up : Mark → Next → Config → Config
  follow_up m n d = cond (same_side m.side Replay) (move n m d) d

  on_top : (m : Mark) (c e d : Config) → m.side ≡ Replay → M c e → M c (cond (same_side m.side Replay) e d)
  on_top m c e d s h = subst (λ t. M c (cond (same_side t Replay) e d)) (sym s) h

  at_bottom : (m : Mark) (c e d : Config) → m.side ≡ System → M c d → M c (cond (same_side m.side Replay) e d)
  at_bottom m c e d s h = subst (λ t. M c (cond (same_side t Replay) e d)) (sym s) h

  both_moved : (c d : Config) (to up : Answer → Config) (x : Answer) → M c d → ((x : Answer) → M (to x) (up x)) → M (moved (Some x) to c) (moved (Some x) up d)
  both_moved c d to up Go h k = k Go
  both_moved c d to up (Value v) h k = k (Value v)
  both_moved c d to up (Frame b) h k = k (Frame b)
  both_moved c d to up (CalledBack g bs) h k = k (CalledBack g bs)
  both_moved c d to up Stopped h k = h

  one_moved : (c d : Config) (to : Answer → Config) (x : Answer) → M c d → ((x : Answer) → M (to x) d) → M (moved (Some x) to c) d
  one_moved c d to Go h k = k Go
  one_moved c d to (Value v) h k = k (Value v)
  one_moved c d to (Frame b) h k = k (Frame b)
  one_moved c d to (CalledBack g bs) h k = k (CalledBack g bs)
  one_moved c d to Stopped h k = h

  -- a mark that is no call back, where the function may be called back
  plain_moved : (c d : Config) (to : Answer → Config) (x : Answer) → NotBack x → M c d → ((x : Answer) → NotBack x → M (to x) d) → M (moved (Some x) to c) d
  plain_moved c d to Go z h k = k Go tt
  plain_moved c d to (Value v) z h k = k (Value v) tt
  plain_moved c d to (Frame b) z h k = k (Frame b) tt
  plain_moved c d to (CalledBack g bs) z h k = absurd z
  plain_moved c d to Stopped z h k = h

  back_moved : (c d : Config) (f : ℕ) (args : List ℕ) (to : Answer → Config) (want : Want) (up : Answer → Config) (m : Mark) (x : Answer) → M c d → event_answer want (Up f args) ≡ Some (CalledBack f args)
      → ((x : Answer) → NotBack x → M (to x) d) → M (to (CalledBack f args)) (up (CalledBack f args)) → IsBack m f args x → M (moved (Some x) to c) (cond (same_side m.side Replay) (moved (reply Replay want m) up d) d)
  back_moved c d f args to want up m (CalledBack g bs) h e k u b =
      let r = sides.up_replies want m f args b.0 e in
      on_top m (to (CalledBack g bs)) (moved (reply Replay want m) up d) d b.0.above
      (subst (λ o. M (to (CalledBack g bs)) (moved o up d)) (sym r) (subst (λ a. M (moved (Some a) to c) (up (CalledBack f args))) b.1 u))
  back_moved c d f args to want up m Go h e k u b = at_bottom m (to Go) (moved (reply Replay want m) up d) d b (k Go tt)
  back_moved c d f args to want up m (Value v) h e k u b = at_bottom m (to (Value v)) (moved (reply Replay want m) up d) d b (k (Value v) tt)
  back_moved c d f args to want up m (Frame at) h e k u b = at_bottom m (to (Frame at)) (moved (reply Replay want m) up d) d b (k (Frame at) tt)
  back_moved c d f args to want up m Stopped h e k u b = at_bottom m c (moved (reply Replay want m) up d) d b h

  -- one mark on
  moves : (c d : Config) (n o : Next) → M c d → Linked l height d n o → (m : Mark) → Answered n m → M (move n m c) (follow_up m o d)
  moves c d n o h (same want to up own k) m (x, e) =
      on_top m (moved (reply Replay want m) to c) (moved (reply Replay want m) up d) d (sides.is_above want m x e)
      (subst (λ r. M (moved r to c) (moved r up d)) (sym e) (both_moved c d to up x h k))
  moves c d n o h (given f args to up k) m (x, e) =
      let r = sides.replied Replay (Gives f args) m x e in
      let up_there = sides.replies Replay (Below f args) m x r.0 (returned_marks.free f args m.act x r.1) in
      on_top m (moved (reply Replay (Gives f args) m) to c) (moved (reply Replay (Below f args) m) up d) d (sides.is_above (Gives f args) m x e)
      (subst (λ r. M (moved r to c) (moved (reply Replay (Below f args) m) up d)) (sym e) (subst (λ r. M (moved (Some x) to c) (moved r up d)) (sym up_there) (both_moved c d to up x h k)))
  moves c d n o h (returned f args v to up k) m (x, e) =
      let r = sides.replied Replay (Returns f args v) m x e in
      let up_there = sides.replies Replay (Below f args) m (Value v) r.0 (returned_marks.given f args v m.act x r.1) in
      let went : reply Replay (Returns f args v) m ≡ Some Go = e ∙ ap (λ x. Some x) (sym (sides.returns_go f args v m.act x r.1)) in
      on_top m (moved (reply Replay (Returns f args v) m) to c) (moved (reply Replay (Below f args) m) up d) d (sides.is_above (Returns f args v) m x e)
      (subst (λ r. M (moved r to c) (moved (reply Replay (Below f args) m) up d)) (sym went) (subst (λ r. M (to Go) (moved r up d)) (sym up_there) (k Go)))
  moves c d n o h (plain want to other p k b) m (x, e) =
      at_bottom m (moved (reply System want m) to c) (move other m d) d (sides.is_below want m x p e)
      (subst (λ r. M (moved r to c) d) (sym e) (one_moved c d to x h k))
  moves c d n o h (back f args bytes to want up b e k u) m (x, r) =
      subst (λ o. M (moved o to c) (cond (same_side m.side Replay) (moved (reply Replay want m) up d) d)) (sym r)
      (back_moved c d f args to want up m x h e k u (sides.back_is m f args bytes x r))
  moves c d n o h (over v other b) m a = absurd a
  moves c d n o h (none other) m a = absurd a

  -- what is wanted above the cut
  seen : (d : Config) (n o : Next) → Linked l height d n o → n ≢ No → IsSeenAbove n (want_of o)
  seen d n o (same want to up own k) z = sym own
  seen d n o (given f args to up k) z = refl
  seen d n o (returned f args v to up k) z = refl
  seen d n o (plain want to other p k b) z = b
  seen d n o (back f args bytes to want up b e k u) z = b
  seen d n o (over v other b) z = b
  seen d n o (none other) z = absurd (z refl)

  system_above : (m : Mark) (o : Option Answer) → m.side ≡ System → m.side ≡ Replay → is_some o ≡ true
  system_above m o s e = let no : System ≡ Replay = sym s ∙ e in absurd cc

  back_answers : (want : Want) (m : Mark) (f : ℕ) (args : List ℕ) (x : Answer) → event_answer want (Up f args) ≡ Some (CalledBack f args) → IsBack m f args x → m.side ≡ Replay → is_some (answer_to want m.act) ≡ true
  back_answers want m f args (CalledBack g bs) e b z = ap is_some (sides.replied Replay want m (CalledBack f args) (sides.up_replies want m f args b.0 e)).1
  back_answers want m f args Go e b z = system_above m (answer_to want m.act) b z
  back_answers want m f args (Value v) e b z = system_above m (answer_to want m.act) b z
  back_answers want m f args (Frame at) e b z = system_above m (answer_to want m.act) b z
  back_answers want m f args Stopped e b z = system_above m (answer_to want m.act) b z

  -- a mark above the cut answers what is wanted there
  answers_above : (d : Config) (n o : Next) → Linked l height d n o → (m : Mark) → Answered n m → m.side ≡ Replay → is_some (answer_to (want_of o) m.act) ≡ true
  answers_above d n o (same want to up own k) m (x, e) z = ap is_some (sides.replied Replay want m x e).1
  answers_above d n o (given f args to up k) m (x, e) z = ap is_some (returned_marks.free f args m.act x (sides.replied Replay (Gives f args) m x e).1)
  answers_above d n o (returned f args v to up k) m (x, e) z = ap is_some (returned_marks.given f args v m.act x (sides.replied Replay (Returns f args v) m x e).1)
  answers_above d n o (plain want to other p k b) m (x, e) z = system_above m (answer_to (want_of other) m.act) (sides.is_below want m x p e) z
  answers_above d n o (back f args bytes to want up b e k u) m (x, r) z = back_answers want m f args x e (sides.back_is m f args bytes x r) z
  answers_above d n o (over v other b) m a z = absurd a
  answers_above d n o (none other) m a z = absurd a

module _ (l : Laid) (height : ℕ → ℕ) (steady : IsSteady l.code height) where
  -- ---- results

  gives_above : (v : ℕ) (s : Stack) → Stands l height s Replay → M l height (give v (all_waits s) (all_values s)) (give v (top_waits s None) (top_values s Replay))
  gives_above v (Caller p seg s) h = matches.above p (v ∷ seg) s (h.0.0, omega (arith, h.0.1)) h.1
  gives_above v (Back p g seg s) h = subst (λ c. M l height (Closing v (ForUpRet (on System p) g) (seg ++ all_values s) (all_waits s)) c) (sym (same_closing l height v g s h.1)) (matches.closes v p g seg s h)
  gives_above v (Outer g) h = matches.ends v g
  gives_above v (Lower p seg s) h = absurd h
  gives_above v (Crossed f n i p seg s) h = absurd h
  gives_above v Bottom h = absurd h

  gives_below : (v : ℕ) (s : Stack) (last : ℕ) → Stands l height s System → M l height (give v (all_waits s) (all_values s)) (under s last)
  gives_below v (Lower p seg s) last h = matches.below p (v ∷ seg) s last (h.0.0, omega (arith, h.0.1)) h.1
  gives_below v (Crossed f n i p seg s) last h = matches.returns v f n i p seg s h
  gives_below v Bottom last h = matches.over v last
  gives_below v (Caller p seg s) last h = absurd h
  gives_below v (Back p g seg s) last h = absurd h
  gives_below v (Outer g) last h = absurd h

  abbrev Seen : Stack → Type 0
  Seen s = Follow l height Replay (M l height) (all_values s) (all_waits s) (top_values s Replay) (top_waits s None)

  follow_above : (s : Stack) → Stands l height s Replay → Seen s
  follow_above s h = record { goes = λ p seg k. matches.above p seg s k h; lost = matches.lost Lost; gives = λ v. gives_above v s h }

  -- system code, of which nothing is seen
  abbrev Unseen : Stack → ℕ → Config → Config → Type 0
  Unseen s last c d = M l height c (under s last)

  follow_below : (s : Stack) (last : ℕ) → Stands l height s System → Follow l height System (Unseen s last) (all_values s) (all_waits s) (all_values s) (all_waits s)
  follow_below s last h = record { goes = λ p seg k. matches.below p seg s last k h; lost = matches.lost (under s last); gives = λ v. gives_below v s last h }

  framed_above : (f : ℕ) (s : Stack) → Stands l height s Replay → (x : Answer) → M l height (framed l Replay f (all_values s) (all_waits s) x) (framed l Replay f (top_values s Replay) (top_waits s None) x)
  framed_above f s h x = pair_framed l height steady Replay (M l height) (all_values s) (all_waits s) (top_values s Replay) (top_waits s None) (follow_above s h) f x

  framed_below : (f : ℕ) (s : Stack) (last : ℕ) → Stands l height s System → (x : Answer) → M l height (framed l System f (all_values s) (all_waits s) x) (under s last)
  framed_below f s last h x = pair_framed l height steady System (Unseen s last) (all_values s) (all_waits s) (all_values s) (all_waits s) (follow_below s last h) f x

  valued_above : (shape : Shape) (p : Spot) (seg : List ℕ) (s : Stack) → Leads l.code height p.at (length seg + 1) → Stands l height s Replay → (x : Answer)
      → M l height (valued shape (on Replay p) (seg ++ all_values s) (all_waits s) x) (valued shape (on Replay p) (seg ++ top_values s Replay) (top_waits s None) x)
  valued_above shape p seg s k h x = pair_valued l height steady Replay (M l height) (all_values s) (all_waits s) (top_values s Replay) (top_waits s None) (follow_above s h) shape p seg k x

  valued_below : (shape : Shape) (p : Spot) (seg : List ℕ) (s : Stack) (last : ℕ) → Leads l.code height p.at (length seg + 1) → Stands l height s System → (x : Answer)
      → M l height (valued shape (on System p) (seg ++ all_values s) (all_waits s) x) (under s last)
  valued_below shape p seg s last k h x = pair_valued l height steady System (Unseen s last) (all_values s) (all_waits s) (all_values s) (all_waits s) (follow_below s last h) shape p seg k x

  -- a function that is called back
  back_both : (f : ℕ) (args : List ℕ) (s : Stack) → Stands l height s Replay → M l height (called_back l f args (all_values s) (all_waits s)) (called_back l f args (top_values s Replay) (top_waits s None))
  back_both f args s h = by (has_entry (entry l f) && takes_values (func_of l.code f) args)
    where
      by : (t : Bool) → M l height (cond t (Entering Replay false f args (all_values s) (all_waits s)) Lost) (cond t (Entering Replay false f args (top_values s Replay) (top_waits s None)) Lost)
      by true = matches.enters false f args s h
      by false = matches.lost Lost

  -- ---- what may come above the cut while system code runs

  pub record Waits (n : Next) (vs : List ℕ) (ws : ℕ → List Waiting) : Type 0 where
    pub want : Want
    pub up : Answer → Config
    pub wants : n ≡ Wants Replay want up
    pub comes : is_below want ≡ true
    pub ups : (g : ℕ) (bs : List ℕ) → event_answer want (Up g bs) ≡ Some (CalledBack g bs)
    pub back : (g : ℕ) (bs : List ℕ) → up (CalledBack g bs) ≡ called_back l g bs vs (ws g)

  waits : (s : Stack) (last : ℕ) → Stands l height s System → Waits (step Above l (under s last)) (top_values s System) (λ g. top_waits s (Some g))
  waits (Lower p seg s) last h = waits s last h.1
  waits (Crossed f n i p seg s) last (k, leads, e, h) =
      let t = taken l f n p seg k i e in
      record {
        want = Below f t.args;
        up = after_below l (record { call = crossing f n i p; args = t.args; values = seg ++ top_values s Replay; rest = t.rest ++ top_values s Replay; waits = top_waits s None });
        wants = ap (next_of Above l) (t.awaits (top_values s Replay) (top_waits s None));
        comes = refl;
        ups = λ g bs. refl;
        back = λ g bs. refl;
      }
  waits Bottom last h = record { want = Outside; up = after_outside l; wants = refl; comes = refl; ups = λ g bs. refl; back = λ g bs. refl }
  waits (Caller p seg s) last h = absurd h
  waits (Back p g seg s) last h = absurd h
  waits (Outer g) last h = absurd h

  -- ---- what comes next

  abbrev L : Config → Next → Next → Type 0
  L = Linked l height

  link_above : (s : Stack) → Stands l height s Replay → (d : Config) (x y : Action) → Paired l height Replay (M l height) (all_values s) (all_waits s) (top_values s Replay) (top_waits s None) x y → IsLoud x → L d (next_of Split l x) (next_of Above l y)
  link_above s h d x y (silent c e r) loud = absurd loud
  link_above s h d x y (asks want to up own k) loud = same want to up own.1 k
  link_above s h d x y (pools want to up e own k) loud = same want to up own k
  link_above s h d x y (pends f n i p args seg rest k e) loud = by (is_face l f) (entry l f)
    where
      by : (face : Bool) (o : Option ℕ) → L d (called l (pend Replay f n i p args seg rest (all_values s) (all_waits s)) Replay face o) (called l (pend Replay f n i p args seg rest (top_values s Replay) (top_waits s None)) Replay face o)
      by true o = same (Calls i f args) _ _ refl (λ x. matches.crossed f n i p seg s (length rest, k, e, h))
      by false (Some at) = same (Enters i f args (frame_of l f args)) _ _ refl (λ x. framed_above f (Caller p rest s) (k, h) x)
      by false None = same (Steps i f args) _ _ refl (λ x. valued_above (result_of l f) p rest s k h x)

  link_below : (s : Stack) (last : ℕ) → Stands l height s System → (x y : Action) → Paired l height System (Unseen s last) (all_values s) (all_waits s) (all_values s) (all_waits s) x y → IsLoud x
      → (want : Want) (up : Answer → Config) → is_below want ≡ true → ((g : ℕ) (bs : List ℕ) → event_answer want (Up g bs) ≡ Some (CalledBack g bs)) → ((g : ℕ) (bs : List ℕ) → up (CalledBack g bs) ≡ called_back l g bs (top_values s System) (top_waits s (Some g)))
      → L (under s last) (next_of Split l x) (Wants Replay want up)
  link_below s last h x y (silent c e r) loud want up comes ups backs = absurd loud
  link_below s last h x y (asks w to up own k) loud want on comes ups backs = plain w to (Wants Replay want on) own.0 k comes
  link_below s last h x y (pools w to up e own k) loud want on comes ups backs = absurd cc
  link_below s last h x y (pends f n i p args seg rest k e) loud want up comes ups backs = by (is_face l f) i (entry l f)
    where
      enter : (x : Answer) → NotBack x → M l height (after_call_back l (pend System f n true p args seg rest (all_values s) (all_waits s)) x) (under s last)
      enter Go z = framed_below f (Lower p rest s) last (k, h) Go
      enter (Value v) z = framed_below f (Lower p rest s) last (k, h) (Value v)
      enter (Frame b) z = framed_below f (Lower p rest s) last (k, h) (Frame b)
      enter (CalledBack g bs) z = absurd z
      enter Stopped z = framed_below f (Lower p rest s) last (k, h) Stopped

      by : (face j : Bool) (o : Option ℕ) → L (under s last) (called l (pend System f n j p args seg rest (all_values s) (all_waits s)) System face o) (Wants Replay want up)
      by face false (Some at) = plain (Enters false f args (frame_of l f args)) _ (Wants Replay want up) tt (λ x. framed_below f (Lower p rest s) last (k, h) x) comes
      by face true (Some at) =
          back f args (frame_of l f args) (after_call_back l (pend System f n true p args seg rest (all_values s) (all_waits s))) want up comes (ups f args) enter
          (subst (λ c. M l height (called_back l f args (rest ++ all_values s) (ForUpRet (on System p) f ∷ all_waits s)) c) (sym (backs f args)) (back_both f args (Back p f rest s) (k, h)))
      by true j None = plain (Steps j f args) _ (Wants Replay want up) tt (λ x. valued_below (result_of l f) p rest s last k h x) comes
      by false j None = plain (Steps j f args) _ (Wants Replay want up) tt (λ x. valued_below (result_of l f) p rest s last k h x) comes

  -- the end of a function that system code called back
  closing_step : (v g : ℕ) (s : Stack) → Stands l height s System → step Above l (closing s v g) ≡ Wants Replay (UpReturns g v) (λ x. under s v)
  closing_step v g (Lower p seg s) h = closing_step v g s h.1
  closing_step v g (Crossed f n i p seg s) h = refl
  closing_step v g Bottom h = refl
  closing_step v g (Caller p seg s) h = absurd h
  closing_step v g (Back p f seg s) h = absurd h
  closing_step v g (Outer f) h = absurd h

  module _ (f n : ℕ) (i : Bool) (p : Spot) (seg : List ℕ) (s : Stack) (k : ℕ) (leads : Leads l.code height p.at (k + 1)) (e : length seg ≡ k + with_address i n) (h : Stands l height s Replay) (t : Taken l f n i p seg k) where
    abbrev d : Config
    d = crossed_at f n i p seg s

    abbrev one : Pending
    one = pend Replay f n i p t.args seg t.rest (all_values s) (all_waits s)

    abbrev other : Pending
    other = pend Replay f n i p t.args seg t.rest (top_values s Replay) (top_waits s None)

    goes : Leads l.code height p.at (length t.rest + 1)
    goes = (leads.0, omega (arith, leads.1, t.left))

    given_ends : (x : Answer) → M l height (valued (result_of l f) (on Replay p) (t.rest ++ all_values s) (all_waits s) x) (after_below l other x)
    given_ends (Value v) = valued_above (result_of l f) p t.rest s goes h (Value v)
    given_ends Go = matches.lost _
    given_ends (Frame b) = matches.lost _
    given_ends (CalledBack g bs) = matches.lost _
    given_ends Stopped = matches.lost _

    crossed_by : (o : Option ℕ) → L d (below Split l one o) (Wants Replay (Below f t.args) (after_below l other))
    crossed_by (Some at) = plain (Enters false f t.args (frame_of l f t.args)) _ (Wants Replay (Below f t.args) (after_below l other)) tt (λ x. framed_below f (Crossed f n i p seg s) 0 (k, leads, e, h) x) refl
    crossed_by None = given f t.args _ _ given_ends

    link_crossed : L d (step Split l (Under (crossing f n i p) (seg ++ all_values s) (all_waits s))) (step Above l d)
    link_crossed =
        subst (λ a. L d (next_of Split l a) (step Above l d)) (sym (t.awaits (all_values s) (all_waits s)))
        (subst (λ a. L d (below Split l one (entry l f)) (next_of Above l a)) (sym (t.awaits (top_values s Replay) (top_waits s None))) (crossed_by (entry l f)))

    abbrev to : ℕ → Answer → Config
    to v x = Going (on Replay p) (v ∷ (t.rest ++ all_values s)) (all_waits s)

    returns_now : (v : ℕ) → step Split l (Closing v (ForRet (crossing f n i p)) (seg ++ all_values s) (all_waits s)) ≡ Wants Replay (Returns f t.args v) (to v)
    returns_now v = ap (next_of Split l) (t.gives v (all_values s) (all_waits s))

    return_ends : (v : ℕ) → is_value (result_of l f) v ≡ true → (x : Answer) → M l height (to v x) (after_below l other (Value v))
    return_ends v is x = subst (λ b. M l height (to v x) (cond b (Going (on Replay p) (v ∷ (t.rest ++ top_values s Replay)) (top_waits s None)) Lost)) (sym is) (matches.above p (v ∷ t.rest) s (goes.0, omega (arith, goes.1)) h)

    link_returns : (v : ℕ) → ((g : ℕ) (bs : List ℕ) (w : ℕ) (on : Answer → Config) → step Split l (Closing v (ForRet (crossing f n i p)) (seg ++ all_values s) (all_waits s)) ≡ Wants Replay (Returns g bs w) on → is_value (result_of l g) w ≡ true)
        → L d (step Split l (Closing v (ForRet (crossing f n i p)) (seg ++ all_values s) (all_waits s))) (step Above l d)
    link_returns v values =
        subst (λ a. L d a (step Above l d)) (sym (returns_now v))
        (subst (λ a. L d (Wants Replay (Returns f t.args v) (to v)) (next_of Above l a)) (sym (t.awaits (top_values s Replay) (top_waits s None)))
        (returned f t.args v (to v) (after_below l other) (return_ends v (values f t.args v (to v) (returns_now v)))))

  link_starts : (f : ℕ) (args : List ℕ) (last : ℕ) (o : Option ℕ) → L (Done last) (started l f args o) (Wants Replay Outside (after_outside l))
  link_starts f args last (Some at) = back f args (frame_of l f args) (after_start l f args) Outside (after_outside l) refl refl enter (back_both f args (Outer f) tt)
    where
      enter : (x : Answer) → NotBack x → M l height (after_start l f args x) (Done last)
      enter Go z = framed_below f Bottom last tt Go
      enter (Value v) z = framed_below f Bottom last tt (Value v)
      enter (Frame b) z = framed_below f Bottom last tt (Frame b)
      enter (CalledBack g bs) z = absurd z
      enter Stopped z = framed_below f Bottom last tt Stopped
  link_starts f args last None = plain (Steps true f args) (ended (result_of l f)) (Wants Replay Outside (after_outside l)) tt ends refl
    where
      ends : (x : Answer) → M l height (ended (result_of l f) x) (Done last)
      ends (Value v) = by (is_value (result_of l f) v)
        where
          by : (t : Bool) → M l height (cond t (Done v) Lost) (Done last)
          by true = matches.over v last
          by false = matches.lost (Done last)
      ends Go = matches.lost (Done last)
      ends (Frame b) = matches.lost (Done last)
      ends (CalledBack g bs) = matches.lost (Done last)
      ends Stopped = matches.lost (Done last)

  links : (c d : Config) → M l height c d → IsLoud (action l c) → ((g : ℕ) (bs : List ℕ) (v : ℕ) (to : Answer → Config) → step Split l c ≡ Wants Replay (Returns g bs v) to → is_value (result_of l g) v ≡ true) → L d (step Split l c) (step Above l d)
  links c d (matches.above p seg s k h) loud values =
      link_above s h d (action l c) (action l d) (pair_action l height steady Replay (M l height) (all_values s) (all_waits s) (top_values s Replay) (top_waits s None) (follow_above s h) p seg k) loud
  links c d (matches.below p seg s last k h) loud values =
      let w = waits s last h in
      subst (λ n. L d (step Split l c) n) (sym w.wants)
      (link_below s last h (action l c) (action l c) (pair_action l height steady System (Unseen s last) (all_values s) (all_waits s) (all_values s) (all_waits s) (follow_below s last h) p seg k) loud w.want w.up w.comes w.ups w.back)
  links c d (matches.crossed f n i p seg s (k, leads, e, h)) loud values = link_crossed f n i p seg s k leads e h (taken l f n p seg k i e)
  links c d (matches.enters i f args s h) loud values = same (Enters i f args (frame_of l f args)) _ _ refl (λ x. framed_above f s h x)
  links c d (matches.returns v f n i p seg s (k, leads, e, h)) loud values = link_returns f n i p seg s k leads e h (taken l f n p seg k i e) v values
  links c d (matches.closes v p g seg s h) loud values =
      subst (λ n. L d (step Split l c) n) (sym (closing_step v g s h.1)) (same (UpReturns g v) _ _ refl (λ x. matches.below p (v ∷ seg) s v (h.0.0, omega (arith, h.0.1)) h.1))
  links c d (matches.ends v g) loud values = same (UpReturns g v) _ _ refl (λ x. matches.over v v)
  links c d (matches.starts None args last) loud values = plain (Fails BadCall) _ _ tt (λ x. matches.lost d) refl
  links c d (matches.starts (Some f) args last) loud values = link_starts f args last (entry l f)
  links c d (matches.over v last) loud values = over v _ refl
  links c d (matches.lost e) loud values = none _

  -- ---- settling

  room_under : (s : Stack) (last : ℕ) → room l (under s last) ≡ 0
  room_under (Lower p seg s) last = room_under s last
  room_under (Crossed f n i p seg s) last = refl
  room_under (Caller p seg s) last = refl
  room_under (Back p g seg s) last = refl
  room_under (Outer g) last = refl
  room_under Bottom last = refl

  room_closing : (s : Stack) (v g : ℕ) → room l (closing s v g) ≡ 0
  room_closing (Lower p seg s) v g = room_closing s v g
  room_closing (Crossed f n i p seg s) v g = refl
  room_closing (Caller p seg s) v g = refl
  room_closing (Back p f seg s) v g = refl
  room_closing (Outer f) v g = refl
  room_closing Bottom v g = refl

  -- where no instruction is, there is nothing to settle
  loud_there : (c : Config) → room l c ≡ 0 → (a : Action) → action l c ≡ a → IsLoud a
  loud_there c e (Silent d) f = let less : room l d < room l c = falls l c d f in absurd (omega (arith, e))
  loud_there c e (Asks s w k) f = tt
  loud_there c e (Pends p) f = tt
  loud_there c e (Awaits p) f = tt
  loud_there c e (Starts g args) f = tt
  loud_there c e (Over v) f = tt
  loud_there c e Stuck f = tt

  still : (n : ℕ) (c : Config) → room l c ≡ 0 → settle n l c ≡ c
  still zero c e = refl
  still (suc n) c e = stays l (action l c) (settle n l) c (loud_there c e (action l c) refl)

  quiet : (n m : ℕ) (c d : Config) → room l c ≡ 0 → room l d ≡ 0 → M l height c d → M l height (settle n l c) (settle m l d)
  quiet n m c d e f h = subst (λ x. M l height x (settle m l d)) (sym (still n c e)) (subst (λ x. M l height c x) (sym (still m d f)) h)

  lost_settles : (n m : ℕ) (d : Config) → M l height (settle n l Lost) (settle m l d)
  lost_settles n m d = subst (λ x. M l height x (settle m l d)) (sym (still n Lost refl)) (matches.lost (settle m l d))

  settle_above : (n : ℕ) → ((c d : Config) → M l height c d → M l height (settle n l c) (settle n l d)) → (s : Stack) (c d : Config) → M l height c d → (x y : Action)
      → Paired l height Replay (M l height) (all_values s) (all_waits s) (top_values s Replay) (top_waits s None) x y → M l height (or_stay x (settle n l) c) (or_stay y (settle n l) d)
  settle_above n ih s c d h x y (silent e f r) = ih e f r
  settle_above n ih s c d h x y (asks want to up own k) = h
  settle_above n ih s c d h x y (pools want to up e own k) = h
  settle_above n ih s c d h x y (pends f m i p args seg rest k e) = h

  settle_below : (n : ℕ) (s : Stack) (last : ℕ) → ((c d : Config) → M l height c d → M l height (settle n l c) (settle n l d)) → (c : Config) → M l height c (under s last) → (x y : Action)
      → Paired l height System (Unseen s last) (all_values s) (all_waits s) (all_values s) (all_waits s) x y → M l height (or_stay x (settle n l) c) (under s last)
  settle_below n s last ih c h x y (silent e f r) = subst (λ d. M l height (settle n l e) d) (still n (under s last) (room_under s last)) (ih e (under s last) r)
  settle_below n s last ih c h x y (asks want to up own k) = h
  settle_below n s last ih c h x y (pools want to up e own k) = h
  settle_below n s last ih c h x y (pends f m i p args seg rest k e) = h

  settle_both : (n : ℕ) (c d : Config) → M l height c d → M l height (settle n l c) (settle n l d)
  settle_both zero c d h = h
  settle_both (suc n) c d (matches.above p seg s k h) =
      settle_above n (settle_both n) s c d (matches.above p seg s k h) (action l c) (action l d) (pair_action l height steady Replay (M l height) (all_values s) (all_waits s) (top_values s Replay) (top_waits s None) (follow_above s h) p seg k)
  settle_both (suc n) c d (matches.below p seg s last k h) =
      subst (λ x. M l height (settle (suc n) l c) x) (sym (still (suc n) d (room_under s last)))
      (settle_below n s last (settle_both n) c (matches.below p seg s last k h) (action l c) (action l c) (pair_action l height steady System (Unseen s last) (all_values s) (all_waits s) (all_values s) (all_waits s) (follow_below s last h) p seg k))
  settle_both (suc n) c d (matches.crossed f m i p seg s h) = quiet (suc n) (suc n) c d refl refl (matches.crossed f m i p seg s h)
  settle_both (suc n) c d (matches.enters i f args s h) = quiet (suc n) (suc n) c d refl refl (matches.enters i f args s h)
  settle_both (suc n) c d (matches.returns v f m i p seg s h) = quiet (suc n) (suc n) c d refl refl (matches.returns v f m i p seg s h)
  settle_both (suc n) c d (matches.closes v p g seg s h) = quiet (suc n) (suc n) c d refl (room_closing s v g) (matches.closes v p g seg s h)
  settle_both (suc n) c d (matches.ends v g) = quiet (suc n) (suc n) c d refl refl (matches.ends v g)
  settle_both (suc n) c d (matches.starts f args last) = quiet (suc n) (suc n) c d refl refl (matches.starts f args last)
  settle_both (suc n) c d (matches.over v last) = quiet (suc n) (suc n) c d refl refl (matches.over v last)
  settle_both (suc n) c d (matches.lost e) = lost_settles (suc n) (suc n) e

  settled_both : (c d : Config) → M l height c d → M l height (settled l c) (settled l d)
  settled_both c d (matches.above p seg s k h) = settle_both (suc (room l c)) c d (matches.above p seg s k h)
  settled_both c d (matches.below p seg s last k h) =
      subst (λ x. M l height (settled l c) x) (still (suc (room l c)) d (room_under s last) ∙ sym (still (suc (room l d)) d (room_under s last))) (settle_both (suc (room l c)) c d (matches.below p seg s last k h))
  settled_both c d (matches.crossed f m i p seg s h) = quiet 1 1 c d refl refl (matches.crossed f m i p seg s h)
  settled_both c d (matches.enters i f args s h) = quiet 1 1 c d refl refl (matches.enters i f args s h)
  settled_both c d (matches.returns v f m i p seg s h) = quiet 1 1 c d refl refl (matches.returns v f m i p seg s h)
  settled_both c d (matches.closes v p g seg s h) = quiet 1 (suc (room l d)) c d refl (room_closing s v g) (matches.closes v p g seg s h)
  settled_both c d (matches.ends v g) = quiet 1 1 c d refl refl (matches.ends v g)
  settled_both c d (matches.starts f args last) = quiet 1 1 c d refl refl (matches.starts f args last)
  settled_both c d (matches.over v last) = quiet 1 1 c d refl refl (matches.over v last)
  settled_both c d (matches.lost e) = lost_settles 1 (suc (room l e)) e

  -- ---- all marks

  module _ (f : Option ℕ) (args : List ℕ) (values : ReturnsValues l f args) where
    abbrev now : List Mark → Config
    now past = state Split l (Starting f args) past

    abbrev there : List Mark → Config
    there past = state Above l (Done 0) past

    loud : (past : List Mark) → IsLoud (action l (now past))
    loud past = subst (λ c. IsLoud (action l c)) (state_settled Split l (Starting f args) past) (settled_is_loud l (now past))

    -- a right list, and what comes next after it
    link : (past : List Mark) → lists Split (reverse past) l (Starting f args) ≢ Wrong → M l height (now past) (there (replay_part past)) → L (there (replay_part past)) (step Split l (now past)) (step Above l (there (replay_part past)))
    link past right h = links (now past) (there (replay_part past)) h (loud past) (λ g bs v to e. values past g bs v to right e)

    forgets : (past : List Mark) → lists Split (reverse past) l (Starting f args) ≢ Wrong → M l height (now past) (there (replay_part past))
    forgets [] right = settled_both (Starting f args) (Done 0) (matches.starts f args 0)
    forgets (m ∷ past) right =
        let turned : lists Split (reverse past ++ (m ∷ [])) l (Starting f args) ≢ Wrong = subst (λ ms. lists Split ms l (Starting f args) ≢ Wrong) (reverse-append (m ∷ []) past) right in
        let before = prefixes Split l (reverse past) (m ∷ []) (Starting f args) turned in
        let w = each_mark_is_wanted Split l (Starting f args) past m [] turned in
        let h = forgets past before in
        by (same_side m.side Replay) (moves l height (now past) (there (replay_part past)) (step Split l (now past)) (step Above l (there (replay_part past))) h (link past before h) m (answered (step Split l (now past)) m w))
      where
        by : (b : Bool) → M l height (move (step Split l (now past)) m (now past)) (cond b (move (step Above l (there (replay_part past))) m (there (replay_part past))) (there (replay_part past)))
            → M l height (now (m ∷ past)) (there (cond b (m ∷ replay_part past) (replay_part past)))
        by true k = settled_both _ _ k
        by false k = subst (λ d. M l height (now (m ∷ past)) d) (state_settled Above l (Done 0) (replay_part past)) (settled_both _ _ k)

    no_end : (past : List Mark) → lists Split (reverse past) l (Starting f args) ≢ Wrong → step Split l (now past) ≢ No
    no_end past right e =
        let open_list : lists Split [] l (now past) ≢ Wrong = right_on Split l (Starting f args) past [] (subst (λ ms. lists Split ms l (Starting f args) ≢ Wrong) (sym (append-nil (reverse past))) right) in
        open_list (ap (λ c. at_end (step Split l c)) (state_settled Split l (Starting f args) past) ∙ ap at_end e)

    pub forgotten : AboveForgets l f args
    forgotten past right = seen l height (there (replay_part past)) (step Split l (now past)) (step Above l (there (replay_part past))) (link past right (forgets past right)) (no_end past right)

    pub answered_above : MarksAnswerAbove l f args
    answered_above past m more right z =
        let before = prefixes Split l (reverse past) (m ∷ more) (Starting f args) right in
        let w = each_mark_is_wanted Split l (Starting f args) past m more right in
        answers_above l height (there (replay_part past)) (step Split l (now past)) (step Above l (there (replay_part past))) (link past before (forgets past before)) m (answered (step Split l (now past)) m w) z

pub above_forgets : (l : Laid) → IsValid l.code → (f : Option ℕ) (args : List ℕ) → ReturnsValues l f args → AboveForgets l f args
above_forgets l valid f args values = forgotten l valid.height valid.steady f args values

pub marks_answer_above : (l : Laid) → IsValid l.code → (f : Option ℕ) (args : List ℕ) → ReturnsValues l f args → MarksAnswerAbove l f args
marks_answer_above l valid f args values = answered_above l valid.height valid.steady f args values
