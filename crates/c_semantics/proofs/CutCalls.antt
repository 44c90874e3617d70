-- The part above the cut of a right list, where system code below it is the thread's own, is right where it may be any.
use Rattle.std.proofs.Common.{◌≡◌, ◌≢◌, ℕ, zero, suc, ◌<◌, ◌≤◌, ◌&&◌, Bool, true, false, cond, List, [], ◌∷◌, length, Option, Some, None, is_some, refl, sym, ap, ◌∙◌, subst, arith}
use Rattle.marks.specs.declared.side.Side.TheVariants.{Replay, System}
use Rattle.marks.specs.declared.fault.FaultKind.TheVariants.{BadCall}
use Rattle.marks.specs.Marks.{Mark}
use Rattle.marks.specs.Wants.{Allocs, Below, Calls, Enters, Frees, Gives, Returns, Steps, UpReturns, Answer, Go, Value, Frame, CalledBack, Stopped}
use Rattle.marks.proofs.Returned.{given, free}
use Rattle.c_code.specs.declared.shape.Shape.TheVariants.{Pointer}
use Rattle.c_code.specs.Frames.{are_values}
use Rattle.c_code.specs.Values.{is_value}
use Rattle.c_code.specs.MarkLists.{Split, Above, Wrong, replay_part, reply}
use Rattle.c_code.proofs.Sides.{is_above, replied, replies, returns_go}
use Rattle.c_types_model.specs.Types.{CType}
use Rattle.c_semantics.specs.Reading.{Marks, wrong, ended, heard, ask, with_value, with_frame}
use Rattle.c_semantics.specs.Context.{Source, body_of, frame_of, is_face, param_shapes, result_shape}
use Rattle.c_semantics.specs.Calls.{Bodies, any_below, any_step, back_or_plain, begun, behaviour, below, bodies, call, called_back, callee, calling, entering, entering_below, first, here, is_pool, own_below, pooling, started, stepping, thread_above, thread_behaviour, to_callee}
use Rattle.c_semantics.specs.Parts.{ReplayPartIsRight}
use Rattle.c_semantics.specs.Returned.{ResultsAreConverted}
use Rattle.c_semantics.proofs.Relations.{Bounds, Less, AtMost, Cuts, lower, weaker_all, cut_cond, cut_fails, cut_frame, cut_value, bare_plain}
use Rattle.c_semantics.proofs.ValuePrefixes.{CallsCut}
use Rattle.c_semantics.proofs.CallPrefixes.{calls_of, making_cut}
use Rattle.c_semantics.proofs.Returned.{restricted, made_same}
use Rattle.c_semantics.proofs.ReplayMarks.{Seen, seen, seen_ends, bounds, expects_is_right, heard_answers, heard_seen, keeps}
use Rattle.c_semantics.proofs.BelowMarks.{Gone, gone, gone_ends, Loop, under, beyond, back_gone}

module _ (s : Source) where
  -- replay code in bodies, on both sides
  abbrev pub Replays : Bounds → Bodies → Bodies → Type 0
  Replays k b c = (f base : ℕ) (go on : ℕ → Marks) → Cuts seen k go on → Seen k (b Replay f base go) (c Replay f base on)

  -- system code in bodies, which gives values of its results' types
  abbrev pub Systems : Bounds → (most : ℕ) → Bodies → Bodies → Type 0
  Systems k most b c = (l : Loop s c) (f base : ℕ) (go : ℕ → Marks) → ((v : ℕ) → is_value (result_shape s f) v ≡ true → Gone s c l most k (go v) wrong) → Gone s c l most k (b System f base go) wrong

  -- ---- replay code

  entering_seen : (k : Bounds) (b c : Bodies) (i : Bool) (f : ℕ) (args : List ℕ) (go on : ℕ → Marks) → ((j : Bounds) → Less j k → Replays j b c) → Cuts seen k go on → Seen k (entering s b Replay Replay i f args go) (entering s c Replay Replay i f args on)
  entering_seen k b c i f args go on d e =
      seen.asks k Replay (Enters i f args (frame_of s f args)) refl (with_frame (λ base. b Replay f base go)) (with_frame (λ base. c Replay f base on))
      (λ a j lt. cut_frame seen j (λ base. b Replay f base go) (λ base. c Replay f base on) (λ base. d j lt f base go on (weaker_all seen j k go on (lower j k lt) e)) a)

  called_back_seen : (k : Bounds) (b c : Bodies) (g : ℕ) (args : List ℕ) (go on : ℕ → Marks) → ((j : Bounds) → Less j k → Replays j b c) → Cuts seen k go on → Seen k (called_back s b g args go) (called_back s c g args on)
  called_back_seen k b c g args go on d e =
      let up : (ℕ → Marks) → ℕ → Marks = λ p v. ask Replay (UpReturns g v) (λ x. p v) in
      cut_cond seen k (is_some (body_of s g) && are_values (param_shapes s g) args) (entering s b Replay Replay false g args (up go)) (entering s c Replay Replay false g args (up on)) wrong wrong
      (entering_seen k b c false g args (up go) (up on) d (λ v. seen.asks k Replay (UpReturns g v) refl (λ x. go v) (λ x. on v) (λ x j lt. seen.weaker j k (go v) (on v) (lower j k lt) (e v))))
      (seen.wrongs k)

  stepping_seen : (k : Bounds) (i : Bool) (f : ℕ) (args : List ℕ) (go on : ℕ → Marks) → Cuts seen k go on → Seen k (stepping s Replay i f args go) (stepping s Replay i f args on)
  stepping_seen k i f args go on e =
      seen.asks k Replay (Steps i f args) refl (with_value (result_shape s f) go) (with_value (result_shape s f) on) (λ a j lt. cut_value seen j (result_shape s f) go on (weaker_all seen j k go on (lower j k lt) e) a)

  pooling_seen : (f : ℕ) (k : Bounds) (args : List ℕ) (go on : ℕ → Marks) → Cuts seen k go on → Seen k (pooling f args go) (pooling f args on)
  pooling_seen zero k args go on e = seen.asks k Replay (Allocs (first args)) refl (with_value Pointer go) (with_value Pointer on) (λ a j lt. cut_value seen j Pointer go on (weaker_all seen j k go on (lower j k lt) e) a)
  pooling_seen (suc f) k args go on e = seen.asks k Replay (Frees (first args)) refl (λ x. go 0) (λ x. on 0) (λ a j lt. seen.weaker j k (go 0) (on 0) (lower j k lt) (e 0))

  -- ---- system code

  module _ (c : Bodies) (l : Loop s c) (most : ℕ) where
    entering_gone : (k : Bounds) (b : Bodies) (i : Bool) (f : ℕ) (args : List ℕ) (go : ℕ → Marks) → ((j : Bounds) → j.left < k.left → Systems j most b c) → ((v : ℕ) → is_value (result_shape s f) v ≡ true → Gone s c l most k (go v) wrong)
        → Gone s c l most k (entering s b System System i f args go) wrong
    entering_gone k b i f args go d e =
        (gone s c l most).asks k System (Enters i f args (frame_of s f args)) (refl, tt) (with_frame (λ base. b System f base go)) (with_frame (λ base. wrong))
        (λ a j lt. cut_frame (gone s c l most) j (λ base. b System f base go) (λ base. wrong)
        (λ base. d j lt.0 l f base go (λ v ev. (gone s c l most).weaker j k (go v) wrong (lower j k lt) (e v ev))) a)

    stepping_gone : (k : Bounds) (i : Bool) (f : ℕ) (args : List ℕ) (go : ℕ → Marks) → ((v : ℕ) → Gone s c l most k (go v) wrong) → Gone s c l most k (stepping s System i f args go) wrong
    stepping_gone k i f args go e =
        (gone s c l most).asks k System (Steps i f args) (refl, tt) (with_value (result_shape s f) go) (with_value (result_shape s f) (λ v. wrong))
        (λ a j lt. cut_value (gone s c l most) j (result_shape s f) go (λ v. wrong) (λ v. (gone s c l most).weaker j k (go v) wrong (lower j k lt) (e v)) a)

    -- the function is called back, or entered
    indirect_gone : (k : Bounds) (b : Bodies) (f : ℕ) (args : List ℕ) (go : ℕ → Marks) → ((j : Bounds) → j.left < k.left → j.right < most → Replays j b c) → ((j : Bounds) → j.left < k.left → Systems j most b c) → ((v : ℕ) → Gone s c l most k (go v) wrong)
        → Gone s c l most k (entering_below s b true f args go) wrong
    indirect_gone k b f args go r d e = back_gone s c l most k f args (frame_of s f args) (back_or_plain s b f args go) wrong plain up
      where
        plain : (x : Answer) (j : Bounds) → Less j k → ((g : ℕ) (bs : List ℕ) → x ≡ CalledBack g bs → ⊥) → Gone s c l most j (back_or_plain s b f args go x) wrong
        plain (CalledBack g bs) j lt other = absurd (other g bs refl)
        plain (Frame at) j lt other =
            cut_frame (gone s c l most) j (λ base. b System f base go) (λ base. wrong)
            (λ base. d j lt.0 l f base go (λ v ev. (gone s c l most).weaker j k (go v) wrong (lower j k lt) (e v))) (Frame at)
        plain Go j lt other = (gone s c l most).wrongs j
        plain (Value v) j lt other = (gone s c l most).wrongs j
        plain Stopped j lt other = (gone s c l most).wrongs j

        up : (g : ℕ) (bs : List ℕ) (ms : List Mark) (n : ℕ) → length ms < k.left → length ms < k.right → length (replay_part ms) < most → length (replay_part ms) < n → called_back s b f args go ms ≢ Wrong → called_back s c f args (λ v. l.again n) (replay_part ms) ≢ Wrong
        up g bs ms n few less fits some right =
            called_back_seen (bounds (length ms) (length (replay_part ms))) b c f args go (λ v. l.again n)
            (λ j lt. r j (let x = lt.0 in omega arith) (let y = lt.1 in omega arith))
            (λ v ns a z h. e v ns n (omega arith) (omega arith) (omega arith) (omega arith) h)
            ms (omega arith) (omega arith) right

    call_gone : (k : Bounds) (b : Bodies) (face has i : Bool) (f : ℕ) (args : List ℕ) (go : ℕ → Marks) → ((j : Bounds) → j.left < k.left → j.right < most → Replays j b c) → ((j : Bounds) → j.left < k.left → Systems j most b c) → ((v : ℕ) → Gone s c l most k (go v) wrong)
        → Gone s c l most k (calling Split s b System face has i f args go) wrong
    call_gone k b face true false f args go r d e = entering_gone k b false f args go d (λ v ev. e v)
    call_gone k b face true true f args go r d e = indirect_gone k b f args go r d e
    call_gone k b true false i f args go r d e = stepping_gone k i f args go e
    call_gone k b false false i f args go r d e = stepping_gone k i f args go e

    callee_gone : (k : Bounds) (b : Bodies) (o : Option ℕ) (args : List ℕ) (go : ℕ → Marks) → ((j : Bounds) → j.left < k.left → j.right < most → Replays j b c) → ((j : Bounds) → j.left < k.left → Systems j most b c) → ((v : ℕ) → Gone s c l most k (go v) wrong)
        → Gone s c l most k (to_callee Split s b System o args go) wrong
    callee_gone k b (Some f) args go r d e = call_gone k b (is_face s f) (is_some (body_of s f)) true f args go r d e
    callee_gone k b None args go r d e = cut_fails (gone s c l most) k System BadCall (λ want p. (refl, bare_plain want p))

    system_calls : (k : Bounds) (b : Bodies) (f base : ℕ) → ((j : Bounds) → j.left < k.left → j.right < most → Replays j b c) → ((j : Bounds) → j.left < k.left → Systems j most b c) → CallsCut (gone s c l most) k (here Split s b System f base) (calls_of Split s b System)
    system_calls k b f base r d = record {
      plain = λ want p. (refl, bare_plain want p);
      named = λ j le g args go on e. call_gone j b (is_face s g) (is_some (body_of s g)) false g args go (λ i a y. r i (let x = le.0 in omega arith) y) (λ i a. d i (let x = le.0 in omega arith)) e;
      pointed = λ j le t a args go on e. callee_gone j b (callee s t a) args go (λ i z y. r i (let x = le.0 in omega arith) y) (λ i z. d i (let x = le.0 in omega arith)) e;
    }

  -- ---- below a call of the interface

  module _ (b c : Bodies) (f : ℕ) (args : List ℕ) (go on : ℕ → Marks) where
    -- its return, with the result that the function's body gave
    return_gone : (most : ℕ) (j k : Bounds) (v : ℕ) → is_value (result_shape s f) v ≡ true → j.left ≤ k.left → most ≤ k.right → Seen k (go v) (on v) → Gone s c (under s c f args on) most j (ask Replay (Returns f args v) (λ x. go v)) wrong
    return_gone most j k v ev le fits e [] n few less m some right = (under s c f args on).starts n
    return_gone most j k v ev le fits e (m ∷ ms) zero few less most_ some right = absurd (omega arith)
    return_gone most j k v ev le fits e (m ∷ ms) (suc n) few less small some right =
        let a = heard_answers (reply Replay (Returns f args v) m) (λ x. go v) ms right in
        let r = replied Replay (Returns f args v) m a.0 a.1 in
        let part : replay_part (m ∷ ms) ≡ m ∷ replay_part ms = keeps m ms (is_above (Returns f args v) m a.0 a.1) in
        let long : length (replay_part (m ∷ ms)) ≡ suc (length (replay_part ms)) = ap length part in
        let answers : reply Replay (Below f args) m ≡ Some (Value v) = replies Replay (Below f args) m (Value v) r.0 (given f args v m.act a.0 r.1) in
        let made : reply Replay (Returns f args v) m ≡ Some Go = a.1 ∙ ap (λ x. Some x) (sym (returns_go f args v m.act a.0 r.1)) in
        let went : go v ms ≢ Wrong = subst (λ o. heard o (λ x. go v) ms ≢ Wrong) made right in
        let there : on v (replay_part ms) ≢ Wrong = e ms (omega arith) (omega (arith, long, small)) went in
        let step = any_step s c f on (any_below n s c f args on) in
        subst (λ x. any_below (suc n) s c f args on x ≢ Wrong) (sym part)
        (subst (λ o. heard o step (replay_part ms) ≢ Wrong) (sym answers) (subst (λ t. cond t (on v) wrong (replay_part ms) ≢ Wrong) (sym ev) there))

    own_seen : (has : Bool) (k : Bounds) → ((j : Bounds) (most : ℕ) → j.left < k.left → most ≤ k.right → Systems j most b c) → Cuts seen k go on → Seen k (own_below s b has f args go) (below Above s c f args on)
    own_seen true k d e ms few less right =
        let l = under s c f args on in
        let most = length (replay_part ms) in
        entering_gone c l most (bounds (length ms) (length ms)) b false f args (λ v. ask Replay (Returns f args v) (λ x. go v))
        (λ j lt. d j most (omega arith) less)
        (λ v ev. return_gone most (bounds (length ms) (length ms)) k v ev few less (e v))
        ms (suc most) (omega arith) (omega arith) (omega arith) (omega arith) right
    own_seen false k d e [] few less right = expects_is_right Replay (Below f args)
    own_seen false k d e (m ∷ ms) few less right =
        let a = heard_answers (reply Replay (Gives f args) m) (with_value (result_shape s f) go) ms right in
        let r = replied Replay (Gives f args) m a.0 a.1 in
        let part : replay_part (m ∷ ms) ≡ m ∷ replay_part ms = keeps m ms (is_above (Gives f args) m a.0 a.1) in
        let long : length (replay_part (m ∷ ms)) ≡ suc (length (replay_part ms)) = ap length part in
        let answers : reply Replay (Below f args) m ≡ Some a.0 = replies Replay (Below f args) m a.0 r.0 (free f args m.act a.0 r.1) in
        let n = suc (length (replay_part ms)) in
        let step = any_step s c f on (any_below n s c f args on) in
        let went : heard (Some a.0) (with_value (result_shape s f) go) ms ≢ Wrong = subst (λ o. heard o (with_value (result_shape s f) go) ms ≢ Wrong) a.1 right in
        subst (λ x. any_below (suc (length x)) s c f args on x ≢ Wrong) (sym part)
        (subst (λ o. heard o step (replay_part ms) ≢ Wrong) (sym answers) (heard_seen (Some a.0) (with_value (result_shape s f) go) step ms (λ x h. given_on x h (omega arith) (omega (arith, long, less))) went))
      where
        given_on : (x : Answer) → with_value (result_shape s f) go x ms ≢ Wrong → length ms ≤ k.left → length (replay_part ms) ≤ k.right → any_step s c f on (any_below (suc (length (replay_part ms))) s c f args on) x (replay_part ms) ≢ Wrong
        given_on (Value v) h x y = cut_value seen k (result_shape s f) go on e (Value v) ms x y h
        given_on Go h x y = absurd (h refl)
        given_on (Frame at) h x y = absurd (h refl)
        given_on (CalledBack g bs) h x y = absurd (h refl)
        given_on Stopped h x y = absurd (h refl)

  -- ---- calls by replay code

  call_seen : (k : Bounds) (b c : Bodies) (face has i : Bool) (f : ℕ) (args : List ℕ) (go on : ℕ → Marks) → ((j : Bounds) → Less j k → Replays j b c) → ((j : Bounds) (most : ℕ) → j.left < k.left → most < k.right → Systems j most b c) → Cuts seen k go on
      → Seen k (calling Split s b Replay face has i f args go) (calling Above s c Replay face has i f args on)
  call_seen k b c true has i f args go on r d e =
      seen.asks k Replay (Calls i f args) refl (λ x. below Split s b f args go) (λ x. below Above s c f args on)
      (λ a j lt. own_seen b c f args go on (is_some (body_of s f)) j (λ t most x y. d t most (let z = lt.0 in omega arith) (let z = lt.1 in omega arith)) (weaker_all seen j k go on (lower j k lt) e))
  call_seen k b c false true i f args go on r d e = entering_seen k b c i f args go on r e
  call_seen k b c false false i f args go on r d e = stepping_seen k i f args go on e

  callee_seen : (k : Bounds) (b c : Bodies) (o : Option ℕ) (args : List ℕ) (go on : ℕ → Marks) → ((j : Bounds) → Less j k → Replays j b c) → ((j : Bounds) (most : ℕ) → j.left < k.left → most < k.right → Systems j most b c) → Cuts seen k go on
      → Seen k (to_callee Split s b Replay o args go) (to_callee Above s c Replay o args on)
  callee_seen k b c (Some f) args go on r d e = call_seen k b c (is_face s f) (is_some (body_of s f)) true f args go on r d e
  callee_seen k b c None args go on r d e = cut_fails seen k Replay BadCall (λ want p. refl)

  replay_calls : (k : Bounds) (b c : Bodies) (f base : ℕ) → ((j : Bounds) → Less j k → Replays j b c) → ((j : Bounds) (most : ℕ) → j.left < k.left → most < k.right → Systems j most b c) → CallsCut seen k (here Split s b Replay f base) (calls_of Above s c Replay)
  replay_calls k b c f base r d = record {
    plain = λ want p. refl;
    named = λ j le g args go on e.
        cut_cond seen j (is_pool Replay g) (pooling g args go) (pooling g args on) (call Split s b Replay false g args go) (call Above s c Replay false g args on)
        (pooling_seen g j args go on e) (call_seen j b c (is_face s g) (is_some (body_of s g)) false g args go on (λ i lt. r i (fewer i j k lt le)) (λ i most x y. d i most (let z = le.0 in omega arith) (let z = le.1 in omega arith)) e);
    pointed = λ j le t a args go on e. callee_seen j b c (callee s t a) args go on (λ i lt. r i (fewer i j k lt le)) (λ i most x y. d i most (let z = le.0 in omega arith) (let z = le.1 in omega arith)) e;
  }
    where
      fewer : (i j k : Bounds) → Less i j → AtMost j k → Less i k
      fewer i j k lt le = (let x = lt.0 in let y = le.0 in omega arith, let x = lt.1 in let y = le.1 in omega arith)

  -- ---- bodies

  module _ (converted : ResultsAreConverted s) where
    -- bodies in which calls nest at most n deep on the left
    pub record Within (n : ℕ) : Type 0 where
      pub replays : (m : ℕ) (k : Bounds) → k.left < n → k.right < m → Replays k (bodies n Split s) (bodies m Above s)
      pub systems : (m most : ℕ) (k : Bounds) → k.left < n → most < m → Systems k most (bodies n Split s) (bodies m Above s)

    replays_next : (n : ℕ) → Within n → (m : ℕ) (k : Bounds) → k.left < suc n → k.right < m → Replays k (bodies (suc n) Split s) (bodies m Above s)
    replays_next n w zero k fl fr f base go on e = absurd (omega arith)
    replays_next n w (suc m) k fl fr f base go on e =
        making_cut seen (body_of s f) k s (here Split s (bodies n Split s) Replay f base) (calls_of Above s (bodies m Above s) Replay) go on
        (replay_calls k (bodies n Split s) (bodies m Above s) f base (λ j lt. w.replays m j (let x = lt.0 in omega arith) (let y = lt.1 in omega arith)) (λ j most x y. w.systems m most j (omega arith) (omega arith))) e

    systems_next : (n : ℕ) → Within n → (m most : ℕ) (k : Bounds) → k.left < suc n → most < m → Systems k most (bodies (suc n) Split s) (bodies m Above s)
    systems_next n w m most k fl fr l f base go e =
        let b = bodies n Split s in
        let c = bodies m Above s in
        let h = here Split s b System f base in
        let given : (v : ℕ) → Gone s c l most k (restricted (result_shape s f) go v) wrong = λ v. by v (is_value (result_shape s f) v) refl in
        subst (λ p. Gone s c l most k p wrong) (sym (made_same s f h go converted))
        (making_cut (gone s c l most) (body_of s f) k s h (calls_of Split s b System) (restricted (result_shape s f) go) (λ v. wrong)
        (system_calls c l most k b f base (λ j x y. w.replays m j (omega arith) (omega arith)) (λ j x. w.systems m most j (omega arith) fr)) given)
      where
        by : (v : ℕ) (t : Bool) → is_value (result_shape s f) v ≡ t → Gone s (bodies m Above s) l most k (cond t (go v) wrong) wrong
        by v true ev = e v ev
        by v false ev = (gone s (bodies m Above s) l most).wrongs k

    within : (n : ℕ) → Within n
    within zero = record { replays = λ m k fl fr. absurd (omega arith); systems = λ m most k fl fr. absurd (omega arith) }
    within (suc n) = record { replays = replays_next n (within n); systems = systems_next n (within n) }

    -- ---- the laws

    pub calls_are_right : (f : ℕ) (args : List ℕ) → ReplayPartIsRight (behaviour Split s Replay f args) (behaviour Above s Replay f args)
    calls_are_right f args ms right =
        let n = length ms in
        let m = length (replay_part ms) in
        let k = bounds n m in
        entering_seen k (bodies (suc n) Split s) (bodies (suc m) Above s) false f args ended ended (λ j lt. (within (suc n)).replays (suc m) j (let x = lt.0 in omega arith) (let y = lt.1 in omega arith)) (λ v. seen_ends k v) ms (omega arith) (omega arith) right

    started_gone : (n m : ℕ) (o : Option ℕ) (args : List ℕ) → Gone s (bodies (suc m) Above s) (beyond s (bodies (suc m) Above s)) m (bounds n n) (started s (bodies (suc n) Split s) o args) wrong
    started_gone n m None args = cut_fails (gone s (bodies (suc m) Above s) (beyond s (bodies (suc m) Above s)) m) (bounds n n) System BadCall (λ want p. (refl, bare_plain want p))
    started_gone n m (Some f) args = by (is_some (body_of s f))
      where
        by : (has : Bool) → Gone s (bodies (suc m) Above s) (beyond s (bodies (suc m) Above s)) m (bounds n n) (begun s (bodies (suc n) Split s) has f args) wrong
        by true =
            indirect_gone (bodies (suc m) Above s) (beyond s (bodies (suc m) Above s)) m (bounds n n) (bodies (suc n) Split s) f args ended
            (λ j x y. (within (suc n)).replays (suc m) j (omega arith) (omega arith)) (λ j x. (within (suc n)).systems (suc m) m j (omega arith) (omega arith)) (λ v. gone_ends s (bodies (suc m) Above s) (beyond s (bodies (suc m) Above s)) m (bounds n n) v)
        by false = stepping_gone (bodies (suc m) Above s) (beyond s (bodies (suc m) Above s)) m (bounds n n) true f args ended (λ v. gone_ends s (bodies (suc m) Above s) (beyond s (bodies (suc m) Above s)) m (bounds n n) v)

    pub threads_are_right : (t : CType) (address : ℕ) (args : List ℕ) → ReplayPartIsRight (thread_behaviour s t address args) (thread_above s)
    threads_are_right t address args ms right =
        started_gone (length ms) (length (replay_part ms)) (callee s t address) args ms (suc (length (replay_part ms))) (omega arith) (omega arith) (omega arith) (omega arith) right
