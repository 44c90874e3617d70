-- What calls make is sound: what they reach by a name may run there, and what they reach through a pointer is what the marks
-- allow.
use Rattle.std.proofs.Common.{◌≡◌, ℕ, zero, suc, ◌-◌, ◌/◌, ◌<◌, ◌≤◌, ◌&&◌, Bool, true, false, cond, eqb, leb, ltb, List, Option, Some, None, is_some, refl, sym, ap, ◌∙◌, subst, arith}
use Rattle.std.proofs.lemmas.Bool.{and_parts, leb-true, ltb-true}
use Rattle.marks.specs.declared.side.Side.{Side}
use Rattle.marks.specs.declared.side.Side.TheVariants.{Replay, System}
use Rattle.marks.specs.declared.fault.FaultKind.TheVariants.{BadCall}
use Rattle.marks.specs.Places.{builtin_count, function_address}
use Rattle.marks.specs.Marks.{EventKind, Call, Ret, Up, UpRet, Alloc, Free, Stop, Act, Turn, Load, Store, Enter, Leave, Step, Fault, Made}
use Rattle.marks.specs.Wants.{Allocs, Below, Calls, CallsBack, Enters, Frees, Gives, Leaves, Outside, Returns, Steps, UpReturns, Answer, Go, Value, Frame, CalledBack, Stopped, answer_to, event_answer, is_fault_at_byte, same_numbers, stopped_if}
use Rattle.c_code.specs.declared.shape.Shape.TheVariants.{Pointer}
use Rattle.c_code.specs.Frames.{are_values}
use Rattle.c_code.specs.Values.{is_value}
use Rattle.c_code.specs.MarkLists.{Reading, Split, Above}
use Rattle.c_code.proofs.Sides.{answered, back_is, replied}
use Rattle.c_types_model.specs.Types.{CType}
use Rattle.c_types_rules.specs.TypedTree.{Body}
use Rattle.c_types_rules.specs.Limits.{frame_size}
use Rattle.c_semantics.specs.Reading.{Marks, wrong, ended, ask, with_value, with_frame}
use Rattle.c_semantics.specs.Context.{Source, body_of, frame_of, is_face, is_function_of, param_shapes, result_shape}
use Rattle.c_semantics.specs.Values.{Here}
use Rattle.c_semantics.specs.Calls.{Bodies, any_below, any_step, back_or_plain, begun, below, bodies, call, call_by_address, call_by_name, called_back, callee, calling, entering, entering_below, first, here, is_pool, making, outside, outside_step, own_below, pooling, started, stepping, thread_above, thread_behaviour, to_callee}
use Rattle.cut_graph_reached.specs.Reached.{called}
use Rattle.cut_graph_rules.specs.declared.mention.Mention.TheVariants.{Function, Global, Written}
use Rattle.cut_graph_rules.specs.Mentions.{statement_mentions}
use Rattle.cut_graph_laws.specs.Granted.{Grants, Permits, StepGranted, called_side}
use Rattle.cut_graph_laws.proofs.Mentioned.{AllGranted}
use Rattle.cut_graph_laws.proofs.Sound.{Allowed, Cuts, Sound, asks, asks_plain, cond_sound, counted, ends, fails_sound, fewer, fewer_all, value_given, weak, weak_all, wrongs}
use Rattle.cut_graph_laws.proofs.Values.{Makes, making_calls, CallsSound}
use Rattle.cut_graph_laws.proofs.Statements.{statement_sound}

-- what calls make in bodies
abbrev pub calls_of : Reading → Source → Bodies → Side → Makes
calls_of r s c side = record { call = call_by_name r s c side; call_at = call_by_address r s c side }

-- only functions of the source are called by address
pub callee_of_source : (s : Source) (t : CType) (address f : ℕ) → callee s t address ≡ Some f → builtin_count ≤ f
callee_of_source s t address f e =
    let n = (address - function_address 0) / 16 in
    by (eqb address (function_address n) && (leb builtin_count n && is_function_of s t n)) refl e
  where
    by : (b : Bool) → (eqb address (function_address ((address - function_address 0) / 16)) && (leb builtin_count ((address - function_address 0) / 16) && is_function_of s t ((address - function_address 0) / 16))) ≡ b → cond b (Some ((address - function_address 0) / 16)) None ≡ Some f → builtin_count ≤ f
    by true r h =
        let n = (address - function_address 0) / 16 in
        let same : n ≡ f = cc in
        let q = and_parts (eqb address (function_address n)) (leb builtin_count n && is_function_of s t n) r in
        let large : builtin_count ≤ n = leb-true builtin_count n (and_parts (leb builtin_count n) (is_function_of s t n) q.1).0 in
        subst (λ (x : ℕ). builtin_count ≤ x) same large
    by false r h = absurd cc

not_pool : (side : Side) (f : ℕ) → builtin_count ≤ f → is_pool side f ≡ false
not_pool System f le = refl
not_pool Replay f le = by (ltb f 2) refl
  where
    by : (b : Bool) → ltb f 2 ≡ b → b ≡ false
    by false e = refl
    by true e = let lt : f < 2 = ltb-true f 2 e in absurd (omega (arith, lt, le))

-- what answers a call and is no fault tells no more than that it was made
go_kind : (i : Bool) (f : ℕ) (args : List ℕ) (k : EventKind) (x : Answer) → event_answer (Calls i f args) k ≡ Some x → x ≡ Go
go_kind i f args (Call g bs ins outs prepared) x h = sym (answered (eqb g f && same_numbers bs args) Go x h).1
go_kind i f args (Ret g bs v same outs commit) x h = absurd cc
go_kind i f args (Up g bs) x h = absurd cc
go_kind i f args (UpRet g v) x h = absurd cc
go_kind i f args (Alloc at size) x h = absurd cc
go_kind i f args (Free at size) x h = absurd cc
go_kind i f args (Stop fault) x h = absurd cc

go_fault : (a : Act) (x : Answer) → stopped_if (is_fault_at_byte true a) ≡ Some x → (x ≡ Stopped → ⊥) → x ≡ Go
go_fault a x h n = absurd (n (sym (answered (is_fault_at_byte true a) Stopped x h).1))

calls_go : (i : Bool) (f : ℕ) (args : List ℕ) (a : Act) (x : Answer) → answer_to (Calls i f args) a ≡ Some x → (x ≡ Stopped → ⊥) → x ≡ Go
unfolding answer_to
calls_go i f args (Made e) x h n = go_kind i f args e.kind x h
calls_go i f args Turn x h n = go_fault Turn x h n
calls_go i f args (Load o at bytes) x h n = go_fault (Load o at bytes) x h n
calls_go i f args (Store o at bytes) x h n = go_fault (Store o at bytes) x h n
calls_go i f args (Enter g bs at bytes) x h n = go_fault (Enter g bs at bytes) x h n
calls_go i f args (Leave at size) x h n = go_fault (Leave at size) x h n
calls_go i f args (Step g bs v ins pieces freed) x h n = go_fault (Step g bs v ins pieces freed) x h n
calls_go i f args (Fault kind crosses ins outs access) x h n = go_fault (Fault kind crosses ins outs access) x h n

module _ (s : Source) (p : Permits) (grants : Grants s p) where
  abbrev S : (C : Type 0) → ℕ → Marks → Marks → Type 0
  S C k a b = Sound s p C k a b

  abbrev On : (C : Type 0) → ℕ → (ℕ → Marks) → (ℕ → Marks) → Type 0
  On C k go on = Cuts s p C k go on

  -- ---- bodies

  making_sound : (C : Type 0) (o : Option Body) (k : ℕ) (h : Here) (m : Makes) (go on : ℕ → Marks) → ((b : Body) → o ≡ Some b → AllGranted s p C h.side (statement_mentions b.statements)) → CallsSound s p C k h m → On C k go on → S C k (making s o h go) (making s o (making_calls h m) on)
  making_sound C None k h m go on ok cs e = wrongs s p C k
  making_sound C (Some b) k h m go on ok cs e =
      let leave : (ℕ → Marks) → ℕ → Marks = λ a v. ask h.side (Leaves h.base (frame_size s.program b.locals)) (λ x. a v) in
      let left : On C k (leave go) (leave on) = λ v. asks_plain s p C k h.side (Leaves h.base (frame_size s.program b.locals)) (λ c. tt) (λ x. go v) (λ x. on v) (λ x j lt. fewer s p C j k (go v) (on v) (omega arith) (e v)) in
      statement_sound s p C b.statements k h m (record { next = leave go 0; stop = leave go 0; again = leave go 0; give = leave go }) (record { next = leave on 0; stop = leave on 0; again = leave on 0; give = leave on }) (ok b refl) cs
      (record { next = left 0; stop = left 0; again = left 0; give = left })

  -- a body is sound where its function may run
  abbrev BodiesAt : (C : Type 0) → ℕ → Bodies → Bodies → Type 0
  BodiesAt C k b c = (side : Side) (f base : ℕ) (go on : ℕ → Marks) → (C → p.may side f) → On C k go on → S C k (b side f base go) (c side f base on)

  -- after a mark, under whatever condition
  abbrev BodiesSound : ℕ → Bodies → Bodies → Type 1
  BodiesSound k b c = (C : Type 0) (j : ℕ) → j < k → BodiesAt C j b c

  fewer_bodies : (j k : ℕ) (b c : Bodies) → j ≤ k → BodiesSound k b c → BodiesSound j b c
  fewer_bodies j k b c le d C i lt = d C i (omega arith)

  -- ---- calls

  framed : (C : Type 0) (k : ℕ) (b c : Bodies) (side : Side) (f : ℕ) (go on : ℕ → Marks) → BodiesAt C k b c → (C → p.may side f) → On C k go on → (x : Answer) → S C k (with_frame (λ base. b side f base go) x) (with_frame (λ base. c side f base on) x)
  framed C k b c side f go on d may e (Frame at) = cond_sound s p C k (is_value Pointer at) (b side f at go) (c side f at on) wrong wrong (d side f at go on may e) (wrongs s p C k)
  framed C k b c side f go on d may e Go = wrongs s p C k
  framed C k b c side f go on d may e (Value v) = wrongs s p C k
  framed C k b c side f go on d may e (CalledBack g args) = wrongs s p C k
  framed C k b c side f go on d may e Stopped = wrongs s p C k

  -- named, or allowed by the mark
  entered_may : (C : Type 0) (side : Side) (i : Bool) (f : ℕ) (args bytes : List ℕ) (x : ℕ) → (C → i ≡ false → p.may side f) → C × Allowed s p side (Enters i f args bytes) (Frame x) → p.may side f
  entered_may C side false f args bytes x may c = may c.0 refl
  entered_may C side true f args bytes x may c = c.1.may (record { side = side; func = f }) refl refl

  frame_answered : (C : Type 0) (k : ℕ) (b c : Bodies) (side : Side) (i : Bool) (f : ℕ) (args bytes : List ℕ) (go on : ℕ → Marks) → (C → i ≡ false → p.may side f) → ((D : Type 0) → BodiesAt D k b c) → On C k go on → (x : Answer)
      → S (C × Allowed s p side (Enters i f args bytes) x) k (with_frame (λ base. b side f base go) x) (with_frame (λ base. c side f base on) x)
  frame_answered C k b c side i f args bytes go on may d e (Frame at) =
      let D = C × Allowed s p side (Enters i f args bytes) (Frame at) in
      framed D k b c side f go on (d D) (entered_may C side i f args bytes at may) (weak_all s p C D k k go on (omega arith) (λ x. x.0) e) (Frame at)
  frame_answered C k b c side i f args bytes go on may d e Go = wrongs s p (C × Allowed s p side (Enters i f args bytes) Go) k
  frame_answered C k b c side i f args bytes go on may d e (Value v) = wrongs s p (C × Allowed s p side (Enters i f args bytes) (Value v)) k
  frame_answered C k b c side i f args bytes go on may d e (CalledBack g bs) = wrongs s p (C × Allowed s p side (Enters i f args bytes) (CalledBack g bs)) k
  frame_answered C k b c side i f args bytes go on may d e Stopped = wrongs s p (C × Allowed s p side (Enters i f args bytes) Stopped) k

  entering_sound : (C : Type 0) (k : ℕ) (b c : Bodies) (side : Side) (i : Bool) (f : ℕ) (args : List ℕ) (go on : ℕ → Marks) → (C → i ≡ false → p.may side f) → BodiesSound k b c → On C k go on → S C k (entering s b side side i f args go) (entering s c side side i f args on)
  entering_sound C k b c side i f args go on may d e =
      asks s p C k side (Enters i f args (frame_of s f args)) may (with_frame (λ base. b side f base go)) (with_frame (λ base. c side f base on))
      (λ x j lt. frame_answered C j b c side i f args (frame_of s f args) go on may (λ D. d D j lt) (fewer_all s p C j k go on (omega arith) e) x)

  called_back_sound : (C : Type 0) (k : ℕ) (b c : Bodies) (g : ℕ) (args : List ℕ) (go on : ℕ → Marks) → (C → p.may Replay g) → BodiesSound k b c → On C k go on → S C k (called_back s b g args go) (called_back s c g args on)
  called_back_sound C k b c g args go on may d e =
      let up : (ℕ → Marks) → ℕ → Marks = λ a v. ask Replay (UpReturns g v) (λ x. a v) in
      cond_sound s p C k (is_some (body_of s g) && are_values (param_shapes s g) args) (entering s b Replay Replay false g args (up go)) (entering s c Replay Replay false g args (up on)) wrong wrong
      (entering_sound C k b c Replay false g args (up go) (up on) (λ x named. may x) d
      (λ v. asks_plain s p C k Replay (UpReturns g v) (λ x. tt) (λ x. go v) (λ x. on v) (λ x j lt. fewer s p C j k (go v) (on v) (omega arith) (e v))))
      (wrongs s p C k)

  stepping_sound : (C : Type 0) (k : ℕ) (side : Side) (i : Bool) (f : ℕ) (args : List ℕ) (go on : ℕ → Marks) → (C → StepGranted s p side i f) → On C k go on → S C k (stepping s side i f args go) (stepping s side i f args on)
  stepping_sound C k side i f args go on ok e =
      asks_plain s p C k side (Steps i f args) ok (with_value (result_shape s f) go) (with_value (result_shape s f) on) (λ x j lt. value_given s p C j (result_shape s f) go on (fewer_all s p C j k go on (omega arith) e) x)

  -- ---- below a call of the interface

  any_step_sound : (C : Type 0) (k : ℕ) (b c : Bodies) (f : ℕ) (args : List ℕ) (go on : ℕ → Marks) (a z : Marks) → BodiesSound k b c → On C k go on → S C k a z → (x : Answer) → S (C × Allowed s p Replay (Below f args) x) k (any_step s b f go a x) (any_step s c f on z x)
  any_step_sound C k b c f args go on a z d e r (CalledBack g bs) =
      let D = C × Allowed s p Replay (Below f args) (CalledBack g bs) in
      called_back_sound D k b c g bs (λ v. a) (λ v. z) (λ x. x.1.may (record { side = Replay; func = g }) refl refl) d (λ v. weak s p C D k k a z (omega arith) (λ x. x.0) r)
  any_step_sound C k b c f args go on a z d e r (Value v) = let D = C × Allowed s p Replay (Below f args) (Value v) in value_given s p D k (result_shape s f) go on (weak_all s p C D k k go on (omega arith) (λ x. x.0) e) (Value v)
  any_step_sound C k b c f args go on a z d e r (Frame at) = wrongs s p (C × Allowed s p Replay (Below f args) (Frame at)) k
  any_step_sound C k b c f args go on a z d e r Go = wrongs s p (C × Allowed s p Replay (Below f args) Go) k
  any_step_sound C k b c f args go on a z d e r Stopped = wrongs s p (C × Allowed s p Replay (Below f args) Stopped) k

  any_below_sound : (C : Type 0) (n m k : ℕ) (b c : Bodies) (f : ℕ) (args : List ℕ) (go on : ℕ → Marks) → k < n → k < m → BodiesSound k b c → On C k go on → S C k (any_below n s b f args go) (any_below m s c f args on)
  any_below_sound C zero m k b c f args go on fl fr d e = absurd (omega arith)
  any_below_sound C (suc n) zero k b c f args go on fl fr d e = absurd (omega arith)
  any_below_sound C (suc n) (suc m) k b c f args go on fl fr d e =
      asks s p C k Replay (Below f args) (λ x. tt) (any_step s b f go (any_below n s b f args go)) (any_step s c f on (any_below m s c f args on))
      (λ x j lt.
      let le : j ≤ k = omega arith in
      let less : j < n = omega arith in
      let few : j < m = omega arith in
      let ds : BodiesSound j b c = fewer_bodies j k b c le d in
      let es = fewer_all s p C j k go on le e in
      any_step_sound C j b c f args go on (any_below n s b f args go) (any_below m s c f args on) ds es (any_below_sound C n m j b c f args go on less few ds es) x)

  own_below_sound : (C : Type 0) (k : ℕ) (b c : Bodies) (has : Bool) (f : ℕ) (args : List ℕ) (go on : ℕ → Marks) → (C → p.may System f) → BodiesSound k b c → On C k go on → S C k (own_below s b has f args go) (own_below s c has f args on)
  own_below_sound C k b c true f args go on may d e =
      let back : (ℕ → Marks) → ℕ → Marks = λ a v. ask Replay (Returns f args v) (λ x. a v) in
      entering_sound C k b c System false f args (back go) (back on) (λ x named. may x) d
      (λ v. asks_plain s p C k Replay (Returns f args v) (λ x. tt) (λ x. go v) (λ x. on v) (λ x j lt. fewer s p C j k (go v) (on v) (omega arith) (e v)))
  own_below_sound C k b c false f args go on may d e =
      asks_plain s p C k Replay (Gives f args) (λ x. tt) (with_value (result_shape s f) go) (with_value (result_shape s f) on) (λ x j lt. value_given s p C j (result_shape s f) go on (fewer_all s p C j k go on (omega arith) e) x)

  below_sound : (C : Type 0) (r : Reading) (k : ℕ) (b c : Bodies) (f : ℕ) (args : List ℕ) (go on : ℕ → Marks) → (C → p.may System f) → BodiesSound k b c → On C k go on → S C k (below r s b f args go) (below r s c f args on)
  below_sound C Split k b c f args go on may d e = own_below_sound C k b c (is_some (body_of s f)) f args go on may d e
  below_sound C Above k b c f args go on may d e =
      counted s p C k (λ n. any_below n s b f args go) (λ m. any_below m s c f args on)
      (λ j n m le fl fr. any_below_sound C n m j b c f args go on fl fr (fewer_bodies j k b c le d) (fewer_all s p C j k go on le e))

  -- ---- calls by side, interface and body

  pooling_sound : (C : Type 0) (f k : ℕ) (args : List ℕ) (go on : ℕ → Marks) → On C k go on → S C k (pooling f args go) (pooling f args on)
  pooling_sound C zero k args go on e = asks_plain s p C k Replay (Allocs (first args)) (λ x. tt) (with_value Pointer go) (with_value Pointer on) (λ x j lt. value_given s p C j Pointer go on (fewer_all s p C j k go on (omega arith) e) x)
  pooling_sound C (suc f) k args go on e = asks_plain s p C k Replay (Frees (first args)) (λ x. tt) (λ x. go 0) (λ x. on 0) (λ x j lt. fewer s p C j k (go 0) (on 0) (omega arith) (e 0))

  back_or_plain_sound : (C : Type 0) (k : ℕ) (b c : Bodies) (f : ℕ) (args bytes : List ℕ) (go on : ℕ → Marks) → BodiesSound k b c → ((D : Type 0) → BodiesAt D k b c) → On C k go on → (x : Answer)
      → S (C × Allowed s p System (CallsBack f args bytes) x) k (back_or_plain s b f args go x) (back_or_plain s c f args on x)
  back_or_plain_sound C k b c f args bytes go on d h e (CalledBack g bs) =
      let D = C × Allowed s p System (CallsBack f args bytes) (CalledBack g bs) in
      let may : D → p.may Replay f =
      λ x.
      let is = back_is x.1.mark f args bytes (CalledBack g bs) x.1.answers in
      let same : CalledBack f args ≡ CalledBack g bs = is.1 in
      let func : f ≡ g = cc in
      subst (λ (h : ℕ). p.may Replay h) (sym func) (x.1.may (record { side = Replay; func = g }) refl refl) in
      called_back_sound D k b c f args go on may d (weak_all s p C D k k go on (omega arith) (λ x. x.0) e)
  back_or_plain_sound C k b c f args bytes go on d h e (Frame at) =
      let D = C × Allowed s p System (CallsBack f args bytes) (Frame at) in
      framed D k b c System f go on (h D) (λ x. x.1.may (record { side = System; func = f }) refl refl) (weak_all s p C D k k go on (omega arith) (λ x. x.0) e) (Frame at)
  back_or_plain_sound C k b c f args bytes go on d h e (Value v) = wrongs s p (C × Allowed s p System (CallsBack f args bytes) (Value v)) k
  back_or_plain_sound C k b c f args bytes go on d h e Go = wrongs s p (C × Allowed s p System (CallsBack f args bytes) Go) k
  back_or_plain_sound C k b c f args bytes go on d h e Stopped = wrongs s p (C × Allowed s p System (CallsBack f args bytes) Stopped) k

  entering_below_sound : (C : Type 0) (k : ℕ) (b c : Bodies) (i : Bool) (f : ℕ) (args : List ℕ) (go on : ℕ → Marks) → (C → i ≡ false → p.may System f) → BodiesSound k b c → On C k go on → S C k (entering_below s b i f args go) (entering_below s c i f args on)
  entering_below_sound C k b c false f args go on may d e = entering_sound C k b c System false f args go on may d e
  entering_below_sound C k b c true f args go on may d e =
      asks s p C k System (CallsBack f args (frame_of s f args)) (λ x. tt) (back_or_plain s b f args go) (back_or_plain s c f args on)
      (λ x j lt. back_or_plain_sound C j b c f args (frame_of s f args) go on (fewer_bodies j k b c (omega arith) d) (λ D. d D j lt) (fewer_all s p C j k go on (omega arith) e) x)

  -- what a call above the cut reaches may run below it
  called_may : (C : Type 0) (i : Bool) (f : ℕ) (args : List ℕ) (x : Answer) → (C → i ≡ false → p.may System f) → x ≡ Go → C × Allowed s p Replay (Calls i f args) x → p.may System f
  called_may C false f args x may e c = may c.0 refl
  called_may C true f args x may e c = c.1.may (record { side = System; func = f }) (ap (λ (y : Answer). called f y) e) refl

  -- above the cut no function that may run there is a builtin or external outside the interface
  above_granted : (C : Type 0) (i : Bool) (f : ℕ) → is_some (body_of s f) ≡ false → is_face s f ≡ false → is_pool Replay f ≡ false → (C → i ≡ false → p.may Replay f) → C → StepGranted s p Replay i f
  above_granted C i f none outside_it no_pool may c known =
      let never : p.may Replay f → ⊥ = λ m. let face = grants.externals f known m (is_none (body_of s f) none) no_pool in let no : true ≡ false = sym face ∙ outside_it in cc in
      (indirect i (λ e. never (may c e)), never)
    where
      is_none : (o : Option Body) → is_some o ≡ false → o ≡ None
      is_none None e = refl
      is_none (Some b) e = absurd cc

      indirect : (i : Bool) → (i ≡ false → ⊥) → i ≡ true
      indirect true h = refl
      indirect false h = absurd (h refl)

  -- ---- a call, where what it names may run on the side that it is called to

  abbrev Named : (C : Type 0) → Side → (face i : Bool) → ℕ → Type 0
  Named C side face i f = C → i ≡ false → p.may (called_side side face) f

  calling_sound : (C : Type 0) (r : Reading) (k : ℕ) (b c : Bodies) (side : Side) (face has i : Bool) (f : ℕ) (args : List ℕ) (go on : ℕ → Marks) → is_face s f ≡ face → is_some (body_of s f) ≡ has → is_pool side f ≡ false → Named C side face i f → BodiesSound k b c → On C k go on
      → S C k (calling r s b side face has i f args go) (calling r s c side face has i f args on)
  calling_sound C r k b c Replay true has i f args go on ef eb np may d e =
      asks s p C k Replay (Calls i f args) may (λ x. below r s b f args go) (λ x. below r s c f args on) (λ x j lt. by x j lt)
    where
      by : (x : Answer) (j : ℕ) → j < k → S (C × Allowed s p Replay (Calls i f args) x) j (below r s b f args go) (below r s c f args on)
      by x j lt =
          let D = C × Allowed s p Replay (Calls i f args) x in
          let reaches : D → p.may System f = λ z. called_may C i f args x may (calls_go i f args z.1.mark.act x (replied Replay (Calls i f args) z.1.mark x z.1.answers).1 z.1.goes) z in
          below_sound D r j b c f args go on reaches (fewer_bodies j k b c (omega arith) d) (weak_all s p C D j k go on (omega arith) (λ z. z.0) e)
  calling_sound C r k b c Replay false true i f args go on ef eb np may d e = entering_sound C k b c Replay i f args go on may d e
  calling_sound C r k b c System face true i f args go on ef eb np may d e = entering_below_sound C k b c i f args go on may d e
  calling_sound C r k b c Replay false false i f args go on ef eb np may d e = stepping_sound C k Replay i f args go on (above_granted C i f eb ef np may) e
  calling_sound C r k b c System true false i f args go on ef eb np may d e = stepping_sound C k System i f args go on may e
  calling_sound C r k b c System false false i f args go on ef eb np may d e = stepping_sound C k System i f args go on may e

  call_sound : (C : Type 0) (r : Reading) (k : ℕ) (b c : Bodies) (side : Side) (i : Bool) (f : ℕ) (args : List ℕ) (go on : ℕ → Marks) → is_pool side f ≡ false → Named C side (is_face s f) i f → BodiesSound k b c → On C k go on → S C k (call r s b side i f args go) (call r s c side i f args on)
  call_sound C r k b c side i f args go on np may d e = calling_sound C r k b c side (is_face s f) (is_some (body_of s f)) i f args go on refl refl np may d e

  by_name_sound : (C : Type 0) (r : Reading) (k : ℕ) (b c : Bodies) (side : Side) (f : ℕ) (args : List ℕ) (go on : ℕ → Marks) → (C → p.may (called_side side (is_face s f)) f) → BodiesSound k b c → On C k go on → S C k (call_by_name r s b side f args go) (call_by_name r s c side f args on)
  by_name_sound C r k b c side f args go on may d e = by (is_pool side f) refl
    where
      by : (t : Bool) → is_pool side f ≡ t → S C k (cond t (pooling f args go) (call r s b side false f args go)) (cond t (pooling f args on) (call r s c side false f args on))
      by true h = pooling_sound C f k args go on e
      by false h = call_sound C r k b c side false f args go on h (λ z named. may z) d e

  to_callee_sound : (C : Type 0) (r : Reading) (k : ℕ) (b c : Bodies) (side : Side) (o : Option ℕ) (args : List ℕ) (go on : ℕ → Marks) → ((f : ℕ) → o ≡ Some f → builtin_count ≤ f) → BodiesSound k b c → On C k go on → S C k (to_callee r s b side o args go) (to_callee r s c side o args on)
  to_callee_sound C r k b c side (Some f) args go on large d e = call_sound C r k b c side true f args go on (not_pool side f (large f refl)) (λ z named. absurd cc) d e
  to_callee_sound C r k b c side None args go on large d e = fails_sound s p C k side BadCall

  calls_sound : (C : Type 0) (r : Reading) (k : ℕ) (b c : Bodies) (side : Side) (f base : ℕ) → BodiesSound k b c → CallsSound s p C k (here r s b side f base) (calls_of r s c side)
  calls_sound C r k b c side f base d = record {
    named = λ j le g may args go on e. by_name_sound C r j b c side g args go on may (fewer_bodies j k b c le d) e;
    pointed = λ j le t a args go on e. to_callee_sound C r j b c side (callee s t a) args go on (λ g h. callee_of_source s t a g h) (fewer_bodies j k b c le d) e;
  }

  -- ---- functions

  granted : (C : Type 0) (side : Side) (f : ℕ) → (C → p.may side f) → (b : Body) → body_of s f ≡ Some b → AllGranted s p C side (statement_mentions b.statements)
  granted C side f may b e z (Function h) k = grants.names side f b e (may z) h k
  granted C side f may b e z (Global g) k = grants.touched side f b e (may z) g k
  granted C side f may b e z (Written g) k = grants.written side f b e (may z) g k

  bodies_sound : (n m k : ℕ) (r : Reading) → k < n → k < m → (C : Type 0) → BodiesAt C k (bodies n r s) (bodies m r s)
  bodies_sound zero m k r fl fr C side f base go on may e = absurd (omega arith)
  bodies_sound (suc n) zero k r fl fr C side f base go on may e = absurd (omega arith)
  bodies_sound (suc n) (suc m) k r fl fr C side f base go on may e =
      making_sound C (body_of s f) k (here r s (bodies n r s) side f base) (calls_of r s (bodies m r s) side) go on (granted C side f may)
      (calls_sound C r k (bodies n r s) (bodies m r s) side f base (λ D j lt.
      let less : j < n = omega arith in
      let few : j < m = omega arith in
      bodies_sound n m j r less few D)) e

  all_bodies : (n m k : ℕ) (r : Reading) → k < n → k < m → BodiesSound k (bodies n r s) (bodies m r s)
  all_bodies n m k r fl fr C j lt =
      let less : j < n = omega arith in
      let few : j < m = omega arith in
      bodies_sound n m j r less few C

  -- ---- threads

  begun_sound : (C : Type 0) (k : ℕ) (b c : Bodies) (has : Bool) (f : ℕ) (args : List ℕ) → BodiesSound k b c → S C k (begun s b has f args) (begun s c has f args)
  begun_sound C k b c true f args d = entering_below_sound C k b c true f args ended ended (λ z named. absurd cc) d (λ v. ends s p C k v)
  begun_sound C k b c false f args d = stepping_sound C k System true f args ended ended (λ z named. absurd cc) (λ v. ends s p C k v)

  started_sound : (C : Type 0) (k : ℕ) (b c : Bodies) (o : Option ℕ) (args : List ℕ) → BodiesSound k b c → S C k (started s b o args) (started s c o args)
  started_sound C k b c None args d = fails_sound s p C k System BadCall
  started_sound C k b c (Some f) args d = begun_sound C k b c (is_some (body_of s f)) f args d

  pub thread_sound : (C : Type 0) (t : CType) (address : ℕ) (args : List ℕ) (k : ℕ) → S C k (thread_behaviour s t address args) (thread_behaviour s t address args)
  thread_sound C t address args k =
      counted s p C k (λ n. started s (bodies n Split s) (callee s t address) args) (λ m. started s (bodies m Split s) (callee s t address) args)
      (λ j n m le fl fr. started_sound C j (bodies n Split s) (bodies m Split s) (callee s t address) args (all_bodies n m j Split fl fr))

  outside_step_sound : (C : Type 0) (k : ℕ) (b c : Bodies) (a z : Marks) → BodiesSound k b c → S C k a z → (x : Answer) → S (C × Allowed s p Replay Outside x) k (outside_step s b a x) (outside_step s c z x)
  outside_step_sound C k b c a z d r (CalledBack g args) =
      let D = C × Allowed s p Replay Outside (CalledBack g args) in
      called_back_sound D k b c g args (λ v. a) (λ v. z) (λ x. x.1.may (record { side = Replay; func = g }) refl refl) d (λ v. weak s p C D k k a z (omega arith) (λ x. x.0) r)
  outside_step_sound C k b c a z d r (Value v) = wrongs s p (C × Allowed s p Replay Outside (Value v)) k
  outside_step_sound C k b c a z d r (Frame at) = wrongs s p (C × Allowed s p Replay Outside (Frame at)) k
  outside_step_sound C k b c a z d r Go = wrongs s p (C × Allowed s p Replay Outside Go) k
  outside_step_sound C k b c a z d r Stopped = wrongs s p (C × Allowed s p Replay Outside Stopped) k

  outside_sound : (C : Type 0) (n m k : ℕ) (b c : Bodies) → k < n → k < m → BodiesSound k b c → S C k (outside n s b) (outside m s c)
  outside_sound C zero m k b c fl fr d = absurd (omega arith)
  outside_sound C (suc n) zero k b c fl fr d = absurd (omega arith)
  outside_sound C (suc n) (suc m) k b c fl fr d =
      asks s p C k Replay Outside (λ x. tt) (outside_step s b (outside n s b)) (outside_step s c (outside m s c))
      (λ x j lt.
      let ds : BodiesSound j b c = fewer_bodies j k b c (omega arith) d in
      let less : j < n = omega arith in
      let few : j < m = omega arith in
      outside_step_sound C j b c (outside n s b) (outside m s c) ds (outside_sound C n m j b c less few ds) x)

  pub above_sound : (C : Type 0) (k : ℕ) → S C k (thread_above s) (thread_above s)
  above_sound C k =
      counted s p C k (λ n. outside n s (bodies n Above s)) (λ m. outside m s (bodies m Above s))
      (λ j n m le fl fr. outside_sound C n m j (bodies n Above s) (bodies m Above s) fl fr (all_bodies n m j Above fl fr))
