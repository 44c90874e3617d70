-- The code of a function makes the marks of its calls.
use Rattle.std.proofs.Common.{◌≡◌, ℕ, zero, suc, ◌-◌, ◌/◌, ◌<◌, ◌≤◌, ◌&&◌, Bool, true, false, cond, List, [], ◌∷◌, length, Option, Some, None, is_some, refl, sym, ap, ◌∙◌, subst, arith}
use Rattle.std.specs.Prelude.{leb, eqb, slice_get}
use Rattle.marks.specs.declared.side.Side.{Side}
use Rattle.marks.specs.declared.side.Side.TheVariants.{Replay, System}
use Rattle.marks.specs.declared.fault.FaultKind.TheVariants.{BadCall}
use Rattle.marks.specs.Marks.{Mark}
use Rattle.marks.specs.Places.{builtin_count, function_address}
use Rattle.marks.specs.Wants.{Allocs, Below, Calls, CallsBack, Enters, Frees, Gives, Leaves, Outside, Returns, Steps, UpReturns, Answer, Go, Value, Frame, CalledBack, Stopped}
use Rattle.c_code.specs.declared.shape.Shape.TheVariants.{Pointer}
use Rattle.c_code.specs.declared.code.FuncInfo.{FuncInfo}
use Rattle.c_code.specs.declared.instr.Push.TheVariants.{Number}
use Rattle.c_code.specs.declared.instr.Instr.TheVariants as instr
use Rattle.c_code.specs.declared.activation.Activation.{Activation}
use Rattle.c_code.specs.declared.activation.Call.{Call}
use Rattle.c_code.specs.declared.activation.Waiting.{Waiting}
use Rattle.c_code.specs.declared.activation.Waiting.TheVariants.{ForValue, ForRet, ForUpRet, ForBelow, ForOutside}
use Rattle.c_code.specs.Frames.{are_values, params_bytes}
use Rattle.c_code.specs.Values.{is_value}
use Rattle.c_code.specs.Machine.{Flat, Laid, Config, Going, Under, Entering, Closing, Starting, Done, Lost, Action, Pending, Asks, Pends, Awaits, Starts, action, awaiting, begin, bytes_for, call_act, entry, entry_of, first, framed, func_of, give, is_pool, pending, pool_act, returning, start, take_args, to_callee, uncover, valued, with_args}
use Rattle.c_code.specs.Machine as machine
use Rattle.c_code.specs.MarkLists.{Reading, Split, Above, Next, Wants, step, next_of, lists, has_entry, result_of, takes_values}
use Rattle.c_code.specs.MarkLists as code_lists
use Rattle.c_types_model.specs.Types.{CType}
use Rattle.c_types_rules.specs.TypedTree.{Body}
use Rattle.c_types_rules.specs.Limits.{frame_size}
use Rattle.c_semantics.specs.Reading.{Marks, wrong, ended, ask, with_value, with_frame}
use Rattle.c_semantics.specs.Context.{Source, body_of, frame_of, frame_of_body, frame_with, is_face, is_function_of, local_offsets, param_shapes, result_shape}
use Rattle.c_semantics.specs.Values.{Here}
use Rattle.c_semantics.specs.Calls.{Bodies, any_below, any_step, back_or_plain, begun, behaviour, below, bodies, call, call_by_address, call_by_name, called_back, callee, calling, entering, entering_below, here, locals_of, making, outside, outside_step, own_below, pooling, started, stepping, thread_above, thread_behaviour}
use Rattle.c_semantics.specs.Calls as meaning
use Rattle.c_lower_placement.specs.Placement.{BodyAt, IsSigOf, against}
use Rattle.c_lower_placement.specs.Laws.{IsLowered, laid}
use Rattle.c_lower_placement.proofs.Agree.{Agree, by_ask, by_cond, by_fails, by_lost, by_value, fewer}
use Rattle.c_lower_placement.proofs.Expressions.{Spot, stand, here_at, CallsAgree, pushes}
use Rattle.c_lower_placement.proofs.Statements.{statement_agrees}

module _ (s : Source) (code : Flat) (low : IsLowered s code) where
  abbrev lay : Laid
  lay = laid s code

  -- what a function makes from its frame on is what its code makes
  abbrev pub BodyAgrees : Reading → ℕ → Bodies → Type 0
  BodyAgrees r n b = (side : Side) (f base : ℕ) (d : Body) (go : ℕ → Marks) (stack : List ℕ) (ws : List Waiting) → body_of s f ≡ Some d → ((v : ℕ) → Agree r lay n (go v) (give v ws stack))
      → Agree r lay n (b side f base go) (begin side base (func_of code f) (entry lay f) stack ws)

  -- after a mark
  abbrev pub After : Reading → ℕ → Bodies → Type 0
  After r n b = (j : ℕ) → j < n → BodyAgrees r j b

  fewer_after : (r : Reading) (j n : ℕ) (b : Bodies) → j ≤ n → After r n b → After r j b
  fewer_after r j n b le h i lt = h i (omega arith)

  less : (r : Reading) (j n : ℕ) (go : ℕ → Marks) (c : ℕ → Config) → j ≤ n → ((v : ℕ) → Agree r lay n (go v) (c v)) → (v : ℕ) → Agree r lay j (go v) (c v)
  less r j n go c le h v = fewer r lay j n (go v) (c v) le (h v)

  -- ---- what the code knows of functions

  entered : (f : ℕ) (d : Body) → body_of s f ≡ Some d → (at : ℕ) × (entry lay f ≡ Some at)
  entered f d e = let h = low.bodies f d e in (h.entry, ap entry_of h.known ∙ h.begins)

  frames_same : (f : ℕ) (d : Body) (args : List ℕ) → body_of s f ≡ Some d → frame_of s f args ≡ machine.frame_of lay f args
  frames_same f d args e =
      let h = low.bodies f d e in
      ap (λ o. frame_of_body s f o args) e ∙
      (ap (λ z. frame_with z (params_bytes 0 (param_shapes s f) args)) (sym h.frame) ∙
      (ap (λ z. frame_with h.info.frame (params_bytes 0 z args)) (sym h.params) ∙ sym (ap (λ o. bytes_for o args) h.known)))

  -- ---- frames

  frame_answered : (r : Reading) (n : ℕ) (b : Bodies) (side : Side) (f : ℕ) (d : Body) (go : ℕ → Marks) (stack : List ℕ) (ws : List Waiting) → body_of s f ≡ Some d → BodyAgrees r n b → ((v : ℕ) → Agree r lay n (go v) (give v ws stack))
      → (a : Answer) → Agree r lay n (with_frame (λ base. b side f base go) a) (framed lay side f stack ws a)
  frame_answered r n b side f d go stack ws e h k (Frame at) = by_cond r lay n (is_value Pointer at) (b side f at go) wrong (begin side at (func_of code f) (entry lay f) stack ws) Lost (h side f at d go stack ws e k) (by_lost r lay n)
  frame_answered r n b side f d go stack ws e h k Go = by_lost r lay n
  frame_answered r n b side f d go stack ws e h k (Value v) = by_lost r lay n
  frame_answered r n b side f d go stack ws e h k (CalledBack g args) = by_lost r lay n
  frame_answered r n b side f d go stack ws e h k Stopped = by_lost r lay n

  entering_agrees : (r : Reading) (n : ℕ) (b : Bodies) (ms side : Side) (i : Bool) (f : ℕ) (args : List ℕ) (d : Body) (go : ℕ → Marks) (c : Config) (stack : List ℕ) (ws : List Waiting) → body_of s f ≡ Some d → After r n b
      → step r lay c ≡ Wants ms (Enters i f args (machine.frame_of lay f args)) (framed lay side f stack ws) → ((v : ℕ) → Agree r lay n (go v) (give v ws stack)) → Agree r lay n (entering s b ms side i f args go) c
  entering_agrees r n b ms side i f args d go c stack ws e h w k =
      by_ask r lay n ms (Enters i f args (frame_of s f args)) (with_frame (λ base. b side f base go)) (framed lay side f stack ws) c
      (w ∙ ap (λ z. Wants ms (Enters i f args z) (framed lay side f stack ws)) (sym (frames_same f d args e)))
      (λ a j lt. frame_answered r j b side f d go stack ws e (h j lt) (less r j n go (λ v. give v ws stack) (omega arith) k) a)

  -- ---- functions that are called back

  -- what follows the end of one that is called back is the return of its Up
  abbrev Returned : Reading → ℕ → (func : ℕ) → (ℕ → Marks) → Waiting → List ℕ → List Waiting → Type 0
  Returned r n g go w stack ws = (v : ℕ) → Agree r lay n (ask Replay (UpReturns g v) (λ x. go v)) (give v (w ∷ ws) stack)

  back_by : (r : Reading) (n : ℕ) (b : Bodies) (g : ℕ) (args : List ℕ) (go : ℕ → Marks) (stack : List ℕ) (w : Waiting) (ws : List Waiting) (o : Option Body) → body_of s g ≡ o → After r n b → Returned r n g go w stack ws
      → Agree r lay n (cond (is_some o && are_values (param_shapes s g) args) (entering s b Replay Replay false g args (λ v. ask Replay (UpReturns g v) (λ x. go v))) wrong) (code_lists.called_back lay g args stack (w ∷ ws))
  back_by r n b g args go stack w ws None e h k =
      let none = low.others g e in
      subst (λ z. Agree r lay n wrong (cond (has_entry z && takes_values (func_of code g) args) (Entering Replay false g args stack (w ∷ ws)) Lost)) (sym none) (by_lost r lay n)
  back_by r n b g args go stack w ws (Some d) e h k =
      let c = low.bodies g d e in
      let at = entered g d e in
      let values : takes_values (func_of code g) args ≡ are_values (param_shapes s g) args = ap (λ z. takes_values z args) c.known ∙ ap (λ z. are_values z args) c.params in
      let up : ℕ → Marks = λ v. ask Replay (UpReturns g v) (λ x. go v) in
      subst (λ z. Agree r lay n (cond (are_values (param_shapes s g) args) (entering s b Replay Replay false g args up) wrong) (cond (has_entry z && takes_values (func_of code g) args) (Entering Replay false g args stack (w ∷ ws)) Lost)) (sym at.1)
      (subst (λ z. Agree r lay n (cond (are_values (param_shapes s g) args) (entering s b Replay Replay false g args up) wrong) (cond z (Entering Replay false g args stack (w ∷ ws)) Lost)) (sym values)
      (by_cond r lay n (are_values (param_shapes s g) args) (entering s b Replay Replay false g args up) wrong (Entering Replay false g args stack (w ∷ ws)) Lost
      (entering_agrees r n b Replay Replay false g args d up (Entering Replay false g args stack (w ∷ ws)) stack (w ∷ ws) e h refl k) (by_lost r lay n)))

  back_agrees : (r : Reading) (n : ℕ) (b : Bodies) (g : ℕ) (args : List ℕ) (go : ℕ → Marks) (stack : List ℕ) (w : Waiting) (ws : List Waiting) → After r n b → Returned r n g go w stack ws
      → Agree r lay n (called_back s b g args go) (code_lists.called_back lay g args stack (w ∷ ws))
  back_agrees r n b g args go stack w ws h k = back_by r n b g args go stack w ws (body_of s g) refl h k

  -- a value that was answered, of the function's result
  result_agrees : (r : Reading) (n f : ℕ) (go : ℕ → Marks) (a : Activation) (stack : List ℕ) (ws : List Waiting) → ((v : ℕ) → Agree r lay n (go v) (Going a (v ∷ stack) ws)) → (x : Answer) → Agree r lay n (with_value (result_shape s f) go x) (valued (result_of lay f) a stack ws x)
  result_agrees r n f go a stack ws k x = subst (λ z. Agree r lay n (with_value (result_shape s f) go x) (valued z a stack ws x)) (sym (low.results f)) (by_value r lay n (result_shape s f) go a stack ws k x)

  stepping_agrees : (r : Reading) (n : ℕ) (side : Side) (i : Bool) (f : ℕ) (args : List ℕ) (go : ℕ → Marks) (c : Config) (a : Activation) (stack : List ℕ) (ws : List Waiting) → step r lay c ≡ Wants side (Steps i f args) (valued (result_of lay f) a stack ws)
      → ((v : ℕ) → Agree r lay n (go v) (Going a (v ∷ stack) ws)) → Agree r lay n (stepping s side i f args go) c
  stepping_agrees r n side i f args go c a stack ws w k =
      by_ask r lay n side (Steps i f args) (with_value (result_shape s f) go) (valued (result_of lay f) a stack ws) c w (λ x j lt. result_agrees r j f go a stack ws (less r j n go (λ v. Going a (v ∷ stack) ws) (omega arith) k) x)

  -- ---- below a call of the interface

  -- the call, as it waits: its arguments are on the stack
  abbrev Depths : Call → (args stack rest : List ℕ) → List Waiting → Type 0
  Depths c args stack rest ws = (below : List ℕ) × (take_args c.args [] stack ≡ Some (args, below)) × (uncover c.indirect below ≡ rest)

  awaits : (r : Reading) (c : Call) (args stack rest : List ℕ) (ws : List Waiting) → Depths c args stack rest ws → action lay (Under c stack ws) ≡ Awaits (record { call = c; args = args; values = stack; rest = rest; waits = ws })
  awaits r c args stack rest ws h = ap (λ o. with_args o (awaiting c stack ws)) h.1 ∙ ap (λ z. Awaits (record { call = c; args = args; values = stack; rest = z; waits = ws })) h.2

  any_step_agrees : (r : Reading) (n : ℕ) (b : Bodies) (c : Call) (args stack rest : List ℕ) (ws : List Waiting) (go : ℕ → Marks) (again : Marks) → After r n b → ((v : ℕ) → Agree r lay n (go v) (Going c.then (v ∷ rest) ws)) → Agree r lay n again (Under c stack ws)
      → (a : Answer) → Agree r lay n (any_step s b c.func go again a) (code_lists.after_below lay (record { call = c; args = args; values = stack; rest = rest; waits = ws }) a)
  any_step_agrees r n b c args stack rest ws go again h k m (CalledBack g bs) =
      back_agrees r n b g bs (λ v. again) stack (ForBelow c g) ws h (λ v. by_ask r lay n Replay (UpReturns g v) (λ x. again) (λ x. Under c stack ws) (Closing v (ForBelow c g) stack ws) refl (λ a j lt. fewer r lay j n again (Under c stack ws) (omega arith) m))
  any_step_agrees r n b c args stack rest ws go again h k m (Value v) = result_agrees r n c.func go c.then rest ws k (Value v)
  any_step_agrees r n b c args stack rest ws go again h k m (Frame at) = result_agrees r n c.func go c.then rest ws k (Frame at)
  any_step_agrees r n b c args stack rest ws go again h k m Go = result_agrees r n c.func go c.then rest ws k Go
  any_step_agrees r n b c args stack rest ws go again h k m Stopped = result_agrees r n c.func go c.then rest ws k Stopped

  any_agrees : (m n : ℕ) (b : Bodies) (c : Call) (args stack rest : List ℕ) (ws : List Waiting) (go : ℕ → Marks) → n < m → After Above n b → Depths c args stack rest ws → ((v : ℕ) → Agree Above lay n (go v) (Going c.then (v ∷ rest) ws))
      → Agree Above lay n (any_below m s b c.func args go) (Under c stack ws)
  any_agrees zero n b c args stack rest ws go lt h w k = absurd (omega arith)
  any_agrees (suc m) n b c args stack rest ws go lt h w k =
      let p : Pending = record { call = c; args = args; values = stack; rest = rest; waits = ws } in
      by_ask Above lay n Replay (Below c.func args) (any_step s b c.func go (any_below m s b c.func args go)) (code_lists.after_below lay p) (Under c stack ws) (ap (next_of Above lay) (awaits Above c args stack rest ws w))
      (λ a j less_n.
      let hs = fewer_after Above j n b (omega arith) h in
      let ks = less Above j n go (λ v. Going c.then (v ∷ rest) ws) (omega arith) k in
      any_step_agrees Above j b c args stack rest ws go (any_below m s b c.func args go) hs ks (any_agrees m j b c args stack rest ws go (omega arith) hs w ks) a)

  -- the return of the call, with its arguments
  returns : (c : Call) (args stack rest : List ℕ) (ws : List Waiting) (v : ℕ) → Depths c args stack rest ws → step Split lay (Closing v (ForRet c) stack ws) ≡ Wants Replay (Returns c.func args v) (λ x. Going c.then (v ∷ rest) ws)
  returns c args stack rest ws v h = ap (λ o. next_of Split lay (with_args o (returning v c ws))) h.1 ∙ ap (λ z. Wants Replay (Returns c.func args v) (λ x. Going c.then (v ∷ z) ws)) h.2

  own_agrees : (n : ℕ) (b : Bodies) (c : Call) (args stack rest : List ℕ) (ws : List Waiting) (go : ℕ → Marks) (o : Option Body) → body_of s c.func ≡ o → After Split n b → Depths c args stack rest ws → ((v : ℕ) → Agree Split lay n (go v) (Going c.then (v ∷ rest) ws))
      → Agree Split lay n (own_below s b (is_some o) c.func args go) (Under c stack ws)
  own_agrees n b c args stack rest ws go (Some d) e h w k =
      let p : Pending = record { call = c; args = args; values = stack; rest = rest; waits = ws } in
      let at = entered c.func d e in
      entering_agrees Split n b System System false c.func args d (λ v. ask Replay (Returns c.func args v) (λ x. go v)) (Under c stack ws) stack (ForRet c ∷ ws) e h
      (ap (next_of Split lay) (awaits Split c args stack rest ws w) ∙ ap (λ z. code_lists.below Split lay p z) at.1)
      (λ v. by_ask Split lay n Replay (Returns c.func args v) (λ x. go v) (λ x. Going c.then (v ∷ rest) ws) (Closing v (ForRet c) stack ws) (returns c args stack rest ws v w) (λ a j lt. fewer Split lay j n (go v) (Going c.then (v ∷ rest) ws) (omega arith) (k v)))
  own_agrees n b c args stack rest ws go None e h w k =
      let p : Pending = record { call = c; args = args; values = stack; rest = rest; waits = ws } in
      let none = low.others c.func e in
      by_ask Split lay n Replay (Gives c.func args) (with_value (result_shape s c.func) go) (valued (result_of lay c.func) c.then rest ws) (Under c stack ws)
      (ap (next_of Split lay) (awaits Split c args stack rest ws w) ∙ ap (λ z. code_lists.below Split lay p z) none)
      (λ x j lt. result_agrees Split j c.func go c.then rest ws (less Split j n go (λ v. Going c.then (v ∷ rest) ws) (omega arith) k) x)

  below_agrees : (r : Reading) (n : ℕ) (b : Bodies) (c : Call) (args stack rest : List ℕ) (ws : List Waiting) (go : ℕ → Marks) → After r n b → Depths c args stack rest ws → ((v : ℕ) → Agree r lay n (go v) (Going c.then (v ∷ rest) ws))
      → (ms : List Mark) → length ms ≤ n → below r s b c.func args go ms ≡ lists r ms lay (Under c stack ws)
  below_agrees Split n b c args stack rest ws go h w k ms few = own_agrees n b c args stack rest ws go (body_of s c.func) refl h w k ms few
  below_agrees Above n b c args stack rest ws go h w k ms few =
      any_agrees (suc (length ms)) (length ms) b c args stack rest ws go (omega arith) (fewer_after Above (length ms) n b few h) w (less Above (length ms) n go (λ v. Going c.then (v ∷ rest) ws) few k) ms (omega arith)

  under_agrees : (r : Reading) (n : ℕ) (b : Bodies) (c : Call) (args stack rest : List ℕ) (ws : List Waiting) (go : ℕ → Marks) → After r n b → Depths c args stack rest ws → ((v : ℕ) → Agree r lay n (go v) (Going c.then (v ∷ rest) ws))
      → Agree r lay n (below r s b c.func args go) (Under c stack ws)
  under_agrees r n b c args stack rest ws go h w k ms few = below_agrees r n b c args stack rest ws go h w k ms few

  -- ---- calls

  plain_answered : (r : Reading) (n : ℕ) (b : Bodies) (f : ℕ) (args : List ℕ) (d : Body) (go : ℕ → Marks) (then : Activation) (rest : List ℕ) (ws : List Waiting) → body_of s f ≡ Some d → After r n b → BodyAgrees r n b → ((v : ℕ) → Agree r lay n (go v) (Going then (v ∷ rest) ws))
      → (a : Answer) → Agree r lay n (back_or_plain s b f args go a) (code_lists.after_call_back lay (record { call = record { func = f; args = length args; indirect = true; then = then }; args = args; values = rest; rest = rest; waits = ws }) a)
  plain_answered r n b f args d go then rest ws e h m k (CalledBack g bs) =
      back_agrees r n b f args go rest (ForUpRet then f) ws h (λ v. by_ask r lay n Replay (UpReturns f v) (λ x. go v) (λ x. Going then (v ∷ rest) ws) (Closing v (ForUpRet then f) rest ws) refl (λ a j lt. fewer r lay j n (go v) (Going then (v ∷ rest) ws) (omega arith) (k v)))
  plain_answered r n b f args d go then rest ws e h m k (Frame at) = frame_answered r n b System f d go rest (ForValue then ∷ ws) e m k (Frame at)
  plain_answered r n b f args d go then rest ws e h m k (Value v) = by_lost r lay n
  plain_answered r n b f args d go then rest ws e h m k Go = by_lost r lay n
  plain_answered r n b f args d go then rest ws e h m k Stopped = by_lost r lay n

  -- what a call of the code leads to, by the caller's side and what is known of the function
  abbrev Leading : Reading → Config → Side → Bool → Option ℕ → (i : Bool) → (f : ℕ) → (args stack rest : List ℕ) → Activation → List Waiting → Type 0
  Leading r c side face e i f args stack rest then ws = step r lay c ≡ code_lists.called lay (record { call = record { func = f; args = length args; indirect = i; then = then }; args = args; values = stack; rest = rest; waits = ws }) side face e

  below_plain : (r : Reading) (n : ℕ) (b : Bodies) (i : Bool) (f : ℕ) (args : List ℕ) (d : Body) (go : ℕ → Marks) (c : Config) (stack rest : List ℕ) (then : Activation) (ws : List Waiting) → then.side ≡ System → body_of s f ≡ Some d → After r n b
      → step r lay c ≡ code_lists.entered_below lay (record { call = record { func = f; args = length args; indirect = i; then = then }; args = args; values = stack; rest = rest; waits = ws }) i
      → ((v : ℕ) → Agree r lay n (go v) (Going then (v ∷ rest) ws)) → Agree r lay n (entering_below s b i f args go) c
  below_plain r n b false f args d go c stack rest then ws is e h w k =
      entering_agrees r n b System System false f args d go c rest (ForValue then ∷ ws) e h
      (w ∙ ap (λ z. Wants z (Enters false f args (machine.frame_of lay f args)) (framed lay z f rest (ForValue then ∷ ws))) is) k
  below_plain r n b true f args d go c stack rest then ws is e h w k =
      by_ask r lay n System (CallsBack f args (frame_of s f args)) (back_or_plain s b f args go)
      (code_lists.after_call_back lay (record { call = record { func = f; args = length args; indirect = true; then = then }; args = args; values = stack; rest = rest; waits = ws })) c
      (w ∙ ap (λ z. Wants System (CallsBack f args z) (code_lists.after_call_back lay (record { call = record { func = f; args = length args; indirect = true; then = then }; args = args; values = stack; rest = rest; waits = ws }))) (sym (frames_same f d args e)))
      (λ a j lt. same_answer j a (plain_answered r j b f args d go then rest ws e (fewer_after r j n b (omega arith) h) (h j lt) (less r j n go (λ v. Going then (v ∷ rest) ws) (omega arith) k) a))
    where
      same_answer : (j : ℕ) (a : Answer)
          → Agree r lay j (back_or_plain s b f args go a) (code_lists.after_call_back lay (record { call = record { func = f; args = length args; indirect = true; then = then }; args = args; values = rest; rest = rest; waits = ws }) a)
          → Agree r lay j (back_or_plain s b f args go a) (code_lists.after_call_back lay (record { call = record { func = f; args = length args; indirect = true; then = then }; args = args; values = stack; rest = rest; waits = ws }) a)
      same_answer j (CalledBack g bs) m = m
      same_answer j (Frame at) m = m
      same_answer j (Value v) m = m
      same_answer j Go m = m
      same_answer j Stopped m = m

  calling_agrees : (r : Reading) (n : ℕ) (b : Bodies) (side : Side) (face : Bool) (o : Option Body) (i : Bool) (f : ℕ) (args : List ℕ) (go : ℕ → Marks) (c : Config) (stack rest : List ℕ) (then : Activation) (ws : List Waiting) (e : Option ℕ)
      → then.side ≡ side → body_of s f ≡ o → entry lay f ≡ e → After r n b → Depths (record { func = f; args = length args; indirect = i; then = then }) args stack rest ws → Leading r c side face e i f args stack rest then ws
      → ((v : ℕ) → Agree r lay n (go v) (Going then (v ∷ rest) ws)) → Agree r lay n (calling r s b side face (is_some o) i f args go) c
  calling_agrees r n b Replay true o i f args go c stack rest then ws e is body en h w lead k =
      by_ask r lay n Replay (Calls i f args) (λ x. below r s b f args go) (λ x. Under (record { func = f; args = length args; indirect = i; then = then }) stack ws) c lead
      (λ a j lt. under_agrees r j b (record { func = f; args = length args; indirect = i; then = then }) args stack rest ws go (fewer_after r j n b (omega arith) h) w (less r j n go (λ v. Going then (v ∷ rest) ws) (omega arith) k))
  calling_agrees r n b Replay false (Some d) i f args go c stack rest then ws (Some at) is body en h w lead k =
      entering_agrees r n b Replay Replay i f args d go c rest (ForValue then ∷ ws) body h (lead ∙ ap (λ z. Wants z (Enters i f args (machine.frame_of lay f args)) (framed lay z f rest (ForValue then ∷ ws))) is) k
  calling_agrees r n b System face (Some d) i f args go c stack rest then ws (Some at) is body en h w lead k = below_plain r n b i f args d go c stack rest then ws is body h lead k
  calling_agrees r n b Replay false None i f args go c stack rest then ws None is body en h w lead k =
      stepping_agrees r n Replay i f args go c then rest ws (lead ∙ ap (λ z. Wants z (Steps i f args) (valued (result_of lay f) then rest ws)) is) k
  calling_agrees r n b System true None i f args go c stack rest then ws None is body en h w lead k =
      stepping_agrees r n System i f args go c then rest ws (lead ∙ ap (λ z. Wants z (Steps i f args) (valued (result_of lay f) then rest ws)) is) k
  calling_agrees r n b System false None i f args go c stack rest then ws None is body en h w lead k =
      stepping_agrees r n System i f args go c then rest ws (lead ∙ ap (λ z. Wants z (Steps i f args) (valued (result_of lay f) then rest ws)) is) k
  calling_agrees r n b Replay false (Some d) i f args go c stack rest then ws None is body en h w lead k = let x = entered f d body in absurd cc
  calling_agrees r n b System face (Some d) i f args go c stack rest then ws None is body en h w lead k = let x = entered f d body in absurd cc
  calling_agrees r n b Replay false None i f args go c stack rest then ws (Some at) is body en h w lead k = let x = low.others f body in absurd cc
  calling_agrees r n b System true None i f args go c stack rest then ws (Some at) is body en h w lead k = let x = low.others f body in absurd cc
  calling_agrees r n b System false None i f args go c stack rest then ws (Some at) is body en h w lead k = let x = low.others f body in absurd cc

  call_agrees : (r : Reading) (n : ℕ) (b : Bodies) (a : Activation) (i : Bool) (f : ℕ) (args : List ℕ) (go : ℕ → Marks) (c : Config) (stack rest : List ℕ) (ws : List Waiting) (lower : List ℕ) → After r n b
      → action lay c ≡ Pends (pending f i a args stack rest ws) → take_args (length args) [] stack ≡ Some (args, lower) → uncover i lower ≡ rest
      → ((v : ℕ) → Agree r lay n (go v) (Going (machine.next a) (v ∷ rest) ws)) → Agree r lay n (call r s b a.side i f args go) c
  call_agrees r n b a i f args go c stack rest ws lower h e t u k =
      calling_agrees r n b a.side (is_face s f) (body_of s f) i f args go c stack rest (machine.next a) ws (entry lay f) refl refl refl h (lower, t, u) (ap (next_of r lay) e) k

  pool_agrees : (r : Reading) (n : ℕ) (f : ℕ) (args : List ℕ) (go : ℕ → Marks) (a : Activation) (c : Config) (rest : List ℕ) (ws : List Waiting) → action lay c ≡ pool_act f a args rest ws → ((v : ℕ) → Agree r lay n (go v) (Going (machine.next a) (v ∷ rest) ws))
      → Agree r lay n (pooling f args go) c
  pool_agrees r n zero args go a c rest ws e k =
      by_ask r lay n Replay (Allocs (first args)) (with_value Pointer go) (valued Pointer (machine.next a) rest ws) c (ap (next_of r lay) e) (λ x j lt. by_value r lay j Pointer go (machine.next a) rest ws (less r j n go (λ v. Going (machine.next a) (v ∷ rest) ws) (omega arith) k) x)
  pool_agrees r n (suc f) args go a c rest ws e k =
      by_ask r lay n Replay (Frees (first args)) (λ x. go 0) (λ x. Going (machine.next a) (0 ∷ rest) ws) c (ap (next_of r lay) e) (λ x j lt. fewer r lay j n (go 0) (Going (machine.next a) (0 ∷ rest) ws) (omega arith) (k 0))

  by_name : (r : Reading) (n : ℕ) (b : Bodies) (a : Activation) (pool : Bool) (f : ℕ) (args : List ℕ) (go : ℕ → Marks) (c : Config) (stack rest : List ℕ) (ws : List Waiting) → After r n b
      → action lay c ≡ cond pool (pool_act f a args rest ws) (Pends (pending f false a args stack rest ws)) → take_args (length args) [] stack ≡ Some (args, rest)
      → ((v : ℕ) → Agree r lay n (go v) (Going (machine.next a) (v ∷ rest) ws)) → Agree r lay n (cond pool (pooling f args go) (call r s b a.side false f args go)) c
  by_name r n b a true f args go c stack rest ws h e t k = pool_agrees r n f args go a c rest ws e k
  by_name r n b a false f args go c stack rest ws h e t k = call_agrees r n b a false f args go c stack rest ws rest h e t refl k

  -- the function of a type at an address, by its number of types
  same_function : (t : CType) (sig f : ℕ) (at : Bool) (known : Bool) → leb builtin_count f ≡ known → IsSigOf s code t sig
      → cond (at && (known && is_function_of s t f)) (Some f) None ≡ cond (at && (known && machine.has_sig sig (func_of code f))) (Some f) None
  same_function t sig f at true e is = ap (λ z. cond (at && z) (Some f) None) (sym (is f e))
  same_function t sig f at false e is = refl

  callees_same : (t : CType) (sig address : ℕ) → IsSigOf s code t sig → callee s t address ≡ machine.callee lay sig address
  callees_same t sig address is =
      let f = (address - function_address 0) / 16 in
      same_function t sig f (eqb address (function_address f)) (leb builtin_count f) refl is

  by_pointer : (r : Reading) (n : ℕ) (b : Bodies) (a : Activation) (o : Option ℕ) (address : ℕ) (args : List ℕ) (go : ℕ → Marks) (c : Config) (stack rest : List ℕ) (ws : List Waiting) → After r n b
      → action lay c ≡ to_callee o a args stack rest ws → take_args (length args) [] stack ≡ Some (args, address ∷ rest)
      → ((v : ℕ) → Agree r lay n (go v) (Going (machine.next a) (v ∷ rest) ws)) → Agree r lay n (meaning.to_callee r s b a.side o args go) c
  by_pointer r n b a None address args go c stack rest ws h e t k = by_fails r lay n a.side BadCall c e
  by_pointer r n b a (Some f) address args go c stack rest ws h e t k = call_agrees r n b a true f args go c stack rest ws (address ∷ rest) h e t refl k

  spot : Reading → Bodies → Side → (base size : ℕ) → List ℕ → Spot
  spot r b side base size offsets = record { side = side; base = base; size = size; offsets = offsets; call = call_by_name r s b side; call_at = call_by_address r s b side }

  calls_agree : (r : Reading) (n : ℕ) (b : Bodies) (side : Side) (base size : ℕ) (offsets : List ℕ) → After r n b → CallsAgree r s code n (spot r b side base size offsets)
  unfolding spot
  calls_agree r n b side base size offsets h = record {
    named = λ j le f args go c at vs rest ws e t k.
        let a : Activation = record { at = at; base = base; size = size; side = side } in
        by_name r j b a (is_pool side f) f args go c vs rest ws (fewer_after r j n b le h) e t k;
    pointed = λ j le t sig address args go c at vs rest ws is e u k.
        let a : Activation = record { at = at; base = base; size = size; side = side } in
        subst (λ z. Agree r lay j (meaning.to_callee r s b side z args go) c) (sym (callees_same t sig address is))
        (by_pointer r j b a (machine.callee lay sig address) address args go c vs rest ws (fewer_after r j n b le h) e u k);
  }

  -- ---- bodies

  finishes : (r : Reading) (n : ℕ) (p : Spot) (at v : ℕ) (go : ℕ → Marks) (stack : List ℕ) (ws : List Waiting) → slice_get code.instrs at ≡ Some instr.Finish → ((v : ℕ) → Agree r lay n (go v) (give v ws stack))
      → Agree r lay n (ask p.side (Leaves p.base p.size) (λ x. go v)) (Going (stand p at) (v ∷ stack) ws)
  finishes r n p at v go stack ws e k =
      by_ask r lay n p.side (Leaves p.base p.size) (λ x. go v) (λ x. give v ws stack) (Going (stand p at) (v ∷ stack) ws) (ap (λ o. next_of r lay (machine.act lay o (stand p at) (v ∷ stack) ws)) e)
      (λ x j lt. fewer r lay j n (go v) (give v ws stack) (omega arith) (k v))

  body_agrees : (r : Reading) (n : ℕ) (b : Bodies) (side : Side) (base : ℕ) (d : Body) (at : ℕ) (go : ℕ → Marks) (stack : List ℕ) (ws : List Waiting) → BodyAt d (against s code d) at → After r n b → ((v : ℕ) → Agree r lay n (go v) (give v ws stack))
      → Agree r lay n (making s (Some d) (here_at r s code (spot r b side base (frame_size s.program d.locals) (local_offsets s d.locals))) go) (Going (stand (spot r b side base (frame_size s.program d.locals) (local_offsets s d.locals)) at) stack ws)
  unfolding spot
  body_agrees r n b side base d at go stack ws h m k =
      let p = spot r b side base (frame_size s.program d.locals) (local_offsets s d.locals) in
      let leave : ℕ → Marks = λ v. ask side (Leaves base (frame_size s.program d.locals)) (λ x. go v) in
      let ends : Agree r lay n (leave 0) (Going (stand p h.0) stack ws) = pushes r s code n (leave 0) p (Number 0) h.0 h.1 stack ws h.4 (finishes r n p h.1 0 go stack ws h.5.here k) in
      statement_agrees r s code d.statements n p at h.0 h.0 h.0 (record { next = leave 0; stop = leave 0; again = leave 0; give = leave }) stack ws (calls_agree r n b side base (frame_size s.program d.locals) (local_offsets s d.locals) m) h.3
      (record { next = ends; stops = ends; goes = ends; gives = λ z e v. finishes r n p z v go stack ws e k })

  -- where a function's code begins
  at_start : (r : Reading) (n : ℕ) (b : Bodies) (side : Side) (f base : ℕ) (d : Body) (go : ℕ → Marks) (stack : List ℕ) (ws : List Waiting) → body_of s f ≡ Some d → After r n b → ((v : ℕ) → Agree r lay n (go v) (give v ws stack))
      → Agree r lay n (making s (body_of s f) (here r s b side f base) go) (begin side base (func_of code f) (entry lay f) stack ws)
  unfolding spot entered
  at_start r n b side f base d go stack ws e m k =
      let h = low.bodies f d e in
      let at = entered f d e in
      let place : Option Body → Here = λ o. record { source = s; side = side; base = base; offsets = local_offsets s (locals_of o); call = call_by_name r s b side; call_at = call_by_address r s b side } in
      let code_at : Option FuncInfo → Option ℕ → Config = λ i o. begin side base i o stack ws in
      subst (λ o. Agree r lay n (making s o (place o) go) (code_at (func_of code f) (entry lay f))) (sym e)
      (subst (λ i. Agree r lay n (making s (Some d) (place (Some d)) go) (code_at i (entry lay f))) (sym h.known)
      (subst (λ o. Agree r lay n (making s (Some d) (place (Some d)) go) (code_at (Some h.info) o)) (sym at.1)
      (subst (λ z. Agree r lay n (making s (Some d) (place (Some d)) go) (Going (record { at = h.entry; base = base; size = z; side = side }) stack ws)) (sym h.frame)
      (body_agrees r n b side base d h.entry go stack ws h.placed m k))))

  bodies_agree : (m n : ℕ) (r : Reading) → n < m → BodyAgrees r n (bodies m r s)
  bodies_agree zero n r lt side f base d go stack ws e k = absurd (omega arith)
  bodies_agree (suc m) n r lt side f base d go stack ws e k =
      at_start r n (bodies m r s) side f base d go stack ws e (λ j less_n. bodies_agree m j r (omega arith)) k

  all_after : (m n : ℕ) (r : Reading) → n < m → After r n (bodies m r s)
  all_after m n r lt j less_n = bodies_agree m j r (omega arith)

  -- ---- whole calls and threads

  done : (n v : ℕ) → Agree Split lay n (ended v) (Done v)
  done n v [] few = refl
  done n v (x ∷ ms) few = refl

  pub calls : (side : Side) (f : ℕ) (d : Body) (args : List ℕ) (ms : List Mark) → body_of s f ≡ Some d → behaviour Split s side f args ms ≡ code_lists.mark_lists Split lay side f args ms
  calls side f d args ms e =
      let n = length ms in
      entering_agrees Split n (bodies (suc n) Split s) side side false f args d ended (Entering side false f args [] []) [] [] e (all_after (suc n) n Split (omega arith)) refl (λ v. done n v) ms (omega arith)

  start_back : (n : ℕ) (b : Bodies) (f : ℕ) (args : List ℕ) (d : Body) → body_of s f ≡ Some d → After Split n b → BodyAgrees Split n b → (a : Answer) → Agree Split lay n (back_or_plain s b f args ended a) (code_lists.after_start lay f args a)
  start_back n b f args d e h m (CalledBack g bs) =
      back_agrees Split n b f args ended [] (ForOutside f) [] h (λ v. by_ask Split lay n Replay (UpReturns f v) (λ x. ended v) (λ x. Done v) (Closing v (ForOutside f) [] []) refl (λ a j lt. done j v))
  start_back n b f args d e h m (Frame at) = frame_answered Split n b System f d ended [] [] e m (λ v. done n v) (Frame at)
  start_back n b f args d e h m (Value v) = by_lost Split lay n
  start_back n b f args d e h m Go = by_lost Split lay n
  start_back n b f args d e h m Stopped = by_lost Split lay n

  ended_value : (n f : ℕ) (x : Answer) → Agree Split lay n (with_value (result_shape s f) ended x) (code_lists.ended (result_of lay f) x)
  ended_value n f x = subst (λ z. Agree Split lay n (with_value (result_shape s f) ended x) (code_lists.ended z x)) (sym (low.results f)) (each x)
    where
      each : (x : Answer) → Agree Split lay n (with_value (result_shape s f) ended x) (code_lists.ended (result_shape s f) x)
      each (Value v) = by_cond Split lay n (is_value (result_shape s f) v) (ended v) wrong (Done v) Lost (done n v) (by_lost Split lay n)
      each Go = by_lost Split lay n
      each (Frame at) = by_lost Split lay n
      each (CalledBack g args) = by_lost Split lay n
      each Stopped = by_lost Split lay n

  begun_agrees : (n : ℕ) (b : Bodies) (f : ℕ) (args : List ℕ) (o : Option Body) (e : Option ℕ) → body_of s f ≡ o → entry lay f ≡ e → After Split n b → Agree Split lay n (begun s b (is_some o) f args) (Starting (Some f) args)
  begun_agrees n b f args (Some d) (Some at) body en h =
      by_ask Split lay n System (CallsBack f args (frame_of s f args)) (back_or_plain s b f args ended) (code_lists.after_start lay f args) (Starting (Some f) args)
      (ap (λ z. code_lists.started lay f args z) en ∙ ap (λ z. Wants System (CallsBack f args z) (code_lists.after_start lay f args)) (sym (frames_same f d args body)))
      (λ a j lt. start_back j b f args d body (fewer_after Split j n b (omega arith) h) (h j lt) a)
  begun_agrees n b f args None None body en h =
      by_ask Split lay n System (Steps true f args) (with_value (result_shape s f) ended) (code_lists.ended (result_of lay f)) (Starting (Some f) args)
      (ap (λ z. code_lists.started lay f args z) en) (λ x j lt. ended_value j f x)
  begun_agrees n b f args (Some d) None body en h = let x = entered f d body in absurd cc
  begun_agrees n b f args None (Some at) body en h = let x = low.others f body in absurd cc

  started_agrees : (n : ℕ) (b : Bodies) (o : Option ℕ) (args : List ℕ) → After Split n b → Agree Split lay n (started s b o args) (Starting o args)
  started_agrees n b None args h = by_fails Split lay n System BadCall (Starting None args) refl
  started_agrees n b (Some f) args h = begun_agrees n b f args (body_of s f) (entry lay f) refl refl h

  pub threads : (t : CType) (sig address : ℕ) (args : List ℕ) (ms : List Mark) → IsSigOf s code t sig → thread_behaviour s t address args ms ≡ code_lists.thread_lists lay sig address args ms
  threads t sig address args ms is =
      let n = length ms in
      ap (λ o. started s (bodies (suc n) Split s) o args ms) (callees_same t sig address is) ∙
      started_agrees n (bodies (suc n) Split s) (machine.callee lay sig address) args (all_after (suc n) n Split (omega arith)) ms (omega arith)

  outside_agrees : (m n v : ℕ) (b : Bodies) → n < m → After Above n b → Agree Above lay n (outside m s b) (Done v)
  outside_agrees zero n v b lt h = absurd (omega arith)
  outside_agrees (suc m) n v b lt h =
      by_ask Above lay n Replay Outside (outside_step s b (outside m s b)) (code_lists.after_outside lay) (Done v) refl
      (λ a j less_n. each a j (fewer_after Above j n b (omega arith) h) (λ w. outside_agrees m j w b (omega arith) (fewer_after Above j n b (omega arith) h)))
    where
      each : (a : Answer) (j : ℕ) → After Above j b → ((w : ℕ) → Agree Above lay j (outside m s b) (Done w)) → Agree Above lay j (outside_step s b (outside m s b) a) (code_lists.after_outside lay a)
      each (CalledBack g args) j hs k =
          back_agrees Above j b g args (λ w. outside m s b) [] (ForOutside g) [] hs (λ w. by_ask Above lay j Replay (UpReturns g w) (λ x. outside m s b) (λ x. Done w) (Closing w (ForOutside g) [] []) refl (λ a i lt. fewer Above lay i j (outside m s b) (Done w) (omega arith) (k w)))
      each (Value w) j hs k = by_lost Above lay j
      each (Frame at) j hs k = by_lost Above lay j
      each Go j hs k = by_lost Above lay j
      each Stopped j hs k = by_lost Above lay j

  pub aboves : (ms : List Mark) → thread_above s ms ≡ lists Above ms lay (Done 0)
  aboves ms =
      let n = length ms in
      outside_agrees (suc n) n 0 (bodies (suc n) Above s) (omega arith) (all_after (suc n) n Above (omega arith)) ms (omega arith)
