-- An instruction goes on in its function, wants what opens and closes nothing, ends its function, or makes a call.
use Rattle.std.proofs.Common.{◌≡◌, ℕ, zero, suc, ◌+◌, ◌-◌, ◌≤◌, Bool, true, false, cond, List, [], ◌∷◌, ◌++◌, length, Option, Some, None, Result, Ok, Err, refl, sym, subst, arith, ⊎_elim}
use Rattle.std.specs.Prelude.{slice_get}
use Rattle.std.proofs.lemmas.Option.{slice_get_cases}
use Rattle.marks.specs.declared.side.Side.{Side}
use Rattle.marks.specs.declared.side.Side.TheVariants.{Replay, System}
use Rattle.marks.specs.declared.fault.FaultKind.{FaultKind}
use Rattle.marks.specs.declared.fault.FaultKind.TheVariants.{BadCall}
use Rattle.marks.specs.Ranges.{bytes_of_number}
use Rattle.marks.specs.Wants.{Want, Turns, Loads, Stores, Leaves, Allocs, Frees, Fails, Answer, Go, Value, Frame, CalledBack, Stopped}
use Rattle.c_code.specs.declared.shape.Shape.{Shape}
use Rattle.c_code.specs.declared.shape.Shape.TheVariants.{Pointer}
use Rattle.c_code.specs.declared.instr.Instr.{Instr}
use Rattle.c_code.specs.declared.instr.Instr.TheVariants as instr
use Rattle.c_code.specs.declared.activation.Activation.{Activation}
use Rattle.c_code.specs.declared.activation.Call.{Call}
use Rattle.c_code.specs.declared.activation.Waiting.{Waiting}
use Rattle.c_code.specs.Values.{bytes_of, changed, combined, converted, is_value}
use Rattle.c_code.specs.Machine.{Laid, Config, Going, Lost, Action, Silent, Asks, Pends, at_place, first, take_args, with_args, valued, loaded, give, combine, is_pool, pool_act, pending, call_act, pointer_act, to_callee, callee, act, in_frame, push, action}
use Rattle.c_code.specs.Valid.{Leads, IsSteady}
use Rattle.c_code.specs.Fits.{with_address}
use Rattle.c_code.proofs.Pairs.{Takes, takes}
use Rattle.c_code.proofs.OpenMarks.{IsQuiet}

-- a call that is to be made, by code at `a` that goes on at `q`
abbrev pub call_to : (f : ℕ) (i : Bool) (args : List ℕ) (q : ℕ) → Activation → Call
call_to f i args q a = record { func = f; args = length args; indirect = i; then = at_place q a }

module _ (l : Laid) (height : ℕ → ℕ) (a : Activation) (vs : List ℕ) (ws : List Waiting) where
  -- the function goes on with its frame, or the thread is nowhere
  pub data Within : Config → Type 0 where
    goes : (q : ℕ) (seg : List ℕ) → Leads l.code height q (length seg) → Within (Going (at_place q a) (seg ++ vs) ws)
    nowhere : Within Lost

  pub data Walks : Action → Type 0 where
    silent : (c : Config) → Within c → Walks (Silent c)
    asks : (side : Side) (want : Want) (to : Answer → Config) → side ≡ a.side → IsQuiet want → ((x : Answer) → Within (to x)) → Walks (Asks side want to)
    leaves : (v : ℕ) → Walks (Asks a.side (Leaves a.base a.size) (λ x. give v ws vs))
    pends : (f : ℕ) (i : Bool) (q : ℕ) (args seg rest under : List ℕ) → Leads l.code height q (length rest + 1) → length seg ≡ length rest + with_address i (length args) → take_args (length args) [] (seg ++ vs) ≡ Some (args, under)
        → Walks (Pends (record { call = call_to f i args q a; args = args; values = seg ++ vs; rest = rest ++ vs; waits = ws }))

pool_side : (side : Side) (f : ℕ) → is_pool side f ≡ true → Replay ≡ side
pool_side Replay f e = refl
pool_side System f e = absurd cc

module _ (l : Laid) (height : ℕ → ℕ) (steady : IsSteady l.code height) (a : Activation) (vs : List ℕ) (ws : List Waiting) where
  abbrev W : Action → Type 0
  W = Walks l height a vs ws

  abbrev In : Config → Type 0
  In = Within l height a vs ws

  pub within_valued : (shape : Shape) (q : ℕ) (seg : List ℕ) → Leads l.code height q (length seg + 1) → (x : Answer) → In (valued shape (at_place q a) (seg ++ vs) ws x)
  within_valued shape q seg h (Value v) = by (is_value shape v)
    where
      by : (t : Bool) → In (cond t (Going (at_place q a) (v ∷ (seg ++ vs)) ws) Lost)
      by true = goes q (v ∷ seg) (h.0, omega (arith, h.1))
      by false = nowhere
  within_valued shape q seg h Go = nowhere
  within_valued shape q seg h (Frame b) = nowhere
  within_valued shape q seg h (CalledBack g bs) = nowhere
  within_valued shape q seg h Stopped = nowhere

  within_loaded : (q : ℕ) (f : ℕ → List ℕ) → ((v : ℕ) → Leads l.code height q (length (f v))) → (x : Answer) → In (loaded (at_place q a) (λ v. f v ++ vs) ws x)
  within_loaded q f h (Value v) = goes q (f v) (h v)
  within_loaded q f h Go = nowhere
  within_loaded q f h (Frame b) = nowhere
  within_loaded q f h (CalledBack g bs) = nowhere
  within_loaded q f h Stopped = nowhere

  on : (q : ℕ) (seg : List ℕ) → Leads l.code height q (length seg) → W (Silent (Going (at_place q a) (seg ++ vs) ws))
  on q seg h = silent _ (goes q seg h)

  walk_combine : (o : Result ℕ FaultKind) (seg : List ℕ) → Leads l.code height (a.at + 1) (length seg + 1) → W (combine o a (seg ++ vs) ws)
  walk_combine (Ok v) seg h = on (a.at + 1) (v ∷ seg) (h.0, omega (arith, h.1))
  walk_combine (Err kind) seg h = asks a.side (Fails kind) (λ x. Lost) refl tt (λ x. nowhere)

  walk_pool : (f : ℕ) (args rest : List ℕ) → Replay ≡ a.side → Leads l.code height (a.at + 1) (length rest + 1) → W (pool_act f a args (rest ++ vs) ws)
  walk_pool zero args rest e h = asks Replay (Allocs (first args)) _ e tt (λ x. within_valued Pointer (a.at + 1) rest h x)
  walk_pool (suc f) args rest e h = asks Replay (Frees (first args)) _ e tt (λ x. goes (a.at + 1) (0 ∷ rest) (h.0, omega (arith, h.1)))

  walk_call : (f : ℕ) (seg args rest under : List ℕ) → Leads l.code height (a.at + 1) (length rest + 1) → length seg ≡ length rest + length args → take_args (length args) [] (seg ++ vs) ≡ Some (args, under) → W (call_act f a (seg ++ vs) ws args (rest ++ vs))
  walk_call f seg args rest under h e t = by (is_pool a.side f) (pool_side a.side f)
    where
      by : (b : Bool) → (b ≡ true → Replay ≡ a.side) → W (cond b (pool_act f a args (rest ++ vs) ws) (Pends (pending f false a args (seg ++ vs) (rest ++ vs) ws)))
      by true s = walk_pool f args rest (s refl) h
      by false s = pends f false (a.at + 1) args seg rest under h e t

  walk_callee : (o : Option ℕ) (seg args rest under : List ℕ) → Leads l.code height (a.at + 1) (length rest + 1) → length seg ≡ length rest + suc (length args) → take_args (length args) [] (seg ++ vs) ≡ Some (args, under) → W (to_callee o a args (seg ++ vs) (rest ++ vs) ws)
  walk_callee None seg args rest under h e t = asks a.side (Fails BadCall) (λ x. Lost) refl tt (λ x. nowhere)
  walk_callee (Some f) seg args rest under h e t = pends f true (a.at + 1) args seg rest under h e t

  walk_pointer : (sig : ℕ) (seg args rest under : List ℕ) → 1 ≤ length rest → Leads l.code height (a.at + 1) (length rest) → length seg ≡ length rest + length args → take_args (length args) [] (seg ++ vs) ≡ Some (args, under) → W (pointer_act l sig a (seg ++ vs) ws args (rest ++ vs))
  walk_pointer sig seg args [] under le h e t = absurd (omega arith)
  walk_pointer sig seg args (address ∷ rest) under le h e t = walk_callee (callee l sig address) seg args rest under (h.0, omega (arith, h.1)) (omega (arith, e)) t

  -- with its arguments taken
  walk_taken : (n : ℕ) (seg : List ℕ) (t : Takes n [] seg) (go : List ℕ → List ℕ → Action) → (take_args (length t.args) [] (seg ++ vs) ≡ Some (t.args, t.rest ++ vs) → W (go t.args (t.rest ++ vs))) → W (with_args (take_args n [] (seg ++ vs)) go)
  walk_taken n seg t go h =
      let many : length t.args ≡ n = omega (arith, t.many) in
      subst (λ o. W (with_args o go)) (sym (t.same vs)) (h (subst (λ k. take_args k [] (seg ++ vs) ≡ Some (t.args, t.rest ++ vs)) (sym many) (t.same vs)))

  walk_act : (i : Instr) (seg : List ℕ) → slice_get l.code.instrs a.at ≡ Some i → length seg ≡ height a.at → W (act l (Some i) a (seg ++ vs) ws)
  walk_act (instr.Push what) seg e q = let k = (steady.each a.at (instr.Push what) e).goes_on in on (a.at + 1) (push l what a ∷ seg) (k.0, omega (arith, k.1))
  walk_act (instr.Load kind o) [] e q = let n : 1 ≤ height a.at = (steady.each a.at (instr.Load kind o) e).enough in absurd (omega (arith, q))
  walk_act (instr.Load kind o) (at ∷ seg) e q =
      let k = (steady.each a.at (instr.Load kind o) e).goes_on in
      asks a.side (Loads o at (bytes_of kind)) _ refl tt (λ x. within_loaded (a.at + 1) (λ v. converted kind v ∷ seg) (λ v. (k.0, omega (arith, k.1, q))) x)
  walk_act (instr.LoadKeep kind o) [] e q = let n : 1 ≤ height a.at = (steady.each a.at (instr.LoadKeep kind o) e).enough in absurd (omega (arith, q))
  walk_act (instr.LoadKeep kind o) (at ∷ seg) e q =
      let k = (steady.each a.at (instr.LoadKeep kind o) e).goes_on in
      asks a.side (Loads o at (bytes_of kind)) _ refl tt (λ x. within_loaded (a.at + 1) (λ v. converted kind v ∷ (at ∷ seg)) (λ v. (k.0, omega (arith, k.1, q))) x)
  walk_act (instr.Store kind o) [] e q = let n : 2 ≤ height a.at = (steady.each a.at (instr.Store kind o) e).enough in absurd (omega (arith, q))
  walk_act (instr.Store kind o) (v ∷ []) e q = let n : 2 ≤ height a.at = (steady.each a.at (instr.Store kind o) e).enough in absurd (omega (arith, q))
  walk_act (instr.Store kind o) (v ∷ (at ∷ seg)) e q =
      let k = (steady.each a.at (instr.Store kind o) e).goes_on in
      asks a.side (Stores o at (bytes_of_number (bytes_of kind) v)) _ refl tt (λ x. goes (a.at + 1) (v ∷ seg) (k.0, omega (arith, k.1, q)))
  walk_act (instr.StoreLocal kind offset) [] e q = let n : 1 ≤ height a.at = (steady.each a.at (instr.StoreLocal kind offset) e).enough in absurd (omega (arith, q))
  walk_act (instr.StoreLocal kind offset) (v ∷ seg) e q =
      let k = (steady.each a.at (instr.StoreLocal kind offset) e).goes_on in
      asks a.side (Stores None (in_frame a offset) (bytes_of_number (bytes_of kind) v)) _ refl tt (λ x. goes (a.at + 1) seg (k.0, omega (arith, k.1, q)))
  walk_act (instr.StoreStep kind by old o) [] e q = let n : 2 ≤ height a.at = (steady.each a.at (instr.StoreStep kind by old o) e).enough in absurd (omega (arith, q))
  walk_act (instr.StoreStep kind by old o) (v ∷ []) e q = let n : 2 ≤ height a.at = (steady.each a.at (instr.StoreStep kind by old o) e).enough in absurd (omega (arith, q))
  walk_act (instr.StoreStep kind by old o) (v ∷ (at ∷ seg)) e q =
      let k = (steady.each a.at (instr.StoreStep kind by old o) e).goes_on in
      asks a.side _ _ refl tt (λ x. goes (a.at + 1) (_ ∷ seg) (k.0, omega (arith, k.1, q)))
  walk_act (instr.Change how) [] e q = let n : 1 ≤ height a.at = (steady.each a.at (instr.Change how) e).enough in absurd (omega (arith, q))
  walk_act (instr.Change how) (v ∷ seg) e q = let k = (steady.each a.at (instr.Change how) e).goes_on in on (a.at + 1) (changed how v ∷ seg) (k.0, omega (arith, k.1, q))
  walk_act (instr.Combine how) [] e q = let n : 2 ≤ height a.at = (steady.each a.at (instr.Combine how) e).enough in absurd (omega (arith, q))
  walk_act (instr.Combine how) (y ∷ []) e q = let n : 2 ≤ height a.at = (steady.each a.at (instr.Combine how) e).enough in absurd (omega (arith, q))
  walk_act (instr.Combine how) (y ∷ (x ∷ seg)) e q = let k = (steady.each a.at (instr.Combine how) e).goes_on in walk_combine (combined how x y) seg (k.0, omega (arith, k.1, q))
  walk_act (instr.EndIfZero n) [] e q = let c : 1 ≤ height a.at = (steady.each a.at (instr.EndIfZero n) e).enough in absurd (omega (arith, q))
  walk_act (instr.EndIfZero n) (zero ∷ seg) e q = let k = (steady.each a.at (instr.EndIfZero n) e).goes_on.1 in on (a.at + 1 + n) (0 ∷ seg) (k.0, omega (arith, k.1, q))
  walk_act (instr.EndIfZero n) (suc v ∷ seg) e q = let k = (steady.each a.at (instr.EndIfZero n) e).goes_on.0 in on (a.at + 1) seg (k.0, omega (arith, k.1, q))
  walk_act (instr.EndUnlessZero n) [] e q = let c : 1 ≤ height a.at = (steady.each a.at (instr.EndUnlessZero n) e).enough in absurd (omega (arith, q))
  walk_act (instr.EndUnlessZero n) (zero ∷ seg) e q = let k = (steady.each a.at (instr.EndUnlessZero n) e).goes_on.0 in on (a.at + 1) seg (k.0, omega (arith, k.1, q))
  walk_act (instr.EndUnlessZero n) (suc v ∷ seg) e q = let k = (steady.each a.at (instr.EndUnlessZero n) e).goes_on.1 in on (a.at + 1 + n) (1 ∷ seg) (k.0, omega (arith, k.1, q))
  walk_act (instr.SkipIfZero n) [] e q = let c : 1 ≤ height a.at = (steady.each a.at (instr.SkipIfZero n) e).enough in absurd (omega (arith, q))
  walk_act (instr.SkipIfZero n) (zero ∷ seg) e q = let k = (steady.each a.at (instr.SkipIfZero n) e).goes_on.1 in on (a.at + 1 + n) seg (k.0, omega (arith, k.1, q))
  walk_act (instr.SkipIfZero n) (suc v ∷ seg) e q = let k = (steady.each a.at (instr.SkipIfZero n) e).goes_on.0 in on (a.at + 1) seg (k.0, omega (arith, k.1, q))
  walk_act (instr.GoOn n) seg e q = let k = (steady.each a.at (instr.GoOn n) e).goes_on in on (a.at + 1 + n) seg (k.0, omega (arith, k.1, q))
  walk_act instr.Turn seg e q = let k = (steady.each a.at instr.Turn e).goes_on in asks a.side Turns _ refl tt (λ x. goes (a.at + 1) seg (k.0, omega (arith, k.1, q)))
  walk_act (instr.GoBack n) seg e q = let k = (steady.each a.at (instr.GoBack n) e).goes_on in asks a.side Turns _ refl tt (λ x. goes (a.at - n) seg (k.0, omega (arith, k.1, q)))
  walk_act (instr.Call f n) seg e q =
      let keeps = steady.each a.at (instr.Call f n) e in
      let enough : n ≤ height a.at = keeps.enough in
      let k = keeps.goes_on in
      let t = takes n [] seg (omega (arith, q)) in
      walk_taken n seg t (call_act f a (seg ++ vs) ws) (λ same. walk_call f seg t.args t.rest (t.rest ++ vs) (k.0, omega (arith, k.1, t.left, q)) (omega (arith, t.left, t.many)) same)
  walk_act (instr.CallPointer sig n) seg e q =
      let keeps = steady.each a.at (instr.CallPointer sig n) e in
      let enough : n + 1 ≤ height a.at = keeps.enough in
      let k = keeps.goes_on in
      let t = takes n [] seg (omega (arith, q)) in
      walk_taken n seg t (pointer_act l sig a (seg ++ vs) ws) (λ same. walk_pointer sig seg t.args t.rest (t.rest ++ vs) (omega (arith, t.left, q)) (k.0, omega (arith, k.1, t.left, q)) (omega (arith, t.left, t.many)) same)
  walk_act instr.Drop [] e q = let c : 1 ≤ height a.at = (steady.each a.at instr.Drop e).enough in absurd (omega (arith, q))
  walk_act instr.Drop (v ∷ seg) e q = let k = (steady.each a.at instr.Drop e).goes_on in on (a.at + 1) seg (k.0, omega (arith, k.1, q))
  walk_act instr.Finish [] e q = let c : 1 ≤ height a.at = (steady.each a.at instr.Finish e).enough in absurd (omega (arith, q))
  walk_act instr.Finish (v ∷ []) e q = leaves v
  walk_act instr.Finish (v ∷ (w ∷ seg)) e q = let k : height a.at ≡ 1 = (steady.each a.at instr.Finish e).goes_on in absurd (omega (arith, q))

  pub walk : (seg : List ℕ) → Leads l.code height a.at (length seg) → W (action l (Going a (seg ++ vs) ws))
  walk seg h =
      ⊎_elim
      (λ found. subst (λ o. W (act l o a (seg ++ vs) ws)) (sym found.2) (walk_act found.0 seg found.2 (sym h.1)))
      (λ past. absurd (omega (arith, h.0, past.0)))
      (slice_get_cases l.code.instrs a.at).1
