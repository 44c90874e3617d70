-- The tests of a step pass, or find one thing.
use Rattle.std.proofs.Common.{◌≡◌, ℕ, zero, suc, Bool, true, false, List, [], ◌∷◌, length, Option, Some, None, inl, inr, refl, sym, ◌∙◌, subst, arith}
use Rattle.marks.specs.declared.side.Side.{Side}
use Rattle.marks.specs.declared.side.Side.TheVariants.{Replay, System}
use Rattle.marks.specs.declared.fault.FaultKind.{FaultKind}
use Rattle.marks.specs.declared.fault.FaultKind.TheVariants.{NotLive}
use Rattle.marks.specs.declared.breach.BreachKind.{BreachKind}
use Rattle.marks.specs.declared.range.Range.{Range}
use Rattle.marks.specs.Ranges.{range, covers}
use Rattle.marks.specs.Marks.{Mark}
use Rattle.marks.specs.Wants.{Want, Outside, Turns, Loads, Stores, Enters, Leaves, Allocs, Frees, Calls, Gives, Returns, CallsBack, UpReturns, Steps, Fails}
use Rattle.marks.specs.Wants as wants
use Rattle.c_builtins.specs.declared.builtin.Builtin.{Builtin}
use Rattle.c_builtins.specs.declared.builtin.Builtin.TheVariants as builtins
use Rattle.c_code.specs.Machine.{first}
use Rattle.replay_runs.specs.Interface.{Interface}
use Rattle.replay_runs.specs.Checks.{Finding, Checks, Check, Done, Least, Finds, is_fault_found, is_breach_found, constant_check, mode_checks, indirect_check}
use Rattle.replay_runs.specs.Decided.{Decided, pass, find}
use Rattle.replay_runs.proofs.Checked.{not_both}
use Rattle.replay_runs.proofs.Decided.{checks_decided, returns_decided}
use Rattle.replay_runs.proofs.Tested.{Tested}
use Rattle.whole_runs.specs.World.{World, begin, interface, interface_on}
use Rattle.whole_runs.specs.Sides.{seen}
use Rattle.whole_runs.specs.Outcomes.{builtin_of}
use Rattle.whole_runs.specs.Memory.{real}
use Rattle.whole_runs.specs.Below.{block_at, touch_checks, read_checks, Given, ByPool, Says, NoMore, given, Target, To, Nowhere, Missing, targets}
use Rattle.whole_runs.specs.Tests.{comes_up, give_checks, checks_above, is_back, full_check, free_checks, piece_check, piece_checks, external_checks, step_checks, back_checks, checks_below, tests}
use Rattle.whole_runs_laws.proofs.Deciding.{below_tested}

-- ---- one thing is found

abbrev FindsOne : Checks → Type 0
FindsOne cs = (f g : Finding) → Finds cs f → Finds cs g → f ≡ g

abbrev IsOne : (ℕ → Finding → Type 0) → Type 0
IsOne Found = (x : ℕ) (f g : Finding) → Found x f → Found x g → f ≡ g

least_one : (P : ℕ → Type 0) (x y : ℕ) → Least P x → Least P y → x ≡ y
least_one P x y a b =
    let p = a.1 y b.0 in
    let q = b.1 x a.0 in
    omega (arith, p, q)

one_more : (Bad : ℕ → Type 0) (Found : ℕ → Finding → Type 0) (cs : Checks) → IsOne Found → FindsOne cs → FindsOne (Check Bad Found cs)
one_more Bad Found cs one rest f g (inl a) (inl b) = one b.0 f g (subst (λ x. Found x f) (least_one Bad a.0 b.0 a.1 b.1) a.2) b.2
one_more Bad Found cs one rest f g (inl a) (inr b) = absurd (b.0 a.0 a.1.0)
one_more Bad Found cs one rest f g (inr a) (inl b) = absurd (a.0 b.0 b.1.0)
one_more Bad Found cs one rest f g (inr a) (inr b) = rest f g a.1 b.1

none_done : FindsOne Done
none_done f g a b = absurd a

fault_one : (Bad : ℕ → Type 0) (kind : FaultKind) (cs : Checks) → FindsOne cs → FindsOne (Check Bad (is_fault_found kind) cs)
fault_one Bad kind cs rest = one_more Bad (is_fault_found kind) cs (λ x f g a b. a ∙ sym b) rest

breach_one : (Bad : ℕ → Type 0) (kind : BreachKind) (cs : Checks) → FindsOne cs → FindsOne (Check Bad (is_breach_found kind) cs)
breach_one Bad kind cs rest = one_more Bad (is_breach_found kind) cs (λ x f g a b. a ∙ sym b) rest

mode_one : (i : Interface) (side : Side) (fs : List ℕ) (cs : Checks) → FindsOne cs → FindsOne (mode_checks i side fs cs)
mode_one i side [] cs one = one
mode_one i side (f ∷ fs) cs one = breach_one _ _ (mode_checks i side fs cs) (mode_one i side fs cs one)

indirect_one : (i : Interface) (indirect : Bool) (side : Side) (f : ℕ) (cs : Checks) → FindsOne cs → FindsOne (indirect_check i indirect side f cs)
indirect_one i true side f cs one = mode_one i side (f ∷ []) cs one
indirect_one i false side f cs one = one

module _ (w : World) (past : List Mark) (t : ℕ) where
  touch_one : (write : Bool) (r : Range) (cs : Checks) → FindsOne cs → FindsOne (touch_checks w past t write r cs)
  touch_one write r cs one = breach_one _ _ (Check (λ x. (covers r x ≡ true) × (real w past x ≡ None)) (is_fault_found NotLive) (constant_check write r cs)) (fault_one _ _ (constant_check write r cs) (fault_one _ _ cs one))

  reads_one : (rs : List Range) → FindsOne (read_checks w past t rs)
  reads_one [] = none_done
  reads_one (r ∷ rs) = touch_one false r (read_checks w past t rs) (reads_one rs)

  piece_one : (x : Target) (b : List ℕ) (cs : Checks) → FindsOne cs → FindsOne (piece_check w past t x b cs)
  piece_one (To r) b cs one = fault_one _ _ (touch_checks w past t true (range r.addr (length b)) cs) (touch_one true (range r.addr (length b)) cs one)
  piece_one Nowhere b cs one = one
  piece_one Missing b cs one = fault_one _ _ cs one

  pieces_one : (xs : List Target) (bs : List (List ℕ)) → FindsOne (piece_checks w past t xs bs)
  pieces_one [] bs = none_done
  pieces_one (x ∷ xs) [] = none_done
  pieces_one (x ∷ xs) (b ∷ bs) = piece_one x b (piece_checks w past t xs bs) (pieces_one xs bs)

  external_one : (f : ℕ) (args : List ℕ) (g : Given) → FindsOne (external_checks w past t f args g)
  external_one f args ByPool = none_done
  external_one f args (Says v pieces) = pieces_one (targets w System past f args v) pieces
  external_one f args NoMore = none_done

  free_one : (a : ℕ) → FindsOne (free_checks w past a)
  free_one zero = none_done
  free_one (suc a) = breach_one _ _ (Check (λ x. block_at (suc a) past ≡ []) (is_fault_found NotLive) Done) (fault_one _ _ Done none_done)

  step_one : (f : ℕ) (args : List ℕ) (o : Option Builtin) → FindsOne (step_checks w past t f args o)
  step_one f args (Some builtins.Malloc) = none_done
  step_one f args (Some builtins.Free) = free_one (first args)
  step_one f args (Some builtins.Spawn) = none_done
  step_one f args (Some builtins.Join) = none_done
  step_one f args (Some builtins.Lock) = none_done
  step_one f args (Some builtins.Unlock) = none_done
  step_one f args (Some builtins.Print) = reads_one ((interface_on w System f).ins f args)
  step_one f args None = external_one f args (given w past t f args)

  full_one : (size : ℕ) → FindsOne (full_check w past t size)
  full_one size = fault_one _ _ Done none_done

  back_one : (f : ℕ) (bytes : List ℕ) (back : Bool) → FindsOne (back_checks w past t f bytes back)
  back_one f bytes true = none_done
  back_one f bytes false = mode_one (interface w) System (f ∷ []) (full_check w past t (length bytes)) (full_one (length bytes))

  below_one : (want : Want) → FindsOne (checks_below w past t want)
  below_one (Loads origin at width) = touch_one false (range at width) Done none_done
  below_one (Stores origin at bytes) = touch_one true (range at (length bytes)) Done none_done
  below_one (Enters indirect f args bytes) = indirect_one (interface w) indirect System f (full_check w past t (length bytes)) (full_one (length bytes))
  below_one (CallsBack f args bytes) = back_one f bytes (is_back w past f)
  below_one (Steps indirect f args) = indirect_one (interface w) indirect System f (step_checks w past t f args (builtin_of f)) (step_one f args (builtin_of f))
  below_one (Fails kind) = fault_one _ kind Done none_done
  below_one Outside = none_done
  below_one Turns = none_done
  below_one (Leaves at size) = none_done
  below_one (Allocs size) = none_done
  below_one (Frees at) = none_done
  below_one (Calls indirect f args) = none_done
  below_one (wants.Below f args) = none_done
  below_one (Gives f args) = none_done
  below_one (Returns f args v) = none_done
  below_one (UpReturns f v) = none_done

-- ---- or they pass

decided : (cs : Checks) → FindsOne cs → Tested cs → Decided cs
decided cs one k = go k.test refl
  where
    go : (b : Bool) → k.test ≡ b → Decided cs
    go true e = pass (k.passes e) (λ f h. not_both cs f h (k.passes e))
    go false e =
        let x = k.some e in
        let h = k.finds x.0 x.1 in
        find x.0 h (λ g z. one g x.0 z h) (λ p. not_both cs x.0 h p)

pass_done : Decided Done
pass_done = pass tt (λ f h. h)

gives_decided : (w : World) (past : List Mark) (f : ℕ) (args : List ℕ) (g : Given) → Decided (give_checks w past f args g)
gives_decided w past f args ByPool = pass_done
gives_decided w past f args (Says v pieces) = returns_decided (interface w) (begin w) (seen past) (comes_up w past f args v pieces) f args v
gives_decided w past f args NoMore = pass_done

above_decided : (w : World) (past : List Mark) (t : ℕ) (want : Want) → Decided (checks_above w past t want)
above_decided w past t (Gives f args) = gives_decided w past f args (given w past t f args)
above_decided w past t (Returns f args v) = returns_decided (interface w) (begin w) (seen past) (comes_up w past f args v []) f args v
above_decided w past t want = checks_decided (interface w) (begin w) (seen past) t want

pub tests_decided : (w : World) (past : List Mark) (t : ℕ) (side : Side) (want : Want) → Decided (tests w past t side want)
tests_decided w past t Replay want = above_decided w past t want
tests_decided w past t System want = decided (checks_below w past t want) (below_one w past t want) (below_tested w past t want)
