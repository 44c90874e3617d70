-- Code that makes the marks of a source keeps types, where the source converts arguments and results.
use Rattle.std.proofs.Common.{◌≡◌, ◌≢◌, ℕ, ◌*◌, ◌-◌, ◌/◌, ◌&&◌, Bool, true, false, cond, eqb, ltb, leb, List, [], ◌∷◌, ◌++◌, Option, Some, None, inl, inr, ◌⊎◌, refl, sym, ap, ◌∙◌, subst, arith}
use Rattle.std.specs.Prelude.{reverse}
use Rattle.std.proofs.Math.Nat.{mul-div_cancel_left}
use Rattle.std.proofs.lemmas.Bool.{and_from, and_parts, eq-eqb, leb-false, lt-ltb}
use Rattle.std.proofs.lemmas.List.{append-nil, reverse-append}
use Rattle.marks.specs.declared.side.Side.{Side}
use Rattle.marks.specs.declared.side.Side.TheVariants.{System}
use Rattle.marks.specs.declared.fault.FaultKind.TheVariants.{BadCall}
use Rattle.marks.specs.Marks.{Mark}
use Rattle.marks.specs.Places.{builtin_count, function_address}
use Rattle.marks.specs.Wants.{Want, Outside, Turns, Loads, Stores, Enters, Leaves, Allocs, Frees, Calls, Below, Gives, Returns, CallsBack, UpReturns, Steps, Fails, Answer, Go, Value, Frame, CalledBack, Stopped}
use Rattle.c_code.specs.declared.code.FuncInfo.{FuncInfo}
use Rattle.c_code.specs.Frames.{are_values}
use Rattle.c_code.specs.Values.{is_value}
use Rattle.c_code.specs.Machine.{Flat, Laid, Config, Starting, Done, Lost, callee, entry, func_of, has_sig}
use Rattle.c_code.specs.MarkLists.{Reading, Split, Next, Quiet, Wants, Ends, No, Verdict, Ended, Expects, Open, Wrong, at_end, closed, ended, follow, follow_to, lists, move, moved, reply, result_of, settled, started, state, step, takes_values}
use Rattle.c_code.specs.Typed.{AreArguments, CarriesValues, IsResultOf, KeepsTypes, StartsWell}
use Rattle.c_code.proofs.Expected.{Halted, Said, Stops, said, said_last}
use Rattle.c_code.proofs.Prefixes.{prefixes, state_settled}
use Rattle.c_semantics.specs.Arguments as source
use Rattle.c_semantics.specs.Arguments.{ArgumentsAreConverted, is_known}
use Rattle.c_semantics.specs.Calls.{thread_behaviour}
use Rattle.c_semantics.specs.Context.{Source, param_shapes, result_shape, shapes_of, type_of}
use Rattle.c_semantics.specs.Returned.{ResultsAreConverted}
use Rattle.c_semantics.proofs.Carried.{ends_carry_values, wants_carry_values}
use Rattle.c_types_rules.specs.Sources.{params_of}
use Rattle.c_lower_placement.specs.Laws.{KnowsFunctions, MakesTheMarks, laid}

-- ---- what is wanted was expected: after these marks, or before those that a fault ended

at_end_closed : (n : Next) → at_end n ≡ Open → ⊥
at_end_closed (Wants side want to) e = cc
at_end_closed (Ends v) e = cc
at_end_closed (Quiet d) e = cc
at_end_closed No e = cc

module _ (r : Reading) (l : Laid) (c : Config) where
  -- after some marks this was expected
  record Expected (side : Side) (want : Want) : Type 0 where
    pub past : List Mark
    pub is : lists r (reverse past) l c ≡ Expects side want

  module _ (past : List Mark) (m : Mark) (side : Side) (want : Want) (to : Answer → Config) (e : step r l (state r l c (m ∷ past)) ≡ Wants side want to) (before : step r l (state r l c past) ≡ Wants side want to → Expected side want) where
    abbrev now : Config
    now = state r l c past

    -- the last mark was a fault, which leads nowhere else
    stayed : (s : Side) (w : Want) (k : Answer → Config) → step r l now ≡ Wants s w k → reply s w m ≡ Some Stopped → Expected side want
    stayed s w k en eo =
        let back : move (step r l now) m now ≡ now = ap (λ n. move n m now) en ∙ ap (λ o. moved o k now) eo in
        let here : state r l c (m ∷ past) ≡ now = ap (λ x. settled l x) back ∙ state_settled r l c past in
        before (sym (ap (λ x. step r l x) here) ∙ e)

    by_reply : (s : Side) (w : Want) (k : Answer → Config) → step r l now ≡ Wants s w k → (o : Option Answer) → reply s w m ≡ o → follow_to o k (lists r [] l) Open ≡ Open → Expected side want
    by_reply s w k en None eo f = absurd cc
    by_reply s w k en (Some Stopped) eo f = stayed s w k en eo
    by_reply s w k en (Some Go) eo f = absurd (at_end_closed (step r l (settled l (k Go))) f)
    by_reply s w k en (Some (Value v)) eo f = absurd (at_end_closed (step r l (settled l (k (Value v)))) f)
    by_reply s w k en (Some (Frame at)) eo f = absurd (at_end_closed (step r l (settled l (k (Frame at)))) f)
    by_reply s w k en (Some (CalledBack g bs)) eo f = absurd (at_end_closed (step r l (settled l (k (CalledBack g bs)))) f)

    by_step : (n : Next) → step r l now ≡ n → follow n m (lists r [] l) Open ≡ Open → Expected side want
    by_step (Wants s w k) en f = by_reply s w k en (reply s w m) refl f
    by_step (Quiet d) en f = absurd cc
    by_step (Ends v) en f = absurd cc
    by_step No en f = absurd cc

    turned : reverse (m ∷ past) ≡ reverse past ++ (m ∷ [])
    turned = reverse-append (m ∷ []) past

    halted : lists r (reverse (m ∷ past)) l c ≡ Open → Said r l c past (m ∷ []) → Expected side want
    halted open_there (inl q) =
        let all : lists r (m ∷ []) l now ≡ Open = sym q ∙ (ap (λ xs. lists r xs l c) (sym turned) ∙ open_there) in
        by_step (step r l now) refl (ap (λ x. follow (step r l x) m (lists r [] l) Open) (sym (state_settled r l c past)) ∙ all)
    halted open_there (inr h) = let no = h.last in absurd cc

    onward : lists r (reverse (m ∷ past)) l c ≢ Wrong → (lists r (reverse (m ∷ past)) l c ≡ at_end (step r l (state r l c (m ∷ past)))) ⊎ Halted r l c (m ∷ past) [] → Expected side want
    onward right (inl h) = record { past = m ∷ past; is = h ∙ ap at_end e }
    onward right (inr h) =
        let open_there : lists r (reverse (m ∷ past)) l c ≡ Open = ap (λ xs. lists r xs l c) (sym (append-nil (reverse (m ∷ past)))) ∙ h.open_there in
        halted open_there (said r l c past (m ∷ []) (subst (λ xs. lists r xs l c ≢ Wrong) turned right))

  expected : (past : List Mark) (side : Side) (want : Want) (to : Answer → Config) → lists r (reverse past) l c ≢ Wrong → step r l (state r l c past) ≡ Wants side want to → Expected side want
  expected [] side want to right e = record { past = []; is = ap at_end e }
  expected (m ∷ past) side want to right e =
      let before : lists r (reverse past) l c ≢ Wrong = prefixes r l (reverse past) (m ∷ []) c (subst (λ xs. lists r xs l c ≢ Wrong) (reverse-append (m ∷ []) past) right) in
      onward past m side want to e (λ z. expected past side want to before z) right (said_last r l c (m ∷ past) right)

-- ---- the function at an address

address_number : (f : ℕ) → (function_address f - function_address 0) / 16 ≡ f
address_number f =
    let far : function_address f - function_address 0 ≡ 16 * f = omega arith in
    ap (λ n. n / 16) far ∙ mul-div_cancel_left f (omega arith)

own_sig : (o : Option FuncInfo) (info : FuncInfo) → o ≡ Some info → has_sig info.sig o ≡ true
own_sig o info e = ap (has_sig info.sig) e ∙ eq-eqb info.sig info.sig refl

callee_is : (l : Laid) (f : ℕ) (info : FuncInfo) → func_of l.code f ≡ Some info → leb builtin_count f ≡ true → callee l info.sig (function_address f) ≡ Some f
callee_is l f info e least =
    let found : (eqb (function_address f) (function_address f) && (leb builtin_count f && has_sig info.sig (func_of l.code f))) ≡ true =
    and_from (eqb (function_address f) (function_address f)) (leb builtin_count f && has_sig info.sig (func_of l.code f)) (eq-eqb (function_address f) (function_address f) refl)
    (and_from (leb builtin_count f) (has_sig info.sig (func_of l.code f)) least (own_sig (func_of l.code f) info e)) in
    ap (λ n. cond (eqb (function_address f) (function_address n) && (leb builtin_count n && has_sig info.sig (func_of l.code n))) (Some n) None) (address_number f) ∙ ap (λ b. cond b (Some f) None) found

module _ (s : Source) (code : Flat) (knows : KnowsFunctions s code) where
  abbrev l : Laid
  l = laid s code

  -- ---- what the source wants, the code wants

  takes : (f : ℕ) (args : List ℕ) → source.AreArguments s f args → AreArguments l f args
  takes f args ok =
      let parts = and_parts (is_known s f) (are_values (param_shapes s f) args) ok in
      let info = knows.known f parts.0 in
      ap (λ o. takes_values o args) info.1 ∙ subst (λ ps. are_values ps args ≡ true) (sym (knows.params f info.0 info.1)) parts.1

  gives : (f v : ℕ) → is_value (result_shape s f) v ≡ true → is_value (result_of l f) v ≡ true
  gives f v is = ap (λ shape. is_value shape v) (knows.results f) ∙ is

  carries : (want : Want) → source.CarriesValues s want → CarriesValues l want
  carries Outside h = tt
  carries Turns h = tt
  carries (Loads o at n) h = tt
  carries (Stores o at bytes) h = tt
  carries (Enters i f args bytes) h = takes f args h
  carries (Leaves at size) h = tt
  carries (Allocs size) h = h
  carries (Frees at) h = h
  carries (Calls i f args) h = takes f args h
  carries (Below f args) h = takes f args h
  carries (Gives f args) h = takes f args h
  carries (Returns f args v) h = (takes f args h.0, gives f v h.1)
  carries (CallsBack f args bytes) h = takes f args h
  carries (UpReturns f v) h = gives f v h
  carries (Steps i f args) h = takes f args h
  carries (Fails kind) h = tt

  -- ---- what is said of the marks of a thread

  abbrev Fine : Option ℕ → Verdict → Type 0
  Fine o (Ended v) = IsResultOf l o v
  Fine o (Expects side want) = CarriesValues l want
  Fine o Open = Unit {0}
  Fine o Wrong = Unit {0}

  closed_fine : (o : Option ℕ) (ms : List Mark) → Fine o (closed ms)
  closed_fine o [] = tt
  closed_fine o (m ∷ ms) = tt

  lost_fine : (o : Option ℕ) (ms : List Mark) → Fine o (lists Split ms l Lost)
  lost_fine o [] = tt
  lost_fine o (m ∷ ms) = tt

  done_fine : (o : Option ℕ) (v : ℕ) (ms : List Mark) → IsResultOf l o v → Fine o (lists Split ms l (Done v))
  done_fine o v [] is = is
  done_fine o v (m ∷ ms) is = tt

  -- a thread whose address is of no function
  none_fine : (args : List ℕ) (ms : List Mark) → Fine None (lists Split ms l (Starting None args))
  none_fine args [] = tt
  none_fine args (m ∷ ms) = by (reply System (Fails BadCall) m)
    where
      by : (o : Option Answer) → Fine None (follow_to o (λ x. Lost) (lists Split ms l) (closed ms))
      by None = tt
      by (Some Stopped) = closed_fine None ms
      by (Some Go) = lost_fine None ms
      by (Some (Value v)) = lost_fine None ms
      by (Some (Frame at)) = lost_fine None ms
      by (Some (CalledBack g bs)) = lost_fine None ms

  -- a thread of a function without a body
  stepped_fine : (f : ℕ) (args : List ℕ) (m : Mark) (ms : List Mark) → Fine (Some f) (follow (started l f args None) m (lists Split ms l) (closed ms))
  stepped_fine f args m ms = by (reply System (Steps true f args) m)
    where
      given : (v : ℕ) (b : Bool) → is_value (result_of l f) v ≡ b → Fine (Some f) (lists Split ms l (cond b (Done v) Lost))
      given v true is = done_fine (Some f) v ms is
      given v false is = lost_fine (Some f) ms

      by : (o : Option Answer) → Fine (Some f) (follow_to o (ended (result_of l f)) (lists Split ms l) (closed ms))
      by None = tt
      by (Some Stopped) = closed_fine (Some f) ms
      by (Some Go) = lost_fine (Some f) ms
      by (Some (Value v)) = given v (is_value (result_of l f) v) refl
      by (Some (Frame at)) = lost_fine (Some f) ms
      by (Some (CalledBack g bs)) = lost_fine (Some f) ms

  builtin_fine : (f : ℕ) (args : List ℕ) → entry l f ≡ None → AreArguments l f args → (ms : List Mark) → Fine (Some f) (lists Split ms l (Starting (Some f) args))
  builtin_fine f args none ok [] = subst (λ o. Fine (Some f) (at_end (started l f args o))) (sym none) ok
  builtin_fine f args none ok (m ∷ ms) = subst (λ o. Fine (Some f) (follow (started l f args o) m (lists Split ms l) (closed ms))) (sym none) (stepped_fine f args m ms)

  module _ (results : ResultsAreConverted s) (arguments : ArgumentsAreConverted s) (makes : MakesTheMarks s code) where
    -- a thread of a function of the source
    function_fine : (f : ℕ) (args : List ℕ) (info : FuncInfo) → func_of code f ≡ Some info → leb builtin_count f ≡ true → are_values info.params args ≡ true → (ms : List Mark) → Fine (Some f) (lists Split ms l (Starting (Some f) args))
    function_fine f args info e least ok ms =
        let t = type_of s f in
        let at = function_address f in
        let said_so : thread_behaviour s t at args ms ≡ lists Split ms l (Starting (Some f) args) =
        makes.threads t info.sig at args ms (knows.sigs f info e) ∙ ap (λ o. lists Split ms l (Starting o args)) (callee_is l f info e least) in
        subst (Fine (Some f)) said_so (by (thread_behaviour s t at args ms) refl)
      where
        well : are_values (shapes_of (params_of (type_of s f))) args ≡ true
        well = subst (λ ps. are_values ps args ≡ true) (knows.params f info e) ok

        by : (v : Verdict) → thread_behaviour s (type_of s f) (function_address f) args ms ≡ v → Fine (Some f) v
        by (Ended v) h = gives f v (ends_carry_values s results arguments (type_of s f) (function_address f) args well ms v h)
        by (Expects side want) h = carries want (wants_carry_values s results arguments (type_of s f) (function_address f) args well ms side want h)
        by Open h = tt
        by Wrong h = tt

    fine : (o : Option ℕ) (args : List ℕ) → StartsWell l o args → (ms : List Mark) → Fine o (lists Split ms l (Starting o args))
    fine None args ok ms = none_fine args ms
    fine (Some f) args ok ms = by (func_of code f) refl
      where
        at : (info : FuncInfo) → func_of code f ≡ Some info → are_values info.params args ≡ true → (b : Bool) → leb builtin_count f ≡ b → Fine (Some f) (lists Split ms l (Starting (Some f) args))
        at info e values true least = function_fine f args info e least values ms
        at info e values false least =
            let below : ltb f builtin_count ≡ true = lt-ltb f 16 (leb-false 16 f least) in
            builtin_fine f args (knows.builtins f below) ok ms

        by : (o : Option FuncInfo) → func_of code f ≡ o → Fine (Some f) (lists Split ms l (Starting (Some f) args))
        by None e = let no : false ≡ true = sym (ap (λ o. takes_values o args) e) ∙ ok in absurd cc
        by (Some info) e = at info e (sym (ap (λ o. takes_values o args) e) ∙ ok) (leb builtin_count f) refl

    wants : (o : Option ℕ) (args : List ℕ) (past : List Mark) (side : Side) (want : Want) (to : Answer → Config) → StartsWell l o args → lists Split (reverse past) l (Starting o args) ≢ Wrong → step Split l (state Split l (Starting o args) past) ≡ Wants side want to → CarriesValues l want
    wants o args past side want to ok right e =
        let there = expected Split l (Starting o args) past side want to right e in
        subst (Fine o) there.is (fine o args ok (reverse there.past))

    ends : (o : Option ℕ) (args : List ℕ) (past : List Mark) (v : ℕ) → StartsWell l o args → lists Split (reverse past) l (Starting o args) ≢ Wrong → step Split l (state Split l (Starting o args) past) ≡ Ends v → IsResultOf l o v
    ends o args past v ok right e = by (said_last Split l (Starting o args) past right)
      where
        by : (lists Split (reverse past) l (Starting o args) ≡ at_end (step Split l (state Split l (Starting o args) past))) ⊎ Halted Split l (Starting o args) past [] → IsResultOf l o v
        by (inl h) = subst (Fine o) (h ∙ ap at_end e) (fine o args ok (reverse past))
        by (inr h) = let no : ⊥ = subst (λ n. Stops n h.mark) e h.stops in absurd no

pub keeps_types : (s : Source) (code : Flat) → ResultsAreConverted s → ArgumentsAreConverted s → MakesTheMarks s code → KnowsFunctions s code → KeepsTypes (laid s code)
keeps_types s code results arguments makes knows = record {
  wants = wants s code knows results arguments makes;
  ends = ends s code knows results arguments makes;
}
