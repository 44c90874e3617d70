-- What a thread wants carries values of their types, and so does its end, where results and arguments are converted.
use Rattle.std.proofs.Common.{◌≡◌, ℕ, zero, suc, ◌-◌, ◌/◌, ◌<◌, ◌≤◌, ◌&&◌, Bool, true, false, cond, eqb, leb, List, [], ◌∷◌, length, Option, Some, None, is_some, refl, sym, ap, ◌∙◌, subst, arith}
use Rattle.std.proofs.lemmas.Bool.{and_from, and_parts, ltb-true}
use Rattle.marks.specs.declared.side.Side.{Side}
use Rattle.marks.specs.declared.side.Side.TheVariants.{Replay, System}
use Rattle.marks.specs.declared.fault.FaultKind.TheVariants.{BadCall}
use Rattle.marks.specs.Marks.{Mark}
use Rattle.marks.specs.Places.{builtin_count, function_address}
use Rattle.marks.specs.Wants.{Want, Outside, Turns, Loads, Stores, Enters, Leaves, Allocs, Frees, Calls, Below, Gives, Returns, CallsBack, UpReturns, Steps, Fails, Answer, Go, Value, Frame, CalledBack, Stopped}
use Rattle.c_code.specs.declared.shape.Shape.{Shape}
use Rattle.c_code.specs.declared.shape.Shape.TheVariants.{Pointer}
use Rattle.c_code.specs.Builtins.{size as size_shape}
use Rattle.c_code.specs.Frames.{are_values}
use Rattle.c_code.specs.Values.{is_value}
use Rattle.c_code.specs.MarkLists.{Split, Verdict, Ended, Expects, Open, Wrong, reply, closed}
use Rattle.c_types_model.specs.Types.{CType}
use Rattle.c_types_rules.specs.Sources.{Function, params_of, result_of}
use Rattle.c_types_rules.specs.TypeTests.{same_type}
use Rattle.c_types_rules.proofs.SameTypes.{types_compared}
use Rattle.c_semantics.specs.Reading.{Marks, wrong, ended, heard, ask, with_value, with_frame}
use Rattle.c_semantics.specs.Context.{Source, body_of, body_or, builtin_of, frame_of, is_face, is_function_of, param_shapes, result_shape, shape_of, shapes_of, source_function, type_of, type_or}
use Rattle.c_semantics.specs.Calls.{Bodies, back_or_plain, begun, below, bodies, call, call_by_address, call_by_name, called_back, callee, calling, entering, entering_below, first, here, is_pool, own_below, pooling, started, stepping, thread_behaviour, to_callee}
use Rattle.c_semantics.specs.Returned.{ResultsAreConverted}
use Rattle.c_semantics.specs.Arguments.{ArgumentsAreConverted, AreArguments, CarriesValues, EndsWithValues, WantsCarryValues, is_any, is_known, takes_values}
use Rattle.c_semantics.proofs.Relations.{Bounds, Less, AtMost, Relation, lower, cut_fails, cut_frame, cut_value, IsBare}
use Rattle.c_semantics.proofs.ValuePrefixes.{CallsCut}
use Rattle.c_semantics.proofs.CallPrefixes.{calls_of, making_cut}
use Rattle.c_semantics.proofs.Returned.{restricted, made_same}
use Rattle.c_semantics.proofs.Guarded.{guard, guarded_same}
use Rattle.c_semantics.proofs.ReplayMarks.{bounds}

-- `fine` are the values that may be given at the end
abbrev FineVerdict : Source → (fine : ℕ → Type 0) → Verdict → Type 0
FineVerdict s fine (Ended v) = fine v
FineVerdict s fine (Expects side want) = CarriesValues s want
FineVerdict s fine Open = Unit {0}
FineVerdict s fine Wrong = Unit {0}

bare_fine : (s : Source) (want : Want) → IsBare want → CarriesValues s want
bare_fine s Turns b = tt
bare_fine s (Loads o at n) b = tt
bare_fine s (Stores o at bytes) b = tt
bare_fine s (Leaves at n) b = tt
bare_fine s (Fails kind) b = tt
bare_fine s Outside b = absurd b
bare_fine s (Enters i f args bytes) b = absurd b
bare_fine s (Allocs n) b = absurd b
bare_fine s (Frees at) b = absurd b
bare_fine s (Calls i f args) b = absurd b
bare_fine s (Below f args) b = absurd b
bare_fine s (Gives f args) b = absurd b
bare_fine s (Returns f args v) b = absurd b
bare_fine s (CallsBack f args bytes) b = absurd b
bare_fine s (UpReturns f v) b = absurd b
bare_fine s (Steps i f args) b = absurd b

-- only the left counts
abbrev Well : Source → (fine : ℕ → Type 0) → Bounds → Marks → Marks → Type 0
Well s fine k p q = (ms : List Mark) → length ms ≤ k.left → length ms ≤ k.right → FineVerdict s fine (p ms)

-- ---- the first argument

first_value : (shape : Shape) (args : List ℕ) → are_values (shape ∷ []) args ≡ true → is_value shape (first args) ≡ true
first_value shape [] e = absurd cc
first_value shape (v ∷ []) e = (and_parts (is_value shape v) true e).0
first_value shape (v ∷ (w ∷ vs)) e = let no : false ≡ true = sym (both_false (is_value shape v)) ∙ e in absurd cc
  where
    both_false : (b : Bool) → (b && false) ≡ false
    both_false true = refl
    both_false false = refl

-- a function that has a type or a body is known
function_known : (o : Option Function) (s : Source) (f : ℕ) → source_function s f ≡ o → (o ≡ None → ⊥) → is_known s f ≡ true
function_known (Some g) s f e n = ap (λ o. is_any o (builtin_of f)) e
function_known None s f e n = absurd (n refl)

typed_known : (s : Source) (t : CType) (f : ℕ) → is_function_of s t f ≡ true → is_known s f ≡ true
typed_known s t f e = function_known (source_function s f) s f refl (λ none. let no : is_function_of s t f ≡ false = rw none refl in absurd cc)

body_known : (s : Source) (f : ℕ) → is_some (body_of s f) ≡ true → is_known s f ≡ true
body_known s f e = function_known (source_function s f) s f refl (λ none. let no : is_some (body_of s f) ≡ false = ap (λ o. is_some (body_or o)) none in absurd cc)

-- values of a function's parameters, where it is known
arguments_of : (s : Source) (f : ℕ) (args : List ℕ) → AreArguments s f args → are_values (param_shapes s f) args ≡ true
arguments_of s f args ok = (and_parts (is_known s f) (are_values (param_shapes s f) args) ok).1

are_arguments : (s : Source) (f : ℕ) (args : List ℕ) → is_known s f ≡ true → are_values (param_shapes s f) args ≡ true → AreArguments s f args
are_arguments s f args known ok = and_from (is_known s f) (are_values (param_shapes s f) args) known ok

-- the function at an address is of the type
callee_typed : (s : Source) (t : CType) (f : ℕ) → is_function_of s t f ≡ true → type_of s f ≡ t
callee_typed s t f e = by (source_function s f) refl e
  where
    by : (o : Option Function) → source_function s f ≡ o → is_function_of s t f ≡ true → type_of s f ≡ t
    by None h k = let no : is_function_of s t f ≡ false = rw h refl in absurd cc
    by (Some g) h k =
        let tests : same_type g.type t ≡ true = rw h at k in
        ap (λ o. type_or o (builtin_of f)) h ∙ (types_compared g.type t).0 tests

-- a function that may be called with values of the parameters of a type, and that gives one of its result
record IsOf (s : Source) (t : CType) (f : ℕ) : Type 0 where
  pub known : is_known s f ≡ true
  pub type : type_of s f ≡ t

takes_of : (s : Source) (t : CType) (f : ℕ) (args : List ℕ) → IsOf s t f → are_values (shapes_of (params_of t)) args ≡ true → AreArguments s f args
takes_of s t f args is ok = are_arguments s f args is.known (subst (λ u. are_values (shapes_of (params_of u)) args ≡ true) (sym is.type) ok)

module _ (s : Source) (fine : ℕ → Type 0) where
  closed_well : (ms : List Mark) → FineVerdict s fine (closed ms)
  closed_well [] = tt
  closed_well (m ∷ ms) = tt

  heard_well : (r : Option Answer) (go : Answer → Marks) (ms : List Mark) → ((a : Answer) → FineVerdict s fine (go a ms)) → FineVerdict s fine (heard r go ms)
  heard_well None go ms h = tt
  heard_well (Some Stopped) go ms h = closed_well ms
  heard_well (Some Go) go ms h = h Go
  heard_well (Some (Value v)) go ms h = h (Value v)
  heard_well (Some (Frame at)) go ms h = h (Frame at)
  heard_well (Some (CalledBack g args)) go ms h = h (CalledBack g args)

  well_asks : (k : Bounds) (side : Side) (want : Want) → CarriesValues s want → (go on : Answer → Marks) → ((a : Answer) (j : Bounds) → Less j k → Well s fine j (go a) (on a)) → Well s fine k (ask side want go) (ask side want on)
  well_asks k side want is go on h [] few less = is
  well_asks k side want is go on h (m ∷ ms) few less =
      let x : length ms < k.left = omega arith in
      let y : length ms < k.right = omega arith in
      heard_well (reply side want m) go ms (λ a. h a (bounds (length ms) (length ms)) (x, y) ms (omega arith) (omega arith))

  well_ends : (k : Bounds) (v : ℕ) → fine v → Well s fine k (ended v) (ended v)
  well_ends k v is [] few less = is
  well_ends k v is (m ∷ ms) few less = tt

  well_counted : (k : Bounds) (f g : ℕ → Marks) → ((j : Bounds) (n m : ℕ) → AtMost j k → j.left < n → j.right < m → Well s fine j (f n) (g m)) → Well s fine k (λ ms. f (suc (length ms)) ms) (λ ms. g (suc (length ms)) ms)
  well_counted k f g h ms few less = h (bounds (length ms) (length ms)) (suc (length ms)) (suc (length ms)) (few, less) (omega arith) (omega arith) ms (omega arith) (omega arith)

  abbrev well : Relation
  well = record {
    rel = Well s fine;
    follows = λ side want. CarriesValues s want;
    weaker = λ j k p q le d ms few less. d ms (let x = le.0 in omega arith) (let x = le.1 in omega arith);
    wrongs = λ k ms few less. tt;
    asks = well_asks;
    counted = well_counted;
  }

  -- ---- calls

  abbrev W : Bounds → Marks → Type 0
  W k p = Well s fine k p wrong

  -- for each value of the function's result's type
  abbrev Given : Bounds → ℕ → (ℕ → Marks) → Type 0
  Given k f go = (v : ℕ) → is_value (result_shape s f) v ≡ true → W k (go v)

  abbrev BodiesAt : Bounds → Bodies → Type 0
  BodiesAt k b = (side : Side) (f base : ℕ) (go : ℕ → Marks) → Given k f go → W k (b side f base go)

  abbrev After : Bounds → Bodies → Type 0
  After k b = (j : Bounds) → Less j k → BodiesAt j b

  fewer : (j k : Bounds) (b : Bodies) → AtMost j k → After k b → After j b
  fewer j k b le d i lt = d i (let x = lt.0 in let y = le.0 in omega arith, let x = lt.1 in let y = le.1 in omega arith)

  weak : (j k : Bounds) (p : Marks) → AtMost j k → W k p → W j p
  weak j k p le h ms few less = h ms (let x = le.0 in omega arith) (let x = le.1 in omega arith)

  asks_well : (k : Bounds) (side : Side) (want : Want) → CarriesValues s want → (go : Answer → Marks) → ((a : Answer) (j : Bounds) → Less j k → W j (go a)) → W k (ask side want go)
  asks_well k side want is go h = well_asks k side want is go (λ a. wrong) h

  -- where a test holds, and else nothing follows
  tested : (k : Bounds) (t : Bool) (p : Marks) → (t ≡ true → W k p) → W k (cond t p wrong)
  tested k true p h = h refl
  tested k false p h = well.wrongs k

  entering_well : (k : Bounds) (b : Bodies) (ms side : Side) (i : Bool) (f : ℕ) (args : List ℕ) (go : ℕ → Marks) → AreArguments s f args → After k b → Given k f go → W k (entering s b ms side i f args go)
  entering_well k b ms side i f args go ok d e =
      asks_well k ms (Enters i f args (frame_of s f args)) ok (with_frame (λ base. b side f base go))
      (λ a j lt. cut_frame well j (λ base. b side f base go) (λ base. wrong) (λ base. d j lt side f base go (λ v is. weak j k (go v) (lower j k lt) (e v is))) a)

  called_back_well : (k : Bounds) (b : Bodies) (g : ℕ) (args : List ℕ) (go : ℕ → Marks) → After k b → Given k g go → W k (called_back s b g args go)
  called_back_well k b g args go d e =
      tested k (is_some (body_of s g) && are_values (param_shapes s g) args) (entering s b Replay Replay false g args (λ v. ask Replay (UpReturns g v) (λ x. go v)))
      (λ ok.
      let parts = and_parts (is_some (body_of s g)) (are_values (param_shapes s g) args) ok in
      entering_well k b Replay Replay false g args (λ v. ask Replay (UpReturns g v) (λ x. go v)) (are_arguments s g args (body_known s g parts.0) parts.1) d
      (λ v is. asks_well k Replay (UpReturns g v) is (λ x. go v) (λ x j lt. weak j k (go v) (lower j k lt) (e v is))))

  -- a value of the result's type that was answered
  given_well : (k : Bounds) (f : ℕ) (go : ℕ → Marks) → Given k f go → (a : Answer) → W k (with_value (result_shape s f) go a)
  given_well k f go e (Value v) = tested k (is_value (result_shape s f) v) (go v) (e v)
  given_well k f go e Go = well.wrongs k
  given_well k f go e (Frame at) = well.wrongs k
  given_well k f go e (CalledBack g args) = well.wrongs k
  given_well k f go e Stopped = well.wrongs k

  stepping_well : (k : Bounds) (side : Side) (i : Bool) (f : ℕ) (args : List ℕ) (go : ℕ → Marks) → AreArguments s f args → Given k f go → W k (stepping s side i f args go)
  stepping_well k side i f args go ok e =
      asks_well k side (Steps i f args) ok (with_value (result_shape s f) go) (λ a j lt. given_well j f go (λ v is. weak j k (go v) (lower j k lt) (e v is)) a)

  own_well : (has : Bool) (k : Bounds) (b : Bodies) (f : ℕ) (args : List ℕ) (go : ℕ → Marks) → AreArguments s f args → After k b → ((v : ℕ) → W k (go v)) → W k (own_below s b has f args go)
  own_well true k b f args go ok d e =
      entering_well k b System System false f args (λ v. ask Replay (Returns f args v) (λ x. go v)) ok d
      (λ v is. asks_well k Replay (Returns f args v) (ok, is) (λ x. go v) (λ x j lt. weak j k (go v) (lower j k lt) (e v)))
  own_well false k b f args go ok d e =
      asks_well k Replay (Gives f args) ok (with_value (result_shape s f) go) (λ a j lt. cut_value well j (result_shape s f) go (λ v. wrong) (λ v. weak j k (go v) (lower j k lt) (e v)) a)

  pooling_well : (side : Side) (f : ℕ) (k : Bounds) (args : List ℕ) (go : ℕ → Marks) → is_pool side f ≡ true → AreArguments s f args → ((v : ℕ) → W k (go v)) → W k (pooling f args go)
  pooling_well System f k args go p ok e = absurd cc
  pooling_well Replay zero k args go p ok e =
      asks_well k Replay (Allocs (first args)) (first_value size_shape args (arguments_of s 0 args ok)) (with_value Pointer go) (λ a j lt. cut_value well j Pointer go (λ v. wrong) (λ v. weak j k (go v) (lower j k lt) (e v)) a)
  pooling_well Replay (suc zero) k args go p ok e = asks_well k Replay (Frees (first args)) (first_value Pointer args (arguments_of s 1 args ok)) (λ x. go 0) (λ a j lt. weak j k (go 0) (lower j k lt) (e 0))
  pooling_well Replay (suc (suc f)) k args go p ok e = let lt : suc (suc f) < 2 = ltb-true (suc (suc f)) 2 p in absurd (omega (arith, lt))

  back_well : (k : Bounds) (b : Bodies) (f : ℕ) (args : List ℕ) (go : ℕ → Marks) → After k b → BodiesAt k b → Given k f go → (a : Answer) → W k (back_or_plain s b f args go a)
  back_well k b f args go d h e (CalledBack g bs) = called_back_well k b f args go d e
  back_well k b f args go d h e (Frame at) = cut_frame well k (λ base. b System f base go) (λ base. wrong) (λ base. h System f base go e) (Frame at)
  back_well k b f args go d h e (Value v) = well.wrongs k
  back_well k b f args go d h e Go = well.wrongs k
  back_well k b f args go d h e Stopped = well.wrongs k

  below_well : (k : Bounds) (b : Bodies) (i : Bool) (f : ℕ) (args : List ℕ) (go : ℕ → Marks) → AreArguments s f args → After k b → Given k f go → W k (entering_below s b i f args go)
  below_well k b false f args go ok d e = entering_well k b System System false f args go ok d e
  below_well k b true f args go ok d e =
      asks_well k System (CallsBack f args (frame_of s f args)) ok (back_or_plain s b f args go)
      (λ a j lt. back_well j b f args go (fewer j k b (lower j k lt) d) (d j lt) (λ v is. weak j k (go v) (lower j k lt) (e v is)) a)

  calling_well : (k : Bounds) (b : Bodies) (side : Side) (face has i : Bool) (f : ℕ) (args : List ℕ) (go : ℕ → Marks) → AreArguments s f args → After k b → ((v : ℕ) → W k (go v)) → W k (calling Split s b side face has i f args go)
  calling_well k b Replay true has i f args go ok d e =
      asks_well k Replay (Calls i f args) ok (λ x. below Split s b f args go) (λ a j lt. own_well (is_some (body_of s f)) j b f args go ok (fewer j k b (lower j k lt) d) (λ v. weak j k (go v) (lower j k lt) (e v)))
  calling_well k b Replay false true i f args go ok d e = entering_well k b Replay Replay i f args go ok d (λ v is. e v)
  calling_well k b System face true i f args go ok d e = below_well k b i f args go ok d (λ v is. e v)
  calling_well k b Replay false false i f args go ok d e = stepping_well k Replay i f args go ok (λ v is. e v)
  calling_well k b System true false i f args go ok d e = stepping_well k System i f args go ok (λ v is. e v)
  calling_well k b System false false i f args go ok d e = stepping_well k System i f args go ok (λ v is. e v)

  -- the function at an address takes arguments of the type
  address_test : (t : CType) (address f : ℕ) → callee s t address ≡ Some f → IsOf s t f
  address_test t address f e =
      let n = (address - function_address 0) / 16 in
      by (eqb address (function_address n) && (leb builtin_count n && is_function_of s t n)) refl e
    where
      by : (b : Bool) → (eqb address (function_address ((address - function_address 0) / 16)) && (leb builtin_count ((address - function_address 0) / 16) && is_function_of s t ((address - function_address 0) / 16))) ≡ b → cond b (Some ((address - function_address 0) / 16)) None ≡ Some f → IsOf s t f
      by true r h =
          let n = (address - function_address 0) / 16 in
          let same : n ≡ f = cc in
          let p = and_parts (eqb address (function_address n)) (leb builtin_count n && is_function_of s t n) r in
          let typed = (and_parts (leb builtin_count n) (is_function_of s t n) p.1).1 in
          subst (IsOf s t) same (record { known = typed_known s t n typed; type = callee_typed s t n typed })
      by false r h = absurd cc

  callee_well : (k : Bounds) (b : Bodies) (side : Side) (t : CType) (o : Option ℕ) (args : List ℕ) (go : ℕ → Marks) → ((f : ℕ) → o ≡ Some f → IsOf s t f) → are_values (shapes_of (params_of t)) args ≡ true → After k b → ((v : ℕ) → W k (go v)) → W k (to_callee Split s b side o args go)
  callee_well k b side t (Some f) args go typed ok d e = calling_well k b side (is_face s f) (is_some (body_of s f)) true f args go (takes_of s t f args (typed f refl) ok) d e
  callee_well k b side t None args go typed ok d e = cut_fails well k side BadCall (λ want p. bare_fine s want p)

  named_well : (k : Bounds) (b : Bodies) (side : Side) (f : ℕ) (args : List ℕ) (go : ℕ → Marks) → After k b → ((v : ℕ) → W k (go v)) → W k (cond (takes_values s f args) (call_by_name Split s b side f args go) wrong)
  named_well k b side f args go d e =
      tested k (takes_values s f args) (call_by_name Split s b side f args go) (λ ok. by ok (is_pool side f) refl)
    where
      by : AreArguments s f args → (t : Bool) → is_pool side f ≡ t → W k (cond t (pooling f args go) (call Split s b side false f args go))
      by ok true p = pooling_well side f k args go p ok e
      by ok false p = calling_well k b side (is_face s f) (is_some (body_of s f)) false f args go ok d e

  calls_well : (k : Bounds) (b : Bodies) (side : Side) (f base : ℕ) → After k b → CallsCut well k (guard s (here Split s b side f base)) (calls_of Split s b side)
  calls_well k b side f base d = record {
    plain = λ want p. bare_fine s want p;
    named = λ j le g args go on e. named_well j b side g args go (fewer j k b le d) e;
    pointed = λ j le t a args go on e. tested j (are_values (shapes_of (params_of t)) args) (call_by_address Split s b side t a args go) (λ ok. callee_well j b side t (callee s t a) args go (λ f h. address_test t a f h) ok (fewer j k b le d) e);
  }

  -- ---- bodies

  module _ (results : ResultsAreConverted s) (arguments : ArgumentsAreConverted s) where
    bodies_well : (n : ℕ) (k : Bounds) → k.left < n → BodiesAt k (bodies n Split s)
    bodies_well zero k fl side f base go e = absurd (omega arith)
    bodies_well (suc n) k fl side f base go e =
        let b = bodies n Split s in
        let h = here Split s b side f base in
        subst (λ p. W k p) (sym (made_same s f h go results ∙ guarded_same s f h (restricted (result_shape s f) go) arguments))
        (making_cut well (body_of s f) k s (guard s h) (calls_of Split s b side) (restricted (result_shape s f) go) (λ v. wrong)
        (calls_well k b side f base (λ j lt. let less : j.left < n = let x = lt.0 in omega arith in bodies_well n j less)) (λ v. tested k (is_value (result_shape s f) v) (go v) (e v)))

    begun_well : (k : Bounds) (b : Bodies) (has : Bool) (f : ℕ) (args : List ℕ) → AreArguments s f args → ((v : ℕ) → is_value (result_shape s f) v ≡ true → fine v) → After k b → W k (begun s b has f args)
    begun_well k b true f args ok last d = below_well k b true f args ended ok d (λ v is. well_ends k v (last v is))
    begun_well k b false f args ok last d = stepping_well k System true f args ended ok (λ v is. well_ends k v (last v is))

    started_well : (k : Bounds) (b : Bodies) (t : CType) (o : Option ℕ) (args : List ℕ) → ((f : ℕ) → o ≡ Some f → IsOf s t f) → are_values (shapes_of (params_of t)) args ≡ true → ((v : ℕ) → is_value (shape_of (result_of t)) v ≡ true → fine v) → After k b → W k (started s b o args)
    started_well k b t None args typed ok last d = cut_fails well k System BadCall (λ want p. bare_fine s want p)
    started_well k b t (Some f) args typed ok last d =
        let of = typed f refl in
        begun_well k b (is_some (body_of s f)) f args (takes_of s t f args of ok) (λ v is. last v (subst (λ u. is_value (shape_of (result_of u)) v ≡ true) of.type is)) d

    thread_well : (t : CType) (address : ℕ) (args : List ℕ) → are_values (shapes_of (params_of t)) args ≡ true → ((v : ℕ) → is_value (shape_of (result_of t)) v ≡ true → fine v) → (ms : List Mark) → FineVerdict s fine (thread_behaviour s t address args ms)
    thread_well t address args ok last ms =
        let n = length ms in
        started_well (bounds n n) (bodies (suc n) Split s) t (callee s t address) args (λ f h. address_test t address f h) ok last (λ j lt. let less : j.left < suc n = let x = lt.0 in omega arith in bodies_well (suc n) j less) ms (omega arith) (omega arith)

-- a value of the result of a type
abbrev ValueOf : CType → ℕ → Type 0
ValueOf t v = is_value (shape_of (result_of t)) v ≡ true

fine_thread : (s : Source) → ResultsAreConverted s → ArgumentsAreConverted s → (t : CType) (address : ℕ) (args : List ℕ) → are_values (shapes_of (params_of t)) args ≡ true → (ms : List Mark) → FineVerdict s (ValueOf t) (thread_behaviour s t address args ms)
fine_thread s results arguments t address args ok ms = thread_well s (ValueOf t) results arguments t address args ok (λ v is. is) ms

pub wants_carry_values : (s : Source) → ResultsAreConverted s → ArgumentsAreConverted s → (t : CType) (address : ℕ) (args : List ℕ) → are_values (shapes_of (params_of t)) args ≡ true → WantsCarryValues s (thread_behaviour s t address args)
wants_carry_values s results arguments t address args ok ms side want e = subst (FineVerdict s (ValueOf t)) e (fine_thread s results arguments t address args ok ms)

pub ends_carry_values : (s : Source) → ResultsAreConverted s → ArgumentsAreConverted s → (t : CType) (address : ℕ) (args : List ℕ) → are_values (shapes_of (params_of t)) args ≡ true → EndsWithValues t (thread_behaviour s t address args)
ends_carry_values s results arguments t address args ok ms v e = subst (FineVerdict s (ValueOf t)) e (fine_thread s results arguments t address args ok ms)
