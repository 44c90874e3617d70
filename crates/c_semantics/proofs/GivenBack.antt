-- What is expected where a function that replay code called below the cut returns is a value of its result's type.
use Rattle.std.proofs.Common.{◌≡◌, ℕ, zero, suc, ◌<◌, ◌≤◌, ◌&&◌, Bool, true, false, cond, List, [], ◌∷◌, length, Option, Some, None, is_some, refl, sym, subst, arith}
use Rattle.marks.specs.declared.side.Side.{Side}
use Rattle.marks.specs.declared.side.Side.TheVariants.{Replay, System}
use Rattle.marks.specs.declared.fault.FaultKind.TheVariants.{BadCall}
use Rattle.marks.specs.Marks.{Mark}
use Rattle.marks.specs.Wants.{Want, Enters, Allocs, Calls, CallsBack, Frees, Gives, Returns, Steps, UpReturns, Answer, Go, Value, Frame, CalledBack, Stopped}
use Rattle.c_code.specs.declared.shape.Shape.TheVariants.{Pointer}
use Rattle.c_code.specs.Frames.{are_values}
use Rattle.c_code.specs.Values.{is_value}
use Rattle.c_code.specs.MarkLists.{Split, Verdict, Expects, reply, closed}
use Rattle.c_code.proofs.Sides.{IsPlain}
use Rattle.c_types_model.specs.Types.{CType}
use Rattle.c_semantics.specs.Reading.{Marks, wrong, ended, heard, ask, with_value, with_frame}
use Rattle.c_semantics.specs.Context.{Source, body_of, frame_of, is_face, param_shapes, result_shape}
use Rattle.c_semantics.specs.Calls.{Bodies, back_or_plain, begun, below, bodies, call, called_back, callee, calling, entering, entering_below, first, here, is_pool, own_below, pooling, started, stepping, thread_behaviour, to_callee}
use Rattle.c_semantics.specs.Returned.{ResultsAreConverted, ReturnsGiveValues}
use Rattle.c_semantics.proofs.Relations.{Bounds, Less, AtMost, Relation, lower, cut_cond, cut_fails, cut_frame, cut_value, bare_plain}
use Rattle.c_semantics.proofs.ValuePrefixes.{CallsCut}
use Rattle.c_semantics.proofs.CallPrefixes.{calls_of, making_cut}
use Rattle.c_semantics.proofs.Returned.{restricted, made_same}
use Rattle.c_semantics.proofs.ReplayMarks.{bounds}

abbrev Fine : Source → Want → Type 0
Fine s (Returns f args v) = is_value (result_shape s f) v ≡ true
Fine s want = Unit {0}

abbrev FineVerdict : Source → Verdict → Type 0
FineVerdict s (Expects side want) = Fine s want
FineVerdict s v = Unit {0}

plain_fine : (s : Source) (want : Want) → IsPlain want → Fine s want
plain_fine s (Returns f args v) p = absurd p
plain_fine s want p = tt

-- only the left counts
abbrev Well : Source → Bounds → Marks → Marks → Type 0
Well s k p q = (ms : List Mark) → length ms ≤ k.left → length ms ≤ k.right → FineVerdict s (p ms)

module _ (s : Source) where
  closed_well : (ms : List Mark) → FineVerdict s (closed ms)
  closed_well [] = tt
  closed_well (m ∷ ms) = tt

  heard_well : (r : Option Answer) (go : Answer → Marks) (ms : List Mark) → ((a : Answer) → FineVerdict s (go a ms)) → FineVerdict s (heard r go ms)
  heard_well None go ms h = tt
  heard_well (Some Stopped) go ms h = closed_well ms
  heard_well (Some Go) go ms h = h Go
  heard_well (Some (Value v)) go ms h = h (Value v)
  heard_well (Some (Frame at)) go ms h = h (Frame at)
  heard_well (Some (CalledBack g args)) go ms h = h (CalledBack g args)

  well_asks : (k : Bounds) (side : Side) (want : Want) → Fine s want → (go on : Answer → Marks) → ((a : Answer) (j : Bounds) → Less j k → Well s j (go a) (on a)) → Well s k (ask side want go) (ask side want on)
  well_asks k side want is go on h [] few less = is
  well_asks k side want is go on h (m ∷ ms) few less =
      let x : length ms < k.left = omega arith in
      let y : length ms < k.right = omega arith in
      heard_well (reply side want m) go ms (λ a. h a (bounds (length ms) (length ms)) (x, y) ms (omega arith) (omega arith))

  well_ends : (k : Bounds) (v : ℕ) → Well s k (ended v) (ended v)
  well_ends k v [] few less = tt
  well_ends k v (m ∷ ms) few less = tt

  well_counted : (k : Bounds) (f g : ℕ → Marks) → ((j : Bounds) (n m : ℕ) → AtMost j k → j.left < n → j.right < m → Well s j (f n) (g m)) → Well s k (λ ms. f (suc (length ms)) ms) (λ ms. g (suc (length ms)) ms)
  well_counted k f g h ms few less = h (bounds (length ms) (length ms)) (suc (length ms)) (suc (length ms)) (few, less) (omega arith) (omega arith) ms (omega arith) (omega arith)

  abbrev well : Relation
  well = record {
    rel = Well s;
    follows = λ side want. Fine s want;
    weaker = λ j k p q le d ms few less. d ms (let x = le.0 in omega arith) (let x = le.1 in omega arith);
    wrongs = λ k ms few less. tt;
    asks = well_asks;
    counted = well_counted;
  }

  -- ---- calls

  abbrev W : Bounds → Marks → Type 0
  W k p = Well s k p wrong

  -- for each value of the function's result's type
  abbrev Given : Bounds → ℕ → (ℕ → Marks) → Type 0
  Given k f go = (v : ℕ) → is_value (result_shape s f) v ≡ true → W k (go v)

  abbrev BodiesAt : Bounds → Bodies → Type 0
  BodiesAt k b = (side : Side) (f base : ℕ) (go : ℕ → Marks) → Given k f go → W k (b side f base go)

  abbrev After : Bounds → Bodies → Type 0
  After k b = (j : Bounds) → Less j k → BodiesAt j b

  fewer : (j k : Bounds) (b : Bodies) → AtMost j k → After k b → After j b
  fewer j k b le d i lt = d i (let x = lt.0 in let y = le.0 in omega arith, let x = lt.1 in let y = le.1 in omega arith)

  weak : (j k : Bounds) (p : Marks) → AtMost j k → W k p → W j p
  weak j k p le h ms few less = h ms (let x = le.0 in omega arith) (let x = le.1 in omega arith)

  asks_well : (k : Bounds) (side : Side) (want : Want) → Fine s want → (go : Answer → Marks) → ((a : Answer) (j : Bounds) → Less j k → W j (go a)) → W k (ask side want go)
  asks_well k side want is go h = well_asks k side want is go (λ a. wrong) h

  entering_well : (k : Bounds) (b : Bodies) (ms side : Side) (i : Bool) (f : ℕ) (args : List ℕ) (go : ℕ → Marks) → After k b → Given k f go → W k (entering s b ms side i f args go)
  entering_well k b ms side i f args go d e =
      asks_well k ms (Enters i f args (frame_of s f args)) tt (with_frame (λ base. b side f base go))
      (λ a j lt. cut_frame well j (λ base. b side f base go) (λ base. wrong) (λ base. d j lt side f base go (λ v is. weak j k (go v) (lower j k lt) (e v is))) a)

  called_back_well : (k : Bounds) (b : Bodies) (g : ℕ) (args : List ℕ) (go : ℕ → Marks) → After k b → ((v : ℕ) → W k (go v)) → W k (called_back s b g args go)
  called_back_well k b g args go d e =
      cut_cond well k (is_some (body_of s g) && are_values (param_shapes s g) args) (entering s b Replay Replay false g args (λ v. ask Replay (UpReturns g v) (λ x. go v))) wrong wrong wrong
      (entering_well k b Replay Replay false g args (λ v. ask Replay (UpReturns g v) (λ x. go v)) d (λ v is. asks_well k Replay (UpReturns g v) tt (λ x. go v) (λ x j lt. weak j k (go v) (lower j k lt) (e v))))
      (well.wrongs k)

  stepping_well : (k : Bounds) (side : Side) (i : Bool) (f : ℕ) (args : List ℕ) (go : ℕ → Marks) → ((v : ℕ) → W k (go v)) → W k (stepping s side i f args go)
  stepping_well k side i f args go e =
      asks_well k side (Steps i f args) tt (with_value (result_shape s f) go) (λ a j lt. cut_value well j (result_shape s f) go (λ v. wrong) (λ v. weak j k (go v) (lower j k lt) (e v)) a)

  own_well : (has : Bool) (k : Bounds) (b : Bodies) (f : ℕ) (args : List ℕ) (go : ℕ → Marks) → After k b → ((v : ℕ) → W k (go v)) → W k (own_below s b has f args go)
  own_well true k b f args go d e =
      entering_well k b System System false f args (λ v. ask Replay (Returns f args v) (λ x. go v)) d
      (λ v is. asks_well k Replay (Returns f args v) is (λ x. go v) (λ x j lt. weak j k (go v) (lower j k lt) (e v)))
  own_well false k b f args go d e =
      asks_well k Replay (Gives f args) tt (with_value (result_shape s f) go) (λ a j lt. cut_value well j (result_shape s f) go (λ v. wrong) (λ v. weak j k (go v) (lower j k lt) (e v)) a)

  pooling_well : (f : ℕ) (k : Bounds) (args : List ℕ) (go : ℕ → Marks) → ((v : ℕ) → W k (go v)) → W k (pooling f args go)
  pooling_well zero k args go e = asks_well k Replay (Allocs (first args)) tt (with_value Pointer go) (λ a j lt. cut_value well j Pointer go (λ v. wrong) (λ v. weak j k (go v) (lower j k lt) (e v)) a)
  pooling_well (suc f) k args go e = asks_well k Replay (Frees (first args)) tt (λ x. go 0) (λ a j lt. weak j k (go 0) (lower j k lt) (e 0))

  back_well : (k : Bounds) (b : Bodies) (f : ℕ) (args : List ℕ) (go : ℕ → Marks) → After k b → BodiesAt k b → ((v : ℕ) → W k (go v)) → (a : Answer) → W k (back_or_plain s b f args go a)
  back_well k b f args go d h e (CalledBack g bs) = called_back_well k b f args go d e
  back_well k b f args go d h e (Frame at) = cut_frame well k (λ base. b System f base go) (λ base. wrong) (λ base. h System f base go (λ v is. e v)) (Frame at)
  back_well k b f args go d h e (Value v) = well.wrongs k
  back_well k b f args go d h e Go = well.wrongs k
  back_well k b f args go d h e Stopped = well.wrongs k

  below_well : (k : Bounds) (b : Bodies) (i : Bool) (f : ℕ) (args : List ℕ) (go : ℕ → Marks) → After k b → ((v : ℕ) → W k (go v)) → W k (entering_below s b i f args go)
  below_well k b false f args go d e = entering_well k b System System false f args go d (λ v is. e v)
  below_well k b true f args go d e =
      asks_well k System (CallsBack f args (frame_of s f args)) tt (back_or_plain s b f args go)
      (λ a j lt. back_well j b f args go (fewer j k b (lower j k lt) d) (d j lt) (λ v. weak j k (go v) (lower j k lt) (e v)) a)

  calling_well : (k : Bounds) (b : Bodies) (side : Side) (face has i : Bool) (f : ℕ) (args : List ℕ) (go : ℕ → Marks) → After k b → ((v : ℕ) → W k (go v)) → W k (calling Split s b side face has i f args go)
  calling_well k b Replay true has i f args go d e =
      asks_well k Replay (Calls i f args) tt (λ x. below Split s b f args go) (λ a j lt. own_well (is_some (body_of s f)) j b f args go (fewer j k b (lower j k lt) d) (λ v. weak j k (go v) (lower j k lt) (e v)))
  calling_well k b Replay false true i f args go d e = entering_well k b Replay Replay i f args go d (λ v is. e v)
  calling_well k b System face true i f args go d e = below_well k b i f args go d e
  calling_well k b Replay false false i f args go d e = stepping_well k Replay i f args go e
  calling_well k b System true false i f args go d e = stepping_well k System i f args go e
  calling_well k b System false false i f args go d e = stepping_well k System i f args go e

  callee_well : (k : Bounds) (b : Bodies) (side : Side) (o : Option ℕ) (args : List ℕ) (go : ℕ → Marks) → After k b → ((v : ℕ) → W k (go v)) → W k (to_callee Split s b side o args go)
  callee_well k b side (Some f) args go d e = calling_well k b side (is_face s f) (is_some (body_of s f)) true f args go d e
  callee_well k b side None args go d e = cut_fails well k side BadCall (λ want p. plain_fine s want (bare_plain want p))

  calls_well : (k : Bounds) (b : Bodies) (side : Side) (f base : ℕ) → After k b → CallsCut well k (here Split s b side f base) (calls_of Split s b side)
  calls_well k b side f base d = record {
    plain = λ want p. plain_fine s want (bare_plain want p);
    named = λ j le g args go on e.
        cut_cond well j (is_pool side g) (pooling g args go) (pooling g args on) (call Split s b side false g args go) (call Split s b side false g args on)
        (pooling_well g j args go e) (calling_well j b side (is_face s g) (is_some (body_of s g)) false g args go (fewer j k b le d) e);
    pointed = λ j le t a args go on e. callee_well j b side (callee s t a) args go (fewer j k b le d) e;
  }

  -- ---- bodies

  module _ (converted : ResultsAreConverted s) where
    bodies_well : (n : ℕ) (k : Bounds) → k.left < n → BodiesAt k (bodies n Split s)
    bodies_well zero k fl side f base go e = absurd (omega arith)
    bodies_well (suc n) k fl side f base go e =
        let b = bodies n Split s in
        let h = here Split s b side f base in
        subst (λ p. W k p) (sym (made_same s f h go converted))
        (making_cut well (body_of s f) k s h (calls_of Split s b side) (restricted (result_shape s f) go) (λ v. wrong)
        (calls_well k b side f base (λ j lt. let less : j.left < n = let x = lt.0 in omega arith in bodies_well n j less)) (λ v. by v (is_value (result_shape s f) v) refl))
      where
        by : (v : ℕ) (t : Bool) → is_value (result_shape s f) v ≡ t → W k (cond t (go v) wrong)
        by v true is = e v is
        by v false is = well.wrongs k

    begun_well : (k : Bounds) (b : Bodies) (has : Bool) (f : ℕ) (args : List ℕ) → After k b → W k (begun s b has f args)
    begun_well k b true f args d = below_well k b true f args ended d (λ v. well_ends k v)
    begun_well k b false f args d = stepping_well k System true f args ended (λ v. well_ends k v)

    started_well : (k : Bounds) (b : Bodies) (o : Option ℕ) (args : List ℕ) → After k b → W k (started s b o args)
    started_well k b None args d = cut_fails well k System BadCall (λ want p. plain_fine s want (bare_plain want p))
    started_well k b (Some f) args d = begun_well k b (is_some (body_of s f)) f args d

    pub returns_give_values : (t : CType) (address : ℕ) (args : List ℕ) → ReturnsGiveValues s (thread_behaviour s t address args)
    returns_give_values t address args ms f bs v e =
        let n = length ms in
        let k = bounds n n in
        let fine : FineVerdict s (thread_behaviour s t address args ms) = started_well k (bodies (suc n) Split s) (callee s t address) args (λ j lt. let less : j.left < suc n = let x = lt.0 in omega arith in bodies_well (suc n) j less) ms (omega arith) (omega arith) in
        subst (FineVerdict s) e fine
