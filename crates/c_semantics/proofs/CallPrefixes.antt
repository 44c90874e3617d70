-- A right list of a call's marks stays right when it is cut short.
use Rattle.std.proofs.Common.{ℕ, zero, suc, ◌<◌, ◌&&◌, Bool, true, false, List, Option, Some, None, is_some, arith}
use Rattle.marks.specs.declared.side.Side.{Side}
use Rattle.marks.specs.declared.side.Side.TheVariants.{Replay, System}
use Rattle.marks.specs.declared.fault.FaultKind.TheVariants.{BadCall}
use Rattle.marks.specs.Wants.{Allocs, Below, Calls, CallsBack, Enters, Frees, Gives, Leaves, Outside, Returns, Steps, UpReturns, Answer, Go, Value, Frame, CalledBack, Stopped}
use Rattle.c_code.specs.declared.shape.Shape.TheVariants.{Pointer}
use Rattle.c_code.specs.Frames.{are_values}
use Rattle.c_code.specs.MarkLists.{Reading, Split, Above}
use Rattle.c_types_model.specs.Types.{CType}
use Rattle.c_types_rules.specs.TypedTree.{Body}
use Rattle.c_types_rules.specs.Limits.{frame_size}
use Rattle.c_semantics.specs.Reading.{Marks, wrong, ended, ask, with_value, with_frame}
use Rattle.c_semantics.specs.Context.{Source, body_of, frame_of, is_face, param_shapes, result_shape}
use Rattle.c_semantics.specs.Values.{Here}
use Rattle.c_semantics.specs.Calls.{Bodies, any_below, any_step, back_or_plain, begun, behaviour, below, bodies, call, call_by_address, call_by_name, called_back, callee, calling, entering, entering_below, first, here, is_pool, making, outside, outside_step, own_below, pooling, started, stepping, thread_above, thread_behaviour, to_callee}
use Rattle.c_semantics.proofs.Relations.{Bounds, Less, AtMost, Relation, FollowsAll, PassesEnds, Cuts, lower, weaker_all, cut_cond, cut_fails, cut_frame, cut_value}
use Rattle.c_semantics.proofs.ValuePrefixes.{Makes, making_calls, CallsCut}
use Rattle.c_semantics.proofs.StatementPrefixes.{statement_cut}

-- what calls make in bodies
abbrev pub calls_of : Reading → Source → Bodies → Side → Makes
calls_of r s c side = record { call = call_by_name r s c side; call_at = call_by_address r s c side }

pub making_cut : (R : Relation) → (o : Option Body) (k : Bounds) (s : Source) (h : Here) (m : Makes) (go on : ℕ → Marks) → CallsCut R k h m → Cuts R k go on → R.rel k (making s o h go) (making s o (making_calls h m) on)
making_cut R None k s h m go on cs e = R.wrongs k
making_cut R (Some b) k s h m go on cs e =
    let leave : (ℕ → Marks) → ℕ → Marks = λ p v. ask h.side (Leaves h.base (frame_size s.program b.locals)) (λ x. p v) in
    let left : Cuts R k (leave go) (leave on) = λ v. R.asks k h.side (Leaves h.base (frame_size s.program b.locals)) (cs.plain (Leaves h.base (frame_size s.program b.locals)) tt) (λ x. go v) (λ x. on v) (λ x j lt. R.weaker j k (go v) (on v) (lower j k lt) (e v)) in
    statement_cut R b.statements k h m (record { next = leave go 0; stop = leave go 0; again = leave go 0; give = leave go }) (record { next = leave on 0; stop = leave on 0; again = leave on 0; give = leave on }) cs
    (record { next = left 0; stop = left 0; again = left 0; give = left })

module _ (R : Relation) (all : FollowsAll R) where
  -- bodies are related as what follows them
  abbrev pub BodiesAt : Bounds → Bodies → Bodies → Type 0
  BodiesAt k b c = (side : Side) (f base : ℕ) (go on : ℕ → Marks) → Cuts R k go on → R.rel k (b side f base go) (c side f base on)

  -- after a mark
  abbrev pub BodiesCut : Bounds → Bodies → Bodies → Type 0
  BodiesCut k b c = (j : Bounds) → Less j k → BodiesAt j b c

  pub fewer_bodies : (j k : Bounds) (b c : Bodies) → AtMost j k → BodiesCut k b c → BodiesCut j b c
  fewer_bodies j k b c le d i lt = d i (let x = lt.0 in let y = le.0 in omega arith, let x = lt.1 in let y = le.1 in omega arith)

  entering_cut : (k : Bounds) (s : Source) (b c : Bodies) (ms side : Side) (i : Bool) (f : ℕ) (args : List ℕ) (go on : ℕ → Marks) → BodiesCut k b c → Cuts R k go on → R.rel k (entering s b ms side i f args go) (entering s c ms side i f args on)
  entering_cut k s b c ms side i f args go on d e =
      R.asks k ms (Enters i f args (frame_of s f args)) (all ms (Enters i f args (frame_of s f args))) (with_frame (λ base. b side f base go)) (with_frame (λ base. c side f base on))
      (λ a j lt. cut_frame R j (λ base. b side f base go) (λ base. c side f base on) (λ base. d j lt side f base go on (weaker_all R j k go on (lower j k lt) e)) a)

  called_back_cut : (k : Bounds) (s : Source) (b c : Bodies) (g : ℕ) (args : List ℕ) (go on : ℕ → Marks) → BodiesCut k b c → Cuts R k go on → R.rel k (called_back s b g args go) (called_back s c g args on)
  called_back_cut k s b c g args go on d e =
      let up : (ℕ → Marks) → ℕ → Marks = λ p v. ask Replay (UpReturns g v) (λ x. p v) in
      cut_cond R k (is_some (body_of s g) && are_values (param_shapes s g) args) (entering s b Replay Replay false g args (up go)) (entering s c Replay Replay false g args (up on)) wrong wrong
      (entering_cut k s b c Replay Replay false g args (up go) (up on) d (λ v. R.asks k Replay (UpReturns g v) (all Replay (UpReturns g v)) (λ x. go v) (λ x. on v) (λ x j lt. R.weaker j k (go v) (on v) (lower j k lt) (e v))))
      (R.wrongs k)

  stepping_cut : (k : Bounds) (s : Source) (side : Side) (i : Bool) (f : ℕ) (args : List ℕ) (go on : ℕ → Marks) → Cuts R k go on → R.rel k (stepping s side i f args go) (stepping s side i f args on)
  stepping_cut k s side i f args go on e =
      R.asks k side (Steps i f args) (all side (Steps i f args)) (with_value (result_shape s f) go) (with_value (result_shape s f) on) (λ a j lt. cut_value R j (result_shape s f) go on (weaker_all R j k go on (lower j k lt) e) a)

  any_step_cut : (k : Bounds) (s : Source) (b c : Bodies) (f : ℕ) (go on : ℕ → Marks) (p q : Marks) → BodiesCut k b c → Cuts R k go on → R.rel k p q → (a : Answer) → R.rel k (any_step s b f go p a) (any_step s c f on q a)
  any_step_cut k s b c f go on p q d e r (CalledBack g args) = called_back_cut k s b c g args (λ v. p) (λ v. q) d (λ v. r)
  any_step_cut k s b c f go on p q d e r (Value v) = cut_value R k (result_shape s f) go on e (Value v)
  any_step_cut k s b c f go on p q d e r (Frame at) = cut_value R k (result_shape s f) go on e (Frame at)
  any_step_cut k s b c f go on p q d e r Go = cut_value R k (result_shape s f) go on e Go
  any_step_cut k s b c f go on p q d e r Stopped = cut_value R k (result_shape s f) go on e Stopped

  any_below_cut : (n m : ℕ) (k : Bounds) (s : Source) (b c : Bodies) (f : ℕ) (args : List ℕ) (go on : ℕ → Marks) → k.left < n → k.right < m → BodiesCut k b c → Cuts R k go on → R.rel k (any_below n s b f args go) (any_below m s c f args on)
  any_below_cut zero m k s b c f args go on fl fr d e = absurd (omega arith)
  any_below_cut (suc n) zero k s b c f args go on fl fr d e = absurd (omega arith)
  any_below_cut (suc n) (suc m) k s b c f args go on fl fr d e =
      R.asks k Replay (Below f args) (all Replay (Below f args)) (any_step s b f go (any_below n s b f args go)) (any_step s c f on (any_below m s c f args on))
      (λ a j lt.
      let ds = fewer_bodies j k b c (lower j k lt) d in
      let es = weaker_all R j k go on (lower j k lt) e in
      let less : j.left < n = let x = lt.0 in omega arith in
      let fewer : j.right < m = let x = lt.1 in omega arith in
      any_step_cut j s b c f go on (any_below n s b f args go) (any_below m s c f args on) ds es (any_below_cut n m j s b c f args go on less fewer ds es) a)

  own_below_cut : (k : Bounds) (s : Source) (b c : Bodies) (has : Bool) (f : ℕ) (args : List ℕ) (go on : ℕ → Marks) → BodiesCut k b c → Cuts R k go on → R.rel k (own_below s b has f args go) (own_below s c has f args on)
  own_below_cut k s b c true f args go on d e =
      let back : (ℕ → Marks) → ℕ → Marks = λ p v. ask Replay (Returns f args v) (λ x. p v) in
      entering_cut k s b c System System false f args (back go) (back on) d (λ v. R.asks k Replay (Returns f args v) (all Replay (Returns f args v)) (λ x. go v) (λ x. on v) (λ x j lt. R.weaker j k (go v) (on v) (lower j k lt) (e v)))
  own_below_cut k s b c false f args go on d e =
      R.asks k Replay (Gives f args) (all Replay (Gives f args)) (with_value (result_shape s f) go) (with_value (result_shape s f) on) (λ a j lt. cut_value R j (result_shape s f) go on (weaker_all R j k go on (lower j k lt) e) a)

  any_length_cut : (k : Bounds) (s : Source) (b c : Bodies) (f : ℕ) (args : List ℕ) (go on : ℕ → Marks) → BodiesCut k b c → Cuts R k go on → R.rel k (below Above s b f args go) (below Above s c f args on)
  any_length_cut k s b c f args go on d e =
      R.counted k (λ n. any_below n s b f args go) (λ m. any_below m s c f args on)
      (λ j n m le fl fr. any_below_cut n m j s b c f args go on fl fr (fewer_bodies j k b c le d) (weaker_all R j k go on le e))

  below_cut : (r : Reading) (k : Bounds) (s : Source) (b c : Bodies) (f : ℕ) (args : List ℕ) (go on : ℕ → Marks) → BodiesCut k b c → Cuts R k go on → R.rel k (below r s b f args go) (below r s c f args on)
  below_cut Split k s b c f args go on d e = own_below_cut k s b c (is_some (body_of s f)) f args go on d e
  below_cut Above k s b c f args go on d e = any_length_cut k s b c f args go on d e

  pooling_cut : (f : ℕ) (k : Bounds) (args : List ℕ) (go on : ℕ → Marks) → Cuts R k go on → R.rel k (pooling f args go) (pooling f args on)
  pooling_cut zero k args go on e = R.asks k Replay (Allocs (first args)) (all Replay (Allocs (first args))) (with_value Pointer go) (with_value Pointer on) (λ a j lt. cut_value R j Pointer go on (weaker_all R j k go on (lower j k lt) e) a)
  pooling_cut (suc f) k args go on e = R.asks k Replay (Frees (first args)) (all Replay (Frees (first args))) (λ x. go 0) (λ x. on 0) (λ a j lt. R.weaker j k (go 0) (on 0) (lower j k lt) (e 0))

  back_or_plain_cut : (k : Bounds) (s : Source) (b c : Bodies) (f : ℕ) (args : List ℕ) (go on : ℕ → Marks) → BodiesCut k b c → BodiesAt k b c → Cuts R k go on → (a : Answer) → R.rel k (back_or_plain s b f args go a) (back_or_plain s c f args on a)
  back_or_plain_cut k s b c f args go on d h e (CalledBack g bs) = called_back_cut k s b c f args go on d e
  back_or_plain_cut k s b c f args go on d h e (Frame at) = cut_frame R k (λ base. b System f base go) (λ base. c System f base on) (λ base. h System f base go on e) (Frame at)
  back_or_plain_cut k s b c f args go on d h e (Value v) = R.wrongs k
  back_or_plain_cut k s b c f args go on d h e Go = R.wrongs k
  back_or_plain_cut k s b c f args go on d h e Stopped = R.wrongs k

  entering_below_cut : (k : Bounds) (s : Source) (b c : Bodies) (i : Bool) (f : ℕ) (args : List ℕ) (go on : ℕ → Marks) → BodiesCut k b c → Cuts R k go on → R.rel k (entering_below s b i f args go) (entering_below s c i f args on)
  entering_below_cut k s b c false f args go on d e = entering_cut k s b c System System false f args go on d e
  entering_below_cut k s b c true f args go on d e =
      R.asks k System (CallsBack f args (frame_of s f args)) (all System (CallsBack f args (frame_of s f args))) (back_or_plain s b f args go) (back_or_plain s c f args on)
      (λ a j lt. back_or_plain_cut j s b c f args go on (fewer_bodies j k b c (lower j k lt) d) (d j lt) (weaker_all R j k go on (lower j k lt) e) a)

  calling_cut : (r : Reading) (k : Bounds) (s : Source) (b c : Bodies) (side : Side) (face has i : Bool) (f : ℕ) (args : List ℕ) (go on : ℕ → Marks) → BodiesCut k b c → Cuts R k go on → R.rel k (calling r s b side face has i f args go) (calling r s c side face has i f args on)
  calling_cut r k s b c Replay true has i f args go on d e =
      R.asks k Replay (Calls i f args) (all Replay (Calls i f args)) (λ x. below r s b f args go) (λ x. below r s c f args on) (λ a j lt. below_cut r j s b c f args go on (fewer_bodies j k b c (lower j k lt) d) (weaker_all R j k go on (lower j k lt) e))
  calling_cut r k s b c Replay false true i f args go on d e = entering_cut k s b c Replay Replay i f args go on d e
  calling_cut r k s b c System face true i f args go on d e = entering_below_cut k s b c i f args go on d e
  calling_cut r k s b c Replay false false i f args go on d e = stepping_cut k s Replay i f args go on e
  calling_cut r k s b c System true false i f args go on d e = stepping_cut k s System i f args go on e
  calling_cut r k s b c System false false i f args go on d e = stepping_cut k s System i f args go on e

  call_cut : (r : Reading) (k : Bounds) (s : Source) (b c : Bodies) (side : Side) (i : Bool) (f : ℕ) (args : List ℕ) (go on : ℕ → Marks) → BodiesCut k b c → Cuts R k go on → R.rel k (call r s b side i f args go) (call r s c side i f args on)
  call_cut r k s b c side i f args go on d e = calling_cut r k s b c side (is_face s f) (is_some (body_of s f)) i f args go on d e

  to_callee_cut : (r : Reading) (k : Bounds) (s : Source) (b c : Bodies) (side : Side) (o : Option ℕ) (args : List ℕ) (go on : ℕ → Marks) → BodiesCut k b c → Cuts R k go on → R.rel k (to_callee r s b side o args go) (to_callee r s c side o args on)
  to_callee_cut r k s b c side (Some f) args go on d e = call_cut r k s b c side true f args go on d e
  to_callee_cut r k s b c side None args go on d e = cut_fails R k side BadCall (λ want plain. all side want)

  pub calls_cut : (r : Reading) (k : Bounds) (s : Source) (b c : Bodies) (side : Side) (f base : ℕ) → BodiesCut k b c → CallsCut R k (here r s b side f base) (calls_of r s c side)
  calls_cut r k s b c side f base d = record {
    plain = λ want ok. all side want;
    named = λ j le g args go on e.
        cut_cond R j (is_pool side g) (pooling g args go) (pooling g args on) (call r s b side false g args go) (call r s c side false g args on)
        (pooling_cut g j args go on e) (call_cut r j s b c side false g args go on (fewer_bodies j k b c le d) e);
    pointed = λ j le t a args go on e. to_callee_cut r j s b c side (callee s t a) args go on (fewer_bodies j k b c le d) e;
  }

  pub bodies_cut : (n m : ℕ) (k : Bounds) (r : Reading) (s : Source) → k.left < n → k.right < m → BodiesAt k (bodies n r s) (bodies m r s)
  bodies_cut zero m k r s fl fr side f base go on e = absurd (omega arith)
  bodies_cut (suc n) zero k r s fl fr side f base go on e = absurd (omega arith)
  bodies_cut (suc n) (suc m) k r s fl fr side f base go on e =
      making_cut R (body_of s f) k s (here r s (bodies n r s) side f base) (calls_of r s (bodies m r s) side) go on
      (calls_cut r k s (bodies n r s) (bodies m r s) side f base (λ j lt.
      let less : j.left < n = let x = lt.0 in omega arith in
      let fewer : j.right < m = let x = lt.1 in omega arith in
      bodies_cut n m j r s less fewer)) e

  pub all_bodies : (n m : ℕ) (k : Bounds) (r : Reading) (s : Source) → k.left < n → k.right < m → BodiesCut k (bodies n r s) (bodies m r s)
  all_bodies n m k r s fl fr j lt =
      let less : j.left < n = let x = lt.0 in omega arith in
      let fewer : j.right < m = let x = lt.1 in omega arith in
      bodies_cut n m j r s less fewer

  module _ (ends : PassesEnds R) where
    pub behaviour_cut : (r : Reading) (s : Source) (side : Side) (f : ℕ) (args : List ℕ) (k : Bounds) → R.rel k (behaviour r s side f args) (behaviour r s side f args)
    behaviour_cut r s side f args k =
        R.counted k (λ n. entering s (bodies n r s) side side false f args ended) (λ m. entering s (bodies m r s) side side false f args ended)
        (λ j n m le fl fr. entering_cut j s (bodies n r s) (bodies m r s) side side false f args ended ended (all_bodies n m j r s fl fr) (λ v. ends j v))

    begun_cut : (k : Bounds) (s : Source) (b c : Bodies) (has : Bool) (f : ℕ) (args : List ℕ) → BodiesCut k b c → R.rel k (begun s b has f args) (begun s c has f args)
    begun_cut k s b c true f args d = entering_below_cut k s b c true f args ended ended d (λ v. ends k v)
    begun_cut k s b c false f args d = stepping_cut k s System true f args ended ended (λ v. ends k v)

    pub started_cut : (k : Bounds) (s : Source) (b c : Bodies) (o : Option ℕ) (args : List ℕ) → BodiesCut k b c → R.rel k (started s b o args) (started s c o args)
    started_cut k s b c None args d = cut_fails R k System BadCall (λ want plain. all System want)
    started_cut k s b c (Some f) args d = begun_cut k s b c (is_some (body_of s f)) f args d

    pub thread_cut : (s : Source) (t : CType) (address : ℕ) (args : List ℕ) (k : Bounds) → R.rel k (thread_behaviour s t address args) (thread_behaviour s t address args)
    thread_cut s t address args k =
        R.counted k (λ n. started s (bodies n Split s) (callee s t address) args) (λ m. started s (bodies m Split s) (callee s t address) args)
        (λ j n m le fl fr. started_cut j s (bodies n Split s) (bodies m Split s) (callee s t address) args (all_bodies n m j Split s fl fr))

  outside_step_cut : (k : Bounds) (s : Source) (b c : Bodies) (p q : Marks) → BodiesCut k b c → R.rel k p q → (a : Answer) → R.rel k (outside_step s b p a) (outside_step s c q a)
  outside_step_cut k s b c p q d r (CalledBack g args) = called_back_cut k s b c g args (λ v. p) (λ v. q) d (λ v. r)
  outside_step_cut k s b c p q d r (Value v) = R.wrongs k
  outside_step_cut k s b c p q d r (Frame at) = R.wrongs k
  outside_step_cut k s b c p q d r Go = R.wrongs k
  outside_step_cut k s b c p q d r Stopped = R.wrongs k

  outside_cut : (n m : ℕ) (k : Bounds) (s : Source) (b c : Bodies) → k.left < n → k.right < m → BodiesCut k b c → R.rel k (outside n s b) (outside m s c)
  outside_cut zero m k s b c fl fr d = absurd (omega arith)
  outside_cut (suc n) zero k s b c fl fr d = absurd (omega arith)
  outside_cut (suc n) (suc m) k s b c fl fr d =
      R.asks k Replay Outside (all Replay Outside) (outside_step s b (outside n s b)) (outside_step s c (outside m s c))
      (λ a j lt.
      let ds = fewer_bodies j k b c (lower j k lt) d in
      let less : j.left < n = let x = lt.0 in omega arith in
      let fewer : j.right < m = let x = lt.1 in omega arith in
      outside_step_cut j s b c (outside n s b) (outside m s c) ds (outside_cut n m j s b c less fewer ds) a)

  pub above_cut : (s : Source) (k : Bounds) → R.rel k (thread_above s) (thread_above s)
  above_cut s k =
      R.counted k (λ n. outside n s (bodies n Above s)) (λ m. outside m s (bodies m Above s))
      (λ j n m le fl fr. outside_cut n m j s (bodies n Above s) (bodies m Above s) fl fr (all_bodies n m j Above s fl fr))
