-- The stubs name no key of a call back: a Call has one only of a function that it registers.
use Rattle.std.proofs.Common.{◌≡◌, ℕ, zero, suc, ◌+◌, ◌-◌, Bool, true, false, cond, ◌||◌, ltb, List, [], ◌∷◌, ◌++◌, Option, Some, None, refl, sym, ap, ◌∙◌, subst}
use Rattle.std.specs.Prelude.{slice_get}
use Rattle.std.proofs.lemmas.Bool.{true≢false, ltb-false}
use Rattle.run_events.specs.declared.key.Class.{Class}
use Rattle.run_events.specs.declared.key.Class.TheVariants.{Mutex, User, Callback, Thread, Pool, Out, Async}
use Rattle.marks.specs.Places.{builtin_count}
use Rattle.c_builtins.specs.declared.builtin.Builtin.{Builtin}
use Rattle.c_builtins.specs.declared.builtin.Builtin.TheVariants as builtins
use Rattle.c_builtins.specs.Table.{number_of}
use Rattle.c_code.specs.declared.code.FuncInfo.{FuncInfo}
use Rattle.c_code.specs.Builtins.{Prototype, prototypes, AreBuiltins}
use Rattle.c_code.specs.Machine.{Flat, func_of, is_face}
use Rattle.c_code.specs.MarkLists.{takes_values}
use Rattle.c_code.specs.Typed.{AreArguments}
use Rattle.logical_clock.specs.Events.{is_among}
use Rattle.replay_runs.specs.Runs.{same_key}
use Rattle.replay_runs.specs.Keys.{key}
use Rattle.stub_core.specs.declared.terms.Size.{Size}
use Rattle.stub_operations.specs.declared.operation.StubOp.{StubOp}
use Rattle.stub_operations.specs.declared.operation.StubOp.TheVariants.{ReadIn, HoldOut, Prepare, Register, Commit, KeyAtCall, KeyAtRet, CacheRet, Pass}
use Rattle.stub_operations.specs.declared.purpose.Purpose.TheVariants.{Record}
use Rattle.stub_operations.specs.Builtins.{builtin_operations}
use Rattle.stub_operations.specs.Operations.{CallSays, ParameterSays, by_place, committing, holding, is_among as is_said, is_key, is_prepared, keys_at_call, keys_at_return, only_if, operations, passed, preparing, reading}
use Rattle.stub_operations.specs.Stubs.{added_at, or_none}
use Rattle.stub_meaning.specs.Calls.{Called, done, key_value}
use Rattle.stub_meaning.specs.Meaning.{called as said_at}
use Rattle.whole_runs.specs.World.{World, interface}
use Rattle.whole_runs.specs.Fits.{IsFit}

-- ---- operations

abbrev IsOtherClass : Class → Type 0
IsOtherClass Mutex = Unit {0}
IsOtherClass User = Unit {0}
IsOtherClass Callback = ⊥
IsOtherClass Thread = Unit {0}
IsOtherClass Pool = Unit {0}
IsOtherClass Out = Unit {0}
IsOtherClass Async = Unit {0}

-- the operation gives a Call no key of a call back
abbrev IsOther : StubOp → Type 0
IsOther (ReadIn p size) = Unit {0}
IsOther (HoldOut p cap used) = Unit {0}
IsOther (Prepare p k cap) = Unit {0}
IsOther (Register p) = Unit {0}
IsOther (Commit k used) = Unit {0}
IsOther (KeyAtCall class p) = IsOtherClass class
IsOther (KeyAtRet class p) = Unit {0}
IsOther CacheRet = Unit {0}
IsOther Pass = Unit {0}

abbrev AreOther : List StubOp → Type 0
AreOther [] = Unit {0}
AreOther (op ∷ ops) = IsOther op × AreOther ops

both : (xs ys : List StubOp) → AreOther xs → AreOther ys → AreOther (xs ++ ys)
both [] ys h k = k
both (x ∷ xs) ys h k = (h.0, both xs ys h.1 k)

each_place : (of : ℕ → ParameterSays → List StubOp) → ((p : ℕ) (x : ParameterSays) → AreOther (of p x)) → (p : ℕ) (xs : List ParameterSays) → AreOther (by_place of p xs)
each_place of h p [] = tt
each_place of h p (x ∷ xs) = both (of p x) (by_place of (p + 1) xs) (h p x) (each_place of h (p + 1) xs)

only : (b : Bool) (op : StubOp) → IsOther op → AreOther (only_if b op)
only true op h = (h, tt)
only false op h = tt

read : (p : ℕ) (o : Option Size) → AreOther (reading p o)
read p (Some size) = (tt, tt)
read p None = tt

held : (p : ℕ) (o : Option (Size × Size)) → AreOther (holding p o)
held p (Some (cap, used)) = (tt, tt)
held p None = tt

prepared : (p : ℕ) (o : Option (ℕ × Size)) → AreOther (preparing p o)
prepared p (Some (k, cap)) = (tt, tt)
prepared p None = tt

committed : (o : Option (ℕ × Size)) → AreOther (committing o)
committed (Some (k, used)) = (tt, tt)
committed None = tt

called : (n : CallSays) (p : ℕ) → AreOther (keys_at_call n p)
called n p = both (only_if (is_said p n.sync) (KeyAtCall User (Some p))) (only_if (is_prepared p n.params) (KeyAtCall Async (Some p)))
    (only (is_said p n.sync) (KeyAtCall User (Some p)) tt) (only (is_prepared p n.params) (KeyAtCall Async (Some p)) tt)

returned : (n : CallSays) (p : ℕ) → AreOther (keys_at_return n p)
returned n p = both (only_if (is_said p n.sync) (KeyAtRet User (Some p))) (only_if (is_key p n.commit) (KeyAtRet Async (Some p)))
    (only (is_said p n.sync) (KeyAtRet User (Some p)) tt) (only (is_key p n.commit) (KeyAtRet Async (Some p)) tt)

-- of annotations
annotated : (n : CallSays) → AreOther (operations n ++ passed Record)
annotated n =
    let a = by_place (λ p x. reading p x.reads) 0 n.params in
    let b = by_place (λ p x. holding p x.writes) 0 n.params in
    let c = by_place (λ p x. preparing p x.prepares) 0 n.params in
    let d = by_place (λ p x. only_if x.callback (Register p)) 0 n.params in
    let e = committing n.commit in
    let f = by_place (λ p x. keys_at_call n p) 0 n.params in
    let g = by_place (λ p x. keys_at_return n p) 0 n.params in
    let h = only_if n.cache CacheRet in
    both (operations n) (passed Record)
    (both (a ++ b ++ c ++ d ++ e ++ f ++ g) h
    (both (a ++ b ++ c ++ d ++ e ++ f) g
    (both (a ++ b ++ c ++ d ++ e) f
    (both (a ++ b ++ c ++ d) e
    (both (a ++ b ++ c) d
    (both (a ++ b) c
    (both a b
    (each_place (λ p x. reading p x.reads) (λ p x. read p x.reads) 0 n.params)
    (each_place (λ p x. holding p x.writes) (λ p x. held p x.writes) 0 n.params))
    (each_place (λ p x. preparing p x.prepares) (λ p x. prepared p x.prepares) 0 n.params))
    (each_place (λ p x. only_if x.callback (Register p)) (λ p x. only x.callback (Register p) tt) 0 n.params))
    (committed n.commit))
    (each_place (λ p x. keys_at_call n p) (λ p x. called n p) 0 n.params))
    (each_place (λ p x. keys_at_return n p) (λ p x. returned n p) 0 n.params))
    (only n.cache CacheRet tt))
    (tt, tt)

of_builtin : (b : Builtin) → AreOther (builtin_operations b ++ passed Record)
of_builtin builtins.Malloc = (tt, tt)
of_builtin builtins.Free = (tt, tt)
of_builtin builtins.Spawn = (tt, (tt, tt))
of_builtin builtins.Join = (tt, (tt, tt))
of_builtin builtins.Lock = (tt, (tt, tt))
of_builtin builtins.Unlock = (tt, (tt, tt))
of_builtin builtins.Print = (tt, (tt, (tt, tt)))

-- ---- their keys

apart : (c : Class) (v f : ℕ) → IsOtherClass c → same_key (key c v) (key Callback f) ≡ false
apart Mutex v f h = refl
apart User v f h = refl
apart Callback v f h = absurd h
apart Thread v f h = refl
apart Pool v f h = refl
apart Out v f h = refl
apart Async v f h = refl

no_key : (code : Flat) (c : Called) (f : ℕ) (ops : List StubOp) → AreOther ops → is_among (done code c ops).keys_at_call (key Callback f) ≡ false
no_key code c f [] h = refl
no_key code c f (ReadIn p size ∷ ops) h = no_key code c f ops h.1
no_key code c f (HoldOut p cap used ∷ ops) h = no_key code c f ops h.1
no_key code c f (Prepare p k cap ∷ ops) h = no_key code c f ops h.1
no_key code c f (Register p ∷ ops) h = no_key code c f ops h.1
no_key code c f (Commit k used ∷ ops) h = no_key code c f ops h.1
no_key code c f (KeyAtCall class p ∷ ops) h = ap (λ b. b || is_among (done code c ops).keys_at_call (key Callback f)) (apart class (key_value c p) f h.0) ∙ no_key code c f ops h.1
no_key code c f (KeyAtRet class p ∷ ops) h = no_key code c f ops h.1
no_key code c f (CacheRet ∷ ops) h = no_key code c f ops h.1
no_key code c f (Pass ∷ ops) h = no_key code c f ops h.1

-- ---- of a function

no_more : (fs : List FuncInfo) (ps : List Prototype) → AreBuiltins fs ps → (f : ℕ) → slice_get ps f ≡ None → slice_get fs f ≡ None
no_more [] [] h zero e = refl
no_more [] [] h (suc f) e = refl
no_more [] (p ∷ ps) h f e = absurd h
no_more (g ∷ fs) [] h f e = absurd h
no_more (g ∷ fs) (p ∷ ps) h zero e = absurd cc
no_more (g ∷ fs) (p ∷ ps) h (suc f) e = no_more fs ps h.1 f e

none_some : (info : FuncInfo) (o : Option FuncInfo) → o ≡ None → o ≡ Some info → ⊥
none_some info None a b = absurd cc
none_some info (Some x) a b = absurd cc

module _ (w : World) (fit : IsFit w) where
  abbrev OtherAt : ℕ → Type 0
  OtherAt f = AreOther (or_none (added_at w.stubs f))

  builtin_other : (b : Builtin) → is_face w.laid (number_of b) ≡ true → OtherAt (number_of b)
  builtin_other b e = subst (λ o. AreOther (or_none o)) (sym (fit.stubs.builtins b (sym (fit.placed.modes.builtins b) ∙ e))) (of_builtin b)

  numbered : (f : ℕ) (info : FuncInfo) → is_face w.laid f ≡ true → slice_get w.laid.code.builtins f ≡ Some info → OtherAt f
  numbered zero info e known = builtin_other builtins.Malloc e
  numbered (suc zero) info e known = builtin_other builtins.Free e
  numbered (suc (suc zero)) info e known = builtin_other builtins.Spawn e
  numbered (suc (suc (suc zero))) info e known = builtin_other builtins.Join e
  numbered (suc (suc (suc (suc zero)))) info e known = builtin_other builtins.Lock e
  numbered (suc (suc (suc (suc (suc zero))))) info e known = builtin_other builtins.Unlock e
  numbered (suc (suc (suc (suc (suc (suc zero)))))) info e known = builtin_other builtins.Print e
  numbered (suc (suc (suc (suc (suc (suc (suc f))))))) info e known =
      absurd (none_some info (slice_get w.laid.code.builtins (suc (suc (suc (suc (suc (suc (suc f)))))))) (no_more w.laid.code.builtins prototypes fit.code.valid.builtins (suc (suc (suc (suc (suc (suc (suc f))))))) refl) known)

  of_known : (f : ℕ) (info : FuncInfo) → is_face w.laid f ≡ true → func_of w.laid.code f ≡ Some info → OtherAt f
  of_known f info e known = by (ltb f builtin_count) refl
    where
      by : (b : Bool) → ltb f builtin_count ≡ b → OtherAt f
      by true lt = numbered f info e (sym (ap (λ b. cond b (slice_get w.laid.code.builtins f) (slice_get w.laid.code.sources (f - builtin_count))) lt) ∙ known)
      by false ge = let h = fit.stubs.sources f info (ltb-false f builtin_count ge) known e in subst (λ o. AreOther (or_none o)) (sym h.2) (annotated h.0)

  of_arguments : (f : ℕ) (args : List ℕ) → AreArguments w.laid f args → OtherAt f
  of_arguments f args takes = by (is_face w.laid f) refl
    where
      there : (o : Option FuncInfo) → func_of w.laid.code f ≡ o → takes_values o args ≡ true → is_face w.laid f ≡ true → OtherAt f
      there (Some info) known h e = of_known f info e known
      there None known h e = absurd (true≢false (sym h))

      by : (b : Bool) → is_face w.laid f ≡ b → OtherAt f
      by true e = there (func_of w.laid.code f) refl takes e
      by false e = subst (λ o. AreOther (or_none o)) (sym (fit.stubs.others f e)) tt

  -- what is said of a Call of the function with its arguments names no such key
  pub no_callback : (g : ℕ) (args : List ℕ) (f : ℕ) → AreArguments w.laid g args → is_among ((interface w).keys_at_call g args) (key Callback f) ≡ false
  no_callback g args f takes = no_key w.laid.code (said_at (func_of w.laid.code g) args 0) f (or_none (added_at w.stubs g)) (of_arguments g args takes)
