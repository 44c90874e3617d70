-- Functions in which nothing is found, with calls in them however deep.
use Rattle.std.proofs.Common.{◌≡◌, ℕ, zero, suc, ◌+◌, ◌-◌, ◌/◌, ◌<◌, ◌≤◌, ℤ, ◌&&◌, Bool, true, false, cond, eqb, leb, ltb, List, [], ◌∷◌, Option, Some, None, is_some, refl, sym, ap, ◌∙◌, subst, arith}
use Rattle.std.specs.Prelude.{slice_get}
use Rattle.std.proofs.lemmas.Bool.{and_parts, leb-true, ltb-false, ltb-true}
use Rattle.r2_num.specs.declared.kinds.IntKind.TheVariants.{I32}
use Rattle.r2_num.specs.Kinds.{IsValue}
use Rattle.marks.specs.declared.side.Side.{Side}
use Rattle.marks.specs.declared.side.Side.TheVariants.{Replay, System}
use Rattle.marks.specs.declared.fault.FaultKind.TheVariants.{BadCall}
use Rattle.marks.specs.Places.{builtin_count, function_address}
use Rattle.marks.specs.Wants.{Leaves}
use Rattle.c_code.specs.MarkLists.{Split}
use Rattle.c_code.specs.Values.{written}
use Rattle.c_types_model.specs.Types.{CType}
use Rattle.c_builtins.specs.declared.builtin.Builtin.{Builtin}
use Rattle.c_builtins.specs.declared.builtin.Builtin.TheVariants.{Malloc, Free, Spawn, Join, Lock, Unlock, Print}
use Rattle.c_builtins.specs.Table.{first_source_function, number_of}
use Rattle.c_types_rules.specs.TypedTree as typed
use Rattle.c_types_rules.specs.Limits.{frame_size}
use Rattle.c_types_rules.specs.Sources.{Function}
use Rattle.c_semantics.specs.Reading.{Marks, ask}
use Rattle.c_semantics.specs.Context.{Source, body_of, body_or, is_face, is_function_of}
use Rattle.c_semantics.specs.Values.{Here}
use Rattle.c_semantics.specs.Calls.{Bodies, bodies, call, call_by_address, call_by_name, callee, calling, here, is_pool, making, pooling, to_callee}
use Rattle.c_semantics.proofs.CallPrefixes.{bodies_cut, calls_cut}
use Rattle.c_semantics.proofs.ReplayMarks.{bounds}
use Rattle.lockset_check_rules.specs.declared.finding.LockFinding.{LockFinding}
use Rattle.lockset_check_rules.specs.Mutexes.{Locks, locks_of, with_lock, without_lock}
use Rattle.lockset_check_rules.specs.Guards.{Guarded}
use Rattle.lockset_check_rules.specs.After.{statement_after}
use Rattle.lockset_check_rules.specs.Sources.{body_found, functions_found}
use Rattle.lockset_check_rules.specs.Statements.{Within, return_differs_at, statement_found}
use Rattle.lockset_check_threads.specs.Wants.{calls}
use Rattle.lockset_check_threads.specs.Typed.{IsConstantCall, IsPlainCall}
use Rattle.lockset_check_threads.specs.Laws.{IsGuarded}
use Rattle.lockset_check_threads.proofs.Both.{in_statement}
use Rattle.lockset_check_threads.proofs.Asked.{cond_kept, fails_kept, wrong_kept}
use Rattle.lockset_check_threads.proofs.Calls.{After, BodiesKept, IsNeither, calling_kept, lends_held, lends_none, lent, lock_kept, pooling_kept, sooner_after, unlock_kept}
use Rattle.lockset_check_threads.proofs.Fuel.{alike, all_alike}
use Rattle.lockset_check_threads.proofs.Holding.{Lends}
use Rattle.lockset_check_threads.proofs.Sets.{In}
use Rattle.lockset_check_threads.proofs.Places.{CallsKept, Goes, IsOther, Starts, Then, asks_there}
use Rattle.lockset_check_threads.proofs.Statements.{Ends, return_same, statement_kept}
use Rattle.lockset_check_threads.proofs.Touched.{in_neither}

-- a function of the source has none of the numbers of builtins
pub own_number : (f : ℕ) → first_source_function ≤ f → IsNeither f
own_number f le = (λ e. omega (arith, e, le), λ e. omega (arith, e, le))

other_number : (b : Builtin) → IsOther b → IsNeither (number_of b)
other_number Malloc h = (λ e. omega (arith, e), λ e. omega (arith, e))
other_number Free h = (λ e. omega (arith, e), λ e. omega (arith, e))
other_number Spawn h = (λ e. omega (arith, e), λ e. omega (arith, e))
other_number Join h = (λ e. omega (arith, e), λ e. omega (arith, e))
other_number Print h = (λ e. omega (arith, e), λ e. omega (arith, e))
other_number Lock h = absurd h
other_number Unlock h = absurd h

no_body : (s : Source) (b : Builtin) → is_some (body_of s (number_of b)) ≡ true → ⊥
no_body s Malloc e = absurd cc
no_body s Free e = absurd cc
no_body s Spawn e = absurd cc
no_body s Join e = absurd cc
no_body s Lock e = absurd cc
no_body s Unlock e = absurd cc
no_body s Print e = absurd cc

no_pool : (side : Side) (f : ℕ) → 2 ≤ f → is_pool side f ≡ true → ⊥
no_pool Replay f le e = let lt : f < 2 = ltb-true f 2 e in omega arith
no_pool System f le e = absurd cc

-- the function at an address is one of the source
tested_callee : (b : Bool) (f g : ℕ) (t : Bool) → (b ≡ true → first_source_function ≤ f) → cond b (Some f) None ≡ Some g → first_source_function ≤ g
tested_callee true f g t h e = let same : f ≡ g = cc in subst (λ x. first_source_function ≤ x) same (h refl)
tested_callee false f g t h e = absurd cc

pub callee_number : (s : Source) (t : CType) (a g : ℕ) → callee s t a ≡ Some g → first_source_function ≤ g
callee_number s t a g e =
    let f = (a - function_address 0) / 16 in
    tested_callee (eqb a (function_address f) && (leb builtin_count f && is_function_of s t f)) f g true
    (λ q. leb-true builtin_count f (and_parts (leb builtin_count f) (is_function_of s t f) (and_parts (eqb a (function_address f)) (leb builtin_count f && is_function_of s t f) q).1).0) e

-- ---- nothing is found in a function of the source that may run

abbrev maybe_found_in : Guarded → ℕ → Option typed.Body → List LockFinding
maybe_found_in r number (Some b) = body_found r number b
maybe_found_in r number None = []

body_clear : (r : Guarded) (runs : ℕ → Bool) (fs : List Function) (number place h : ℕ) (x : Function) (b : typed.Body) → functions_found r runs number fs ≡ [] → slice_get fs place ≡ Some x → x.body ≡ Some b → h ≡ number + place → runs h ≡ true → body_found r h b ≡ []
body_clear r runs [] number place h x b f e eb is run = absurd cc
body_clear r runs (y ∷ fs) number zero h x b f e eb is run =
    let here : number ≡ h = omega (arith, is) in
    let same : y ≡ x = cc in
    let gs = in_neither (cond (runs number) (maybe_found_in r number y.body) []) (functions_found r runs (suc number) fs) f in
    let runs_here : runs number ≡ true = ap runs here ∙ run in
    let has : y.body ≡ Some b = ap (λ (z : Function). z.body) same ∙ eb in
    let nothing : maybe_found_in r number y.body ≡ [] = sym (ap (λ c. cond c (maybe_found_in r number y.body) []) runs_here) ∙ gs.0 in
    let found : body_found r number b ≡ [] = sym (ap (λ o. maybe_found_in r number o) has) ∙ nothing in
    subst (λ z. body_found r z b ≡ []) here found
body_clear r runs (y ∷ fs) number (suc place) h x b f e eb is run =
    let gs = in_neither (cond (runs number) (maybe_found_in r number y.body) []) (functions_found r runs (suc number) fs) f in
    body_clear r runs fs (suc number) place h x b gs.1 e eb (omega (arith, is)) run

pub bodies_clear : (r : Guarded) (s : Source) (runs : ℕ → Bool) → r.functions ≡ s.program.functions → functions_found r runs first_source_function r.functions ≡ [] → (f : ℕ) (b : typed.Body) → body_of s f ≡ Some b → runs f ≡ true → body_found r f b ≡ []
bodies_clear r s runs same found f b e run = by (ltb f builtin_count) refl (slice_get s.program.functions (f - builtin_count)) refl e
  where
    by : (low : Bool) → ltb f builtin_count ≡ low → (o : Option Function) → slice_get s.program.functions (f - builtin_count) ≡ o → body_or (cond low None o) ≡ Some b → body_found r f b ≡ []
    by true l o eo eb = absurd cc
    by false l None eo eb = absurd cc
    by false l (Some x) eo eb =
        let le : 16 ≤ f = ltb-false f 16 l in
        let at : f ≡ first_source_function + (f - builtin_count) = omega arith in
        body_clear r runs r.functions first_source_function (f - builtin_count) f x b found (ap (λ fs. slice_get fs (f - builtin_count)) same ∙ eo) eb at run

-- ---- calls in functions

module _ (r : Guarded) (s : Source) (runs : ℕ → Bool) (g : IsGuarded r s) (clear : (f : ℕ) (b : typed.Body) → body_of s f ≡ Some b → runs f ≡ true → body_found r f b ≡ []) where
  module _ (n k : ℕ) (le : k ≤ n) (d : After r s runs g k (bodies n Split s)) (side : Side) (func base : ℕ) (outside : ℕ → Side → Type 0) where
    abbrev b : Bodies
    b = bodies n Split s

    abbrev h : Here
    h = here Split s b side func base

    abbrev S : ℕ → Locks → Marks → Type 0
    S = Starts r runs outside side

    abbrev G : ℕ → Locks → (ℕ → Marks) → Type 0
    G = Goes r runs outside side

    by_name : (j : ℕ) → j ≤ k → (f : ℕ) (w : Locks) (args : List ℕ) (go : ℕ → Marks) → IsNeither f → (is_some (body_of s f) ≡ true → Lends w (lent r s runs g f) side side) → G j w go → S j w (call_by_name Split s b side f args go)
    by_name j lj f w args go neither l c mine hold =
        cond_kept r runs j mine (is_pool side f) (pooling f args go) (call Split s b side false f args go)
        (λ e. pooling_kept r s runs g outside side f j w args go c mine hold)
        (λ e. calling_kept r s runs g outside side (is_face s f) (is_some (body_of s f)) j w b false f args go refl neither (sooner_after r s runs g j k b lj d) (λ has x. l has) c mine hold)

    by_address : (j : ℕ) → j ≤ k → (t : CType) (a : ℕ) (w : Locks) (args : List ℕ) (go : ℕ → Marks) → G j w go → S j w (call_by_address Split s b side t a args go)
    by_address j lj t a w args go c = by (callee s t a) refl
      where
        by : (o : Option ℕ) → callee s t a ≡ o → S j w (to_callee Split s b side o args go)
        by None e mine hold = fails_kept r runs j mine side BadCall
        by (Some f) e mine hold =
            calling_kept r s runs g outside side (is_face s f) (is_some (body_of s f)) j w b true f args go refl (own_number f (callee_number s t a f e)) (sooner_after r s runs g j k b lj d)
            (λ has x. lends_none r s runs g w f side side (x refl)) c mine hold

    by_lock : (j : ℕ) → j ≤ k → (z : ℤ) → IsValue I32 z → (w : Locks) (go : ℕ → Marks) → G j (with_lock z w) go → S j w (call_by_name Split s b side calls.lock (written z ∷ []) go)
    by_lock j lj z int w go c mine hold =
        cond_kept r runs j mine (is_pool side calls.lock) (pooling calls.lock (written z ∷ []) go) (call Split s b side false calls.lock (written z ∷ []) go)
        (λ e. absurd (no_pool side calls.lock (omega arith) e))
        (λ e. subst (λ q. S j w (calling Split s b side q false false calls.lock (written z ∷ []) go)) (sym g.lock) (lock_kept r s runs g outside side j w b z go int c) mine hold)

    by_unlock : (j : ℕ) → j ≤ k → (z : ℤ) (w : Locks) → In z w → (go : ℕ → Marks) → G j (without_lock z w) go → S j w (call_by_name Split s b side calls.unlock (written z ∷ []) go)
    by_unlock j lj z w i go c mine hold =
        cond_kept r runs j mine (is_pool side calls.unlock) (pooling calls.unlock (written z ∷ []) go) (call Split s b side false calls.unlock (written z ∷ []) go)
        (λ e. absurd (no_pool side calls.unlock (omega arith) e))
        (λ e. subst (λ q. S j w (calling Split s b side q false false calls.unlock (written z ∷ []) go)) (sym g.unlock) (unlock_kept r s runs g outside side j w b z go i c) mine hold)

    here_kept : CallsKept r runs h outside k
    here_kept = record {
      same = calls_cut alike all_alike Split (bounds k k) s b b side func base (λ j lt. bodies_cut alike all_alike n n j Split s (let x = lt.0 in omega arith) (let x = lt.1 in omega arith));
      named = λ j lj f own w held args go c. by_name j lj f w args go (own_number f own) (λ has. lends_held r s runs g w f side held) c;
      pointed = by_address;
      others = λ j lj x other w args go c. by_name j lj (number_of x) w args go (other_number x other) (λ has. absurd (no_body s x has)) c;
      locked = by_lock;
      unlocked = by_unlock;
    }

  -- ---- functions

  at_end : (h : Here) (outside : ℕ → Side → Type 0) (k : ℕ) (w : Within) (from : ℕ) (o : Option Locks) (p : Marks) → return_differs_at w from o ≡ [] → Then r runs outside h.side k w.start p → Ends r runs h outside k o p
  at_end h outside k w from (Some t) p e c = subst (λ u. Then r runs outside h.side k u p) (sym (return_same w from t e)) c
  at_end h outside k w from None p e c = tt

  body_kept : (n k : ℕ) (side : Side) (f base : ℕ) (go : ℕ → Marks) (outside : ℕ → Side → Type 0) → runs f ≡ true → Goes r runs outside side k (lent r s runs g f) go → CallsKept r runs (here Split s (bodies n Split s) side f base) outside k → (o : Option typed.Body) → body_of s f ≡ o → Starts r runs outside side k (lent r s runs g f) (making s o (here Split s (bodies n Split s) side f base) go)
  body_kept n k side f base go outside run c cs None e mine hold = wrong_kept r runs k mine
  body_kept n k side f base go outside run c cs (Some body) e mine hold =
      let h = here Split s (bodies n Split s) side f base in
      let start = locks_of (r.holds f) in
      let w : Within = record { start = start; loop = None } in
      let fs = in_neither (statement_found r w body.statements start) (return_differs_at w body.from (statement_after body.statements start)) (clear f body e run) in
      let leave : ℕ → Marks = λ v. ask side (Leaves base (frame_size s.program body.locals)) (λ x. go v) in
      let left : Goes r runs outside side k start leave =
      λ j le v. asks_there r runs outside side side j start (Leaves base (frame_size s.program body.locals)) (λ x. refl) (λ past held. record { touches = tt; unlocks = tt }) (λ x. go v) (λ i lt x. c i (omega arith) v) in
      statement_kept r runs h outside body.statements false w k start (record { next = leave 0; stop = leave 0; again = leave 0; give = leave }) cs (in_statement IsPlainCall IsConstantCall body.statements false (g.plain f body e) (g.constants f body e)) (λ never. absurd cc) fs.0
      (record { ends = at_end h outside k w body.from (statement_after body.statements start) (leave 0) fs.1 (λ j le. left j le 0); stops = tt; goes_on = tt; gives = left }) mine hold

  pub bodies_kept : (n k : ℕ) → k < n → BodiesKept r s runs g k (bodies n Split s)
  bodies_kept zero k lt side f base go outside run c = absurd (omega arith)
  bodies_kept (suc n) k lt side f base go outside run c = body_kept n k side f base go outside run c (here_kept n k (omega arith) (λ j less. bodies_kept n j (omega arith)) side f base outside) (body_of s f) refl
