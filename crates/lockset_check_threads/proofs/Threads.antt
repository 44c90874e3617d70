-- Threads of a source in which nothing is found keep their locks.
use Rattle.std.proofs.Common.{◌≡◌, ℕ, suc, ◌<◌, ◌≤◌, Bool, true, cond, List, [], ◌++◌, length, Option, Some, None, is_some, refl, sym, ap, ◌∙◌, arith}
use Rattle.marks.specs.declared.side.Side.{Side}
use Rattle.marks.specs.declared.side.Side.TheVariants.{System}
use Rattle.marks.specs.declared.fault.FaultKind.TheVariants.{BadCall}
use Rattle.marks.specs.Marks.{Mark}
use Rattle.c_code.specs.MarkLists.{Split}
use Rattle.c_builtins.specs.Table.{first_source_function}
use Rattle.c_types_model.specs.Types.{CType}
use Rattle.c_types_rules.specs.TypedTree.{Body}
use Rattle.c_semantics.specs.Reading.{Marks}
use Rattle.c_semantics.specs.Context.{Source, body_of}
use Rattle.c_semantics.specs.Calls.{bodies, callee, started, thread_behaviour}
use Rattle.c_semantics.proofs.CallPrefixes.{all_bodies, started_cut}
use Rattle.c_semantics.proofs.ReplayMarks.{bounds}
use Rattle.lockset_check_rules.specs.Guards.{Guarded}
use Rattle.lockset_check_rules.specs.Sources.{body_found, functions_found, globals_found, is_any_guarded, source_found}
use Rattle.lockset_check_threads.specs.Laws.{IsGuarded, LocksAreKept, RunsWell}
use Rattle.lockset_check_threads.proofs.Asked.{AllAllowed, Kept, allowed_alike, ended_kept, fails_kept}
use Rattle.lockset_check_threads.proofs.Bodies.{bodies_clear, bodies_kept, callee_number, own_number}
use Rattle.lockset_check_threads.proofs.Calls.{begun_kept}
use Rattle.lockset_check_threads.proofs.Fuel.{alike, alike_is, all_alike, ends_alike}
use Rattle.lockset_check_threads.proofs.Holding.{Holds}
use Rattle.lockset_check_threads.proofs.Touched.{in_neither}

-- nobody outside a thread's first function keeps a mutex for it
nowhere : ℕ → Side → Type 0
nowhere n side = ⊥

nothing_held : Holds [] nowhere System []
unfolding nowhere
nothing_held = record { held = λ k i. absurd i; apart = λ k other i o. o; ints = λ k i. absurd i; kept = λ n other o. absurd o }

-- in a source with guards, nothing is found in any function
functions_clear : (r : Guarded) (runs : ℕ → Bool) → is_any_guarded r 0 r.globals ≡ true → source_found r runs ≡ [] → functions_found r runs first_source_function r.functions ≡ []
functions_clear r runs any found =
    let all : functions_found r runs first_source_function r.functions ++ globals_found r r.globals ≡ [] =
    sym (ap (λ b. cond b (functions_found r runs first_source_function r.functions ++ globals_found r r.globals) []) any) ∙ found in
    (in_neither (functions_found r runs first_source_function r.functions) (globals_found r r.globals) all).0

-- what is reached in marks that run well is allowed
well_allowed : (r : Guarded) (runs : ℕ → Bool) (p : Marks) (past : List Mark) → RunsWell r runs p past → AllAllowed r runs p past
well_allowed r runs p past well side want x a = record {
  runs_there = λ q e. well.reaches q (record { side = side; want = want; answer = x; answered = a; reaches = e });
  holds_none = λ q e pointer. well.pointers q (record { reaches = record { side = side; want = want; answer = x; answered = a; reaches = e }; pointer = pointer });
}

module _ (r : Guarded) (s : Source) (runs : ℕ → Bool) (g : IsGuarded r s) (clear : (f : ℕ) (b : Body) → body_of s f ≡ Some b → runs f ≡ true → body_found r f b ≡ []) where
  started_kept : (n k : ℕ) → k < n → (t : CType) (address : ℕ) (args : List ℕ) → Kept r runs k [] (started s (bodies n Split s) (callee s t address) args)
  started_kept n k lt t address args = by (callee s t address) refl
    where
      by : (o : Option ℕ) → callee s t address ≡ o → Kept r runs k [] (started s (bodies n Split s) o args)
      by None e = fails_kept r runs k [] System BadCall
      by (Some f) e =
          begun_kept r s runs g nowhere System (is_some (body_of s f)) k [] (bodies n Split s) f args (own_number f (callee_number s t address f e))
          (λ j less. bodies_kept r s runs g clear n j (omega arith)) (λ j le v mine hold. ended_kept r runs j mine v) [] nothing_held

  -- with the count that the whole list gives
  counted : (t : CType) (address : ℕ) (args : List ℕ) (past before : List Mark) → length before ≤ length past → thread_behaviour s t address args before ≡ started s (bodies (suc (length past)) Split s) (callee s t address) args before
  counted t address args past before le =
      let n = suc (length before) in
      let m = suc (length past) in
      let k = bounds (length before) (length before) in
      alike_is k (started s (bodies n Split s) (callee s t address) args) (started s (bodies m Split s) (callee s t address) args)
      (started_cut alike all_alike ends_alike k s (bodies n Split s) (bodies m Split s) (callee s t address) args (all_bodies alike all_alike n m k Split s (omega arith) (omega arith)))
      before (omega arith) (omega arith)

  kept : (t : CType) (address : ℕ) (args : List ℕ) → LocksAreKept r runs (thread_behaviour s t address args)
  kept t address args past side want e well =
      started_kept (suc (length past)) (length past) (omega arith) t address args past (omega arith)
      (allowed_alike r runs (thread_behaviour s t address args) (started s (bodies (suc (length past)) Split s) (callee s t address) args) past (counted t address args past) (well_allowed r runs (thread_behaviour s t address args) past well))
      well.locks side want e

pub threads_keep_their_locks : (r : Guarded) (s : Source) (runs : ℕ → Bool) → IsGuarded r s → source_found r runs ≡ [] → (t : CType) (address : ℕ) (args : List ℕ) → LocksAreKept r runs (thread_behaviour s t address args)
threads_keep_their_locks r s runs g found = kept r s runs g (bodies_clear r s runs g.functions (functions_clear r runs g.guards found))
