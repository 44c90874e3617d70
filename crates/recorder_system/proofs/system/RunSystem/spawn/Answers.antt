use Rattle.std.proofs.Common.{◌≡◌, ◌<◌, ◌≤◌, ◌++◌, [], ◌∷◌, true, length, sym, subst, arith}
use Rattle.system_side.specs.declared.threads.Standing.TheVariants.{Ready}
use Rattle.system_side.specs.Threads.{has_not_ended}
use Rattle.system_side.specs.System.{SystemState}
use Rattle.recorder_system.specs.Calls.{Notes}
use Rattle.recorder_system.proofs.Noted.{spawn_number}
use Rattle.recorder_system.proofs.Changes.{few_run, notes_no_spawn, notes_spawn, spawn_runs}
use Rattle.recorder_system.proofs.system.RunSystem.spawn.Goals as goal

pub overflow_add-self : goal.overflow_add-self
overflow_add-self c = let k = few_run c.self.inside.running c.self.inside.system c.self.invariant in omega (arith, k)

pub returns-then-started-lt-THREADS-clause-noted : goal.returns-then-started-lt-THREADS-clause-noted
returns-then-started-lt-THREADS-clause-noted c = λ t args.
    let lt : length c.self.inside.system.threads < 32 = omega (arith, c.started.ensures.count, c.if-started-lt-THREADS.true) in
    subst (Notes t spawn_number args c.args.self.now) (sym (c.spawn.ensures.started lt).1)
    (subst (λ (s : SystemState). Notes t spawn_number args s (record c.self.inside.system { threads = c.self.inside.system.threads ++ Ready ∷ [] })) c.self.view_is (notes_spawn c.self.inside.system t args lt))

pub returns-then-started-lt-THREADS-clause-running : goal.returns-then-started-lt-THREADS-clause-running
returns-then-started-lt-THREADS-clause-running c = λ t is.
    let lt : length c.self.inside.system.threads < 32 = omega (arith, c.started.ensures.count, c.if-started-lt-THREADS.true) in
    subst (λ (s : SystemState). has_not_ended s.threads t ≡ true) (sym (c.spawn.ensures.started lt).1)
    (spawn_runs c.self.inside.system.threads t (subst (λ (s : SystemState). has_not_ended s.threads t ≡ true) (sym c.self.view_is) is))

pub returns-else-started-lt-THREADS-clause-noted : goal.returns-else-started-lt-THREADS-clause-noted
returns-else-started-lt-THREADS-clause-noted c = λ t args.
    let full : 32 ≤ length c.self.inside.system.threads = omega (arith, c.started.ensures.count, c.if-started-lt-THREADS.false) in
    subst (λ (s : SystemState). Notes t spawn_number args s s) c.self.view_is (notes_no_spawn c.self.inside.system t args full)
