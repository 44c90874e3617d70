use Rattle.std.proofs.Common.{◌≡◌, true, [], ◌∷◌, get_or, to_z, of_z, Ok, FitsSigned, w32, sym, ap, ◌∙◌, subst, rules}
use Rattle.std.proofs.lemmas.Int.{to_z-of_z}
use Rattle.c_code.specs.Machine.{first}
use Rattle.system_side.specs.Threads.{has_not_ended}
use Rattle.system_side.specs.System.{SystemState}
use Rattle.recorder_system.specs.Stands.{IsInt, int_of}
use Rattle.recorder_system.specs.Calls.{Notes}
use Rattle.recorder_system.proofs.Mutexes.{lock_number}
use Rattle.recorder_system.proofs.Changes.{locked_runs, locked_sound, notes_locked, notes_odd_lock, only}
use Rattle.recorder_system.proofs.system.RunSystem.lock.Goals as goal

pub invariant_of-self : goal.invariant_of-self
invariant_of-self c =
    let runs = subst (λ (s : SystemState). has_not_ended s.threads c.args.thread ≡ true) (sym c.self.view_is) c.requires.running in
    locked_sound c.self.inside.system c.lock.new.self c.args.thread (to_z w32 (of_z w32 c.int_of.result)) c.in_ok-lock.field-0 runs (λ e. c.in_ok-lock.ensures.taken (ap Ok e)) (λ e. c.in_ok-lock.ensures.blocked (ap Ok e)) c.self.inside.running c.self.invariant

pub returns-in_ok-lock-clause-noted : goal.returns-in_ok-lock-clause-noted
returns-in_ok-lock-clause-noted c =
    let xs = c.args.args.now in
    let k = get_or xs 0 0 in
    let one : xs ≡ k ∷ [] = only xs c.if-args-eq1.true in
    let int : IsInt k = subst (λ ys. IsInt (first ys)) one c.requires.ints in
    let fits : FitsSigned w32 c.int_of.result = search rules in
    let number : to_z w32 (of_z w32 c.int_of.result) ≡ int_of k = to_z-of_z w32 c.int_of.result fits ∙ c.int_of.ensures in
    subst (λ ys. Notes c.args.thread lock_number ys c.args.self.now c.lock.new.self) (sym one)
    (subst (λ (s : SystemState). Notes c.args.thread lock_number (k ∷ []) s c.lock.new.self) c.self.view_is
    (notes_locked c.self.inside.system c.lock.new.self c.args.thread k (to_z w32 (of_z w32 c.int_of.result)) c.in_ok-lock.field-0 int number c.in_ok-lock.ensures.answer (λ e. c.in_ok-lock.ensures.taken (ap Ok e))))

pub returns-in_ok-lock-clause-running : goal.returns-in_ok-lock-clause-running
returns-in_ok-lock-clause-running c =
    let runs = subst (λ (s : SystemState). has_not_ended s.threads c.args.thread ≡ true) (sym c.self.view_is) c.requires.running in
    locked_runs c.self.inside.system c.lock.new.self c.args.thread (to_z w32 (of_z w32 c.int_of.result)) c.in_ok-lock.field-0 runs (λ e. c.in_ok-lock.ensures.taken (ap Ok e)) (λ e. c.in_ok-lock.ensures.blocked (ap Ok e))

pub returns-else-args-eq1-clause-noted : goal.returns-else-args-eq1-clause-noted
returns-else-args-eq1-clause-noted c = notes_odd_lock c.args.self.now c.args.thread c.args.args.now c.if-args-eq1.false
