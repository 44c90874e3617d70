use Rattle.std.proofs.Common.{◌≡◌, true, [], ◌∷◌, get_or, to_z, of_z, FitsSigned, w32, sym, ◌∙◌, subst, rules}
use Rattle.std.proofs.lemmas.Int.{to_z-of_z}
use Rattle.c_code.specs.Machine.{first}
use Rattle.system_side.specs.Threads.{has_not_ended}
use Rattle.system_side.specs.System.{SystemState}
use Rattle.recorder_system.specs.Stands.{IsInt, int_of}
use Rattle.recorder_system.specs.Calls.{Notes}
use Rattle.recorder_system.proofs.Mutexes.{unlock_number}
use Rattle.recorder_system.proofs.Changes.{notes_odd_unlock, notes_unlocked, only, unlocked_runs, unlocked_sound}
use Rattle.recorder_system.proofs.system.RunSystem.unlock.Goals as goal

pub invariant_of-self : goal.invariant_of-self
invariant_of-self c = unlocked_sound c.self.inside.system c.unlock.new.self c.args.thread (to_z w32 (of_z w32 c.int_of.result)) c.unlock.ensures.freed c.unlock.ensures.unchanged c.self.inside.running c.self.invariant

pub returns-then-args-eq1-clause-noted : goal.returns-then-args-eq1-clause-noted
returns-then-args-eq1-clause-noted c =
    let xs = c.args.args.now in
    let k = get_or xs 0 0 in
    let one : xs ≡ k ∷ [] = only xs c.if-args-eq1.true in
    let int : IsInt k = subst (λ ys. IsInt (first ys)) one c.requires.ints in
    let fits : FitsSigned w32 c.int_of.result = search rules in
    let number : to_z w32 (of_z w32 c.int_of.result) ≡ int_of k = to_z-of_z w32 c.int_of.result fits ∙ c.int_of.ensures in
    subst (λ ys. Notes c.args.thread unlock_number ys c.args.self.now c.unlock.new.self) (sym one)
    (subst (λ (s : SystemState). Notes c.args.thread unlock_number (k ∷ []) s c.unlock.new.self) c.self.view_is
    (notes_unlocked c.self.inside.system c.unlock.new.self c.args.thread k (to_z w32 (of_z w32 c.int_of.result)) int number c.unlock.ensures.freed c.unlock.ensures.free c.unlock.ensures.unchanged))

pub returns-then-args-eq1-clause-running : goal.returns-then-args-eq1-clause-running
returns-then-args-eq1-clause-running c =
    let runs = subst (λ (s : SystemState). has_not_ended s.threads c.args.thread ≡ true) (sym c.self.view_is) c.requires.running in
    unlocked_runs c.self.inside.system c.unlock.new.self c.args.thread (to_z w32 (of_z w32 c.int_of.result)) c.unlock.ensures.freed c.unlock.ensures.unchanged runs

pub returns-else-args-eq1-clause-noted : goal.returns-else-args-eq1-clause-noted
returns-else-args-eq1-clause-noted c = notes_odd_unlock c.args.self.now c.args.thread c.args.args.now c.if-args-eq1.false
