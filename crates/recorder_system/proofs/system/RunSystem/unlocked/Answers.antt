use Rattle.std.proofs.Common.{◌≡◌, cond, FitsSigned, w32, sym, ap, ◌∙◌, rules}
use Rattle.std.proofs.lemmas.Int.{to_z-of_z}
use Rattle.system_side.specs.System.{SystemState, holds}
use Rattle.whole_runs.specs.Outcomes.{minus_one}
use Rattle.recorder_system.specs.Stands.{int_of}
use Rattle.recorder_system.proofs.system.RunSystem.unlocked.Goals as goal

pub returns-then-holds : goal.returns-then-holds
returns-then-holds c =
    let fits : FitsSigned w32 c.int_of.result = search rules in
    let held : c.holds.result ≡ holds c.args.self.now.held c.args.thread (int_of c.args.arg) =
    c.holds.ensures ∙ (ap (holds c.self.inside.system.held c.args.thread) (to_z-of_z w32 c.int_of.result fits ∙ c.int_of.ensures)
    ∙ ap (λ (s : SystemState). holds s.held c.args.thread (int_of c.args.arg)) c.self.view_is) in
    ap (λ b. cond b 0 minus_one) (sym c.if-holds.true ∙ held)

pub returns-else-holds : goal.returns-else-holds
returns-else-holds c =
    let fits : FitsSigned w32 c.int_of.result = search rules in
    let held : c.holds.result ≡ holds c.args.self.now.held c.args.thread (int_of c.args.arg) =
    c.holds.ensures ∙ (ap (holds c.self.inside.system.held c.args.thread) (to_z-of_z w32 c.int_of.result fits ∙ c.int_of.ensures)
    ∙ ap (λ (s : SystemState). holds s.held c.args.thread (int_of c.args.arg)) c.self.view_is) in
    ap (λ b. cond b 0 minus_one) (sym c.if-holds.false ∙ held)
