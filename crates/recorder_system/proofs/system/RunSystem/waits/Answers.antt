use Rattle.std.proofs.Common.{◌≡◌, ◌<◌, true, set, is_some, FitsSigned, w32, sym, ap, ◌∙◌, subst, rules}
use Rattle.std.proofs.lemmas.Int.{to_z-of_z}
use Rattle.c_code.specs.Machine.{first}
use Rattle.system_side.specs.declared.threads.Standing.TheVariants.{Waits}
use Rattle.system_side.specs.Threads.{is_ready}
use Rattle.system_side.specs.System.{SystemState}
use Rattle.whole_runs.specs.Outcomes.{builtin_of}
use Rattle.recorder_system.specs.Stands.{IsSound, IsSystemOf, int_of, ready_in}
use Rattle.recorder_system.specs.Shown.{wait_for}
use Rattle.recorder_system.proofs.Standing.{ready_runs}
use Rattle.recorder_system.proofs.Waiting.{fewer, keeps, still_sound, tells}
use Rattle.recorder_system.proofs.system.RunSystem.waits.Goals as goal

pub invariant_of-self : goal.invariant_of-self
invariant_of-self c =
    let s = c.self.inside.system in
    let t = c.args.thread in
    let ready : is_ready s.threads t ≡ true = subst (λ (s : SystemState). is_ready s.threads t ≡ true) (sym c.self.view_is) c.requires.ready in
    subst (IsSound c.self.inside.running) (sym c.block.ensures) (still_sound c.self.inside.running s t c.in-Some.wait (ready_runs s.threads t ready) c.self.invariant)

pub returns-in-Some-clause-answer : goal.returns-in-Some-clause-answer
returns-in-Some-clause-answer c = λ w past h asked.
    let s = c.self.inside.system in
    let t = c.args.thread in
    let ready : is_ready s.threads t ≡ true = subst (λ (s : SystemState). is_ready s.threads t ≡ true) (sym c.self.view_is) c.requires.ready in
    let fits : FitsSigned w32 c.int_of.result = search rules in
    let n = c.args.self.now in
    let waits : c.wait_of.result ≡ wait_for s t (int_of (first c.args.args.now)) (builtin_of c.args.func) =
    c.wait_of.ensures ∙ (ap (λ z. wait_for n t z c.builtin_of.result) (to_z-of_z w32 c.int_of.result fits ∙ (c.int_of.ensures ∙ ap int_of c.first.ensures))
    ∙ (ap (wait_for n t (int_of (first c.args.args.now))) c.builtin_of.ensures ∙ ap (λ (x : SystemState). wait_for x t (int_of (first c.args.args.now)) (builtin_of c.args.func)) (sym c.self.view_is))) in
    ap is_some (sym c.in-Some.is) ∙ (ap is_some waits ∙ tells s t c.args.func c.args.args.now c.self.invariant.few ready c.requires.ints w past (subst (IsSystemOf w past) (sym c.self.view_is) h) asked)

pub returns-in-Some-clause-keeps : goal.returns-in-Some-clause-keeps
returns-in-Some-clause-keeps c = λ w past h asked.
    let s = c.self.inside.system in
    let t = c.args.thread in
    let ready : is_ready s.threads t ≡ true = subst (λ (s : SystemState). is_ready s.threads t ≡ true) (sym c.self.view_is) c.requires.ready in
    let fits : FitsSigned w32 c.int_of.result = search rules in
    let n = c.args.self.now in
    let waits : c.wait_of.result ≡ wait_for s t (int_of (first c.args.args.now)) (builtin_of c.args.func) =
    c.wait_of.ensures ∙ (ap (λ z. wait_for n t z c.builtin_of.result) (to_z-of_z w32 c.int_of.result fits ∙ (c.int_of.ensures ∙ ap int_of c.first.ensures))
    ∙ (ap (wait_for n t (int_of (first c.args.args.now))) c.builtin_of.ensures ∙ ap (λ (x : SystemState). wait_for x t (int_of (first c.args.args.now)) (builtin_of c.args.func)) (sym c.self.view_is))) in
    subst (IsSystemOf w past) (sym c.block.ensures) (keeps s t c.args.func c.args.args.now c.in-Some.wait c.self.invariant.few ready c.requires.ints (sym waits ∙ c.in-Some.is) w past (subst (IsSystemOf w past) (sym c.self.view_is) h) asked)

pub returns-in-Some-clause-fewer : goal.returns-in-Some-clause-fewer
returns-in-Some-clause-fewer c = λ e.
    let s = c.self.inside.system in
    let t = c.args.thread in
    let ready : is_ready s.threads t ≡ true = subst (λ (s : SystemState). is_ready s.threads t ≡ true) (sym c.self.view_is) c.requires.ready in
    subst (λ (x : SystemState). ready_in x.threads < ready_in c.args.self.now.threads) (sym c.block.ensures)
    (subst (λ (x : SystemState). ready_in (set s.threads t (Waits c.in-Some.wait)) < ready_in x.threads) c.self.view_is (fewer s.threads t c.in-Some.wait ready))

pub returns-in-None-clause-answer : goal.returns-in-None-clause-answer
returns-in-None-clause-answer c = λ w past h asked.
    let s = c.self.inside.system in
    let t = c.args.thread in
    let ready : is_ready s.threads t ≡ true = subst (λ (s : SystemState). is_ready s.threads t ≡ true) (sym c.self.view_is) c.requires.ready in
    let fits : FitsSigned w32 c.int_of.result = search rules in
    let n = c.args.self.now in
    let waits : c.wait_of.result ≡ wait_for s t (int_of (first c.args.args.now)) (builtin_of c.args.func) =
    c.wait_of.ensures ∙ (ap (λ z. wait_for n t z c.builtin_of.result) (to_z-of_z w32 c.int_of.result fits ∙ (c.int_of.ensures ∙ ap int_of c.first.ensures))
    ∙ (ap (wait_for n t (int_of (first c.args.args.now))) c.builtin_of.ensures ∙ ap (λ (x : SystemState). wait_for x t (int_of (first c.args.args.now)) (builtin_of c.args.func)) (sym c.self.view_is))) in
    ap is_some (sym c.in-None.is) ∙ (ap is_some waits ∙ tells s t c.args.func c.args.args.now c.self.invariant.few ready c.requires.ints w past (subst (IsSystemOf w past) (sym c.self.view_is) h) asked)
