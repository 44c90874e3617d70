use Rattle.std.proofs.Common.{◌≡◌, ◌-◌, ◌≤◌, suc, true, pos, map, set, FitsSigned, w32, sym, ap, ◌∙◌, subst, arith, rules}
use Rattle.std.proofs.lemmas.Int.{to_z-of_z}
use Rattle.system_side.specs.declared.threads.Standing.TheVariants.{Ended}
use Rattle.system_side.specs.declared.threads.Wait.TheVariants.{Thread}
use Rattle.system_side.specs.Threads.{has_not_ended, woken}
use Rattle.system_side.specs.System.{SystemState}
use Rattle.recorder_system.specs.Stands.{IsSound, IsSystemBut, IsSystemOf}
use Rattle.recorder_system.proofs.Told.{end_sound, ended_in, notes_end, some_run}
use Rattle.recorder_system.proofs.system.RunSystem.end.Goals as goal

pub overflow_sub-self : goal.overflow_sub-self
overflow_sub-self c = some_run c.self.inside.running c.self.inside.system c.args.thread (subst (λ (s : SystemState). has_not_ended s.threads c.args.thread ≡ true) (sym c.self.view_is) c.requires.running) c.self.invariant

pub invariant_of-self : goal.invariant_of-self
invariant_of-self c =
    let s = c.self.inside.system in
    let t = c.args.thread in
    let runs : has_not_ended s.threads t ≡ true = subst (λ (s : SystemState). has_not_ended s.threads t ≡ true) (sym c.self.view_is) c.requires.running in
    let fits : FitsSigned w32 c.int_of.result = search rules in
    let ended : c.end.new.self ≡ ended_in s t c.args.value = c.end.ensures ∙ ap (λ z. record s { threads = map (woken (Thread (pos t))) (set s.threads t (Ended z)) }) (to_z-of_z w32 c.int_of.result fits ∙ c.int_of.ensures) in
    let some : 1 ≤ c.self.inside.running = some_run c.self.inside.running s t runs c.self.invariant in
    let less : c.self.inside.running ≡ suc (c.self.inside.running - 1) = omega (arith, some) in
    subst (IsSound (c.self.inside.running - 1)) (sym ended) (end_sound (c.self.inside.running - 1) s t c.args.value runs (subst (λ n. IsSound n s) less c.self.invariant))

pub returns : goal.returns
returns c = λ w past is h.
    let s = c.self.inside.system in
    let t = c.args.thread in
    let runs : has_not_ended s.threads t ≡ true = subst (λ (s : SystemState). has_not_ended s.threads t ≡ true) (sym c.self.view_is) c.requires.running in
    let fits : FitsSigned w32 c.int_of.result = search rules in
    let ended : c.end.new.self ≡ ended_in s t c.args.value = c.end.ensures ∙ ap (λ z. record s { threads = map (woken (Thread (pos t))) (set s.threads t (Ended z)) }) (to_z-of_z w32 c.int_of.result fits ∙ c.int_of.ensures) in
    subst (IsSystemOf w past) (sym ended) (notes_end s t c.args.value c.requires.int runs w past is (subst (IsSystemBut t w past) (sym c.self.view_is) h))
