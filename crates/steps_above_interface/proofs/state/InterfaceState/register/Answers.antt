use Rattle.std.proofs.Common.{◌∷◌, refl, sym, subst, arith}
use Rattle.std.proofs.lemmas.List.{take_at}
use Rattle.logical_clock.specs.Events.{is_among}
use Rattle.steps_above_interface.specs.State.{AreRegistered, KeptState}
use Rattle.steps_above_interface.specs.Stands.{IsStateOf}
use Rattle.steps_above_interface.proofs.Standing.{called}
use Rattle.steps_above_interface.proofs.state.InterfaceState.register.Goals as goal

pub returns-clause-counts : goal.returns-clause-counts
returns-clause-counts c = λ i memory past m call h.
    let old : KeptState = record { registered = c.self.inside.registered.items; returned = c.self.inside.returned.items } in
    let new : KeptState = record { registered = c.register_all.new.registered; returned = c.self.inside.returned.items } in
    subst (λ rs. IsStateOf i memory (m ∷ past) (record { registered = rs; returned = c.self.inside.returned.items }))
    (sym (take_at c.register_all.new.registered _ c.self.inside.registered.len (omega (arith, c.register_all.ensures.functions, c.deref_mut.ensures.len))))
    (called i memory past m c.args.keys.now old new call
    (subst (λ rs. AreRegistered (is_among c.args.keys.now) rs c.register_all.new.registered) c.deref_mut.ensures.value c.register_all.ensures)
    refl
    (subst (IsStateOf i memory past) (sym c.self.view_is) h))
