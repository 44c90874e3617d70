use Rattle.std.proofs.Common.{w32, not, is_some, slice_set, sym, ap, ◌∙◌}
use Rattle.std.specs.Ordering.{int_cmp}
use Rattle.std.specs.BTreeMap.{insert_entry}
use Rattle.std.proofs.lemmas.Int.{to_z-of_z}
use Rattle.system_side.specs.declared.threads.Standing.TheVariants.{Waits}
use Rattle.system_side.specs.declared.threads.Wait.TheVariants.{Mutex}
use Rattle.system_side.specs.System.{SystemState, holder}
use Rattle.system_side.proofs.State.{same_state}
use Rattle.system_side.proofs.system.System.lock.Goals as goal

pub returns-then-contains_key-clause-answer : goal.returns-then-contains_key-clause-answer
returns-then-contains_key-clause-answer c = ap not (sym c.if-contains_key.true ∙ c.contains_key.ensures ∙ ap (λ k. is_some (holder c.self.inside.held.entries k)) (to_z-of_z w32 c.args.m c.ranges.m) ∙ ap (λ (s : SystemState). is_some (holder s.held c.args.m)) c.self.view_is)

pub returns-then-contains_key-clause-blocked : goal.returns-then-contains_key-clause-blocked
returns-then-contains_key-clause-blocked c = λ e.
    let v = c.self.view_is in
    same_state _ _ (ap (λ (s : SystemState). s.schedule) v) (c.stop.ensures ∙ ap (λ k. slice_set c.self.inside.threads c.args.thread (Waits (Mutex k))) (to_z-of_z w32 c.args.m c.ranges.m) ∙ ap (λ (s : SystemState). slice_set s.threads c.args.thread (Waits (Mutex c.args.m))) v) (ap (λ (s : SystemState). s.held) v) (ap (λ (s : SystemState). s.left) v)

pub returns-clause-answer : goal.returns-clause-answer
returns-clause-answer c = ap not (sym c.if-contains_key.false ∙ c.contains_key.ensures ∙ ap (λ k. is_some (holder c.self.inside.held.entries k)) (to_z-of_z w32 c.args.m c.ranges.m) ∙ ap (λ (s : SystemState). is_some (holder s.held c.args.m)) c.self.view_is)

pub returns-clause-taken : goal.returns-clause-taken
returns-clause-taken c = λ e.
    let v = c.self.view_is in
    same_state _ _ (ap (λ (s : SystemState). s.schedule) v) (ap (λ (s : SystemState). s.threads) v) (c.in_ok-insert.ensures.entries ∙ ap (λ k. insert_entry int_cmp c.self.inside.held.entries k c.args.thread) (to_z-of_z w32 c.args.m c.ranges.m) ∙ ap (λ (s : SystemState). insert_entry int_cmp s.held c.args.m c.args.thread) v) (ap (λ (s : SystemState). s.left) v)
