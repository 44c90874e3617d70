use Rattle.std.proofs.Common.{◌≡◌, true, false, cond, pos, negsuc, w32, map, sym, ap, ◌∙◌}
use Rattle.std.specs.Ordering.{int_cmp}
use Rattle.std.specs.BTreeMap.{is_at}
use Rattle.std.specs.Map.{remove_entry}
use Rattle.std.proofs.lemmas.Bool.{false≢true}
use Rattle.std.proofs.lemmas.Int.{to_z-of_z}
use Rattle.system_side.specs.declared.threads.Wait.TheVariants.{Mutex}
use Rattle.system_side.specs.Threads.{woken}
use Rattle.system_side.specs.System.{SystemState, holder, holds}
use Rattle.system_side.proofs.State.{same_state}
use Rattle.system_side.proofs.system.System.unlock.Goals as goal

pub returns-then-holds-clause-freed : goal.returns-then-holds-clause-freed
returns-then-holds-clause-freed c = λ e.
    let v = c.self.view_is in
    let m = to_z-of_z w32 c.args.m c.ranges.m in
    same_state _ _ (ap (λ (s : SystemState). s.schedule) v) (c.wake.ensures ∙ ap (λ k. map (woken (Mutex k)) c.self.inside.threads) m ∙ ap (λ (s : SystemState). map (woken (Mutex c.args.m)) s.threads) v) (c.remove.ensures.entries ∙ ap (λ k. remove_entry (is_at (int_cmp k)) c.self.inside.held.entries) m ∙ ap (λ (s : SystemState). remove_entry (is_at (int_cmp c.args.m)) s.held) v) (ap (λ (s : SystemState). s.left) v)

pub returns-then-holds-clause-answer : goal.returns-then-holds-clause-answer
returns-then-holds-clause-answer c =
    let is : holds c.args.self.now.held c.args.thread c.args.m ≡ true = ap (λ k. holds c.args.self.now.held c.args.thread k) (sym (to_z-of_z w32 c.args.m c.ranges.m)) ∙ sym c.holds.ensures ∙ c.if-holds.true in
    ap (λ b. cond b (pos 0) (negsuc 0)) (sym is)

pub returns-then-holds-clause-unchanged : goal.returns-then-holds-clause-unchanged
returns-then-holds-clause-unchanged c = λ e.
    let is : holds c.args.self.now.held c.args.thread c.args.m ≡ true = ap (λ k. holds c.args.self.now.held c.args.thread k) (sym (to_z-of_z w32 c.args.m c.ranges.m)) ∙ sym c.holds.ensures ∙ c.if-holds.true in
    absurd (false≢true (sym e ∙ is))

pub returns-else-holds-clause-answer : goal.returns-else-holds-clause-answer
returns-else-holds-clause-answer c =
    let is : holds c.args.self.now.held c.args.thread c.args.m ≡ false = ap (λ k. holds c.args.self.now.held c.args.thread k) (sym (to_z-of_z w32 c.args.m c.ranges.m)) ∙ sym c.holds.ensures ∙ c.if-holds.false in
    ap (λ b. cond b (pos 0) (negsuc 0)) (sym is)

pub returns-else-holds-clause-freed : goal.returns-else-holds-clause-freed
returns-else-holds-clause-freed c = λ e.
    let is : holds c.args.self.now.held c.args.thread c.args.m ≡ false = ap (λ k. holds c.args.self.now.held c.args.thread k) (sym (to_z-of_z w32 c.args.m c.ranges.m)) ∙ sym c.holds.ensures ∙ c.if-holds.false in
    absurd (false≢true (sym is ∙ e))

pub returns-then-holds-clause-free : goal.returns-then-holds-clause-free
returns-then-holds-clause-free c = λ e. ap (holder c.remove.new.self.entries) (sym (to_z-of_z w32 c.args.m c.ranges.m)) ∙ c.remove.ensures.updates.1

pub returns-else-holds-clause-free : goal.returns-else-holds-clause-free
returns-else-holds-clause-free c = λ e.
    let is : holds c.args.self.now.held c.args.thread c.args.m ≡ false = ap (λ k. holds c.args.self.now.held c.args.thread k) (sym (to_z-of_z w32 c.args.m c.ranges.m)) ∙ sym c.holds.ensures ∙ c.if-holds.false in
    absurd (false≢true (sym is ∙ e))
