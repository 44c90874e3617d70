use Rattle.std.proofs.Common.{◌≡◌, ℕ, ◌+◌, Bool, true, false, cond, take, refl, ap, ◌∙◌, arith}
use Rattle.std.specs.Prelude.{eqb}
use Rattle.std.proofs.lemmas.Bool.{eq-eqb}
use Rattle.std.proofs.lemmas.Bool.Decides.{nat_tests}
use Rattle.std.proofs.lemmas.List.{take_all}
use Rattle.log_closure.specs.Events.{of_thread}
use Rattle.log_reference.proofs.Files.{count_more}
use Rattle.log_reference.proofs.events.name_of.Goals as goal
use Rattle.log_reference.proofs.events.name_of.Goals.{then-other-entry, else-other-entry}

pub loop-other-init : goal.loop-other-init
loop-other-init c = record { below = omega arith; count = refl }

pub overflow_add-index : goal.overflow_add-index
overflow_add-index c = omega (arith, c.loop-other.invariant.below, c.loop-other-test.true, c.requires)

pub loop-other-preserved : goal.loop-other-preserved
loop-other-preserved c =
    let t = c.args.entry.now.thread in
    let i = c.loop-other.other-index in
    let r = c.other-item.result in
    let more = count_more t c.args.before.now i r c.loop-other-test.true c.other-item.is in
    let old = c.loop-other.invariant in
    elim c.if-other-entry.branch [
      | then-other-entry w ↦
          let yes : eqb r.thread t ≡ true = eq-eqb r.thread t w.if-other-entry.true in
          let step = more ∙ ap (λ (b : Bool). of_thread t (take i c.args.before.now) + cond b 1 0) yes in
          record { below = omega (arith, w.index-is, old.below); count = omega (arith, w.index-is, old.count, step) }
      | else-other-entry w ↦
          let other = w.if-other-entry.false in
          let free : eqb r.thread t ≡ false = grind (arith, nat_tests) in
          let step = more ∙ ap (λ (b : Bool). of_thread t (take i c.args.before.now) + cond b 1 0) free in
          record { below = omega (arith, w.index-is, old.below); count = omega (arith, w.index-is, old.count, step) }
    ]

pub returns : goal.returns
returns c =
    let is = c.loop-other.invariant.count ∙ ap (of_thread c.args.entry.now.thread) (take_all c.loop-other.other-index c.args.before.now c.loop-other-test.false) in
    ap (λ (n : ℕ). record { thread = c.args.entry.now.thread; index = n }) is
