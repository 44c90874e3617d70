use Rattle.std.proofs.Common.{◌≡◌, ◌+◌, [], ◌∷◌, ◌++◌, length, get_or, sym, subst, refl, ap, ◌∙◌, arith}
use Rattle.std.proofs.Math.ListN.{set}
use Rattle.std.proofs.lemmas.List.{length-append}
use Rattle.marks.specs.Wants.{Value}
use Rattle.c_machine.specs.Moves.{MayFeed, after_answer}
use Rattle.c_machine.specs.Follows.{Feeds}
use Rattle.c_machine.specs.Positions.{laid}
use Rattle.recorder_threads.specs.Threads.{AreThreadsOf, IsBegun}
use Rattle.recorder_threads.specs.Answers.{IsNoCall, IsStart}
use Rattle.recorder_threads.proofs.Answering.{below, few, inside, may, old_element, start_stands}
use Rattle.recorder_threads.proofs.threads.Threads.start.Goals as goal

pub overflow_cast-number : goal.overflow_cast-number
overflow_cast-number c =
    let l = laid c.args.code.now c.args.placed.now in
    let items = c.self.inside.threads.items in
    let a = subst (λ ts. IsStart l ts c.args.thread c.args.address c.args.argument) (sym c.self.view_is) c.requires in
    let small = few l items c.args.thread c.args.address c.args.argument a in
    omega (arith, small, c.len-number.ensures, c.self.inside.threads.ok)

pub index_mut-requires : goal.index_mut-requires
index_mut-requires c =
    let l = laid c.args.code.now c.args.placed.now in
    let items = c.self.inside.threads.items in
    let a = subst (λ ts. IsStart l ts c.args.thread c.args.address c.args.argument) (sym c.self.view_is) c.requires in
    let lt = below l items c.args.thread IsNoCall (Value (length items)) a.next in
    let long : length c.push.new.self.items ≡ length items + 1 = ap length c.in_ok-push.ensures.items ∙ length-append items (c.in_ok-begun.begun ∷ []) in
    omega (arith, lt, long, c.push.new.self.ok)

pub next_after-next-requires-clause-inside : goal.next_after-next-requires-clause-inside
next_after-next-requires-clause-inside c =
    let l = laid c.args.code.now c.args.placed.now in
    let items = c.self.inside.threads.items in
    let t = c.args.thread in
    let y = c.index_mut.result.now in
    let a = subst (λ ts. IsStart l ts t c.args.address c.args.argument) (sym c.self.view_is) c.requires in
    let ey : y ≡ get_or (items ++ c.in_ok-begun.begun ∷ []) t y = subst (λ xs. y ≡ get_or xs t y) c.in_ok-push.ensures.items c.index_mut.ensures.value in
    inside l items t IsNoCall (Value (length items)) a.next y (old_element l items t c.args.address c.args.argument a c.in_ok-begun.begun y ey)

pub next_after-next-requires-clause-may : goal.next_after-next-requires-clause-may
next_after-next-requires-clause-may c =
    let l = laid c.args.code.now c.args.placed.now in
    let items = c.self.inside.threads.items in
    let t = c.args.thread in
    let y = c.index_mut.result.now in
    let a = subst (λ ts. IsStart l ts t c.args.address c.args.argument) (sym c.self.view_is) c.requires in
    let ey : y ≡ get_or (items ++ c.in_ok-begun.begun ∷ []) t y = subst (λ xs. y ≡ get_or xs t y) c.in_ok-push.ensures.items c.index_mut.ensures.value in
    let number : length items ≡ c.len-number.result = omega (arith, c.len-number.ensures, c.self.inside.threads.ok) in
    subst (λ n. MayFeed l y.config (Value n)) number (may l items t IsNoCall (Value (length items)) a.next y (old_element l items t c.args.address c.args.argument a c.in_ok-begun.begun y ey) (Feeds (Value (length items))) refl)

pub returns-clause-started : goal.returns-clause-started
returns-clause-started c =
    let l = laid c.args.code.now c.args.placed.now in
    let items = c.self.inside.threads.items in
    let t = c.args.thread in
    let y = c.index_mut.result.now in
    let z = c.next_after-next.new.thread in
    let q = c.in_ok-begun.begun in
    let ey : y ≡ get_or (items ++ q ∷ []) t y = subst (λ xs. y ≡ get_or xs t y) c.in_ok-push.ensures.items c.index_mut.ensures.value in
    let number : c.len-number.result ≡ length items = omega (arith, c.len-number.ensures, c.self.inside.threads.ok) in
    let begun : IsBegun l (length items) c.args.address c.args.argument q = subst (λ n. IsBegun l n c.args.address c.args.argument q) number (c.in_ok-begun.ensures c.args.placed.now) in
    let fed : z ≡ after_answer l y (Value (length items)) = c.next_after-next.ensures.fed ∙ ap (λ n. after_answer l y (Value n)) number in
    subst (λ ts. (a : IsStart l ts t c.args.address c.args.argument) → AreThreadsOf a.next.world (a.next.mark ∷ a.next.past) (set c.push.new.self.items t z)) c.self.view_is
    (λ a. subst (λ xs. AreThreadsOf a.next.world (a.next.mark ∷ a.next.past) (set xs t z)) (sym c.in_ok-push.ensures.items) (start_stands l items t c.args.address c.args.argument a q begun y ey z fed c.next_after-next.ensures.inside))
