use Rattle.std.proofs.Common.{◌≡◌, ◌<◌, length, sym, ap, subst, arith}
use Rattle.std.proofs.Math.ListN.{set}
use Rattle.std.proofs.lemmas.List.{get_or-set_same}
use Rattle.std.proofs.lemmas.List.Elements.{All-set}
use Rattle.c_machine.specs.Accesses.{Makes}
use Rattle.c_machine.specs.Moves.{IsInside, ThreadState}
use Rattle.c_machine.specs.Positions.{laid}
use Rattle.c_machine.specs.Readers.{side_of}
use Rattle.recorder_threads.specs.Threads.{AreInside, nowhere, thread_at}
use Rattle.recorder_threads.proofs.Places.{inside_is, next_of_set, read_is}
use Rattle.recorder_threads.proofs.threads.Threads.make_accesses.Goals as goal

pub index_mut-requires : goal.index_mut-requires
index_mut-requires g c =
    let lt : c.args.thread < length c.self.inside.threads.items = subst (λ ts. c.args.thread < length ts) (sym c.self.view_is) c.requires.started in
    omega (arith, lt, c.self.inside.threads.ok)

pub next_after_accesses-requires : goal.next_after_accesses-requires
next_after_accesses-requires g c =
    let l = laid c.args.code.now c.args.placed.now in
    let items = c.self.inside.threads.items in
    let t = c.args.thread in
    let lt : t < length items = subst (λ ts. t < length ts) (sym c.self.view_is) c.requires.started in
    record { inside = inside_is l items t c.index_mut.result.now (subst (AreInside l) (sym c.self.view_is) c.requires.inside) lt c.index_mut.ensures.value }

pub returns-clause-made : goal.returns-clause-made
returns-clause-made g c =
    let l = laid c.args.code.now c.args.placed.now in
    let items = c.self.inside.threads.items in
    let t = c.args.thread in
    let y = c.index_mut.result.now in
    let z = c.next_after_accesses.new.thread in
    let v = c.args.accesses.now in
    let w = c.next_after_accesses.new.accesses in
    let makes = g.A.Accesses.makes in
    let lt : t < length items = subst (λ ts. t < length ts) (sym c.self.view_is) c.requires.started in
    subst (λ ts. Makes makes l (side_of (thread_at ts t).config) v (thread_at ts t) w (thread_at (set items t z) t)) c.self.view_is
    (subst (λ u. Makes makes l (side_of (thread_at items t).config) v (thread_at items t) w u) (sym (get_or-set_same items t z nowhere lt))
    (subst (λ (u : ThreadState). Makes makes l (side_of u.config) v u w z) (read_is items t y lt c.index_mut.ensures.value) c.next_after_accesses.ensures.made))

pub returns-clause-others : goal.returns-clause-others
returns-clause-others g c =
    let items = c.self.inside.threads.items in
    let t = c.args.thread in
    let z = c.next_after_accesses.new.thread in
    let lt : t < length items = subst (λ ts. t < length ts) (sym c.self.view_is) c.requires.started in
    subst (λ ts. set items t z ≡ set ts t (thread_at (set items t z) t)) c.self.view_is (ap (set items t) (sym (get_or-set_same items t z nowhere lt)))

pub returns-clause-inside : goal.returns-clause-inside
returns-clause-inside g c =
    let l = laid c.args.code.now c.args.placed.now in
    let items = c.self.inside.threads.items in
    All-set (λ (q : ThreadState). IsInside l q.config) items c.args.thread c.next_after_accesses.new.thread c.next_after_accesses.ensures.inside (subst (AreInside l) (sym c.self.view_is) c.requires.inside)

pub returns-clause-next : goal.returns-clause-next
returns-clause-next g c =
    let l = laid c.args.code.now c.args.placed.now in
    let items = c.self.inside.threads.items in
    let t = c.args.thread in
    let lt : t < length items = subst (λ ts. t < length ts) (sym c.self.view_is) c.requires.started in
    next_of_set l items t c.next_after_accesses.new.thread c.next_after_accesses.result lt c.next_after_accesses.ensures.next
