use Rattle.std.proofs.Common.{◌≡◌, ap, sym, ◌∙◌}
use Rattle.test_memory.specs.Held.{holders_of}
use Rattle.test_memory.proofs.Holders.{same_undone}
use Rattle.test_memory.proofs.memory.Memory.undo.Goals as goal

pub invariant_of-self-clause-holders : goal.invariant_of-self-clause-holders
invariant_of-self-clause-holders c = λ known.
    let m = c.args.self.now in
    ap holders_of c.undo-2.ensures.regions ∙ same_undone m.held m.spaces.held c.in-Some.thread (m.depths known) (m.holders known) ∙ sym (ap holders_of c.undo.ensures.regions)
