use Rattle.std.proofs.Common.{ℕ, List, subst}
use Rattle.memchr.specs.Find.{IsFirst}
use Rattle.space_memory_bytes.proofs.Deads.{Unmarked, dead_first}
use Rattle.space_memory_bytes.proofs.marked_bytes.MarkedBytes.first_dead.Goals as goal

pub returns : goal.returns
returns c =
    dead_first _ _ _ c.self.invariant.0 _ c.self.view_is c.args.from c.args.to c.first_unmarked.result
    (subst (λ (ms : List ℕ). IsFirst (Unmarked ms) c.args.from c.args.to c.first_unmarked.result) c.deref.ensures.value c.first_unmarked.ensures)
