use Rattle.std.proofs.Common.{ℕ, List, [], ap, ◌∙◌}
use Rattle.space_memory_bytes.specs.Marks.{cells_in}
use Rattle.space_memory_bytes.proofs.Marks.{cells-none}
use Rattle.space_memory_bytes.proofs.marked_bytes.MarkedBytes.new.Goals as goal

pub returns : goal.returns
returns c =
    ap (λ (ms : List ℕ). cells_in c.args.n ms c.in_ok-values.values.items) c.in_ok-marks.ensures.items
    ∙ ap (λ (vs : List ℕ). cells_in c.args.n [] vs) c.in_ok-values.ensures.items
    ∙ cells-none c.args.n
