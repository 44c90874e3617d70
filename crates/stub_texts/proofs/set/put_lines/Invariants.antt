use Rattle.std.proofs.Common.{ℕ, List, Option, drop}
use Rattle.std.specs.List.{flat_map}
use Rattle.stub_operations.specs.Growing.{IsAdded}
use Rattle.stub_texts.specs.Texts.{line_text}
use Rattle.stub_texts.proofs.set.put_lines.Given as goal

-- what is left makes the whole
abbrev pub invariant-loop-op : goal.invariant-loop-op
invariant-loop-op l =
    (q : Option (List ℕ)) → IsAdded l.text (flat_map line_text (drop l.op-index l.ops)) q →
    IsAdded l.initial.text (flat_map line_text l.ops) q
