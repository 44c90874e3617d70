use Rattle.std.proofs.Common.{refl, arith}
use Rattle.c_syntax_laws.specs.Named.{by_kind, by_parts}
use Rattle.c_syntax.specs.declared.declaration.Part.{Part}
use Rattle.annot_reader_words.proofs.Loops.{next}
use Rattle.annot_reader_words.proofs.collect.in_parts.Goals as goal

pub loop-part-preserved : goal.loop-part-preserved
loop-part-preserved c =
    next (λ (p : Part). by_kind p.kind) by_parts (λ x ys. refl) c.args.parts.now c.part-item.result c.loop-part.held.items c.in_part.new.held.items _ c.loop-part.part-index (omega arith) c.part-item.is c.in_ok-in_part.ensures c.loop-part.invariant
