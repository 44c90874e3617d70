use Rattle.std.proofs.Common.{refl, arith}
use Rattle.c_syntax_laws.specs.Named.{by_value, by_values}
use Rattle.annot_reader_words.proofs.Loops.{next}
use Rattle.annot_reader_words.proofs.collect.+in_value.Goals as goal

pub loop-value-preserved : goal.loop-value-preserved
loop-value-preserved t c =
    next by_value by_values (λ x ys. refl) c.deref-value-items.result.now c.value-item.result c.loop-value.held.items c.in_value.new.held.items _ c.loop-value.value-index (omega arith) c.value-item.is c.in_ok-in_value-in-Braces.ensures c.loop-value.invariant
