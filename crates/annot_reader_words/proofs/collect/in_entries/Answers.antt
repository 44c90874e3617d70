use Rattle.std.proofs.Common.{refl, arith}
use Rattle.c_syntax_laws.specs.Named.{by_entry, by_entries}
use Rattle.annot_reader_words.proofs.Loops.{next}
use Rattle.annot_reader_words.proofs.collect.in_entries.Goals as goal

pub loop-entry-preserved : goal.loop-entry-preserved
loop-entry-preserved c =
    next by_entry by_entries (λ x ys. refl) c.args.entries.now c.entry-item.result c.loop-entry.held.items c.in_entry.new.held.items _ c.loop-entry.entry-index (omega arith) c.entry-item.is c.in_ok-in_entry.ensures c.loop-entry.invariant
