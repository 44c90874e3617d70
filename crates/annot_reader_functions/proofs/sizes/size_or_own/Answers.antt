use Rattle.std.proofs.Common.{Option, sym, subst}
use Rattle.std.specs.Option.{option_copied}
use Rattle.c_syntax.specs.Syntax.{Item as Factors}
use Rattle.annot_reader_rules.specs.Regions.{size_or_own}
use Rattle.annot_reader_words.specs.Answers.{Tells}
use Rattle.annot_reader_words.specs.Items.{MaybeStands}
use Rattle.annot_reader_words.specs.Readings.{IsSame}
use Rattle.annot_reader_functions.proofs.Saying.{none_stands}
use Rattle.annot_reader_functions.proofs.sizes.size_or_own.Goals as goal

pub returns-in-None-clause-agrees : goal.returns-in-None-clause-agrees
returns-in-None-clause-agrees c = λ o s t h k l.
    let none = none_stands c.args.tree.now o (subst (λ i. MaybeStands c.args.tree.now (option_copied i) o) c.in-None.is h) in
    subst (λ (p : Option Factors). Tells IsSame (size_or_own s c.args.target.from c.args.known t p) c.own_size.result) (sym none) (c.own_size.ensures _ s t k.env l)
