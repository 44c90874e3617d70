use Rattle.std.proofs.Common.{◌≡◌, sym, ap, ◌∙◌, subst}
use Rattle.c_syntax.specs.Syntax.{Atom as Factor, NameAtom}
use Rattle.annot_reader_rules.specs.Regions.{term}
use Rattle.annot_reader_words.specs.Answers.{Tells}
use Rattle.annot_reader_words.specs.Readings.{IsSame}
use Rattle.annot_reader_functions.proofs.Factors.{name_factor, sizeof_named}
use Rattle.annot_reader_functions.proofs.sizes.term.Goals as goal

pub size_of_name-requires : goal.size_of_name-requires
size_of_name-requires c = sizeof_named c.args.tree.now c.args.atom.now c.in-Sizeof.id c.in-Sizeof.is c.requires.factor

pub returns-in-Name-clause-agrees : goal.returns-in-Name-clause-agrees
returns-in-Name-clause-agrees c = λ a s h k.
    let same : a ≡ NameAtom c.as_slice.result.now = name_factor c.args.tree.now c.args.atom.now c.in-Name.name a c.in-Name.is h ∙ ap NameAtom (sym c.as_slice.ensures.bytes) in
    subst (λ (x : Factor). Tells IsSame (term s c.args.from c.args.known x) c.named_term.result) (sym same) (c.named_term.ensures _ s c.args.known k)
