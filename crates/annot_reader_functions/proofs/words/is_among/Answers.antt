use Rattle.std.proofs.Common.{◌∙◌}
use Rattle.annot_reader_functions.proofs.Wording.{among_too}
use Rattle.annot_reader_functions.proofs.words.is_among.Goals as goal

pub returns : goal.returns
returns c = c.contains.ensures.value ∙ among_too c.args.place c.args.places.now
