use Rattle.annot_reader.proofs.Saying.{faces, says_builtin, says_declared, says_guard, says_held}
use Rattle.annot_reader.proofs.laws.interfaces_say_what_annotations_say.Goals as goal

pub returns-clause-faces : goal.returns-clause-faces
returns-clause-faces c = faces

pub returns-clause-declared : goal.returns-clause-declared
returns-clause-declared c = says_declared

pub returns-clause-holds : goal.returns-clause-holds
returns-clause-holds c = says_held

pub returns-clause-guards : goal.returns-clause-guards
returns-clause-guards c = says_guard

pub returns-clause-builtins : goal.returns-clause-builtins
returns-clause-builtins c = says_builtin
