use Rattle.std.proofs.Common.{subst}
use Rattle.c_types_expressions.proofs.Constructs.{decl_inside}
use Rattle.c_types_table.specs.Tables.{all_at, at}
use Rattle.annot_reader_functions.specs.Known.{AreKnown}
use Rattle.annot_reader_functions.specs.Seen.{declared_by}
use Rattle.annot_reader_functions.proofs.Composed.{is_decl}
use Rattle.annot_reader_functions.proofs.Sharing.{known_now, says_too}
use Rattle.annot_reader_functions.proofs.known.function_notes_after.Goals as goal

pub is_said_too-requires-clause-other : goal.is_said_too-requires-clause-other
is_said_too-requires-clause-other c = decl_inside c.args.tree.now c.args.id c.requires.id

pub notes_by-requires-clause-says : goal.notes_by-requires-clause-says
notes_by-requires-clause-says c = λ d h.
    let N = c.args.tree.now in
    let cut = c.args.cut.now in
    says_too N cut c.in-Some.said c.args.id d (subst (AreKnown N cut) c.in-Some.is c.requires.known) (c.is_said_too.ensures.share c.if-is_said_too.true) h

pub notes_by-requires-clause-kind : goal.notes_by-requires-clause-kind
notes_by-requires-clause-kind c = c.is_said_too.ensures.kind c.if-is_said_too.true

pub known_by-requires : goal.known_by-requires
known_by-requires c = is_decl c.args.tree.now c.args.id c.requires.id

pub returns-clause-known : goal.returns-clause-known
returns-clause-known c =
    let N = c.args.tree.now in
    let before = declared_by c.args.env.now in
    let p = c.args.prototype.now in
    known_now N c.args.cut.now c.args.id p.kind c.in_ok-notes.notes before.env (at before.types p.result) (all_at before.types p.params.now) c.in_ok-known_by.field-0 c.requires.id (decl_inside N c.args.id c.requires.id) c.in_ok-known_by.ensures c.in_ok-notes.ensures.agrees
