use Rattle.std.proofs.Common.{List, ℕ, ap, ◌∙◌}
use Rattle.c_scopes.specs.Scopes.{Scope, innermost, meaning_in}
use Rattle.c_types_rules.specs.Environment.{Meaning}
use Rattle.c_types_rules.specs.Expressions.{declared_name}
use Rattle.annot_reader_functions.specs.Rules.{function_in}
use Rattle.annot_reader.proofs.Meant.{members_decls, name_tells}
use Rattle.annot_reader_functions.specs.Seen.{declared_by}
use Rattle.annot_reader.proofs.reading.Reading.note.Goals as goal

pub bare_decls-requires : goal.bare_decls-requires
bare_decls-requires c =
    members_decls c.args.source.now.tree.now c.args.id c.decl_node-decl.result.now c.in-Members.members c.as_slice.result.now c.requires.id c.decl_node-decl.ensures.shows c.in-Members.is c.as_slice.ensures.items

pub returns-clause-agrees : goal.returns-clause-agrees
returns-clause-agrees c = λ d p a h k n r.
    let N = c.args.source.now.tree.now in
    let v = c.decl_node-decl.result.now in
    let env = (declared_by c.args.env.now).env in
    let meant = c.function_named-number.ensures ∙ (ap (λ (name : List ℕ). function_in (meaning_in name (innermost env.scopes))) c.name_of.ensures ∙ ap (λ (scope : Scope Meaning). function_in (meaning_in (declared_name v.name) scope)) n) in
    name_tells c.args.source.now.cut.now _ env p a c.named.result N v d (c.decl_node-decl.ensures.shows d h) c.in_default.not-Members
    (c.named.ensures.agrees d p (meaning_in (declared_name v.name) p.names) a h k meant r)
