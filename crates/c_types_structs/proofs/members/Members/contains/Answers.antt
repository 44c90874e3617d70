use Rattle.std.proofs.Common.{is_some, sym, ap, ◌∙◌}
use Rattle.c_scopes.specs.Scopes.{meaning_in}
use Rattle.c_types_structs.proofs.Entries.{meaning_kept}
use Rattle.c_types_structs.proofs.members.Members.contains.Goals as goal

pub returns : goal.returns
returns c =
    let name = c.args.name.now in
    c.contains_key.ensures ∙ ap is_some (sym (meaning_kept name c.self.inside.types.entries) ∙ ap (meaning_in name) c.self.view_is)
