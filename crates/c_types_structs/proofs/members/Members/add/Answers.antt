use Rattle.std.proofs.Common.{◌≡◌, [], ◌∷◌, ◌++◌, None, sym, ap, ◌∙◌}
use Rattle.indexmap.proofs.CallerLemmas.{insert_entry-new}
use Rattle.c_scopes.specs.Scopes.{meaning_in, same_name}
use Rattle.c_types_structs.specs.Entries.{texts, value_of}
use Rattle.c_types_structs.proofs.Entries.{meaning_kept, texts_pushed}
use Rattle.c_types_structs.proofs.members.Members.add.Goals as goal

pub returns-clause-added : goal.returns-clause-added
returns-clause-added c =
    let es = c.self.inside.types.entries in
    let name = c.args.name.now in
    let key = c.in_ok-name.name in
    let none : value_of name es ≡ None = sym (meaning_kept name es) ∙ (ap (meaning_in name) c.self.view_is ∙ c.requires.fresh) in
    let absent : value_of key.items es ≡ None = ap (λ n. value_of n es) c.in_ok-name.ensures.items ∙ none in
    ap texts (c.in_ok-insert.ensures.entries ∙ insert_entry-new (λ a b. same_name a.items b.items) c.self.inside.types key c.args.ty absent)
    ∙ (texts_pushed es key c.args.ty
    ∙ (ap (λ n. texts es ++ (n, c.args.ty) ∷ []) c.in_ok-name.ensures.items
    ∙ ap (λ ms. ms ++ (name, c.args.ty) ∷ []) c.self.view_is))
