use Rattle.std.proofs.Common.{◌≡◌, ◌++◌, ◌∷◌, [], None, ap, sym, subst, ◌∙◌}
use Rattle.std.specs.List.{All}
use Rattle.std.specs.Option.{is_some}
use Rattle.std.specs.Str.{bytes_eq}
use Rattle.indexmap.proofs.CallerLemmas.{insert_entry-new}
use Rattle.sys_script_lines.specs.Externals.{external_named, kept_at, texts}
use Rattle.sys_script_lines.specs.Parts.{IsPart}
use Rattle.sys_script_lines.proofs.Names.{named_kept, named_pushed, named_there, not_there, none_pushed, texts_pushed}
use Rattle.sys_script_lines.proofs.externals.Externals.add.Goals as goal

pub returns-then-contains_key-clause-added : goal.returns-then-contains_key-clause-added
returns-then-contains_key-clause-added c = λ n.
    let name = c.args.name.now in
    let es = c.self.inside.by_name.entries in
    let there = sym (ap is_some (sym (ap (external_named name) c.self.view_is) ∙ named_kept name es)) in
    named_there n name c.args.self.now c.args.external (sym there ∙ (sym c.contains_key.ensures ∙ c.if-contains_key.true))

pub returns-clause-added : goal.returns-clause-added
returns-clause-added c = λ n.
    let es = c.self.inside.by_name.entries in
    let name = c.args.name.now in
    let key = c.in_ok-name.name in
    let none : kept_at name es ≡ None = not_there (kept_at name es) (sym c.if-contains_key.false ∙ c.contains_key.ensures) in
    let absent : kept_at key.items es ≡ None = ap (λ m. kept_at m es) c.in_ok-name.ensures.items ∙ none in
    ap (external_named n) (ap texts (c.in_ok-insert.ensures.entries ∙ insert_entry-new (λ a b. bytes_eq a.items b.items) c.self.inside.by_name key c.args.external absent)
    ∙ (texts_pushed es key c.args.external
    ∙ (ap (λ m. texts es ++ (m, c.args.external) ∷ []) c.in_ok-name.ensures.items
    ∙ ap (λ ms. ms ++ (name, c.args.external) ∷ []) c.self.view_is)))
    ∙ named_pushed n name c.args.self.now c.args.external

pub invariant_of-self-2 : goal.invariant_of-self-2
invariant_of-self-2 c =
    let es = c.self.inside.by_name.entries in
    let name = c.args.name.now in
    let key = c.in_ok-name.name in
    let none : kept_at name es ≡ None = not_there (kept_at name es) (sym c.if-contains_key.false ∙ c.contains_key.ensures) in
    let absent : kept_at key.items es ≡ None = ap (λ m. kept_at m es) c.in_ok-name.ensures.items ∙ none in
    let entries : texts c.insert.new.self.entries ≡ texts es ++ (name, c.args.external) ∷ [] =
    ap texts (c.in_ok-insert.ensures.entries ∙ insert_entry-new (λ a b. bytes_eq a.items b.items) c.self.inside.by_name key c.args.external absent)
    ∙ (texts_pushed es key c.args.external ∙ ap (λ m. texts es ++ (m, c.args.external) ∷ []) c.in_ok-name.ensures.items) in
    λ free.
    let both = c.stays_blank_free-is_blank_free.ensures free in
    subst (λ fs. All (λ f. IsPart 32 f.0) fs) (sym entries) (none_pushed name (texts es) c.args.external (c.self.invariant both.0) both.1)
