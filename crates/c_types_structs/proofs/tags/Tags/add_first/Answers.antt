use Rattle.std.proofs.Common.{◌≡◌, ℕ, List, [], ◌∷◌, ◌++◌, None, length, sym, ap, ◌∙◌, subst}
use Rattle.std.specs.Map.{keys_of}
use Rattle.indexmap.proofs.CallerLemmas.{insert_entry-new}
use Rattle.c_scopes.specs.Scopes.{same_name}
use Rattle.c_scopes.specs.Bindings.{Name}
use Rattle.c_types_rules.specs.Environment.{place_in}
use Rattle.c_types_structs.specs.Entries.{AreFirst, tags_at, value_of}
use Rattle.c_types_structs.proofs.Entries.{first_kept, first_tags, length_tags}
use Rattle.c_types_structs.proofs.tags.Tags.add_first.Goals as goal

pub invariant_of-self-in-Ok : goal.invariant_of-self-in-Ok
invariant_of-self-in-Ok c =
    let es = c.self.inside.firsts.entries in
    let order = c.self.inside.order.items in
    let key = c.in_ok-name.name in
    let none : value_of key.items es ≡ None = c.self.invariant.first key.items ∙ (ap (place_in key.items) c.self.view_is ∙ (ap (λ n. place_in n c.args.self.now) c.in_ok-name.ensures.items ∙ c.requires.fresh)) in
    let place : c.args.place ≡ length order = c.requires.place ∙ (ap length (sym c.self.view_is) ∙ length_tags (keys_of es) order) in
    let to : List (Name × ℕ) → Type 0 = λ x. AreFirst x c.push.new.self.items in
    let from : List ℕ → Type 0 = λ x. AreFirst (es ++ (key, c.args.place) ∷ []) x in
    subst to (sym (c.in-Ok.ensures.entries ∙ insert_entry-new (λ a b. same_name a.items b.items) c.self.inside.firsts key c.args.place none))
    (subst from (sym c.in_ok-push.ensures.items) (first_kept es order key c.args.place c.len-index.result c.self.invariant c.len-index.ensures.len place))

pub returns-clause-added : goal.returns-clause-added
returns-clause-added c =
    let es = c.self.inside.firsts.entries in
    let order = c.self.inside.order.items in
    let key = c.in_ok-name.name in
    let none : value_of key.items es ≡ None = c.self.invariant.first key.items ∙ (ap (place_in key.items) c.self.view_is ∙ (ap (λ n. place_in n c.args.self.now) c.in_ok-name.ensures.items ∙ c.requires.fresh)) in
    ap (λ x. tags_at (keys_of x) c.push.new.self.items) (c.in-Ok.ensures.entries ∙ insert_entry-new (λ a b. same_name a.items b.items) c.self.inside.firsts key c.args.place none)
    ∙ (ap (tags_at (keys_of (es ++ (key, c.args.place) ∷ []))) c.in_ok-push.ensures.items
    ∙ (first_tags es order key c.args.place c.len-index.result c.self.invariant c.len-index.ensures.len
    ∙ (ap (λ n. tags_at (keys_of es) order ++ n ∷ []) c.in_ok-name.ensures.items
    ∙ ap (λ ts. ts ++ c.args.tag.now ∷ []) c.self.view_is)))
