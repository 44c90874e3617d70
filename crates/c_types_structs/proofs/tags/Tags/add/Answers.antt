use Rattle.std.proofs.Common.{◌≡◌, ℕ, List, [], ◌∷◌, ◌++◌, None, Some, sym, ap, ◌∙◌, subst}
use Rattle.std.specs.Map.{keys_of}
use Rattle.c_scopes.specs.Bindings.{text_at}
use Rattle.c_scopes.proofs.Numbers.{text_found}
use Rattle.c_types_rules.specs.Environment.{place_in}
use Rattle.c_types_structs.specs.Entries.{AreFirst, tags_at, value_of}
use Rattle.c_types_structs.proofs.Entries.{again_kept, again_tags, is_there, not_some}
use Rattle.c_types_structs.proofs.tags.Tags.add.Goals as goal

pub add_first-requires-clause-fresh : goal.add_first-requires-clause-fresh
add_first-requires-clause-fresh c =
    let tag = c.args.tag.now in
    sym (ap (place_in tag) c.self.view_is) ∙ (sym (c.self.invariant.first tag) ∙ not_some (value_of tag c.self.inside.firsts.entries) c.in-None.ensures.found)

pub invariant_of-self-in-Some : goal.invariant_of-self-in-Some
invariant_of-self-in-Some c =
    let tag = c.args.tag.now in
    let es = c.self.inside.firsts.entries in
    let order = c.self.inside.order.items in
    let known = is_there (value_of tag es) c.in-Some.ensures.found in
    let to : List ℕ → Type 0 = λ o. AreFirst es o in
    subst to (sym c.in_ok-push-in-Some.ensures.items)
    (again_kept es order c.in-Some.index known.0 tag c.self.invariant c.in-Some.ensures.within (text_found tag (keys_of es) c.in-Some.index (sym c.in-Some.ensures.index)) known.1)

pub returns-in_ok-push-in-Some-clause-added : goal.returns-in_ok-push-in-Some-clause-added
returns-in_ok-push-in-Some-clause-added c =
    let tag = c.args.tag.now in
    let es = c.self.inside.firsts.entries in
    let order = c.self.inside.order.items in
    ap (tags_at (keys_of es)) c.in_ok-push-in-Some.ensures.items
    ∙ (again_tags es order c.in-Some.index tag (text_found tag (keys_of es) c.in-Some.index (sym c.in-Some.ensures.index))
    ∙ ap (λ ts. ts ++ tag ∷ []) c.self.view_is)
