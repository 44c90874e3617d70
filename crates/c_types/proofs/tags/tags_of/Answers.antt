use Rattle.std.proofs.Common.{ℕ, suc, List, ◌++◌, get_or, drop, sym, ap, ◌∙◌, subst, add-one, append-nil}
use Rattle.std.proofs.lemmas.List.{drop_all}
use Rattle.std.specs.Option.{option_copied, option_to_list}
use Rattle.c_types.proofs.Tagged.{RestOfTags, no_tag_left, one_tag}
use Rattle.c_types.proofs.Parts.{decl_inside, ids_left, one_of_all}
use Rattle.c_types.proofs.tags.tags_of.Goals as goal
use Rattle.c_types.proofs.tags.tags_of.Goals.{in-Some+in_ok-add, in_default}

pub decl-requires : goal.decl-requires
decl-requires c = record { inside = decl_inside c.args.tree.now _ (one_of_all c.args.tree.now c.args.ids.now c.loop-id.id-index (record { 0 = 0 }) c.requires c.loop-id-test.true) }

pub loop-id-preserved : goal.loop-id-preserved
loop-id-preserved c =
    λ ds s.
    let N = c.args.tree.now in
    let ids = c.args.ids.now in
    let k = c.loop-id.id-index in
    let id = get_or ids k (record { 0 = 0 }) in
    let left = subst (λ v. RestOfTags N v ds c.loop-id.tags) (ids_left ids k (record { 0 = 0 }) c.loop-id-test.true) (c.loop-id.invariant ds s) in
    let one = one_tag N id (drop (suc k) ids) ds c.loop-id.tags c.decl.result.now (option_copied c.defined_tag.result) left c.decl.ensures.node c.defined_tag.ensures in
    let P : ℕ → List (List ℕ) → Type 0 = λ n tags. RestOfTags N (drop n ids) ds tags in
    subst (λ n. P n c.match-defined_tag.tags) (sym (add-one k))
    (elim c.match-defined_tag.branch [
      | in-Some+in_ok-add w ↦ subst (P (suc k)) (sym (w.tags-is ∙ (w.in_ok-add.ensures.added ∙ ap (λ o. c.loop-id.tags ++ option_to_list (option_copied o)) (sym w.in-Some.is)))) one
      | in_default w ↦ subst (P (suc k)) (sym (w.tags-is ∙ (sym (append-nil c.loop-id.tags) ∙ ap (λ o. c.loop-id.tags ++ option_to_list (option_copied o)) (sym w.in_default.is)))) one
    ])

pub returns : goal.returns
returns c = λ ds s. no_tag_left c.args.tree.now ds c.loop-id.tags (subst (λ v. RestOfTags c.args.tree.now v ds c.loop-id.tags) (drop_all c.loop-id.id-index c.args.ids.now c.loop-id-test.false) (c.loop-id.invariant ds s))
