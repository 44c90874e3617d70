use Rattle.std.proofs.Common.{true, List, ℕ, [], ◌∷◌, sym, ◌∙◌, subst}
use Rattle.std.specs.Prelude.{slice_set}
use Rattle.cut_graph_paths.specs.Searches.{IsFollowed}
use Rattle.cut_graph_paths.proofs.Marks.{first, flag_is}
use Rattle.cut_graph_paths.proofs.search.mark.Goals as goal

pub returns : goal.returns
returns c =
    let ms = c.args.marks.now.items in
    let v = c.args.vertex in
    subst (λ (us : List ℕ). IsFollowed (v ∷ []) ms c.args.todo.now.items (slice_set ms v true) us) (sym c.in_ok-push.ensures.items)
    (first ms c.args.todo.now.items v c.requires (flag_is ms v c.index.result.now c.requires ∙ (sym c.index.ensures ∙ c.if-index.false)))
