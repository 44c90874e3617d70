use Rattle.std.proofs.Common.{◌≡◌, ◌+◌, ℕ, List, ◌∷◌, [], drop, sym, ap, ◌∙◌, subst, arith}
use Rattle.std.specs.Prelude.{Option, slice_index_or}
use Rattle.std.proofs.lemmas.List.{drop_all}
use Rattle.cut_graph_rules.specs.declared.mention.Mention.{Mention}
use Rattle.cut_graph_rules.specs.declared.mention.Mention.TheVariants.{Function}
use Rattle.isolation_check_rows.specs.Rows.{IsNoted, entry, is_here, noted}
use Rattle.isolation_check_rows.proofs.Steps.{noted_first, noted_none, one_at}
use Rattle.isolation_check_rows.proofs.row.note.Goals as goal

pub loop-mention-preserved : goal.loop-mention-preserved
loop-mention-preserved c =
    let ms = c.args.mentions.now in
    let i = c.loop-mention.mention-index in
    let f = c.args.function in
    let old = c.loop-mention.row.items in
    let m = slice_index_or ms i (Function 0) in
    let more : drop i ms ≡ m ∷ drop (i + 1) ms = one_at ms i (Function 0) (omega arith) in
    λ q h. c.loop-mention.invariant q (subst (λ (ys : List Mention). IsNoted c.args.kind f old ys q) (sym more)
    (noted_first c.args.kind f m (drop (i + 1) ms) old c.note_at.new.row.items q c.note_at.ensures.size
    (λ k lt. c.note_at.ensures.entries k lt ∙ ap (λ (p : Option ℕ). noted (is_here k p) f (entry old k)) c.place.ensures) h))

pub returns : goal.returns
returns c =
    let ms = c.args.mentions.now in
    let all : drop c.loop-mention.mention-index ms ≡ [] = drop_all c.loop-mention.mention-index ms (omega arith) in
    c.loop-mention.invariant _ (subst (λ (ys : List Mention). IsNoted c.args.kind c.args.function c.loop-mention.row.items ys c.loop-mention.row.items) (sym all)
    (noted_none c.args.kind c.args.function c.loop-mention.row.items))
