use Rattle.std.proofs.Common.{◌≡◌, ◌<◌, length, get_or, Some, ap, sym, ◌∙◌, arith}
use Rattle.std.proofs.lemmas.List.{get_or_default, get_or_past}
use Rattle.space_memory_bytes.proofs.Marks.{get_is, mark_live, dead_mark}
use Rattle.space_memory_bytes.proofs.marked_bytes.MarkedBytes.get.Goals as goal

pub index-value-requires : goal.index-value-requires
index-value-requires c = omega (arith, c.len.ensures, c.self.invariant.0.same)

pub index-requires : goal.index-requires
index-requires c = omega (arith, c.len.ensures)

-- no mark is there
pub returns-then-len-at : goal.returns-then-len-at
returns-then-len-at c =
    let none = get_or_past c.self.inside.marks.items c.args.at 0 (omega (arith, c.len.ensures)) in
    sym (get_is _ _ _ c.self.invariant.0 _ c.self.view_is c.args.at ∙ dead_mark _ (get_or c.self.inside.values.items c.args.at 0) (λ one. omega (arith, none, one)))

pub returns-then-index-eq1 : goal.returns-then-index-eq1
returns-then-index-eq1 c =
    let lt : c.args.at < length c.self.inside.marks.items = omega (arith, c.len.ensures) in
    let lt' : c.args.at < length c.self.inside.values.items = omega (arith, c.self.invariant.0.same) in
    let mark : c.index.result.now ≡ get_or c.self.inside.marks.items c.args.at 0 = c.index.ensures ∙ get_or_default c.self.inside.marks.items c.args.at c.index.result.now 0 lt in
    let value : c.index-value.result.now ≡ get_or c.self.inside.values.items c.args.at 0 = c.index-value.ensures ∙ get_or_default c.self.inside.values.items c.args.at c.index-value.result.now 0 lt' in
    ap (λ v. Some v) value ∙ sym (get_is _ _ _ c.self.invariant.0 _ c.self.view_is c.args.at ∙ mark_live _ (get_or c.self.inside.values.items c.args.at 0) (sym mark ∙ c.if-index-eq1.true))

pub returns-else-index-eq1 : goal.returns-else-index-eq1
returns-else-index-eq1 c =
    let lt : c.args.at < length c.self.inside.marks.items = omega (arith, c.len.ensures) in
    let mark : c.index.result.now ≡ get_or c.self.inside.marks.items c.args.at 0 = c.index.ensures ∙ get_or_default c.self.inside.marks.items c.args.at c.index.result.now 0 lt in
    sym (get_is _ _ _ c.self.invariant.0 _ c.self.view_is c.args.at ∙ dead_mark _ (get_or c.self.inside.values.items c.args.at 0) (λ one. c.if-index-eq1.false (mark ∙ one)))
