use Rattle.std.proofs.Common.{◌≡◌, ◌≤◌, ℕ, ◌+◌, ◌-◌, ◌<◌, List, length, get_or, take, drop, replicate, cond, rules, refl, ap, sym, ◌∙◌, inl, inr, arith}
use Rattle.std.proofs.lemmas.Bool.{cond-false}
use Rattle.std.proofs.lemmas.List.{length-take-le, length-drop, get_or-replicate}
use Rattle.marks.specs.declared.range.Range.{Range}
use Rattle.marks.specs.Ranges.{covers}
use Rattle.space_memory_bytes.proofs.Cells.{cover_cases}
use Rattle.space_memory_bytes.proofs.Marks.{mid_get}
use Rattle.space_memory_bytes.proofs.marked_bytes.fill_part.Goals as goal

pub returns-clause-filled : goal.returns-clause-filled
returns-clause-filled c = λ k.
    let from = c.args.from in
    let n = c.args.to - c.args.from in
    let old = c.args.bytes.now in
    let part = take n (drop from old) in
    let r : Range = record { addr = from; len = n } in
    let part_len : length part ≡ n = length-take-le n (drop from old) (omega (arith, length-drop from old, c.requires.in_bytes)) in
    let same : c.fill.new.self ≡ replicate (length part) c.args.byte = c.fill.ensures.after (search rules) in
    mid_get old c.fill.new.self from n n k refl (c.fill.ensures.len ∙ part_len) (omega (arith, c.requires.order, c.requires.in_bytes))
    ∙ elim (cover_cases r k) as (λ _. cond (covers r k) (get_or c.fill.new.self (k - from) 0) (get_or old k 0) ≡ cond (covers r k) c.args.byte (get_or old k 0)) [
      | inl in' ↦ ap (λ v. cond (covers r k) v (get_or old k 0)) (ap (λ (xs : List ℕ). get_or xs (k - from) 0) same ∙ get_or-replicate (length part) (k - from) c.args.byte 0 (omega (arith, part_len, in'.from, in'.below)))
      | inr out ↦ cond-false (covers r k) (get_or c.fill.new.self (k - from) 0) (get_or old k 0) out.is ∙ sym (cond-false (covers r k) c.args.byte (get_or old k 0) out.is)
    ]
