use Rattle.std.proofs.Common.{◌≡◌, ℕ, Some, vec_len, sym, ◌∙◌, ap, subst, cond, rules}
use Rattle.std.specs.BTreeMap.{get, is_at}
use Rattle.log_closure.specs.declared.tie.TieKey.{TieKey}
use Rattle.log_closure.specs.Tables.{key_cmp}
use Rattle.log_closure.specs.KeyNumbers.{AreNumbers}
use Rattle.log_closure.proofs.KeyNumbers.{next_keeps, next_number}
use Rattle.log_closure.proofs.numbering.Keys.count.Goals as goal

pub index_mut-count-requires : goal.index_mut-count-requires
index_mut-count-requires c = c.requires.below c.args.key c.in-Some.number (sym (c.in-Some.ensures ∙ c.get.ensures.value))

pub returns-clause-numbers : goal.returns-clause-numbers
returns-clause-numbers c =
    let old = c.args.self.now in
    let place : c.in_ok-number.number ≡ vec_len old.counts = search rules in
    let up : (q : TieKey) → get key_cmp c.insert.new.self q ≡ cond (is_at (key_cmp c.args.key) q) (Some (vec_len old.counts)) (get key_cmp old.numbers q) =
    λ q. c.in_ok-insert.ensures.updates.0 q ∙ ap (λ (n : ℕ). cond (is_at (key_cmp c.args.key) q) (Some n) (get key_cmp old.numbers q)) place in
    subst (AreNumbers c.insert.new.self) (sym c.in_ok-push.ensures.len) (next_number old.numbers c.insert.new.self c.args.key (vec_len old.counts) c.requires up)

pub returns-clause-kept : goal.returns-clause-kept
returns-clause-kept c = next_keeps c.args.self.now.numbers c.insert.new.self c.args.key c.in_ok-number.number (sym (c.in_default.ensures ∙ c.get.ensures.value)) c.in_ok-insert.ensures.updates.0
