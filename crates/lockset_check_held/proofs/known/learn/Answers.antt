use Rattle.std.proofs.Common.{◌≡◌, ℤ, true, to_z, of_z, rules, sym, subst, ap, ◌∙◌}
use Rattle.std.specs.Int.{w128}
use Rattle.std.specs.Ordering.{int_eq}
use Rattle.indexmap.specs.IndexSet.{insert_key}
use Rattle.lockset_check_held.specs.Rows.{IsTable, Learns}
use Rattle.lockset_check_held.proofs.Tables.{learned_put, placed, table_put}
use Rattle.lockset_check_held.proofs.known.learn.Goals as goal

pub returns-clause-table : goal.returns-clause-table
returns-clause-table c =
    let known = c.args.known.now.keys in
    let back : to_z w128 (of_z w128 c.args.mutex) ≡ c.args.mutex = search rules in
    let put : c.insert_full.new.self.keys ≡ insert_key int_eq known c.args.mutex = c.in_ok-place.ensures.keys ∙ ap (insert_key int_eq known) back in
    subst IsTable (sym put) (table_put known c.args.mutex c.requires)

pub returns-clause-learns : goal.returns-clause-learns
returns-clause-learns c =
    let known = c.args.known.now.keys in
    let back : to_z w128 (of_z w128 c.args.mutex) ≡ c.args.mutex = search rules in
    let put : c.insert_full.new.self.keys ≡ insert_key int_eq known c.args.mutex = c.in_ok-place.ensures.keys ∙ ap (insert_key int_eq known) back in
    subst (Learns known) (sym put) (learned_put known c.args.mutex)

pub returns-clause-place : goal.returns-clause-place
returns-clause-place c =
    let s = c.in_ok-place.ensures.stored in
    let back : to_z w128 (of_z w128 c.args.mutex) ≡ c.args.mutex = search rules in
    let equal : int_eq c.args.mutex s.0 ≡ true = ap (λ (v : ℤ). int_eq v s.0) (sym back) ∙ s.2 in
    placed c.insert_full.new.self.keys c.args.mutex s.0 c.in_ok-place.place (returns-clause-table c) s.1 equal
