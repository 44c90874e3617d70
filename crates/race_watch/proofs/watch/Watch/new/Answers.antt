use Rattle.std.proofs.Common.{◌≡◌, ◌∙◌, ℕ, Bool, refl, arith}
use Rattle.std.proofs.Math.ListN.{replicate}
use Rattle.race_watch.specs.Tables.{listed, cells_of}
use Rattle.race_watch.proofs.Epochs.{listed_is}
use Rattle.race_watch.proofs.Happens.{begun, reached_first}
use Rattle.race_watch.proofs.watch.Watch.new.Goals as goal

pub returns-clause-stands : goal.returns-clause-stands
returns-clause-stands c =
    let m : c.in_ok-made.made.items ≡ replicate c.args.threads 0 = c.in_ok-made.ensures.items_if_clones_equal (λ y e. e) in
    let z : (v : Bool) (u x : ℕ) → listed (cells_of c.in_ok-tables.tables) v u x ≡ 0 = λ v u x. listed_is c.in_ok-tables.tables v u x c.in_ok-tables.ensures.tables ∙ c.in_ok-tables.ensures.zeros v u x in
    begun _ c.args.threads refl m c.in_ok-rows.ensures c.new-2.ensures.empty c.new-3.ensures.items z

pub invariant_of-result : goal.invariant_of-result
invariant_of-result c =
    let m : c.in_ok-made.made.items ≡ replicate c.args.threads 0 = c.in_ok-made.ensures.items_if_clones_equal (λ y e. e) in
    let z : (v : Bool) (u x : ℕ) → listed (cells_of c.in_ok-tables.tables) v u x ≡ 0 = λ v u x. listed_is c.in_ok-tables.tables v u x c.in_ok-tables.ensures.tables ∙ c.in_ok-tables.ensures.zeros v u x in
    (reached_first _ c.args.threads c.requires (begun _ c.args.threads refl m c.in_ok-rows.ensures c.new-2.ensures.empty c.new-3.ensures.items z) m c.in_ok-rows.ensures c.new-3.ensures.items z, c.in_ok-tables.ensures.tables, omega (arith, c.in_ok-tables.ensures.many, c.in_ok-rows.ensures.long))
