use Rattle.std.proofs.Common.{◌≡◌, Some, ap, ◌∙◌}
use Rattle.std.proofs.lemmas.Result.{IfOk-weaker}
use Rattle.c_types_nodes.specs.Tables.{made_in, typed_at}
use Rattle.c_types_nodes.proofs.Growing.{held, made_grown}
use Rattle.c_types_nodes.proofs.table.TypedTable.add.Goals as goal

pub put-requires-clause-parts : goal.put-requires-clause-parts
put-requires-clause-parts c = held c.args.self.now c.own_type.new.self c.args.node c.own_type.ensures.kept c.requires.parts

pub returns-clause-added : goal.returns-clause-added
returns-clause-added c =
    IfOk-weaker c.put.result (λ id. typed_at c.put.new.self id ≡ Some (made_in c.own_type.new.self c.args.node)) (λ id. typed_at c.put.new.self id ≡ Some (made_in c.args.self.now c.args.node))
    (λ id h. h ∙ ap Some (made_grown c.args.self.now c.own_type.new.self c.args.node c.own_type.ensures.kept c.requires.parts))
    c.put.ensures.added
