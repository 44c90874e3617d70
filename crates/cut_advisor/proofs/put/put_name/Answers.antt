use Rattle.std.proofs.Common.{sym, ap, ◌∙◌}
use Rattle.cut_advisor.specs.CutNodes.{texts_of}
use Rattle.cut_advisor.proofs.CutLists.{put_new, put_there}
use Rattle.cut_advisor.proofs.put.put_name.Goals as goal

pub returns-then-contains : goal.returns-then-contains
returns-then-contains c = put_there c.args.name.now c.args.names.now.keys (sym c.contains.ensures ∙ c.if-contains.true)

pub returns : goal.returns
returns c =
    ap texts_of c.in_ok-insert.ensures.keys ∙ put_new c.args.name.now c.in_ok-copy.copy c.args.names.now.keys c.in_ok-copy.ensures.items (sym c.contains.ensures ∙ c.if-contains.false)
