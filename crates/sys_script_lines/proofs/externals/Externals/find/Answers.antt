use Rattle.std.proofs.Common.{ap, sym, ◌∙◌}
use Rattle.sys_script_lines.specs.Externals.{external_named}
use Rattle.sys_script_lines.proofs.Names.{named_kept}
use Rattle.sys_script_lines.proofs.externals.Externals.find.Goals as goal

pub returns : goal.returns
returns c =
    let name = c.args.name.now in
    c.copied.ensures ∙ (c.get.ensures.value ∙ (sym (named_kept name c.self.inside.by_name.entries) ∙ ap (external_named name) c.self.view_is))
