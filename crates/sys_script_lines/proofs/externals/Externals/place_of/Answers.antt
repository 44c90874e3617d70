use Rattle.std.proofs.Common.{ap, sym, ◌∙◌}
use Rattle.std.specs.Option.{option_map}
use Rattle.sys_script_lines.specs.Externals.{external_named}
use Rattle.sys_script_lines.proofs.Names.{named_kept}
use Rattle.sys_script_lines.proofs.externals.Externals.place_of.Goals as goal

pub returns-in_err-place : goal.returns-in_err-place
returns-in_err-place c =
    let name = c.args.name.now in
    ap (option_map (λ x. x.1.now)) c.from_residual.ensures
    ∙ (c.in_err-place.ensures.value ∙ (sym (named_kept name c.self.inside.by_name.entries) ∙ ap (external_named name) c.self.view_is))

pub returns : goal.returns
returns c =
    let name = c.args.name.now in
    c.in_ok-place.ensures.value ∙ (sym (named_kept name c.self.inside.by_name.entries) ∙ ap (external_named name) c.self.view_is)
