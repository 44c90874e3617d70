use Rattle.std.proofs.Common.{ap, sym, ◌∙◌}
use Rattle.sys_script_lines.specs.Externals.{external_named, kept_at, texts}
use Rattle.sys_script_lines.proofs.Names.{named_kept, named_part}
use Rattle.sys_script_lines.proofs.externals.Externals.named_at.Goals as goal

pub returns-clause-named : goal.returns-clause-named
returns-clause-named c =
    let name = c.as_slice.result.now in
    let es = c.self.inside.by_name.entries in
    ap (external_named name) (sym c.self.view_is)
    ∙ (named_kept name es
    ∙ (ap (λ n. kept_at n es) c.as_slice.ensures.value ∙ c.in_ok-name.ensures.value))

pub returns-clause-part : goal.returns-clause-part
returns-clause-part c =
    let name = c.as_slice.result.now in
    let es = c.self.inside.by_name.entries in
    named_part name (texts es) c.in_ok-name.external.now (c.self.invariant c.if-not-self.false)
    (named_kept name es ∙ (ap (λ n. kept_at n es) c.as_slice.ensures.value ∙ c.in_ok-name.ensures.value))
