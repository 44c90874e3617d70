use Rattle.std.proofs.Common.{◌≡◌, ap, sym, ◌∙◌}
use Rattle.std.proofs.lemmas.Slice.Eq.{bytes_eq-Decides}
use Rattle.sys_script_lines.specs.Externals.{external_named, kept_at}
use Rattle.sys_script_lines.proofs.Names.{named_kept}
use Rattle.sys_script_lines.proofs.externals.Externals.at.Goals as goal

pub returns-then-eq : goal.returns-then-eq
returns-then-eq c =
    let name = c.args.name.now in
    let es = c.self.inside.by_name.entries in
    let same : c.in_ok-key.key.now.items ≡ name = sym c.as_slice.ensures.value ∙ (bytes_eq-Decides c.as_slice.result.now name).0 (sym c.if-eq.ensures) in
    ap (external_named name) (sym c.self.view_is)
    ∙ (named_kept name es
    ∙ (ap (λ n. kept_at n es) (sym same) ∙ c.in_ok-key.ensures.value))
