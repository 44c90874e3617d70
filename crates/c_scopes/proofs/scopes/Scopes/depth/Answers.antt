use Rattle.std.proofs.Common.{length, ap, arith}
use Rattle.std.specs.Prelude.{reverse}
use Rattle.std.proofs.lemmas.List.{length-reverse}
use Rattle.c_scopes.proofs.Starts.{depth_is}
use Rattle.c_scopes.proofs.scopes.Scopes.depth.Goals as goal

pub returns : goal.returns
returns g c =
    let s = c.self.inside in
    let deep = depth_is s.names.keys (reverse s.starts.items) s.bindings.items in
    let turned = length-reverse s.starts.items in
    let view = ap length c.self.view_is in
    omega (arith, deep, turned, view, c.len.ensures, s.starts.ok.0)
