use Rattle.std.proofs.Common.{◌≡◌, None, length, arith}
use Rattle.std.specs.Prelude.{reverse}
use Rattle.std.proofs.lemmas.Option.{get_or_from_slice_get}
use Rattle.c_scopes.specs.Bindings.{newest}
use Rattle.c_scopes.proofs.Ends.{ties_pushed}
use Rattle.c_scopes.proofs.binding.bind.Goals as goal

pub returns-clause-ties : goal.returns-clause-ties
returns-clause-ties g c =
    let old = c.args.bindings.now.items in
    let at : c.len-place.result ≡ length old = omega (arith, c.len-place.ensures, c.args.bindings.now.ok.0) in
    let hides = get_or_from_slice_get c.args.places.now c.args.name (newest c.args.name (reverse old)) None (c.requires.ties.newest_of c.args.name c.requires.name) in
    ties_pushed c.args.places.now old c.push.new.self.items _ c.len-place.result c.in_ok-push.ensures.items c.requires.ties c.requires.name hides at
