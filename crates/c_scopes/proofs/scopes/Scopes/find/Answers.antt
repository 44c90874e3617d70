use Rattle.std.proofs.Common.{None, Some, sym, ◌∙◌}
use Rattle.std.specs.Prelude.{reverse}
use Rattle.c_scopes.proofs.Meanings.{found_is, nothing_at, something_at}
use Rattle.c_scopes.proofs.scopes.Scopes.find.Goals as goal

pub returns-in_err-place : goal.returns-in_err-place
returns-in_err-place g c =
    let s = c.self.inside in
    c.from_residual.ensures
    ∙ sym (found_is c.args.name.now s.names.keys s.places.items c.deref.result.now (reverse s.starts.items) s.bindings.items c.args.self.now None c.self.invariant c.self.view_is c.deref.ensures.value c.in_err-place.ensures)

pub returns-in_err-binding : goal.returns-in_err-binding
returns-in_err-binding g c =
    let s = c.self.inside in
    let p = c.in_ok-place.place in
    let found = found_is c.args.name.now s.names.keys s.places.items c.deref.result.now (reverse s.starts.items) s.bindings.items c.args.self.now (Some p) c.self.invariant c.self.view_is c.deref.ensures.value c.in_ok-place.ensures in
    c.from_residual-in_err-binding.ensures ∙ sym (found ∙ nothing_at s.bindings.items c.deref-2.result.now p c.deref-2.ensures.value c.in_err-binding.ensures.lookup.0)

pub returns : goal.returns
returns g c =
    let s = c.self.inside in
    let p = c.in_ok-place.place in
    let found = found_is c.args.name.now s.names.keys s.places.items c.deref.result.now (reverse s.starts.items) s.bindings.items c.args.self.now (Some p) c.self.invariant c.self.view_is c.deref.ensures.value c.in_ok-place.ensures in
    sym (found ∙ something_at s.bindings.items c.deref-2.result.now p c.in_ok-binding.binding.now c.deref-2.ensures.value c.in_ok-binding.ensures.lookup.0 c.in_ok-binding.ensures.lookup.1)
