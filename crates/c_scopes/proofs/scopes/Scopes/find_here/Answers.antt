use Rattle.std.proofs.Common.{◌≡◌, ◌<◌, ◌≤◌, None, Some, sym, ap, ◌∙◌, arith}
use Rattle.std.specs.Prelude.{reverse}
use Rattle.c_scopes.specs.Bindings.{innermost_start}
use Rattle.c_scopes.proofs.Meanings.{found_here_is, nothing_at, something_at, from_below, from_above}
use Rattle.c_scopes.proofs.scopes.Scopes.find_here.Goals as goal

pub returns-in_err-place : goal.returns-in_err-place
returns-in_err-place g c =
    let s = c.self.inside in
    c.from_residual.ensures
    ∙ sym (found_here_is c.args.name.now s.names.keys s.places.items c.deref.result.now (reverse s.starts.items) s.bindings.items c.args.self.now None c.self.invariant c.self.view_is c.deref.ensures.value c.in_err-place.ensures)

pub returns-then-place-last_start : goal.returns-then-place-last_start
returns-then-place-last_start g c =
    let s = c.self.inside in
    let p = c.in_ok-place.place in
    let from = innermost_start (reverse s.starts.items) in
    let found = found_here_is c.args.name.now s.names.keys s.places.items c.deref.result.now (reverse s.starts.items) s.bindings.items c.args.self.now (Some p) c.self.invariant c.self.view_is c.deref.ensures.value c.in_ok-place.ensures in
    let start : c.last_start.result ≡ from = c.last_start.ensures ∙ ap (λ ss. innermost_start (reverse ss)) c.deref-2.ensures.value in
    let lt : p < from = omega (arith, start, c.if-place-last_start.true) in
    sym (found ∙ from_below from p s.bindings.items lt)

pub returns-in_err-binding : goal.returns-in_err-binding
returns-in_err-binding g c =
    let s = c.self.inside in
    let p = c.in_ok-place.place in
    let from = innermost_start (reverse s.starts.items) in
    let found = found_here_is c.args.name.now s.names.keys s.places.items c.deref.result.now (reverse s.starts.items) s.bindings.items c.args.self.now (Some p) c.self.invariant c.self.view_is c.deref.ensures.value c.in_ok-place.ensures in
    let start : c.last_start.result ≡ from = c.last_start.ensures ∙ ap (λ ss. innermost_start (reverse ss)) c.deref-2.ensures.value in
    let le : from ≤ p = omega (arith, start, c.if-place-last_start.false) in
    c.from_residual-in_err-binding.ensures
    ∙ sym (found ∙ (from_above from p s.bindings.items le ∙ nothing_at s.bindings.items c.deref-3.result.now p c.deref-3.ensures.value c.in_err-binding.ensures.lookup.0))

pub returns : goal.returns
returns g c =
    let s = c.self.inside in
    let p = c.in_ok-place.place in
    let from = innermost_start (reverse s.starts.items) in
    let found = found_here_is c.args.name.now s.names.keys s.places.items c.deref.result.now (reverse s.starts.items) s.bindings.items c.args.self.now (Some p) c.self.invariant c.self.view_is c.deref.ensures.value c.in_ok-place.ensures in
    let start : c.last_start.result ≡ from = c.last_start.ensures ∙ ap (λ ss. innermost_start (reverse ss)) c.deref-2.ensures.value in
    let le : from ≤ p = omega (arith, start, c.if-place-last_start.false) in
    sym (found ∙ (from_above from p s.bindings.items le ∙ something_at s.bindings.items c.deref-3.result.now p c.in_ok-binding.binding.now c.deref-3.ensures.value c.in_ok-binding.ensures.lookup.0 c.in_ok-binding.ensures.lookup.1))
