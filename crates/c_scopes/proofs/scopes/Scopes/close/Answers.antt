use Rattle.std.proofs.Common.{◌≡◌, ℕ, List, Option, length, ap, sym, subst, ◌∙◌, arith}
use Rattle.std.specs.Prelude.{reverse}
use Rattle.c_scopes.specs.Bindings.{AreKept}
use Rattle.c_scopes.proofs.Starts.{kept_closed, reverse_push, written}
use Rattle.c_scopes.proofs.scopes.Scopes.close.Goals as goal

pub invariant_of-self : goal.invariant_of-self
invariant_of-self g c =
    let s = c.self.inside in
    let names = s.names.keys in
    let rest = reverse c.pop.new.self.items in
    let new = c.take_back.new.places in
    let shorter : List ℕ → Type 0 = λ ss. AreKept names s.places.items ss s.bindings.items in
    let kept = subst shorter (ap reverse c.in-Some.ensures.items ∙ reverse_push c.pop.new.self.items c.in-Some.start) c.self.invariant in
    let size : length new ≡ length s.places.items = omega (arith, c.take_back.auto.places, ap length c.deref_mut.ensures.value) in
    let holds : List (Option ℕ) → Type 0 = λ ps. AreKept names ps rest c.take_back.new.bindings.items in
    let room : length new ≡ s.places.len = omega (arith, size, s.places.ok.0) in
    subst holds (sym (written s.places.len new s.places.items room))
    (kept_closed names s.places.items new c.in-Some.start rest s.bindings.items c.take_back.new.bindings.items kept c.take_back.ensures.rest c.take_back.ensures.ties size).0
