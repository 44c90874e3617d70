use Rattle.std.proofs.Common.{◌≡◌, ℕ, List, Option, Result, Ok, Err, OnErr, length, ap, sym, subst, ◌∙◌, arith}
use Rattle.std.specs.Prelude.{reverse}
use Rattle.c_scopes.specs.Bindings.{AreKept, Ties}
use Rattle.c_scopes.proofs.Starts.{kept_longer, kept_declared, written}
use Rattle.c_scopes.proofs.scopes.Scopes.declare.Goals as goal

on_err : {T E P : Type 0} (r : Result T E) → P → OnErr r P
on_err (Ok x) p = tt
on_err (Err e) p = p

pub invariant_of-self : goal.invariant_of-self
invariant_of-self g c =
    let s = c.self.inside in
    (kept_longer s.names.keys c.number_of.new.names.keys s.places.items c.number_of.new.places.items (reverse s.starts.items) s.bindings.items c.self.invariant c.number_of.ensures.names c.number_of.ensures.places c.number_of.ensures.room).0

pub returns-in_err-number-clause-err : goal.returns-in_err-number-clause-err
returns-in_err-number-clause-err g c =
    let s = c.self.inside in
    let longer = kept_longer s.names.keys c.number_of.new.names.keys s.places.items c.number_of.new.places.items (reverse s.starts.items) s.bindings.items c.self.invariant c.number_of.ensures.names c.number_of.ensures.places c.number_of.ensures.room in
    on_err c.from_residual.result (longer.1 ∙ c.self.view_is)

pub bind-requires-clause-ties : goal.bind-requires-clause-ties
bind-requires-clause-ties g c =
    let s = c.self.inside in
    let longer = kept_longer s.names.keys c.number_of.new.names.keys s.places.items c.number_of.new.places.items (reverse s.starts.items) s.bindings.items c.self.invariant c.number_of.ensures.names c.number_of.ensures.places c.number_of.ensures.room in
    let holds : List (Option ℕ) → Type 0 = λ ps. Ties ps (reverse s.bindings.items) in
    subst holds (sym c.deref_mut.ensures.value) longer.0.ties

pub invariant_of-self-2 : goal.invariant_of-self-2
invariant_of-self-2 g c =
    let s = c.self.inside in
    let names = c.number_of.new.names.keys in
    let places = c.number_of.new.places.items in
    let starts = reverse s.starts.items in
    let new = c.bind.new.places in
    let longer = kept_longer s.names.keys names s.places.items places starts s.bindings.items c.self.invariant c.number_of.ensures.names c.number_of.ensures.places c.number_of.ensures.room in
    let size : length new ≡ length places = omega (arith, c.bind.auto.places, ap length c.deref_mut.ensures.value) in
    let room : length new ≡ c.number_of.new.places.len = omega (arith, size, c.number_of.new.places.ok.0) in
    let holds : List (Option ℕ) → Type 0 = λ ps. AreKept names ps starts c.bind.new.bindings.items in
    subst holds (sym (written c.number_of.new.places.len new places room))
    (kept_declared c.bind.result names places new starts s.bindings.items c.bind.new.bindings.items c.args.self.now c.args.name.now c.in_ok-number.number c.args.meaning longer.0 (longer.1 ∙ c.self.view_is) c.in_ok-number.ensures.number c.bind.ensures.bound c.bind.ensures.err c.bind.ensures.ties size).0

pub returns-clause-declared : goal.returns-clause-declared
returns-clause-declared g c =
    let s = c.self.inside in
    let names = c.number_of.new.names.keys in
    let places = c.number_of.new.places.items in
    let starts = reverse s.starts.items in
    let new = c.bind.new.places in
    let longer = kept_longer s.names.keys names s.places.items places starts s.bindings.items c.self.invariant c.number_of.ensures.names c.number_of.ensures.places c.number_of.ensures.room in
    let size : length new ≡ length places = omega (arith, c.bind.auto.places, ap length c.deref_mut.ensures.value) in
    (kept_declared c.bind.result names places new starts s.bindings.items c.bind.new.bindings.items c.args.self.now c.args.name.now c.in_ok-number.number c.args.meaning longer.0 (longer.1 ∙ c.self.view_is) c.in_ok-number.ensures.number c.bind.ensures.bound c.bind.ensures.err c.bind.ensures.ties size).1

pub returns-clause-err : goal.returns-clause-err
returns-clause-err g c =
    let s = c.self.inside in
    let names = c.number_of.new.names.keys in
    let places = c.number_of.new.places.items in
    let starts = reverse s.starts.items in
    let new = c.bind.new.places in
    let longer = kept_longer s.names.keys names s.places.items places starts s.bindings.items c.self.invariant c.number_of.ensures.names c.number_of.ensures.places c.number_of.ensures.room in
    let size : length new ≡ length places = omega (arith, c.bind.auto.places, ap length c.deref_mut.ensures.value) in
    (kept_declared c.bind.result names places new starts s.bindings.items c.bind.new.bindings.items c.args.self.now c.args.name.now c.in_ok-number.number c.args.meaning longer.0 (longer.1 ∙ c.self.view_is) c.in_ok-number.ensures.number c.bind.ensures.bound c.bind.ensures.err c.bind.ensures.ties size).2
