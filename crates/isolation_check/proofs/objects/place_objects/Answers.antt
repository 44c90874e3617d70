use Rattle.std.proofs.Common.{◌≡◌, ℕ, List, length, map, sym, ap, ◌∙◌, subst, arith}
use Rattle.marks.specs.Places.{constants}
use Rattle.c_types_model.specs.declared.extent.Extent.{Extent}
use Rattle.c_types_program.specs.declared.global.Global.{Global}
use Rattle.c_types_program.specs.declared.text.TextLiteral.{TextLiteral}
use Rattle.c_types_program.specs.Declarations.{Declared, global_in}
use Rattle.isolation_check_rules.specs.Addresses.{first_ends}
use Rattle.isolation_check_rules.specs.Places.{addresses_of, inits}
use Rattle.isolation_check_images.specs.Given.{IsSource}
use Rattle.isolation_check.specs.Literals.{ended, strings_in}
use Rattle.isolation_check.specs.Objects.{extents_of}
use Rattle.isolation_check.proofs.Places.{addresses_length, extents_many, rows_length}
use Rattle.isolation_check.proofs.objects.place_objects.Goals as goal

pub global_places-requires-clause-addresses : goal.global_places-requires-clause-addresses
global_places-requires-clause-addresses c =
    let p = c.args.program.now in
    let l = c.in_ok-layout.ensures in
    let at = ap (λ (ns : List ℕ). length ns) (c.deref-2.ensures.value ∙ l.globals_at) in
    let many = extents_many p in
    let here = ap (λ (gs : List Global). length gs) c.globals.ensures.globals in
    let same : length c.args.areas.now ≡ length (extents_of p) = omega (arith, many, c.requires.areas) in
    omega (arith, at, addresses_length (first_ends (strings_in p.texts)) c.args.areas.now (extents_of p) same, here, c.requires.areas)

pub global_places-requires-clause-extents : goal.global_places-requires-clause-extents
global_places-requires-clause-extents c =
    ap (λ (xs : List Extent). length xs) (c.deref-3.ensures.value ∙ c.in_ok-layout.ensures.sizes)
    ∙ (extents_many c.args.program.now ∙ sym (ap (λ (gs : List Global). length gs) c.globals.ensures.globals))

pub string_places-requires : goal.string_places-requires
string_places-requires c =
    ap (λ (ns : List ℕ). length ns) (c.deref-4.ensures.value ∙ c.in_ok-layout.ensures.strings_at)
    ∙ (rows_length constants c.args.program.now.texts ∙ sym (ap (λ (ts : List TextLiteral). length ts) c.texts.ensures))

pub returns : goal.returns
returns c =
    let p = c.args.program.now in
    let l = c.in_ok-layout.ensures in
    let strings_here : addresses_of c.in_ok-strings.strings.items ≡ c.deref.result.now = c.in_ok-strings.ensures.addresses ∙ (c.deref-4.ensures.value ∙ sym c.deref.ensures.value) in
    let globals_here : addresses_of c.in_ok-globals.globals.items ≡ c.deref-2.result.now = c.in_ok-globals.ensures.addresses in
    record {
      strings_at = c.in_ok-strings.ensures.addresses ∙ (c.deref-4.ensures.value ∙ l.strings_at);
      string_bytes = c.in_ok-strings.ensures.bytes ∙ ap (λ (ts : List TextLiteral). map ended (strings_in ts)) c.texts.ensures;
      globals_at = globals_here ∙ (c.deref-2.ensures.value ∙ l.globals_at);
      global_bytes = λ s h.
          (let first : IsSource p c.deref.result.now (addresses_of c.in_ok-globals.globals.items) s = subst (λ (ns : List ℕ). IsSource p ns (addresses_of c.in_ok-globals.globals.items) s) strings_here h in
          let both : IsSource p c.deref.result.now c.deref-2.result.now s = subst (λ (ns : List ℕ). IsSource p c.deref.result.now ns s) globals_here first in
          let here : IsSource c.in_ok-index.index c.deref.result.now c.deref-2.result.now s = subst (λ (d : Declared). IsSource d c.deref.result.now c.deref-2.result.now s) (sym c.in_ok-index.ensures) both in
          c.in_ok-globals.ensures.bytes s here
          ∙ (ap (λ (d : Declared). inits s (map (global_in d.table) c.globals.result.now) c.deref-3.result.now) c.in_ok-index.ensures
          ∙ (ap (λ (gs : List Global). inits s (map (global_in p.table) gs) c.deref-3.result.now) c.globals.ensures.globals
          ∙ ap (inits s (map (global_in p.table) p.globals)) (c.deref-3.ensures.value ∙ l.sizes))));
    }
