use Rattle.std.proofs.Common.{◌≡◌, ℕ, List, sym, ap, ◌∙◌, subst}
use Rattle.marks.specs.Places.{replay_globals, system_globals}
use Rattle.c_types_model.specs.declared.extent.Extent.{Extent}
use Rattle.c_types_structs.specs.Members.{Definitions}
use Rattle.c_types_nodes.specs.Tables.{Table}
use Rattle.c_types_program.specs.declared.text.TextLiteral.{TextLiteral}
use Rattle.isolation_check_rules.specs.Addresses.{addresses_from, first_ends, string_addresses, strings_end}
use Rattle.isolation_check_laws.specs.Fits.{first_in}
use Rattle.isolation_check.specs.Literals.{strings_in}
use Rattle.isolation_check.specs.Objects.{extents_of}
use Rattle.isolation_check.specs.Rows.{AllEnd, AreSmall}
use Rattle.isolation_check.proofs.Places.{all_end, all_small, extents_here}
use Rattle.isolation_check.proofs.objects.lay_out.Goals as goal

pub extents-requires-2-clause-small : goal.extents-requires-2-clause-small
extents-requires-2-clause-small c =
    let p = c.args.program.now in
    let types : c.types-types.result.now ≡ p.table.types = c.types-types.ensures ∙ ap (λ (t : Table). t.types) c.table.ensures.table in
    let extents : c.extents.result.now ≡ p.structs.extents = c.extents.ensures ∙ ap (λ (ds : Definitions). ds.extents) c.structs.ensures.structs in
    let is = extents_here p c.types-types.result.now c.extents.result.now c.globals.result.now types extents c.globals.ensures.globals in
    subst AreSmall (sym is) (all_small 0 (extents_of p) c.requires.fits.small)

pub addresses-requires-clause-fit : goal.addresses-requires-clause-fit
addresses-requires-clause-fit c =
    let p = c.args.program.now in
    let areas = c.args.areas.now in
    let strings = strings_in p.texts in
    let fits = c.requires.fits in
    let types : c.types-types.result.now ≡ p.table.types = c.types-types.ensures ∙ ap (λ (t : Table). t.types) c.table.ensures.table in
    let extents : c.extents.result.now ≡ p.structs.extents = c.extents.ensures ∙ ap (λ (ds : Definitions). ds.extents) c.structs.ensures.structs in
    let sizes : c.deref.result.now ≡ extents_of p =
    c.deref.ensures.value ∙ (c.in_ok-extents.ensures ∙ extents_here p c.types-types.result.now c.extents.result.now c.globals.result.now types extents c.globals.ensures.globals) in
    let end : c.in_ok-offsets.field-0.end ≡ strings_end strings = c.in_ok-offsets.ensures.end ∙ ap (λ (ts : List TextLiteral). strings_end (strings_in ts)) c.texts.ensures in
    let between = c.globals_lie_in_their_areas.ensures strings areas (extents_of p) fits.short fits.small fits.aligned in
    let fit : AllEnd (first_ends strings) areas (extents_of p) = all_end (first_in strings) (first_ends strings) areas (extents_of p) between fits.aligned in
    subst (λ (xs : List Extent). AllEnd (record { constants = c.in_ok-offsets.field-0.end; replay = replay_globals; system = system_globals }) areas xs) (sym sizes)
    (subst (λ (n : ℕ). AllEnd (record { constants = n; replay = replay_globals; system = system_globals }) areas (extents_of p)) (sym end) fit)

pub returns : goal.returns
returns c =
    let p = c.args.program.now in
    let areas = c.args.areas.now in
    let types : c.types-types.result.now ≡ p.table.types = c.types-types.ensures ∙ ap (λ (t : Table). t.types) c.table.ensures.table in
    let extents : c.extents.result.now ≡ p.structs.extents = c.extents.ensures ∙ ap (λ (ds : Definitions). ds.extents) c.structs.ensures.structs in
    let sizes : c.in_ok-extents.extents.items ≡ extents_of p =
    c.in_ok-extents.ensures ∙ extents_here p c.types-types.result.now c.extents.result.now c.globals.result.now types extents c.globals.ensures.globals in
    let end : c.in_ok-offsets.field-0.end ≡ strings_end (strings_in p.texts) = c.in_ok-offsets.ensures.end ∙ ap (λ (ts : List TextLiteral). strings_end (strings_in ts)) c.texts.ensures in
    record {
      strings_at = c.in_ok-offsets.ensures.offsets ∙ ap (λ (ts : List TextLiteral). string_addresses (strings_in ts)) c.texts.ensures;
      globals_at = c.in_ok-globals.ensures
          ∙ (ap (λ (xs : List Extent). addresses_from (record { constants = c.in_ok-offsets.field-0.end; replay = replay_globals; system = system_globals }) areas xs) (c.deref.ensures.value ∙ sizes)
          ∙ ap (λ (n : ℕ). addresses_from (record { constants = n; replay = replay_globals; system = system_globals }) areas (extents_of p)) end);
      sizes = sizes;
    }
