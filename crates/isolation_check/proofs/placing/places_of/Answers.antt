use Rattle.std.proofs.Common.{◌≡◌, List, length, sym, ap, ◌∙◌}
use Rattle.std.proofs.lemmas.Result.{IfOk-weaker}
use Rattle.std.proofs.lemmas.List.FromFn.{length-map-range_with_len}
use Rattle.c_types_program.specs.declared.global.Global as globals
use Rattle.isolation_check_rules.specs.declared.area.Area.{Area}
use Rattle.isolation_check.specs.Areas.{area_at}
use Rattle.isolation_check.specs.Literals.{literals_in}
use Rattle.isolation_check.proofs.Firsts.{are_areas}
use Rattle.isolation_check.proofs.Whole.{fits_here, globals_many, moved, whole}
use Rattle.isolation_check.proofs.placing.places_of.Goals as goal

pub place_objects-requires-clause-areas : goal.place_objects-requires-clause-areas
place_objects-requires-clause-areas c =
    let count = length c.globals.result.now in
    let g = area_at c.args.mentions.now.functions c.args.sides.above.now c.args.sides.below.now in
    let many = ap (λ (l : List Area). length l) (c.deref.ensures.value ∙ c.in_ok-areas.ensures) in
    many ∙ (length-map-range_with_len g 0 count ∙ ap (λ (gs : List globals.Global). length gs) c.globals.ensures.globals)

pub returns-clause-placed : goal.returns-clause-placed
returns-clause-placed c = λ cut k.
    (let p = c.args.program.now in
    let n = c.args.mentions.now in
    let above = c.args.sides.above.now in
    let below = c.args.sides.below.now in
    let faces = c.args.sides.faces.now in
    let areas = c.deref.result.now in
    let count : length c.globals.result.now ≡ length cut.program.globals = ap (λ (gs : List globals.Global). length gs) c.globals.ensures.globals ∙ globals_many p n above below faces cut k in
    let lie = are_areas p n above below faces cut k (length c.globals.result.now) count areas (c.deref.ensures.value ∙ c.in_ok-areas.ensures) in
    IfOk-weaker c.with_flags.result _ _
    (λ q h. whole p n above below faces cut k areas q lie (moved p areas _ _ _ _ (sym h.strings_are) (sym h.globals_are) c.in_ok-objects.ensures) c.requires.flags h.replay_is h.system_is h.faces_are)
    c.with_flags.ensures)

pub returns-clause-apart : goal.returns-clause-apart
returns-clause-apart c = λ cut k.
    (let p = c.args.program.now in
    let fits = fits_here p c.args.mentions.now c.args.sides.above.now c.args.sides.below.now c.args.sides.faces.now cut k c.requires.fits.fits in
    IfOk-weaker c.with_flags.result _ _ (λ q h. c.placed_objects_lie_apart.ensures cut (literals_in p.texts) q fits h) (returns-clause-placed c cut k))
