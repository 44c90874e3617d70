use Rattle.std.proofs.Common.{◌≡◌, ◌+◌, ◌++◌, List, map, sym, ap, ◌∙◌, arith}
use Rattle.c_types_model.specs.Types.{CType}
use Rattle.c_types_table.specs.declared.ty.Ty.{Ty}
use Rattle.c_types_table.specs.Tables.{type_at}
use Rattle.c_types_program.specs.Declarations.{function_in}
use Rattle.c_lower_layout.specs.Sources.{fixed_types, place_among, sig_in, types_of_functions}
use Rattle.c_lower_layout.specs.Sigs.{declared_types}
use Rattle.c_lower_layout.proofs.Placing.{functions_declared}
use Rattle.c_lower_layout.proofs.index.Index.sig.Goals as goal

pub returns-in-Some : goal.returns-in-Some
unfolding sig_in
returns-in-Some c =
    let us = types_of_functions (map (function_in c.args.self.now.table) c.args.self.now.functions) in
    sym (c.in-Some.ensures us) ∙ ap (λ (ts : List Ty). place_among (type_at ts c.args.ty) (fixed_types ++ us)) c.types.ensures

pub returns-in-None : goal.returns-in-None
unfolding sig_in
returns-in-None c =
    let us = types_of_functions (map (function_in c.args.self.now.table) c.args.self.now.functions) in
    let t = type_at c.args.self.now.table.types c.args.ty in
    let same : 8 + place_among t us ≡ place_among t (fixed_types ++ us) =
    sym (ap (λ (ts : List Ty). place_among (type_at ts c.args.ty) (fixed_types ++ us)) (sym c.types.ensures)
    ∙ (c.in-None.ensures us ∙ ap (λ (ts : List Ty). 8 + place_among (type_at ts c.args.ty) us) c.types.ensures)) in
    let place : c.place_of.result + 8 ≡ 8 + place_among t (declared_types c.args.self.now.table.types c.args.self.now.functions) = omega (arith, c.place_of.ensures.place) in
    place ∙ (ap (λ (vs : List CType). 8 + place_among t vs) (sym (functions_declared c.args.self.now.table c.args.self.now.functions)) ∙ same)
