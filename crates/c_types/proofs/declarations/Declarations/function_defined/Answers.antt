use Rattle.std.proofs.Common.{◌≡◌, length, true, false, Err, is_some, map, sym, ap, ◌∙◌, refl, subst}
use Rattle.std.specs.Vec.{with_items}
use Rattle.std.specs.List.{All}
use Rattle.std.proofs.lemmas.List.{with_items_is}
use Rattle.std.proofs.lemmas.Result.{err_from_is_err_and}
use Rattle.c_syntax.specs.Stands.{StandParts}
use Rattle.c_types_table.specs.Tables.{type_at}
use Rattle.c_types_rules.specs.Sources.{body_at, is_main, with_body}
use Rattle.c_types_rules.specs.Expressions.{declared_name}
use Rattle.c_types_program.specs.Declarations.{IsFunction, body_in, function_in}
use Rattle.c_types_expressions.specs.Walks.{AreParts}
use Rattle.c_types.specs.States.{program_of}
use Rattle.c_types.proofs.Followed.{going_on}
use Rattle.c_types.proofs.FunctionSteps.{another_name, body_given, body_stops, body_twice, main_broken, of_main}
use Rattle.c_types.proofs.Naming.{IsProgramOf}
use Rattle.c_types.proofs.Parts.{decl_inside, parts_of}
use Rattle.c_types.proofs.Stepping.{failed_so}
use Rattle.c_types.proofs.declarations.Declarations.function_defined.Goals as goal
use Rattle.c_types.proofs.declarations.Declarations.function_defined.Goals.{else-eq-via-then-eq+else-not-is_main_type, else-eq-via-else-eq}

pub decl-decl-requires : goal.decl-decl-requires
decl-decl-requires c = record { inside = decl_inside c.args.tree.now c.args.id c.requires.id }

pub returns-then-has_body : goal.returns-then-has_body
returns-then-has_body c =
    let d = c.args.self.now in
    let there : is_some (body_at (program_of d).functions c.args.place) ≡ true =
    ap (λ fs. is_some (body_at (map (function_in d.env.table) fs) c.args.place)) (sym c.deref.ensures.value) ∙ (sym (c.has_body.ensures d.env.table) ∙ c.if-has_body.true) in
    λ y b z s. body_twice c.args.tree.now c.args.id c.decl-decl.result.now c.decl-decl.ensures.node d c.args.place (type_at d.env.table.types c.args.ty) (declared_name c.decl-decl.result.now.name) refl there y b z

pub returns-then-not-is_main_type : goal.returns-then-not-is_main_type
returns-then-not-is_main_type c =
    let d = c.args.self.now in
    let t = type_at d.env.table.types c.args.ty in
    let once : is_some (body_at (program_of d).functions c.args.place) ≡ false =
    ap (λ fs. is_some (body_at (map (function_in d.env.table) fs) c.args.place)) (sym c.deref.ensures.value) ∙ (sym (c.has_body.ensures d.env.table) ∙ c.if-has_body.false) in
    let broken : is_main c.name_of.result.now t ≡ false = of_main c.name_of.result.now c.as_slice.result.now c.eq.result t c.is_main_type.result c.as_slice.ensures c.eq.ensures c.if-eq.true c.is_main_type.ensures ∙ c.if-not-is_main_type.true in
    λ y b z s. main_broken c.args.tree.now c.args.id c.decl-decl.result.now c.decl-decl.ensures.node d c.args.place t c.name_of.result.now c.name_of.ensures once broken y b z

pub body-requires-clause-parts : goal.body-requires-clause-parts
body-requires-clause-parts c = subst (AreParts c.args.tree.now) (sym c.as_slice-2.ensures.items) (parts_of c.args.tree.now c.args.id c.decl-decl.result.now c.requires.id c.decl-decl.ensures.node)

pub returns-in_err-body : goal.returns-in_err-body
returns-in_err-body c =
    let q = err_from_is_err_and c.from_residual.result c.from_residual.ensures.1 in
    let N = c.args.tree.now in
    let d = c.args.self.now in
    let t = type_at d.env.table.types c.args.ty in
    let new = going_on d c.body.new.env in
    let once : is_some (body_at (program_of d).functions c.args.place) ≡ false =
    ap (λ fs. is_some (body_at (map (function_in d.env.table) fs) c.args.place)) (sym c.deref.ensures.value) ∙ (sym (c.has_body.ensures d.env.table) ∙ c.if-has_body.false) in
    let kept : is_main c.name_of.result.now t ≡ true =
    elim c.else-eq.branch [
      | else-eq-via-then-eq+else-not-is_main_type w ↦ of_main c.name_of.result.now c.as_slice.result.now c.eq.result t w.is_main_type.result c.as_slice.ensures c.eq.ensures w.if-eq.true w.is_main_type.ensures ∙ w.if-not-is_main_type.false
      | else-eq-via-else-eq w ↦ another_name c.name_of.result.now c.as_slice.result.now c.eq.result t c.as_slice.ensures c.eq.ensures w.if-eq.false
    ] in
    λ y b z s. failed_so d new (IsProgramOf new) _ c.from_residual.result c.in_err-body.field-0.0 (q.1 ∙ ap Err q.2)
    (body_stops N c.args.id c.decl-decl.result.now c.decl-decl.ensures.node d c.args.place t c.name_of.result.now c.name_of.ensures once kept c.requires.sound c.body.new.env c.args.block c.in_err-body.field-0.0
    (λ ps x m o. c.in_err-body.ensures.agrees ps x (subst (λ v. StandParts N v ps) (sym c.as_slice-2.ensures.items) m) o) y b z s)

pub returns : goal.returns
returns c =
    let N = c.args.tree.now in
    let d = c.args.self.now in
    let t = type_at d.env.table.types c.args.ty in
    let once : is_some (body_at (program_of d).functions c.args.place) ≡ false =
    ap (λ fs. is_some (body_at (map (function_in d.env.table) fs) c.args.place)) (sym c.deref.ensures.value) ∙ (sym (c.has_body.ensures d.env.table) ∙ c.if-has_body.false) in
    let kept : is_main c.name_of.result.now t ≡ true =
    elim c.else-eq.branch [
      | else-eq-via-then-eq+else-not-is_main_type w ↦ of_main c.name_of.result.now c.as_slice.result.now c.eq.result t w.is_main_type.result c.as_slice.ensures c.eq.ensures w.if-eq.true w.is_main_type.ensures ∙ w.if-not-is_main_type.false
      | else-eq-via-else-eq w ↦ another_name c.name_of.result.now c.as_slice.result.now c.eq.result t c.as_slice.ensures c.eq.ensures w.if-eq.false
    ] in
    let items : (with_items d.functions c.set_body.new.functions).items ≡ c.set_body.new.functions = with_items_is d.functions c.set_body.new.functions (c.set_body.auto.functions ∙ (ap length c.deref_mut.ensures.value ∙ sym d.functions.ok.0)) in
    body_given N c.args.id c.decl-decl.result.now c.decl-decl.ensures.node d c.args.place t c.name_of.result.now c.name_of.ensures once kept c.requires.sound c.body.new.env c.args.block c.in_ok-body.body
    (λ ps x m o. c.in_ok-body.ensures.agrees ps x (subst (λ v. StandParts N v ps) (sym c.as_slice-2.ensures.items) m) o) c.in_ok-body.ensures.kept (record (going_on d c.body.new.env) { functions = with_items d.functions c.set_body.new.functions }) refl
    (λ v. ap (map (function_in v)) items ∙ (c.set_body.ensures.given v ∙ ap (λ fs. with_body (map (function_in v) fs) c.args.place (body_in v c.in_ok-body.body)) c.deref_mut.ensures.value))
    (λ v b f. subst (All (IsFunction v)) (sym items) (c.set_body.ensures.sound v b (subst (All (IsFunction v)) (sym c.deref_mut.ensures.value) f)))
