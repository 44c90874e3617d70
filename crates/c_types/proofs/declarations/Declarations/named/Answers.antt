use Rattle.std.proofs.Common.{Err, ap, ◌∙◌}
use Rattle.std.proofs.lemmas.Result.{err_from_is_err_and}
use Rattle.c_types_table.specs.Tables.{type_at}
use Rattle.c_types_expressions.proofs.Specifying.{specified_on}
use Rattle.c_types.proofs.Followed.{going_on}
use Rattle.c_types.proofs.Knowing.{known_specified, known_then, read_on}
use Rattle.c_types.proofs.Naming.{annotations_stop, small_type, sound_two, type_goes_on, type_stops}
use Rattle.c_types.proofs.Parts.{node_of}
use Rattle.c_types.proofs.Quieting.{declares_so}
use Rattle.c_types.proofs.Stepping.{type_there}
use Rattle.c_types.proofs.declarations.Declarations.named.Goals as goal

pub declared_type_after-requires-clause-known : goal.declared_type_after-requires-clause-known
declared_type_after-requires-clause-known c =
    let a = c.args.self.now.env in
    let k = c.in_ok-annotations.ensures.kept in
    specified_on a c.annotations.new.env c.args.tree.now c.args.known.now k.numbers (ap (λ e. e.tags) k.env) (known_specified c.args.tree.now a c.args.known.now c.requires.known)

pub returns-in_err-annotations-clause-agrees : goal.returns-in_err-annotations-clause-agrees
returns-in_err-annotations-clause-agrees c =
    let q = err_from_is_err_and c.from_residual.result c.from_residual.ensures.1 in
    let d = c.args.self.now in
    let N = c.args.tree.now in
    let e = node_of N c.args.id c.requires.id in
    λ y z. declares_so d (going_on d c.annotations.new.env) _ c.from_residual.result c.in_err-annotations.field-0.0 (q.1 ∙ ap Err q.2)
    (annotations_stop N c.args.id e.0 e.1 d c.requires.sound c.annotations.new.env c.in_err-annotations.field-0.0 c.in_err-annotations.ensures.agrees y z)

pub returns-in_err-ty-clause-agrees : goal.returns-in_err-ty-clause-agrees
returns-in_err-ty-clause-agrees c =
    let q = err_from_is_err_and c.from_residual-in_err-ty.result c.from_residual-in_err-ty.ensures.1 in
    let d = c.args.self.now in
    let N = c.args.tree.now in
    let e = node_of N c.args.id c.requires.id in
    λ y z. declares_so d (going_on d c.declared_type_after.new.env) _ c.from_residual-in_err-ty.result c.in_err-ty.field-0.0 (q.1 ∙ ap Err q.2)
    (type_stops N c.args.id e.0 e.1 d c.requires.sound c.annotations.new.env c.in_ok-annotations.ensures.agrees c.in_ok-annotations.ensures.kept c.declared_type_after.new.env c.in_err-ty.field-0.0 c.in_err-ty.ensures.agrees y z)

pub typed-requires-clause-ty : goal.typed-requires-clause-ty
typed-requires-clause-ty c = type_there _ _ c.declared_type_after.new.env.table _ _ (c.in_ok-ty.ensures.agrees c.requires.id.0 c.requires.id.1)

pub typed-requires-clause-sound : goal.typed-requires-clause-sound
typed-requires-clause-sound c =
    let N = c.args.tree.now in
    let e = node_of N c.args.id c.requires.id in
    sound_two N c.args.id e.0 e.1 c.args.self.now c.requires.sound c.annotations.new.env c.in_ok-annotations.ensures.agrees c.in_ok-annotations.ensures.kept c.declared_type_after.new.env c.in_ok-ty.ty c.in_ok-ty.ensures.agrees c.in_ok-ty.ensures.kept c.requires.id.0 c.requires.id.1

pub returns-clause-agrees : goal.returns-clause-agrees
returns-clause-agrees c =
    let N = c.args.tree.now in
    let e = node_of N c.args.id c.requires.id in
    type_goes_on N c.args.id e.0 e.1 c.args.self.now c.requires.sound c.annotations.new.env c.in_ok-annotations.ensures.agrees c.in_ok-annotations.ensures.kept c.declared_type_after.new.env c.in_ok-ty.ty c.in_ok-ty.ensures.agrees c.in_ok-ty.ensures.kept c.typed.new.self c.typed.result c.typed.ensures

pub returns-clause-known : goal.returns-clause-known
returns-clause-known c =
    let N = c.args.tree.now in
    let d = c.args.self.now in
    let e = node_of N c.args.id c.requires.id in
    let s = c.annotations.new.env in
    let u = c.declared_type_after.new.env in
    let y = c.requires.id.0 in
    let z = c.requires.id.1 in
    let sound = sound_two N c.args.id e.0 e.1 d c.requires.sound s c.in_ok-annotations.ensures.agrees c.in_ok-annotations.ensures.kept u c.in_ok-ty.ty c.in_ok-ty.ensures.agrees c.in_ok-ty.ensures.kept y z in
    let small = small_type N c.args.id e.0 e.1 d c.requires.sound s c.in_ok-annotations.ensures.agrees c.in_ok-annotations.ensures.kept u c.in_ok-ty.ty c.in_ok-ty.ensures.agrees c.in_ok-ty.ensures.kept y z in
    known_then N c.args.id (going_on d u) c.typed.new.self sound (type_at u.table.types c.in_ok-ty.ty) c.declared_type_after.new.known y c.typed.result c.in_ok-ty.ensures.of c.in_ok-ty.ensures.known (read_on N c.args.id s u c.in_ok-ty.ensures.kept.env small c.in_ok-annotations.ensures.read) (c.typed.ensures y z)
