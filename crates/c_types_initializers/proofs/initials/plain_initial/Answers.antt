use Rattle.std.proofs.Common.{◌≡◌, List, ap, ◌∙◌, refl, subst}
use Rattle.c_types_environment.specs.States.{notes_of}
use Rattle.c_types_table.specs.declared.ty.Ty.{Ty}
use Rattle.c_types_table.specs.Tables.{made, type_at, types_of}
use Rattle.c_types_rules.specs.Initials.{plain_initial}
use Rattle.c_types_initializers.proofs.Starts.{expr_inside}
use Rattle.c_types_initializers.specs.Values.{IsInitial}
use Rattle.c_types_initializers.proofs.Plain.{scalar_broken, scalar_found}
use Rattle.c_types_initializers.proofs.Scalars.{handed_on}
use Rattle.c_types_initializers.proofs.initials.plain_initial.Goals as goal

pub expr-requires : goal.expr-requires
expr-requires c = record { inside = expr_inside c.args.tree.now c.args.id c.requires.id }

pub returns-in_err-known-in_default : goal.returns-in_err-known-in_default
returns-in_err-known-in_default c =
    let a = c.args.env.now in
    let b = c.known.new.env in
    let n = c.get.result.now in
    let wrong = c.in_err-known-in_default.field-0.0 in
    let same : c.types.result.now ≡ a.table.types = c.types.ensures ∙ ap (λ t. t.types) c.table.ensures in
    let P : List Ty → Type 0 = λ z. made (types_of z) n ≡ type_at z c.args.ty in
    record {
      agrees = λ x h. handed_on (notes_of a) (notes_of b) IsInitial (plain_initial a.env (type_at a.table.types c.args.ty) x) c.from_residual.result wrong c.from_residual.ensures.1
          (scalar_broken a b x (types_of a.table.types) n (type_at a.table.types c.args.ty) (subst P same c.get.ensures.meaning) (λ e l q. c.in_default.not-Array e l q) (λ s q. c.in_default.not-Struct s q) wrong (c.in_err-known-in_default.ensures.agrees x h));
      kept = c.in_err-known-in_default.ensures.kept;
    }

pub returns-in_ok-known-in_default : goal.returns-in_ok-known-in_default
returns-in_ok-known-in_default c =
    let a = c.args.env.now in
    let n = c.get.result.now in
    let same : c.types.result.now ≡ a.table.types = c.types.ensures ∙ ap (λ t. t.types) c.table.ensures in
    let P : List Ty → Type 0 = λ z. made (types_of z) n ≡ type_at z c.args.ty in
    record {
      agrees = λ x h. scalar_found a c.known.new.env x (types_of a.table.types) n (type_at a.table.types c.args.ty) (subst P same c.get.ensures.meaning) (λ e l q. c.in_default.not-Array e l q) (λ s q. c.in_default.not-Struct s q) c.in_ok-known-in_default.field-0 _ refl (c.in_ok-known-in_default.ensures.agrees x h);
      kept = c.in_ok-known-in_default.ensures.kept;
    }
