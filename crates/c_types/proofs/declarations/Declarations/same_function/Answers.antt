use Rattle.std.proofs.Common.{◌≡◌, ◌↔◌, Bool, ℕ, ◌-◌, IsTrue, List, Ok, Err, refl, sym, ap, ◌∙◌, subst}
use Rattle.c_builtins.specs.Table.{first_source_function}
use Rattle.c_types_table.specs.declared.ty.Ty.{Ty}
use Rattle.c_types_table.specs.Tables.{type_at}
use Rattle.c_types_rules.specs.Checked.{keep}
use Rattle.c_types_operators.specs.Answers.{Agrees}
use Rattle.c_types_operators.specs.declared.error.TypeError.TheVariants.{Rule}
use Rattle.c_types.proofs.FunctionSteps.{same_as_test}
use Rattle.c_types.proofs.declarations.Declarations.same_function.Goals as goal

pub returns-then-is_same : goal.returns-then-is_same
returns-then-is_same c =
    let types = c.args.self.now.env.table.types in
    let there : List Ty → Type 0 = λ ts. IsTrue c.is_same.result ↔ (type_at ts c.args.ty ≡ type_at ts c.args.before) in
    let same = same_as_test c.is_same.result (type_at types c.args.ty) (type_at types c.args.before) (subst there (c.types.ensures ∙ ap (λ t. t.types) c.table.ensures) c.is_same.ensures) in
    let P : Bool → Type 0 = λ b. Agrees (λ _ place. place ≡ c.args.number - first_source_function) (keep c.args.from 1 b) (Ok c.saturating_sub.result) in
    subst P (sym c.if-is_same.true ∙ same) c.saturating_sub.ensures

pub returns-else-is_same : goal.returns-else-is_same
returns-else-is_same c =
    let types = c.args.self.now.env.table.types in
    let there : List Ty → Type 0 = λ ts. IsTrue c.is_same.result ↔ (type_at ts c.args.ty ≡ type_at ts c.args.before) in
    let same = same_as_test c.is_same.result (type_at types c.args.ty) (type_at types c.args.before) (subst there (c.types.ensures ∙ ap (λ t. t.types) c.table.ensures) c.is_same.ensures) in
    let P : Bool → Type 0 = λ b. Agrees {B = ℕ} (λ _ place. place ≡ c.args.number - first_source_function) (keep c.args.from 1 b) (Err (Rule c.args.from 1)) in
    subst P (sym c.if-is_same.false ∙ same) (refl, refl)
