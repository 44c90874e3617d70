-- A typed source, as the reader of annotations sees it.
use Rattle.std.proofs.Common.{◌≡◌, ℕ, true, List, map, Result, Err, refl, sym, subst}
use Rattle.std.specs.List.{All}
use Rattle.std.specs.Result.{IsErrAnd}
use Rattle.std.proofs.lemmas.Result.{err_from_is_err_and}
use Rattle.c_types_rules.specs.Checked.{Checked}
use Rattle.annot_reader_rules.specs.Notes.{Annotated}
use Rattle.annot_reader.specs.declared.error.InterfaceError.{InterfaceError}
use Rattle.annot_reader.specs.Interface.{Interface}
use Rattle.annot_reader.specs.Interfaces.{IsInterface}
use Rattle.c_syntax.specs.Syntax.{Decls}
use Rattle.c_types_rules.specs.Limits.{all_keep, few_params}
use Rattle.c_types_rules.specs.Sources.{Function as Known, Program}
use Rattle.c_types_program.specs.Declarations.{function_in}
use Rattle.c_types_environment.specs.States.{State}
use Rattle.c_types_expressions.specs.Found.{Stays}
use Rattle.c_types_source.specs.declared.parts.Parts.{Parts as TypedSource}
use Rattle.c_types_source.specs.Sources.{GoesOn, IsTypedSource}
use Rattle.annot_reader.specs.declared.source.Heading.{Heading}
use Rattle.annot_reader.specs.Headings.{AreHeadings, IsHeading, IsTyped}
use Rattle.annot_reader_functions.specs.Seen.{declared_by}
use Rattle.annot_reader.specs.Sources.{IsTypedFunction, interface_in}
use Rattle.annot_reader.proofs.FunctionTypes.{AreFunctionTypes, typed_functions}
use Rattle.annot_reader.proofs.Headings.{typed_all}

module _ (ds : Decls) (p : Program) (s : TypedSource) (t : IsTypedSource ds p s) where
  pub all_typed : All (IsTypedFunction s.env.table) s.functions
  all_typed =
      let typed = typed_functions ds p t.typed in
      let types = subst (λ (gs : List Known). AreFunctionTypes gs) (sym t.is.functions) typed.functions in
      let few = subst (λ (gs : List Known). all_keep few_params gs ≡ true) (sym t.is.functions) typed.few in
      typed_all s.env.table s.functions types few t.is.are_functions

  pub is_typed : (hs : List Heading) → All (IsHeading (declared_by s.env)) hs → AreHeadings (declared_by s.env) hs (map (function_in s.env.table) s.functions) → IsTyped s.tree (declared_by s.env) hs ds p
  is_typed hs numbers functions = record {
    holds = t.holds;
    env = t.is.env;
    numbers = numbers;
    functions = subst (λ (gs : List Known). AreHeadings (declared_by s.env) hs gs) t.is.functions functions;
  }

-- what is declared goes on with more types
pub goes_on : (s : TypedSource) (e : State) → Stays s.env e → GoesOn s (record s { env = e })
goes_on s e k = record { numbers = k.numbers; env = k.env; tree = refl; functions = refl; globals = refl; texts = refl }

-- what a `?` returns
pub raised_rule : (cut : List ℕ) (c : Checked Annotated) (r : Result (TypedSource × Interface) InterfaceError) (e : InterfaceError) → IsErrAnd r (λ v. v ≡ e) → IsInterface cut c (Err e) → IsInterface cut c (interface_in r)
raised_rule cut c r e i h = let p = err_from_is_err_and r i in rw (p.1, p.2) h
