use Rattle.std.proofs.Common.{◌≡◌, ℕ, List, refl, sym, subst}
use Rattle.c_lexer.specs.declared.token.Token.{Token}
use Rattle.c_syntax.specs.Syntax.{Decls}
use Rattle.c_types_rules.specs.Limits.{Outcome, Typed, Rule, Limit, outcome}
use Rattle.stub_operations.specs.declared.purpose.Purpose.{Purpose}
use Rattle.stub_operations.specs.Stubs.{Stubs}
use Rattle.stub_meaning.specs.Fits.{IsFit}
use Rattle.call_operations.specs.Sets.{AreStubs}
use Rattle.call_operations_laws.specs.Codes.{HasFunctions, KeepRules, is_face}
use Rattle.front_end.specs.declared.source.CheckedSource.{CheckedSource}
use Rattle.front_end.specs.Answers.{SaysOf}
use Rattle.front_end_laws.proofs.Listed.{has_functions}
use Rattle.front_end_laws.proofs.Whole.{annotations_keep}
use Rattle.front_end_laws.proofs.stubs.accepted_stubs_fit.Goals as goal

pub returns : goal.returns
returns c = λ bytes cut source purpose s accepted are.
    by cut accepted.right.source.tokens accepted.right.ds source purpose s are (outcome accepted.right.ds) refl accepted.says
  where
    by : (cut : List ℕ) (ts : List Token) (ds : Decls) (source : CheckedSource) (purpose : Purpose) (s : Stubs) →
        AreStubs purpose source.program.functions source.interface s →
        (o : Outcome) → outcome ds ≡ o → SaysOf cut ts ds o source → IsFit purpose source.code (is_face source.interface) s
    by cut ts ds source purpose s are (Typed p) e says =
        let code = says.3.lowered_is in
        c.generated_stubs_fit.ensures purpose source.program.functions source.interface source.code s are
        (subst (HasFunctions source.program.functions) (sym code) (has_functions source.program))
        (subst (KeepRules source.interface) (sym code) (annotations_keep c.interfaces_say_what_annotations_say.ensures.declared ds p source.program cut source.interface e says.0 says.2))
    by cut ts ds source purpose s are (Rule from rule) e says = absurd says
    by cut ts ds source purpose s are (Limit w) e says = absurd says
