-- What an accepted source is, whichever typed program stands for it.
use Rattle.std.proofs.Common.{◌≡◌, ℕ, List, length, Option, sym, ap, ◌∙◌}
use Rattle.c_lexer.specs.declared.token.Token.{Token}
use Rattle.c_lexer.proofs.Readings as reading
use Rattle.c_syntax.specs.Syntax.{Decls}
use Rattle.c_types_rules.specs.Limits as typing
use Rattle.c_types_rules.specs.Limits.{Outcome, Typed, outcome}
use Rattle.c_types.specs.Texts.{texts_among}
use Rattle.c_types_program.specs.Programs.{texts_in}
use Rattle.sys_script_lines.specs.declared.externals.External.{External}
use Rattle.sys_script_lines.specs.Scripts.{script_of}
use Rattle.sys_script.specs.Externals.{external_in}
use Rattle.front_end.specs.declared.source.CheckedSource.{CheckedSource}
use Rattle.front_end.specs.Answers.{IsAccepted, SaysOf}
use Rattle.cut_check.proofs.Accepted.{known}
use Rattle.cut_check.proofs.Said.{is_said}
use Rattle.recorded_outcome.specs.Stages.{script_for}
use Rattle.recorded_outcome.proofs.OneCode.{one_code, one_external, one_externals, one_length}
use Rattle.recorded_outcome.proofs.OneInterface.{one_interface}
use Rattle.call_operations.specs.Sets.{is_external}

-- two answers to one source agree in all that a run is given
pub record AreAlike (c d : CheckedSource) : Type 0 where
  pub texts : c.program.texts ≡ d.program.texts
  pub code : c.code ≡ d.code
  pub interface : c.interface ≡ d.interface
  pub count : length c.program.functions ≡ length d.program.functions
  pub externals : (f : ℕ) → is_external c.program.functions f ≡ is_external d.program.functions f
  pub answered : (script : List ℕ) → script_for c script ≡ script_for d script

texts_are : (cut : List ℕ) (ts : List Token) (ds : Decls) (o : Outcome) (c : CheckedSource) → SaysOf cut ts ds o c → c.program.texts ≡ texts_among ts
texts_are cut ts ds (Typed p) c says = says.1
texts_are cut ts ds (typing.Rule from rule) c says = absurd says
texts_are cut ts ds (typing.Limit w) c says = absurd says

texts_of : (bytes cut : List ℕ) (c : CheckedSource) (a : IsAccepted bytes cut c) → c.program.texts ≡ texts_among a.right.source.tokens
texts_of bytes cut c a = texts_are cut a.right.source.tokens a.right.ds (outcome a.right.ds) c a.says

pub alike : (bytes cut : List ℕ) (c d : CheckedSource) → IsAccepted bytes cut c → IsAccepted bytes cut d → AreAlike c d
alike bytes cut c d a b =
    let k = known bytes cut c a in
    let e = is_said bytes cut d k.program k.annotated b k.says in
    let tokens : a.right.source.tokens ≡ b.right.source.tokens = (reading.one a.right.source.lexed b.right.source.lexed).0 in
    let texts : c.program.texts ≡ d.program.texts = texts_of bytes cut c a ∙ (ap texts_among tokens ∙ sym (texts_of bytes cut d b)) in
    let code : c.code ≡ d.code = k.is.code ∙ (one_code c.program d.program k.program k.is.program e.program (ap texts_in texts) ∙ sym e.code) in
    let interface : c.interface ≡ d.interface = one_interface cut k.annotated c.interface d.interface k.is.interface e.interface in
    let who : external_in c.program c.interface ≡ external_in d.program d.interface =
    one_externals c.program d.program k.program c.interface k.is.program e.program ∙ ap (external_in d.program) interface in
    record {
      texts = texts;
      code = code;
      interface = interface;
      count = one_length c.program d.program k.program k.is.program e.program;
      externals = λ f. one_external c.program d.program k.program f k.is.program e.program;
      answered = λ script. ap (λ (w : List ℕ → Option External). script_of w script) who;
    }
