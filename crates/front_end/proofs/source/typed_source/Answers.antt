use Rattle.std.proofs.Common.{◌≤◌, List, Err, length, ap, sym, ◌∙◌, subst, arith}
use Rattle.c_lexer.specs.declared.token.Token.{Token}
use Rattle.std.proofs.lemmas.Result.{err_from_is_err_and}
use Rattle.front_end.specs.Answers.{IsTypeChecked, IsTyped}
use Rattle.front_end.proofs.Accepting.{source_of}
use Rattle.front_end.proofs.Few.{few_texts}
use Rattle.front_end.proofs.Strings.{typed_by}
use Rattle.front_end.proofs.source.typed_source.Goals as goal

pub returns-in_err-tokens-clause-typed : goal.returns-in_err-tokens-clause-typed
returns-in_err-tokens-clause-typed c =
    let e = err_from_is_err_and c.from_residual.result c.from_residual.ensures.1 in
    subst (IsTypeChecked c.args.bytes.now) (sym (e.1 ∙ ap Err e.2)) c.in_err-tokens.ensures.refused

pub returns-in_err-parsed-clause-typed : goal.returns-in_err-parsed-clause-typed
returns-in_err-parsed-clause-typed c =
    let e = err_from_is_err_and c.from_residual-in_err-parsed.result c.from_residual-in_err-parsed.ensures.1 in
    let lexed = c.in_ok-tokens.ensures.tokens in
    subst (IsTypeChecked c.args.bytes.now) (sym (e.1 ∙ ap Err e.2)) (c.in_err-parsed.ensures.refused c.args.bytes.now lexed)

pub returns-in_err-source-clause-typed : goal.returns-in_err-source-clause-typed
returns-in_err-source-clause-typed c =
    let e = err_from_is_err_and c.from_residual-in_err-source.result c.from_residual-in_err-source.ensures.1 in
    let lexed = c.in_ok-tokens.ensures.tokens in
    let p = c.in_ok-parsed.ensures.tree in
    subst (IsTypeChecked c.args.bytes.now) (sym (e.1 ∙ ap Err e.2))
    (c.in_err-source.ensures.refused c.args.bytes.now p.0 p.3.0 (source_of c.args.bytes.now c.in_ok-tokens.tokens.items c.in_ok-parsed.parsed lexed p))

pub returns-clause-typed : goal.returns-clause-typed
returns-clause-typed c =
    let lexed = c.in_ok-tokens.ensures.tokens in
    let p = c.in_ok-parsed.ensures.tree in
    let t = subst (λ (v : List Token). IsTyped v p.0 c.in_ok-source.source) c.deref.ensures.value (c.in_ok-source.ensures.typed p.0 p.3.0) in
    record {
      ds = p.0;
      source = source_of c.args.bytes.now c.in_ok-tokens.tokens.items c.in_ok-parsed.parsed lexed p;
      typed = typed_by c.in_ok-parsed.ensures.strings t;
      nodes = p.3.1;
    }

pub returns-clause-few : goal.returns-clause-few
returns-clause-few c =
    let ts = c.in_ok-tokens.tokens.items in
    let p = c.in_ok-parsed.ensures.tree in
    let t = subst (λ (v : List Token). IsTyped v p.0 c.in_ok-source.source) c.deref.ensures.value (c.in_ok-source.ensures.typed p.0 p.3.0) in
    let texts : length c.in_ok-source.source.texts ≤ length ts = omega (arith, ap length (t.texts ∙ c.in_ok-parsed.ensures.strings), few_texts ts) in
    omega (arith, texts, c.in_ok-tokens.ensures.few)
