use Rattle.std.proofs.Common.{sym, ap, ◌∙◌, subst}
use Rattle.c_syntax.specs.Stands.{StandDecls}
use Rattle.c_types_rules.specs.Sources.{nearest}
use Rattle.c_types_statements.proofs.Signatures.{ids_of, nearest_inside, nearest_stand, no_ids, no_last, no_nearest}
use Rattle.c_types_statements.proofs.signature.nearest_params.Goals as goal

pub returns-in_default-clause-stand : goal.returns-in_default-clause-stand
returns-in_default-clause-stand c = λ N ps h. no_nearest N c.args.parts.now ps (no_last c.last.result _ c.in_default.not-Some c.last.ensures.value) h

pub returns-in_default-clause-inside : goal.returns-in_default-clause-inside
returns-in_default-clause-inside c = λ N h. nearest_inside N c.args.parts.now _ (λ ps k. no_nearest N c.args.parts.now ps (no_last c.last.result _ c.in_default.not-Some c.last.ensures.value) k) h

pub returns-in-Params-clause-stand : goal.returns-in-Params-clause-stand
returns-in-Params-clause-stand c =
    let same = ap ids_of c.in-Params.is ∙ sym c.as_slice.ensures.items in
    λ N ps h. subst (λ ids. StandDecls N ids (nearest ps)) same (nearest_stand N c.args.parts.now c.in-Some.nearest.now ps (sym c.in-Some.ensures.value) h)

pub returns-in-Params-clause-inside : goal.returns-in-Params-clause-inside
returns-in-Params-clause-inside c =
    let same = ap ids_of c.in-Params.is ∙ sym c.as_slice.ensures.items in
    λ N h. nearest_inside N c.args.parts.now _ (λ ps k. subst (λ ids. StandDecls N ids (nearest ps)) same (nearest_stand N c.args.parts.now c.in-Some.nearest.now ps (sym c.in-Some.ensures.value) k)) h

pub returns-in_default-kind : goal.returns-in_default-kind
returns-in_default-kind c =
    let same = no_ids c.in-Some.nearest.now.kind c.in_default-kind.not-Params in
    record {
      stand = λ N ps h. subst (λ ids. StandDecls N ids (nearest ps)) same (nearest_stand N c.args.parts.now c.in-Some.nearest.now ps (sym c.in-Some.ensures.value) h);
      inside = λ N h. nearest_inside N c.args.parts.now _ (λ ps k. subst (λ ids. StandDecls N ids (nearest ps)) same (nearest_stand N c.args.parts.now c.in-Some.nearest.now ps (sym c.in-Some.ensures.value) k)) h;
    }
