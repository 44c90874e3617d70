use Rattle.std.proofs.Common.{◌≡◌, List, [], ◌∷◌, length, refl, subst, sym, arith}
use Rattle.c_syntax.specs.declared.declaration.Part.{Part}
use Rattle.c_syntax.specs.Nodes.{Nodes}
use Rattle.c_syntax.specs.Syntax.{Parts}
use Rattle.c_syntax.specs.Stands.{StandDecls, StandParts}
use Rattle.annot_reader_rules.specs.Functions.{own_parameters}
use Rattle.annot_reader_words.proofs.Nearest.{Splits, splits, splits_none, splits_other}
use Rattle.annot_reader_words.proofs.parts.split_parts.Goals as goal

empty : (vs : List Part) → length vs ≡ 0 → vs ≡ []
empty [] h = refl
empty (v ∷ vs) h = absurd (omega arith)

pub returns-in_default-clause-outer : goal.returns-in_default-clause-outer
returns-in_default-clause-outer c = λ N ps h. (splits_none N c.args.parts.now ps (empty c.args.parts.now c.in_default.ensures.cases) h).0

pub returns-in_default-clause-own : goal.returns-in_default-clause-own
returns-in_default-clause-own c = λ N ps h. (splits_none N c.args.parts.now ps (empty c.args.parts.now c.in_default.ensures.cases) h).1

pub returns-in-Params-clause-outer : goal.returns-in-Params-clause-outer
returns-in-Params-clause-outer c = λ N ps h.
    (splits N c.in-Some.outer.now c.in-Some.nearest.now c.in-Params.own ps c.in-Params.is (subst (λ vs. StandParts N vs ps) c.in-Some.ensures.cases.0 h)).0

pub returns-in-Params-clause-own : goal.returns-in-Params-clause-own
returns-in-Params-clause-own c = λ N ps h.
    let r = splits N c.in-Some.outer.now c.in-Some.nearest.now c.in-Params.own ps c.in-Params.is (subst (λ vs. StandParts N vs ps) c.in-Some.ensures.cases.0 h) in
    subst (λ is. StandDecls N is (own_parameters ps)) (sym c.as_slice.ensures.items) r.1

pub returns-in_default-kind : goal.returns-in_default-kind
returns-in_default-kind c =
    let all : (N : Nodes) (ps : Parts) → StandParts N c.args.parts.now ps → Splits N c.args.parts.now [] ps = λ N ps h.
    subst (λ vs. Splits N vs [] ps) (sym c.in-Some.ensures.cases.0)
    (splits_other N c.in-Some.outer.now c.in-Some.nearest.now ps c.in_default-kind.not-Params (subst (λ vs. StandParts N vs ps) c.in-Some.ensures.cases.0 h)) in
    record { outer = λ N ps h. (all N ps h).0; own = λ N ps h. (all N ps h).1 }
