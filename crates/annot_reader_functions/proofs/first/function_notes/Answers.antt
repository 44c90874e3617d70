use Rattle.std.proofs.Common.{Ok, Err, sym, subst, arith}
use Rattle.c_syntax.specs.Stands.{StandParts}
use Rattle.c_types_table.specs.Tables.{all_at, at}
use Rattle.annot_reader_rules.specs.Functions.{all_parameters, function_notes, within}
use Rattle.c_types_rules.specs.Environment.{inner}
use Rattle.annot_reader_words.specs.Answers.{Tells}
use Rattle.annot_reader_words.proofs.Composing.{raised}
use Rattle.annot_reader_functions.proofs.Saying.{known_stays, stays_through}
use Rattle.annot_reader_functions.specs.First.{signature_with}
use Rattle.annot_reader_functions.specs.Sayings.{IsNoted, kind_in}
use Rattle.annot_reader_functions.proofs.Around.{all_at_stay, types_stay}
use Rattle.annot_reader_functions.proofs.Composed.{breaks_heading, breaks_outside, breaks_parameters, function_tells, is_decl, own_decls, own_of, own_stand}
use Rattle.annot_reader_functions.proofs.Listing.{AreIn}
use Rattle.annot_reader_functions.specs.Seen.{declared_by}
use Rattle.annot_reader_functions.proofs.first.function_notes.Goals as goal

pub bare_outside-requires : goal.bare_outside-requires
bare_outside-requires c = is_decl c.args.tree.now c.args.id c.requires.id

pub decl_node-requires : goal.decl_node-requires
decl_node-requires c = is_decl c.args.tree.now c.args.id c.requires.id

pub signature_of-requires-clause-own : goal.signature_of-requires-clause-own
signature_of-requires-clause-own c =
    let N = c.args.tree.now in
    own_decls N c.args.id c.decl_node.result.now c.split_parts.result.1.now c.requires.id c.decl_node.ensures.shows (λ ps s. c.split_parts.ensures.own N ps (subst (λ vs. StandParts N vs ps) (sym c.as_slice.ensures.items) s))

pub heading-requires-clause-few : goal.heading-requires-clause-few
heading-requires-clause-few c = let few = c.in_ok-signature.ensures.few in let count = c.requires.count in omega (arith, few, count)

pub in_scope-requires-clause-few : goal.in_scope-requires-clause-few
in_scope-requires-clause-few c = let few = c.in_ok-signature.ensures.few in let count = c.requires.count in omega (arith, few, count)

pub in_scope-requires-clause-ids : goal.in_scope-requires-clause-ids
in_scope-requires-clause-ids c =
    let N = c.args.tree.now in
    own_decls N c.args.id c.decl_node.result.now c.split_parts.result.1.now c.requires.id c.decl_node.ensures.shows (λ ps s. c.split_parts.ensures.own N ps (subst (λ vs. StandParts N vs ps) (sym c.as_slice.ensures.items) s))

pub in_scope-requires-clause-types : goal.in_scope-requires-clause-types
in_scope-requires-clause-types c = types_stay _ _ c.args.prototype.now.params.now c.in_ok-said.ensures.kept c.requires.params

pub returns-in_err-bare_outside-clause-agrees : goal.returns-in_err-bare_outside-clause-agrees
returns-in_err-bare_outside-clause-agrees c = λ d h.
    let before = declared_by c.args.env.now in
    let p = c.args.prototype.now in
    let e = c.in_err-bare_outside.field-0.0 in
    raised (IsNoted c.args.cut.now) (function_notes before.env (kind_in p.kind) d (at before.types p.result) (all_at before.types p.params.now)) c.from_residual.result e c.from_residual.ensures.1
    (breaks_outside c.args.cut.now before.env (kind_in p.kind) d (at before.types p.result) (all_at before.types p.params.now) e (c.in_err-bare_outside.ensures d h))

pub returns-in_err-said-clause-agrees : goal.returns-in_err-said-clause-agrees
returns-in_err-said-clause-agrees c = λ d h.
    let N = c.args.tree.now in
    let before = declared_by c.args.env.now in
    let p = c.args.prototype.now in
    let t = at before.types p.result in
    let ts = all_at before.types p.params.now in
    let own = own_stand N c.decl_node.result.now c.split_parts.result.1.now d (c.decl_node.ensures.shows d h) (λ ps s. c.split_parts.ensures.own N ps (subst (λ vs. StandParts N vs ps) (sym c.as_slice.ensures.items) s)) in
    let known = c.in_ok-signature.ensures.known (own_of d) own in
    let e = c.in_err-said.field-0.0 in
    raised (IsNoted c.args.cut.now) (function_notes before.env (kind_in p.kind) d t ts) c.from_residual-in_err-said.result e c.from_residual-in_err-said.ensures.1
    (breaks_heading c.args.cut.now before.env (kind_in p.kind) d t ts e (c.in_ok-bare_outside.ensures d h) (c.in_err-said.ensures.agrees d (signature_with before.env (own_of d) t ts) h known))

pub returns-in_err-params-clause-agrees : goal.returns-in_err-params-clause-agrees
returns-in_err-params-clause-agrees c = λ d h.
    let N = c.args.tree.now in
    let before = declared_by c.args.env.now in
    let later = declared_by c.heading.new.env in
    let p = c.args.prototype.now in
    let t = at before.types p.result in
    let ts = all_at before.types p.params.now in
    let S = signature_with before.env (own_of d) t ts in
    let own = own_stand N c.decl_node.result.now c.split_parts.result.1.now d (c.decl_node.ensures.shows d h) (λ ps s. c.split_parts.ensures.own N ps (subst (λ vs. StandParts N vs ps) (sym c.as_slice.ensures.items) s)) in
    let known = c.in_ok-signature.ensures.known (own_of d) own in
    let e = c.in_err-params.field-0.0 in
    raised (IsNoted c.args.cut.now) (function_notes before.env (kind_in p.kind) d t ts) c.from_residual-in_err-params.result e c.from_residual-in_err-params.ensures.1
    (breaks_parameters c.args.cut.now before.env (kind_in p.kind) d t ts c.in_ok-said.said e (c.in_ok-bare_outside.ensures d h) (c.in_ok-said.ensures.agrees d S h known)
    (subst (λ us. Tells AreIn (all_parameters (own_of d) (within S (inner S.env)) 0 us) (Err e)) (all_at_stay before later p.params.now c.in_ok-said.ensures.kept c.requires.params)
    (c.in_err-params.ensures.agrees (own_of d) S own (known_stays _ _ _ S c.in_ok-said.ensures.kept.env known))))

pub returns-clause-agrees : goal.returns-clause-agrees
returns-clause-agrees c = λ d h.
    let N = c.args.tree.now in
    let before = declared_by c.args.env.now in
    let later = declared_by c.heading.new.env in
    let p = c.args.prototype.now in
    let t = at before.types p.result in
    let ts = all_at before.types p.params.now in
    let S = signature_with before.env (own_of d) t ts in
    let own = own_stand N c.decl_node.result.now c.split_parts.result.1.now d (c.decl_node.ensures.shows d h) (λ ps s. c.split_parts.ensures.own N ps (subst (λ vs. StandParts N vs ps) (sym c.as_slice.ensures.items) s)) in
    let known = c.in_ok-signature.ensures.known (own_of d) own in
    function_tells c.args.cut.now before.env (kind_in p.kind) d t ts c.in_ok-said.said c.in_ok-params.params c.in_ok-notes_of.field-0 (c.in_ok-bare_outside.ensures d h) (c.in_ok-said.ensures.agrees d S h known)
    (subst (λ us. Tells AreIn (all_parameters (own_of d) (within S (inner S.env)) 0 us) (Ok c.in_ok-params.params)) (all_at_stay before later p.params.now c.in_ok-said.ensures.kept c.requires.params)
    (c.in_ok-params.ensures.agrees (own_of d) S own (known_stays _ _ _ S c.in_ok-said.ensures.kept.env known)))
    (λ n ps i j. c.in_ok-notes_of.ensures c.args.cut.now n ps i j)

pub returns-clause-kept : goal.returns-clause-kept
returns-clause-kept c = stays_through _ _ _ c.in_ok-said.ensures.kept c.in_ok-params.ensures.kept
