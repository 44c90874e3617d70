use Rattle.std.proofs.Common.{Ok, Err, sym, ◌∙◌, subst, arith}
use Rattle.c_syntax.specs.Stands.{StandParts}
use Rattle.c_types_table.specs.Tables.{all_at, at}
use Rattle.c_types_rules.specs.Environment.{inner}
use Rattle.annot_reader_rules.specs.Functions.{all_parameters, function_notes, within}
use Rattle.annot_reader_words.specs.Answers.{Tells}
use Rattle.annot_reader_words.proofs.Composing.{raised}
use Rattle.annot_reader_functions.specs.First.{signature_with}
use Rattle.annot_reader_functions.specs.Sayings.{IsNoted, kind_in}
use Rattle.annot_reader_functions.specs.Seen.{declared_by}
use Rattle.annot_reader_functions.proofs.Around.{all_at_stay, types_stay}
use Rattle.annot_reader_functions.proofs.Beside.{breaks_besides, breaks_last, breaks_words, says_all}
use Rattle.annot_reader_functions.proofs.Composed.{is_decl, own_decls, own_of, own_stand}
use Rattle.annot_reader_functions.proofs.Listing.{AreIn}
use Rattle.annot_reader_functions.proofs.Saying.{known_stays, stays_through}
use Rattle.annot_reader_functions.proofs.known.notes_by.Goals as goal

pub bare_besides-requires : goal.bare_besides-requires
bare_besides-requires c = is_decl c.args.tree.now c.args.id c.requires.id

pub decl_node-requires : goal.decl_node-requires
decl_node-requires c = is_decl c.args.tree.now c.args.id c.requires.id

pub signature_of-requires-clause-own : goal.signature_of-requires-clause-own
signature_of-requires-clause-own c =
    let N = c.args.tree.now in
    own_decls N c.args.id c.decl_node.result.now c.split_parts.result.1.now c.requires.id c.decl_node.ensures.shows (λ ps s. c.split_parts.ensures.own N ps (subst (λ vs. StandParts N vs ps) (sym c.as_slice.ensures.items) s))

pub in_scope-requires-clause-few : goal.in_scope-requires-clause-few
in_scope-requires-clause-few c = let few = c.in_ok-signature.ensures.few in let count = c.requires.count in omega (arith, few, count)

pub in_scope-requires-clause-ids : goal.in_scope-requires-clause-ids
in_scope-requires-clause-ids c =
    let N = c.args.tree.now in
    own_decls N c.args.id c.decl_node.result.now c.split_parts.result.1.now c.requires.id c.decl_node.ensures.shows (λ ps s. c.split_parts.ensures.own N ps (subst (λ vs. StandParts N vs ps) (sym c.as_slice.ensures.items) s))

pub words_again-requires-clause-few : goal.words_again-requires-clause-few
words_again-requires-clause-few c = let few = c.in_ok-signature.ensures.few in let count = c.requires.count in omega (arith, few, count)

pub words_again-requires-clause-places : goal.words_again-requires-clause-places
words_again-requires-clause-places c = λ d h. c.as_slice-2.ensures.value ∙ (c.requires.says d h).1

pub in_scope-requires-clause-types : goal.in_scope-requires-clause-types
in_scope-requires-clause-types c = types_stay _ _ c.args.prototype.now.params.now c.in_ok-said.ensures.kept c.requires.params

pub returns-in_err-bare_besides-clause-agrees : goal.returns-in_err-bare_besides-clause-agrees
returns-in_err-bare_besides-clause-agrees c = λ d h.
    let before = declared_by c.args.env.now in
    let p = c.args.prototype.now in
    let w = c.args.known.now in
    let cut = c.args.cut.now in
    let e = c.in_err-bare_besides.field-0.0 in
    raised (IsNoted cut) (function_notes before.env (kind_in p.kind) d (at before.types p.result) (all_at before.types p.params.now)) c.from_residual.result e c.from_residual.ensures.1
    (breaks_besides cut before.env d (at before.types p.result) (all_at before.types p.params.now) w (c.requires.says d h) p.kind c.requires.kind e (c.in_err-bare_besides.ensures d h))

pub returns-in_err-said-clause-agrees : goal.returns-in_err-said-clause-agrees
returns-in_err-said-clause-agrees c = λ d h.
    let N = c.args.tree.now in
    let before = declared_by c.args.env.now in
    let p = c.args.prototype.now in
    let w = c.args.known.now in
    let cut = c.args.cut.now in
    let t = at before.types p.result in
    let ts = all_at before.types p.params.now in
    let own = own_stand N c.decl_node.result.now c.split_parts.result.1.now d (c.decl_node.ensures.shows d h) (λ ps s. c.split_parts.ensures.own N ps (subst (λ vs. StandParts N vs ps) (sym c.as_slice.ensures.items) s)) in
    let known = c.in_ok-signature.ensures.known (own_of d) own in
    let e = c.in_err-said.field-0.0 in
    raised (IsNoted cut) (function_notes before.env (kind_in p.kind) d t ts) c.from_residual-in_err-said.result e c.from_residual-in_err-said.ensures.1
    (breaks_words cut before.env d t ts w (c.requires.says d h) p.kind c.requires.kind (c.in_ok-bare_besides.ensures d h) e (c.in_err-said.ensures.agrees d (signature_with before.env (own_of d) t ts) h known))

pub returns-in_err-params-clause-agrees : goal.returns-in_err-params-clause-agrees
returns-in_err-params-clause-agrees c = λ d h.
    let N = c.args.tree.now in
    let before = declared_by c.args.env.now in
    let later = declared_by c.words_again.new.env in
    let p = c.args.prototype.now in
    let w = c.args.known.now in
    let cut = c.args.cut.now in
    let t = at before.types p.result in
    let ts = all_at before.types p.params.now in
    let S = signature_with before.env (own_of d) t ts in
    let own = own_stand N c.decl_node.result.now c.split_parts.result.1.now d (c.decl_node.ensures.shows d h) (λ ps s. c.split_parts.ensures.own N ps (subst (λ vs. StandParts N vs ps) (sym c.as_slice.ensures.items) s)) in
    let known = c.in_ok-signature.ensures.known (own_of d) own in
    let e = c.in_err-params.field-0.0 in
    raised (IsNoted cut) (function_notes before.env (kind_in p.kind) d t ts) c.from_residual-in_err-params.result e c.from_residual-in_err-params.ensures.1
    (breaks_last cut before.env d t ts w (c.requires.says d h) p.kind c.requires.kind (c.in_ok-bare_besides.ensures d h) c.in_ok-said.said (c.in_ok-said.ensures.agrees d S h known) e
    (subst (λ us. Tells AreIn (all_parameters (own_of d) (within S (inner S.env)) 0 us) (Err e)) (all_at_stay before later p.params.now c.in_ok-said.ensures.kept c.requires.params)
    (c.in_err-params.ensures.agrees (own_of d) S own (known_stays _ _ _ S c.in_ok-said.ensures.kept.env known))))

pub returns-clause-agrees : goal.returns-clause-agrees
returns-clause-agrees c = λ d h.
    let N = c.args.tree.now in
    let before = declared_by c.args.env.now in
    let later = declared_by c.words_again.new.env in
    let p = c.args.prototype.now in
    let w = c.args.known.now in
    let cut = c.args.cut.now in
    let t = at before.types p.result in
    let ts = all_at before.types p.params.now in
    let S = signature_with before.env (own_of d) t ts in
    let own = own_stand N c.decl_node.result.now c.split_parts.result.1.now d (c.decl_node.ensures.shows d h) (λ ps s. c.split_parts.ensures.own N ps (subst (λ vs. StandParts N vs ps) (sym c.as_slice.ensures.items) s)) in
    let known = c.in_ok-signature.ensures.known (own_of d) own in
    let says = c.requires.says d h in
    says_all cut before.env d t ts w says p.kind c.requires.kind (c.in_ok-bare_besides.ensures d h) c.in_ok-said.said (c.in_ok-said.ensures.agrees d S h known) c.in_ok-params.params c.in_ok-with_said.field-0
    (subst (λ us. Tells AreIn (all_parameters (own_of d) (within S (inner S.env)) 0 us) (Ok c.in_ok-params.params)) (all_at_stay before later p.params.now c.in_ok-said.ensures.kept c.requires.params)
    (c.in_ok-params.ensures.agrees (own_of d) S own (known_stays _ _ _ S c.in_ok-said.ensures.kept.env known)))
    (λ m ps i j. c.in_ok-with_said.ensures cut says.2.0 m ps says.2.1 i j)

pub returns-clause-kept : goal.returns-clause-kept
returns-clause-kept c = stays_through _ _ _ c.in_ok-said.ensures.kept c.in_ok-params.ensures.kept
