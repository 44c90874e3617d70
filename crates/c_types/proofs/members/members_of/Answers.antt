use Rattle.std.proofs.Common.{suc, Err, Ok, [], get_or, drop, refl, sym, ap, ◌∙◌, subst, add-one}
use Rattle.c_types_environment.specs.States.{notes_of}
use Rattle.std.proofs.lemmas.Result.{err_from_is_err_and}
use Rattle.std.proofs.lemmas.List.{drop_all}
use Rattle.c_types_rules.specs.Sources.{member_of, members_from}
use Rattle.c_types_expressions.specs.Found.{Found}
use Rattle.c_types_expressions.proofs.Kept.{then_stay}
use Rattle.c_types.specs.Members.{members_in}
use Rattle.c_types.proofs.Gathered.{AreMembers, MemberIs, RestOfMembers, no_member_left, one_member, one_member_stops}
use Rattle.c_types.proofs.Parts.{ids_left, one_of_all}
use Rattle.c_types.proofs.Stepping.{error_seen, found_failed}
use Rattle.c_types.proofs.members.members_of.Goals as goal

pub add_member-requires-clause-id : goal.add_member-requires-clause-id
add_member-requires-clause-id c = one_of_all c.args.tree.now c.args.ids.now c.loop-id.id-index (record { 0 = 0 }) c.requires.ids c.loop-id-test.true

pub returns-in_err-add_member-clause-agrees : goal.returns-in_err-add_member-clause-agrees
returns-in_err-add_member-clause-agrees c =
    let q = err_from_is_err_and c.from_residual.result c.from_residual.ensures.1 in
    let N = c.args.tree.now in
    let ids = c.args.ids.now in
    let k = c.loop-id.id-index in
    let a = c.args.env.now in
    let now = c.loop-id.env in
    let new = c.add_member.new.env in
    let x = c.in_err-add_member.field-0.0 in
    let before = members_in now.table c.loop-id.members in
    let is = MemberIs before (members_in new.table c.add_member.new.members) in
    λ ds s.
    let left = subst (λ v. RestOfMembers N a.env (notes_of a) (notes_of now) v ds before) (ids_left ids k (record { 0 = 0 }) c.loop-id-test.true) (c.loop-id.invariant.rest ds s) in
    found_failed (notes_of a) (notes_of new) (AreMembers new.table) (members_from a.env [] ds) c.from_residual.result x (q.1 ∙ ap Err q.2)
    (one_member_stops N a.env (notes_of a) (notes_of now) (notes_of new) (get_or ids k (record { 0 = 0 })) (drop (suc k) ids) ds before left (AreMembers new.table) x
    (λ d z. error_seen {C = Unit {0}} (notes_of now) (notes_of new) (notes_of new) is (λ m _. Unit {0}) (member_of a.env before d) x
    (subst (λ v. Found (notes_of now) (notes_of new) is (member_of v before d) (Err x)) c.loop-id.invariant.kept.env (c.in_err-add_member.ensures.agrees d z))))

pub loop-id-preserved : goal.loop-id-preserved
loop-id-preserved c =
    let N = c.args.tree.now in
    let ids = c.args.ids.now in
    let k = c.loop-id.id-index in
    let a = c.args.env.now in
    let now = c.loop-id.env in
    let new = c.add_member.new.env in
    let before = members_in now.table c.loop-id.members in
    let after = members_in new.table c.add_member.new.members in
    record {
      kept = then_stay _ _ _ c.loop-id.invariant.kept c.in_ok-add_member.ensures.kept;
      below = c.in_ok-add_member.ensures.below;
      known = c.in_ok-add_member.ensures.known;
      rest = λ ds s.
          let left = subst (λ v. RestOfMembers N a.env (notes_of a) (notes_of now) v ds before) (ids_left ids k (record { 0 = 0 }) c.loop-id-test.true) (c.loop-id.invariant.rest ds s) in
          subst (λ n. RestOfMembers N a.env (notes_of a) (notes_of new) (drop n ids) ds after) (sym (add-one k))
          (one_member N a.env (notes_of a) (notes_of now) (notes_of new) (get_or ids k (record { 0 = 0 })) (drop (suc k) ids) ds before left after
          (λ d z. subst (λ v. Found (notes_of now) (notes_of new) (MemberIs before after) (member_of v before d) (Ok tt)) c.loop-id.invariant.kept.env (c.in_ok-add_member.ensures.agrees d z)));
    }

pub returns-clause-agrees : goal.returns-clause-agrees
returns-clause-agrees c =
    let N = c.args.tree.now in
    let ids = c.args.ids.now in
    let a = c.args.env.now in
    let now = c.loop-id.env in
    let before = members_in now.table c.loop-id.members in
    λ ds s. no_member_left N a.env (notes_of a) (notes_of now) ds before (AreMembers now.table) c.loop-id.members (refl, c.loop-id.invariant.below)
    (subst (λ v. RestOfMembers N a.env (notes_of a) (notes_of now) v ds before) (drop_all c.loop-id.id-index ids c.loop-id-test.false) (c.loop-id.invariant.rest ds s))
