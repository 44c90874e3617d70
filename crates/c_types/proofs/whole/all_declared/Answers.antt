use Rattle.std.proofs.Common.{suc, Err, get_or, drop, sym, ap, ◌∙◌, subst, add-one}
use Rattle.std.proofs.lemmas.Result.{err_from_is_err_and}
use Rattle.std.proofs.lemmas.List.{drop_all}
use Rattle.c_syntax.specs.Stands.{StandDecls}
use Rattle.c_types_expressions.specs.Walks.{AreDecls}
use Rattle.c_types.proofs.Ended.{RestOfAll, all_left, ends_failed, none_left, one_done, one_stops}
use Rattle.c_types.proofs.Parts.{ids_left, one_of_all}
use Rattle.c_types.proofs.Stepping.{goes_through, stands_still}
use Rattle.c_types.proofs.whole.all_declared.Goals as goal

pub loop-id-init : goal.loop-id-init
loop-id-init c = record {
  goes = stands_still c.args.declared c.requires.sound;
  known = tt;
  rest = λ ds h. all_left c.args.tree.now c.args.declared c.top-id-items.result.now ds (subst (λ v. StandDecls c.args.tree.now v ds) (sym c.top-id-items.ensures.tops) h);
}

pub declaration-requires-clause-id : goal.declaration-requires-clause-id
declaration-requires-clause-id c = one_of_all c.args.tree.now c.top-id-items.result.now c.loop-id.id-index (record { 0 = 0 }) (subst (AreDecls c.args.tree.now) (sym c.top-id-items.ensures.tops) c.requires.source) c.loop-id-test.true

pub returns-in_err-declaration : goal.returns-in_err-declaration
returns-in_err-declaration c =
    let q = err_from_is_err_and c.from_residual.result c.from_residual.ensures.1 in
    let N = c.args.tree.now in
    let ids = c.top-id-items.result.now in
    let k = c.loop-id.id-index in
    let d = c.args.declared in
    let now = c.loop-id.declared in
    let x = c.in_err-declaration.field-0.0 in
    λ ds h.
    let left = subst (λ v. RestOfAll N d now v ds) (ids_left ids k (record { 0 = 0 }) c.loop-id-test.true) (c.loop-id.invariant.rest ds h) in
    ends_failed d _ c.from_residual.result x (q.1 ∙ ap Err q.2)
    (one_stops N d now c.declaration.new.self (get_or ids k (record { 0 = 0 })) (drop (suc k) ids) ds left c.loop-id.invariant.goes.tags x c.in_err-declaration.ensures.agrees)

pub loop-id-preserved : goal.loop-id-preserved
loop-id-preserved c =
    let N = c.args.tree.now in
    let ids = c.top-id-items.result.now in
    let k = c.loop-id.id-index in
    let d = c.args.declared in
    let now = c.loop-id.declared in
    let new = c.declaration.new.self in
    let there = one_of_all N ids k (record { 0 = 0 }) (subst (AreDecls N) (sym c.top-id-items.ensures.tops) c.requires.source) c.loop-id-test.true in
    record {
      goes = goes_through d now new c.loop-id.invariant.goes (c.in_ok-declaration.ensures.agrees there.0 there.1).kept;
      known = c.in_ok-declaration.ensures.known;
      rest = λ ds h.
          let left = subst (λ v. RestOfAll N d now v ds) (ids_left ids k (record { 0 = 0 }) c.loop-id-test.true) (c.loop-id.invariant.rest ds h) in
          subst (λ n. RestOfAll N d new (drop n ids) ds) (sym (add-one k))
          (one_done N d now new (get_or ids k (record { 0 = 0 })) (drop (suc k) ids) ds left c.loop-id.invariant.goes.tags c.in_ok-declaration.ensures.agrees);
    }

pub returns : goal.returns
returns c =
    let N = c.args.tree.now in
    let d = c.args.declared in
    let now = c.loop-id.declared in
    λ ds h. none_left N d now ds c.loop-id.invariant.goes
    (subst (λ v. RestOfAll N d now v ds) (drop_all c.loop-id.id-index c.top-id-items.result.now c.loop-id-test.false) (c.loop-id.invariant.rest ds h))
