use Rattle.std.proofs.Common.{◌≡◌, drop, length, length-drop, ap, sym, ◌∙◌, arith}
use Rattle.c_lexer.proofs.Inside.{fault_in, skip_in, token_in}
use Rattle.c_lexer.proofs.Order.{later_end, order_put}
use Rattle.c_lexer.proofs.Readings.{rests_skip, rests_token, rests_end, rests_stop}
use Rattle.c_lexer.proofs.Exact.{says}
use Rattle.c_lexer.proofs.lexing.read_tokens.Goals as goal

pub returns-in-Finished-clause-tokens : goal.returns-in-Finished-clause-tokens
returns-in-Finished-clause-tokens c = rests_end _ _ _ _ _ c.loop-line.invariant.reads (sym c.in_ok-item_at.ensures ∙ c.in-Finished.is)

pub returns-in-Finished-clause-places : goal.returns-in-Finished-clause-places
returns-in-Finished-clause-places c = later_end _ 0 c.loop-line.at _ c.loop-line.invariant.order (omega (arith, c.loop-line.invariant.place))

pub overflow_add-at-in-Fault : goal.overflow_add-at-in-Fault
overflow_add-at-in-Fault c = let i = fault_in _ _ _ _ (sym c.in_ok-item_at.ensures ∙ c.in-Fault.is) in omega (arith, c.loop-line.invariant.place, c.requires)

pub overflow_cast-at : goal.overflow_cast-at
overflow_cast-at c = let i = fault_in _ _ _ _ (sym c.in_ok-item_at.ensures ∙ c.in-Fault.is) in omega (arith, c.loop-line.invariant.place, c.requires)

pub returns-in-Fault-clause-refused : goal.returns-in-Fault-clause-refused
returns-in-Fault-clause-refused c = rw c.new-in-Fault.ensures (says c.args.source.now _ (rests_stop _ _ _ _ _ _ _ c.loop-line.invariant.reads (sym c.in_ok-item_at.ensures ∙ c.in-Fault.is)))

pub split_at-requires : goal.split_at-requires
split_at-requires c = (skip_in _ _ _ _ (sym c.in_ok-item_at.ensures ∙ c.in-Skip.is)).1

pub loop-line-smaller-in-Skip : goal.loop-line-smaller-in-Skip
loop-line-smaller-in-Skip c = let i = skip_in _ _ _ _ (sym c.in_ok-item_at.ensures ∙ c.in-Skip.is) in omega arith

pub loop-line-preserved-in-Skip : goal.loop-line-preserved-in-Skip
loop-line-preserved-in-Skip c = record {
  reads = rw c.split_at.ensures.back (rests_skip _ _ _ _ _ _ _ c.loop-line.invariant.reads (sym c.in_ok-item_at.ensures ∙ c.in-Skip.is));
  order = later_end _ 0 c.loop-line.at _ c.loop-line.invariant.order (omega arith);
  place = let i = skip_in _ _ _ _ (sym c.in_ok-item_at.ensures ∙ c.in-Skip.is) in omega arith;
}

pub overflow_add-token : goal.overflow_add-token
overflow_add-token c = let i = token_in _ _ _ _ (sym c.in_ok-item_at.ensures ∙ c.in-Token.is) in omega (arith, c.loop-line.invariant.place, c.requires)

pub overflow_cast-token-in-Token : goal.overflow_cast-token-in-Token
overflow_cast-token-in-Token c = let i = token_in _ _ _ _ (sym c.in_ok-item_at.ensures ∙ c.in-Token.is) in omega (arith, c.loop-line.invariant.place, c.requires)

pub split_at-requires-in-Token : goal.split_at-requires-in-Token
split_at-requires-in-Token c = (token_in _ _ _ _ (sym c.in_ok-item_at.ensures ∙ c.in-Token.is)).1

pub loop-line-smaller : goal.loop-line-smaller
loop-line-smaller c = let i = token_in _ _ _ _ (sym c.in_ok-item_at.ensures ∙ c.in-Token.is) in omega arith

pub loop-line-preserved : goal.loop-line-preserved
loop-line-preserved c = record {
  reads = rw (c.split_at-in-Token.ensures.back, c.in_ok-put-in-Token.ensures) (rests_token _ _ _ _ _ _ _ c.loop-line.invariant.reads (sym c.in_ok-item_at.ensures ∙ c.in-Token.is));
  order = let i = token_in _ _ _ _ (sym c.in_ok-item_at.ensures ∙ c.in-Token.is) in rw c.in_ok-put-in-Token.ensures (order_put _ 0 c.loop-line.at _ _ c.loop-line.invariant.order (omega arith) (omega arith) (omega arith));
  place = let i = token_in _ _ _ _ (sym c.in_ok-item_at.ensures ∙ c.in-Token.is) in omega arith;
}

pub overflow_add-at : goal.overflow_add-at
overflow_add-at c = let i = skip_in _ _ _ _ c.in-Some.ensures.space in omega (arith, c.loop-line.invariant.place, c.requires)

pub loop-line-smaller-in-Some : goal.loop-line-smaller-in-Some
loop-line-smaller-in-Some c =
    let i = skip_in _ _ _ _ c.in-Some.ensures.space in
    let left : c.in-Some.others.now ≡ drop 1 c.loop-line.rest.now = c.in-Some.ensures.rest in
    omega (arith, length-drop 1 c.loop-line.rest.now, ap length left)

pub loop-line-preserved-in-Some : goal.loop-line-preserved-in-Some
loop-line-preserved-in-Some c =
    let i = skip_in _ _ _ _ c.in-Some.ensures.space in
    let left : c.in-Some.others.now ≡ drop 1 c.loop-line.rest.now = c.in-Some.ensures.rest in record {
      reads = rw left (rests_skip _ _ _ _ _ _ _ c.loop-line.invariant.reads c.in-Some.ensures.space);
      order = later_end _ 0 c.loop-line.at _ c.loop-line.invariant.order (omega arith);
      place = omega (arith, length-drop 1 c.loop-line.rest.now, ap length left);
    }
