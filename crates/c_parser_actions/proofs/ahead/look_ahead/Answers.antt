use Rattle.std.proofs.Common.{◌≡◌, ◌+◌, ◌-◌, [], ◌∷◌, ◌++◌, drop, reverse, arith}
use Rattle.c_syntax.specs.Levels.{begins_type}
use Rattle.c_parser_moves.specs.Marks.{mark_of}
use Rattle.c_parser_actions.specs.Ahead.{nearest, met}
use Rattle.c_parser_actions.proofs.Foretold.{told_more}
use Rattle.c_parser_actions.proofs.ahead.look_ahead.Goals as goal

pub loop-at-preserved : goal.loop-at-preserved
loop-at-preserved c =
    let all = c.args.tokens.now in
    let at = c.loop-at.at in
    let waits = reverse c.loop-at.closers.items in
    let same : (at - 1) + 1 ≡ at = omega arith in
    let following : c.split_at.result.1.now ≡ drop at all = rw same at c.split_at.ensures.back in
    let first : c.nearest.result ≡ nearest waits = rw c.deref.ensures.value at c.nearest.ensures in
    let table : c.push.new.self.items ≡ c.loop-at.table.items ++ nearest waits ∷ [] = rw first at c.in_ok-push.ensures.items in
    let waiting : reverse c.meet.new.closers.items ≡ met (mark_of c.index-tokens-at.result.kind) (begins_type (drop at all)) waits = rw (c.mark_kind.ensures, ← c.index-tokens-at.is, c.type_first.ensures, following) at c.in_ok-meet.ensures in
    rw (table, waiting) (told_more all (at - 1) at c.index-tokens-at.result c.loop-at.table.items waits (omega arith) (omega arith) c.index-tokens-at.is c.loop-at.invariant)
