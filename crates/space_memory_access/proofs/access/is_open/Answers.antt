use Rattle.std.proofs.Common.{◌≡◌, ◌↔◌, true, false, sym, subst}
use Rattle.std.proofs.lemmas.Bool.{both_ways}
use Rattle.marks.specs.declared.side.Side.{Side}
use Rattle.space_memory_access.specs.Accesses.{IsOwnTo, IsOpen}
use Rattle.space_memory_access.proofs.Causes.{allowed_not_refused}
use Rattle.space_memory_access.proofs.Open.{open_allowed, open_so}
use Rattle.space_memory_access.proofs.access.is_open.Goals as goal

-- a write to constants isn't open
pub returns-then-not-is_past_constants-clause-open : goal.returns-then-not-is_past_constants-clause-open
returns-then-not-is_past_constants-clause-open c = (λ (no : false ≡ true). absurd (cc), λ way. absurd (both_ways c.is_past_constants.result c.if-not-is_past_constants.true (c.is_past_constants.ensures.1 way.writable)))

pub returns-in-Replay-clause-open : goal.returns-in-Replay-clause-open
returns-in-Replay-clause-open c =
    let own = subst (λ (side : Side). (c.keeps_above.result ≡ true) ↔ IsOwnTo side c.args.held.now.regions c.args.access) (sym c.in-Replay.is) c.keeps_above.ensures in
    open_so c.args.held.now.regions c.args.access c.keeps_above.result own (c.is_past_constants.ensures.0 c.if-not-is_past_constants.false)

pub returns-in-Replay-clause-allowed : goal.returns-in-Replay-clause-allowed
returns-in-Replay-clause-allowed c = λ yes bytes live. open_allowed c.args.held.now.regions c.args.access bytes live ((returns-in-Replay-clause-open c).0 yes)

pub returns-in-Replay-clause-not_refused : goal.returns-in-Replay-clause-not_refused
returns-in-Replay-clause-not_refused c = λ yes bytes live r refused. allowed_not_refused bytes c.args.held.now.regions c.args.access r (open_allowed c.args.held.now.regions c.args.access bytes live ((returns-in-Replay-clause-open c).0 yes)) refused

pub returns-in-System-clause-open : goal.returns-in-System-clause-open
returns-in-System-clause-open c =
    let own = subst (λ (side : Side). (c.keeps_below.result ≡ true) ↔ IsOwnTo side c.args.held.now.regions c.args.access) (sym c.in-System.is) c.keeps_below.ensures in
    open_so c.args.held.now.regions c.args.access c.keeps_below.result own (c.is_past_constants.ensures.0 c.if-not-is_past_constants.false)

pub returns-in-System-clause-allowed : goal.returns-in-System-clause-allowed
returns-in-System-clause-allowed c = λ yes bytes live. open_allowed c.args.held.now.regions c.args.access bytes live ((returns-in-System-clause-open c).0 yes)

pub returns-in-System-clause-not_refused : goal.returns-in-System-clause-not_refused
returns-in-System-clause-not_refused c = λ yes bytes live r refused. allowed_not_refused bytes c.args.held.now.regions c.args.access r (open_allowed c.args.held.now.regions c.args.access bytes live ((returns-in-System-clause-open c).0 yes)) refused
