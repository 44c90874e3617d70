use Rattle.std.proofs.Common.{◌≡◌, List, ℕ, true, length, sym, subst}
use Rattle.std.proofs.lemmas.Bool.{ltb-false}
use Rattle.lockset_check_held.specs.Rows.{is_on}
use Rattle.lockset_check_held.proofs.Bits.{nothing_included}
use Rattle.lockset_check_held.proofs.Tables.{past_rows}
use Rattle.lockset_check_held.proofs.row.has_all_at.Goals as goal

pub returns-in-None-clause-all : goal.returns-in-None-clause-all
returns-in-None-clause-all c = λ e p on.
    let le = ltb-false c.args.place (length c.args.rows.now) (sym c.in-None.ensures.lookup.0) in
    nothing_included c.args.row.now p (subst (λ (r : List ℕ). is_on r p ≡ true) (past_rows c.args.rows.now c.args.place le) on)
