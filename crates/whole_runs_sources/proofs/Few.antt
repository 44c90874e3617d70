-- An accepted source declares few functions.
use Rattle.std.proofs.Common.{◌≡◌, ◌≤◌, ℕ, Bool, true, false, cond, List, length, Option, Some, None, refl, subst, arith}
use Rattle.std.specs.Prelude.{nat_le, not}
use Rattle.std.proofs.lemmas.Bool.{leb-true}
use Rattle.source_limits.specs.Limits.{most_functions}
use Rattle.c_types_rules.specs.Checked.{Checked, Fine, Noted, Broken}
use Rattle.c_types_rules.specs.Limits.{Which, Functions, Typed, decided, first_limit, unless}
use Rattle.c_types_rules.specs.Sources.{Program, program}
use Rattle.cut_check.proofs.Accepted.{known}
use Rattle.cut_check.proofs.MainPlace.{function_count}
use Rattle.front_end.specs.declared.source.CheckedSource.{CheckedSource}
use Rattle.front_end.specs.Answers.{IsAccepted}

abbrev IsFew : Program → Type 0
IsFew p = nat_le (length p.functions) most_functions ≡ true

none_exceeded : (few : Bool) (rest : Option Which) → cond few rest (Some Functions) ≡ None → few ≡ true
none_exceeded true rest e = refl
none_exceeded false rest e = absurd cc

within_limits : (q p : Program) (small : Bool) (w : Option Which) → first_limit small q ≡ w → unless q w ≡ Typed p → IsFew p
within_limits q p small None e h =
    let is : q ≡ p = cc in
    subst IsFew is (none_exceeded (nat_le (length q.functions) most_functions) _ e)
within_limits q p small (Some w) e h = absurd cc

decided_few : (c : Checked Program) (p : Program) → decided c ≡ Typed p → IsFew p
decided_few (Fine q) p e = within_limits q p true (first_limit true q) refl e
decided_few (Noted n q) p e = within_limits q p (not n.large) (first_limit (not n.large) q) refl e
decided_few (Broken from rule) p e = absurd cc

pub few_functions : (bytes cut : List ℕ) (c : CheckedSource) → IsAccepted bytes cut c → length c.program.functions ≤ 1000
few_functions bytes cut c accepted =
    let k = known bytes cut c accepted in
    let same = function_count c.program k.program k.is.program in
    let few = leb-true (length k.program.functions) most_functions (decided_few (program k.says.right.ds) k.program k.says.declares) in
    omega (arith, same, few)
