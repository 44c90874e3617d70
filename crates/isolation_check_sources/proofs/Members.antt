-- A typed program has few members in each struct.
use Rattle.std.proofs.Common.{◌≡◌, ℕ, ◌≤◌, Bool, true, false, ◌&&◌, cond, List, [], ◌∷◌, length, Option, Some, None, zero, suc, refl, sym, ap, ◌∙◌, subst}
use Rattle.std.specs.Prelude.{nat_le, not, slice_get}
use Rattle.std.proofs.lemmas.Bool.{leb-true}
use Rattle.std.proofs.lemmas.Option.{same_Some}
use Rattle.source_limits.specs.Limits.{most_members}
use Rattle.c_syntax.specs.Syntax.{Decls}
use Rattle.c_types_rules.specs.Checked.{Checked, Fine, Noted, Broken}
use Rattle.c_types_rules.specs.Environment.{Struct}
use Rattle.c_types_rules.specs.Limits as limits
use Rattle.c_types_rules.specs.Limits.{Which, Functions, Params, Typed, all_keep, decided, few_members, few_params, first_limit, outcome, unless}
use Rattle.c_types_rules.specs.Sources.{Program, program}

abbrev Few : Program → Type 0
Few p = all_keep few_members p.structs ≡ true

-- where no limit is exceeded
none_exceeded : (a b c : Bool) (rest : Option Which) → cond a (cond b (cond c rest (Some limits.Members)) (Some Params)) (Some Functions) ≡ None → c ≡ true
none_exceeded true true true rest e = refl
none_exceeded true true false rest e = absurd cc
none_exceeded true false c rest e = absurd cc
none_exceeded false b c rest e = absurd cc

within_limits : (q p : Program) (small : Bool) (w : Option Which) → first_limit small q ≡ w → unless q w ≡ Typed p → Few p
within_limits q p small None e h =
    let is : q ≡ p = cc in
    subst Few is (none_exceeded (nat_le (length q.functions) 1000) (all_keep few_params q.functions) (all_keep few_members q.structs) _ e)
within_limits q p small (Some w) e h = absurd cc

decided_few : (c : Checked Program) (p : Program) → decided c ≡ Typed p → Few p
decided_few (Fine q) p e = within_limits q p true (first_limit true q) refl e
decided_few (Noted n q) p e = within_limits q p (not n.large) (first_limit (not n.large) q) refl e
decided_few (Broken from rule) p e = absurd cc

each_few : (ss : List Struct) → all_keep few_members ss ≡ true → (k : ℕ) (s : Struct) → slice_get ss k ≡ Some s → length s.members ≤ most_members
each_few [] h k s e = absurd cc
each_few (x ∷ ss) h k s e = by (few_members x) refl h k e (λ r j i. each_few ss r j s i)
  where
    by : (b : Bool) → few_members x ≡ b → (b && all_keep few_members ss) ≡ true → (k : ℕ) → slice_get (x ∷ ss) k ≡ Some s → (all_keep few_members ss ≡ true → (j : ℕ) → slice_get ss j ≡ Some s → length s.members ≤ most_members) → length s.members ≤ most_members
    by true few r zero i rest = leb-true (length s.members) most_members (ap few_members (sym (same_Some x s i)) ∙ few)
    by true few r (suc j) i rest = rest r j i
    by false few r j i rest = absurd cc

pub typed_has_few : (ds : Decls) (p : Program) → outcome ds ≡ Typed p → (k : ℕ) (s : Struct) → slice_get p.structs k ≡ Some s → length s.members ≤ most_members
typed_has_few ds p e = each_few p.structs (decided_few (program ds) p e)
