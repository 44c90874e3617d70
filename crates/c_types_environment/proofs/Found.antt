-- What names and members mean where types go by numbers.
use Rattle.std.proofs.Common.{◌≡◌, ℕ, zero, suc, ◌+◌, ◌<◌, ◌≤◌, Bool, true, false, cond, List, [], ◌∷◌, ◌++◌, length, map, drop, Option, Some, None, IfSome, refl, sym, ap, ◌∙◌, subst, arith}
use Rattle.std.specs.Prelude.{slice_get}
use Rattle.std.specs.Option.{option_map, option_or}
use Rattle.std.specs.List.{All}
use Rattle.std.proofs.lemmas.List.Elements.{All-nil, All-cons, All-head, All-tail}
use Rattle.c_types_model.specs.Types.{CType}
use Rattle.c_types_model.specs.declared.extent.Extent.{Extent}
use Rattle.c_types_table.specs.declared.ids.TypeId.{TypeId}
use Rattle.c_types_table.specs.Tables.{IsBelow, at}
use Rattle.c_scopes.specs.Scopes.{Scope, declared, innermost, meaning_in, meaning_of, same_name}
use Rattle.c_types_rules.specs.Environment.{Struct}
use Rattle.c_types_rules.specs.Expressions.{member_from, member_in}
use Rattle.c_types_rules.specs.Initials.{member_types, types_in}
use Rattle.c_types_structs.specs.Members.{MemberList, members_at, type_of_member}
use Rattle.c_types_environment.specs.declared.meaning.Meaning.{Meaning}
use Rattle.c_types_environment.specs.Reading.{maybe_by, meaning_by, members_by, scope_by, scopes_by, struct_with, structs_by, IsMeaningBelow, IsMemberBelow, IsNameBelow}

mapped_cond : {A B : Type 0} (f : A → B) (b : Bool) (x : A) (r : Option A) → option_map f (cond b (Some x) r) ≡ cond b (Some (f x)) (option_map f r)
mapped_cond f true x r = refl
mapped_cond f false x r = refl

mapped_or : {A B : Type 0} (f : A → B) (o r : Option A) → option_map f (option_or o r) ≡ option_or (option_map f o) (option_map f r)
mapped_or f None r = refl
mapped_or f (Some x) r = refl

-- ---- names

pub meaning_found : (ts : List CType) (name : List ℕ) (scope : Scope Meaning) → maybe_by ts (meaning_in name scope) ≡ meaning_in name (scope_by ts scope)
meaning_found ts name [] = refl
meaning_found ts name (p ∷ scope) =
    mapped_cond (meaning_by ts) (same_name name p.0) p.1 (meaning_in name scope)
    ∙ ap (λ r. cond (same_name name p.0) (Some (meaning_by ts p.1)) r) (meaning_found ts name scope)

pub meaning_anywhere : (ts : List CType) (name : List ℕ) (scopes : List (Scope Meaning)) → maybe_by ts (meaning_of name scopes) ≡ meaning_of name (scopes_by ts scopes)
meaning_anywhere ts name [] = refl
meaning_anywhere ts name (scope ∷ scopes) =
    mapped_or (meaning_by ts) (meaning_in name scope) (meaning_of name scopes)
    ∙ (ap (λ o. option_or o (maybe_by ts (meaning_of name scopes))) (meaning_found ts name scope)
    ∙ ap (λ r. option_or (meaning_in name (scope_by ts scope)) r) (meaning_anywhere ts name scopes))

innermost_by : (ts : List CType) (scopes : List (Scope Meaning)) → scope_by ts (innermost scopes) ≡ innermost (scopes_by ts scopes)
innermost_by ts [] = refl
innermost_by ts (scope ∷ scopes) = refl

pub meaning_here : (ts : List CType) (name : List ℕ) (scopes : List (Scope Meaning)) → maybe_by ts (meaning_in name (innermost scopes)) ≡ meaning_in name (innermost (scopes_by ts scopes))
meaning_here ts name scopes = meaning_found ts name (innermost scopes) ∙ ap (meaning_in name) (innermost_by ts scopes)

cond_below : (n : ℕ) (b : Bool) (m : Meaning) (r : Option Meaning) → IsMeaningBelow n m → IfSome r (IsMeaningBelow n) → IfSome (cond b (Some m) r) (IsMeaningBelow n)
cond_below n true m r h k = h
cond_below n false m r h k = k

or_below : (n : ℕ) (o r : Option Meaning) → IfSome o (IsMeaningBelow n) → IfSome r (IsMeaningBelow n) → IfSome (option_or o r) (IsMeaningBelow n)
or_below n None r h k = k
or_below n (Some m) r h k = h

pub found_below : (n : ℕ) (name : List ℕ) (scope : Scope Meaning) → All (IsNameBelow n) scope → IfSome (meaning_in name scope) (IsMeaningBelow n)
found_below n name [] h = tt
found_below n name (p ∷ scope) h = cond_below n (same_name name p.0) p.1 (meaning_in name scope) (All-head (IsNameBelow n) p scope h) (found_below n name scope (All-tail (IsNameBelow n) p scope h))

pub anywhere_below : (n : ℕ) (name : List ℕ) (scopes : List (Scope Meaning)) → All (All (IsNameBelow n)) scopes → IfSome (meaning_of name scopes) (IsMeaningBelow n)
anywhere_below n name [] h = tt
anywhere_below n name (scope ∷ scopes) h =
    or_below n (meaning_in name scope) (meaning_of name scopes) (found_below n name scope (All-head (All (IsNameBelow n)) scope scopes h)) (anywhere_below n name scopes (All-tail (All (IsNameBelow n)) scope scopes h))

pub here_below : (n : ℕ) (name : List ℕ) (scopes : List (Scope Meaning)) → All (All (IsNameBelow n)) scopes → IfSome (meaning_in name (innermost scopes)) (IsMeaningBelow n)
here_below n name [] h = tt
here_below n name (scope ∷ scopes) h = found_below n name scope (All-head (All (IsNameBelow n)) scope scopes h)

-- ---- scopes that change

pub declared_by : (ts : List CType) (name : List ℕ) (m : Meaning) (scopes : List (Scope Meaning)) → scopes_by ts (declared name m scopes) ≡ declared name (meaning_by ts m) (scopes_by ts scopes)
declared_by ts name m [] = refl
declared_by ts name m (scope ∷ scopes) = refl

pub declared_below : (n : ℕ) (name : List ℕ) (m : Meaning) (scopes : List (Scope Meaning)) → IsMeaningBelow n m → All (All (IsNameBelow n)) scopes → All (All (IsNameBelow n)) (declared name m scopes)
declared_below n name m [] lt h = h
declared_below n name m (scope ∷ scopes) lt h =
    All-cons (All (IsNameBelow n)) ((name, m) ∷ scope) scopes (All-cons (IsNameBelow n) (name, m) scope lt (All-head (All (IsNameBelow n)) scope scopes h)) (All-tail (All (IsNameBelow n)) scope scopes h)

pub declared_scoped : (name : List ℕ) (m : Meaning) (scopes : List (Scope Meaning)) → 0 < length scopes → 0 < length (declared name m scopes)
declared_scoped name m [] h = h
declared_scoped name m (scope ∷ scopes) h = omega arith

-- a scope more than one is left when one is closed
pub closed_scoped : (ts : List CType) (scopes : List (Scope Meaning)) → 2 ≤ length (scopes_by ts scopes) → 0 < length (drop 1 scopes)
closed_scoped ts [] h = absurd (omega arith)
closed_scoped ts (s ∷ []) h = absurd (omega arith)
closed_scoped ts (s ∷ r ∷ scopes) h = omega arith

pub opened_scoped : (ts : List CType) (scopes : List (Scope Meaning)) → 0 < length scopes → 2 ≤ length ([] ∷ scopes_by ts scopes)
opened_scoped ts [] h = absurd (omega arith)
opened_scoped ts (s ∷ scopes) h = omega arith

pub opened_below : (n : ℕ) (scopes : List (Scope Meaning)) → All (All (IsNameBelow n)) scopes → All (All (IsNameBelow n)) ([] ∷ scopes)
opened_below n scopes h = All-cons (All (IsNameBelow n)) [] scopes (All-nil (IsNameBelow n)) h

pub closed_by : (ts : List CType) (scopes : List (Scope Meaning)) → scopes_by ts (drop 1 scopes) ≡ drop 1 (scopes_by ts scopes)
closed_by ts [] = refl
closed_by ts (scope ∷ scopes) = refl

pub closed_below : (n : ℕ) (scopes : List (Scope Meaning)) → All (All (IsNameBelow n)) scopes → All (All (IsNameBelow n)) (drop 1 scopes)
closed_below n [] h = h
closed_below n (scope ∷ scopes) h = All-tail (All (IsNameBelow n)) scope scopes h

pub depth_by : (ts : List CType) (scopes : List (Scope Meaning)) → length (scopes_by ts scopes) ≡ length scopes
depth_by ts [] = refl
depth_by ts (scope ∷ scopes) = ap suc (depth_by ts scopes)

-- ---- members

pub member_by : (ts : List CType) (before : List Extent) (mss : List MemberList) (number : ℕ) (name : List ℕ) → member_from 0 name (members_by ts (members_at mss number)) ≡ member_in (structs_by ts before mss) number name
member_by ts before [] number name = refl
member_by ts before (ms ∷ mss) zero name = refl
member_by ts before (ms ∷ mss) (suc number) name = member_by ts (before ++ (struct_with before (members_by ts ms)).extent ∷ []) mss number name

pub members_below : (n : ℕ) (mss : List MemberList) (number : ℕ) → All (All (IsMemberBelow n)) mss → All (IsMemberBelow n) (members_at mss number)
members_below n [] number h = All-nil (IsMemberBelow n)
members_below n (ms ∷ mss) zero h = All-head (All (IsMemberBelow n)) ms mss h
members_below n (ms ∷ mss) (suc number) h = members_below n mss number (All-tail (All (IsMemberBelow n)) ms mss h)

pub type_below : (n : ℕ) (ms : MemberList) (place : ℕ) → All (IsMemberBelow n) ms → IfSome (type_of_member ms place) (IsBelow n)
type_below n [] place h = tt
type_below n (m ∷ ms) zero h = All-head (IsMemberBelow n) m ms h
type_below n (m ∷ ms) (suc place) h = type_below n ms place (All-tail (IsMemberBelow n) m ms h)

type_read : (ts : List CType) (ms : MemberList) (place : ℕ) → option_map (at ts) (type_of_member ms place) ≡ slice_get (member_types (members_by ts ms)) place
type_read ts [] place = refl
type_read ts (m ∷ ms) zero = refl
type_read ts (m ∷ ms) (suc place) = type_read ts ms place

pub type_by : (ts : List CType) (before : List Extent) (mss : List MemberList) (number place : ℕ) → option_map (at ts) (type_of_member (members_at mss number) place) ≡ slice_get (types_in (structs_by ts before mss) number) place
type_by ts before [] number place = refl
type_by ts before (ms ∷ mss) zero place = type_read ts ms place
type_by ts before (ms ∷ mss) (suc number) place = type_by ts (before ++ (struct_with before (members_by ts ms)).extent ∷ []) mss number place
