-- What the rules say of members and of names that are declared, where their tests are known.
use Rattle.std.proofs.Common.{◌≡◌, ℕ, Bool, true, false, not, List, [], Option, Some, None, Result, Ok, Err, is_some, refl, sym, ap, ◌∙◌, subst}
use Rattle.c_types_model.specs.Types.{CType, StructOf}
use Rattle.c_scopes.specs.Scopes.{Scope, declared, innermost, meaning_in}
use Rattle.c_types_rules.specs.Checked.{Checked, Fine, Broken, keep, need, ◌>>=◌, ◌>>◌}
use Rattle.c_types_rules.specs.Environment.{Environment, declarable, is_reserved, with_name}
use Rattle.c_types_rules.specs.Expressions.{member_in, member_of}
use Rattle.c_types_rules.specs.TypedTree.{Object, AnObject, MemberOf}
use Rattle.c_types_table.specs.Tables.{types_of}
use Rattle.c_types_nodes.specs.declared.ids.NodeId.{NodeId}
use Rattle.c_types_nodes.specs.Tables.{Table}
use Rattle.c_types_operators.specs.Answers.{Agrees}
use Rattle.c_types_operators.specs.declared.error.TypeError.{TypeError}
use Rattle.c_types_operators.specs.declared.error.TypeError.TheVariants.{Rule}
use Rattle.c_types_structs.specs.Members.{Definitions}
use Rattle.c_types_environment.specs.declared.meaning.Meaning.{Meaning}
use Rattle.c_types_environment.specs.Reading.{maybe_by, meaning_by, scopes_by, structs_by}
use Rattle.c_types_environment.specs.States.{State, state_by}
use Rattle.c_types_environment.proofs.Found.{declared_by, meaning_here}

pub passed : {A B : Type 0} (R : A → B → Type 0) (c d : Checked A) (r : Result B TypeError) → c ≡ d → Agrees R d r → Agrees R c r
passed {A} R c d r e h = let there : Checked A → Type 0 = λ x. Agrees R x r in subst there (sym e) h

pub broken : {A B : Type 0} (R : A → B → Type 0) (c : Checked A) (from rule : ℕ) → c ≡ Broken from rule → Agrees R c (Err (Rule from rule))
broken R c from rule e = passed R c (Broken from rule) (Err (Rule from rule)) e (refl, refl)

pub member_missing : (env : Environment) (from : ℕ) (o : Object) (number : ℕ) (name : List ℕ) → member_in env.structs number name ≡ None → member_of env from o (StructOf number) name ≡ Broken from 13
member_missing env from o number name h = ap (λ m. need from 13 m >>= (λ x. Fine (AnObject (MemberOf o x.0 x.1)))) h

pub member_there : (env : Environment) (from : ℕ) (o : Object) (number : ℕ) (name : List ℕ) (place : ℕ) (t : CType) → member_in env.structs number name ≡ Some (place, t)
    → member_of env from o (StructOf number) name ≡ Fine (AnObject (MemberOf o place t))
member_there env from o number name place t h = ap (λ m. need from 13 m >>= (λ x. Fine (AnObject (MemberOf o x.0 x.1)))) h

keeps : (from : ℕ) → (reserved taken : Bool) → Checked (Unit {0})
keeps from reserved taken = keep from 19 (not reserved) >> keep from 1 (not taken)

name_taken : (env : Environment) (from : ℕ) (name : List ℕ) → is_reserved name ≡ false → is_some (meaning_in name (innermost env.scopes)) ≡ true → declarable env from name ≡ Broken from 1
unfolding keeps
name_taken env from name h k = ap (λ r. keeps from r (is_some (meaning_in name (innermost env.scopes)))) h ∙ ap (keeps from false) k

name_free : (env : Environment) (from : ℕ) (name : List ℕ) → is_reserved name ≡ false → is_some (meaning_in name (innermost env.scopes)) ≡ false → declarable env from name ≡ Fine tt
unfolding keeps
name_free env from name h k = ap (λ r. keeps from r (is_some (meaning_in name (innermost env.scopes)))) h ∙ ap (keeps from false) k

some_read : (ts : List CType) (o : Option Meaning) → is_some (maybe_by ts o) ≡ is_some o
some_read ts None = refl
some_read ts (Some m) = refl

-- whether a name is declared here
here : (ts : List CType) (scopes : List (Scope Meaning)) (env : Environment) (name : List ℕ) (b : Bool) → scopes_by ts scopes ≡ env.scopes → is_some (meaning_in name (innermost scopes)) ≡ b → is_some (meaning_in name (innermost env.scopes)) ≡ b
here ts scopes env name b same h =
    sym (ap (λ ss. is_some (meaning_in name (innermost ss))) same)
    ∙ (sym (ap is_some (meaning_here ts name scopes)) ∙ (some_read ts (meaning_in name (innermost scopes)) ∙ h))

pub taken_here : (R : Unit {0} → Unit {0} → Type 0) (from : ℕ) (name : List ℕ) (ts : List CType) (scopes : List (Scope Meaning)) (env : Environment) → scopes_by ts scopes ≡ env.scopes → is_reserved name ≡ false → is_some (meaning_in name (innermost scopes)) ≡ true
    → Agrees R (declarable env from name) (Err (Rule from 1))
taken_here R from name ts scopes env same h k = broken R (declarable env from name) from 1 (name_taken env from name h (here ts scopes env name true same k))

pub free_here : (R : Unit {0} → Unit {0} → Type 0) (from : ℕ) (name : List ℕ) (ts : List CType) (scopes : List (Scope Meaning)) (env : Environment) → scopes_by ts scopes ≡ env.scopes → is_reserved name ≡ false → is_some (meaning_in name (innermost scopes)) ≡ false → R tt tt
    → Agrees R (declarable env from name) (Ok tt)
free_here R from name ts scopes env same h k r = passed R (declarable env from name) (Fine tt) (Ok tt) (name_free env from name h (here ts scopes env name false same k)) r

pub declared_state : (t : Table) (tags : List (List ℕ)) (structs : Definitions) (scopes more : List (Scope Meaning)) (large : Bool) (ids : List NodeId) (now : State) (name : List ℕ) (m : Meaning) → state_by t tags structs scopes large ids ≡ now → more ≡ declared name m scopes
    → state_by t tags structs more large ids ≡ record now { env = with_name now.env name (meaning_by (types_of now.table.types) m) }
declared_state t tags structs scopes more large ids now name m same h =
    let ts = types_of t.types in
    let there : State → Type 0 = λ s. state_by t tags structs more large ids ≡ record s { env = with_name s.env name (meaning_by (types_of s.table.types) m) } in
    subst there same
    (ap (λ x. state_by t tags structs x large ids) h
    ∙ ap (λ ns. record { table = t; env = record { tags = tags; structs = structs_by ts [] structs.members; scopes = ns }; found_large = large; unevaluated = ids }) (declared_by ts name m scopes))
