-- What arrays and structs have, by their values in braces.
use Rattle.std.proofs.Common.{◌≡◌, ℕ, ◌+◌, ◌<◌, ◌≤◌, List, [], ◌∷◌, ◌++◌, length, drop, get_or, Option, Some, None, true, Result, Ok, Err, refl, sym, ap, ◌∙◌, subst}
use Rattle.std.specs.Option.{option_map}
use Rattle.std.specs.Prelude.{Vec, if◌then◌else◌, replicate, slice_get}
use Rattle.std.specs.Result.{is_ok}
use Rattle.std.specs.declared.alloc.Global.{Global}
use Rattle.c_syntax.specs.declared.declaration.Value.{Value}
use Rattle.c_syntax.specs.Nodes.{Nodes}
use Rattle.c_syntax.specs.Syntax.{Value as Written, Values as Writtens, Braces}
use Rattle.c_syntax.specs.Stands.{StandsValue}
use Rattle.c_types_model.specs.Types.{CType}
use Rattle.c_types_table.specs.declared.ids.TypeId.{TypeId}
use Rattle.c_types_table.specs.Tables.{IsBelow, at, made, type_at}
use Rattle.c_types_table.specs.declared.ids.StructId.{StructId}
use Rattle.c_types_table.specs.declared.ty.Ty.{Ty}
use Rattle.c_types_table.specs.declared.ty.Ty.TheVariants as nodes
use Rattle.c_types_rules.specs.Checked.{Checked, Fine, ◌>>=◌}
use Rattle.c_types_rules.specs.Environment.{Environment}
use Rattle.c_types_rules.specs.Initials as initials
use Rattle.c_types_rules.specs.Initials.{Initials, elements, initial, members, start_of_value, types_in}
use Rattle.c_types_operators.specs.declared.error.TypeError.{TypeError}
use Rattle.c_types_operators.specs.declared.error.TypeError.TheVariants.{Rule}
use Rattle.c_types_program.specs.declared.global.Initial.{Initial}
use Rattle.c_types_program.specs.declared.global.Initial.TheVariants.{Listed}
use Rattle.c_types_environment.specs.States.{notes_of, State}
use Rattle.c_types_expressions.specs.Found.{Finds, Found, Stays}
use Rattle.c_types_expressions.proofs.Kept.{type_stays}
use Rattle.c_types_expressions.proofs.Sequences.{gone_on}
use Rattle.c_types_initializers.proofs.Made.{listed_means}
use Rattle.c_types_initializers.specs.Values.{AreInitials, IsInitial}
use Rattle.c_types_initializers.proofs.Rests.{RestOfValues, as_vector, element_at, elements_are, error_as_vector}
use Rattle.c_types_initializers.proofs.Stepping.{all_read, one_off, one_on, too_many}

-- the answer on all values, in a vector
abbrev pub InVector : Initials → Vec Initial Global → Type 0
InVector ys v = AreInitials ys v.items

module _ (N : Nodes) (a b : State) (vs : List Value) (k : ℕ) (xs : Writtens) (all : List CType) (given : List Initial) (one_stay : Stays a b)
    (r : RestOfValues N a.env (notes_of a) (notes_of b) (drop k vs) (drop k all) xs all given) where
  -- a value of a type that stands at a number now
  module _ (d : Value) (lt : k < length vs) (ty : TypeId) (some : slice_get all k ≡ Some (type_at b.table.types ty)) (c : State) where
    as_before : (x : Written) (q : Result Initial TypeError) → Finds b c IsInitial (initial x b.env (type_at b.table.types ty)) q → Finds b c IsInitial (initial x a.env (type_at b.table.types ty)) q
    as_before x q h = let P : Checked initials.Initial → Type 0 = λ z. Finds b c IsInitial z q in subst P (ap (λ e. initial x e (type_at b.table.types ty)) one_stay.env) h

    pub value_on : (one : Initial) → ((x : Written) → StandsValue N (get_or vs k d) x → Finds b c IsInitial (initial x b.env (type_at b.table.types ty)) (Ok one))
        → RestOfValues N a.env (notes_of a) (notes_of c) (drop (k + 1) vs) (drop (k + 1) all) xs all (given ++ one ∷ [])
    value_on one p = one_on N a.env (notes_of a) (notes_of b) vs k xs all given r d lt (type_at b.table.types ty) some (notes_of c) one (λ x s. as_before x (Ok one) (p x s))

    pub value_off : (e : TypeError) → ((x : Written) → StandsValue N (get_or vs k d) x → Finds b c IsInitial (initial x b.env (type_at b.table.types ty)) (Err e)) → Finds a c InVector (members xs a.env all) (Err e)
    value_off e p = error_as_vector (notes_of a) (notes_of c) (members xs a.env all) e (one_off N a.env (notes_of a) (notes_of b) vs k xs all given r d lt (type_at b.table.types ty) some (notes_of c) e (λ x s. as_before x (Err e) (p x s)))

  pub value_too_many : (d : Value) → k < length vs → (from : ℕ) → slice_get all k ≡ None → ((x : Written) → StandsValue N (get_or vs k d) x → from ≡ start_of_value x) → Finds a b InVector (members xs a.env all) (Err (Rule from 16))
  value_too_many d lt from none starts = error_as_vector (notes_of a) (notes_of b) (members xs a.env all) (Rule from 16) (too_many N a.env (notes_of a) (notes_of b) vs k xs all given r d lt from none starts)

  pub values_read : (v : Vec Initial Global) → v.items ≡ given → length vs ≤ k → Finds a b InVector (members xs a.env all) (Ok v)
  values_read v e le =
      let P : List Initial → Type 0 = λ z. Found (notes_of a) (notes_of b) AreInitials (members xs a.env all) (Ok z) in
      as_vector (notes_of a) (notes_of b) (members xs a.env all) v (subst P (sym e) (all_read N a.env (notes_of a) (notes_of b) vs k xs all given r le))

-- elements are members of one type
pub as_elements : (a b : State) (xs : Writtens) (n : ℕ) (t : CType) (q : Result (Vec Initial Global) TypeError) → Finds a b InVector (members xs a.env (replicate n t)) q → Finds a b InVector (elements xs a.env n t) q
as_elements a b xs n t q h = let P : Checked Initials → Type 0 = λ z. Finds a b InVector z q in subst P (sym (elements_are xs a.env n t)) h

-- the type of the next element, as it stands now
pub element_type : (a b : State) (n k : ℕ) (ty : TypeId) → Stays a b → IsBelow (length a.table.types) ty → k < n → slice_get (replicate n (type_at a.table.types ty)) k ≡ Some (type_at b.table.types ty)
element_type a b n k ty stay low lt = element_at n k (type_at a.table.types ty) lt ∙ ap Some (sym (type_stays a.table b.table ty stay.numbers low))

-- the type of the next member
pub member_type : (a b : State) (number k : ℕ) (o : Option TypeId) (ty : TypeId) → Stays a b → option_map (type_at b.table.types) o ≡ slice_get (types_in b.env.structs number) k → o ≡ Some ty
    → slice_get (types_in a.env.structs number) k ≡ Some (type_at b.table.types ty)
member_type a b number k o ty stay h e = ap (λ z. slice_get (types_in z.structs number) k) (sym stay.env) ∙ (sym h ∙ ap (option_map (type_at b.table.types)) e)

pub no_member_type : (a b : State) (number k : ℕ) (o : Option TypeId) → Stays a b → option_map (type_at b.table.types) o ≡ slice_get (types_in b.env.structs number) k → o ≡ None → slice_get (types_in a.env.structs number) k ≡ None
no_member_type a b number k o stay h e = ap (λ z. slice_get (types_in z.structs number) k) (sym stay.env) ∙ (sym h ∙ ap (option_map (type_at b.table.types)) e)

-- what isn't any
pub missing : {A : Type 0} (o : Option A) → ((x : A) → o ≡ Some x → ⊥) → o ≡ None
missing None n = refl
missing (Some x) n = absurd (n x refl)

-- what a list is where one more was added
pub pushed : {T E : Type 0} {A : Type 0} (r : Result T E) (before after : List A) {items : List A} → is_ok r ≡ true → items ≡ (if is_ok r then after else before) → items ≡ after
pushed r before after e h = h ∙ ap (λ b. if b then after else before) e

-- ---- arrays and structs as they are listed

pub by_array : (xs : Writtens) (env : Environment) (from : ℕ) (c : CType) (ts : List CType) (n : Ty) (e : TypeId) (l : ℕ) → c ≡ made ts n → n ≡ nodes.Array e l
    → initial (Braces from xs) env c ≡ (elements xs env l (at ts e) >>= (λ ys. Fine (initials.Listed ys)))
by_array xs env from c ts n e l is node = ap (initial (Braces from xs) env) (is ∙ ap (made ts) node)

pub by_struct : (xs : Writtens) (env : Environment) (from : ℕ) (c : CType) (ts : List CType) (n : Ty) (s : StructId) → c ≡ made ts n → n ≡ nodes.Struct s
    → initial (Braces from xs) env c ≡ (members xs env (types_in env.structs s.0) >>= (λ ys. Fine (initials.Listed ys)))
by_struct xs env from c ts n s is node = ap (initial (Braces from xs) env) (is ∙ ap (made ts) node)

pub listed_found : (a b : State) (xs : Writtens) (from : ℕ) (v : Vec Initial Global) (c : CType) (parts : Checked Initials) → initial (Braces from xs) a.env c ≡ (parts >>= (λ ys. Fine (initials.Listed ys)))
    → Finds a b InVector parts (Ok v) → Finds a b IsInitial (initial (Braces from xs) a.env c) (Ok (Listed v))
listed_found a b xs from v c parts is h =
    let P : Checked initials.Initial → Type 0 = λ z. Finds a b IsInitial z (Ok (Listed v)) in
    subst P (sym is) (gone_on (notes_of a) (notes_of b) (notes_of b) InVector IsInitial parts (λ ys. Fine (initials.Listed ys)) v (Ok (Listed v)) h (λ ys e. (listed_means v ∙ ap initials.Listed e, refl)))
