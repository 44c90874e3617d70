-- The values of globals (C11 6.7.9), which are known before a run begins.
use Rattle.std.specs.Prelude.{ℕ, zero, suc, ℤ, ◌+◌, nat_le, Bool, false, List, [], ◌∷◌, length, Option, Some, None}
use Rattle.r2_num.specs.declared.kinds.IntKind.TheVariants.{I8}
use Rattle.r2_num.specs.Conversions.{wrapped}
use Rattle.c_lexer.specs.declared.token.Sign.TheVariants as signs
use Rattle.c_syntax.specs.Syntax.{Expr, Value as Written, Values as Writtens, Plain, Braces, NoValues, MoreValues, Name, Prefix, Text}
use Rattle.c_types_model.specs.Types.{CType, Integer, ArrayOf, StructOf}
use Rattle.c_types_rules.specs.Checked.{Checked, Fine, Broken, keep, need, ◌>>=◌, ◌>>◌}
use Rattle.c_types_rules.specs.Constants.{integer_constant}
use Rattle.c_types_rules.specs.Operators.{assigned}
use Rattle.c_types_rules.specs.TypedTree.{Typed, AnObject, AFunction, GlobalObject, TextObject, SourceFunction, value_of}
use Rattle.c_types_rules.specs.Environment.{Environment, Struct}
use Rattle.c_types_rules.specs.Expressions.{start_of, expression}

-- what a scalar has before a run: a number, or an address
pub data Known : Type 0 where
  Number : ℤ → Known
  AddressOfText : (from : ℕ) → Known
  AddressOfGlobal : (place : ℕ) → Known
  -- the function of this number, which is named at this offset
  AddressOfFunction : (from number : ℕ) → Known

mutual
  -- what an object has before a run; what isn't given is zero
  pub data Initial : Type 0 where
    Scalar : Known → Initial
    -- the bytes of an array of char
    Bytes : List ℕ → Initial
    -- the first elements or members
    Listed : Initials → Initial

  pub data Initials : Type 0 where
    NoInitials : Initials
    MoreInitials : Initial → Initials → Initials

-- a string, a function or a global array as the value of a pointer
abbrev pub address_known : Typed → Option Known
address_known (AnObject (TextObject from length)) = Some (AddressOfText from)
address_known (AnObject (GlobalObject from place (ArrayOf n t))) = Some (AddressOfGlobal place)
address_known (AFunction (SourceFunction from number) t) = Some (AddressOfFunction from number)
address_known _ = None

abbrev pub global_known : Typed → Option Known
global_known (AnObject (GlobalObject from place t)) = Some (AddressOfGlobal place)
global_known _ = None

-- a name or string that is a pointer's value before a run
abbrev pub known_by : Expr → Typed → Option Known
known_by (Name from name) a = address_known a
known_by (Text from bytes) a = address_known a
known_by _ a = None

-- `&` of a global that is named
abbrev pub named_under_address : Expr → Option Expr
named_under_address (Prefix from signs.Ampersand (Name at name)) = Some (Name at name)
named_under_address _ = None

-- the address of what is named, or stands under `&`
abbrev pub address_in : Environment → Expr → Typed → Option Expr → Checked Known
address_in env x a (Some y) = do
  b ← expression y env
  need (start_of x) 16 (global_known b)
address_in env x a None = need (start_of x) 16 (known_by x a)

abbrev pub number_or : Option ℤ → Checked Known → Checked Known
number_or (Some n) c = Fine (Number n)
number_or None c = c

-- what is known before a run, whatever the type of its object: an integer constant expression, or an
-- address
abbrev pub known_before : Environment → Expr → Typed → Checked Known
known_before env x a = number_or (integer_constant (value_of a))
    (address_in env x a (named_under_address x))

-- a number as an object of a type has it
abbrev pub number_as : CType → ℤ → ℤ
number_as (Integer k) n = wrapped k n
number_as t n = n

abbrev pub stored_as : CType → Known → Known
stored_as t (Number n) = Number (number_as t n)
stored_as t k = k

-- the value of a scalar: known before a run, and converted as if by assignment
abbrev pub known : Environment → CType → Expr → Checked Known
known env t x = do
  a ← expression x env
  k ← known_before env x a
  assigned (start_of x) t (value_of a)
  Fine (stored_as t k)

-- a string with its ending zero fits into an array of char (C11 6.7.9, 14)
abbrev pub text_fits : ℕ → CType → List ℕ → Bool
text_fits n (Integer I8) bytes = nat_le (length bytes + 1) n
text_fits n t bytes = false

abbrev pub plain_initial : Environment → CType → Expr → Checked Initial
plain_initial env (ArrayOf n t) (Text from bytes) = keep from 16 (text_fits n t bytes) >> Fine (Bytes bytes)
plain_initial env (ArrayOf n t) x = Broken (start_of x) 16
plain_initial env (StructOf number) x = Broken (start_of x) 16
plain_initial env t x = do
  k ← known env t x
  Fine (Scalar k)

abbrev pub start_of_value : Written → ℕ
start_of_value (Plain x) = start_of x
start_of_value (Braces from vs) = from

abbrev pub member_types : List (List ℕ × CType) → List CType
member_types [] = []
member_types ((name, t) ∷ members) = t ∷ member_types members

abbrev pub types_in : List Struct → ℕ → List CType
types_in [] number = []
types_in (s ∷ structs) zero = member_types s.members
types_in (s ∷ structs) (suc number) = types_in structs number

abbrev mutual
  -- the value of an object of a type
  pub initial : Written → Environment → CType → Checked Initial
  initial (Plain x) env t = plain_initial env t x
  initial (Braces from vs) env (ArrayOf n t) = do
    xs ← elements vs env n t
    Fine (Listed xs)
  initial (Braces from vs) env (StructOf number) = do
    xs ← members vs env (types_in env.structs number)
    Fine (Listed xs)
  initial (Braces from vs) env t = Broken from 16

  -- no more values than elements
  pub elements : Writtens → Environment → ℕ → CType → Checked Initials
  elements NoValues env n t = Fine NoInitials
  elements (MoreValues v vs) env zero t = Broken (start_of_value v) 16
  elements (MoreValues v vs) env (suc n) t = do
    x ← initial v env t
    xs ← elements vs env n t
    Fine (MoreInitials x xs)

  -- no more values than members
  pub members : Writtens → Environment → List CType → Checked Initials
  members NoValues env ts = Fine NoInitials
  members (MoreValues v vs) env [] = Broken (start_of_value v) 16
  members (MoreValues v vs) env (t ∷ ts) = do
    x ← initial v env t
    xs ← members vs env ts
    Fine (MoreInitials x xs)
