-- The code of an expression of any sort, and of a call of it.
use Rattle.std.specs.Prelude.{◌≡◌, ℕ, ◌+◌, List, [], ◌∷◌, ◌++◌, length}
use Rattle.c_code.specs.declared.instr.Instr.{Instr}
use Rattle.c_code.specs.declared.instr.Instr.TheVariants.{GoBack, SkipIfZero, Turn}
use Rattle.c_types_model.specs.Types.{CType}
use Rattle.c_types_rules.specs.TypedTree.{Callee, Value, Values, Statement, Initialise, Typed, AnObject, AFunction, AValue}
use Rattle.c_lower_placement.specs.Placement.{count}
use Rattle.c_lower_placement.specs.Code.{Making, call_code, callee_code, object_code, one, statement_code, value_code, values_code}

-- the address of an object, the value of a pointer to a function, or a value
abbrev pub typed_code : Typed → Making → List Instr
typed_code (AnObject o) x = object_code o x
typed_code (AFunction f t) x = callee_code f x
typed_code (AValue v) x = value_code v x

-- the pointer to a function where there is one, the arguments, and the call
abbrev pub call_of : Callee → Values → Making → List Instr
call_of f vs x = callee_code f x ++ (values_code vs x ++ call_code f x (count vs))

-- the call of a function; nothing else is called
abbrev pub calling_code : Typed → Making → (count : ℕ) → List Instr
calling_code (AnObject o) x n = []
calling_code (AFunction f t) x n = call_code f x n
calling_code (AValue v) x n = []

-- the first value of a local
abbrev pub initialise_code : (place : ℕ) → CType → Value → Making → List Instr
initialise_code place t v x = statement_code (Initialise place t v) x 0 0

-- a statement that is passed with so many instructions after it where a value is 0
abbrev pub guarded_code : Value → Statement → Making → (stop again more : ℕ) → List Instr
guarded_code v s x stop again more =
    let body = statement_code s x stop again in
    value_code v x ++ (SkipIfZero (length body + more) ∷ body)

-- a loop has its head, and its way back leads there, where so many instructions are after the loop
abbrev pub Turns : (before after : List Instr) → (end : ℕ) → Type 0
Turns before after end = (inner old : List Instr) → before ≡ inner ++ (GoBack 0 ∷ old) → length old ≡ end →
    after ≡ (Turn ∷ (inner ++ one (GoBack (length inner)))) ++ old
