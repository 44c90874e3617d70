-- The code of a function is the same wherever it and all objects lie.
use Rattle.std.proofs.Common.{◌≡◌, ℕ, ◌+◌, List, ◌∷◌, ◌++◌, length, refl, ap, ◌∙◌}
use Rattle.memory_map.specs.declared.placed.Placed.{Placed}
use Rattle.c_code.specs.declared.instr.Change.TheVariants as change
use Rattle.c_code.specs.declared.instr.Instr.{Instr}
use Rattle.c_code.specs.declared.instr.Instr.TheVariants as instr
use Rattle.c_code.specs.Machine.{Flat}
use Rattle.c_scopes.specs.Scopes.{Scope}
use Rattle.c_types_model.specs.Types.{CType}
use Rattle.c_types_rules.specs.Environment.{Meaning}
use Rattle.c_types_rules.specs.TypedTree.{Object, Value, Values, Callee, Sum, PointerPlus, PlusPointer, PointerMinus, GlobalObject, LocalObject, TextObject, Pointed, Element, MemberOf, Constant, FunctionAddress, ReadOf, AddressOf, Convert, Negate, Complement, Arithmetic, PointerSum, PointerDifference, PointerComparison, Not, Both, Either, Choice, Sequence, Assigned, Changed, Moved, Stepped, CallOf, NoValues, MoreValues, SourceFunction, BuiltinFunction, Through, MaybeValue, NoValue, OneValue, Statement, Statements, Block, Evaluate, Initialise, If, IfElse, While, Do, For, Break, Continue, Return, NoStatements, MoreStatements, object_type}
use Rattle.c_semantics.specs.Context.{kind_of}
use Rattle.c_lower_placement.specs.Conversions.{reconverts}
use Rattle.c_lower_placement.specs.Placement.{count, loads}
use Rattle.c_lower_placement.specs.Code.{Making, body_code, call_code, callee_code, convert_code, last_code, object_code, one, return_code, statement_code, statements_code, sum_code, test_code, value_code, values_code}
use Rattle.c_types_rules.specs.TypedTree as typed
use Rattle.c_types_program.specs.Declarations.{Declared}
use Rattle.c_types_program.specs.Programs.{program_in, texts_in}

-- one list before another
cat : {a b c d : List Instr} → a ≡ b → c ≡ d → a ++ c ≡ b ++ d
cat {a} {b} {c} {d} e f = ap (λ l. l ++ c) e ∙ ap (λ l. b ++ l) f

-- what code is made with, whatever the names of the program are and wherever it and its objects lie
abbrev pub made_with : Declared → List ℕ → (CType → ℕ) → Scope Meaning → Placed → Flat → Making
made_with p offsets sig names placed code =
    record { against = record { source = record { program = program_in p names; texts = texts_in p.texts; placed = placed }; code = code; offsets = offsets }; sig = sig }

module _ (p : Declared) (offsets : List ℕ) (sig : CType → ℕ) (names other : Scope Meaning) (placed there : Placed) (code flat : Flat) where
  abbrev x : Making
  x = made_with p offsets sig names placed code

  abbrev y : Making
  y = made_with p offsets sig other there flat

  sum_same : (s : Sum) (a b c d : List Instr) (size : ℕ) → a ≡ b → c ≡ d → sum_code s a c size ≡ sum_code s b d size
  sum_same s a b c d size e f = ap (λ l. sum_code s l c size) e ∙ ap (λ l. sum_code s b l size) f

  call_same : (f : Callee) (n : ℕ) → call_code f x n ≡ call_code f y n
  call_same (SourceFunction from number) n = refl
  call_same (BuiltinFunction from b) n = refl
  call_same (Through v) n = refl

  mutual
    object_same : (o : Object) → object_code o x ≡ object_code o y
    object_same (GlobalObject from place t) = refl
    object_same (LocalObject place t) = refl
    object_same (TextObject from n) = refl
    object_same (Pointed v t) = value_same v
    object_same (Element s a i t) = sum_same s (value_code a x) (value_code a y) (value_code i x) (value_code i y) _ (value_same a) (value_same i)
    object_same (MemberOf o number t) = cat (object_same o) refl

    value_same : (v : Value) → value_code v x ≡ value_code v y
    value_same (Constant k n) = refl
    value_same (FunctionAddress from number t) = refl
    value_same (ReadOf o) = cat (object_same o) refl
    value_same (AddressOf o t) = object_same o
    value_same (Convert t v) = cat (value_same v) refl
    value_same (Negate k v) = cat (value_same v) refl
    value_same (Complement k v) = cat (value_same v) refl
    value_same (Arithmetic op k a b) = cat (value_same a) (cat (value_same b) refl)
    value_same (PointerSum s a i size) = sum_same s (value_code a x) (value_code a y) (value_code i x) (value_code i y) size (value_same a) (value_same i)
    value_same (PointerDifference a b size) = cat (value_same a) (cat (value_same b) refl)
    value_same (PointerComparison op a b) = cat (value_same a) (cat (value_same b) refl)
    value_same (Not v) = cat (value_same v) refl
    value_same (Both a b) = cat (value_same a) (ap (λ l. instr.EndIfZero (length l + 1) ∷ (l ++ one (instr.Change change.Truth))) (value_same b))
    value_same (Either a b) = cat (value_same a) (ap (λ l. instr.EndUnlessZero (length l + 1) ∷ (l ++ one (instr.Change change.Truth))) (value_same b))
    value_same (Choice c a b) =
        cat (value_same c) (ap (λ l. instr.SkipIfZero (length l + 1) ∷ (l ++ (instr.GoOn (length (value_code b x)) ∷ value_code b x))) (value_same a)
        ∙ ap (λ l. instr.SkipIfZero (length (value_code a y) + 1) ∷ (value_code a y ++ (instr.GoOn (length l) ∷ l))) (value_same b))
    value_same (Sequence a b) = cat (value_same a) (ap (λ l. instr.Drop ∷ l) (value_same b))
    value_same (Assigned o v) = cat (object_same o) (cat (value_same v) refl)
    value_same (Changed o op k v) = cat (object_same o) (ap (λ l. loads o ∷ (convert_code (reconverts (kind_of (object_type o)) k) k ++ l)) (cat (value_same v) refl))
    value_same (Moved o w i size) = cat (object_same o) (ap (λ l. loads o ∷ l) (cat (value_same i) refl))
    value_same (Stepped o w g size) = cat (object_same o) refl
    value_same (CallOf f vs t) = cat (callee_same f) (cat (values_same vs) (call_same f (count vs)))

    values_same : (vs : Values) → values_code vs x ≡ values_code vs y
    values_same NoValues = refl
    values_same (MoreValues v vs) = cat (value_same v) (values_same vs)

    callee_same : (f : Callee) → callee_code f x ≡ callee_code f y
    callee_same (SourceFunction from number) = refl
    callee_same (BuiltinFunction from b) = refl
    callee_same (Through v) = value_same v

  test_same : (v : MaybeValue) (over : ℕ) → test_code v x over ≡ test_code v y over
  test_same NoValue over = refl
  test_same (OneValue v) over = cat (value_same v) refl

  last_same : (v : MaybeValue) → last_code v x ≡ last_code v y
  last_same NoValue = refl
  last_same (OneValue v) = cat (value_same v) refl

  return_same : (v : MaybeValue) → return_code v x ≡ return_code v y
  return_same NoValue = refl
  return_same (OneValue v) = cat (value_same v) refl

  mutual
    statement_same : (s : Statement) (stop again : ℕ) → statement_code s x stop again ≡ statement_code s y stop again
    statement_same (Block ss) stop again = statements_same ss stop again
    statement_same (Evaluate v) stop again = cat (value_same v) refl
    statement_same (Initialise place t v) stop again = cat (value_same v) refl
    statement_same (If v s) stop again = cat (value_same v) (ap (λ l. instr.SkipIfZero (length l) ∷ l) (statement_same s stop again))
    statement_same (IfElse v s z) stop again =
        let a = statement_code z x stop again in
        let b = statement_code z y stop again in
        let inner = λ (l : List Instr). statement_code s x (length l + 1 + stop) (length l + 1 + again) in
        let step = λ (l m : List Instr). instr.SkipIfZero (length l + 1) ∷ (l ++ (instr.GoOn (length m) ∷ m)) in
        cat (value_same v)
        (ap (λ (m : List Instr). step (inner m) m) (statement_same z stop again)
        ∙ ap (λ (l : List Instr). step l b) (statement_same s (length b + 1 + stop) (length b + 1 + again)))
    statement_same (While from v s) stop again =
        let body = statement_code s x 1 0 in
        let loop = λ (a b : List Instr). instr.Turn ∷ (a ++ (instr.SkipIfZero (length b + 1) ∷ (b ++ one (instr.GoBack (length a + 1 + length b))))) in
        ap (λ (a : List Instr). loop a body) (value_same v) ∙ ap (loop (value_code v y)) (statement_same s 1 0)
    statement_same (Do from s v) stop again =
        let loop = λ (a b : List Instr). instr.Turn ∷ (b ++ (a ++ (instr.SkipIfZero 1 ∷ one (instr.GoBack (length b + length a + 1))))) in
        ap (λ (a : List Instr). loop a (statement_code s x (length a + 2) 0)) (value_same v)
        ∙ ap (loop (value_code v y)) (statement_same s (length (value_code v y) + 2) 0)
    statement_same (For from first v last s) stop again =
        let loop = λ (t b f : List Instr). instr.Turn ∷ (t ++ (b ++ (f ++ one (instr.GoBack (length t + length b + length f))))) in
        let whole = λ (l : List Instr). statements_code first x (length l + stop) (length l + again) ++ l in
        let test = λ (b f : List Instr). test_code v x (length b + length f + 1) in
        let fy = last_code last y in
        let by = statement_code s y (length fy + 1) 0 in
        let ly = loop (test_code v y (length by + length fy + 1)) by fy in
        ap (λ (f : List Instr). whole (loop (test (statement_code s x (length f + 1) 0) f) (statement_code s x (length f + 1) 0) f)) (last_same last)
        ∙ (ap (λ (b : List Instr). whole (loop (test b fy) b fy)) (statement_same s (length fy + 1) 0)
        ∙ (ap (λ (t : List Instr). whole (loop t by fy)) (test_same v (length by + length fy + 1))
        ∙ ap (λ (l : List Instr). l ++ ly) (statements_same first (length ly + stop) (length ly + again))))
    statement_same Break stop again = refl
    statement_same Continue stop again = refl
    statement_same (Return from v) stop again = return_same v

    statements_same : (ss : Statements) (stop again : ℕ) → statements_code ss x stop again ≡ statements_code ss y stop again
    statements_same NoStatements stop again = refl
    statements_same (MoreStatements s ss) stop again =
        let rest = statements_code ss y stop again in
        ap (λ (l : List Instr). statement_code s x (length l + stop) (length l + again) ++ l) (statements_same ss stop again)
        ∙ ap (λ (l : List Instr). l ++ rest) (statement_same s (length rest + stop) (length rest + again))

  pub body_same : (b : typed.Body) → body_code b x ≡ body_code b y
  body_same b = cat (statement_same b.statements 0 0) refl
