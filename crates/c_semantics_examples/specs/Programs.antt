-- Small programs, and lists of marks.
use Rattle.std.specs.Prelude.{ℕ, Bool, true, false, List, [], ◌∷◌, ◌++◌, codes, replicate, Some, None}
use Rattle.marks.specs.declared.side.Side.TheVariants.{Replay, System}
use Rattle.marks.specs.declared.fault.FaultKind.{FaultKind}
use Rattle.marks.specs.Marks.{Mark, Act, EventKind, Load, Store, Enter, Leave, Turn, Fault, Made, Nowhere, NoRegion}
use Rattle.marks.specs.Marks as marks
use Rattle.marks.specs.Places.{function_address}
use Rattle.marks.specs.Ranges.{bytes_of_number}
use Rattle.memory_map.specs.declared.placed.Place.{Place}
use Rattle.c_lexer.specs.declared.token.Sign.TheVariants as signs
use Rattle.c_syntax.specs.Syntax.{Array, Assign, Block, Body, Call, Decl, Decls, Entries, Expr, Exprs, Expression, For, ExprFirst, Index, MoreDecls, MoreEntries, MoreExprs, NoDecls, NoEntries, NoExprs, NoParts, NoRest, OneExpr, Params, Pointer, Continue, Postfix, Return, Stmt, StmtEntry, Initial, Plain}
use Rattle.c_syntax.specs.declared.declaration.Base.TheVariants as bases
use Rattle.c_types_model.specs.Types.{CType, FunctionOf, MoreTypes, NoTypes, PointerTo, Void}
use Rattle.c_types_rules.specs.TypedTree.{int}
use Rattle.c_types_rules.specs.Limits.{Outcome, outcome}
use Rattle.c_types_rules.specs.Limits as limits
use Rattle.c_types_rules.specs.Sources.{Program}
use Rattle.c_semantics.specs.Context.{Source}
use Rattle.c_types_examples.specs.Small.{call as calling, declaring, int_base, main_giving, name, num, source, two}

-- ---- programs

abbrev no_program : Program
no_program = record { structs = []; functions = []; globals = []; names = [] }

abbrev typed : Outcome → Program
typed (limits.Typed p) = p
typed _ = no_program

abbrev place : ℕ → Place
place at = record { addr = at; init = [] }

abbrev places : List ℕ → List Place
places [] = []
places (x ∷ xs) = place x ∷ places xs

-- a source whose globals lie there, with these functions in the interface
abbrev laid : List Decl → List ℕ → (faces : List Bool) → Source
laid ds globals faces = record {
  program = typed (outcome (source ds));
  texts = [];
  placed = record { globals = places globals; strings = []; replay = []; system = []; faces = faces };
}

abbrev assign : (to : List ℕ) → Expr → Expr
assign n x = Assign 30 signs.Assign (name n) x

abbrev evaluate : Expr → Stmt
evaluate x = Expression 30 (OneExpr x)

abbrev give : Expr → Stmt
give x = Return 40 (OneExpr x)

abbrev entries : List Stmt → Entries
entries [] = NoEntries
entries (s ∷ ss) = MoreEntries (StmtEntry s) (entries ss)

abbrev main_of : List Stmt → Decl
main_of ss = declaring int_base (Params 8 NoDecls NoParts) (codes "main") (Body (Block 20 (entries ss)))

abbrev int_named : List ℕ → Decl
int_named n = declaring int_base NoParts n NoRest

-- int a = 2; int b = 3; int main(void) { return a + b; }
abbrev pub sum : Source
sum = laid (declaring int_base NoParts (codes "a") (Initial (Plain (num 2))) ∷
    declaring int_base NoParts (codes "b") (Initial (Plain (num 3))) ∷
    main_giving (two signs.Plus (name (codes "a")) (name (codes "b"))) ∷ []) (0x10000000 ∷ 0x10000004 ∷ [])
    []

-- int g; int main(void) { g += g++; return g; }
abbrev pub compound : Source
compound = laid (int_named (codes "g") ∷ main_of
    (evaluate (Assign 30 signs.PlusAssign (name (codes "g"))
    (Postfix 30 signs.Increment (name (codes "g")))) ∷ give (name (codes "g")) ∷ []) ∷ []) (0x10000000 ∷
    []) []

-- int g[2]; int main(void) { 0[g] = 1; return 0; }
abbrev pub turned : Source
turned = laid (declaring int_base (Array 5 (num 2) NoParts) (codes "g") NoRest ∷
    main_of (evaluate (Assign 30 signs.Assign (Index 30 (num 0) (name (codes "g"))) (num 1)) ∷
    give (num 0) ∷ []) ∷ []) (0x10000000 ∷ []) []

-- int i; int main(void) { for (i = 0; i < 1; i++) continue; return 7; }
abbrev pub loop : Source
loop = laid (int_named (codes "i") ∷ main_of (For 20 (ExprFirst (assign (codes "i") (num 0)))
    (OneExpr (two signs.Less (name (codes "i")) (num 1)))
    (OneExpr (Postfix 30 signs.Increment (name (codes "i")))) (Continue 50) ∷ give (num 7) ∷ []) ∷ [])
    (0x10000000 ∷ []) []

-- int now(void); int main(void) { return now(); }, with `now` in the interface
abbrev pub asking : Source
asking = laid (declaring int_base (Params 8 NoDecls NoParts) (codes "now") NoRest ∷
    main_giving (Call 30 (name (codes "now")) NoExprs) ∷ []) [] (replicate 16 false ++ true ∷ false ∷ [])

-- int more(int n) { return n + 1; } int main(void) { return more(4); }, with `more` in the interface
abbrev pub crossing : Source
crossing = laid (declaring int_base (Params 8 (MoreDecls (int_named (codes "n")) NoDecls) NoParts)
    (codes "more") (Body (Block 20 (entries (give (two signs.Plus (name (codes "n")) (num 1)) ∷ [])))) ∷
    main_giving (Call 30 (name (codes "more")) (MoreExprs (num 4) NoExprs)) ∷ []) [] (replicate 16 false ++
    true ∷ false ∷ [])

-- int N(PS) { return X; }
abbrev giving : List ℕ → Decls → Expr → Decl
giving n ps x = declaring int_base (Params 8 ps NoParts) n (Body (Block 20 (entries (give x ∷ []))))

-- a name in a list of parameters, or a list of arguments, that has no other
abbrev only_param : Decl → Decls
only_param d = MoreDecls d NoDecls

abbrev only_argument : Expr → Exprs
only_argument x = MoreExprs x NoExprs

-- int level; int read(void) { return level; } int main(void) { return read(); }, with `read` in the
-- interface, and `level` in the memory below the cut
abbrev pub polling : Source
polling = laid (int_named (codes "level") ∷ giving (codes "read") NoDecls (name (codes "level")) ∷
    main_giving (calling (codes "read") NoExprs) ∷ []) (0x50000000 ∷ []) (replicate 16 false ++ true ∷
    false ∷ [])

-- int twice(int n) { return n + n; } int apply(int (*f)(int n)) { return f(3); }
-- int main(void) { return apply(twice); }, with `apply` in the interface
abbrev pub applying : Source
applying = laid (giving (codes "twice") (only_param (int_named (codes "n")))
    (two signs.Plus (name (codes "n")) (name (codes "n"))) ∷
    giving (codes "apply") (only_param (declaring int_base
    (Params 8 (only_param (int_named (codes "n"))) (Pointer 9 NoParts)) (codes "f") NoRest))
    (calling (codes "f") (only_argument (num 3))) ∷
    main_giving (calling (codes "apply") (only_argument (name (codes "twice")))) ∷ []) [] (replicate 16
    false ++ false ∷ true ∷ false ∷ [])

-- int (*f)(void); int same(int n) { return n; } int main(void) { return f(); }
abbrev pub pointing : Source
pointing = laid (declaring int_base (Params 8 NoDecls (Pointer 9 NoParts)) (codes "f") NoRest ∷
    giving (codes "same") (only_param (int_named (codes "n"))) (name (codes "n")) ∷
    main_giving (calling (codes "f") NoExprs) ∷ []) (0x10000000 ∷ []) []

-- int d; int main(void) { return 6 / d; }
abbrev pub dividing : Source
dividing = laid (int_named (codes "d") ∷ main_giving (two signs.Slash (num 6) (name (codes "d"))) ∷ [])
    (0x10000000 ∷ []) []

-- int main(void) { r2_free(r2_malloc(4)); return 1; }
abbrev pub freeing : Source
freeing = laid (main_of (evaluate (calling (codes "r2_free") (only_argument (calling (codes "r2_malloc")
    (only_argument (num 4))))) ∷ give (num 1) ∷ []) ∷ []) [] []

-- int work(void *p) { return 5; } int main(void) { return 0; }
abbrev pub working : Source
working = laid (giving (codes "work") (only_param (declaring bases.Void (Pointer 9 NoParts) (codes "p")
    NoRest)) (num 5) ∷ main_giving (num 0) ∷ []) [] []

-- int (void *)
abbrev pub thread_type : CType
thread_type = FunctionOf int (MoreTypes (PointerTo Void) NoTypes)

-- ---- marks

abbrev pub mark : Act → Mark
mark act = record { thread = 0; side = Replay; index = 0; act = act }

abbrev pub frame : ℕ
frame = 0x20000000

abbrev pub enter : ℕ → Mark
enter f = mark (Enter f [] frame (replicate 16 0))

abbrev pub leave : Mark
leave = mark (Leave frame 16)

abbrev pub load : (global at value : ℕ) → Mark
load g at v = mark (Load (Some g) at (bytes_of_number 4 v))

abbrev pub store : (global at value : ℕ) → Mark
store g at v = mark (Store (Some g) at (bytes_of_number 4 v))

abbrev pub turn : Mark
turn = mark Turn

abbrev pub event : EventKind → Mark
event k = mark (Made (record { kind = k; steps = 0; keys = []; clock = 1 }))

abbrev pub call : (func : ℕ) → Mark
call f = event (marks.Call f [] [] [] [])

abbrev pub ret : (func result : ℕ) → Mark
ret f v = event (marks.Ret f [] v false [] NoRegion)

abbrev pub fault : FaultKind → Mark
fault kind = mark (Fault kind false [] [] Nowhere)

-- below the cut
abbrev pub below : Act → Mark
below act = record { thread = 0; side = System; index = 0; act = act }

abbrev pub frame_below : ℕ
frame_below = 0x60000000

abbrev inner_below : ℕ
inner_below = 0x60000010

-- a frame below the cut without parameters, and the end of one
abbrev pub enter_below : ℕ → Mark
enter_below f = below (Enter f [] frame_below (replicate 16 0))

abbrev pub leave_below : Mark
leave_below = below (Leave frame_below 16)

-- `main` calls `more`, whose body runs below the cut; its return has these arguments
abbrev pub crossed : (args : List ℕ) → (result : ℕ) → List Mark
crossed args v =
    enter 17 ∷ event (marks.Call 16 (4 ∷ []) [] [] [])
    ∷ below (Enter 16 (4 ∷ []) frame_below (bytes_of_number 16 4)) ∷
    below (Load None frame_below (bytes_of_number 4 4)) ∷ leave_below
    ∷ event (marks.Ret 16 args v false [] NoRegion) ∷ leave ∷ []

-- `read` runs below the cut
abbrev pub reads : (level : ℕ) → List Mark
reads v =
    below (Enter 16 [] inner_below (replicate 16 0)) ∷
    below (Load (Some 0) 0x50000000 (bytes_of_number 4 v)) ∷ below (Leave inner_below 16) ∷ []

-- `twice` of a number runs on one of the sides
abbrev doubles : (Act → Mark) → (at value : ℕ) → List Mark
doubles on at v =
    on (Enter 16 (v ∷ []) at (bytes_of_number 16 v)) ∷ on (Load None at (bytes_of_number 4 v)) ∷
    on (Load None at (bytes_of_number 4 v)) ∷ on (Leave at 16) ∷ []

abbrev pub doubles_below : (value : ℕ) → List Mark
doubles_below v = doubles below inner_below v

-- it is called back, with a result
abbrev pub called_back : (value result : ℕ) → List Mark
called_back v r =
    event (marks.Up 16 (v ∷ [])) ∷ (doubles mark 0x20000010 v ++ event (marks.UpRet 16 r) ∷ [])

-- `main` calls `apply`, which makes these marks where it calls `twice` through its pointer
abbrev pub applied : List Mark → List Mark
applied ms =
    enter 18 ∷ event (marks.Call 17 (function_address 16 ∷ []) [] [] []) ∷
    below (Enter 17 (function_address 16 ∷ []) frame_below (bytes_of_number 16 (function_address 16))) ∷
    below (Load None frame_below (bytes_of_number 8 (function_address 16))) ∷
    (ms ++ leave_below ∷ event (marks.Ret 17 (function_address 16 ∷ []) 6 false [] NoRegion) ∷ leave ∷ [])

-- `main` loads the pointer, and then makes these marks
abbrev pub jumped : (pointer : ℕ) → List Mark → List Mark
jumped p ms = enter 17 ∷ mark (Load (Some 0) 0x10000000 (bytes_of_number 8 p)) ∷ ms

-- a builtin or external is met below the cut
abbrev pub step : (func : ℕ) → (args : List ℕ) → (result : ℕ) → Mark
step f args v = below (marks.Step f args v [] [] [])

-- `work` runs above the cut
abbrev pub works : List Mark
works = mark (Enter 16 (0 ∷ []) frame (replicate 16 0)) ∷ leave ∷ []
