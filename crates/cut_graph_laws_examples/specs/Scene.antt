-- A small source, with a cut that is accepted:
--     int a; int b; int (*p)(void) = back;
--     int raw(void);
--     int back(void) { return a; }
--     int low(void) { return b; }
--     [cut(c)] int go(int (*f)(void)) { b = raw(); low(); (*low)(); return f(); }
--     int main(void) { a = 1; back(); p(); go(back); return (*go)(back); }
use Rattle.std.specs.Prelude.{ℕ, pos, true, false, List, [], ◌∷◌, ◌++◌, codes, replicate, Option, Some, None}
use Rattle.r2_num.specs.declared.kinds.IntKind.TheVariants.{I32}
use Rattle.memory_map.specs.declared.placed.Place.{Place}
use Rattle.c_types_model.specs.Types.{CType, FunctionOf, MoreTypes, NoTypes, PointerTo}
use Rattle.c_types_rules.specs.TypedTree.{Body, Object, Value, Values, Statement, Statements, Assigned, Block, CallOf, Constant, Evaluate, FunctionAddress, GlobalObject, LocalObject, MoreStatements, MoreValues, NoStatements, NoValues, OneValue, ReadOf, Return, SourceFunction, Through, int}
use Rattle.c_types_rules.specs.Initials.{AddressOfFunction, Initial, Scalar}
use Rattle.c_types_rules.specs.Sources as sources
use Rattle.c_types_rules.specs.Sources.{Program}
use Rattle.c_semantics.specs.Context.{Source, is_face}
use Rattle.cut_graph_rules.specs.Findings.{Cut}

-- int (void), and a pointer to it
abbrev pub simple : CType
simple = FunctionOf int NoTypes

abbrev pointer : CType
pointer = PointerTo simple

abbrev taking : CType
taking = FunctionOf int (MoreTypes pointer NoTypes)

-- ---- parts

abbrev a : Object
a = GlobalObject 1 0 int

abbrev b : Object
b = GlobalObject 1 1 int

abbrev p : Object
p = GlobalObject 1 2 pointer

abbrev call : (func : ℕ) → Values → Value
call f vs = CallOf (SourceFunction 1 f) vs int

abbrev through : Value → Values → Value
through v vs = CallOf (Through v) vs int

abbrev give : Value → Statement
give v = Return 1 (OneValue v)

abbrev one : Value → Values
one v = MoreValues v NoValues

abbrev statements : List Statement → Statements
statements [] = NoStatements
statements (s ∷ ss) = MoreStatements s (statements ss)

abbrev body : List CType → List Statement → Option Body
body locals ss = Some (record {
  from = 1;
  locals = locals;
  statements = Block (statements ss);
  in_params = [];
  unevaluated = [];
})

abbrev function : List ℕ → CType → Option Body → sources.Function
function name t o = record { name = name; type = t; body = o }

abbrev global : List ℕ → CType → Option Initial → sources.Global
global name t value = record { name = name; type = t; value = value; unevaluated = [] }

-- ---- functions, from number 16 on

abbrev raw : sources.Function
raw = function (codes "raw") simple None

abbrev back : sources.Function
back = function (codes "back") simple (body [] (give (ReadOf a) ∷ []))

abbrev low : sources.Function
low = function (codes "low") simple (body [] (give (ReadOf b) ∷ []))

abbrev go : sources.Function
go = function (codes "go") taking (body (pointer ∷ [])
    (Evaluate (Assigned b (call 16 NoValues)) ∷ Evaluate (call 18 NoValues)
    ∷ Evaluate (through (FunctionAddress 1 18 simple) NoValues) ∷
    give (through (ReadOf (LocalObject 0 pointer)) NoValues) ∷ []))

abbrev main : sources.Function
main = function (codes "main") simple (body []
    (Evaluate (Assigned a (Constant I32 (pos 1))) ∷ Evaluate (call 17 NoValues)
    ∷ Evaluate (through (ReadOf p) NoValues) ∷
    Evaluate (call 19 (one (FunctionAddress 1 17 simple)))
    ∷ give (through (FunctionAddress 1 19 taking) (one (FunctionAddress 1 17 simple))) ∷
    []))

abbrev pub program : Program
program = record {
  structs = [];
  functions = raw ∷ back ∷ low ∷ go ∷ main ∷ [];
  globals =
      global (codes "a") int None ∷ global (codes "b") int None ∷
      global (codes "p") pointer (Some (Scalar (AddressOfFunction 1 17))) ∷ [];
  names = [];
}

-- ---- where they lie, and the interface: the builtins that make events, and `go`

abbrev place : ℕ → Place
place at = record { addr = at; init = [] }

abbrev pub scene : Source
scene = record {
  program = program;
  texts = [];
  placed =
      record {
        globals = place 0x10000000 ∷ place 0x50000000 ∷ place 0x10000008 ∷ [];
        strings = [];
        replay = [];
        system = [];
        faces =
            replicate 2 false ++ (replicate 5 true ++ (replicate 12 false ++ true ∷ false ∷ []));
      };
}

abbrev pub cut : Cut
cut = record { program = program; face = is_face scene; main = 20 }
