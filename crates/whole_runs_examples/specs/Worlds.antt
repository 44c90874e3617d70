-- How a small program is written down, with its stubs and its system file.
use Rattle.std.specs.Prelude.{ℕ, Bool, true, false, List, [], ◌∷◌, ◌++◌, map, replicate, Option, Some, None, codes}
use Rattle.r2_num.specs.declared.kinds.IntKind.TheVariants.{I32, U64}
use Rattle.memory_map.specs.declared.placed.Place.{Place}
use Rattle.c_builtins.specs.declared.lookup.TheConstants.{BUILTINS}
use Rattle.c_builtins.specs.declared.builtin.Builtin.{Builtin}
use Rattle.c_builtins.specs.Table.{name_of, in_interface}
use Rattle.c_code.specs.declared.shape.Shape.{Shape}
use Rattle.c_code.specs.declared.shape.Shape.TheVariants.{Int, Pointer}
use Rattle.c_code.specs.declared.code.FuncInfo.{FuncInfo}
use Rattle.r2_num.specs.declared.operations.Op.TheVariants.{Add}
use Rattle.c_code.specs.declared.instr.Push.TheVariants as push
use Rattle.c_code.specs.declared.instr.Combine.TheVariants as combine
use Rattle.c_code.specs.declared.instr.Instr.{Instr}
use Rattle.c_code.specs.declared.instr.Instr.TheVariants as instr
use Rattle.c_code.specs.Builtins.{Prototype, prototypes}
use Rattle.c_code.specs.Machine.{Laid, flat}
use Rattle.stub_operations.specs.declared.purpose.Purpose.TheVariants.{Record}
use Rattle.stub_operations.specs.declared.operation.StubOp.{StubOp}
use Rattle.stub_operations.specs.Builtins.{builtin_operations}
use Rattle.stub_operations.specs.Operations.{CallSays, operations, operations_below, passed}
use Rattle.stub_operations.specs.Stubs.{Stubs}
use Rattle.stub_operations.specs.Examples.{saying}
use Rattle.system_side.specs.declared.file.Scripted.{Scripted}
use Rattle.system_side.specs.declared.file.SysFile.{SysFile}
use Rattle.whole_runs.specs.World.{World}

-- ---- functions

-- functions without a body have no entry; types are told apart by hand. A frame has 16 bytes
abbrev pub function : (name : List ℕ) → (params : List Shape) → (result : Shape) → (sig : ℕ) →
    (entry : Option ℕ) → FuncInfo
function name params result sig entry = record {
  name = name;
  params = params;
  result = result;
  sig = sig;
  frame = 16;
  entry = entry;
}

abbrev pub int : Shape
int = Int I32

-- builtins are called by their names alone, so that their types have no numbers
abbrev pub builtin : List ℕ → Prototype → FuncInfo
builtin name t = function name t.params t.result 99 None

abbrev pub builtins_of : List (List ℕ) → List Prototype → List FuncInfo
builtins_of [] ts = []
builtins_of (n ∷ ns) [] = []
builtins_of (n ∷ ns) (t ∷ ts) = builtin n t ∷ builtins_of ns ts

abbrev pub builtins : List FuncInfo
builtins = builtins_of (map name_of BUILTINS) prototypes

-- how a function of the source stands to the cut: in the interface, above the cut, below it, on both
-- sides, or outside the interface without a body
pub data Stand : Type 0 where
  Face : CallSays → Stand
  Above : Stand
  Under : Stand
  Both : Stand
  Outside : CallSays → Stand

pub record Source : Type 0 where
  pub info : FuncInfo
  pub stand : Stand

abbrev pub source : Stand → FuncInfo → Source
source stand info = record { info = info; stand = stand }

abbrev pub is_face : Stand → Bool
is_face (Face says) = true
is_face Above = false
is_face Under = false
is_face Both = false
is_face (Outside says) = false

abbrev pub runs_above : Stand → Bool
runs_above (Face says) = false
runs_above Above = true
runs_above Under = false
runs_above Both = true
runs_above (Outside says) = false

abbrev pub runs_below : Stand → Bool
runs_below (Face says) = true
runs_below Above = false
runs_below Under = true
runs_below Both = true
runs_below (Outside says) = true

-- ---- stubs

abbrev pub added_for : Stand → Option (List StubOp)
added_for (Face says) = Some (operations says ++ passed Record)
added_for Above = None
added_for Under = None
added_for Both = None
added_for (Outside says) = None

abbrev pub below_for : Stand → Option (List StubOp)
below_for (Face says) = None
below_for Above = None
below_for Under = None
below_for Both = None
below_for (Outside says) = Some (operations_below says)

abbrev pub when : {A : Type 0} → Bool → A → Option A
when true x = Some x
when false x = None

-- by number: 7 builtins, 9 numbers that nothing has, the functions of the source
abbrev pub stubs_of : List Source → Stubs
stubs_of fs = record {
  added = map (λ (b : Builtin). when (in_interface b) (builtin_operations b ++ passed Record)) BUILTINS ++
      (replicate 9 None ++ map (λ (f : Source). added_for f.stand) fs);
  below = replicate 16 None ++ map (λ (f : Source). below_for f.stand) fs;
}

-- ---- worlds

abbrev pub laid : List Source → List Instr → (globals strings : List Place) → Laid
laid fs instrs globals strings = record {
  code = flat builtins (map (λ (f : Source). f.info) fs) instrs;
  placed = record {
    globals = globals;
    strings = strings;
    replay = replicate 16 false ++ map (λ (f : Source). runs_above f.stand) fs;
    system = replicate 7 true ++ (replicate 9 false ++ map (λ (f : Source). runs_below f.stand) fs);
    faces = map in_interface BUILTINS ++ (replicate 9 false ++ map (λ (f : Source). is_face f.stand) fs);
  };
}

abbrev pub answer : (func result : ℕ) → (pieces : List (List ℕ)) → Scripted
answer f result pieces = record { func = f; result = result; pieces = pieces }

-- a system file with these answers
abbrev pub answering : List Scripted → SysFile
answering answers = record { budget = 1_000_000; chunk = 64; schedule = (0, 1) ∷ []; answers = answers }

abbrev pub scheduled : List (ℕ × ℕ) → SysFile
scheduled items = record { budget = 1_000_000; chunk = 64; schedule = items; answers = [] }

abbrev pub world : List Source → List Instr → (globals strings : List Place) → SysFile → World
world fs instrs globals strings f = record {
  laid = laid fs instrs globals strings;
  stubs = stubs_of fs;
  file = f;
}

abbrev pub place : (addr : ℕ) → (init : List ℕ) → Place
place addr init = record { addr = addr; init = init }

-- a global of so many zeros
abbrev pub zeros : (addr size : ℕ) → Place
zeros addr size = place addr (replicate size 0)

-- ---- instructions

abbrev pub number : ℕ → Instr
number n = instr.Push (push.Number n)

abbrev pub local : (offset : ℕ) → Instr
local offset = instr.Push (push.Local offset)

abbrev pub global : ℕ → Instr
global g = instr.Push (push.Global g)

abbrev pub text : ℕ → Instr
text s = instr.Push (push.Text s)

-- of ints and pointers that no global's path leads to
abbrev pub load : Instr
load = instr.Load I32 None

abbrev pub load_pointer : Instr
load_pointer = instr.Load U64 None

-- of the int that is a global
abbrev pub load_global : ℕ → Instr
load_global g = instr.Load I32 (Some g)

abbrev pub store_global : ℕ → Instr
store_global g = instr.Store I32 (Some g)

abbrev pub add : Instr
add = instr.Combine (combine.Arith Add I32)

-- the address of the n-th byte of an array
abbrev pub byte_of : Instr
byte_of = instr.Combine (combine.Index 1)

-- `return n;`
abbrev pub returning : ℕ → List Instr
returning n = number n ∷ instr.Finish ∷ []

-- `r2_spawn(f, 0);` of the function at an address, whose result isn't used
abbrev pub spawn : (address : ℕ) → List Instr
spawn address = number address ∷ number 0 ∷ instr.Call 2 2 ∷ instr.Drop ∷ []

-- `r2_lock(0);` and `r2_unlock(0);`
abbrev pub lock : List Instr
lock = number 0 ∷ instr.Call 4 1 ∷ instr.Drop ∷ []

abbrev pub unlock : List Instr
unlock = number 0 ∷ instr.Call 5 1 ∷ instr.Drop ∷ []

-- a thread function, which is of the type with the number 0; functions of no parameters, and other ones
abbrev pub thread_function : (name : List ℕ) → (entry : ℕ) → FuncInfo
thread_function name entry = function name (Pointer ∷ []) int 0 (Some entry)

abbrev pub no_params : (name : List ℕ) → (entry : Option ℕ) → FuncInfo
no_params name entry = function name [] int 1 entry

abbrev pub of_params : (name : List ℕ) → (params : List Shape) → (sig : ℕ) → (entry : Option ℕ) → FuncInfo
of_params name params sig entry = function name params int sig entry

-- `[cut(top)] int x(void);`, by which a program has an interface
abbrev pub unused : Source
unused = source (Face (saying [])) (no_params (codes "x") None)
