-- What operations do in one call.
use Rattle.std.specs.Prelude.{ℕ, ◌-◌, ◌/◌, ◌^◌, min, Bool, true, false, ◌&&◌, ◌||◌, if◌then◌else◌, ◌==◌, leb, List, [], ◌∷◌, ◌++◌, get_or, Option, Some, None, is_some, ℤ, pos, negsuc}
use Rattle.run_events.specs.declared.key.Key.{Key}
use Rattle.marks.specs.declared.range.Range.{Range}
use Rattle.marks.specs.Ranges.{Prepared, range}
use Rattle.marks.specs.Places.{builtin_count, function_address}
use Rattle.c_code.specs.declared.shape.Shape.{Shape}
use Rattle.c_code.specs.declared.shape.Shape.TheVariants.{Void, Int, Pointer}
use Rattle.c_code.specs.Builtins.{Prototype}
use Rattle.c_code.specs.Values.{read}
use Rattle.c_code.specs.Machine.{Flat, func_of}
use Rattle.stub_core.specs.declared.terms.Size.{Size}
use Rattle.stub_operations.specs.declared.operation.StubOp.{StubOp}
use Rattle.stub_operations.specs.declared.operation.StubOp.TheVariants.{ReadIn, HoldOut, Prepare, Register, Commit, KeyAtCall, KeyAtRet, CacheRet, Pass}
use Rattle.stub_core.specs.Sizes.{size_of}
use Rattle.replay_runs.specs.Interface.{Committing}
use Rattle.replay_runs.specs.Keys.{key}

-- a call: the types of the function, its arguments and its result. Before the result is known it is 0, and
-- what is done at the Call doesn't ask for it
pub record Called : Type 0 where
  pub type : Prototype
  pub args : List ℕ
  pub result : ℕ

-- ---- values and sizes

abbrev pub argument : Called → ℕ → ℕ
argument c p = get_or c.args p 0

-- the number that a value is
abbrev pub number : Shape → ℕ → ℤ
number Void v = pos 0
number (Int kind) v = read kind v
number Pointer v = pos v

abbrev pub numbers : List Shape → List ℕ → List ℤ
numbers [] vs = []
numbers (t ∷ ts) [] = []
numbers (t ∷ ts) (v ∷ vs) = number t v ∷ numbers ts vs

abbrev pub size_in : Called → Size → ℤ
size_in c size = size_of size (numbers c.type.params c.args) (number c.type.result c.result)

-- a negative size counts as 0, and one of more than 64 bits as the greatest of 64
abbrev pub counted : ℤ → ℕ
counted (pos n) = min n (2 ^ 64 - 1)
counted (negsuc n) = 0

-- NULL has no bytes, whatever the size
abbrev pub extent : Called → ℕ → Size → ℕ
extent c p size = if argument c p == 0 then 0 else counted (size_in c size)

abbrev pub region : Called → ℕ → Size → Range
region c p size = range (argument c p) (extent c p size)

-- nothing is released where the used size is negative
abbrev pub released : ℤ → Option ℕ
released (pos n) = Some (counted (pos n))
released (negsuc n) = None

-- the value of the parameter, or 0 where there is none
abbrev pub key_value : Called → Option ℕ → ℕ
key_value c (Some p) = argument c p
key_value c None = 0

-- the function of the source at an address, of whatever type
abbrev pub function_at : Flat → ℕ → List ℕ
function_at code address =
    let f = (address - function_address 0) / 16 in
    (if address == function_address f && (leb builtin_count f && is_some (func_of code f)) then f ∷ []
    else [])

-- ---- operations

-- what is done in a call: the ranges that system code reads, those that it writes with their capacities,
-- those that it prepares; how much is used of the second; what the Ret commits; the functions that are
-- registered; the keys of the Call and of the Ret; whether an equal Ret is written as such
pub record Done : Type 0 where
  pub ins : List Range
  pub outs : List Range
  pub prepares : List Prepared
  pub used : List ℕ
  pub commits : List Committing
  pub registers : List ℕ
  pub keys_at_call : List Key
  pub keys_at_return : List Key
  pub is_cached : Bool

abbrev pub nothing : Done
nothing = record {
  ins = [];
  outs = [];
  prepares = [];
  used = [];
  commits = [];
  registers = [];
  keys_at_call = [];
  keys_at_return = [];
  is_cached = false;
}

abbrev pub done_by : Flat → Called → StubOp → Done
done_by code c (ReadIn p size) = record nothing { ins = region c p size ∷ [] }
done_by code c (HoldOut p cap used) = record nothing {
  outs = region c p cap ∷ [];
  used = extent c p used ∷ [];
}
done_by code c (Prepare p k cap) = record nothing {
  prepares = record { key = argument c k; range = region c p cap } ∷ [];
}
done_by code c (Register p) = record nothing { registers = function_at code (argument c p) }
done_by code c (Commit k used) = record nothing {
  commits = record { key = argument c k; used = released (size_in c used) } ∷ [];
}
done_by code c (KeyAtCall class p) = record nothing { keys_at_call = key class (key_value c p) ∷ [] }
done_by code c (KeyAtRet class p) = record nothing { keys_at_return = key class (key_value c p) ∷ [] }
done_by code c CacheRet = record nothing { is_cached = true }
done_by code c Pass = nothing

abbrev pub both : Done → Done → Done
both d e = record {
  ins = d.ins ++ e.ins;
  outs = d.outs ++ e.outs;
  prepares = d.prepares ++ e.prepares;
  used = d.used ++ e.used;
  commits = d.commits ++ e.commits;
  registers = d.registers ++ e.registers;
  keys_at_call = d.keys_at_call ++ e.keys_at_call;
  keys_at_return = d.keys_at_return ++ e.keys_at_return;
  is_cached = d.is_cached || e.is_cached;
}

-- by all operations, in their order
abbrev pub done : Flat → Called → List StubOp → Done
done code c [] = nothing
done code c (op ∷ ops) = both (done_by code c op) (done code c ops)
