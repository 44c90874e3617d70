-- Calls of a small interface.
use Rattle.std.specs.Prelude.{ℕ, ◌-◌, ◌^◌, List, [], ◌∷◌, Option, Some, None, true}
use Rattle.r2_num.specs.declared.kinds.IntKind.TheVariants.{I32, U64}
use Rattle.c_code.specs.declared.shape.Shape.{Shape}
use Rattle.c_code.specs.declared.shape.Shape.TheVariants.{Void, Int, Pointer}
use Rattle.c_code.specs.declared.code.FuncInfo.{FuncInfo}
use Rattle.c_code.specs.Builtins.{Prototype, int, prototype, size}
use Rattle.c_code.specs.Machine.{Flat, flat}
use Rattle.stub_core.specs.declared.terms.Term.TheVariants.{Const, Param, Return}
use Rattle.stub_core.specs.declared.terms.Size.{Size}
use Rattle.stub_operations.specs.Examples.{one, plain, saying}
use Rattle.stub_operations.specs.Operations.{CallSays, operations}
use Rattle.stub_meaning.specs.Calls.{Called, Done, done}

abbrev external : List Shape → Shape → FuncInfo
external params result = record {
  name = [];
  params = params;
  result = result;
  sig = 1;
  frame = 16;
  entry = None;
}

-- two functions of a source, 16 and 17
abbrev pub two_functions : Flat
two_functions = flat [] (external [] int ∷ external [] Void ∷ []) []

abbrev of_type : Prototype → CallSays → (args : List ℕ) → (result : ℕ) → Done
of_type t says args result = done two_functions (record { type = t; args = args; result = result })
    (operations says)

-- int recv(int s, [out, cap(len), bsize(return)] char *buf, int len)
abbrev pub recv : (args : List ℕ) → (result : ℕ) → Done
recv = of_type (prototype (int ∷ Pointer ∷ int ∷ []) int) (saying (plain ∷
    record plain { writes = Some (one (Param 2), one Return) } ∷ plain ∷ []))

-- void copy([in, bsize(n * 8)] long *p, unsigned long n)
abbrev pub copy : (args : List ℕ) → (result : ℕ) → Done
copy = of_type (prototype (Pointer ∷ size ∷ []) Void) (saying (record plain {
  reads = Some (record { a = Param 1; b = Some (Const 8) });
} ∷ plain ∷ []))

-- int aio_read([prepare(k), cap(n)] char *p, int n, int k)
abbrev pub aio_read : (args : List ℕ) → (result : ℕ) → Done
aio_read = of_type (prototype (Pointer ∷ int ∷ int ∷ []) int) (saying (record plain {
  prepares = Some (2, one (Param 1));
} ∷ plain ∷ plain ∷ []))

-- [commit(k, return)] int aio_wait(int k)
abbrev pub aio_wait : (args : List ℕ) → (result : ℕ) → Done
aio_wait = of_type (prototype (int ∷ []) int) (record (saying (plain ∷ [])) { commit = Some (0, one Return) })

-- [sync(k), cache] int each([callback] int (*f)(int), int k)
abbrev pub each : (args : List ℕ) → (result : ℕ) → Done
each = of_type (prototype (Pointer ∷ int ∷ []) int) (record (saying (record plain { callback = true } ∷
    plain ∷ [])) { sync = 1 ∷ []; cache = true })

-- the pattern of -1
abbrev pub minus_one : ℕ
minus_one = 2 ^ 64 - 1
