-- What is done at the calls of builtins.
use Rattle.std.specs.Prelude.{List, [], ◌∷◌, Some, None}
use Rattle.run_events.specs.declared.key.Class.TheVariants.{Mutex, Thread, Out}
use Rattle.c_builtins.specs.declared.builtin.Builtin.{Builtin}
use Rattle.c_builtins.specs.declared.builtin.Builtin.TheVariants as builtins
use Rattle.stub_core.specs.declared.terms.Term.TheVariants.{Param}
use Rattle.stub_operations.specs.declared.operation.StubOp.{StubOp}
use Rattle.stub_operations.specs.declared.operation.StubOp.TheVariants.{ReadIn, Register, KeyAtCall, KeyAtRet}

-- those of memory are in no interface; a started thread is called back; a thread that ends, a mutex and the
-- output order what comes after them
abbrev pub builtin_operations : Builtin → List StubOp
builtin_operations builtins.Malloc = []
builtin_operations builtins.Free = []
builtin_operations builtins.Spawn = Register 0 ∷ []
builtin_operations builtins.Join = KeyAtRet Thread (Some 0) ∷ []
builtin_operations builtins.Lock = KeyAtRet Mutex (Some 0) ∷ []
builtin_operations builtins.Unlock = KeyAtCall Mutex (Some 0) ∷ []
builtin_operations builtins.Print = ReadIn 0 (record { a = Param 1; b = None }) ∷ KeyAtCall Out None ∷ []
