-- Builtins and their numbers.
use Rattle.std.proofs.Common.{◌≡◌, ℕ, zero, suc, Option, Some, None, ap}
use Rattle.c_builtins.specs.declared.builtin.Builtin.{Builtin}
use Rattle.c_builtins.specs.Table.{number_of}
use Rattle.whole_runs.specs.Outcomes.{builtin_of}

abbrev number_or_zero : Option Builtin → ℕ
number_or_zero None = 0
number_or_zero (Some b) = number_of b

pub number_is : (f : ℕ) (b : Builtin) → builtin_of f ≡ Some b → f ≡ number_of b
number_is zero b e = ap number_or_zero e
number_is (suc zero) b e = ap number_or_zero e
number_is (suc (suc zero)) b e = ap number_or_zero e
number_is (suc (suc (suc zero))) b e = ap number_or_zero e
number_is (suc (suc (suc (suc zero)))) b e = ap number_or_zero e
number_is (suc (suc (suc (suc (suc zero))))) b e = ap number_or_zero e
number_is (suc (suc (suc (suc (suc (suc zero)))))) b e = ap number_or_zero e
number_is (suc (suc (suc (suc (suc (suc (suc f))))))) b e = absurd cc
