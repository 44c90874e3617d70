-- Functions that are known by number.
use Rattle.std.proofs.Common.{◌≡◌, ℕ, zero, suc, ◌+◌, ◌-◌, ◌<◌, Bool, true, false, cond, ltb, length, Option, Some, None, refl, arith}
use Rattle.std.specs.Prelude.{slice_get}
use Rattle.std.proofs.lemmas.Bool.{ltb-true}
use Rattle.std.proofs.lemmas.Option.{slice_get_within}
use Rattle.marks.specs.Places.{builtin_count}
use Rattle.c_builtins.specs.declared.builtin.Builtin.{Builtin}
use Rattle.c_builtins.specs.declared.builtin.Builtin.TheVariants.{Malloc, Free, Spawn, Join, Lock, Unlock, Print}
use Rattle.c_builtins.specs.Table.{number_of}
use Rattle.c_code.specs.declared.code.FuncInfo.{FuncInfo}
use Rattle.c_code.specs.Machine.{Flat, entry_of, func_of}
use Rattle.c_code.specs.MarkLists.{has_entry}
use Rattle.whole_runs.specs.Outcomes.{builtin_of}

-- a builtin is the one with its number
pub numbered : (b : Builtin) → builtin_of (number_of b) ≡ Some b
numbered Malloc = refl
numbered Free = refl
numbered Spawn = refl
numbered Join = refl
numbered Lock = refl
numbered Unlock = refl
numbered Print = refl

-- what no builtin has as its number is none
pub unnumbered : (f : ℕ) → ((b : Builtin) → number_of b ≡ f → ⊥) → builtin_of f ≡ None
unnumbered zero h = absurd (h Malloc refl)
unnumbered (suc zero) h = absurd (h Free refl)
unnumbered (suc (suc zero)) h = absurd (h Spawn refl)
unnumbered (suc (suc (suc zero))) h = absurd (h Join refl)
unnumbered (suc (suc (suc (suc zero)))) h = absurd (h Lock refl)
unnumbered (suc (suc (suc (suc (suc zero))))) h = absurd (h Unlock refl)
unnumbered (suc (suc (suc (suc (suc (suc zero)))))) h = absurd (h Print refl)
unnumbered (suc (suc (suc (suc (suc (suc (suc f))))))) h = refl

-- a function with a body is a builtin or one of the source
pub known : (code : Flat) (f : ℕ) → has_entry (entry_of (func_of code f)) ≡ true → f < builtin_count + length code.sources
known code f e = by (ltb f builtin_count) refl e
  where
    there : (o : Option FuncInfo) → slice_get code.sources (f - builtin_count) ≡ o → has_entry (entry_of o) ≡ true → f < builtin_count + length code.sources
    there (Some info) z h = let lt = slice_get_within code.sources (f - builtin_count) info z in omega (arith, lt)
    there None z h = absurd cc

    by : (b : Bool) → ltb f builtin_count ≡ b → has_entry (entry_of (cond b (slice_get code.builtins f) (slice_get code.sources (f - builtin_count)))) ≡ true → f < builtin_count + length code.sources
    by true z h = let lt = ltb-true f builtin_count z in omega (arith, lt)
    by false z h = there (slice_get code.sources (f - builtin_count)) refl h
