-- The arguments of a call can stand in a record: they are few, and words of 64 bits.
use Rattle.std.proofs.Common.{◌≡◌, ℕ, ◌^◌, ◌<◌, true, ℤ, pos, negsuc, List, [], ◌∷◌, length, Option, Some, None, refl, sym, subst, arith, eqb-true}
use Rattle.std.specs.List.{AllByRecursion}
use Rattle.std.proofs.lemmas.Bool.{and_parts, ltb-true, true≢false}
use Rattle.std.proofs.lemmas.Nat.{pow_pos}
use Rattle.std.proofs.Math.Nat.{mod-lt}
use Rattle.c_code.specs.declared.code.FuncInfo.{FuncInfo}
use Rattle.c_code.specs.declared.shape.Shape.{Shape}
use Rattle.c_code.specs.declared.shape.Shape.TheVariants.{Void, Int, Pointer}
use Rattle.c_code.specs.Values.{converted, is_value, read, written}
use Rattle.c_code.specs.Frames.{are_values}
use Rattle.c_code.specs.Machine.{Laid, func_of}
use Rattle.c_code.specs.MarkLists.{takes_values}
use Rattle.c_code.specs.Valid.{IsValid}
use Rattle.c_code.specs.Typed.{AreArguments}
use Rattle.log_codec.specs.LogText.{IsCall, IsWord}

small : (z : ℤ) → written z < 2 ^ 64
small (pos n) = mod-lt n (pow_pos 64)
small (negsuc n) = omega arith

-- a value of any type is one
word : (s : Shape) (n : ℕ) → is_value s n ≡ true → IsWord n
word Void n e = let z = eqb-true n 0 e in omega (arith, z)
word (Int k) n e = subst IsWord (eqb-true (converted k n) n e) (small (read k n))
word Pointer n e = ltb-true n (2 ^ 64) e

words : (ss : List Shape) (vs : List ℕ) → are_values ss vs ≡ true → (length vs ≡ length ss) × AllByRecursion IsWord vs
words [] [] e = (refl, tt)
words [] (v ∷ vs) e = absurd (true≢false (sym e))
words (s ∷ ss) [] e = absurd (true≢false (sym e))
words (s ∷ ss) (v ∷ vs) e =
    let parts = and_parts (is_value s v) (are_values ss vs) e in
    let rest = words ss vs parts.1 in
    let count = rest.0 in
    (omega (arith, count), (word s v parts.0, rest.1))

pub call_body : (l : Laid) → IsValid l.code → (f : ℕ) (args : List ℕ) → f < 2 ^ 16 → AreArguments l f args → IsCall f args
call_body l valid f args low takes = by (func_of l.code f) refl takes
  where
    by : (o : Option FuncInfo) → func_of l.code f ≡ o → takes_values o args ≡ true → IsCall f args
    by (Some info) known e =
        let few = valid.few_params f info known in
        let each = words info.params args e in
        let count = each.0 in
        (low, omega (arith, few, count), each.1)
    by None known e = absurd (true≢false (sym e))
