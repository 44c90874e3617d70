-- Ranges of constants.
use Rattle.std.proofs.Common.{◌≡◌, ℤ, pos, negsuc, FitsSigned, to_z, of_z, Bool, true, false, Result, Ok, Err, Option, Some, None, IfOk, IfSome, refl, sym, ap, ◌∙◌, subst, arith, ◌≤ℤ◌}
use Rattle.std.specs.Int.{w128}
use Rattle.std.specs.Result.{result_ok}
use Rattle.std.proofs.lemmas.Int.{ints, to_z-of_z}
use Rattle.r2_num.specs.declared.kinds.IntKind.{IntKind}
use Rattle.r2_num.specs.declared.kinds.IntKind.TheVariants.{I8, U8, I16, U16, I32, U32, I64, U64}
use Rattle.r2_num.specs.declared.operations.Op.{Op}
use Rattle.r2_num.specs.declared.operations.Op.TheVariants.{Eq, Ne, Lt, Le, Gt, Ge}
use Rattle.r2_num.specs.declared.operations.Arith.{Arith}
use Rattle.r2_num.specs.Kinds.{IsValue}
use Rattle.r2_num.specs.Conversions.{wrapped}
use Rattle.r2_num.specs.Operations.{IsAnyValue, binary_of, exact, truth}
use Rattle.c_types_model.specs.Types.{CType, Integer}
use Rattle.c_types_rules.specs.TypedTree.{result_kind}

any_value : (k : IntKind) (v : ℤ) → IsValue k v → IsAnyValue v
any_value I8 v h = (omega (arith, ints), omega (arith, ints))
any_value U8 v h = (omega (arith, ints), omega (arith, ints))
any_value I16 v h = (omega (arith, ints), omega (arith, ints))
any_value U16 v h = (omega (arith, ints), omega (arith, ints))
any_value I32 v h = (omega (arith, ints), omega (arith, ints))
any_value U32 v h = (omega (arith, ints), omega (arith, ints))
any_value I64 v h = (omega (arith, ints), omega (arith, ints))
any_value U64 v h = (omega (arith, ints), omega (arith, ints))

any_fits : (v : ℤ) → IsAnyValue v → FitsSigned w128 v
any_fits (pos n) h = let low = h.0 in let high = h.1 in record { sfits = omega (arith, ints) }
any_fits (negsuc n) h = let low = h.0 in let high = h.1 in record { sfits = omega (arith, ints) }

-- a value of a kind as 128 bits
pub any_of : (k : IntKind) (v : ℤ) → IsValue k v → IsAnyValue (to_z w128 (of_z w128 v))
any_of k v h =
    let any : IsAnyValue v = any_value k v h in
    let there : ℤ → Type 0 = λ z. IsAnyValue z in
    subst there (sym (to_z-of_z w128 v (any_fits v any))) any

-- 0 and 1 are values of every kind
wrapped_truth : (k : IntKind) (t : Bool) → wrapped k (truth t) ≡ truth t
wrapped_truth I8 true = refl
wrapped_truth I8 false = refl
wrapped_truth U8 true = refl
wrapped_truth U8 false = refl
wrapped_truth I16 true = refl
wrapped_truth I16 false = refl
wrapped_truth U16 true = refl
wrapped_truth U16 false = refl
wrapped_truth I32 true = refl
wrapped_truth I32 false = refl
wrapped_truth U32 true = refl
wrapped_truth U32 false = refl
wrapped_truth I64 true = refl
wrapped_truth I64 false = refl
wrapped_truth U64 true = refl
wrapped_truth U64 false = refl

truth_is_int : (t : Bool) → IsValue I32 (truth t)
truth_is_int true = (omega (arith, ints), omega (arith, ints))
truth_is_int false = (omega (arith, ints), omega (arith, ints))

compared : (k : IntKind) (t : Bool) (r : Result ℤ Arith) → r ≡ Ok (wrapped k (truth t)) → IfSome (result_ok r) (IsValue I32)
compared k t r e =
    let there : Result ℤ Arith → Type 0 = λ x. IfSome (result_ok x) (IsValue I32) in
    let value : ℤ → Type 0 = λ z. IsValue I32 z in
    subst there (sym e) (subst value (sym (wrapped_truth k t)) (truth_is_int t))

of_kind : (k : IntKind) (r : Result ℤ Arith) → IfOk r (IsValue k) → IfSome (result_ok r) (IsValue k)
of_kind k (Ok v) h = h
of_kind k (Err why) h = tt

by_kind : (op : Op) (kind : IntKind) (a b : ℤ) (r : Result ℤ Arith) → r ≡ binary_of op kind a b → IfOk r (IsValue kind) → IfSome (result_ok r) (IsValue (result_kind op kind))
by_kind Eq kind a b r e h = compared kind _ r e
by_kind Ne kind a b r e h = compared kind _ r e
by_kind Lt kind a b r e h = compared kind _ r e
by_kind Le kind a b r e h = compared kind _ r e
by_kind Gt kind a b r e h = compared kind _ r e
by_kind Ge kind a b r e h = compared kind _ r e
by_kind _ kind a b r e h = of_kind kind r h

-- the result of an operator is a value of its kind, that of a comparison of int
pub arithmetic_range : (op : Op) (kind k : IntKind) (a b : ℤ) (r : Result ℤ Arith) (o : Option ℤ) → r ≡ binary_of op kind a b → IfOk r (IsValue kind) → o ≡ result_ok r → Integer (result_kind op kind) ≡ Integer k → IfSome o (IsValue k)
arithmetic_range op kind k a b r o e h s same =
    let kinds : result_kind op kind ≡ k = cc in
    let at : IntKind → Type 0 = λ j. IfSome (result_ok r) (IsValue j) in
    let there : Option ℤ → Type 0 = λ x. IfSome x (IsValue k) in
    subst there (sym s) (subst at kinds (by_kind op kind a b r e h))
