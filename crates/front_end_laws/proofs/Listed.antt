-- What code knows of the functions of a typed source.
use Rattle.std.proofs.Common.{◌≡◌, ◌≤◌, ℕ, ◌+◌, ◌-◌, true, cond, Option, Some, None, refl, sym, ap, ◌∙◌, arith}
use Rattle.std.specs.Prelude.{slice_get, is_none}
use Rattle.std.proofs.lemmas.Bool.{le-ltb, and_parts, leb-true}
use Rattle.marks.specs.Places.{builtin_count}
use Rattle.c_code.specs.declared.code.FuncInfo.{FuncInfo}
use Rattle.c_code.specs.Machine.{func_of}
use Rattle.c_types_program.specs.declared.function.Body.{Body}
use Rattle.c_types_program.specs.declared.function.Function.{Function}
use Rattle.c_types_program.specs.Declarations.{Declared}
use Rattle.call_operations.specs.Sets.{has_no_body}
use Rattle.call_operations_laws.specs.Codes.{HasFunctions}
use Rattle.c_lower.specs.Lowered.{entry_at, info_of, infos_from, lowered}
use Rattle.c_lower.proofs.Laid.{info_at, known_at, start}

module _ (p : Declared) where
  func_is : (f : ℕ) → builtin_count ≤ f → func_of (lowered p) f ≡ slice_get (infos_from p 0 p.functions) (f - builtin_count)
  func_is f h = ap (λ b. cond b (slice_get (lowered p).builtins f) (slice_get (infos_from p 0 p.functions) (f - builtin_count))) (le-ltb f builtin_count h)

  -- the function of a number, of which code knows this
  pub known : (f : ℕ) (info : FuncInfo) → builtin_count ≤ f → func_of (lowered p) f ≡ Some info →
      (g : Function) × (slice_get p.functions (f - builtin_count) ≡ Some g) × (info ≡ info_of p (start p (f - builtin_count) p.functions) g)
  known f info h e =
      let (g, at, is) = known_at p p.functions (f - builtin_count) 0 info (sym (func_is f h) ∙ e) in
      let first : 0 + start p (f - builtin_count) p.functions ≡ start p (f - builtin_count) p.functions = omega arith in
      (g, at, is ∙ ap (λ m. info_of p m g) first)

  same_entry : (o : Option Body) (at : ℕ) → is_none o ≡ is_none (entry_at o at)
  same_entry None at = refl
  same_entry (Some b) at = refl

  no_entry : (o : Option Body) (at : ℕ) → is_none o ≡ true → entry_at o at ≡ None
  no_entry None at e = refl
  no_entry (Some b) at e = absurd cc

  external : (o : Option Function) → has_no_body o ≡ true → (g : Function) × (o ≡ Some g) × (is_none g.body ≡ true)
  external (Some g) e = (g, refl, e)
  external None e = absurd cc

  pub has_functions : HasFunctions p.functions (lowered p)
  has_functions = record {
    listed = λ f info h e.
        let (g, at, is) = known f info h e in
        (g, at, same_entry g.body (start p (f - builtin_count) p.functions) ∙ sym (ap (λ (i : FuncInfo). is_none i.entry) is));
    each = λ f e.
        let parts = and_parts _ _ e in
        let source : builtin_count ≤ f = leb-true builtin_count f parts.0 in
        let (g, at, body) = external (slice_get p.functions (f - builtin_count)) parts.1 in
        let here = info_at p p.functions (f - builtin_count) 0 g at in
        (info_of p (0 + start p (f - builtin_count) p.functions) g, func_is f source ∙ here, no_entry g.body (0 + start p (f - builtin_count) p.functions) body);
  }
