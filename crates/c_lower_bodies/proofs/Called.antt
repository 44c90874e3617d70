-- The code of a call, as it is put together.
use Rattle.std.proofs.Common.{◌≡◌, ℕ, suc, List, [], ◌∷◌, ◌++◌, length, Some, refl, sym, ap, ◌∙◌, append_assoc}
use Rattle.c_code.specs.declared.instr.Instr.{Instr}
use Rattle.c_types_rules.specs.TypedTree.{Typed, Callee, Values, AFunction}
use Rattle.c_types_nodes.specs.declared.ids.NodeId.{NodeId}
use Rattle.c_types_nodes.specs.Parts.{typed_in, values}
use Rattle.c_types_nodes.specs.Tables.{IsFunctionAt, Table, callee_at, node_at, typed_of}
use Rattle.c_lower_placement.specs.Placement.{count}
use Rattle.c_lower_placement.specs.Code.{Making, call_code, callee_code, values_code}
use Rattle.c_lower_bodies.specs.TypedCode.{call_of, calling_code, typed_code}

pub values_counted : (xs : List Typed) (ids : List NodeId) → count (values xs ids) ≡ length ids
values_counted xs [] = refl
values_counted xs (id ∷ ids) = ap suc (values_counted xs ids)

pub call_made : (t : Table) (f : NodeId) (ids : List NodeId) (x : Making) (n : ℕ) (old first second third : List Instr) → IsFunctionAt t f → n ≡ length ids
    → first ≡ calling_code (node_at t f) x n ++ old → second ≡ values_code (values (typed_of t) ids) x ++ first → third ≡ typed_code (node_at t f) x ++ second
    → third ≡ call_of (callee_at t f) (values (typed_of t) ids) x ++ old
call_made t f ids x n old first second third is counted e1 e2 e3 =
    let vs = values (typed_of t) ids in
    let function = callee_at t f in
    let node : node_at t f ≡ AFunction function _ = ap typed_in is in
    let a : first ≡ call_code function x (count vs) ++ old = e1 ∙ (ap (λ (y : Typed). calling_code y x n ++ old) node ∙ ap (λ (k : ℕ). call_code function x k ++ old) (counted ∙ sym (values_counted (typed_of t) ids))) in
    let b : third ≡ callee_code function x ++ second = e3 ∙ ap (λ (y : Typed). typed_code y x ++ second) node in
    let last = call_code function x (count vs) in
    b ∙ (ap (λ l. callee_code function x ++ l) (e2 ∙ ap (λ l. values_code vs x ++ l) a)
    ∙ (ap (λ l. callee_code function x ++ l) (sym (append_assoc (values_code vs x) last old)) ∙ sym (append_assoc (callee_code function x) (values_code vs x ++ last) old)))
