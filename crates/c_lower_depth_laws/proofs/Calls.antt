-- How deep a call is.
use Rattle.std.proofs.Common.{◌≡◌, ℕ, ◌+◌, Bool, true, List, Option, Some, None, refl, sym, ap, ◌∙◌, subst}
use Rattle.std.specs.Prelude.{not}
use Rattle.c_syntax.specs.Syntax.{Expr, Name, Number, Char, Text, Binary, Assign, Cond, Prefix, Postfix, SizeofExpr, SizeofType, Cast, Index, Call, Member, Arrow}
use Rattle.c_types_model.specs.Types.{CType, CTypes, Void, Integer, PointerTo, ArrayOf, StructOf, UndefinedStruct, FunctionOf}
use Rattle.c_builtins.specs.declared.builtin.Builtin.{Builtin}
use Rattle.c_builtins.specs.Table.{prototype_of}
use Rattle.c_scopes.specs.Scopes.{meaning_of}
use Rattle.c_types_rules.specs.Checked.{Checked, Fine, ◌>>=◌}
use Rattle.c_types_rules.specs.TypedTree.{Value, Callee, Typed, SourceFunction, BuiltinFunction, Through, AnObject, AFunction, AValue, value_type, value_of}
use Rattle.c_types_rules.specs.Environment.{Environment, Meaning}
use Rattle.c_types_rules.specs.Expressions.{function_type, called_value, called, builtin_called, builtin_in, builtin_unless}
use Rattle.c_lower_placement.specs.Heights.{value_depth, pair_depth}
use Rattle.c_lower_placement.specs.Heights as heights
use Rattle.c_lower_depth_laws.specs.Expressions.{call_depth, is_direct, unevaluated_depth}
use Rattle.c_lower_depth_laws.proofs.Found.{Finds, finds_last}
use Rattle.c_lower_depth_laws.specs.Names.{AgreesIn, means_object}
use Rattle.c_lower_depth_laws.proofs.Typings.{Is, value_deep}

-- what is called is so deep below this many values, or is named
abbrev pub Below : Bool → ℕ → Callee × CType × CTypes → Type 0
Below direct w f = (n : ℕ) → heights.call_depth f.0 n ≡ call_depth direct w n (1 + n)

callee_below : (direct : Bool) (w : ℕ) (f : Callee) (t : CType) → Is w direct (AFunction f t) → (n : ℕ) → heights.call_depth f n ≡ call_depth direct w n (1 + n)
callee_below direct w (SourceFunction from number) t h n = ap (λ b. call_depth b w n (1 + n)) h.1
callee_below direct w (BuiltinFunction from b) t h n = ap (λ b. call_depth b w n (1 + n)) h.1
callee_below direct w (Through v) t h n = ap (λ m. pair_depth m n) h.0 ∙ ap (λ b. call_depth b w n (1 + n)) h.1

function_below : (direct : Bool) (w from : ℕ) (f : Callee) (t : CType) → ((n : ℕ) → heights.call_depth f n ≡ call_depth direct w n (1 + n)) → Finds (Below direct w) 0 (function_type from t >>= (λ g. Fine (f, g.0, g.1)))
function_below direct w from f (FunctionOf r ps) h = (h, refl)
function_below direct w from f Void h = tt
function_below direct w from f (Integer k) h = tt
function_below direct w from f (PointerTo t) h = tt
function_below direct w from f (ArrayOf n t) h = tt
function_below direct w from f (StructOf n) h = tt
function_below direct w from f (UndefinedStruct tag) h = tt

pointer_below : (direct : Bool) (w from : ℕ) (v : Value) (t : CType) → ((n : ℕ) → pair_depth (value_depth v) n ≡ call_depth direct w n (1 + n)) → Finds (Below direct w) 0 (called_value from v t)
pointer_below direct w from v (PointerTo t) h = function_below direct w from (Through v) t h
pointer_below direct w from v Void h = tt
pointer_below direct w from v (Integer k) h = tt
pointer_below direct w from v (ArrayOf n t) h = tt
pointer_below direct w from v (StructOf n) h = tt
pointer_below direct w from v (UndefinedStruct tag) h = tt
pointer_below direct w from v (FunctionOf r ps) h = tt

called_below : (direct : Bool) (w from : ℕ) (a : Typed) → Is w direct a → Finds (Below direct w) 0 (called from a)
called_below direct w from (AFunction f t) h = function_below direct w from f t (callee_below direct w f t h)
called_below direct w from (AnObject o) h =
    pointer_below direct w from (value_of (AnObject o)) (value_type (value_of (AnObject o))) (λ n. ap (λ m. pair_depth m n) (value_deep (AnObject o) ∙ h.0) ∙ ap (λ b. call_depth b w n (1 + n)) h.1)
called_below direct w from (AValue v) h = pointer_below direct w from v (value_type v) (λ n. ap (λ m. pair_depth m n) h.0 ∙ ap (λ b. call_depth b w n (1 + n)) h.1)

-- a builtin is called by a name that no object has
pub builtin_direct : (x : Expr) (objects : List (List ℕ)) (env : Environment) (f : Builtin) → AgreesIn objects env → builtin_in env x ≡ Some f → (is_direct x objects ≡ true) × (0 ≡ unevaluated_depth x objects)
builtin_direct (Name from name) objects env f agrees e = (ap not (agrees.names name ∙ ap means_object (by (meaning_of name env.scopes) e)), refl)
  where
    by : (m : Option Meaning) → builtin_unless m name ≡ Some f → m ≡ None
    by (Some m) e = absurd cc
    by None e = refl
builtin_direct (Number from n suffix decimal) objects env f agrees e = absurd cc
builtin_direct (Char from n) objects env f agrees e = absurd cc
builtin_direct (Text from bytes) objects env f agrees e = absurd cc
builtin_direct (Binary from s x y) objects env f agrees e = absurd cc
builtin_direct (Assign from s x y) objects env f agrees e = absurd cc
builtin_direct (Cond from x y z) objects env f agrees e = absurd cc
builtin_direct (Prefix from s x) objects env f agrees e = absurd cc
builtin_direct (Postfix from s x) objects env f agrees e = absurd cc
builtin_direct (SizeofExpr from x) objects env f agrees e = absurd cc
builtin_direct (SizeofType from d) objects env f agrees e = absurd cc
builtin_direct (Cast from d x) objects env f agrees e = absurd cc
builtin_direct (Index from x y) objects env f agrees e = absurd cc
builtin_direct (Call from x xs) objects env f agrees e = absurd cc
builtin_direct (Member from x name) objects env f agrees e = absurd cc
builtin_direct (Arrow from x name) objects env f agrees e = absurd cc

pub callee_found : (from at : ℕ) (o : Option Builtin) (c : Checked Typed) (direct : Bool) (w k : ℕ) → ((f : Builtin) → o ≡ Some f → (direct ≡ true) × (0 ≡ k)) → Finds (Is w direct) k c → Finds (Below direct w) k (elim o [ Some f ↦ builtin_called at f | None ↦ c >>= called from ])
callee_found from at (Some f) c direct w k builtin h =
    let is = builtin f refl in
    subst (λ i. Finds (Below direct w) i (builtin_called at f)) is.1 (function_below direct w at (BuiltinFunction at f) (prototype_of f) (λ n. ap (λ b. call_depth b w n (1 + n)) (sym is.0)))
callee_found from at None c direct w k builtin h = finds_last (Is w direct) (Below direct w) k c (called from) h (called_below direct w from)
