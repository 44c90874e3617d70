-- What objects have that one expression gives.
use Rattle.std.proofs.Common.{◌≡◌, ℕ, Bool, true, false, List, Some, Result, Ok, Err, refl, sym, ap, ◌∙◌, subst}
use Rattle.c_syntax.specs.declared.id.ExprId.{ExprId}
use Rattle.c_syntax.specs.declared.expression.Expr.{Expr as ExprNode}
use Rattle.c_syntax.specs.declared.expression.ExprKind.TheVariants as exprs
use Rattle.c_syntax.specs.Nodes.{Nodes, expr_at}
use Rattle.c_syntax.specs.Syntax.{Expr, Name, Number, Char, Text, Binary, Assign, Cond, Prefix, Postfix, SizeofExpr, SizeofType, Cast, Index, Call, Member, Arrow}
use Rattle.c_syntax.specs.Stands.{Stands}
use Rattle.c_syntax.proofs.Only.{text_only}
use Rattle.c_types_model.specs.Types.{CType, ArrayOf}
use Rattle.c_types_table.specs.declared.ids.StructId.{StructId}
use Rattle.c_types_table.specs.declared.ids.TypeId.{TypeId}
use Rattle.c_types_table.specs.declared.ty.Ty.{Ty}
use Rattle.c_types_table.specs.declared.ty.Ty.TheVariants as nodes
use Rattle.c_types_table.specs.Tables.{made}
use Rattle.c_types_rules.specs.Checked.{Checked, Fine, keep, ◌>>=◌, ◌>>◌}
use Rattle.c_types_rules.specs.Environment.{Environment}
use Rattle.c_types_rules.specs.Initials as initials
use Rattle.c_types_rules.specs.Initials.{known, plain_initial, text_fits}
use Rattle.c_types_program.specs.declared.global.Initial.{Initial}
use Rattle.c_types_program.specs.declared.global.Initial as given
use Rattle.c_types_program.specs.declared.global.Known.{Known}
use Rattle.c_types_program.specs.Declarations.{initial_in}
use Rattle.c_types_operators.specs.declared.error.TypeError.{TypeError}
use Rattle.c_types_operators.specs.declared.error.TypeError.TheVariants.{Rule}
use Rattle.c_types_operators.specs.Answers.{Agrees}
use Rattle.c_types_environment.specs.States.{notes_of, State}
use Rattle.c_types_expressions.specs.Found.{Finds}
use Rattle.c_types_expressions.proofs.Sequences.{gone_on, stopped_in}
use Rattle.c_types_initializers.specs.Values.{IsInitial, IsKnown}
use Rattle.c_types_expressions.proofs.Starts.{start_is}

-- ---- arrays

module _ (N : Nodes) (i : ExprId) (node : ExprNode) (at : expr_at N i ≡ Some node) (env : Environment) (n : ℕ) (t : CType) where
  -- a string that fits
  pub text_found : (bytes : List ℕ) (one : Initial) → node.kind ≡ exprs.Text bytes → text_fits n t bytes ≡ true → initial_in one ≡ initials.Bytes bytes → (x : Expr) → Stands N i x → Agrees IsInitial (plain_initial env (ArrayOf n t) x) (Ok one)
  text_found bytes one kind fits is x h =
      let P : Expr → Type 0 = λ y. Agrees IsInitial (plain_initial env (ArrayOf n t) y) (Ok one) in
      let Q : Bool → Type 0 = λ b. Agrees IsInitial (keep node.from 16 b >> Fine (initials.Bytes bytes)) (Ok one) in
      subst P (sym (text_only N i node.from bytes x (node, at, refl, kind) h)) (subst Q (sym fits) is)

  -- anything else
  pub no_text : ((bytes : List ℕ) → node.kind ≡ exprs.Text bytes → text_fits n t bytes ≡ false) → (x : Expr) → Stands N i x → Agrees IsInitial (plain_initial env (ArrayOf n t) x) (Err (Rule node.from 16))
  no_text not (Text f bytes) (e, g, from, kind) =
      let same : e ≡ node = cc in
      let Q : Bool → Type 0 = λ b. Agrees IsInitial (keep f 16 b >> Fine (initials.Bytes bytes)) (Err (Rule node.from 16)) in
      subst Q (sym (not bytes (ap (λ z. z.kind) (sym same) ∙ kind))) (sym (ap (λ z. z.from) same) ∙ from, refl)
  no_text not (Name f v) h = (start_is N i (Name f v) node h at, refl)
  no_text not (Number f v s d) h = (start_is N i (Number f v s d) node h at, refl)
  no_text not (Char f v) h = (start_is N i (Char f v) node h at, refl)
  no_text not (Binary f s x y) h = (start_is N i (Binary f s x y) node h at, refl)
  no_text not (Assign f s x y) h = (start_is N i (Assign f s x y) node h at, refl)
  no_text not (Cond f x y z) h = (start_is N i (Cond f x y z) node h at, refl)
  no_text not (Prefix f s x) h = (start_is N i (Prefix f s x) node h at, refl)
  no_text not (Postfix f s x) h = (start_is N i (Postfix f s x) node h at, refl)
  no_text not (SizeofExpr f x) h = (start_is N i (SizeofExpr f x) node h at, refl)
  no_text not (SizeofType f d) h = (start_is N i (SizeofType f d) node h at, refl)
  no_text not (Cast f d x) h = (start_is N i (Cast f d x) node h at, refl)
  no_text not (Index f x y) h = (start_is N i (Index f x y) node h at, refl)
  no_text not (Call f x xs) h = (start_is N i (Call f x xs) node h at, refl)
  no_text not (Member f x v) h = (start_is N i (Member f x v) node h at, refl)
  no_text not (Arrow f x v) h = (start_is N i (Arrow f x v) node h at, refl)

-- ---- scalars

plain_scalar : (env : Environment) (x : Expr) (ts : List CType) (n : Ty) → ((e : TypeId) (l : ℕ) → n ≡ nodes.Array e l → ⊥) → ((s : StructId) → n ≡ nodes.Struct s → ⊥)
    → plain_initial env (made ts n) x ≡ (known env (made ts n) x >>= (λ k. Fine (initials.Scalar k)))
plain_scalar env x ts nodes.Void h k = refl
plain_scalar env x ts (nodes.Int j) h k = refl
plain_scalar env x ts (nodes.Pointer t) h k = refl
plain_scalar env x ts (nodes.Array t l) h k = absurd (h t l refl)
plain_scalar env x ts (nodes.Struct s) h k = absurd (k s refl)
plain_scalar env x ts (nodes.UndefinedStruct tag) h k = refl
plain_scalar env x ts (nodes.Function r ps) h k = refl

module _ (a b : State) (x : Expr) (ts : List CType) (n : Ty) (c : CType) (is : made ts n ≡ c) (no_array : (e : TypeId) (l : ℕ) → n ≡ nodes.Array e l → ⊥) (no_struct : (s : StructId) → n ≡ nodes.Struct s → ⊥) where
  by_known : (r : Result Initial TypeError) → Finds a b IsInitial (known a.env c x >>= (λ k. Fine (initials.Scalar k))) r → Finds a b IsInitial (plain_initial a.env c x) r
  by_known r h =
      let P : CType → Type 0 = λ d. plain_initial a.env d x ≡ (known a.env d x >>= (λ k. Fine (initials.Scalar k))) in
      let Q : Checked initials.Initial → Type 0 = λ z. Finds a b IsInitial z r in
      subst Q (sym (subst P is (plain_scalar a.env x ts n no_array no_struct))) h

  pub scalar_found : (k : Known) (one : Initial) → initial_in one ≡ initial_in (given.Scalar k) → Finds a b IsKnown (known a.env c x) (Ok k) → Finds a b IsInitial (plain_initial a.env c x) (Ok one)
  scalar_found k one same h =
      by_known (Ok one) (gone_on (notes_of a) (notes_of b) (notes_of b) IsKnown IsInitial (known a.env c x) (λ k. Fine (initials.Scalar k)) k (Ok one) h (λ y at. (same ∙ ap initials.Scalar at, refl)))

  pub scalar_broken : (e : TypeError) → Finds a b IsKnown (known a.env c x) (Err e) → Finds a b IsInitial (plain_initial a.env c x) (Err e)
  scalar_broken e h = by_known (Err e) (stopped_in (notes_of a) (notes_of b) (notes_of b) IsKnown IsInitial (known a.env c x) (λ k. Fine (initials.Scalar k)) e h)
