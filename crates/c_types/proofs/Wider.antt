-- What type names and annotations mean where more names are declared outside: what they meant, if they broke no rule.
use Rattle.std.proofs.Common.{◌≡◌, ℕ, ◌+◌, Bool, true, false, not, is_some, List, [], ◌∷◌, Option, Some, None, ◌⊎◌, inl, inr, refl, sym, ap, subst}
use Rattle.std.specs.Option.{option_or}
use Rattle.c_syntax.specs.declared.declaration.Base.{Base}
use Rattle.c_syntax.specs.declared.declaration.Base.TheVariants as bases
use Rattle.c_syntax.specs.Syntax.{Expr, Exprs, Decl, Decls, Annots, Items, Atom, Parts, Name, Number, Char, Text, Binary, Assign, Cond, Prefix, Postfix, SizeofExpr, SizeofType, Cast, Index, Call, Member, Arrow, NoExprs, MoreExprs, Declare, NoDecls, MoreDecls, NoAnnots, MoreAnnots, Annotate, NoItems, MoreItems, OneFactor, TwoFactors, NameAtom, NumberAtom, ReturnAtom, SizeofAtom, NoParts, Pointer, Array, Params}
use Rattle.c_types_model.specs.Types.{CType, CTypes, Void, Integer, PointerTo, ArrayOf, StructOf, UndefinedStruct, FunctionOf, NoTypes, MoreTypes}
use Rattle.c_builtins.specs.declared.builtin.Builtin.{Builtin}
use Rattle.c_scopes.specs.Scopes.{Scope, meaning_in, meaning_of}
use Rattle.c_types_rules.specs.Checked.{Checked, Fine, Noted, Broken, Notes, keep, noting, small, unevaluated, ◌>>=◌, ◌>>◌}
use Rattle.c_types_rules.specs.Constants.{integer_constant}
use Rattle.c_types_rules.specs.TypedTree.{Callee, Object, Typed, Value, AnObject, AFunction, AValue, object_type, value_of, value_type}
use Rattle.c_types_rules.specs.Environment.{Environment, Meaning, Struct, base_type, builtin_of, extents, is_reserved}
use Rattle.c_types_rules.specs.Expressions.{annotation_types, arguments, arrow_of, atom_type, builtin_called, builtin_in, builtin_unless, called, complete, declarator_type, declared_type, expression, is_small, item_types, length_of, meant, member, member_of, parameter_scope, parameter_type, parameter_types, start_of, unknown_name}

-- ---- answers

abbrev SameUnlessBroken : {A : Type 0} → Checked A → Checked A → Type 0
SameUnlessBroken (Fine x) d = Fine x ≡ d
SameUnlessBroken (Noted n x) d = Noted n x ≡ d
SameUnlessBroken (Broken from rule) d = Unit {0}

-- the second is the first, if that breaks no rule
pub record Same {A : Type 0} (c d : Checked A) : Type 0 where
  pub so : SameUnlessBroken c d

broken : {A : Type 0} {from rule : ℕ} {d : Checked A} → Same (Broken from rule) d
broken = record { so = tt }

pub same : {A : Type 0} (c : Checked A) → Same c c
same (Fine x) = record { so = refl }
same (Noted n x) = record { so = refl }
same (Broken from rule) = broken

same_as : {A : Type 0} (c d : Checked A) → c ≡ d → Same c d
same_as c d e = subst (Same c) e (same c)

noted : {A : Type 0} (n : Notes) (c d : Checked A) → Same c d → Same (noting n c) (noting n d)
noted n (Fine x) d e = record { so = ap (noting n) e.so }
noted n (Noted m x) d e = record { so = ap (noting n) e.so }
noted n (Broken from rule) d e = broken

next : {A B : Type 0} (c d : Checked A) (k l : A → Checked B) → Same c d → ((x : A) → Same (k x) (l x)) → Same (c >>= k) (d >>= l)
next (Fine x) d k l e h = subst (λ v. Same (k x) (v >>= l)) e.so (h x)
next (Noted n x) d k l e h = subst (λ v. Same (noting n (k x)) (v >>= l)) e.so (noted n (k x) (l x) (h x))
next (Broken from rule) d k l e h = broken

after : {A B : Type 0} (c d : Checked A) (k l : Checked B) → Same c d → Same k l → Same (c >> k) (d >> l)
after (Fine x) d k l e h = subst (λ v. Same k (v >> l)) e.so h
after (Noted n x) d k l e h = subst (λ v. Same (noting n k) (v >> l)) e.so (noted n k l h)
after (Broken from rule) d k l e h = broken

-- the same of what goes on in one way
one : {A B : Type 0} {c d : Checked A} → Same c d → (k : A → Checked B) → Same (c >>= k) (d >>= k)
one {c = c} {d = d} h k = next c d k k h (λ a. same (k a))

two : {A B C : Type 0} {c d : Checked A} {e f : Checked B} → Same c d → Same e f → (k : A → B → Checked C) → Same (c >>= (λ a. e >>= k a)) (d >>= (λ a. f >>= k a))
two {c = c} {d = d} {e = e} {f = f} h i k = next c d (λ a. e >>= k a) (λ a. f >>= k a) h (λ a. one i (k a))

-- the same of a step that is one in both
both_on : {A B : Type 0} (c : Checked A) (k l : Checked B) → Same k l → Same (c >> k) (c >> l)
both_on c k l h = after c c k l (same c) h

-- ---- names

-- what a name means in the first scopes it means in the second, and no more builtins are hidden there
pub record Sees (S T : List (Scope Meaning)) : Type 0 where
  pub known : (name : List ℕ) (m : Meaning) → meaning_of name S ≡ Some m → meaning_of name T ≡ Some m
  pub builtin : (name : List ℕ) (b : Builtin) → builtin_of name ≡ Some b → meaning_of name S ≡ None → meaning_of name T ≡ None

-- so it is in one more scope
further : (s : Scope Meaning) (S T : List (Scope Meaning)) → Sees S T → Sees (s ∷ S) (s ∷ T)
further s S T h = record {
  known = λ name m. known (meaning_in name s) (meaning_of name S) (meaning_of name T) m (h.known name);
  builtin = λ name b e. hidden (meaning_in name s) (meaning_of name S) (meaning_of name T) (h.builtin name b e);
}
  where
    known : (o p q : Option Meaning) (m : Meaning) → ((m : Meaning) → p ≡ Some m → q ≡ Some m) → option_or o p ≡ Some m → option_or o q ≡ Some m
    known (Some n) p q m k e = e
    known None p q m k e = k m e

    hidden : (o p q : Option Meaning) → (p ≡ None → q ≡ None) → option_or o p ≡ None → option_or o q ≡ None
    hidden (Some n) p q k e = e
    hidden None p q k e = k e

unknown : (from : ℕ) (o : Option Builtin) (d : Checked Typed) → Same (unknown_name from o) d
unknown from (Some b) d = broken
unknown from None d = broken

meant_same : (from : ℕ) (name : List ℕ) (o p : Option Meaning) → ((m : Meaning) → o ≡ Some m → p ≡ Some m) → Same (meant from name o) (meant from name p)
meant_same from name (Some m) p k = same_as (meant from name (Some m)) (meant from name p) (ap (meant from name) (sym (k m refl)))
meant_same from name None p k = unknown from (builtin_of name) (meant from name p)

-- what is called by a name
abbrev by_name : (at from : ℕ) (name : List ℕ) → Option Builtin → Option Meaning → Checked (Callee × CType × CTypes)
by_name at from name b o = elim b [ Some b ↦ builtin_called at b | None ↦ meant at name o >>= called from ]

called_same : (at from : ℕ) (name : List ℕ) (o p : Option Meaning) → ((m : Meaning) → o ≡ Some m → p ≡ Some m) → ((b : Builtin) → builtin_of name ≡ Some b → o ≡ None → p ≡ None) →
    Same (by_name at from name (builtin_unless o name) o) (by_name at from name (builtin_unless p name) p)
called_same at from name (Some m) p k h =
    same_as (by_name at from name None (Some m)) (by_name at from name (builtin_unless p name) p) (ap (λ q. by_name at from name (builtin_unless q name) q) (sym (k m refl)))
called_same at from name None p k h = by (builtin_of name) refl
  where
    by : (b : Option Builtin) → builtin_of name ≡ b → Same (by_name at from name b None) (by_name at from name (builtin_unless p name) p)
    by (Some b) e =
        same_as (by_name at from name (Some b) None) (by_name at from name (builtin_unless p name) p)
        (subst (λ o. by_name at from name (Some b) None ≡ by_name at from name (builtin_unless o name) o) (sym (h b e refl)) (subst (λ c. by_name at from name (Some b) None ≡ by_name at from name c None) (sym e) refl))
    by None e = subst (λ c. Same (c >>= called from) (by_name at from name (builtin_unless p name) p)) (ap (unknown_name at) (sym e)) broken

-- an expression is a name, or names no builtin
no_name : (x : Expr) → ((f : ℕ) × (n : List ℕ) × (x ≡ Name f n)) ⊎ ((E : Environment) → builtin_in E x ≡ None)
no_name (Name f n) = inl (f, n, refl)
no_name (Number f v s d) = inr (λ E. refl)
no_name (Char f v) = inr (λ E. refl)
no_name (Text f n) = inr (λ E. refl)
no_name (Binary f s x y) = inr (λ E. refl)
no_name (Assign f s x y) = inr (λ E. refl)
no_name (Cond f x y z) = inr (λ E. refl)
no_name (Prefix f s x) = inr (λ E. refl)
no_name (Postfix f s x) = inr (λ E. refl)
no_name (SizeofExpr f x) = inr (λ E. refl)
no_name (SizeofType f d) = inr (λ E. refl)
no_name (Cast f d x) = inr (λ E. refl)
no_name (Index f x y) = inr (λ E. refl)
no_name (Call f x xs) = inr (λ E. refl)
no_name (Member f x n) = inr (λ E. refl)
no_name (Arrow f x n) = inr (λ E. refl)

-- a name that is declared in the innermost scope of both
both_declared : {A : Type 0} (from : ℕ) (a b : Bool) (E F : Environment) (k l : Environment → Checked A) → Same (k E) (l F) → Same (((keep from 19 a >> keep from 1 b) >> Fine E) >>= k) (((keep from 19 a >> keep from 1 b) >> Fine F) >>= l)
both_declared from true true E F k l h = h
both_declared from true false E F k l h = broken
both_declared from false b E F k l h = broken

-- what is called where no builtin is named
abbrev chosen : Option Builtin → (at from : ℕ) → Checked Typed → Checked (Callee × CType × CTypes)
chosen o at from c = elim o [ Some b ↦ builtin_called at b | None ↦ c >>= called from ]

not_builtin : (o p : Option Builtin) (at from : ℕ) (c d : Checked Typed) → o ≡ None → p ≡ None → Same c d → Same (chosen o at from c) (chosen p at from d)
not_builtin o p at from c d e f h =
    subst (λ q. Same (chosen q at from c) (chosen p at from d)) (sym e) (subst (λ q. Same (c >>= called from) (chosen q at from d)) (sym f) (next c d (called from) (called from) h (λ x. same (called from x))))

module _ (tags : List (List ℕ)) (structs : List Struct) where
  abbrev at : List (Scope Meaning) → Environment
  at S = record { tags = tags; structs = structs; scopes = S }

  base_same : (b : Base) (S T : List (Scope Meaning)) → base_type (at S) b ≡ base_type (at T) b
  base_same bases.Void S T = refl
  base_same (bases.Int bytes signed) S T = refl
  base_same (bases.Struct tag) S T = refl

  member_of_same : (from : ℕ) (o : Object) (t : CType) (name : List ℕ) (S T : List (Scope Meaning)) → Same (member_of (at S) from o t name) (member_of (at T) from o t name)
  member_of_same from o Void name S T = broken
  member_of_same from o (Integer k) name S T = broken
  member_of_same from o (PointerTo t) name S T = broken
  member_of_same from o (ArrayOf n t) name S T = broken
  member_of_same from o (StructOf number) name S T = same (member_of (at S) from o (StructOf number) name)
  member_of_same from o (UndefinedStruct tag) name S T = broken
  member_of_same from o (FunctionOf r ts) name S T = broken

  member_same : (from : ℕ) (x : Typed) (name : List ℕ) (S T : List (Scope Meaning)) → Same (member (at S) from x name) (member (at T) from x name)
  member_same from (AnObject o) name S T = member_of_same from o (object_type o) name S T
  member_same from (AFunction f t) name S T = broken
  member_same from (AValue v) name S T = broken

  arrow_same : (from : ℕ) (v : Value) (t : CType) (name : List ℕ) (S T : List (Scope Meaning)) → Same (arrow_of (at S) from v t name) (arrow_of (at T) from v t name)
  arrow_same from v Void name S T = broken
  arrow_same from v (Integer k) name S T = broken
  arrow_same from v (PointerTo Void) name S T = broken
  arrow_same from v (PointerTo (Integer k)) name S T = broken
  arrow_same from v (PointerTo (PointerTo t)) name S T = broken
  arrow_same from v (PointerTo (ArrayOf n t)) name S T = broken
  arrow_same from v (PointerTo (StructOf number)) name S T = same (arrow_of (at S) from v (PointerTo (StructOf number)) name)
  arrow_same from v (PointerTo (UndefinedStruct tag)) name S T = broken
  arrow_same from v (PointerTo (FunctionOf r ts)) name S T = broken
  arrow_same from v (ArrayOf n t) name S T = broken
  arrow_same from v (StructOf number) name S T = broken
  arrow_same from v (UndefinedStruct tag) name S T = broken
  arrow_same from v (FunctionOf r ts) name S T = broken

  -- an array of the length that this is
  abbrev array_as : (from : ℕ) → Parts → CType → List (Scope Meaning) → Typed → Checked CType
  array_as from ps t S a = unevaluated a >> (length_of from (integer_constant (value_of a)) >>= (λ n. declarator_type ps (at S) (ArrayOf n t)))

  array_same : (from : ℕ) (x : Expr) (ps : Parts) (t : CType) (S T : List (Scope Meaning)) → Same (expression x (at S)) (expression x (at T)) → ((n : ℕ) → Same (declarator_type ps (at S) (ArrayOf n t)) (declarator_type ps (at T) (ArrayOf n t))) →
      Same (declarator_type (Array from x ps) (at S) t) (declarator_type (Array from x ps) (at T) t)
  array_same from x ps t S T h k =
      let last : (U : List (Scope Meaning)) → Checked CType = λ U. expression x (at U) >>= array_as from ps t U in
      both_on (complete (extents (at S)) from t) (small (is_small (extents (at S)) t) >> last S) (small (is_small (extents (at S)) t) >> last T)
      (both_on (small (is_small (extents (at S)) t)) (last S) (last T)
      (next (expression x (at S)) (expression x (at T)) (array_as from ps t S) (array_as from ps t T) h
      (λ a. both_on (unevaluated a) (length_of from (integer_constant (value_of a)) >>= (λ n. declarator_type ps (at S) (ArrayOf n t))) (length_of from (integer_constant (value_of a)) >>= (λ n. declarator_type ps (at T) (ArrayOf n t)))
      (next (length_of from (integer_constant (value_of a))) (length_of from (integer_constant (value_of a))) (λ n. declarator_type ps (at S) (ArrayOf n t)) (λ n. declarator_type ps (at T) (ArrayOf n t)) (same (length_of from (integer_constant (value_of a)))) k))))

  -- a declarator after the words of a declaration
  after_words : (b : Base) (ps : Parts) (S T : List (Scope Meaning)) → Same (declarator_type ps (at S) (base_type (at S) b)) (declarator_type ps (at T) (base_type (at S) b)) → Same (declarator_type ps (at S) (base_type (at S) b)) (declarator_type ps (at T) (base_type (at T) b))
  after_words b ps S T h = subst (λ t. Same (declarator_type ps (at S) (base_type (at S) b)) (declarator_type ps (at T) t)) (base_same b S T) h

  -- what is called
  callee_same : (x : Expr) (from : ℕ) (S T : List (Scope Meaning)) → Sees S T → Same (expression x (at S)) (expression x (at T)) → Same (chosen (builtin_in (at S) x) (start_of x) from (expression x (at S))) (chosen (builtin_in (at T) x) (start_of x) from (expression x (at T)))
  callee_same x from S T h k = elim (no_name x) [
    | inl p ↦ subst (λ (y : Expr). Same (chosen (builtin_in (at S) y) (start_of y) from (expression y (at S))) (chosen (builtin_in (at T) y) (start_of y) from (expression y (at T)))) (sym p.2)
        (called_same p.0 from p.1 (meaning_of p.1 S) (meaning_of p.1 T) (h.known p.1) (h.builtin p.1))
    | inr none ↦ not_builtin (builtin_in (at S) x) (builtin_in (at T) x) (start_of x) from (expression x (at S)) (expression x (at T)) (none (at S)) (none (at T)) k
  ]

  -- the parameters after one of this type
  later_same : (d : Decl) (ds : Decls) (s : Scope Meaning) (S T : List (Scope Meaning)) (place : ℕ) (t : CType) →
      ((u : Scope Meaning) → Same (parameter_types ds (at (u ∷ S)) (place + 1)) (parameter_types ds (at (u ∷ T)) (place + 1))) →
      Same (parameter_scope d (at (s ∷ S)) place t >>= (λ E. parameter_types ds E (place + 1) >>= (λ ts. Fine (MoreTypes t ts))))
      (parameter_scope d (at (s ∷ T)) place t >>= (λ E. parameter_types ds E (place + 1) >>= (λ ts. Fine (MoreTypes t ts))))
  later_same (Declare from an b ps None r) ds s S T place t h = one (h s) (λ ts. Fine (MoreTypes t ts))
  later_same (Declare from an b ps (Some name) r) ds s S T place t h =
      both_declared from (not (is_reserved name)) (not (is_some (meaning_in name s))) _ _ _ _ (one (h _) (λ ts. Fine (MoreTypes t ts)))

  mutual
    expression_same : (x : Expr) (S T : List (Scope Meaning)) → Sees S T → Same (expression x (at S)) (expression x (at T))
    expression_same (Name f n) S T h = meant_same f n (meaning_of n S) (meaning_of n T) (h.known n)
    expression_same (Number f v s d) S T h = same (expression (Number f v s d) (at S))
    expression_same (Char f v) S T h = same (expression (Char f v) (at S))
    expression_same (Text f n) S T h = same (expression (Text f n) (at S))
    expression_same (Binary f s x y) S T h = two (expression_same x S T h) (expression_same y S T h) _
    expression_same (Assign f s x y) S T h = two (expression_same x S T h) (expression_same y S T h) _
    expression_same (Cond f x y z) S T h = next _ _ _ _ (expression_same x S T h) (λ a. two (expression_same y S T h) (expression_same z S T h) _)
    expression_same (Prefix f s x) S T h = one (expression_same x S T h) _
    expression_same (Postfix f s x) S T h = one (expression_same x S T h) _
    expression_same (SizeofExpr f x) S T h = one (expression_same x S T h) _
    expression_same (SizeofType f d) S T h = one (declared_same d S T h) _
    expression_same (Cast f d x) S T h = next _ _ _ _ (declared_same d S T h) (λ t. one (expression_same x S T h) _)
    expression_same (Index f x y) S T h = two (expression_same x S T h) (expression_same y S T h) _
    expression_same (Call f x xs) S T h = next _ _ _ _ (callee_same x f S T h (expression_same x S T h)) (λ g. next _ _ _ _ (arguments_same xs f g.2 S T h) (λ vs. same _))
    expression_same (Member f x n) S T h = next _ _ _ _ (expression_same x S T h) (λ a. member_same f a n S T)
    expression_same (Arrow f x n) S T h = next _ _ _ _ (expression_same x S T h) (λ a. arrow_same f (value_of a) (value_type (value_of a)) n S T)

    arguments_same : (xs : Exprs) (from : ℕ) (ts : CTypes) (S T : List (Scope Meaning)) → Sees S T → Same (arguments xs (at S) from ts) (arguments xs (at T) from ts)
    arguments_same NoExprs from NoTypes S T h = same _
    arguments_same NoExprs from (MoreTypes t ts) S T h = broken
    arguments_same (MoreExprs x xs) from NoTypes S T h = broken
    arguments_same (MoreExprs x xs) from (MoreTypes t ts) S T h =
        next _ _ _ _ (expression_same x S T h) (λ a. next _ _ _ _ (same _) (λ v. next _ _ _ _ (arguments_same xs from ts S T h) (λ vs. same _)))

    declared_same : (d : Decl) (S T : List (Scope Meaning)) → Sees S T → Same (declared_type d (at S)) (declared_type d (at T))
    declared_same (Declare from an b ps n r) S T h = one (after_words b ps S T (declarator_same ps (base_type (at S) b) S T h)) _

    declarator_same : (ps : Parts) (t : CType) (S T : List (Scope Meaning)) → Sees S T → Same (declarator_type ps (at S) t) (declarator_type ps (at T) t)
    declarator_same NoParts t S T h = same _
    declarator_same (Pointer from ps) t S T h = both_on _ _ _ (declarator_same ps (PointerTo t) S T h)
    declarator_same (Array from x ps) t S T h = array_same from x ps t S T (expression_same x S T h) (λ n. declarator_same ps (ArrayOf n t) S T h)
    declarator_same (Params from ds ps) t S T h =
        both_on _ _ _ (next _ _ _ _ (parameters_same ds [] S T 0 h) (λ ts. declarator_same ps (FunctionOf t ts) S T h))

    parameters_same : (ds : Decls) (s : Scope Meaning) (S T : List (Scope Meaning)) (place : ℕ) → Sees S T → Same (parameter_types ds (at (s ∷ S)) place) (parameter_types ds (at (s ∷ T)) place)
    parameters_same NoDecls s S T place h = same _
    parameters_same (MoreDecls d ds) s S T place h =
        next _ _ _ _ (parameter_same d (s ∷ S) (s ∷ T) (further s S T h)) (λ t. later_same d ds s S T place t (λ u. parameters_same ds u S T (place + 1) h))

    parameter_same : (d : Decl) (S T : List (Scope Meaning)) → Sees S T → Same (parameter_type d (at S)) (parameter_type d (at T))
    parameter_same (Declare from an b ps n r) S T h =
        after _ _ _ _ (annotations_same an S T h) (one (after_words b ps S T (declarator_same ps (base_type (at S) b) S T h)) _)

    pub annotations_same : (an : Annots) (S T : List (Scope Meaning)) → Sees S T → Same (annotation_types an (at S)) (annotation_types an (at T))
    annotations_same NoAnnots S T h = same _
    annotations_same (MoreAnnots (Annotate f n is) xs) S T h = after _ _ _ _ (items_same is S T h) (annotations_same xs S T h)

    items_same : (is : Items) (S T : List (Scope Meaning)) → Sees S T → Same (item_types is (at S)) (item_types is (at T))
    items_same NoItems S T h = same _
    items_same (MoreItems (OneFactor from a) xs) S T h = after _ _ _ _ (atom_same a from S T h) (items_same xs S T h)
    items_same (MoreItems (TwoFactors from a b) xs) S T h = after _ _ _ _ (after _ _ _ _ (atom_same a from S T h) (atom_same b from S T h)) (items_same xs S T h)

    atom_same : (a : Atom) (from : ℕ) (S T : List (Scope Meaning)) → Sees S T → Same (atom_type a (at S) from) (atom_type a (at T) from)
    atom_same (NameAtom n) from S T h = same _
    atom_same (NumberAtom v) from S T h = same _
    atom_same ReturnAtom from S T h = same _
    atom_same (SizeofAtom d) from S T h = one (declared_same d S T h) _
