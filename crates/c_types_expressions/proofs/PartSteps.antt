-- One part of a declarator: a pointer, an array or a function.
use Rattle.std.proofs.Common.{◌≡◌, ◌<◌, ◌||◌, ℕ, Bool, not, List, [], ◌∷◌, length, Result, Ok, Err, false, true, refl, sym, ap, ◌∙◌, subst}
use Rattle.std.specs.List.{All}
use Rattle.std.proofs.lemmas.List.Elements.{All-nil, All-cons}
use Rattle.c_syntax.specs.declared.id.DeclId.{DeclId}
use Rattle.c_syntax.specs.declared.id.ExprId.{ExprId}
use Rattle.c_syntax.specs.declared.declaration.Part.{Part}
use Rattle.c_syntax.specs.declared.declaration.PartKind.TheVariants as parts
use Rattle.c_syntax.specs.Nodes.{Nodes}
use Rattle.c_syntax.specs.Syntax.{Expr, Decls, Parts, NoParts, Pointer, Array, Params}
use Rattle.c_syntax.specs.Stands.{Stands, StandDecls, StandParts}
use Rattle.c_types_model.specs.Types.{CType, CTypes, FunctionOf, PointerTo, NoTypes, MoreTypes}
use Rattle.c_types_table.specs.declared.ids.TypeId.{TypeId}
use Rattle.c_types_table.specs.Tables.{IsBelow, all_at, type_at, types_of}
use Rattle.c_types_rules.specs.Checked.{Checked, Fine, keep, small, ◌>>=◌, ◌>>◌, Notes}
use Rattle.c_types_rules.specs.TypeTests.{is_result}
use Rattle.c_types_rules.specs.Environment.{Environment, extents, inner}
use Rattle.c_types_rules.specs.Expressions.{complete, declarator_type, expression, is_small, parameter_types}
use Rattle.c_types_nodes.specs.declared.ids.NodeId.{NodeId}
use Rattle.c_types_nodes.specs.Tables.{Table, Names, node_at}
use Rattle.c_types_operators.specs.declared.error.TypeError.{TypeError}
use Rattle.c_types_operators.specs.declared.error.TypeError.TheVariants.{Rule}
use Rattle.c_types_operators.specs.Answers.{Agrees, IsNothing, StandsAt}
use Rattle.c_types_environment.specs.States.{notes_of, State, KeepsAll}
use Rattle.c_syntax_laws.specs.Numbers.{FitsParts}
use Rattle.c_types_expressions.specs.Found.{size_noted, Found, Finds, Stays, IsType, AreTypes}
use Rattle.c_types_expressions.specs.Pieces.{array_of, whole_type}
use Rattle.c_types_expressions.specs.Walks.{AreDecls, AreParts, IsExpr}
use Rattle.c_types_expressions.proofs.Sequences.{passed, after_note, noted_nothing, gone_on, gone_on_after, stopped_in, stopped_before, kept, not_kept, since, there}
use Rattle.c_types_expressions.proofs.Kept.{node_is, type_stays}
use Rattle.c_types_expressions.proofs.Operands.{agrees_as}
use Rattle.c_types_expressions.proofs.Lists.{no_part}

-- ---- what one part is

pub pointer_part : (N : Nodes) (v : Part) (ps : Parts) → v.kind ≡ parts.Pointer → StandParts N (v ∷ []) ps → ps ≡ Pointer v.from NoParts
pointer_part N v NoParts k e = absurd cc
pointer_part N v (Pointer f ps) k (w, ws, e, from, kind, q) =
    let same : w ≡ v = cc in let none : ws ≡ [] = cc in
    ap (λ g. Pointer g ps) (sym from ∙ ap (λ u. u.from) same) ∙ ap (Pointer v.from) (no_part N ps (subst (λ us. StandParts N us ps) none q))
pointer_part N v (Array f x ps) k (w, a, ws, e, from, kind, p, q) = let same : w ≡ v = cc in let kinds : w.kind ≡ v.kind = ap (λ u. u.kind) same in absurd cc
pointer_part N v (Params f ds ps) k (w, is, ws, e, from, kind, p, q) = let same : w ≡ v = cc in let kinds : w.kind ≡ v.kind = ap (λ u. u.kind) same in absurd cc

pub array_part : (N : Nodes) (v : Part) (a : ExprId) (ps : Parts) → v.kind ≡ parts.Array a → StandParts N (v ∷ []) ps → (x : Expr) × (ps ≡ Array v.from x NoParts) × Stands N a x
array_part N v a NoParts k e = absurd cc
array_part N v a (Pointer f ps) k (w, ws, e, from, kind, q) = let same : w ≡ v = cc in let kinds : w.kind ≡ v.kind = ap (λ u. u.kind) same in absurd cc
array_part N v a (Array f x ps) k (w, b, ws, e, from, kind, p, q) =
    let same : w ≡ v = cc in let none : ws ≡ [] = cc in let kinds : w.kind ≡ v.kind = ap (λ u. u.kind) same in let one : b ≡ a = cc in
    (x, ap (λ g. Array g x ps) (sym from ∙ ap (λ u. u.from) same) ∙ ap (Array v.from x) (no_part N ps (subst (λ us. StandParts N us ps) none q)), subst (λ i. Stands N i x) one p)
array_part N v a (Params f ds ps) k (w, is, ws, e, from, kind, p, q) = let same : w ≡ v = cc in let kinds : w.kind ≡ v.kind = ap (λ u. u.kind) same in absurd cc

pub function_part : (N : Nodes) (v : Part) (is : List DeclId) (ps : Parts) → v.kind ≡ parts.Params is → StandParts N (v ∷ []) ps → (ds : Decls) × (ps ≡ Params v.from ds NoParts) × StandDecls N is ds
function_part N v is NoParts k e = absurd cc
function_part N v is (Pointer f ps) k (w, ws, e, from, kind, q) = let same : w ≡ v = cc in let kinds : w.kind ≡ v.kind = ap (λ u. u.kind) same in absurd cc
function_part N v is (Array f x ps) k (w, b, ws, e, from, kind, p, q) = let same : w ≡ v = cc in let kinds : w.kind ≡ v.kind = ap (λ u. u.kind) same in absurd cc
function_part N v is (Params f ds ps) k (w, js, ws, e, from, kind, p, q) =
    let same : w ≡ v = cc in let none : ws ≡ [] = cc in let kinds : w.kind ≡ v.kind = ap (λ u. u.kind) same in let all : js ≡ is = cc in
    (ds, ap (λ g. Params g ds ps) (sym from ∙ ap (λ u. u.from) same) ∙ ap (Params v.from ds) (no_part N ps (subst (λ us. StandParts N us ps) none q)), subst (λ i. StandDecls N i ds) all p)

pub size_stands : (N : Nodes) (v : Part) (a : ExprId) → v.kind ≡ parts.Array a → AreParts N (v ∷ []) → IsExpr N a
size_stands N v a k (ps, s, f) = let p = array_part N v a ps k s in let g = subst FitsParts p.1 f in (p.0, p.2, g.0)

pub params_stand : (N : Nodes) (v : Part) (is : List DeclId) → v.kind ≡ parts.Params is → AreParts N (v ∷ []) → AreDecls N is
params_stand N v is k (ps, s, f) = let p = function_part N v is ps k s in let g = subst FitsParts p.1 f in (p.0, p.2, g.0)

-- ---- a pointer

pub pointer_made : (N : Nodes) (v : Part) (ps : Parts) (old mid new : State) (ty id : TypeId) → v.kind ≡ parts.Pointer → StandParts N (v ∷ []) ps →
    mid.table ≡ old.table → (notes_of mid) ≡ size_noted (is_small (extents old.env) (type_at old.table.types ty)) (notes_of old) →
    Names new.table.types id (PointerTo (type_at mid.table.types ty)) → (notes_of new) ≡ (notes_of mid) → Finds old new (IsType new.table) (declarator_type ps old.env (type_at old.table.types ty)) (Ok id)
pointer_made N v ps old mid new ty id k s same n h l =
    let t = type_at old.table.types ty in
    let names : Names new.table.types id (PointerTo t) = subst (λ (u : Table). Names new.table.types id (PointerTo (type_at u.types ty))) same h in
    passed (notes_of old) (notes_of new) (IsType new.table) _ _ (Ok id) (ap (λ qs. declarator_type qs old.env t) (pointer_part N v ps k s))
    (after_note (notes_of old) (notes_of mid) (notes_of new) (IsType new.table) (is_small (extents old.env) t) (Fine (PointerTo t)) (Ok id) n (names, l))

-- ---- an array

-- an array by its element and its size
pub array_is : (from : ℕ) (x : Expr) (E : Environment) (t : CType) → declarator_type (Array from x NoParts) E t ≡ (complete (extents E) from t >> (small (is_small (extents E) t) >> (expression x E >>= array_of from t)))
array_is from x E t = refl

pub element_stops : (old : State) (from : ℕ) (x : Expr) (t : CType) (u : Table) (e : TypeError) → Agrees IsNothing (complete (extents old.env) from t) (Err e) → Finds old old (IsType u) (declarator_type (Array from x NoParts) old.env t) (Err e)
element_stops old from x t u e h =
    stopped_before (notes_of old) (notes_of old) (notes_of old) IsNothing (IsType u) (complete (extents old.env) from t) (small (is_small (extents old.env) t) >> (expression x old.env >>= array_of from t)) e
    (noted_nothing (notes_of old) (notes_of old) IsNothing (complete (extents old.env) from t) (Err e) refl h)

module _ (old mid : State) (from : ℕ) (x : Expr) (t : CType) (whole : Agrees IsNothing (complete (extents old.env) from t) (Ok tt)) (same : mid.env ≡ old.env) (noted : (notes_of mid) ≡ size_noted (is_small (extents old.env) t) (notes_of old)) where
  -- what goes on after a complete element
  after_element : (new : State) (r : Result TypeId TypeError) → Finds mid new (IsType new.table) (expression x old.env >>= array_of from t) r → Finds old new (IsType new.table) (declarator_type (Array from x NoParts) old.env t) r
  after_element new r p =
      gone_on_after (notes_of old) (notes_of old) (notes_of new) IsNothing (IsType new.table) (complete (extents old.env) from t) (small (is_small (extents old.env) t) >> (expression x old.env >>= array_of from t)) tt r
      (noted_nothing (notes_of old) (notes_of old) IsNothing (complete (extents old.env) from t) (Ok tt) refl whole)
      (after_note (notes_of old) (notes_of mid) (notes_of new) (IsType new.table) (is_small (extents old.env) t) (expression x old.env >>= array_of from t) r noted p)

  pub size_stops : (new : State) (e : TypeError) → Finds mid new (StandsAt new.table) (expression x mid.env) (Err e) → Finds old new (IsType new.table) (declarator_type (Array from x NoParts) old.env t) (Err e)
  size_stops new e p =
      after_element new (Err e) (stopped_in (notes_of mid) (notes_of new) (notes_of new) (StandsAt new.table) (IsType new.table) (expression x old.env) (array_of from t) e
      (passed (notes_of mid) (notes_of new) (StandsAt new.table) _ _ (Err e) (ap (expression x) (sym same)) p))

  pub array_made : (sized new : State) (element : TypeId) (size : NodeId) (r : Result TypeId TypeError) → Finds mid sized (StandsAt sized.table) (expression x mid.env) (Ok size) → type_at sized.table.types element ≡ t →
      Finds sized new (IsType new.table) (array_of from (type_at sized.table.types element) (node_at sized.table size)) r → Finds old new (IsType new.table) (declarator_type (Array from x NoParts) old.env t) r
  array_made sized new element size r p type q =
      after_element new r
      (gone_on (notes_of mid) (notes_of sized) (notes_of new) (StandsAt sized.table) (IsType new.table) (expression x old.env) (array_of from t) size r
      (passed (notes_of mid) (notes_of sized) (StandsAt sized.table) _ _ (Ok size) (ap (expression x) (sym same)) p) (λ y at.
      passed (notes_of sized) (notes_of new) (IsType new.table) _ _ r (ap (λ c. array_of from c y) (sym type) ∙ ap (array_of from (type_at sized.table.types element)) (sym (node_is sized.table size y at))) q))

-- ---- a function

-- the numbers of types stand for these
pub types_are : (t : Table) (cs : CTypes) (ids : List TypeId) → AreTypes t cs ids → all_at (types_of t.types) ids ≡ cs
types_are t NoTypes [] h = refl
types_are t NoTypes (id ∷ ids) h = absurd h
types_are t (MoreTypes c cs) [] h = absurd h
types_are t (MoreTypes c cs) (id ∷ ids) h = ap (λ d. MoreTypes d (all_at (types_of t.types) ids)) h.0.is ∙ ap (MoreTypes c) (types_are t cs ids h.1)

types_below : (t : Table) (cs : CTypes) (ids : List TypeId) → AreTypes t cs ids → All (IsBelow (length t.types)) ids
types_below t NoTypes [] h = All-nil (IsBelow (length t.types))
types_below t NoTypes (id ∷ ids) h = absurd h
types_below t (MoreTypes c cs) [] h = absurd h
types_below t (MoreTypes c cs) (id ∷ ids) h = All-cons (IsBelow (length t.types)) id ids h.0.inside (types_below t cs ids h.1)

-- types that are found are in the table
pub found_below : (f g : Notes) (t : Table) (c : Checked CTypes) (ids : List TypeId) → Found f g (AreTypes t) c (Ok ids) → All (IsBelow (length t.types)) ids
found_below f g t c ids h = let p = there f g (AreTypes t) c ids h in types_below t p.0 ids p.1

-- a function by what it gives and takes
pub function_is : (from : ℕ) (ds : Decls) (E : Environment) (t : CType) → declarator_type (Params from ds NoParts) E t ≡ (keep from 3 (is_result t) >> (parameter_types ds (inner E) 0 >>= (λ ts. Fine (FunctionOf t ts))))
function_is from ds E t = refl

pub no_result : (old : State) (from : ℕ) (ds : Decls) (t : CType) (u : Table) → is_result t ≡ false → Finds old old (IsType u) (declarator_type (Params from ds NoParts) old.env t) (Err (Rule from 3))
no_result old from ds t u h = not_kept (notes_of old) (notes_of old) (IsType u) from 3 (is_result t) (parameter_types ds (inner old.env) 0 >>= (λ ts. Fine (FunctionOf t ts))) h

pub params_stop : (old new : State) (from : ℕ) (ds : Decls) (t : CType) (e : TypeError) → is_result t ≡ true → Finds old new (AreTypes new.table) (parameter_types ds (inner old.env) 0) (Err e) →
    Finds old new (IsType new.table) (declarator_type (Params from ds NoParts) old.env t) (Err e)
params_stop old new from ds t e h p =
    kept (notes_of old) (notes_of new) (IsType new.table) from 3 (is_result t) (parameter_types ds (inner old.env) 0 >>= (λ ts. Fine (FunctionOf t ts))) (Err e) h
    (stopped_in (notes_of old) (notes_of new) (notes_of new) (AreTypes new.table) (IsType new.table) (parameter_types ds (inner old.env) 0) (λ ts. Fine (FunctionOf t ts)) e p)

pub function_made : (old mid new : State) (from : ℕ) (ds : Decls) (ty : TypeId) (ids : List TypeId) (id : TypeId) → ty.0 < length old.table.types → is_result (type_at old.table.types ty) ≡ true →
    Finds old mid (AreTypes mid.table) (parameter_types ds (inner old.env) 0) (Ok ids) → Stays old mid →
    Names new.table.types id (FunctionOf (type_at mid.table.types ty) (all_at (types_of mid.table.types) ids)) → (notes_of new) ≡ (notes_of mid) →
    Finds old new (IsType new.table) (declarator_type (Params from ds NoParts) old.env (type_at old.table.types ty)) (Ok id)
function_made old mid new from ds ty ids id inside h p s q l =
    let t = type_at old.table.types ty in
    kept (notes_of old) (notes_of new) (IsType new.table) from 3 (is_result t) (parameter_types ds (inner old.env) 0 >>= (λ ts. Fine (FunctionOf t ts))) (Ok id) h
    (gone_on (notes_of old) (notes_of mid) (notes_of new) (AreTypes mid.table) (IsType new.table) (parameter_types ds (inner old.env) 0) (λ ts. Fine (FunctionOf t ts)) ids (Ok id) p (λ ts at.
    let same : FunctionOf (type_at mid.table.types ty) (all_at (types_of mid.table.types) ids) ≡ FunctionOf t ts =
    ap (λ c. FunctionOf c (all_at (types_of mid.table.types) ids)) (type_stays old.table mid.table ty s.numbers inside) ∙ ap (FunctionOf t) (types_are mid.table ts ids at) in
    (record { inside = q.inside; is = q.is ∙ same }, l)))

-- ---- several parts, from the type that the words of a declaration make

pub declared_from : (old mid new : State) (ps : Parts) (c : CType) (base : TypeId) (r : Result TypeId TypeError) → Names mid.table.types base c → KeepsAll old mid →
    Finds mid new (IsType new.table) (declarator_type ps mid.env (type_at mid.table.types base)) r → Finds old new (IsType new.table) (declarator_type ps old.env c) r
declared_from old mid new ps c base r h k p =
    since (notes_of mid) (notes_of old) (notes_of new) (IsType new.table) (declarator_type ps old.env c) r k.notes
    (passed (notes_of mid) (notes_of new) (IsType new.table) _ _ r (ap (λ F. declarator_type ps F c) (sym k.env) ∙ ap (declarator_type ps mid.env) (sym h.is)) p)

-- ---- a whole declaration

module _ (old mid end : State) (ps : Parts) (c : CType) (base : TypeId) (names : Names mid.table.types base c) (one : KeepsAll old mid) where
  pub declared_stops : (e : TypeError) → Finds mid end (IsType end.table) (declarator_type ps mid.env (type_at mid.table.types base)) (Err e) → Finds old end (IsType end.table) (whole_type ps old.env c) (Err e)
  declared_stops e p =
      stopped_in (notes_of old) (notes_of end) (notes_of end) (IsType end.table) (IsType end.table) (declarator_type ps old.env c) (λ t. small (is_small (extents old.env) t) >> Fine t) e
      (declared_from old mid end ps c base (Err e) names one p)

  pub declared_made : (new : State) (ty : TypeId) → Finds mid end (IsType end.table) (declarator_type ps mid.env (type_at mid.table.types base)) (Ok ty) → end.env ≡ mid.env → new.table ≡ end.table →
      (notes_of new) ≡ size_noted (is_small (extents end.env) (type_at end.table.types ty)) (notes_of end) → Finds old new (IsType new.table) (whole_type ps old.env c) (Ok ty)
  declared_made new ty p same table noted =
      gone_on (notes_of old) (notes_of end) (notes_of new) (IsType end.table) (IsType new.table) (declarator_type ps old.env c) (λ t. small (is_small (extents old.env) t) >> Fine t) ty (Ok ty)
      (declared_from old mid end ps c base (Ok ty) names one p) (λ t at.
      let noted_so : (notes_of new) ≡ size_noted (is_small (extents old.env) t) (notes_of end) =
      noted ∙ (ap (λ E. size_noted (is_small (extents E) (type_at end.table.types ty)) (notes_of end)) (same ∙ one.env) ∙ ap (λ u. size_noted (is_small (extents old.env) u) (notes_of end)) at.is) in
      let there : Names new.table.types ty t = subst (λ (u : Table). Names u.types ty t) (sym table) at in
      after_note (notes_of end) (notes_of new) (notes_of new) (IsType new.table) (is_small (extents old.env) t) (Fine t) (Ok ty) noted_so (there, refl))
