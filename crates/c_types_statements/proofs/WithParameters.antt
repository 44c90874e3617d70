-- What functions do, with what stands unevaluated in their parameters.
use Rattle.std.proofs.Common.{◌≡◌, List, [], Result, Ok, Err, refl, sym, ap, ◌∙◌, subst}
use Rattle.c_syntax.specs.Syntax.{Decls, Parts, Stmt}
use Rattle.c_types_model.specs.Types.{CType, CTypes}
use Rattle.c_types_table.specs.declared.ids.TypeId.{TypeId}
use Rattle.c_types_table.specs.Tables.{type_at}
use Rattle.c_types_rules.specs.Checked.{Checked, Fine, heard, ◌>>=◌}
use Rattle.c_types_rules.specs.Environment.{inner}
use Rattle.c_types_rules.specs.Expressions.{parameter_types}
use Rattle.c_types_rules.specs.TypedTree as typed
use Rattle.c_types_rules.specs.Sources.{block_body, body_of, nearest}
use Rattle.c_types_nodes.specs.declared.ids.NodeId.{NodeId}
use Rattle.c_types_nodes.specs.Tables.{Keeps, Table}
use Rattle.c_types_nodes.specs.Lists.{AreNodes, nodes_at}
use Rattle.c_types_nodes.proofs.Lists.{are_nodes_kept, nodes_kept}
use Rattle.c_types_operators.specs.declared.error.TypeError.{TypeError}
use Rattle.c_types_program.specs.declared.function.Body.{Body}
use Rattle.c_types_program.specs.Declarations.{body_in}
use Rattle.c_types_environment.specs.States.{State, notes_of}
use Rattle.c_types_expressions.specs.Found.{AreTypes, Finds, IsPart, Stays}
use Rattle.c_types_expressions.proofs.Sequences.{gone_on, passed, stopped_in}
use Rattle.c_types_expressions.proofs.Unevaluated.{aside_stays, part_broken, part_heard, seen_as}
use Rattle.c_types_statements.specs.Typed.{BodyStands}

-- the nodes stand for what was heard
abbrev pub AreHeard : Table → CTypes × List typed.Typed → List NodeId → Type 0
AreHeard t x y = nodes_at t y ≡ x.1

-- ---- parameters

module _ (a o b : State) (set : o ≡ record a { unevaluated = [] }) (ds : Decls) where
  params_here : {B : Type 0} (goes : CTypes → B → Type 0) (r : Result B TypeError) → Finds o b goes (parameter_types ds (inner o.env) 0) r → Finds o b goes (parameter_types ds (inner a.env) 0) r
  params_here goes r h = let P : State → Type 0 = λ z. Finds o b goes (parameter_types ds (inner z.env) 0) r in subst P set h

  pub params_broken : (e : TypeError) → Finds o b (AreTypes b.table) (parameter_types ds (inner o.env) 0) (Err e) → Finds a b (AreHeard b.table) (heard (parameter_types ds (inner a.env) 0)) (Err e)
  params_broken e h = part_broken (notes_of o) (notes_of b) (notes_of a) (notes_of b) (AreTypes b.table) (AreHeard b.table) (parameter_types ds (inner a.env) 0) e (params_here (AreTypes b.table) (Err e) h)

  pub params_heard : (c : State) (ids : List TypeId) (found : List NodeId) → c ≡ record b { unevaluated = a.unevaluated } → found ≡ b.unevaluated → AreNodes a.table a.unevaluated → Stays o b
      → Finds o b (AreTypes b.table) (parameter_types ds (inner o.env) 0) (Ok ids) → Finds a c (AreHeard c.table) (heard (parameter_types ds (inner a.env) 0)) (Ok found)
  params_heard c ids found back same all k h =
      let x = parameter_types ds (inner a.env) 0 in
      seen_as (notes_of a) (notes_of c) (IsPart b (AreTypes b.table)) (AreHeard c.table) (heard x) (ids, b.unevaluated) found (λ u w. ap (λ z. nodes_at z found) (ap (λ z. z.table) back) ∙ (ap (nodes_at b.table) same ∙ w.1))
      (part_heard a o b c set back all (aside_stays a o b set k).numbers (AreTypes b.table) x ids (params_here (AreTypes b.table) (Ok ids) h))

-- ---- a body

module _ (a b d : State) (ty : TypeId) (ps : Parts) (s : Stmt) where
  abbrev t : CType
  t = type_at a.table.types ty

  abbrev with_first : List typed.Typed → typed.Body → typed.Body
  with_first us y = record y { in_params = us }

  abbrev after : CTypes × List typed.Typed → Checked typed.Body
  after us = block_body a.env t ps s >>= (λ y. Fine (with_first us.1 y))

  abbrev first : Checked (CTypes × List typed.Typed)
  first = heard (parameter_types (nearest ps) (inner a.env) 0)

  pub first_broken : (e : TypeError) → Finds a b (AreHeard b.table) first (Err e) → Finds a b (BodyStands b.table) (body_of a.env t ps s) (Err e)
  first_broken e h = stopped_in (notes_of a) (notes_of b) (notes_of b) (AreHeard b.table) (BodyStands b.table) first after e h

  module _ (ids : List NodeId) (heard_so : Finds a b (AreHeard b.table) first (Ok ids)) (one : Stays a b) (type : type_at b.table.types ty ≡ t) where
    block_here : (r : Result Body TypeError) → Finds b d (BodyStands d.table) (block_body b.env (type_at b.table.types ty) ps s) r → Finds b d (BodyStands d.table) (block_body a.env t ps s) r
    block_here r h =
        passed (notes_of b) (notes_of d) (BodyStands d.table) _ _ r (ap (λ v. block_body v t ps s) (sym one.env) ∙ ap (λ v. block_body b.env v ps s) (sym type)) h

    pub block_stops : (e : TypeError) → Finds b d (BodyStands d.table) (block_body b.env (type_at b.table.types ty) ps s) (Err e) → Finds a d (BodyStands d.table) (body_of a.env t ps s) (Err e)
    block_stops e h =
        gone_on (notes_of a) (notes_of b) (notes_of d) (AreHeard b.table) (BodyStands d.table) first after ids (Err e) heard_so (λ us at.
        stopped_in (notes_of b) (notes_of d) (notes_of d) (BodyStands d.table) (BodyStands d.table) (block_body a.env t ps s) (λ y. Fine (with_first us.1 y)) e (block_here (Err e) h))

    joined_stands : (us : List typed.Typed) (y : typed.Body) (body : Body) → AreNodes b.table ids → Keeps b.table d.table → nodes_at b.table ids ≡ us → BodyStands d.table y body → BodyStands d.table (with_first us y) (record body { in_params = ids })
    joined_stands us y body all k at h = record {
      inside = (h.inside.0, h.inside.1, are_nodes_kept b.table d.table k ids all, h.inside.3);
      is =
          ap (λ xs. record (body_in d.table body) { in_params = xs }) (nodes_kept b.table d.table k ids all ∙ at)
          ∙ ap (with_first us) h.is;
    }

    pub body_made : (body made : Body) → AreNodes b.table ids → Keeps b.table d.table → made ≡ record body { in_params = ids } → Finds b d (BodyStands d.table) (block_body b.env (type_at b.table.types ty) ps s) (Ok body)
        → Finds a d (BodyStands d.table) (body_of a.env t ps s) (Ok made)
    body_made body made all k same h =
        gone_on (notes_of a) (notes_of b) (notes_of d) (AreHeard b.table) (BodyStands d.table) first after ids (Ok made) heard_so (λ us at.
        gone_on (notes_of b) (notes_of d) (notes_of d) (BodyStands d.table) (BodyStands d.table) (block_body a.env t ps s) (λ y. Fine (with_first us.1 y)) body (Ok made) (block_here (Ok body) h) (λ y stands.
        (subst (BodyStands d.table (with_first us.1 y)) (sym same) (joined_stands us.1 y body all k at stands), refl)))
