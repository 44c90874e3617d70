-- What numbers stand for after more was put into the table.
use Rattle.std.proofs.Common.{◌≡◌, ◌<◌, ℕ, length, drop, List, [], ◌∷◌, Some, Result, Ok, Err, OnErr, refl, sym, ap, ◌∙◌, arith, subst}
use Rattle.c_scopes.specs.Scopes.{Scope, declared}
use Rattle.c_types_rules.specs.Checked.{Checked, Fine, Noted, Broken}
use Rattle.c_types_rules.specs.Environment.{Meaning, with_name}
use Rattle.c_types_operators.specs.declared.error.TypeError.{TypeError}
use Rattle.c_types_model.specs.Types.{CTypes, NoTypes, MoreTypes}
use Rattle.c_types_table.specs.declared.ids.TypeId.{TypeId}
use Rattle.c_types_table.specs.Tables.{type_at}
use Rattle.c_types_rules.specs.TypedTree.{Typed, Value, Values, AValue, NoValues, MoreValues}
use Rattle.c_types_nodes.specs.declared.ids.NodeId.{NodeId}
use Rattle.c_types_nodes.specs.Parts.{typed_in, value_in}
use Rattle.c_types_nodes.specs.Tables.{Table, Keeps, IsNode, IsValueAt, typed_at, node_at, value_at}
use Rattle.c_types_operators.specs.Answers.{Agrees, IsAt}
use Rattle.c_types_environment.specs.States.{State, KeepsAll}
use Rattle.c_types_expressions.specs.Found.{Stays, StaysAround, AreTypes, AreValues}

pub same_table : (t : Table) → Keeps t t
same_table t = record { types = record { more = omega arith; names = λ id c h. h }; nodes = λ id x h. h }

pub then_kept : (a b c : Table) → Keeps a b → Keeps b c → Keeps a c
then_kept a b c p q = record {
  types = record { more = omega (arith, p.types.more, q.types.more); names = λ id t h. q.types.names id t (p.types.names id t h) };
  nodes = λ id x h. q.nodes id x (p.nodes id x h);
}

-- ---- states

pub stay : (a : State) → Stays a a
stay a = record { numbers = same_table a.table; env = refl }

pub then_stay : (a b c : State) → Stays a b → Stays b c → Stays a c
then_stay a b c p q = record { numbers = then_kept _ _ _ p.numbers q.numbers; env = q.env ∙ p.env }

pub all_stay : (a b : State) → KeepsAll a b → Stays a b
all_stay a b k = record { numbers = k.numbers; env = k.env }

pub then_all : (a b c : State) → KeepsAll a b → KeepsAll b c → KeepsAll a c
then_all a b c p q = record { numbers = then_kept _ _ _ p.numbers q.numbers; env = q.env ∙ p.env; notes = q.notes ∙ p.notes }

pub stay_around : (a b : State) → Stays a b → StaysAround a b
stay_around a b s = record { numbers = s.numbers; tags = ap (λ e. e.tags) s.env; structs = ap (λ e. e.structs) s.env; depth = ap (λ e. length e.scopes) s.env; outer = ap (λ e. drop 1 e.scopes) s.env }

-- where a size may have been noted
pub sized_stays : (a b : State) → b.table ≡ a.table → b.env ≡ a.env → Stays a b
sized_stays a b e f = record { numbers = subst (Keeps a.table) (sym e) (same_table a.table); env = f }

pub then_stay_around : (a b c : State) → StaysAround a b → StaysAround b c → StaysAround a c
then_stay_around a b c p q = record { numbers = then_kept _ _ _ p.numbers q.numbers; tags = q.tags ∙ p.tags; structs = q.structs ∙ p.structs; depth = q.depth ∙ p.depth; outer = q.outer ∙ p.outer }

-- a name more in the innermost scope
one_more : (a : State) (name : List ℕ) (m : Meaning) (scopes : List (Scope Meaning)) → a.env.scopes ≡ scopes → StaysAround a (record a { env = with_name a.env name m })
one_more a name m [] e = record { numbers = same_table a.table; tags = refl; structs = refl; depth = ap (λ s. length (declared name m s)) e ∙ sym (ap length e); outer = ap (λ s. drop 1 (declared name m s)) e ∙ sym (ap (drop 1) e) }
one_more a name m (s ∷ ss) e = record { numbers = same_table a.table; tags = refl; structs = refl; depth = ap (λ s. length (declared name m s)) e ∙ sym (ap length e); outer = ap (λ s. drop 1 (declared name m s)) e ∙ sym (ap (drop 1) e) }

pub declared_around : (a b : State) (name : List ℕ) (m : Meaning) (c : Checked (Unit {0})) (r : Result (Unit {0}) TypeError) → Agrees (λ x y. b ≡ record a { env = with_name a.env name m }) c r → OnErr r (b ≡ a) → StaysAround a b
declared_around a b name m c (Err e) h k = subst (StaysAround a) (sym k) (stay_around a a (stay a))
declared_around a b name m (Fine x) (Ok y) h k = subst (StaysAround a) (sym h) (one_more a name m a.env.scopes refl)
declared_around a b name m (Noted n x) (Ok y) h k = absurd h
declared_around a b name m (Broken from rule) (Ok y) h k = absurd h

-- ---- nodes

-- what a node is
pub node_is : (t : Table) (id : NodeId) (x : Typed) → typed_at t id ≡ Some x → node_at t id ≡ x
node_is t id x h = ap typed_in h

pub is_node : (t : Table) (id : NodeId) (x : Typed) → typed_at t id ≡ Some x → IsNode t id
is_node t id x h = h ∙ ap Some (sym (node_is t id x h))

pub value_is : (t : Table) (id : NodeId) (v : Value) → IsAt t v id → value_at t id ≡ v
value_is t id v h = ap value_in h

pub value_stays_is : (a b : Table) (id : NodeId) (v : Value) → Keeps a b → IsAt a v id → value_at b id ≡ v
value_stays_is a b id v k h = value_is b id v (k.nodes id (AValue v) h)

pub is_value : (t : Table) (id : NodeId) (v : Value) → IsAt t v id → IsValueAt t id
is_value t id v h = h ∙ ap (λ w. Some (AValue w)) (sym (value_is t id v h))

pub node_stays : (a b : Table) (id : NodeId) → Keeps a b → IsNode a id → node_at b id ≡ node_at a id
node_stays a b id k h = node_is b id (node_at a id) (k.nodes id (node_at a id) h)

pub stays_node : (a b : Table) (id : NodeId) → Keeps a b → IsNode a id → IsNode b id
stays_node a b id k h = is_node b id (node_at a id) (k.nodes id (node_at a id) h)

-- ---- types

pub type_stays : (a b : Table) (id : TypeId) → Keeps a b → id.0 < length a.types → type_at b.types id ≡ type_at a.types id
type_stays a b id k h = (k.types.names id (type_at a.types id) (record { inside = h; is = refl })).is

pub type_inside : (a b : Table) (id : TypeId) → Keeps a b → id.0 < length a.types → id.0 < length b.types
type_inside a b id k h = (k.types.names id (type_at a.types id) (record { inside = h; is = refl })).inside

-- ---- several of them

pub types_stay : (a b : Table) (cs : CTypes) (ids : List TypeId) → Keeps a b → AreTypes a cs ids → AreTypes b cs ids
types_stay a b NoTypes [] k h = tt
types_stay a b NoTypes (id ∷ ids) k h = absurd h
types_stay a b (MoreTypes c cs) [] k h = absurd h
types_stay a b (MoreTypes c cs) (id ∷ ids) k h = (k.types.names id c h.0, types_stay a b cs ids k h.1)

pub values_stay : (a b : Table) (vs : Values) (ids : List NodeId) → Keeps a b → AreValues a vs ids → AreValues b vs ids
values_stay a b NoValues [] k h = tt
values_stay a b NoValues (id ∷ ids) k h = absurd h
values_stay a b (MoreValues v vs) [] k h = absurd h
values_stay a b (MoreValues v vs) (id ∷ ids) k h = (k.nodes id (AValue v) h.0, values_stay a b vs ids k h.1)
