-- Statements that are put after others.
use Rattle.std.proofs.Common.{◌≡◌, List, [], ◌∷◌, ◌++◌, refl, sym, ap, ◌∙◌, append_assoc}
use Rattle.std.proofs.lemmas.List.{append-nil}
use Rattle.c_types_rules.specs.TypedTree as typed
use Rattle.c_types_rules.specs.TypedTree.{Statements, NoStatements, MoreStatements, joined}
use Rattle.c_types_nodes.specs.Tables.{Table, Keeps}
use Rattle.c_types_program.specs.declared.statement.Statement.{Statement}
use Rattle.c_types_program.specs.Statements.{AllStatements, statement_in, statements_in}
use Rattle.c_types_statements.specs.Typed.{AreAdded, StatementStands, StatementsStand}
use Rattle.c_types_statements.proofs.Kept.{statements_stand_kept}

all_joined : (t : Table) (a b : List Statement) → AllStatements t a → AllStatements t b → AllStatements t (a ++ b)
all_joined t [] b h k = k
all_joined t (s ∷ a) b h k = (h.0, all_joined t a b h.1 k)

meanings_joined : (t : Table) (a b : List Statement) → statements_in t (a ++ b) ≡ joined (statements_in t a) (statements_in t b)
meanings_joined t [] b = refl
meanings_joined t (s ∷ a) b = ap (MoreStatements (statement_in t s)) (meanings_joined t a b)

pub stand_joined : (t : Table) (xs ys : Statements) (a b : List Statement) → StatementsStand t xs a → StatementsStand t ys b → StatementsStand t (joined xs ys) (a ++ b)
stand_joined t xs ys a b h k = record {
  inside = all_joined t a b h.inside k.inside;
  is = meanings_joined t a b ∙ (ap (λ x. joined x (statements_in t b)) h.is ∙ ap (joined xs) k.is);
}

pub none_stand : (t : Table) → StatementsStand t NoStatements []
none_stand t = record { inside = tt; is = refl }

pub one_stands : (t : Table) (x : typed.Statement) (s : Statement) → StatementStands t x s → StatementsStand t (MoreStatements x NoStatements) (s ∷ [])
one_stands t x s h = record { inside = (h.inside, tt); is = ap (λ y. MoreStatements y NoStatements) h.is }

pub none_added : (t : Table) (old : List Statement) → AreAdded t NoStatements old old
none_added t old = ([], sym (append-nil old), none_stand t)

-- more statements, while the table grows
pub added_on : (t u : Table) (xs ys : Statements) (old now more new : List Statement) → Keeps t u → AreAdded t xs old now → StatementsStand u ys more → new ≡ now ++ more → AreAdded u (joined xs ys) old new
added_on t u xs ys old now more new k h j e =
    (h.0 ++ more, e ∙ (ap (λ z. z ++ more) h.1 ∙ append_assoc old h.0 more), stand_joined u xs ys h.0 more (statements_stand_kept t u xs h.0 k h.2) j)
