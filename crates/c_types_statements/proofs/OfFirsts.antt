-- The first part of a `for`.
use Rattle.std.proofs.Common.{◌≡◌, List, [], ◌∷◌, ◌++◌, length, Ok, Err, refl, sym, ap, ◌∙◌, subst}
use Rattle.std.specs.Prelude.{Vec}
use Rattle.std.specs.declared.alloc.Global.{Global}
use Rattle.std.specs.List.{All}
use Rattle.c_syntax.specs.declared.id.DeclId.{DeclId}
use Rattle.c_syntax.specs.declared.id.ExprId.{ExprId}
use Rattle.c_syntax.specs.declared.statement.First.{First as Begin}
use Rattle.c_syntax.specs.declared.statement.First.TheVariants as firsts
use Rattle.c_syntax.specs.Nodes.{Nodes}
use Rattle.c_syntax.specs.Syntax.{Decls, Expr, First, NoFirst, LocalFirst, ExprFirst}
use Rattle.c_syntax.specs.Stands.{Stands, StandDecls, StandsFirst}
use Rattle.c_types_table.specs.declared.ids.TypeId.{TypeId}
use Rattle.c_types_table.specs.Tables.{IsBelow}
use Rattle.c_types_rules.specs.Checked.{Checked, Fine, Noted, Broken}
use Rattle.c_types_rules.specs.TypedTree as typed
use Rattle.c_types_rules.specs.TypedTree.{MoreStatements, NoStatements, Statements}
use Rattle.c_types_rules.specs.Statements.{Declared, Surroundings, first, locals_of, value_in}
use Rattle.c_types_nodes.specs.declared.ids.NodeId.{NodeId}
use Rattle.c_types_program.specs.declared.statement.Statement.{Statement}
use Rattle.c_types_program.specs.declared.statement.Statement.TheVariants.{Evaluate}
use Rattle.c_types_operators.specs.declared.error.TypeError.{TypeError}
use Rattle.c_types_operators.specs.declared.error.TypeError.TheVariants.{Rule, Memory}
use Rattle.c_types_operators.specs.Answers.{IsAt}
use Rattle.c_types_environment.specs.States.{notes_of, State}
use Rattle.c_types_expressions.specs.Found.{Finds, Stays}
use Rattle.c_types_expressions.proofs.Sequences.{gone_on, stopped_in}
use Rattle.c_types_statements.specs.Typed.{AddsDeclared, AreDeclaring, StatementsStand, declared_in}
use Rattle.c_types_statements.proofs.Added.{none_stand, one_stands}
use Rattle.c_types_statements.proofs.Kept.{declared_kept}
use Rattle.c_types_statements.proofs.OfMade.{evaluate_stands}

-- statements that were put after none
added_first : (a b : State) (found : List TypeId) (old new : List Statement) (v : Vec Statement Global) (c : Checked (Declared × Statements)) → old ≡ [] → v.items ≡ new → Finds a b (AddsDeclared b found old new) c (Ok tt) → Finds a b (AreDeclaring b found) c (Ok v)
added_first a b found old new v (Fine x) e f h = let P : List Statement → Type 0 = λ z. StatementsStand b.table x.1 z in ((h.0.0, subst P (sym (f ∙ (h.0.1.1 ∙ ap (λ z. z ++ h.0.1.0) e))) h.0.1.2), h.1)
added_first a b found old new v (Noted n x) e f h = let P : List Statement → Type 0 = λ z. StatementsStand b.table x.1 z in ((h.0.0, subst P (sym (f ∙ (h.0.1.1 ∙ ap (λ z. z ++ h.0.1.0) e))) h.0.1.2), h.1)
added_first a b found old new v (Broken from rule) e f h = absurd h

adding_broken : (a b : State) (found : List TypeId) (old new : List Statement) (c : Checked (Declared × Statements)) (e : TypeError) → Finds a b (AddsDeclared b found old new) c (Err e) → Finds a b (AreDeclaring b found) c (Err e)
adding_broken a b found old new c Memory h = tt
adding_broken a b found old new (Fine x) (Rule f q) h = absurd h
adding_broken a b found old new (Noted n x) (Rule f q) h = absurd h
adding_broken a b found old new (Broken from rule) (Rule f q) h = h

module _ (N : Nodes) (v : Begin) (a b : State) (locals found : List TypeId) (f : First) (p : Surroundings) (h : StandsFirst N v f) where
  -- ---- nothing

  no_first : (g : First) → v ≡ firsts.None → StandsFirst N v g → g ≡ NoFirst
  no_first NoFirst e k = refl
  no_first (LocalFirst ds) e (is, q, k) = absurd cc
  no_first (ExprFirst x) e (i, q, k) = absurd cc

  pub nothing_first : (w : Vec Statement Global) → v ≡ firsts.None → w.items ≡ [] → Finds a a (AreDeclaring a locals) (first f p (declared_in a locals)) (Ok w)
  nothing_first w e none =
      let P : First → Type 0 = λ z. Finds a a (AreDeclaring a locals) (first z p (declared_in a locals)) (Ok w) in
      let Q : List Statement → Type 0 = λ z. StatementsStand a.table NoStatements z in
      subst P (sym (no_first f e h)) ((refl, subst Q (sym none) (none_stand a.table)), refl)

  -- ---- locals

  locals_first : (is : List DeclId) (g : First) → v ≡ firsts.Local is → StandsFirst N v g → (ds : Decls) × (g ≡ LocalFirst ds) × StandDecls N is ds
  locals_first is NoFirst e k = absurd cc
  locals_first is (LocalFirst ds) e (js, q, k) = let same : js ≡ is = cc in let P : List DeclId → Type 0 = λ z. StandDecls N z ds in (ds, refl, subst P same k)
  locals_first is (ExprFirst x) e (i, q, k) = absurd cc

  module _ (is : List DeclId) (e : v ≡ firsts.Local is) (old new : List Statement) where
    pub locals_first_found : (w : Vec Statement Global) → old ≡ [] → w.items ≡ new → ((ds : Decls) → StandDecls N is ds → Finds a b (AddsDeclared b found old new) (locals_of ds (declared_in a locals)) (Ok tt))
        → Finds a b (AreDeclaring b found) (first f p (declared_in a locals)) (Ok w)
    locals_first_found w none put k =
        let q = locals_first is f e h in
        let P : First → Type 0 = λ z. Finds a b (AreDeclaring b found) (first z p (declared_in a locals)) (Ok w) in
        subst P (sym q.1) (added_first a b found old new w (locals_of q.0 (declared_in a locals)) none put (k q.0 q.2))

    pub locals_first_broken : (wrong : TypeError) → ((ds : Decls) → StandDecls N is ds → Finds a b (AddsDeclared b found old new) (locals_of ds (declared_in a locals)) (Err wrong))
        → Finds a b (AreDeclaring b found) (first f p (declared_in a locals)) (Err wrong)
    locals_first_broken wrong k =
        let q = locals_first is f e h in
        let P : First → Type 0 = λ z. Finds a b (AreDeclaring b found) (first z p (declared_in a locals)) (Err wrong) in
        subst P (sym q.1) (adding_broken a b found old new (locals_of q.0 (declared_in a locals)) wrong (k q.0 q.2))

  -- ---- a value

  value_first : (i : ExprId) (g : First) → v ≡ firsts.Expr i → StandsFirst N v g → (x : Expr) × (g ≡ ExprFirst x) × Stands N i x
  value_first i NoFirst e k = absurd cc
  value_first i (LocalFirst ds) e (is, q, k) = absurd cc
  value_first i (ExprFirst x) e (j, q, k) = let same : j ≡ i = cc in let P : ExprId → Type 0 = λ z. Stands N z x in (x, refl, subst P same k)

  module _ (i : ExprId) (e : v ≡ firsts.Expr i) where
    pub value_first_found : (id : NodeId) (w : Vec Statement Global) → ((x : Expr) → Stands N i x → Finds a b (IsAt b.table) (value_in a.env x) (Ok id)) → Stays a b → All (IsBelow (length a.table.types)) locals → w.items ≡ Evaluate id ∷ []
        → Finds a b (AreDeclaring b locals) (first f p (declared_in a locals)) (Ok w)
    value_first_found id w k one below put =
        let q = value_first i f e h in
        let P : First → Type 0 = λ z. Finds a b (AreDeclaring b locals) (first z p (declared_in a locals)) (Ok w) in
        subst P (sym q.1)
        (gone_on (notes_of a) (notes_of b) (notes_of b) (IsAt b.table) (AreDeclaring b locals) (value_in a.env q.0) (λ u. Fine (declared_in a locals, MoreStatements (typed.Evaluate u) NoStatements)) id (Ok w) (k q.0 q.2) (λ u at.
        let Q : List Statement → Type 0 = λ z. StatementsStand b.table (MoreStatements (typed.Evaluate u) NoStatements) z in
        ((declared_kept a b locals one below, subst Q (sym put) (one_stands b.table (typed.Evaluate u) (Evaluate id) (evaluate_stands b.table id u at))), refl)))

    pub value_first_broken : (wrong : TypeError) → ((x : Expr) → Stands N i x → Finds a b (IsAt b.table) (value_in a.env x) (Err wrong)) → Finds a b (AreDeclaring b locals) (first f p (declared_in a locals)) (Err wrong)
    value_first_broken wrong k =
        let q = value_first i f e h in
        let P : First → Type 0 = λ z. Finds a b (AreDeclaring b locals) (first z p (declared_in a locals)) (Err wrong) in
        subst P (sym q.1)
        (stopped_in (notes_of a) (notes_of b) (notes_of b) (IsAt b.table) (AreDeclaring b locals) (value_in a.env q.0) (λ u. Fine (declared_in a locals, MoreStatements (typed.Evaluate u) NoStatements)) wrong (k q.0 q.2))
