-- How the answer on an expression comes from those on its parts.
use Rattle.std.proofs.Common.{◌≡◌, Bool, Result, Ok, Err, refl, sym, ap, ◌∙◌}
use Rattle.c_types_model.specs.Types.{CType}
use Rattle.c_types_table.specs.declared.ids.TypeId.{TypeId}
use Rattle.c_types_table.specs.Tables.{type_at}
use Rattle.c_types_rules.specs.Checked.{Checked, Fine, ◌>>=◌, Notes}
use Rattle.c_types_rules.specs.Environment.{Environment}
use Rattle.c_types_rules.specs.TypedTree.{Typed}
use Rattle.c_types_nodes.specs.declared.ids.NodeId.{NodeId}
use Rattle.c_types_nodes.specs.Tables.{Table, node_at}
use Rattle.c_types_operators.specs.declared.error.TypeError.{TypeError}
use Rattle.c_types_operators.specs.Answers.{Agrees, StandsAt}
use Rattle.c_types_environment.specs.States.{notes_of, State}
use Rattle.c_types_expressions.specs.Found.{Found, Finds, Stays, IsType, AreBoth}
use Rattle.c_types_expressions.proofs.Sequences.{passed, noted_nothing, gone_on, stopped_in, in_turn, same_steps}
use Rattle.c_types_expressions.proofs.Kept.{node_is}
use Rattle.c_types_expressions.proofs.Operands.{agrees_as}

-- what two steps find, as one
abbrev pub paired : {A B : Type 0} → Checked A → Checked B → Checked (A × B)
paired c d = c >>= (λ a. d >>= (λ b. Fine (a, b)))

pair_first : {A B C : Type 0} (a : A) (d : Checked B) (k : A → B → Checked C) → (d >>= (λ b. k a b)) ≡ ((d >>= (λ b. let p : A × B = (a, b) in Fine p)) >>= (λ p. k p.0 p.1))
pair_first {A = A} {B = B} a d k = sym (in_turn d (λ b. let p : A × B = (a, b) in Fine p) (λ p. k p.0 p.1))

pub as_pair : {A B C : Type 0} (c : Checked A) (d : Checked B) (k : A → B → Checked C) → (c >>= (λ a. d >>= (λ b. k a b))) ≡ (paired c d >>= (λ p. k p.0 p.1))
as_pair {A = A} {B = B} c d k =
    same_steps c (λ a. d >>= (λ b. k a b)) (λ a. (d >>= (λ b. let p : A × B = (a, b) in Fine p)) >>= (λ p. k p.0 p.1)) (λ a. pair_first a d k)
    ∙ sym (in_turn c (λ a. d >>= (λ b. let p : A × B = (a, b) in Fine p)) (λ p. k p.0 p.1))

module _ {C D : Type 0} (js : Table → C → D → Type 0) where
  -- one operand
  pub one_goes_on : (K : Environment → Typed → Checked C) (old mid new : State) (c : Checked Typed) (o : NodeId) (r : Result D TypeError) →
      Finds old mid (StandsAt mid.table) c (Ok o) → mid.env ≡ old.env → Agrees (js new.table) (K mid.env (node_at mid.table o)) r → (notes_of new) ≡ (notes_of mid) → Finds old new (js new.table) (c >>= K old.env) r
  one_goes_on K old mid new c o r p e q l =
      gone_on (notes_of old) (notes_of mid) (notes_of new) (StandsAt mid.table) (js new.table) c (K old.env) o r p (λ x at.
      let same : K old.env x ≡ K mid.env (node_at mid.table o) = ap (K old.env) (sym (node_is mid.table o x at)) ∙ ap (λ E. K E (node_at mid.table o)) (sym e) in
      noted_nothing _ _ (js new.table) (K old.env x) r l (agrees_as (js new.table) _ _ r same q))

  -- one operand, where something is noted after it
  pub one_is_noted : (K : Environment → Typed → Checked C) (old mid new : State) (c : Checked Typed) (o : NodeId) (r : Result D TypeError) →
      Finds old mid (StandsAt mid.table) c (Ok o) → mid.env ≡ old.env → Finds mid new (js new.table) (K mid.env (node_at mid.table o)) r → Finds old new (js new.table) (c >>= K old.env) r
  one_is_noted K old mid new c o r p e q =
      gone_on (notes_of old) (notes_of mid) (notes_of new) (StandsAt mid.table) (js new.table) c (K old.env) o r p (λ x at.
      passed (notes_of mid) (notes_of new) (js new.table) _ _ r (ap (K old.env) (sym (node_is mid.table o x at)) ∙ ap (λ E. K E (node_at mid.table o)) (sym e)) q)

  -- two operands
  pub two_go_on : (K : Environment → Typed → Typed → Checked C) (old mid new : State) (c d : Checked Typed) (a b : NodeId) (r : Result D TypeError) →
      Finds old mid (AreBoth mid.table) (paired c d) (Ok (a, b)) → mid.env ≡ old.env → Agrees (js new.table) (K mid.env (node_at mid.table a) (node_at mid.table b)) r → (notes_of new) ≡ (notes_of mid) →
      Finds old new (js new.table) (c >>= (λ u. d >>= (λ v. K old.env u v))) r
  two_go_on K old mid new c d a b r p e q l =
      passed _ _ (js new.table) _ _ r (as_pair c d (K old.env))
      (gone_on (notes_of old) (notes_of mid) (notes_of new) (AreBoth mid.table) (js new.table) _ (λ x. K old.env x.0 x.1) (a, b) r p (λ x at.
      let same : K old.env x.0 x.1 ≡ K mid.env (node_at mid.table a) (node_at mid.table b) =
      ap (λ u. K old.env u x.1) (sym (node_is mid.table a x.0 at.0)) ∙ (ap (K old.env (node_at mid.table a)) (sym (node_is mid.table b x.1 at.1)) ∙ ap (λ E. K E (node_at mid.table a) (node_at mid.table b)) (sym e)) in
      noted_nothing _ _ (js new.table) (K old.env x.0 x.1) r l (agrees_as (js new.table) _ _ r same q)))

  pub two_stop : (K : Typed → Typed → Checked C) (f g h : Notes) (t u : Table) (c d : Checked Typed) (e : TypeError) → Found f g (AreBoth t) (paired c d) (Err e) → Found f h (js u) (c >>= (λ u. d >>= (λ v. K u v))) (Err e)
  two_stop K f g h t u c d e p = passed f h (js u) _ _ (Err e) (as_pair c d K) (stopped_in f g h (AreBoth t) (js u) _ (λ x. K x.0 x.1) e p)

  -- a type
  pub type_goes_on : (K : Environment → CType → Checked C) (old mid new : State) (c : Checked CType) (o : TypeId) (r : Result D TypeError) →
      Finds old mid (IsType mid.table) c (Ok o) → mid.env ≡ old.env → Agrees (js new.table) (K mid.env (type_at mid.table.types o)) r → (notes_of new) ≡ (notes_of mid) → Finds old new (js new.table) (c >>= K old.env) r
  type_goes_on K old mid new c o r p e q l =
      gone_on (notes_of old) (notes_of mid) (notes_of new) (IsType mid.table) (js new.table) c (K old.env) o r p (λ x at.
      let same : K old.env x ≡ K mid.env (type_at mid.table.types o) = ap (K old.env) (sym at.is) ∙ ap (λ E. K E (type_at mid.table.types o)) (sym e) in
      noted_nothing _ _ (js new.table) (K old.env x) r l (agrees_as (js new.table) _ _ r same q))

  -- a type and an operand
  pub type_and_one_go_on : (K : CType → Typed → Checked C) (old mid end new : State) (c : Checked CType) (d : Environment → Checked Typed) (o : TypeId) (a : NodeId) (r : Result D TypeError) →
      Finds old mid (IsType mid.table) c (Ok o) → Stays old mid → Finds mid end (StandsAt end.table) (d mid.env) (Ok a) → Stays mid end →
      Agrees (js new.table) (K (type_at end.table.types o) (node_at end.table a)) r → (notes_of new) ≡ (notes_of end) → Finds old new (js new.table) (c >>= (λ t. d old.env >>= (λ u. K t u))) r
  type_and_one_go_on K old mid end new c d o a r p s q k h l =
      gone_on (notes_of old) (notes_of mid) (notes_of new) (IsType mid.table) (js new.table) c (λ t. d old.env >>= (λ u. K t u)) o r p (λ x there.
      gone_on (notes_of mid) (notes_of end) (notes_of new) (StandsAt end.table) (js new.table) (d old.env) (λ u. K x u) a r (passed _ _ (StandsAt end.table) _ _ (Ok a) (ap d (sym s.env)) q) (λ y at.
      let type : type_at end.table.types o ≡ x = (k.numbers.types.names o x there).is in
      let same : K x y ≡ K (type_at end.table.types o) (node_at end.table a) = ap (λ t. K t y) (sym type) ∙ ap (K (type_at end.table.types o)) (sym (node_is end.table a y at)) in
      noted_nothing _ _ (js new.table) (K x y) r l (agrees_as (js new.table) _ _ r same h)))

  pub second_stops : {A : Type 0} (is : Table → A → TypeId → Type 0) (K : A → Typed → Checked C) (old mid end : State) (c : Checked A) (d : Environment → Checked Typed) (o : TypeId) (e : TypeError) →
      Finds old mid (is mid.table) c (Ok o) → Stays old mid → Finds mid end (StandsAt end.table) (d mid.env) (Err e) → Finds old end (js end.table) (c >>= (λ t. d old.env >>= (λ u. K t u))) (Err e)
  second_stops is K old mid end c d o e p s q =
      gone_on (notes_of old) (notes_of mid) (notes_of end) (is mid.table) (js end.table) c (λ t. d old.env >>= (λ u. K t u)) o (Err e) p (λ x there.
      stopped_in (notes_of mid) (notes_of end) (notes_of end) (StandsAt end.table) (js end.table) (d old.env) (λ u. K x u) e (passed (notes_of mid) (notes_of end) (StandsAt end.table) _ _ (Err e) (ap d (sym s.env)) q))

  -- a condition and two arms
  pub three_go_on : (K : Typed → Typed → Typed → Checked C) (old mid end new : State) (c d : Checked Typed) (f : Environment → Checked Typed) (a b o : NodeId) (r : Result D TypeError) →
      Finds old mid (AreBoth mid.table) (paired c d) (Ok (a, b)) → Stays old mid → Finds mid end (StandsAt end.table) (f mid.env) (Ok o) → Stays mid end →
      Agrees (js new.table) (K (node_at end.table a) (node_at end.table b) (node_at end.table o)) r → (notes_of new) ≡ (notes_of end) →
      Finds old new (js new.table) (c >>= (λ u. d >>= (λ v. f old.env >>= (λ w. K u v w)))) r
  three_go_on K old mid end new c d f a b o r p s q k h l =
      passed _ _ (js new.table) _ _ r (as_pair c d (λ u v. f old.env >>= (λ w. K u v w)))
      (gone_on (notes_of old) (notes_of mid) (notes_of new) (AreBoth mid.table) (js new.table) _ (λ x. f old.env >>= (λ w. K x.0 x.1 w)) (a, b) r p (λ x at.
      gone_on (notes_of mid) (notes_of end) (notes_of new) (StandsAt end.table) (js new.table) (f old.env) (λ w. K x.0 x.1 w) o r (passed _ _ (StandsAt end.table) _ _ (Ok o) (ap f (sym s.env)) q) (λ y there.
      let first : node_at end.table a ≡ x.0 = node_is end.table a x.0 (k.numbers.nodes a x.0 at.0) in
      let second : node_at end.table b ≡ x.1 = node_is end.table b x.1 (k.numbers.nodes b x.1 at.1) in
      let third : node_at end.table o ≡ y = node_is end.table o y there in
      let same : K x.0 x.1 y ≡ K (node_at end.table a) (node_at end.table b) (node_at end.table o) = cc in
      noted_nothing _ _ (js new.table) (K x.0 x.1 y) r l (agrees_as (js new.table) _ _ r same h))))

  pub third_stops : (K : Typed → Typed → Typed → Checked C) (old mid end : State) (c d : Checked Typed) (f : Environment → Checked Typed) (a b : NodeId) (e : TypeError) →
      Finds old mid (AreBoth mid.table) (paired c d) (Ok (a, b)) → Stays old mid → Finds mid end (StandsAt end.table) (f mid.env) (Err e) →
      Finds old end (js end.table) (c >>= (λ u. d >>= (λ v. f old.env >>= (λ w. K u v w)))) (Err e)
  third_stops K old mid end c d f a b e p s q =
      passed (notes_of old) (notes_of end) (js end.table) _ _ (Err e) (as_pair c d (λ u v. f old.env >>= (λ w. K u v w)))
      (gone_on (notes_of old) (notes_of mid) (notes_of end) (AreBoth mid.table) (js end.table) _ (λ x. f old.env >>= (λ w. K x.0 x.1 w)) (a, b) (Err e) p (λ x at.
      stopped_in (notes_of mid) (notes_of end) (notes_of end) (StandsAt end.table) (js end.table) (f old.env) (λ w. K x.0 x.1 w) e (passed (notes_of mid) (notes_of end) (StandsAt end.table) _ _ (Err e) (ap f (sym s.env)) q)))

-- both operands
pub both_found : (old mid new : State) (c : Checked Typed) (d : Environment → Checked Typed) (a b : NodeId) → Finds old mid (StandsAt mid.table) c (Ok a) → Stays old mid → Finds mid new (StandsAt new.table) (d mid.env) (Ok b) → Stays mid new →
    Finds old new (AreBoth new.table) (paired c (d old.env)) (Ok (a, b))
both_found old mid new c d a b p s q k =
    gone_on (notes_of old) (notes_of mid) (notes_of new) (StandsAt mid.table) (AreBoth new.table) c (λ u. d old.env >>= (λ v. let p : Typed × Typed = (u, v) in Fine p)) a (Ok (a, b)) p (λ x at.
    gone_on (notes_of mid) (notes_of new) (notes_of new) (StandsAt new.table) (AreBoth new.table) (d old.env) (λ v. let p : Typed × Typed = (x, v) in Fine p) b (Ok (a, b)) (passed _ _ (StandsAt new.table) _ _ (Ok b) (ap d (sym s.env)) q) (λ y there.
    ((k.numbers.nodes a x at, there), refl)))

pub left_stops : (f g h : Notes) (t u : Table) (c d : Checked Typed) (e : TypeError) → Found f g (StandsAt t) c (Err e) → Found f h (AreBoth u) (paired c d) (Err e)
left_stops f g h t u c d e p = stopped_in f g h (StandsAt t) (AreBoth u) c (λ a. d >>= (λ b. let p : Typed × Typed = (a, b) in Fine p)) e p

pub right_stops : (old mid new : State) (c : Checked Typed) (d : Environment → Checked Typed) (a : NodeId) (e : TypeError) → Finds old mid (StandsAt mid.table) c (Ok a) → Stays old mid → Finds mid new (StandsAt new.table) (d mid.env) (Err e) →
    Finds old new (AreBoth new.table) (paired c (d old.env)) (Err e)
right_stops old mid new c d a e p s q =
    gone_on (notes_of old) (notes_of mid) (notes_of new) (StandsAt mid.table) (AreBoth new.table) c (λ u. d old.env >>= (λ v. let p : Typed × Typed = (u, v) in Fine p)) a (Err e) p (λ x at.
    stopped_in (notes_of mid) (notes_of new) (notes_of new) (StandsAt new.table) (AreBoth new.table) (d old.env) (λ v. let p : Typed × Typed = (x, v) in Fine p) e (passed (notes_of mid) (notes_of new) (StandsAt new.table) _ _ (Err e) (ap d (sym s.env)) q))
