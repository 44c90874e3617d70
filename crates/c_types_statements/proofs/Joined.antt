-- Statements that are found one after another.
use Rattle.std.proofs.Common.{◌≡◌, Bool, Ok, Err, refl, sym, ap}
use Rattle.c_types_rules.specs.Checked.{Checked, Fine, Noted, Broken, Notes, ◌>>=◌}
use Rattle.c_types_rules.proofs.Notes.{noting_then}
use Rattle.c_types_rules.specs.TypedTree.{Statements, NoStatements, MoreStatements, joined}
use Rattle.c_types_operators.specs.declared.error.TypeError.{TypeError}
use Rattle.c_types_expressions.specs.Found.{Found}
use Rattle.c_types_statements.proofs.Passed.{Passed, none_passed, passed_same, pass_on, pass_all, pass_off}

joined_none : (a : Statements) → joined a NoStatements ≡ a
joined_none NoStatements = refl
joined_none (MoreStatements s a) = ap (MoreStatements s) (joined_none a)

joined_twice : (a b c : Statements) → joined (joined a b) c ≡ joined a (joined b c)
joined_twice NoStatements b c = refl
joined_twice (MoreStatements s a) b c = ap (MoreStatements s) (joined_twice a b c)

-- what is found after these statements
abbrev pub following : {A : Type 0} → Statements → Checked (A × Statements) → Checked (A × Statements)
following xs c = c >>= (λ b. Fine (b.0, joined xs b.1))

module _ {A : Type 0} where
  after_none : (c : Checked (A × Statements)) → c ≡ following NoStatements c
  after_none (Fine (x, y)) = refl
  after_none (Noted n (x, y)) = refl
  after_none (Broken from rule) = refl

  after_more : (xs ys : Statements) (c : Checked (A × Statements)) → following xs (following ys c) ≡ following (joined xs ys) c
  after_more xs ys (Fine (x, y)) = ap (λ z. Fine (x, z)) (sym (joined_twice xs ys y))
  after_more xs ys (Noted n (x, y)) = ap (λ z. Noted n (x, z)) (sym (joined_twice xs ys y))
  after_more xs ys (Broken from rule) = refl

  after_step : {X : Type 0} (xs : Statements) (c : Checked X) (f : X → Checked (A × Statements)) → following xs (c >>= f) ≡ (c >>= (λ a. following xs (f a)))
  after_step xs (Fine a) f = refl
  after_step xs (Noted n a) f = noting_then n (f a) (λ b. Fine (b.0, joined xs b.1))
  after_step xs (Broken from rule) f = refl

  -- none is read yet
  pub none_read : (old : Notes) (whole : Checked (A × Statements)) → Passed old old whole (following NoStatements whole)
  none_read old whole = passed_same old old whole whole (following NoStatements whole) (after_none whole) (none_passed old whole)

  -- one more is read
  pub read_on : {X B : Type 0} (old now next : Notes) (whole : Checked (A × Statements)) (xs : Statements) (is : X × Statements → B → Type 0) (c : Checked (X × Statements)) (f : X → Checked (A × Statements)) (y : B)
      → Passed old now whole (following xs (c >>= (λ a. following a.1 (f a.0)))) → Found now next is c (Ok y)
      → (a : X × Statements) × is a y × Passed old next whole (following (joined xs a.1) (f a.0))
  read_on old now next whole xs is c f y h k =
      let r = pass_on old now next whole is c (λ a. following xs (following a.1 (f a.0))) y (passed_same old now whole _ _ (after_step xs c (λ a. following a.1 (f a.0))) h) k in
      (r.0, r.1, passed_same old next whole _ _ (after_more xs r.0.1 (f r.0.0)) r.2)

  -- all are read
  pub read_all : {D : Type 0} (old now : Notes) (whole : Checked (A × Statements)) (xs : Statements) (goes : A × Statements → D → Type 0) (x : A) (y : D)
      → Passed old now whole (following xs (Fine (x, NoStatements))) → goes (x, xs) y → Found old now goes whole (Ok y)
  read_all old now whole xs goes x y h k = pass_all old now whole goes (x, xs) y (passed_same old now whole _ _ (ap (λ z. Fine (x, z)) (joined_none xs)) h) k

  -- the next one breaks a rule
  pub read_off : {X B D : Type 0} (old now next last : Notes) (whole : Checked (A × Statements)) (xs : Statements) (is : X → B → Type 0) (goes : A × Statements → D → Type 0) (c : Checked X) (f : X → Checked (A × Statements)) (e : TypeError)
      → Passed old now whole (following xs (c >>= f)) → Found now next is c (Err e) → Found old last goes whole (Err e)
  read_off old now next last whole xs is goes c f e h k = pass_off old now next last whole is goes c (λ a. following xs (f a)) e (passed_same old now whole _ _ (after_step xs c f) h) k
