-- The factors of annotations.
use Rattle.std.proofs.Common.{◌≡◌, ℕ, Some, None, Result, Ok, Err, refl, sym, ap, ◌∙◌, subst}
use Rattle.c_syntax.specs.declared.id.DeclId.{DeclId}
use Rattle.c_syntax.specs.declared.declaration.Item.{Item as ItemNode}
use Rattle.c_syntax.specs.declared.declaration.Atom.{Atom as Factor}
use Rattle.c_syntax.specs.declared.declaration.Atom.TheVariants as atoms
use Rattle.c_syntax.specs.Nodes.{Nodes}
use Rattle.c_syntax.specs.Syntax.{Atom, Decl, Item, NameAtom, NumberAtom, ReturnAtom, SizeofAtom, OneFactor, TwoFactors}
use Rattle.c_syntax.specs.Stands.{StandsAtom, StandsDecl, StandsItem}
use Rattle.c_types_rules.specs.Checked.{Fine}
use Rattle.c_types_rules.specs.Environment.{Environment}
use Rattle.c_types_rules.specs.Expressions.{atom_type, item_type}
use Rattle.c_types_operators.specs.declared.error.TypeError.{TypeError}
use Rattle.c_types_operators.specs.Answers.{IsNothing}
use Rattle.c_types_environment.specs.States.{notes_of, State}
use Rattle.c_syntax_laws.specs.Numbers.{FitsAtom}
use Rattle.c_types_expressions.specs.Found.{Finds}
use Rattle.c_types_expressions.specs.Walks.{IsAtom, IsDecl, IsItem}
use Rattle.c_types_expressions.proofs.Sequences.{passed, gone_on_after, stopped_before}

-- ---- one factor

pub sizeof_atom : (N : Nodes) (a : Factor) (i : DeclId) (x : Atom) → a ≡ atoms.Sizeof i → StandsAtom N a x → (d : Decl) × (x ≡ SizeofAtom d) × StandsDecl N i d
sizeof_atom N a i (NameAtom n) e h = absurd cc
sizeof_atom N a i (NumberAtom v) e h = absurd cc
sizeof_atom N a i ReturnAtom e h = absurd cc
sizeof_atom N a i (SizeofAtom d) e (j, k, s) = let one : j ≡ i = cc in (d, refl, subst (λ m. StandsDecl N m d) one s)

pub sizeof_name : (N : Nodes) (a : Factor) (i : DeclId) → a ≡ atoms.Sizeof i → IsAtom N a → IsDecl N i
sizeof_name N a i e (x, s, f) = let p = sizeof_atom N a i x e s in (p.0, p.2, subst FitsAtom p.1 f)

-- any other factor has no type
pub plain_atom : (N : Nodes) (a : Factor) (x : Atom) (E : Environment) (from : ℕ) → ((i : DeclId) → a ≡ atoms.Sizeof i → ⊥) → StandsAtom N a x → atom_type x E from ≡ Fine tt
plain_atom N a (NameAtom n) E from other h = refl
plain_atom N a (NumberAtom v) E from other h = refl
plain_atom N a ReturnAtom E from other h = refl
plain_atom N a (SizeofAtom d) E from other (i, e, s) = absurd (other i e)

-- ---- one or two of them

pub first_factor : (N : Nodes) (v : ItemNode) → IsItem N v → IsAtom N v.a
first_factor N v (OneFactor f a, s, fits) = (a, s.1, fits)
first_factor N v (TwoFactors f a b, (i, from, first, is, second), fits) = (a, first, fits.0)

pub second_factor : (N : Nodes) (v : ItemNode) (w : Factor) → v.b ≡ Some w → IsItem N v → IsAtom N w
second_factor N v w e (OneFactor f a, s, fits) = absurd cc
second_factor N v w e (TwoFactors f a b, (i, from, first, is, second), fits) = let one : i ≡ w = cc in (b, subst (λ u. StandsAtom N u b) one second, fits.1)

module _ (N : Nodes) (v : ItemNode) (old : State) where
  pub factor_stops : (new : State) (x : Item) (e : TypeError) → ((a : Atom) → StandsAtom N v.a a → Finds old new IsNothing (atom_type a old.env v.from) (Err e)) → StandsItem N v x → Finds old new IsNothing (item_type x old.env) (Err e)
  factor_stops new (OneFactor f a) e h s = passed (notes_of old) (notes_of new) IsNothing _ _ (Err e) (ap (atom_type a old.env) (sym s.0)) (h a s.1)
  factor_stops new (TwoFactors f a b) e h (i, from, first, is, second) =
      stopped_before (notes_of old) (notes_of new) (notes_of new) IsNothing IsNothing (atom_type a old.env f) (atom_type b old.env f) e
      (passed (notes_of old) (notes_of new) IsNothing _ _ (Err e) (ap (atom_type a old.env) (sym from)) (h a first))

  pub one_factor : (new : State) (x : Item) → v.b ≡ None → ((a : Atom) → StandsAtom N v.a a → Finds old new IsNothing (atom_type a old.env v.from) (Ok tt)) → StandsItem N v x → Finds old new IsNothing (item_type x old.env) (Ok tt)
  one_factor new (OneFactor f a) none h s = passed (notes_of old) (notes_of new) IsNothing _ _ (Ok tt) (ap (atom_type a old.env) (sym s.0)) (h a s.1)
  one_factor new (TwoFactors f a b) none h (i, from, first, is, second) = absurd cc

  pub two_factors : (mid new : State) (x : Item) (w : Factor) (r : Result (Unit {0}) TypeError) → v.b ≡ Some w → mid.env ≡ old.env → ((a : Atom) → StandsAtom N v.a a → Finds old mid IsNothing (atom_type a old.env v.from) (Ok tt)) →
      ((b : Atom) → StandsAtom N w b → Finds mid new IsNothing (atom_type b mid.env v.from) r) → StandsItem N v x → Finds old new IsNothing (item_type x old.env) r
  two_factors mid new (OneFactor f a) w r two e h k s = absurd cc
  two_factors mid new (TwoFactors f a b) w r two e h k (i, from, first, is, second) =
      let one : i ≡ w = cc in
      gone_on_after (notes_of old) (notes_of mid) (notes_of new) IsNothing IsNothing (atom_type a old.env f) (atom_type b old.env f) tt r
      (passed (notes_of old) (notes_of mid) IsNothing _ _ (Ok tt) (ap (atom_type a old.env) (sym from)) (h a first))
      (passed (notes_of mid) (notes_of new) IsNothing _ _ r (ap (atom_type b old.env) (sym from) ∙ ap (λ F. atom_type b F v.from) (sym e)) (k b (subst (λ u. StandsAtom N u b) one second)))
