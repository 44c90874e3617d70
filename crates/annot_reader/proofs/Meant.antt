-- What a declaration says more, by what its name means.
use Rattle.std.proofs.Common.{◌≡◌, ℕ, ◌-◌, List, Option, Some, None, Result, sym, ap, ◌∙◌, subst}
use Rattle.c_scopes.specs.Scopes.{meaning_in}
use Rattle.c_syntax.specs.declared.id.DeclId.{DeclId}
use Rattle.c_syntax.specs.declared.declaration.Decl.{Decl as DeclNode}
use Rattle.c_syntax.specs.declared.declaration.Rest.{Rest as After}
use Rattle.c_syntax.specs.declared.declaration.Rest.TheVariants as rests
use Rattle.c_syntax.specs.Nodes.{Nodes}
use Rattle.c_syntax.specs.Syntax.{Body, Decl, Declare, Decls, Initial, Members, NoRest, Rest}
use Rattle.c_syntax.specs.Stands.{StandDecls, StandsDecl, StandsRest}
use Rattle.c_types_rules.specs.Checked.{Checked}
use Rattle.c_types_rules.specs.Environment.{Environment, FunctionNamed, GlobalNamed, LocalNamed, Meaning}
use Rattle.c_types_rules.specs.Expressions.{declared_name}
use Rattle.c_types_rules.specs.Sources.{Program}
use Rattle.annot_reader_rules.specs.Cuts.{function_at, noted, noted_function, noted_name}
use Rattle.annot_reader_rules.specs.Misplaced.{bare_decls}
use Rattle.annot_reader_rules.specs.Notes.{Annotated}
use Rattle.annot_reader_words.specs.declared.error.AnnotationError.{AnnotationError}
use Rattle.annot_reader_words.specs.Answers.{Passes, Tells}
use Rattle.annot_reader_words.specs.Shown.{Shows}
use Rattle.annot_reader_functions.specs.Rules.{IsTypeName, function_in}
use Rattle.annot_reader.specs.declared.reading.Reading.{Reading}
use Rattle.annot_reader.specs.Reading.{AreRead, noted_global}
use Rattle.annot_reader.proofs.Noting.{Reads, as_before}

-- ---- members

members_stand : (N : Nodes) (q : After) (is : List DeclId) (r : Rest) → StandsRest N q r → q ≡ rests.Members is → (ds : Decls) × StandDecls N is ds
members_stand N q is NoRest h e = absurd cc
members_stand N q is (Initial v) (w, f, s) e = absurd cc
members_stand N q is (Body s) (i, f, t) e = absurd cc
members_stand N q is (Members ds) (js, f, s) e = let one : js ≡ is = cc in (ds, subst (λ ks. StandDecls N ks ds) one s)

pub members_decls : (N : Nodes) (i : DeclId) (v : DeclNode) (is js : List DeclId) → IsTypeName N i → ((d : Decl) → StandsDecl N i d → Shows N v d) → v.rest ≡ rests.Members is → js ≡ is → (ds : Decls) × StandDecls N js ds
members_decls N i v is js (Declare from an b ps n r, h, f) s e k = let m = members_stand N v.rest is r (s (Declare from an b ps n r) h).5 e in (m.0, subst (λ ks. StandDecls N ks m.0) (sym k) m.1)

module _ (cut : List ℕ) (now : Reading) (env : Environment) (p : Program) (a : Annotated) (x : Result (Unit {0}) AnnotationError) where
  abbrev Saying : Checked Annotated → Type 0
  Saying c = Tells (Reads cut now) c x

  -- a struct is defined
  pub members_tell : (N : Nodes) (v : DeclNode) (is : List DeclId) (d : Decl) → Shows N v d → v.rest ≡ rests.Members is → ((ds : Decls) → StandDecls N is ds → Passes (bare_decls ds) x) → AreRead cut a now → Saying (noted env p d a)
  members_tell N v is (Declare from an b ps n NoRest) s e k r = let none = s.5 in absurd cc
  members_tell N v is (Declare from an b ps n (Initial w)) s e k r = let (u, f, t) = s.5 in absurd cc
  members_tell N v is (Declare from an b ps n (Body w)) s e k r = let (u, f, t) = s.5 in absurd cc
  members_tell N v is (Declare from an b ps n (Members ds)) s e k r =
      let (js, f, t) = s.5 in
      let one : js ≡ is = cc in
      as_before cut now (bare_decls ds) a x (k ds (subst (λ ks. StandDecls N ks ds) one t)) r

  -- a name is declared
  pub name_tells : (N : Nodes) (v : DeclNode) (d : Decl) → Shows N v d → ((is : List DeclId) → v.rest ≡ rests.Members is → ⊥) → Saying (noted_name env p d (meaning_in (declared_name v.name) p.names) a) → Saying (noted env p d a)
  name_tells N v (Declare from an b ps n NoRest) s other h = subst (λ m. Saying (noted_name env p (Declare from an b ps n NoRest) (meaning_in (declared_name m) p.names) a)) s.4 h
  name_tells N v (Declare from an b ps n (Initial w)) s other h = subst (λ m. Saying (noted_name env p (Declare from an b ps n (Initial w)) (meaning_in (declared_name m) p.names) a)) s.4 h
  name_tells N v (Declare from an b ps n (Body w)) s other h = subst (λ m. Saying (noted_name env p (Declare from an b ps n (Body w)) (meaning_in (declared_name m) p.names) a)) s.4 h
  name_tells N v (Declare from an b ps n (Members ds)) s other h = let (is, e, t) = s.5 in absurd (other is e)

  -- ---- what the name means

  pub global_meant : (d : Decl) (m : Option Meaning) → None ≡ function_in m → Saying (noted_global d a) → Saying (noted_name env p d m a)
  global_meant d None e h = h
  global_meant d (Some (GlobalNamed place t)) e h = h
  global_meant d (Some (LocalNamed place t)) e h = h
  global_meant d (Some (FunctionNamed number t)) e h = absurd cc

  pub function_meant : (d : Decl) (m : Option Meaning) (number place : ℕ) → Some number ≡ function_in m → place ≡ number - 16 → Saying (noted_function env d place (function_at p.functions place) a) → Saying (noted_name env p d m a)
  function_meant d None number place e f h = absurd cc
  function_meant d (Some (GlobalNamed other t)) number place e f h = absurd cc
  function_meant d (Some (LocalNamed other t)) number place e f h = absurd cc
  function_meant d (Some (FunctionNamed other t)) number place e f h =
      let one : number ≡ other = cc in
      let same : place ≡ other - 16 = f ∙ ap (λ k. k - 16) one in
      subst (λ k. Saying (noted_function env d k (function_at p.functions k) a)) same h
