-- Functions and globals, after their annotations and types.
use Rattle.std.proofs.Common.{◌≡◌, ℕ, false, List, Option, Some, Result, Ok, Err, OnOk, refl, sym, ap, ◌∙◌, subst}
use Rattle.c_syntax.specs.declared.id.DeclId.{DeclId}
use Rattle.c_syntax.specs.declared.declaration.Base.{Base}
use Rattle.c_syntax.specs.declared.declaration.Base.TheVariants as bases
use Rattle.c_syntax.specs.declared.declaration.Decl.{Decl as DeclNode}
use Rattle.c_syntax.specs.declared.declaration.Rest.TheVariants as rests
use Rattle.c_syntax.specs.Nodes.{Nodes, decl_at}
use Rattle.c_syntax.specs.Syntax.{Annots, Decl, Decls, Parts, Rest, Declare, NoRest, Initial, Body, Members}
use Rattle.c_syntax.specs.Stands.{StandDecls, StandsDecl, StandsRest}
use Rattle.c_types_model.specs.Types.{CType}
use Rattle.c_types_table.specs.declared.ids.TypeId.{TypeId}
use Rattle.c_types_table.specs.declared.ty.Ty.{Ty}
use Rattle.c_types_table.specs.declared.ty.Ty.TheVariants as nodes
use Rattle.c_types_table.specs.Tables.{made, type_at, types_of}
use Rattle.c_types_rules.specs.Checked.{Checked, ◌>>=◌}
use Rattle.c_types_rules.specs.Environment.{Environment}
use Rattle.c_types_rules.specs.Expressions.{annotation_types, declared_name, declared_type}
use Rattle.c_types_rules.specs.Sources.{Program, at_file, declaration, function_or_global, struct_defined}
use Rattle.c_types_operators.specs.declared.error.TypeError.{TypeError}
use Rattle.c_types_operators.specs.Answers.{IsNothing}
use Rattle.c_types_environment.specs.States.{State, notes_of}
use Rattle.c_types_expressions.specs.Found.{Finds, Found, IsType, Stays}
use Rattle.c_types_expressions.proofs.Kept.{then_stay}
use Rattle.c_types_expressions.proofs.Sequences.{gone_on, gone_on_after, passed, stopped_before, stopped_in}
use Rattle.c_types.specs.declared.declarations.Declarations.{Declarations}
use Rattle.c_types.specs.Known.{ReadsAnnots}
use Rattle.c_types.specs.Quiet.{large_noted, quiet}
use Rattle.c_types.specs.States.{Declares, Follows, GoesOn, IsSound, program_of}
use Rattle.c_types.specs.Pieces.{function_of, global_of, named, typed}
use Rattle.c_types.proofs.Followed.{at_file_is, going_on, program_on, small_before, sound_on}
use Rattle.c_types.proofs.Parts.{node_is}
use Rattle.c_types.proofs.Quieting.{declares, quiet_after, quiet_found, quiet_then}
use Rattle.c_types.proofs.Stepping.{goes_through, goes_to}

-- the program that is declared is there
abbrev pub IsProgramOf : Declarations → Program → Unit {0} → Type 0
IsProgramOf d p x = program_of d ≡ p

-- the part of it that follows the annotations
abbrev by_type : List (List ℕ) → Program → Decl → Checked Program
by_type tags p (Declare from an b ps n r) = do
  t ← declared_type (Declare from an b ps n r) (at_file tags p)
  function_or_global tags p from (declared_name n) t ps r

module _ (N : Nodes) (i : DeclId) (e : DeclNode) (there : decl_at N i ≡ Some e) (d : Declarations) (h : IsSound d) where
  abbrev tags : List (List ℕ)
  tags = d.env.env.tags

  abbrev file : Environment
  file = at_file tags (program_of d)

  annotations_here : (s : State) (r : Result (Unit {0}) TypeError) → ReadsAnnots N i d.env s r → (from : ℕ) (an : Annots) (b : Base) (ps : Parts) (n : Option (List ℕ)) (q : Rest) → StandsDecl N i (Declare from an b ps n q) → Found (large_noted d.env) (large_noted s) IsNothing (quiet (annotation_types an file)) r
  annotations_here s r p from an b ps n q z =
      subst (λ v. Found (large_noted d.env) (large_noted s) IsNothing (quiet (annotation_types an v)) r) (sym (at_file_is d h)) (p e an there (node_is N i e from an b ps n q z there).annots)

  pub annotations_stop : (s : State) (x : TypeError) → ReadsAnnots N i d.env s (Err x) → (y : Decl) → StandsDecl N i y → Declares d (going_on d s) (named tags (program_of d) y) (Err x)
  annotations_stop s x p (Declare from an b ps n q) z =
      let rest : Checked Program = by_type tags (program_of d) (Declare from an b ps n q) in
      record {
        agrees = passed (large_noted d.env) (large_noted s) (IsProgramOf (going_on d s)) _ _ (Err x) (quiet_after (annotation_types an file) rest)
            (stopped_before (large_noted d.env) (large_noted s) (large_noted s) IsNothing (IsProgramOf (going_on d s)) (quiet (annotation_types an file)) (quiet rest) x (annotations_here s (Err x) p from an b ps n q z));
        kept = tt;
      }

  module _ (s : State) (p : ReadsAnnots N i d.env s (Ok tt)) (k : Stays d.env s) where
    sound_one : (from : ℕ) (an : Annots) (b : Base) (ps : Parts) (n : Option (List ℕ)) (q : Rest) → StandsDecl N i (Declare from an b ps n q) → IsSound (going_on d s)
    sound_one from an b ps n q z = sound_on d s k h (small_before (large_noted d.env) (large_noted s) IsNothing (quiet (annotation_types an file)) tt (annotations_here s (Ok tt) p from an b ps n q z))

    type_here : (u : State) (r : Result TypeId TypeError) → ((y : Decl) → StandsDecl N i y → Finds s u (IsType u.table) (declared_type y s.env) r) → (y : Decl) → StandsDecl N i y → Found (notes_of s) (notes_of u) (IsType u.table) (declared_type y file) r
    type_here u r t y z = subst (λ v. Found (notes_of s) (notes_of u) (IsType u.table) (declared_type y v) r) (k.env ∙ sym (at_file_is d h)) (t y z)

    -- after the annotations
    followed : (new : Declarations) (r : Result (Unit {0}) TypeError) (from : ℕ) (an : Annots) (b : Base) (ps : Parts) (n : Option (List ℕ)) (q : Rest) → StandsDecl N i (Declare from an b ps n q)
        → Found {B = Unit {0}} (large_noted s) (large_noted new.env) (IsProgramOf new) (quiet (declared_type (Declare from an b ps n q) file) >>= (λ c. quiet (function_or_global tags (program_of d) from (declared_name n) c ps q))) r
        → Found {B = Unit {0}} (large_noted d.env) (large_noted new.env) (IsProgramOf new) (quiet (named tags (program_of d) (Declare from an b ps n q))) r
    followed new r from an b ps n q z f =
        let rest : Checked Program = by_type tags (program_of d) (Declare from an b ps n q) in
        passed (large_noted d.env) (large_noted new.env) (IsProgramOf new) _ _ r (quiet_after (annotation_types an file) rest)
        (gone_on_after (large_noted d.env) (large_noted s) (large_noted new.env) IsNothing (IsProgramOf new) (quiet (annotation_types an file)) (quiet rest) tt r (annotations_here s (Ok tt) p from an b ps n q z)
        (passed (large_noted s) (large_noted new.env) (IsProgramOf new) _ _ r (quiet_then (declared_type (Declare from an b ps n q) file) (λ c. function_or_global tags (program_of d) from (declared_name n) c ps q)) f))

    pub type_stops : (u : State) (x : TypeError) → ((y : Decl) → StandsDecl N i y → Finds s u (IsType u.table) (declared_type y s.env) (Err x)) → (y : Decl) → StandsDecl N i y → Declares d (going_on d u) (named tags (program_of d) y) (Err x)
    type_stops u x t (Declare from an b ps n q) z =
        let y : Decl = Declare from an b ps n q in
        record {
          agrees = followed (going_on d u) (Err x) from an b ps n q z
              (stopped_in (large_noted s) (large_noted u) (large_noted u) (IsType u.table) (IsProgramOf (going_on d u)) (quiet (declared_type y file)) (λ c. quiet (function_or_global tags (program_of d) from (declared_name n) c ps q)) x
              (quiet_found (notes_of s) (notes_of u) (IsType u.table) (declared_type y file) (Err x) (type_here u (Err x) t y z)));
          kept = tt;
        }

    module _ (u : State) (ty : TypeId) (t : (y : Decl) → StandsDecl N i y → Finds s u (IsType u.table) (declared_type y s.env) (Ok ty)) (l : Stays s u) where
      pub small_type : (y : Decl) → StandsDecl N i y → u.found_large ≡ false → s.found_large ≡ false
      small_type y z = small_before (notes_of s) (notes_of u) (IsType u.table) (declared_type y file) ty (type_here u (Ok ty) t y z)

      pub sound_two : (y : Decl) → StandsDecl N i y → IsSound (going_on d u)
      sound_two (Declare from an b ps n q) z = sound_on (going_on d s) u l (sound_one from an b ps n q z) (small_type (Declare from an b ps n q) z)

      pub type_goes_on : (new : Declarations) (r : Result (Unit {0}) TypeError) → ((y : Decl) → StandsDecl N i y → Follows (going_on d u) new (typed u.env.tags (program_of (going_on d u)) (type_at u.table.types ty) y) r) → (y : Decl) → StandsDecl N i y → Declares d new (named tags (program_of d) y) r
      type_goes_on new r f (Declare from an b ps n q) z =
          let y : Decl = Declare from an b ps n q in
          let both : Stays d.env u = then_stay _ _ _ k l in
          let sound : IsSound (going_on d u) = sound_two y z in
          let same : program_of (going_on d u) ≡ program_of d = program_on d u both h in
          let last : Follows (going_on d u) new (function_or_global tags (program_of d) from (declared_name n) (type_at u.table.types ty) ps q) r =
          subst (λ v. Follows (going_on d u) new (function_or_global v (program_of d) from (declared_name n) (type_at u.table.types ty) ps q) r) (ap (λ v. v.tags) both.env)
          (subst (λ v. Follows (going_on d u) new (function_or_global u.env.tags v from (declared_name n) (type_at u.table.types ty) ps q) r) same (f y z)) in
          record {
            agrees = followed new r from an b ps n q z
                (gone_on (large_noted s) (large_noted u) (large_noted new.env) (IsType u.table) (IsProgramOf new) (quiet (declared_type y file)) (λ c. quiet (function_or_global tags (program_of d) from (declared_name n) c ps q)) ty r
                (quiet_found (notes_of s) (notes_of u) (IsType u.table) (declared_type y file) (Ok ty) (type_here u (Ok ty) t y z))
                (λ c w. subst (λ v. Found {B = Unit {0}} (large_noted u) (large_noted new.env) (IsProgramOf new) (quiet (function_or_global tags (program_of d) from (declared_name n) v ps q)) r) w.is (declares (going_on d u) new _ r last).agrees));
            kept = goes r last.kept (goes_to d u both sound);
          }
        where
          goes : (r : Result (Unit {0}) TypeError) → OnOk r (GoesOn (going_on d u) new) → GoesOn d (going_on d u) → OnOk r (GoesOn d new)
          goes (Ok x) v w = goes_through d (going_on d u) new w v
          goes (Err x) v w = tt

-- ---- by its type

-- what a type is, by what stands for it in a table
pub made_there : (types now : List Ty) (ty : TypeId) (v w : Ty) → now ≡ types → made (types_of now) v ≡ type_at now ty → v ≡ w → made (types_of types) w ≡ type_at types ty
made_there types now ty v w e h s = subst (λ x. made (types_of x) w ≡ type_at x ty) e (subst (λ x. made (types_of now) x ≡ type_at now ty) s h)

pub typed_function : (tags : List (List ℕ)) (p : Program) (ts : List CType) (t : CType) (r : TypeId) (ps : List TypeId) (y : Decl) → made ts (nodes.Function r ps) ≡ t → typed tags p t y ≡ function_of tags p t y
typed_function tags p ts t r ps (Declare from an b qs n q) e =
    subst (λ v. typed tags p v (Declare from an b qs n q) ≡ function_of tags p v (Declare from an b qs n q)) e refl

pub typed_global : (tags : List (List ℕ)) (p : Program) (ts : List CType) (t : CType) (v : Ty) (y : Decl) → made ts v ≡ t → ((r : TypeId) (ps : List TypeId) → v ≡ nodes.Function r ps → ⊥) → typed tags p t y ≡ global_of tags p t y
typed_global tags p ts t v (Declare from an b qs n q) e not = subst (λ w. typed tags p w (Declare from an b qs n q) ≡ global_of tags p w (Declare from an b qs n q)) e (by v not)
  where
    by : (v : Ty) → ((r : TypeId) (ps : List TypeId) → v ≡ nodes.Function r ps → ⊥) → typed tags p (made ts v) (Declare from an b qs n q) ≡ global_of tags p (made ts v) (Declare from an b qs n q)
    by nodes.Void f = refl
    by (nodes.Int k) f = refl
    by (nodes.Pointer t) f = refl
    by (nodes.Array t l) f = refl
    by (nodes.Struct s) f = refl
    by (nodes.UndefinedStruct tag) f = refl
    by (nodes.Function r ps) f = absurd (f r ps refl)

-- ---- by its words

-- a struct with its members
pub struct_words : (N : Nodes) (i : DeclId) (e : DeclNode) (tag : List ℕ) (is : List DeclId) → decl_at N i ≡ Some e → e.base ≡ bases.Struct tag → e.rest ≡ rests.Members is → (tags : List (List ℕ)) (p : Program) (y : Decl) → StandsDecl N i y → (ds : Decls) × StandDecls N is ds × (declaration tags p y ≡ struct_defined tags p e.from tag ds)
struct_words N i e tag is h words rest tags p (Declare from an b ps n q) z =
    let k = node_is N i e from an b ps n q z h in
    by q k.rest (sym k.base ∙ words) k.offset
  where
    by : (q : Rest) → StandsRest N e.rest q → b ≡ bases.Struct tag → e.from ≡ from → (ds : Decls) × StandDecls N is ds × (declaration tags p (Declare from an b ps n q) ≡ struct_defined tags p e.from tag ds)
    by NoRest s w f = absurd cc
    by (Initial v) (j, m, s) w f = absurd cc
    by (Body x) (j, m, s) w f = absurd cc
    by (Members ds) (js, m, s) w f =
        let same : js ≡ is = cc in
        (ds, subst (λ v. StandDecls N v ds) same s, subst (λ v. declaration tags p (Declare from an v ps n (Members ds)) ≡ struct_defined tags p e.from tag ds) (sym w) (ap (λ v. struct_defined tags p v tag ds) (sym f)))

-- anything else
pub other_words : (N : Nodes) (i : DeclId) (e : DeclNode) → decl_at N i ≡ Some e → ((tag : List ℕ) (is : List DeclId) → e.base ≡ bases.Struct tag → e.rest ≡ rests.Members is → ⊥) → (tags : List (List ℕ)) (p : Program) (y : Decl) → StandsDecl N i y → declaration tags p y ≡ named tags p y
other_words N i e h not tags p (Declare from an b ps n q) z =
    let k = node_is N i e from an b ps n q z h in by b q k.base k.rest
  where
    by : (b : Base) (q : Rest) → e.base ≡ b → StandsRest N e.rest q → declaration tags p (Declare from an b ps n q) ≡ named tags p (Declare from an b ps n q)
    by bases.Void q w s = refl
    by (bases.Int bytes signed) q w s = refl
    by (bases.Struct tag) NoRest w s = refl
    by (bases.Struct tag) (Initial v) w s = refl
    by (bases.Struct tag) (Body x) w s = refl
    by (bases.Struct tag) (Members ds) w (is, m, s) = absurd (not tag is w m)
