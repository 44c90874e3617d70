-- Definitions of structs, and the members that they begin with.
use Rattle.std.proofs.Common.{◌≡◌, ℕ, ◌==◌, Bool, true, false, not, List, [], length, Option, Some, None, Result, Ok, Err, refl, sym, ap, ◌∙◌, subst}
use Rattle.c_syntax.specs.declared.id.DeclId.{DeclId}
use Rattle.c_syntax.specs.Nodes.{Nodes}
use Rattle.c_syntax.specs.Syntax.{Decls}
use Rattle.c_syntax.specs.Stands.{StandDecls}
use Rattle.c_types_model.specs.Types.{CType}
use Rattle.c_types_table.specs.declared.ty.Ty.{Ty}
use Rattle.c_types_table.specs.declared.ty.Ty.TheVariants as nodes
use Rattle.c_types_table.specs.Tables.{made}
use Rattle.c_types_rules.specs.Checked.{Checked, Fine, Noted, Broken}
use Rattle.c_types_rules.specs.Environment.{Environment, is_reserved, place_in, struct_type}
use Rattle.c_types_rules.specs.Sources.{Program, at_file, is_next, members_from, struct_defined}
use Rattle.c_types_operators.specs.declared.error.TypeError.{TypeError}
use Rattle.c_types_operators.specs.declared.error.TypeError.TheVariants as operators
use Rattle.c_types_operators.specs.Answers.{IsNothing}
use Rattle.c_types_structs.specs.Members.{MemberList}
use Rattle.c_types_environment.specs.States.{KeepsAll, State, notes_of}
use Rattle.c_types_expressions.specs.Found.{Finds, Found, Stays}
use Rattle.c_types_expressions.proofs.Kept.{all_stay}
use Rattle.c_types.specs.declared.declarations.Declarations.{Declarations}
use Rattle.c_types.specs.States.{Follows, IsSound, Steps, program_of}
use Rattle.c_types.specs.Members.{AreBelow, members_in}
use Rattle.c_types.specs.Pieces.{defined_struct}
use Rattle.c_types.proofs.Defined.{one_struct}
use Rattle.c_types.proofs.Followed.{at_file_is, going_on, program_on, small_before, sound_on}
use Rattle.c_types.proofs.Gathered.{AreMembers}
use Rattle.c_types.proofs.Naming.{IsProgramOf}
use Rattle.c_types.proofs.Stepping.{goes_to, is_broken, is_kept, then_steps, then_stops}

-- ---- which struct is next

next_named : (n : ℕ) (tag : List ℕ) (o : Option ℕ) (ts : List CType) (v : Ty) → made ts v ≡ struct_type tag o → (b : Bool) → ((k : _) → v ≡ nodes.Struct k → b ≡ (k.0 == n)) → (((k : _) → v ≡ nodes.Struct k → ⊥) → b ≡ false) → b ≡ is_next n o
next_named n tag (Some k) ts (nodes.Struct s) e b there other = (let same : s.0 ≡ k = cc in there s refl ∙ ap (λ v. v == n) same)
next_named n tag (Some k) ts nodes.Void e b there other = absurd cc
next_named n tag (Some k) ts (nodes.Int i) e b there other = absurd cc
next_named n tag (Some k) ts (nodes.Pointer t) e b there other = absurd cc
next_named n tag (Some k) ts (nodes.Array t l) e b there other = absurd cc
next_named n tag (Some k) ts (nodes.UndefinedStruct u) e b there other = absurd cc
next_named n tag (Some k) ts (nodes.Function r ps) e b there other = absurd cc
next_named n tag None ts (nodes.Struct s) e b there other = absurd cc
next_named n tag None ts nodes.Void e b there other = absurd cc
next_named n tag None ts (nodes.Int i) e b there other = absurd cc
next_named n tag None ts (nodes.Pointer t) e b there other = absurd cc
next_named n tag None ts (nodes.Array t l) e b there other = absurd cc
next_named n tag None ts (nodes.UndefinedStruct u) e b there other = other (λ k w. absurd cc)
next_named n tag None ts (nodes.Function r ps) e b there other = absurd cc

-- a struct is named, whose number is or isn't the next
pub next_is : (n : ℕ) (tag : List ℕ) (o : Option ℕ) (ts : List CType) (v : Ty) (k : _) (b : Bool) → made ts v ≡ struct_type tag o → v ≡ nodes.Struct k → b ≡ (k.0 == n) → b ≡ is_next n o
next_is n tag o ts v k b e w same = next_named n tag o ts v e b (λ j u. let one : j ≡ k = cc in same ∙ ap (λ x. x.0 == n) (sym one)) (λ f. absurd (f k w))

-- a struct is named that is never defined
pub next_is_not : (n : ℕ) (tag : List ℕ) (o : Option ℕ) (ts : List CType) (v : Ty) → made ts v ≡ struct_type tag o → ((k : _) → v ≡ nodes.Struct k → ⊥) → false ≡ is_next n o
next_is_not n tag o ts v e f = next_named n tag o ts v e false (λ k w. absurd (f k w)) (λ g. refl)

-- ---- the tests of a definition

module _ (d : Declarations) (from : ℕ) (tag : List ℕ) (ds : Decls) where
  abbrev tags : List (List ℕ)
  tags = d.env.env.tags

  abbrev p : Program
  p = program_of d

  abbrev next : Bool
  next = is_next (length d.env.env.structs) (place_in tag tags)

  pub reserved_tag : is_reserved tag ≡ true → Follows d d (struct_defined tags p from tag ds) (Err (operators.Rule from 19))
  reserved_tag w = is_broken d d (IsProgramOf d) from 19 (not (is_reserved tag)) _ (ap not w)

  pub not_next : (s : State) → KeepsAll d.env s → is_reserved tag ≡ false → next ≡ false → Follows d (going_on d s) (struct_defined tags p from tag ds) (Err (operators.Rule from 1))
  not_next s k w z =
      is_kept d (going_on d s) (IsProgramOf (going_on d s)) from 19 (not (is_reserved tag)) _ _ (ap not w)
      (is_broken d (going_on d s) (IsProgramOf (going_on d s)) from 1 next (defined_struct tags p ds) z)

  module _ (s : State) (k : KeepsAll d.env s) (h : IsSound d) where
    pub sound_next : IsSound (going_on d s)
    sound_next = sound_on d s (all_stay d.env s k) h (λ e. sym (ap (λ n. n.large) k.notes) ∙ e)

    pub struct_next : (new : Declarations) (r : Result (Unit {0}) TypeError) → is_reserved tag ≡ false → next ≡ true → Follows (going_on d s) new (defined_struct s.env.tags (program_of (going_on d s)) ds) r → Follows d new (struct_defined tags p from tag ds) r
    struct_next new r w z f =
        is_kept d new (IsProgramOf new) from 19 (not (is_reserved tag)) _ r (ap not w)
        (is_kept d new (IsProgramOf new) from 1 next (defined_struct tags p ds) r z
        (begun r
        (subst (λ v. Follows (going_on d s) new (defined_struct v p ds) r) (ap (λ v. v.tags) k.env)
        (subst (λ v. Follows (going_on d s) new (defined_struct s.env.tags v ds) r) (program_on d s (all_stay d.env s k) h) f))))
      where
        begun : (r : Result (Unit {0}) TypeError) → Steps (going_on d s) new (IsProgramOf new) (defined_struct tags p ds) r → Steps d new (IsProgramOf new) (defined_struct tags p ds) r
        begun r g = then_steps d (going_on d s) new IsNothing (IsProgramOf new) (Fine tt) (λ x. defined_struct tags p ds) tt r (record { agrees = (tt, k.notes); kept = goes_to d s (all_stay d.env s k) sound_next }) (λ x w. g)

-- ---- its members

module _ (N : Nodes) (is : List DeclId) (d : Declarations) (h : IsSound d) (s : State) where
  abbrev file : Environment
  file = at_file d.env.env.tags (program_of d)

  abbrev MembersFound : Result MemberList TypeError → Type 0
  MembersFound r = (ds : Decls) → StandDecls N is ds → Finds d.env s (AreMembers s.table) (members_from d.env.env [] ds) r

  members_here : (r : Result MemberList TypeError) → MembersFound r → (ds : Decls) → StandDecls N is ds → Found (notes_of d.env) (notes_of s) (AreMembers s.table) (members_from file [] ds) r
  members_here r f ds o = subst (λ v. Found (notes_of d.env) (notes_of s) (AreMembers s.table) (members_from v [] ds) r) (sym (at_file_is d h)) (f ds o)

  pub members_stop : (x : TypeError) → MembersFound (Err x) → (ds : Decls) → StandDecls N is ds → Follows d (going_on d s) (defined_struct d.env.env.tags (program_of d) ds) (Err x)
  members_stop x f ds o = then_stops d (going_on d s) (going_on d s) (AreMembers s.table) (IsProgramOf (going_on d s)) (members_from file [] ds) (one_struct file (program_of d)) x (members_here (Err x) f ds o)

  module _ (m : MemberList) (f : MembersFound (Ok m)) (k : Stays d.env s) where
    -- the types of the members are there
    pub members_below : (ds : Decls) → StandDecls N is ds → AreBelow s.table m
    members_below ds o = by (members_from file [] ds) (members_here (Ok m) f ds o)
      where
        by : (c : Checked (List (List ℕ × CType))) → Found (notes_of d.env) (notes_of s) (AreMembers s.table) c (Ok m) → AreBelow s.table m
        by (Fine x) q = q.0.1
        by (Noted n x) q = q.0.1
        by (Broken a b) q = absurd q

    sound_here : (ds : Decls) → StandDecls N is ds → IsSound (going_on d s)
    sound_here ds o = sound_on d s k h (small_before (notes_of d.env) (notes_of s) (AreMembers s.table) (members_from file [] ds) m (members_here (Ok m) f ds o))

    -- one more struct
    pub struct_added : (u : State) (n : Declarations) (r : Result (Unit {0}) TypeError) → (IsSound (going_on d s) → Follows (going_on d s) n (one_struct s.env (program_of (going_on d s)) (members_in s.table m)) r) → (ds : Decls) → StandDecls N is ds → Follows d n (defined_struct d.env.env.tags (program_of d) ds) r
    struct_added u n r g ds o =
        let sound = sound_here ds o in
        then_steps d (going_on d s) n (AreMembers s.table) (IsProgramOf n) (members_from file [] ds) (one_struct file (program_of d)) m r
        (record { agrees = members_here (Ok m) f ds o; kept = goes_to d s k sound })
        (λ x w. subst (λ v. Follows (going_on d s) n (one_struct file (program_of d) v) r) w.0
        (subst (λ v. Follows (going_on d s) n (one_struct file v (members_in s.table m)) r) (program_on d s k h)
        (subst (λ v. Follows (going_on d s) n (one_struct v (program_of (going_on d s)) (members_in s.table m)) r) (k.env ∙ sym (at_file_is d h)) (g sound))))
