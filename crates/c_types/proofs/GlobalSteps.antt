-- Globals: their names, and their values.
use Rattle.std.proofs.Common.{◌≡◌, ℕ, ◌<◌, List, [], ◌∷◌, ◌++◌, length, Option, Some, None, Result, Ok, Err, refl, sym, ap, ◌∙◌, subst}
use Rattle.std.proofs.lemmas.List.{length-map}
use Rattle.std.specs.Option.{option_map}
use Rattle.c_syntax.specs.declared.id.DeclId.{DeclId}
use Rattle.c_syntax.specs.declared.declaration.Base.{Base}
use Rattle.c_syntax.specs.declared.declaration.Decl.{Decl as DeclNode}
use Rattle.c_syntax.specs.declared.declaration.Rest.{Rest as After}
use Rattle.c_syntax.specs.declared.declaration.Rest.TheVariants as rests
use Rattle.c_syntax.specs.declared.declaration.Value.{Value as Given}
use Rattle.c_syntax.specs.Nodes.{Nodes, decl_at}
use Rattle.c_syntax.specs.Syntax.{Annots, Decl, Parts, Rest, Value, Declare, NoRest, Initial, Body, Members}
use Rattle.c_syntax.specs.Stands.{StandsDecl, StandsRest, StandsValue}
use Rattle.c_types_model.specs.Types.{CType}
use Rattle.c_types_table.specs.declared.ids.TypeId.{TypeId}
use Rattle.c_types_table.specs.Tables.{type_at}
use Rattle.c_types_rules.specs.Checked.{Checked, Fine, Noted, Broken, heard, ◌>>=◌, ◌>>◌}
use Rattle.c_types_rules.specs.TypedTree.{Typed}
use Rattle.c_types_nodes.specs.declared.ids.NodeId.{NodeId}
use Rattle.c_types_nodes.specs.Lists.{AreNodes, nodes_at}
use Rattle.c_types_rules.specs.Environment.{Meaning, GlobalNamed, declarable, extents}
use Rattle.c_types_rules.specs.Expressions.{complete, declared_name}
use Rattle.c_types_rules.specs.Initials as initials
use Rattle.c_types_rules.specs.Sources as sources
use Rattle.c_types_rules.specs.Sources.{Program, at_file, global_value}
use Rattle.c_types_operators.specs.declared.error.TypeError.{TypeError}
use Rattle.c_types_operators.specs.declared.error.TypeError.TheVariants as operators
use Rattle.c_types_operators.specs.Answers.{Agrees, IsNothing}
use Rattle.c_types_program.specs.declared.global.Global.{Global}
use Rattle.c_types_program.specs.declared.global.Initial.{Initial as TypedInitial}
use Rattle.c_types_program.specs.Declarations.{IsGlobal, global_in, initial_in}
use Rattle.c_types_environment.specs.States.{State, notes_of}
use Rattle.c_types_expressions.specs.Found.{Finds, Found, IsPart, Stays}
use Rattle.c_types_expressions.proofs.Kept.{type_inside, type_stays}
use Rattle.c_types_expressions.proofs.Sequences.{gone_on, noted_nothing, stopped_in}
use Rattle.c_types.specs.declared.declarations.Declarations.{Declarations}
use Rattle.c_types.specs.States.{Follows, IsSound, Steps, program_of}
use Rattle.c_types.specs.Pieces.{global_of}
use Rattle.c_types.proofs.Followed.{at_file_is, going_on, program_on, small_before, sound_on}
use Rattle.c_types.proofs.Naming.{IsProgramOf}
use Rattle.c_types.proofs.Parts.{IsNode, node_is}
use Rattle.c_types.proofs.Pushed.{global_goes, global_program, named_file, named_goes, named_notes, named_program, named_sound, with_one}
use Rattle.c_types.proofs.Stepping.{goes_through, goes_to, stands_still, steps_as, stopped, then_steps, then_steps_after, then_stops, then_stops_before}
use Rattle.c_types.proofs.Stepping as stepping

-- ---- values

-- the value that a global has, where it has one
abbrev pub IsGiven : Option initials.Initial → Option TypedInitial → Type 0
IsGiven x v = option_map initial_in v ≡ x

module _ (N : Nodes) (a b : State) (tags : List (List ℕ)) (p : Program) (at : at_file tags p ≡ a.env) (from : ℕ) (t : CType) where
  pub no_value : (q : After) → q ≡ rests.None → (r : Rest) → StandsRest N q r → Finds a a IsGiven (global_value tags p from t r) (Ok None)
  no_value q w NoRest s = (refl, refl)
  no_value q w (Initial v) (x, e, s) = absurd cc
  no_value q w (Body x) (i, e, s) = absurd cc
  no_value q w (Members ds) (i, e, s) = absurd cc

  module _ (q : After) (g : Given) (w : q ≡ rests.Value g) where
    value_is : (x : Value) (r : Result TypedInitial TypeError) → Finds a b (λ y v. initial_in v ≡ y) (initials.initial x a.env t) r → Found (notes_of a) (notes_of b) (λ y v. initial_in v ≡ y) (initials.initial x (at_file tags p) t) r
    value_is x r f = subst (λ v. Found (notes_of a) (notes_of b) (λ y v. initial_in v ≡ y) (initials.initial x v t) r) (sym at) f

    given_to : (r : Result TypedInitial TypeError) → ((x : Value) → StandsValue N g x → Finds a b (λ y v. initial_in v ≡ y) (initials.initial x a.env t) r) → (s : Result (Option TypedInitial) TypeError)
        → ((x : Value) → Found (notes_of a) (notes_of b) (λ y v. initial_in v ≡ y) (initials.initial x (at_file tags p) t) r → Found (notes_of a) (notes_of b) IsGiven (initials.initial x (at_file tags p) t >>= (λ y. Fine (Some y))) s)
        → (z : Rest) → StandsRest N q z → Finds a b IsGiven (global_value tags p from t z) s
    given_to r f s go NoRest e = absurd cc
    given_to r f s go (Initial x) (h, e, o) = (let same : h ≡ g = cc in go x (value_is x r (f x (subst (λ v. StandsValue N v x) same o))))
    given_to r f s go (Body x) (i, e, o) = absurd cc
    given_to r f s go (Members ds) (i, e, o) = absurd cc

    pub value_stops : (x : TypeError) → ((y : Value) → StandsValue N g y → Finds a b (λ y v. initial_in v ≡ y) (initials.initial y a.env t) (Err x)) → (z : Rest) → StandsRest N q z → Finds a b IsGiven (global_value tags p from t z) (Err x)
    value_stops x f = given_to (Err x) f (Err x) (λ y h. stopped_in (notes_of a) (notes_of b) (notes_of b) (λ y v. initial_in v ≡ y) IsGiven (initials.initial y (at_file tags p) t) (λ y. Fine (Some y)) x h)

    pub value_given : (v : TypedInitial) → ((y : Value) → StandsValue N g y → Finds a b (λ y v. initial_in v ≡ y) (initials.initial y a.env t) (Ok v)) → (z : Rest) → StandsRest N q z → Finds a b IsGiven (global_value tags p from t z) (Ok (Some v))
    value_given v f = given_to (Ok v) f (Ok (Some v)) (λ y h. gone_on (notes_of a) (notes_of b) (notes_of b) (λ y v. initial_in v ≡ y) IsGiven (initials.initial y (at_file tags p) t) (λ y. Fine (Some y)) v (Ok (Some v)) h (λ z m. (ap Some m, refl)))

  pub body_value : (q : After) (i : _) → q ≡ rests.Body i → (r : Rest) → StandsRest N q r → Finds a a IsGiven (global_value tags p from t r) (Err (operators.Rule from 21))
  body_value q i w NoRest s = absurd cc
  body_value q i w (Initial v) (x, e, s) = absurd cc
  body_value q i w (Body x) (j, e, s) = (refl, refl)
  body_value q i w (Members ds) (j, e, s) = absurd cc

  pub members_value : (q : After) (is : List DeclId) → q ≡ rests.Members is → (r : Rest) → StandsRest N q r → Finds a a IsGiven (global_value tags p from t r) (Err (operators.Rule from 3))
  members_value q is w NoRest s = absurd cc
  members_value q is w (Initial v) (x, e, s) = absurd cc
  members_value q is w (Body x) (j, e, s) = absurd cc
  members_value q is w (Members ds) (j, e, s) = (refl, refl)

-- ---- a global

module _ (N : Nodes) (i : DeclId) (e : DeclNode) (there : decl_at N i ≡ Some e) (d : Declarations) (h : IsSound d) (ty : TypeId) (lt : ty.0 < length d.env.table.types) (name : List ℕ) (spelled : name ≡ declared_name e.name) (place : ℕ) (counted : place ≡ length d.globals.items) where
  abbrev t : CType
  t = type_at d.env.table.types ty

  abbrev tags : List (List ℕ)
  tags = d.env.env.tags

  abbrev p : Program
  p = program_of d

  abbrev all : Decl → Checked Program
  all y = global_of tags p t y

  abbrev m : Meaning
  m = GlobalNamed place t

  abbrev named : Program
  named = record p { names = (name, m) ∷ p.names }

  abbrev with_value : Option initials.Initial × List Typed → Program
  with_value x = record named { globals = named.globals ++ record { name = name; type = t; value = x.0; unevaluated = x.1 } ∷ [] }

  -- the steps in turn
  abbrev valued : Rest → Checked Program
  valued q = heard (global_value tags named e.from t q) >>= (λ x. Fine (with_value x))

  abbrev declaring : Rest → Checked Program
  declaring q = declarable d.env.env e.from name >> valued q

  abbrev in_turn : Rest → Checked Program
  in_turn q = complete (extents d.env.env) e.from t >> declaring q

  counted_too : place ≡ length p.globals
  counted_too = counted ∙ sym (length-map d.globals.items (global_in d.env.table))

  valued_at : (place : ℕ) → Rest → Checked Program
  valued_at j q =
      let named_at : Program = record p { names = (name, GlobalNamed j t) ∷ p.names } in
      heard (global_value tags named_at e.from t q) >>= (λ x. Fine (record named_at { globals = named_at.globals ++ record { name = name; type = t; value = x.0; unevaluated = x.1 } ∷ [] }))

  -- the environment with its name
  abbrev pub IsNamed : State → Unit {0} → Unit {0} → Type 0
  IsNamed s x y = s ≡ with_one d.env name m

  all_is : (from : ℕ) (an : Annots) (b : Base) (ps : Parts) (n : Option (List ℕ)) (q : Rest) → IsNode N e from an b ps n q → all (Declare from an b ps n q) ≡ in_turn q
  unfolding valued_at
  all_is from an b ps n q k =
      ap (λ v. sources.global tags p from (declared_name v) t q) (sym k.name)
      ∙ (ap (λ v. sources.global tags p from v t q) (sym spelled)
      ∙ (ap (λ v. sources.global tags p v name t q) (sym k.offset)
      ∙ (ap (λ j. complete (extents (at_file tags p)) e.from t >> (declarable (at_file tags p) e.from name >> valued_at j q)) (sym counted_too)
      ∙ ap (λ v. complete (extents v) e.from t >> (declarable v e.from name >> valued q)) (at_file_is d h))))

  pub not_complete : (x : TypeError) → Agrees IsNothing (complete (extents d.env.env) e.from t) (Err x) → (y : Decl) → StandsDecl N i y → Follows d d (all y) (Err x)
  not_complete x f (Declare from an b ps n q) z =
      let k = node_is N i e from an b ps n q z there in
      steps_as d d (IsProgramOf d) _ (in_turn q) (Err x) (all_is from an b ps n q k)
      (then_stops_before d d d IsNothing (IsProgramOf d) (complete (extents d.env.env) e.from t) (declaring q) x (noted_nothing (notes_of d.env) (notes_of d.env) IsNothing (complete (extents d.env.env) e.from t) (Err x) refl f))

  module _ (f : Agrees IsNothing (complete (extents d.env.env) e.from t) (Ok tt)) where
    completed : Steps d d IsNothing (complete (extents d.env.env) e.from t) (Ok tt)
    completed = record { agrees = noted_nothing (notes_of d.env) (notes_of d.env) IsNothing (complete (extents d.env.env) e.from t) (Ok tt) refl f; kept = stands_still d h }

    pub not_declared : (s : State) (x : TypeError) → Agrees (IsNamed s) (declarable d.env.env e.from name) (Err x) → s ≡ d.env → (y : Decl) → StandsDecl N i y → Follows d (going_on d s) (all y) (Err x)
    not_declared s x g stays (Declare from an b ps n q) z =
        let k = node_is N i e from an b ps n q z there in
        subst (λ v. Follows d (going_on d v) (all (Declare from an b ps n q)) (Err x)) (sym stays)
        (steps_as d d (IsProgramOf d) _ (in_turn q) (Err x) (all_is from an b ps n q k)
        (then_steps_after d d d IsNothing (IsProgramOf d) (complete (extents d.env.env) e.from t) (declaring q) tt (Err x) completed
        (then_stops_before d d d (IsNamed s) (IsProgramOf d) (declarable d.env.env e.from name) (valued q) x (noted_nothing (notes_of d.env) (notes_of d.env) (IsNamed s) (declarable d.env.env e.from name) (Err x) refl g))))

    module _ (s : State) (g : Agrees (IsNamed s) (declarable d.env.env e.from name) (Ok tt)) where
      named_is : s ≡ with_one d.env name m
      named_is = by (declarable d.env.env e.from name) g
        where
          by : (c : Checked (Unit {0})) → Agrees (IsNamed s) c (Ok tt) → s ≡ with_one d.env name m
          by (Fine x) k = k
          by (Noted n x) k = absurd k
          by (Broken a b) k = absurd k

      pub file_is : at_file tags named ≡ s.env
      file_is = named_file d s name m h named_is

      type_is : type_at s.table.types ty ≡ t
      type_is = ap (λ v. type_at v.table.types ty) named_is

      declared : Steps d (going_on d s) (IsNamed s) (declarable d.env.env e.from name) (Ok tt)
      declared = record {
        agrees = noted_nothing (notes_of d.env) (notes_of s) (IsNamed s) (declarable d.env.env e.from name) (Ok tt) (named_notes d s name m h named_is) g;
        kept = named_goes d s name m h named_is;
      }

      -- the steps up to the value
      to_value : (new : Declarations) (r : Result (Unit {0}) TypeError) → ((q : Rest) → StandsRest N e.rest q → Steps (going_on d s) new (IsProgramOf new) (valued q) r) → (y : Decl) → StandsDecl N i y → Follows d new (all y) r
      to_value new r v (Declare from an b ps n q) z =
          let k = node_is N i e from an b ps n q z there in
          steps_as d new (IsProgramOf new) _ (in_turn q) r (all_is from an b ps n q k)
          (then_steps_after d d new IsNothing (IsProgramOf new) (complete (extents d.env.env) e.from t) (declaring q) tt r completed
          (then_steps_after d (going_on d s) new (IsNamed s) (IsProgramOf new) (declarable d.env.env e.from name) (valued q) tt r declared (v q k.rest)))

      abbrev ValueFound : State → Result (Option TypedInitial × List NodeId) TypeError → Type 0
      ValueFound u r = (tags : List (List ℕ)) (p : Program) (q : Rest) → at_file tags p ≡ s.env → StandsRest N e.rest q → Finds s u (IsPart u IsGiven) (heard (global_value tags p e.from (type_at s.table.types ty) q)) r

      value_here : (u : State) (r : Result (Option TypedInitial × List NodeId) TypeError) → ValueFound u r → (q : Rest) → StandsRest N e.rest q → Found (notes_of s) (notes_of u) (IsPart u IsGiven) (heard (global_value tags named e.from t q)) r
      value_here u r f q o = subst (λ v. Found (notes_of s) (notes_of u) (IsPart u IsGiven) (heard (global_value tags named e.from v q)) r) type_is (f tags named q file_is o)

      pub global_value_stops : (u : State) (x : TypeError) → ValueFound u (Err x) → (y : Decl) → StandsDecl N i y → Follows d (going_on d u) (all y) (Err x)
      global_value_stops u x f = to_value (going_on d u) (Err x) (λ q o. then_stops (going_on d s) (going_on d u) (going_on d u) (IsPart u IsGiven) (IsProgramOf (going_on d u)) (heard (global_value tags named e.from t q)) (λ x. Fine (with_value x)) x (value_here u (Err x) f q o))

      module _ (u : State) (v : Option TypedInitial) (ids : List NodeId) (value : ValueFound u (Ok (v, ids))) (are : AreNodes u.table ids) (l : Stays s u) (n : Declarations) (same : n ≡ record (going_on d u) { globals = n.globals }) (pushed : n.globals.items ≡ d.globals.items ++ record { name = name; ty = ty; value = v; unevaluated = ids } ∷ []) where
        abbrev g' : Global
        g' = record { name = name; ty = ty; value = v; unevaluated = ids }

        in_s : ty.0 < length s.table.types
        in_s = subst (λ v. ty.0 < length v.table.types) (sym named_is) lt

        pub global_added : (y : Decl) → StandsDecl N i y → Follows d n (all y) (Ok tt)
        global_added = to_value n (Ok tt) (λ q o.
            let found = value_here u (Ok (v, ids)) value q o in
            let sound : IsSound (going_on d u) = sound_on (going_on d s) u l (named_sound d s name m h named_is) (small_before (notes_of s) (notes_of u) (IsPart u IsGiven) (heard (global_value tags named e.from t q)) (v, ids) found) in
            then_steps (going_on d s) (going_on d u) n (IsPart u IsGiven) (IsProgramOf n) (heard (global_value tags named e.from t q)) (λ x. Fine (with_value x)) (v, ids) (Ok tt)
            (record { agrees = found; kept = goes_to (going_on d s) u l sound })
            (λ x w. stepping.there (going_on d u) n (IsProgramOf n) (with_value x) tt (ap (λ v. notes_of v.env) same) (program_is sound x w) (global_goes (going_on d u) g' n sound is_global same pushed)))
          where
            in_u : ty.0 < length u.table.types
            in_u = type_inside _ _ _ l.numbers in_s

            is_global : IsGlobal u.table g'
            is_global = record { type = in_u; unevaluated = are }

            type_on : type_at u.table.types ty ≡ t
            type_on = type_stays s.table u.table ty l.numbers in_s ∙ type_is

            program_is : IsSound (going_on d u) → (x : Option initials.Initial × List Typed) → IsPart u IsGiven x (v, ids) → program_of n ≡ with_value x
            program_is sound x w =
                global_program (going_on d u) g' n sound is_global same pushed
                ∙ (ap {A = Program} (λ r. record r { globals = r.globals ++ global_in u.table g' ∷ [] }) (program_on (going_on d s) u l (named_sound d s name m h named_is) ∙ named_program d s name m h named_is)
                ∙ (ap (λ c. record named { globals = named.globals ++ record { name = name; type = c; value = option_map initial_in v; unevaluated = nodes_at u.table ids } ∷ [] }) type_on
                ∙ (ap (λ z. with_value (z, nodes_at u.table ids)) w.0 ∙ ap (λ z. with_value (x.0, z)) w.1)))
