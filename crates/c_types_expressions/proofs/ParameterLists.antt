-- Parameters, one after another.
use Rattle.std.proofs.Common.{◌≡◌, ◌+◌, ℕ, Bool, List, [], ◌∷◌, ◌++◌, Ok, Err, refl, sym, ap, ◌∙◌, subst}
use Rattle.c_syntax.specs.declared.id.DeclId.{DeclId}
use Rattle.c_syntax.specs.Nodes.{Nodes}
use Rattle.c_syntax.specs.Syntax.{Decl, Decls, MoreDecls}
use Rattle.c_syntax.specs.Stands.{StandsDecl, StandDecls}
use Rattle.c_types_model.specs.Types.{CType, CTypes, NoTypes, MoreTypes}
use Rattle.c_types_table.specs.declared.ids.TypeId.{TypeId}
use Rattle.c_types_table.specs.Tables.{type_at}
use Rattle.c_types_rules.specs.Checked.{Checked, Fine, Noted, Broken, ◌>>=◌, Notes}
use Rattle.c_types_rules.specs.Environment.{Environment}
use Rattle.c_types_rules.specs.Expressions.{parameter_scope, parameter_type, parameter_types}
use Rattle.c_types_nodes.specs.Tables.{Table, Keeps}
use Rattle.c_types_operators.specs.declared.error.TypeError.{TypeError}
use Rattle.c_types_environment.specs.States.{notes_of, State}
use Rattle.c_types_expressions.specs.Found.{Found, Finds, IsType, AreTypes}
use Rattle.c_types_expressions.proofs.Sequences.{passed, gone_on, stopped_in, in_turn, same_steps}
use Rattle.c_types_expressions.proofs.Kept.{then_kept, types_stay}
use Rattle.c_types_expressions.proofs.Lists.{first_decl, no_decl}
use Rattle.c_types_expressions.proofs.Rests.{RestOfParameters, joined}

-- ---- lists of types

joined_more : (ts : CTypes) (t : CType) (us : CTypes) → joined (joined ts (MoreTypes t NoTypes)) us ≡ joined ts (MoreTypes t us)
joined_more NoTypes t us = refl
joined_more (MoreTypes s ts) t us = ap (MoreTypes s) (joined_more ts t us)

joined_end : (ts : CTypes) → joined ts NoTypes ≡ ts
joined_end NoTypes = refl
joined_end (MoreTypes t ts) = ap (MoreTypes t) (joined_end ts)

one_type_more : (table : Table) (ts : CTypes) (ids : List TypeId) (t : CType) (id : TypeId) → AreTypes table ts ids → IsType table t id → AreTypes table (joined ts (MoreTypes t NoTypes)) (ids ++ id ∷ [])
one_type_more table NoTypes [] t id h p = (p, tt)
one_type_more table NoTypes (i ∷ ids) t id h p = absurd h
one_type_more table (MoreTypes s ts) [] t id h p = absurd h
one_type_more table (MoreTypes s ts) (i ∷ ids) t id h p = (h.0, one_type_more table ts ids t id h.1 p)

-- ---- one parameter

-- a type that is found is there
there_now : (t : Table) (id : TypeId) (c : Checked CType) (f g : Notes) → Found f g (IsType t) c (Ok id) → IsType t (type_at t.types id) id
there_now t id (Fine x) f g h = record { inside = h.0.inside; is = refl }
there_now t id (Noted n x) f g h = record { inside = h.0.inside; is = refl }
there_now t id (Broken from rule) f g h = absurd h

-- what the rest of the parameters is by its first
rest_is : (d : Decl) (ds : Decls) (E : Environment) (place : ℕ) (K : CTypes → Checked CTypes) →
    (parameter_types (MoreDecls d ds) E place >>= K) ≡ (parameter_type d E >>= (λ t. parameter_scope d E place t >>= (λ within. parameter_types ds within (place + 1) >>= (λ ts. K (MoreTypes t ts)))))
rest_is d ds E place K =
    in_turn (parameter_type d E) _ K
    ∙ same_steps (parameter_type d E) _ _ (λ t. in_turn (parameter_scope d E place t) _ K
    ∙ same_steps (parameter_scope d E place t) _ _ (λ within. in_turn (parameter_types ds within (place + 1)) (λ ts. Fine (MoreTypes t ts)) K))

nothing_before : (c : Checked CTypes) → (c >>= (λ ts. Fine (joined NoTypes ts))) ≡ c
nothing_before (Fine x) = refl
nothing_before (Noted n x) = refl
nothing_before (Broken from rule) = refl

pub parameters_begin : (N : Nodes) (E : Environment) (f : Notes) (t : Table) (vs : List DeclId) (ds : Decls) → StandDecls N vs ds → RestOfParameters N E E f f t [] 0 vs ds
parameters_begin N E f t vs ds h = record {
  rest = ds;
  stand = h;
  done = NoTypes;
  there = tt;
  go_on = λ table h r p. passed f h (AreTypes table) _ _ r (sym (nothing_before (parameter_types ds E 0))) p;
}

pub parameters_next : (N : Nodes) (E : Environment) (f : Notes) (now mid new : State) (ids : List TypeId) (place : ℕ) (v : DeclId) (vs us : List DeclId) (ds : Decls) (ty : TypeId) → us ≡ v ∷ vs → Keeps now.table mid.table → Keeps mid.table new.table →
    mid.env ≡ now.env → RestOfParameters N E now.env f (notes_of now) now.table ids place us ds →
    ((d : Decl) → StandsDecl N v d → Finds now mid (IsType mid.table) (parameter_type d now.env) (Ok ty)) →
    ((d : Decl) → StandsDecl N v d → Finds mid new (λ (e : Environment) (x : Unit {0}). new.env ≡ e) (parameter_scope d mid.env place (type_at mid.table.types ty)) (Ok tt)) →
    RestOfParameters N E new.env f (notes_of new) new.table (ids ++ ty ∷ []) (place + 1) vs ds
parameters_next N E f now mid new ids place v vs us ds ty u k l e rest typed declared =
    let one = first_decl N v vs rest.rest (subst (λ ws. StandDecls N ws rest.rest) u rest.stand) in
    let done = joined rest.done (MoreTypes (type_at mid.table.types ty) NoTypes) in
    let found_type = typed one.first one.on_first in
    let found_scope = declared one.first one.on_first in
    record {
      rest = one.others;
      stand = one.on_others;
      done = done;
      there = one_type_more new.table rest.done ids (type_at mid.table.types ty) ty (types_stay now.table new.table rest.done ids (then_kept _ _ _ k l) rest.there) (l.types.names ty (type_at mid.table.types ty) (there_now mid.table ty (parameter_type one.first now.env) _ _ found_type));
      go_on = λ table h r p. rest.go_on table h r (passed (notes_of now) h (AreTypes table) _ _ r
          (ap (λ es. parameter_types es now.env place >>= (λ ts. Fine (joined rest.done ts))) one.is ∙ rest_is one.first one.others now.env place (λ ts. Fine (joined rest.done ts)))
          (gone_on (notes_of now) (notes_of mid) h (IsType mid.table) (AreTypes table) (parameter_type one.first now.env) _ ty r found_type (λ t at.
          gone_on (notes_of mid) (notes_of new) h (λ (w : Environment) (x : Unit {0}). new.env ≡ w) (AreTypes table) (parameter_scope one.first now.env place t) _ tt r
          (passed (notes_of mid) (notes_of new) (λ (w : Environment) (x : Unit {0}). new.env ≡ w) _ _ (Ok tt) (ap (λ F. parameter_scope one.first F place t) (sym e) ∙ ap (parameter_scope one.first mid.env place) (sym at.is)) found_scope)
          (λ within same. passed (notes_of new) h (AreTypes table) _ _ r
          (ap (λ F. parameter_types one.others F (place + 1) >>= (λ ts. Fine (joined rest.done (MoreTypes t ts)))) (sym same)
          ∙ same_steps (parameter_types one.others new.env (place + 1)) _ _ (λ ts. ap Fine (ap (λ y. joined rest.done (MoreTypes y ts)) (sym at.is) ∙ sym (joined_more rest.done (type_at mid.table.types ty) ts))))
          p))));
    }

pub type_stops : (N : Nodes) (E : Environment) (f : Notes) (now mid : State) (t : Table) (ids : List TypeId) (place : ℕ) (v : DeclId) (vs us : List DeclId) (ds : Decls) (x : TypeError) → us ≡ v ∷ vs → RestOfParameters N E now.env f (notes_of now) now.table ids place us ds →
    ((d : Decl) → StandsDecl N v d → Finds now mid (IsType mid.table) (parameter_type d now.env) (Err x)) → Found f (notes_of mid) (AreTypes mid.table) (parameter_types ds E 0) (Err x)
type_stops N E f now mid t ids place v vs us ds x u rest typed =
    let one = first_decl N v vs rest.rest (subst (λ ws. StandDecls N ws rest.rest) u rest.stand) in
    rest.go_on mid.table (notes_of mid) (Err x) (passed (notes_of now) (notes_of mid) (AreTypes mid.table) _ _ (Err x)
    (ap (λ es. parameter_types es now.env place >>= (λ ts. Fine (joined rest.done ts))) one.is ∙ rest_is one.first one.others now.env place (λ ts. Fine (joined rest.done ts)))
    (stopped_in (notes_of now) (notes_of mid) (notes_of mid) (IsType mid.table) (AreTypes mid.table) (parameter_type one.first now.env) _ x (typed one.first one.on_first)))

pub scope_stops : (N : Nodes) (E : Environment) (f : Notes) (now mid new : State) (ids : List TypeId) (place : ℕ) (v : DeclId) (vs us : List DeclId) (ds : Decls) (ty : TypeId) (x : TypeError) → us ≡ v ∷ vs →
    mid.env ≡ now.env → RestOfParameters N E now.env f (notes_of now) now.table ids place us ds →
    ((d : Decl) → StandsDecl N v d → Finds now mid (IsType mid.table) (parameter_type d now.env) (Ok ty)) →
    ((d : Decl) → StandsDecl N v d → Finds mid new (λ (e : Environment) (x : Unit {0}). new.env ≡ e) (parameter_scope d mid.env place (type_at mid.table.types ty)) (Err x)) →
    Found f (notes_of new) (AreTypes new.table) (parameter_types ds E 0) (Err x)
scope_stops N E f now mid new ids place v vs us ds ty x u e rest typed declared =
    let one = first_decl N v vs rest.rest (subst (λ ws. StandDecls N ws rest.rest) u rest.stand) in
    rest.go_on new.table (notes_of new) (Err x) (passed (notes_of now) (notes_of new) (AreTypes new.table) _ _ (Err x)
    (ap (λ es. parameter_types es now.env place >>= (λ ts. Fine (joined rest.done ts))) one.is ∙ rest_is one.first one.others now.env place (λ ts. Fine (joined rest.done ts)))
    (gone_on (notes_of now) (notes_of mid) (notes_of new) (IsType mid.table) (AreTypes new.table) (parameter_type one.first now.env) _ ty (Err x) (typed one.first one.on_first) (λ t at.
    stopped_in (notes_of mid) (notes_of new) (notes_of new) (λ (w : Environment) (y : Unit {0}). new.env ≡ w) (AreTypes new.table) (parameter_scope one.first now.env place t) _ x
    (passed (notes_of mid) (notes_of new) (λ (w : Environment) (y : Unit {0}). new.env ≡ w) _ _ (Err x) (ap (λ F. parameter_scope one.first F place t) (sym e) ∙ ap (parameter_scope one.first mid.env place) (sym at.is)) (declared one.first one.on_first)))))

pub parameters_end : (N : Nodes) (E : Environment) (f : Notes) (now : State) (ids : List TypeId) (place : ℕ) (us : List DeclId) (ds : Decls) → us ≡ [] → RestOfParameters N E now.env f (notes_of now) now.table ids place us ds →
    Found f (notes_of now) (AreTypes now.table) (parameter_types ds E 0) (Ok ids)
parameters_end N E f now ids place us ds u rest =
    let none = no_decl N rest.rest (subst (λ ws. StandDecls N ws rest.rest) u rest.stand) in
    rest.go_on now.table (notes_of now) (Ok ids) (passed (notes_of now) (notes_of now) (AreTypes now.table) _ _ (Ok ids)
    (ap (λ es. parameter_types es now.env place >>= (λ ts. Fine (joined rest.done ts))) none ∙ ap Fine (joined_end rest.done))
    (rest.there, refl))
