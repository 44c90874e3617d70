-- The parts of a declarator, one after another.
use Rattle.std.proofs.Common.{◌≡◌, ◌<◌, ℕ, zero, suc, Bool, List, [], ◌∷◌, length, get_or, Ok, Err, refl, sym, ap, ◌∙◌, arith, subst}
use Rattle.c_syntax.specs.declared.declaration.Part.{Part}
use Rattle.c_syntax.specs.Nodes.{Nodes}
use Rattle.c_syntax.specs.Syntax.{Parts, NoParts, Pointer, Array, Params}
use Rattle.c_syntax.specs.Stands.{StandParts}
use Rattle.c_types_model.specs.Types.{CType, ArrayOf, FunctionOf, PointerTo}
use Rattle.c_types_table.specs.declared.ids.TypeId.{TypeId}
use Rattle.c_types_table.specs.Tables.{type_at}
use Rattle.c_types_rules.specs.Checked.{Fine, keep, small, ◌>>=◌, ◌>>◌, Notes, unevaluated}
use Rattle.c_types_rules.specs.Constants.{integer_constant}
use Rattle.c_types_rules.specs.TypeTests.{is_result}
use Rattle.c_types_rules.specs.TypedTree.{value_of}
use Rattle.c_types_rules.specs.Environment.{Environment, extents, inner}
use Rattle.c_types_rules.specs.Expressions.{complete, declarator_type, expression, is_small, length_of, parameter_types}
use Rattle.c_types_operators.specs.declared.error.TypeError.{TypeError}
use Rattle.c_types_environment.specs.States.{notes_of, State}
use Rattle.c_syntax_laws.specs.Numbers.{FitsParts}
use Rattle.c_types_expressions.specs.Found.{Found, Finds, IsType}
use Rattle.c_types_expressions.specs.Walks.{AreParts}
use Rattle.c_types_expressions.proofs.Sequences.{passed, gone_on, stopped_in, in_turn, in_turn_after, same_steps}
use Rattle.c_types_expressions.proofs.Lists.{no_part}
use Rattle.c_types_expressions.proofs.Rests.{RestOfParts}

-- the first part alone, and the others
pub record FirstPart (N : Nodes) (v : Part) (vs : List Part) (ps : Parts) : Type 0 where
  pub one : Parts
  pub others : Parts
  pub on_one : StandParts N (v ∷ []) one
  pub on_others : StandParts N vs others
  pub is : (E : Environment) (t : CType) → declarator_type ps E t ≡ (declarator_type one E t >>= declarator_type others E)
  pub fits : FitsParts ps → FitsParts one × FitsParts others

pub first_part : (N : Nodes) (v : Part) (vs : List Part) (ps : Parts) → StandParts N (v ∷ vs) ps → FirstPart N v vs ps
first_part N v vs NoParts e = absurd cc
first_part N v vs (Pointer f ps) (w, ws, e, from, kind, q) =
    let same : w ≡ v = cc in let all : ws ≡ vs = cc in
    record {
      one = Pointer f NoParts;
      others = ps;
      on_one = (w, [], ap (λ u. u ∷ []) (sym same), from, kind, refl);
      on_others = subst (λ us. StandParts N us ps) all q;
      is = λ E t. sym (in_turn_after (small (is_small (extents E) t)) (Fine (PointerTo t)) (declarator_type ps E));
      fits = λ g. (tt, g);
    }
first_part N v vs (Array f x ps) (w, a, ws, e, from, kind, p, q) =
    let same : w ≡ v = cc in let all : ws ≡ vs = cc in
    record {
      one = Array f x NoParts;
      others = ps;
      on_one = (w, a, [], ap (λ u. u ∷ []) (sym same), from, kind, p, refl);
      on_others = subst (λ us. StandParts N us ps) all q;
      is = λ E t. sym (in_turn_after (complete (extents E) f t) _ (declarator_type ps E)
          ∙ ap (λ c. complete (extents E) f t >> c) (in_turn_after (small (is_small (extents E) t)) _ (declarator_type ps E)
          ∙ ap (λ c. small (is_small (extents E) t) >> c) (in_turn (expression x E) _ (declarator_type ps E)
          ∙ same_steps (expression x E) _ _ (λ a. in_turn_after (unevaluated a) (length_of f (integer_constant (value_of a)) >>= (λ n. Fine (ArrayOf n t))) (declarator_type ps E)
          ∙ ap (λ c. unevaluated a >> c) (in_turn (length_of f (integer_constant (value_of a))) (λ n. Fine (ArrayOf n t)) (declarator_type ps E))))));
      fits = λ g. ((g.0, tt), g.1);
    }
first_part N v vs (Params f ds ps) (w, is, ws, e, from, kind, p, q) =
    let same : w ≡ v = cc in let all : ws ≡ vs = cc in
    record {
      one = Params f ds NoParts;
      others = ps;
      on_one = (w, is, [], ap (λ u. u ∷ []) (sym same), from, kind, p, refl);
      on_others = subst (λ us. StandParts N us ps) all q;
      is = λ E t. sym (in_turn_after (keep f 3 (is_result t)) _ (declarator_type ps E)
          ∙ ap (λ c. keep f 3 (is_result t) >> c) (in_turn (parameter_types ds (inner E) 0) (λ ts. Fine (FunctionOf t ts)) (declarator_type ps E)));
      fits = λ g. ((g.0, tt), g.1);
    }

pub part_among : (N : Nodes) (v : Part) (us vs : List Part) → us ≡ v ∷ vs → AreParts N us → AreParts N (v ∷ [])
part_among N v us vs u (ps, s, f) =
    let one = first_part N v vs ps (subst (λ ws. StandParts N ws ps) u s) in
    (one.one, one.on_one, (one.fits f).0)

pub part_at : (N : Nodes) (vs : List Part) (k : ℕ) (d : Part) → k < length vs → AreParts N vs → AreParts N (get_or vs k d ∷ [])
part_at N [] k d h a = absurd (omega arith)
part_at N (v ∷ vs) zero d h a = part_among N v (v ∷ vs) vs refl a
part_at N (v ∷ vs) (suc k) d h (ps, s, f) = let p = first_part N v vs ps s in part_at N vs k d (omega arith) (p.others, p.on_others, (p.fits f).1)

pub parts_begin : (N : Nodes) (E : Environment) (f : Notes) (vs : List Part) (ps : Parts) (t : CType) → StandParts N vs ps → RestOfParts N E f f vs ps t t
parts_begin N E f vs ps t h = record { rest = ps; stand = h; go_on = λ table h r p. p }

pub parts_next : (N : Nodes) (E : Environment) (f : Notes) (now new : State) (v : Part) (vs us : List Part) (ps : Parts) (t u : CType) (ty : TypeId) → us ≡ v ∷ vs → now.env ≡ E → RestOfParts N E f (notes_of now) us ps t u →
    ((one : Parts) → StandParts N (v ∷ []) one → Finds now new (IsType new.table) (declarator_type one now.env u) (Ok ty)) → RestOfParts N E f (notes_of new) vs ps t (type_at new.table.types ty)
parts_next N E f now new v vs us ps t u ty same e rest done =
    let first = first_part N v vs rest.rest (subst (λ ws. StandParts N ws rest.rest) same rest.stand) in
    record {
      rest = first.others;
      stand = first.on_others;
      go_on = λ table h r p. rest.go_on table h r (passed (notes_of now) h (IsType table) _ _ r (first.is E u)
          (gone_on (notes_of now) (notes_of new) h (IsType new.table) (IsType table) (declarator_type first.one E u) (declarator_type first.others E) ty r
          (passed (notes_of now) (notes_of new) (IsType new.table) _ _ (Ok ty) (ap (λ F. declarator_type first.one F u) (sym e)) (done first.one first.on_one))
          (λ x at. passed (notes_of new) h (IsType table) _ _ r (ap (declarator_type first.others E) (sym at.is)) p)));
    }

pub parts_stop : (N : Nodes) (E : Environment) (f : Notes) (now new : State) (v : Part) (vs us : List Part) (ps : Parts) (t u : CType) (x : TypeError) → us ≡ v ∷ vs → now.env ≡ E → RestOfParts N E f (notes_of now) us ps t u →
    ((one : Parts) → StandParts N (v ∷ []) one → Finds now new (IsType new.table) (declarator_type one now.env u) (Err x)) → Found f (notes_of new) (IsType new.table) (declarator_type ps E t) (Err x)
parts_stop N E f now new v vs us ps t u x same e rest done =
    let first = first_part N v vs rest.rest (subst (λ ws. StandParts N ws rest.rest) same rest.stand) in
    rest.go_on new.table (notes_of new) (Err x) (passed (notes_of now) (notes_of new) (IsType new.table) _ _ (Err x) (first.is E u)
    (stopped_in (notes_of now) (notes_of new) (notes_of new) (IsType new.table) (IsType new.table) (declarator_type first.one E u) (declarator_type first.others E) x
    (passed (notes_of now) (notes_of new) (IsType new.table) _ _ (Err x) (ap (λ F. declarator_type first.one F u) (sym e)) (done first.one first.on_one))))

pub parts_end : (N : Nodes) (E : Environment) (f : Notes) (now : State) (us : List Part) (ps : Parts) (t : CType) (ty : TypeId) → us ≡ [] → ty.0 < length now.table.types → RestOfParts N E f (notes_of now) us ps t (type_at now.table.types ty) →
    Found f (notes_of now) (IsType now.table) (declarator_type ps E t) (Ok ty)
parts_end N E f now us ps t ty u inside rest =
    let none = no_part N rest.rest (subst (λ ws. StandParts N ws rest.rest) u rest.stand) in
    rest.go_on now.table (notes_of now) (Ok ty) (passed (notes_of now) (notes_of now) (IsType now.table) _ _ (Ok ty) (ap (λ qs. declarator_type qs E (type_at now.table.types ty)) none) (record { inside = inside; is = refl }, refl))
