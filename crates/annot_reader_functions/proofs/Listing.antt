-- The parameters of a function, one after another.
use Rattle.std.proofs.Common.{◌≡◌, ℕ, zero, suc, ◌+◌, ◌<◌, ◌≤◌, List, [], ◌∷◌, ◌++◌, length, get_or, slice_get, drop, map, Some, None, Vec, Global, Result, Ok, Err, refl, sym, ap, ◌∙◌, subst, add-one, drop-cons, arith}
use Rattle.std.proofs.Math.ListN.{drop_of_length-le}
use Rattle.annot_reader_functions.proofs.Places.{past_all, typed_next}
use Rattle.c_syntax.specs.declared.id.DeclId.{DeclId}
use Rattle.c_syntax.specs.Nodes.{Nodes}
use Rattle.c_syntax.specs.Syntax.{Decl, Decls, NoDecls, MoreDecls}
use Rattle.c_syntax.specs.Stands.{StandDecls, StandsDecl}
use Rattle.c_syntax_laws.specs.Numbers.{FitsDecls}
use Rattle.c_types_model.specs.Types.{CType, CTypes, MoreTypes}
use Rattle.c_types_table.specs.declared.ids.TypeId.{TypeId}
use Rattle.c_types_table.specs.Tables.{all_at, at}
use Rattle.c_types_rules.specs.Checked.{Checked, Fine, Noted, Broken, ◌>>=◌, ◌>>◌}
use Rattle.c_types_rules.specs.Environment.{Environment}
use Rattle.c_types_rules.specs.Expressions.{parameter_scope}
use Rattle.annot_reader_rules.specs.Functions.{all_parameters, bare_within}
use Rattle.annot_reader_rules.specs.Notes.{Parameter}
use Rattle.annot_reader_rules.specs.Regions.{Signature, parameter_notes}
use Rattle.annot_reader_words.specs.declared.error.AnnotationError.{AnnotationError}
use Rattle.annot_reader_words.specs.declared.error.AnnotationError.TheVariants.{Rule, Memory}
use Rattle.annot_reader_words.specs.Answers.{Tells}
use Rattle.annot_reader_words.proofs.Composing.{same_tells, stops}
use Rattle.annot_reader_words.specs.declared.notes.Param.{Param}
use Rattle.annot_reader_words.specs.Readings.{parameter_in, parameters_in}
use Rattle.annot_reader_words.proofs.Folding.{same_after}
use Rattle.annot_reader_functions.specs.declared.signature.Signature.{Signature as Code}
use Rattle.annot_reader_functions.specs.Rules.{Declared, IsTypeName}
use Rattle.annot_reader_functions.specs.Sorts.{AreNamed, IsKnown}
use Rattle.annot_reader_functions.specs.Parameters.{AreDecls, AreRead, IsRead, one_parameter}
use Rattle.annot_reader_functions.proofs.Steps.{after_assoc, bind_assoc, found}

-- one, and then the others
pub all_step : (d : Decl) (ds : Decls) (s : Signature) (place : ℕ) (t : CType) (ts : CTypes) →
    all_parameters (MoreDecls d ds) s place (MoreTypes t ts) ≡ (one_parameter d s place t >>= λ q. (all_parameters ds (record s { env = q.1 }) (place + 1) ts >>= λ ps. Fine (q.0 ∷ ps)))
all_step d ds s place t ts =
    let g : Parameter × Environment → Checked (List Parameter) = λ q. (all_parameters ds (record s { env = q.1 }) (place + 1) ts >>= λ ps. Fine (q.0 ∷ ps)) in
    let one : Parameter → Checked (Parameter × Environment) = λ p. (parameter_scope d s.env place t >>= λ e. Fine (p, e)) in
    let both : Parameter → Checked (List Parameter) = λ p. (parameter_scope d s.env place t >>= λ e. g (p, e)) in
    sym (after_assoc (bare_within d) (parameter_notes s d t >>= one) g
    ∙ ap (λ c. bare_within d >> c) (bind_assoc (parameter_notes s d t) one g
    ∙ same_after (parameter_notes s d t) (λ p. one p >>= g) both (λ p. bind_assoc (parameter_scope d s.env place t) (λ e. Fine (p, e)) g)))

abbrev Vector : Type 0
Vector = Vec Param Global

abbrev Answer : Type 0
Answer = Result Vector AnnotationError

abbrev pub AreIn : List Parameter → Vector → Type 0
AreIn ps v = AreRead ps v.items

-- these, after those that were read
abbrev pub After : List Param → List Parameter → Vector → Type 0
After done ps v = parameters_in v.items ≡ (parameters_in done ++ ps)

last_in : (done : List Param) (v : Param) (p : Parameter) (ps : List Parameter) → parameter_in v ≡ p → (parameters_in (done ++ v ∷ []) ++ ps) ≡ (parameters_in done ++ (p ∷ ps))
last_in [] v p ps e = ap (λ q. q ∷ ps) e
last_in (u ∷ done) v p ps e = ap (λ qs. parameter_in u ∷ qs) (last_in done v p ps e)

one_more : (done : List Param) (v : Param) (p : Parameter) (c : Checked (List Parameter)) (r : Answer) → parameter_in v ≡ p → Tells (After (done ++ v ∷ [])) c r → Tells (After done) (c >>= λ ps. Fine (p ∷ ps)) r
one_more done v p (Fine ps) (Ok w) e h = h ∙ last_in done v p ps e
one_more done v p (Fine ps) (Err Memory) e h = tt
one_more done v p (Fine ps) (Err (Rule a b)) e h = absurd h
one_more done v p (Noted n ps) (Ok w) e h = h ∙ last_in done v p ps e
one_more done v p (Noted n ps) (Err Memory) e h = tt
one_more done v p (Noted n ps) (Err (Rule a b)) e h = absurd h
one_more done v p (Broken a b) (Ok w) e h = absurd h
one_more done v p (Broken a b) (Err Memory) e h = tt
one_more done v p (Broken a b) (Err (Rule f g)) e h = h

nothing_after : (ps : List Parameter) → (ps ++ []) ≡ ps
nothing_after [] = refl
nothing_after (p ∷ ps) = ap (λ qs. p ∷ qs) (nothing_after ps)

module _ (N : Nodes) (g : Code) (types : List CType) (ids : List DeclId) (tids : List TypeId) where
  -- the parameters that are left decide
  pub record Left (k : ℕ) (env : Environment) (done : List Param) (c : Checked (List Parameter)) : Type 0 where
    pub decls : Decls
    pub signature : Signature
    pub stand : StandDecls N (drop k ids) decls
    pub known : IsKnown g env signature
    pub decide : (r : Answer) → Tells (After done) (all_parameters decls signature k (all_at types (drop k tids))) r → Tells AreIn c r

  pub at_first : (env : Environment) (ds : Decls) (s : Signature) → StandDecls N ids ds → IsKnown g env s → Left 0 env [] (all_parameters ds s 0 (all_at types tids))
  at_first env ds s h k = record { decls = ds; signature = s; stand = h; known = k; decide = λ r t. t }

  -- the next one
  record Next (k : ℕ) (i : DeclId) (ty : TypeId) (env : Environment) (done : List Param) (c : Checked (List Parameter)) : Type 0 where
    decl : Decl
    decls : Decls
    signature : Signature
    stands : StandsDecl N i decl
    stand : StandDecls N (drop (k + 1) ids) decls
    known : IsKnown g env signature
    decide : (r : Answer) → Tells (After done) (one_parameter decl signature k (at types ty) >>= λ q. (all_parameters decls (record signature { env = q.1 }) (k + 1) (all_at types (drop (k + 1) tids)) >>= λ ps. Fine (q.0 ∷ ps))) r → Tells AreIn c r

  head : (k : ℕ) (i : DeclId) (ty : TypeId) (env : Environment) (done : List Param) (c : Checked (List Parameter)) (ds : Decls) (s : Signature) → drop k ids ≡ i ∷ drop (k + 1) ids → drop k tids ≡ ty ∷ drop (k + 1) tids →
      StandDecls N (drop k ids) ds → IsKnown g env s → ((r : Answer) → Tells (After done) (all_parameters ds s k (all_at types (drop k tids))) r → Tells AreIn c r) → Next k i ty env done c
  head k i ty env done c NoDecls s e f h n t = absurd cc
  head k i ty env done c (MoreDecls d ds) s e f (j, js, a, p, q) n t =
      let one : j ≡ i = cc in
      let rest : js ≡ drop (k + 1) ids = cc in
      let us = all_at types (drop (k + 1) tids) in
      let types_are : all_at types (drop k tids) ≡ MoreTypes (at types ty) us = ap (all_at types) f in
      let steps : all_parameters (MoreDecls d ds) s k (all_at types (drop k tids)) ≡ (one_parameter d s k (at types ty) >>= λ q. (all_parameters ds (record s { env = q.1 }) (k + 1) us >>= λ ps. Fine (q.0 ∷ ps))) =
      ap (all_parameters (MoreDecls d ds) s k) types_are ∙ all_step d ds s k (at types ty) us in
      record {
        decl = d;
        decls = ds;
        signature = s;
        stands = subst (λ x. StandsDecl N x d) one p;
        stand = subst (λ xs. StandDecls N xs ds) rest q;
        known = n;
        decide = λ r u. t r (same_tells (After done) _ _ r steps u);
      }

  next : (k : ℕ) (i : DeclId) (ty : TypeId) (env : Environment) (done : List Param) (c : Checked (List Parameter)) → k < length ids → slice_get tids k ≡ Some ty → Left k env done c → Next k (get_or ids k i) ty env done c
  next k i ty env done c h l n =
      let one : drop k ids ≡ get_or ids k i ∷ drop (k + 1) ids = rw add-one (drop-cons ids k i h) in
      head k (get_or ids k i) ty env done c n.decls n.signature one (typed_next tids k ty l) n.stand n.known n.decide

  -- a rule that the next one breaks is the first that is broken
  pub broken_next : (k : ℕ) (i : DeclId) (ty : TypeId) (env : Environment) (after : Declared) (done : List Param) (c : Checked (List Parameter)) (e : AnnotationError) → k < length ids → slice_get tids k ≡ Some ty → Left k env done c →
      ((d : Decl) (s : Signature) → StandsDecl N (get_or ids k i) d → IsKnown g env s → Tells (IsRead after) (one_parameter d s k (at types ty)) (Err e)) → Tells AreIn c (Err e)
  broken_next k i ty env after done c e h l n f =
      let x = next k i ty env done c h l n in
      x.decide (Err e) (stops (IsRead after) (After done) (one_parameter x.decl x.signature k (at types ty)) _ e (f x.decl x.signature x.stands x.known))

  -- past one that breaks no rule
  pub past_next : (k : ℕ) (i : DeclId) (ty : TypeId) (env : Environment) (after : Declared) (done : List Param) (v : Param) (c : Checked (List Parameter)) → k < length ids → slice_get tids k ≡ Some ty → Left k env done c → after.env.structs ≡ env.structs →
      ((d : Decl) (s : Signature) → StandsDecl N (get_or ids k i) d → IsKnown g env s → Tells (IsRead after) (one_parameter d s k (at types ty)) (Ok v)) → Left (k + 1) after.env (done ++ v ∷ []) c
  past_next k i ty env after done v c h l n same f =
      let x = next k i ty env done c h l n in
      let rest : Parameter × Environment → Checked (List Parameter) = λ q. all_parameters x.decls (record x.signature { env = q.1 }) (k + 1) (all_at types (drop (k + 1) tids)) in
      let y = found (IsRead after) (After done) (one_parameter x.decl x.signature k (at types ty)) (λ q. rest q >>= λ ps. Fine (q.0 ∷ ps)) v (f x.decl x.signature x.stands x.known) in
      record {
        decls = x.decls;
        signature = record x.signature { env = y.0.1 };
        stand = x.stand;
        known = record {
          params = subst (λ e. AreNamed e g.params.items x.signature.params) (ap (λ ss. map (λ s. s.extent) ss) (sym same)) x.known.params;
          gives_integer = x.known.gives_integer;
          env = sym y.1.1;
        };
        decide = λ r t. x.decide r (y.2 r (one_more done v y.0.0 (rest y.0) r y.1.0 t));
      }

  ended : (k : ℕ) (env : Environment) (v : Vector) (c : Checked (List Parameter)) (ds : Decls) (s : Signature) → drop k ids ≡ [] → StandDecls N (drop k ids) ds →
      ((r : Answer) → Tells (After v.items) (all_parameters ds s k (all_at types (drop k tids))) r → Tells AreIn c r) → Tells AreIn c (Ok v)
  ended k env v c NoDecls s e h t = t (Ok v) (sym (nothing_after (parameters_in v.items)))
  ended k env v c (MoreDecls d ds) s e (j, js, a, p, q) t = absurd cc

  -- none is left
  pub at_end : (k : ℕ) (env : Environment) (v : Vector) (c : Checked (List Parameter)) → length ids ≤ k → Left k env v.items c → Tells AreIn c (Ok v)
  at_end k env v c h n = ended k env v c n.decls n.signature (drop_of_length-le ids h) n.stand n.decide

  untyped : (k : ℕ) (v : Vector) (c : Checked (List Parameter)) (ds : Decls) (s : Signature) → drop k tids ≡ [] →
      ((r : Answer) → Tells (After v.items) (all_parameters ds s k (all_at types (drop k tids))) r → Tells AreIn c r) → Tells AreIn c (Ok v)
  untyped k v c NoDecls s e t = t (Ok v) (sym (nothing_after (parameters_in v.items)))
  untyped k v c (MoreDecls d ds) s e t =
      t (Ok v) (same_tells (After v.items) _ (Fine []) (Ok v) (ap (λ is. all_parameters (MoreDecls d ds) s k (all_at types is)) e) (sym (nothing_after (parameters_in v.items))))

  -- those that are left have no types
  pub no_types : (k : ℕ) (env : Environment) (v : Vector) (c : Checked (List Parameter)) → slice_get tids k ≡ None → Left k env v.items c → Tells AreIn c (Ok v)
  no_types k env v c h n = untyped k v c n.decls n.signature (drop_of_length-le tids (past_all tids k h)) n.decide

-- the numbers of declarations, one by one
decls_at : (N : Nodes) (is : List DeclId) (ds : Decls) (k : ℕ) (i : DeclId) → StandDecls N is ds → FitsDecls ds → k < length is → IsTypeName N (get_or is k i)
decls_at N [] ds k i h f l = absurd (omega arith)
decls_at N (j ∷ js) NoDecls k i h f l = absurd cc
decls_at N (j ∷ js) (MoreDecls d ds) zero i (m, ms, e, p, q) f l = let one : m ≡ j = cc in (d, subst (λ x. StandsDecl N x d) one p, f.0)
decls_at N (j ∷ js) (MoreDecls d ds) (suc k) i (m, ms, e, p, q) f l = let rest : ms ≡ js = cc in decls_at N js ds k i (subst (λ xs. StandDecls N xs ds) rest q) f.1 (omega arith)

pub decl_at : (N : Nodes) (is : List DeclId) (k : ℕ) (i : DeclId) → AreDecls N is → k < length is → IsTypeName N (get_or is k i)
decl_at N is k i (ds, h, f) l = decls_at N is ds k i h f l
