-- The annotations of a typed source keep the rules for the types that its code knows.
use Rattle.std.proofs.Common.{◌≡◌, ◌≤◌, ◌<◌, ℕ, zero, suc, ◌+◌, ◌-◌, nat_le, Bool, true, false, not, ◌&&◌, List, [], ◌∷◌, length, map, take, Option, Some, None, refl, sym, ap, ◌∙◌, subst, arith}
use Rattle.std.specs.Prelude.{slice_get, codes, Ok, if◌then◌else◌}
use Rattle.std.proofs.lemmas.Bool.{leb-true}
use Rattle.std.proofs.lemmas.List.{take_all}
use Rattle.std.proofs.lemmas.Option.{same_Some, slice_get_within}
use Rattle.marks.specs.Places.{builtin_count}
use Rattle.c_builtins.specs.Table.{first_source_function}
use Rattle.c_scopes.specs.Scopes.{meaning_in, same_name}
use Rattle.c_syntax.specs.Syntax.{Decls}
use Rattle.c_types_model.specs.Types.{CType, CTypes, FunctionOf, NoTypes, MoreTypes}
use Rattle.c_types_table.specs.Tables.{type_at}
use Rattle.c_types_nodes.specs.Tables.{Table}
use Rattle.c_types_rules.specs.Checked.{Checked, Fine, Noted, Broken, keep, ◌>>◌}
use Rattle.c_types_rules.specs.Environment.{FunctionNamed}
use Rattle.c_types_rules.specs.Limits.{Which, Functions, Params, Typed, all_keep, count, decided, few_params, first_limit, outcome, unless}
use Rattle.c_types_rules.specs.Sources.{Function as Known, Program, at_file, declarations, has_main, nothing, params_of, program, result_of, tags_of}
use Rattle.c_code.specs.declared.shape.Shape.{Shape}
use Rattle.c_code.specs.declared.code.FuncInfo.{FuncInfo}
use Rattle.c_code.specs.Builtins.{Prototype, prototype}
use Rattle.c_semantics.specs.Context.{shape_of, shapes_of}
use Rattle.c_types_program.specs.declared.function.Function.{Function}
use Rattle.c_types_program.specs.Declarations.{Declared, function_in}
use Rattle.c_types_program.specs.Programs.{IsProgram}
use Rattle.c_lower.specs.Lowered.{lowered}
use Rattle.annot_reader_rules.specs.Cuts.{annotations, function_at}
use Rattle.annot_reader_rules.specs.Notes.{Annotated, Notes, Parameter}
use Rattle.annot_reader_words.specs.declared.notes.Annots.{Annots}
use Rattle.annot_reader_words.specs.declared.notes.Param.{Param}
use Rattle.annot_reader_words.specs.Readings.{parameters_in}
use Rattle.annot_reader.specs.Interface.{Interface}
use Rattle.annot_reader.specs.Interfaces.{IsInterface, IsRead, SaysOf, declared_at}
use Rattle.annot_reader.specs.Reading.{nothing_read}
use Rattle.stub_operations.specs.Operations.{ParameterSays}
use Rattle.stub_meaning.specs.Meaning.{type_of}
use Rattle.stub_meaning.specs.Rules.{KeepParameters, KeepsRules}
use Rattle.call_operations.specs.Said.{call_says, parameter_says}
use Rattle.call_operations_laws.specs.Codes.{KeepRules}
use Rattle.c_lower_laws.proofs.Held.{Holds}
use Rattle.front_end_laws.specs.Annotations.{ReadOfAll, SayOfAll}
use Rattle.front_end_laws.proofs.Found.{holds_at, value, value_after, value_then}
use Rattle.front_end_laws.proofs.Rules.{notes_say, prototype_of, says_of}
use Rattle.front_end_laws.proofs.Declared.{types}
use Rattle.front_end_laws.proofs.Followed.{Follows, Keeps, all_follow}
use Rattle.front_end_laws.proofs.Listed.{known}

-- ---- typed sources

within_limits : (q p : Program) (w : Option Which) → unless q w ≡ Typed p → q ≡ p
within_limits q p None e = cc
within_limits q p (Some w) e = absurd cc

found : (c : Checked Program) (p : Program) → decided c ≡ Typed p → value c ≡ Some p
found (Fine q) p e = ap (λ (x : Program). Some x) (within_limits q p (first_limit true q) e)
found (Noted n q) p e = ap (λ (x : Program). Some x) (within_limits q p (first_limit (not n.large) q) e)
found (Broken from rule) p e = absurd cc

declared : (ds : Decls) (p : Program) → outcome ds ≡ Typed p → value (declarations (tags_of ds) nothing ds) ≡ Some p
declared ds p e =
    let (q, here, kept) = value_then (declarations (tags_of ds) nothing ds) (λ q. keep 0 18 (has_main q.functions) >> Fine q) p (found (program ds) p e) in
    here ∙ value_after (keep 0 18 (has_main q.functions)) (Fine q) p kept

few_tested : (p q : Program) (a b : Bool) (o : Option Which) → unless q (if a then if b then o else Some Params else Some Functions) ≡ Typed p → b ≡ true
few_tested p q true true o e = refl
few_tested p q true false o e = absurd cc
few_tested p q false b o e = absurd cc

few_limits : (p q : Program) (objects : Bool) → unless q (first_limit objects q) ≡ Typed p → all_keep few_params p.functions ≡ true
few_limits p q objects e =
    subst (λ (r : Program). all_keep few_params r.functions ≡ true) (within_limits q p (first_limit objects q) e)
    (few_tested p q (nat_le (length q.functions) 1000) (all_keep few_params q.functions) _ e)

-- its functions have few parameters
few_decided : (p : Program) (c : Checked Program) → decided c ≡ Typed p → all_keep few_params p.functions ≡ true
few_decided p (Fine q) e = few_limits p q true e
few_decided p (Noted n q) e = few_limits p q (not n.large) e
few_decided p (Broken from rule) e = absurd cc

-- what was read of them says something of each function
follow : (ds : Decls) (p : Program) → outcome ds ≡ Typed p → Holds (Follows p p) (annotations ds p)
follow ds p e = all_follow (at_file (tags_of ds) p) p (tags_of ds) ds nothing nothing_read (declared ds p e)
    (λ other number u h. absurd (none other number u h)) (record { count = refl; guards = refl; kept = λ k n h. absurd (nowhere k n h) })
  where
    none : (other : List ℕ) (number : ℕ) (u : CType) → meaning_in other nothing.names ≡ Some (FunctionNamed number u) → ⊥
    none other number u h = cc

    nowhere : (k : ℕ) (n : Notes) → slice_get nothing_read.functions k ≡ Some n → ⊥
    nowhere k n h = cc

-- something is said of each function and of each global
pub all_said : (ds : Decls) (p : Program) (a : Annotated) → outcome ds ≡ Typed p → value (annotations ds p) ≡ Some a → SayOfAll p a
all_said ds p a e here =
    let follows : Follows p p a = holds_at (Follows p p) (annotations ds p) a (follow ds p e) here in
    record { functions = follows.count; globals = follows.guards }

-- what is said of `main` names no cut
pub main_in_no_cut : (ds : Decls) (p : Program) (a : Annotated) → outcome ds ≡ Typed p → value (annotations ds p) ≡ Some a → (k : ℕ) (n : Notes) (f : Known) →
    slice_get a.functions k ≡ Some n → slice_get p.functions k ≡ Some f → same_name f.name (codes "main") ≡ true → n.cuts ≡ []
main_in_no_cut ds p a e here k n f said there is =
    let follows : Follows p p a = holds_at (Follows p p) (annotations ds p) a (follow ds p e) here in
    (follows.kept k n said).alone f (at_place p.functions k ∙ there) is
  where
    at_place : (fs : List Known) (k : ℕ) → function_at fs k ≡ slice_get fs k
    at_place [] k = refl
    at_place (g ∷ fs) zero = refl
    at_place (g ∷ fs) (suc k) = at_place fs k

pub read_of_all : (ds : Decls) (p : Program) → outcome ds ≡ Typed p → ReadOfAll p (annotations ds p)
read_of_all ds p e = by (annotations ds p) (follow ds p e)
  where
    by : (c : Checked Annotated) → Holds (Follows p p) c → ReadOfAll p c
    by (Fine a) h = record { functions = h.count; globals = h.guards }
    by (Noted n a) h = record { functions = h.count; globals = h.guards }
    by (Broken from rule) h = tt

read : (cut : List ℕ) (c : Checked Annotated) (i : Interface) → IsInterface cut c (Ok i) → (a : Annotated) × (value c ≡ Some a) × IsRead cut a i
read cut (Fine a) i h = (a, refl, h.0)
read cut (Noted n a) i h = (a, refl, h.0)
read cut (Broken from rule) i h = absurd h

-- ---- lists

there : {A : Type 0} (xs : List A) (k : ℕ) → k < length xs → (x : A) × (slice_get xs k ≡ Some x)
there [] k l = absurd (omega arith)
there (x ∷ xs) zero l = (x, refl)
there (x ∷ xs) (suc k) l = there xs k (omega arith)

type_there : (t : Table) (gs : List Function) (k : ℕ) (g : Function) → slice_get gs k ≡ Some g →
    slice_get (map (λ (f : Known). f.type) (map (function_in t) gs)) k ≡ Some (type_at t.types g.ty)
type_there t [] k g e = absurd cc
type_there t (h ∷ gs) zero g e = ap (λ (x : Function). Some (type_at t.types x.ty)) (same_Some h g e)
type_there t (h ∷ gs) (suc k) g e = type_there t gs k g e

few_there : (fs : List Known) (k : ℕ) (t : CType) → all_keep few_params fs ≡ true → slice_get (map (λ (f : Known). f.type) fs) k ≡ Some t →
    nat_le (count (params_of t)) 8 ≡ true
few_there [] k t few e = absurd cc
few_there (f ∷ fs) zero t few e = subst (λ (u : CType). nat_le (count (params_of u)) 8 ≡ true) (same_Some f.type t e) (first_of (few_params f) (all_keep few_params fs) few)
  where
    first_of : (a b : Bool) → (a && b) ≡ true → a ≡ true
    first_of true b h = refl
    first_of false b h = absurd cc
few_there (f ∷ fs) (suc k) t few e = few_there fs k t (rest_of (few_params f) (all_keep few_params fs) few) e
  where
    rest_of : (a b : Bool) → (a && b) ≡ true → b ≡ true
    rest_of true b h = h
    rest_of false b h = absurd cc

type_count : (fs : List Known) → length (map (λ (f : Known). f.type) fs) ≡ length fs
type_count [] = refl
type_count (f ∷ fs) = ap suc (type_count fs)

shape_count : (ts : CTypes) → length (shapes_of ts) ≡ count ts
shape_count NoTypes = refl
shape_count (MoreTypes t ts) = ap suc (shape_count ts)

says_count : (t : Prototype) (ss : List Shape) (xs : List ParameterSays) → KeepParameters t ss xs → length xs ≡ length ss
says_count t [] [] h = refl
says_count t [] (x ∷ xs) h = absurd h
says_count t (s ∷ ss) [] h = absurd h
says_count t (s ∷ ss) (x ∷ xs) h = ap suc (says_count t ss xs h.1)

map_count : (ps : List Parameter) → length (map says_of ps) ≡ length ps
map_count [] = refl
map_count (p ∷ ps) = ap suc (map_count ps)

in_count : (ps : List Param) → length (parameters_in ps) ≡ length ps
in_count [] = refl
in_count (p ∷ ps) = ap suc (in_count ps)

same_says : (ps : List Param) → map says_of (parameters_in ps) ≡ map parameter_says ps
same_says [] = refl
same_says (p ∷ ps) = ap (λ xs. parameter_says p ∷ xs) (same_says ps)

-- ---- functions

same_call : (n : Notes) (v : Annots) → SaysOf n v → length v.params ≤ 256 → notes_say n ≡ call_says v
same_call n v h few =
    let params : map says_of n.params ≡ map parameter_says (take 256 v.params) =
    ap (map says_of) (sym h.params) ∙ (same_says v.params ∙ ap (map parameter_says) (sym (take_all 256 v.params few))) in
    ap (λ (xs : List ParameterSays). record { params = xs; sync = n.sync; commit = n.commit; cache = n.cache }) params ∙
    (ap (λ (ks : List ℕ). record { params = map parameter_says (take 256 v.params); sync = ks; commit = n.commit; cache = n.cache }) (sym h.sync) ∙
    (ap (λ (c : Option (ℕ × _)). record { params = map parameter_says (take 256 v.params); sync = v.sync; commit = c; cache = n.cache }) (sym h.commit) ∙
    ap (λ (b : Bool). record { params = map parameter_says (take 256 v.params); sync = v.sync; commit = v.commit; cache = b }) (sym h.cache)))

-- what an interface says of the functions that were read
abbrev pub SaysDeclared : Type 0
SaysDeclared = (cut : List ℕ) (a : Annotated) (i : Interface) (place : ℕ) (n : Notes) → IsRead cut a i → slice_get a.functions place ≡ Some n →
    SaysOf n (declared_at i (place + first_source_function))

abbrev of_type : CType → Prototype
of_type t = prototype (shapes_of (params_of t)) (shape_of (result_of t))

module _ (says_declared : SaysDeclared) (cut : List ℕ) (p : Program) (d : Declared) (i : Interface) (a : Annotated) (is : IsProgram d p) (few : all_keep few_params p.functions ≡ true)
    (reads : IsRead cut a i) (follows : Follows p p a) where
  types_are : types p ≡ map (λ (f : Known). f.type) (map (function_in d.table) d.functions)
  types_are = sym (ap (λ (q : Program). types q) is)

  -- as little is said of parameters as there are
  few_said : (k : ℕ) (g : Function) → slice_get d.functions k ≡ Some g → length (declared_at i (k + first_source_function)).params ≤ 256
  few_said k g at =
      let type : slice_get (types p) k ≡ Some (type_at d.table.types g.ty) = ap (λ ts. slice_get ts k) types_are ∙ type_there d.table d.functions k g at in
      let inside : k < length (types p) = slice_get_within (types p) k (type_at d.table.types g.ty) type in
      let counted = type_count p.functions in
      let same = follows.count in
      let (n, said) = there a.functions k (omega (arith, inside, counted, same)) in
      let keeps : Keeps p k n = follows.kept k n said in
      let v : Annots = declared_at i (k + first_source_function) in
      let says : SaysOf n v = says_declared cut a i k n reads said in
      let few_here : count keeps.params ≤ 8 = leb-true (count keeps.params) 8 (few_there p.functions k (FunctionOf keeps.result keeps.params) few keeps.type) in
      let c1 = says_count (prototype_of keeps.result keeps.params) (shapes_of keeps.params) (map says_of n.params) keeps.rules.params in
      let c2 = shape_count keeps.params in
      let c3 = map_count n.params in
      let c4 : length (parameters_in v.params) ≡ length n.params = ap length says.params in
      let c5 = in_count v.params in
      omega (arith, few_here, c1, c2, c3, c4, c5)

  one_keeps : (k : ℕ) (g : Function) → slice_get d.functions k ≡ Some g → KeepsRules (of_type (type_at d.table.types g.ty)) (call_says (declared_at i (k + first_source_function)))
  one_keeps k g at =
      let type : slice_get (types p) k ≡ Some (type_at d.table.types g.ty) = ap (λ ts. slice_get ts k) types_are ∙ type_there d.table d.functions k g at in
      let inside : k < length (types p) = slice_get_within (types p) k (type_at d.table.types g.ty) type in
      let counted = type_count p.functions in
      let same = follows.count in
      let (n, said) = there a.functions k (omega (arith, inside, counted, same)) in
      let keeps : Keeps p k n = follows.kept k n said in
      let is_type : type_at d.table.types g.ty ≡ FunctionOf keeps.result keeps.params = same_Some (type_at d.table.types g.ty) (FunctionOf keeps.result keeps.params) (sym type ∙ keeps.type) in
      let v : Annots = declared_at i (k + first_source_function) in
      let says : SaysOf n v = says_declared cut a i k n reads said in
      let short : length v.params ≤ 256 = few_said k g at in
      subst (λ t. KeepsRules t (call_says v)) (sym (ap of_type is_type))
      (subst (KeepsRules (prototype_of keeps.result keeps.params)) (same_call n v says short) keeps.rules)

  pub rules_kept : KeepRules i (lowered d)
  rules_kept f info source e =
      let (g, at, here) = known d f info source e in
      let place : f - builtin_count + first_source_function ≡ f = omega (arith, source) in
      subst (λ t. KeepsRules t (call_says (declared_at i f))) (sym (ap (λ (x : FuncInfo). type_of (Some x)) here))
      (subst (λ m. KeepsRules (of_type (type_at d.table.types g.ty)) (call_says (declared_at i m))) place (one_keeps (f - builtin_count) g at))

-- of the parameters of each function, as many bytes number what is said
pub params_few : SaysDeclared → (ds : Decls) (p : Program) (d : Declared) (cut : List ℕ) (i : Interface) (a : Annotated) → outcome ds ≡ Typed p → IsProgram d p →
    value (annotations ds p) ≡ Some a → IsRead cut a i → (k : ℕ) (g : Function) → slice_get d.functions k ≡ Some g → length (declared_at i (k + first_source_function)).params ≤ 256
params_few says ds p d cut i a e is here reads =
    few_said says cut p d i a is (few_decided p (program ds) e) reads (holds_at (Follows p p) (annotations ds p) a (follow ds p e) here)

-- the annotations of a typed source keep their rules for the types that its code knows
pub annotations_keep : SaysDeclared → (ds : Decls) (p : Program) (d : Declared) (cut : List ℕ) (i : Interface) → outcome ds ≡ Typed p → IsProgram d p →
    IsInterface cut (annotations ds p) (Ok i) → KeepRules i (lowered d)
annotations_keep says ds p d cut i e is h =
    let (a, here, reads) = read cut (annotations ds p) i h in
    rules_kept says cut p d i a is (few_decided p (program ds) e) reads (holds_at (Follows p p) (annotations ds p) a (follow ds p e) here)
