-- A typed program is fit.
use Rattle.std.proofs.Common.{◌≡◌, ℕ, zero, suc, ◌+◌, ◌-◌, ◌^◌, ◌<◌, ◌≤◌, Bool, true, false, not, cond, ltb, lit≤, List, [], ◌∷◌, length, map, take, Option, Some, None, refl, sym, ap, ◌∙◌, subst, arith}
use Rattle.std.specs.Prelude.{slice_get, nat_le}
use Rattle.std.specs.Option.{option_map}
use Rattle.std.proofs.lemmas.Option.{same_Some, slice_get-map, slice_get_within}
use Rattle.std.proofs.lemmas.Bool.{le-ltb, leb-true, ltb-false}
use Rattle.source_limits.specs.Limits.{most_functions}
use Rattle.marks.specs.Places.{builtin_count}
use Rattle.c_code.specs.Frames.{param_offsets, params_end}
use Rattle.c_code.specs.declared.code.FuncInfo.{FuncInfo}
use Rattle.c_code.specs.Machine.{Flat, func_of}
use Rattle.c_syntax.specs.Syntax.{Decls}
use Rattle.c_types_model.specs.Layouts.{offsets_from}
use Rattle.c_types_model.specs.Types.{CType, CTypes, Void, Integer, PointerTo, ArrayOf, StructOf, UndefinedStruct, FunctionOf, NoTypes, MoreTypes}
use Rattle.c_builtins.specs.declared.builtin.Builtin.{Builtin}
use Rattle.c_builtins.specs.declared.builtin.Builtin.TheVariants.{Malloc, Free, Spawn, Join, Lock, Unlock, Print}
use Rattle.c_builtins.specs.Table.{number_of, prototype_of}
use Rattle.c_types_rules.specs.Checked.{Checked, Fine, Noted, Broken}
use Rattle.c_types_rules.specs.Limits.{Which, Functions, Params, Outcome, Typed, Limit, all_keep, count as types_count, decided, few_params, first_limit, frame_size, outcome, unless}
use Rattle.c_types_rules.specs.Limits as limits
use Rattle.c_types_rules.specs.Sources.{Function, Program, extents_in, params_of, program}
use Rattle.c_types_rules.specs.TypedTree as typed
use Rattle.c_semantics.specs.Context.{Source, body_of, body_or, builtin_of, param_shapes, shapes_of, source_function, type_of, type_or}
use Rattle.c_semantics.specs.Arguments.{is_any}
use Rattle.c_semantics.specs.Returned.{ResultsAreConverted}
use Rattle.c_semantics.proofs.TypedFunctions.{results_are_converted}
use Rattle.c_lower_laws.proofs.Held.{Holds}
use Rattle.c_lower_placement.specs.Code.{making}
use Rattle.c_types_program.specs.Declarations.{Declared}
use Rattle.c_types_program.specs.Programs.{IsProgram, program_in}
use Rattle.c_lower_layout.specs.Sources.{sig_in, source_in, types_of_functions}
use Rattle.c_lower_laws.specs.Fits.{IsBodyFit, IsFit, IsFitSource, Knows}
use Rattle.c_lower_laws.proofs.Values.{IsOf, Serves, builtin_type, params_count}
use Rattle.c_lower_laws.proofs.Frames.{frame_holds, params_lie}
use Rattle.c_lower_laws.proofs.Params.{AreScalars, TakesScalars}
use Rattle.c_lower_laws.proofs.Programs.{Extends, Fits, Good, source_good}
use Rattle.c_lower_laws.proofs.Small.{IsSmall, each_keeps, frame_small, members_small, small_without_names, typed_is_small}

shapes_count : (ts : CTypes) → length (shapes_of ts) ≡ types_count ts
shapes_count NoTypes = refl
shapes_count (MoreTypes t ts) = ap suc (shapes_count ts)

-- what holds of the functions of a typed program
pub record Facts (fs : List Function) : Type 0 where
  pub bodies : (i : ℕ) (f : Function) (b : typed.Body) → slice_get fs i ≡ Some f → f.body ≡ Some b → Fits fs f.type b
  pub scalars : (i : ℕ) (f : Function) → slice_get fs i ≡ Some f → TakesScalars f.type
  pub few : (i : ℕ) (f : Function) → slice_get fs i ≡ Some f → params_count f.type ≤ 8
  pub short : length fs ≤ 1000

-- ---- functions by number

-- the function of a number
record Here (s : Source) (f : ℕ) (g : Function) : Type 0 where
  pub place : ℕ
  pub numbered : f ≡ builtin_count + place
  pub there : slice_get s.program.functions place ≡ Some g

here : (s : Source) (f : ℕ) (g : Function) → source_function s f ≡ Some g → Here s f g
here s f g e = by (ltb f builtin_count) refl e
  where
    by : (b : Bool) → ltb f builtin_count ≡ b → cond b None (slice_get s.program.functions (f - builtin_count)) ≡ Some g → Here s f g
    by true l h = absurd cc
    by false l h = let le : 16 ≤ f = ltb-false f 16 l in record { place = f - builtin_count; numbered = omega arith; there = h }

-- the function at a place, and its type
function_here : (s : Source) (place : ℕ) (g : Function) → slice_get s.program.functions place ≡ Some g → source_function s (builtin_count + place) ≡ Some g
function_here s place g e =
    let below : ltb (builtin_count + place) builtin_count ≡ false = le-ltb (16 + place) 16 (omega arith) in
    let at : builtin_count + place - builtin_count ≡ place = omega arith in
    ap (λ b. cond b None (slice_get s.program.functions (builtin_count + place - builtin_count))) below ∙ (ap (slice_get s.program.functions) at ∙ e)

type_here : (s : Source) (place : ℕ) (g : Function) → slice_get s.program.functions place ≡ Some g → type_of s (builtin_count + place) ≡ g.type
type_here s place g e = ap (λ o. type_or o (builtin_of (builtin_count + place))) (function_here s place g e)

-- how many parameters are known of a function of this type
params_known : (s : Source) (f : ℕ) (info : FuncInfo) (t : CType) → info.params ≡ param_shapes s f → type_of s f ≡ t → length info.params ≡ params_count t
params_known s f info t e h = ap length e ∙ (ap (λ u. length (shapes_of (params_of u))) h ∙ shapes_count (params_of t))

module _ (s : Source) (sig : CType → ℕ) (facts : Facts s.program.functions) (converts : ResultsAreConverted s) (sizes : IsSmall s.program) where
  abbrev us : List CType
  us = types_of_functions s.program.functions

  -- code that knows the functions of a source serves them
  serves : (code : Flat) (b : typed.Body) → Knows s code sig → Serves (making s code sig b) us
  serves code b knows = record {
    types = λ number t at. is_of number t at.0 at.1 (slice_get s.program.functions at.0) refl (sym (slice_get-map (λ (f : Function). f.type) s.program.functions at.0) ∙ at.2);
    sources = λ number t at. source number t at.0 at.1 (slice_get s.program.functions at.0) refl (sym (slice_get-map (λ (f : Function). f.type) s.program.functions at.0) ∙ at.2);
    builtins = λ c. let known = knows.builtins c in (known.0, known.1, params_known s (number_of c) known.0 (prototype_of c) (knows.each (number_of c) known.0 known.1).0 (builtin_type s c));
    pointers = λ t f info known e. params_known s f info t (knows.each f info known).0 (knows.tells f info t known e);
  }
    where
      is_of : (number : ℕ) (t : CType) (place : ℕ) → number ≡ place + 16 → (o : Option Function) → slice_get s.program.functions place ≡ o → option_map (λ (f : Function). f.type) o ≡ Some t → IsOf s number t
      is_of number t place e None eo h = absurd cc
      is_of number t place e (Some g) eo h =
          let is : builtin_count + place ≡ number = omega (arith, e) in
          let known = ap (λ o. is_any o (builtin_of (builtin_count + place))) (function_here s place g eo) in
          subst (λ n. IsOf s n t) is (record { known = known; type = type_here s place g eo ∙ same_Some g.type t h })

      source : (number : ℕ) (t : CType) (place : ℕ) → number ≡ place + 16 → (o : Option Function) → slice_get s.program.functions place ≡ o → option_map (λ (f : Function). f.type) o ≡ Some t
          → (info : FuncInfo) × (func_of code number ≡ Some info) × (length info.params ≡ params_count t)
      source number t place e None eo h = absurd cc
      source number t place e (Some g) eo h =
          let known = knows.sources place (slice_get_within s.program.functions place g eo) in
          let is : number ≡ builtin_count + place = omega (arith, e) in
          let type : type_of s (builtin_count + place) ≡ t = type_here s place g eo ∙ same_Some g.type t h in
          (known.0, ap (func_of code) is ∙ known.1, params_known s (builtin_count + place) known.0 t (knows.each (builtin_count + place) known.0 known.1).0 type)

  extends : Extends s.program.functions us
  extends k f e = slice_get-map (λ (g : Function). g.type) s.program.functions k ∙ ap (option_map (λ (g : Function). g.type)) e

  scalars_of : (t : CType) → TakesScalars t → AreScalars (params_of t)
  scalars_of (FunctionOf r ps) h = h
  scalars_of Void h = tt
  scalars_of (Integer k) h = tt
  scalars_of (PointerTo t) h = tt
  scalars_of (ArrayOf n t) h = tt
  scalars_of (StructOf n) h = tt
  scalars_of (UndefinedStruct tag) h = tt

  body_fit : (f : ℕ) (b : typed.Body) → body_of s f ≡ Some b → IsBodyFit s sig f b
  body_fit f b e = by (source_function s f) refl e
    where
      by : (o : Option Function) → source_function s f ≡ o → body_or o ≡ Some b → IsBodyFit s sig f b
      by None eo eb = absurd cc
      by (Some g) eo eb =
          let h = here s f g eo in
          let fits = facts.bodies h.place g b h.there eb in
          let type : type_of s f ≡ g.type = ap (λ o. type_or o (builtin_of f)) eo in
          record {
            calls = λ code knows. fits.1 (making s code sig b) us (serves code b knows) extends;
            returns = converts f b e;
            small = frame_small s.program sizes h.place g b h.there eb;
            holds = subst (λ t. params_end 0 (shapes_of (params_of t)) ≤ frame_size s.program b.locals) (sym type) (frame_holds s.program (params_of g.type) b.locals (scalars_of g.type (facts.scalars h.place g h.there)) fits.0);
            places = subst (λ t. take (length (shapes_of (params_of t))) (offsets_from 0 (extents_in s.program b.locals)) ≡ param_offsets 0 (shapes_of (params_of t))) (sym type) (params_lie s.program (params_of g.type) b.locals (scalars_of g.type (facts.scalars h.place g h.there)) fits.0);
          }

  params_few : (f : ℕ) → length (param_shapes s f) ≤ 8
  params_few f = by (source_function s f) refl
    where
      of_builtin : (o : Option Builtin) → length (shapes_of (params_of (type_or None o))) ≤ 8
      of_builtin None = lit≤ tt
      of_builtin (Some Malloc) = lit≤ tt
      of_builtin (Some Free) = lit≤ tt
      of_builtin (Some Spawn) = lit≤ tt
      of_builtin (Some Join) = lit≤ tt
      of_builtin (Some Lock) = lit≤ tt
      of_builtin (Some Unlock) = lit≤ tt
      of_builtin (Some Print) = lit≤ tt

      by : (o : Option Function) → source_function s f ≡ o → length (shapes_of (params_of (type_or o (builtin_of f)))) ≤ 8
      by None e = of_builtin (builtin_of f)
      by (Some g) e = let h = here s f g e in omega (arith, shapes_count (params_of g.type), facts.few h.place g h.there)

  pub source_fits : IsFitSource s sig
  source_fits = record { bodies = body_fit; few_params = params_few; few_functions = omega (arith, facts.short); members = members_small s.program sizes }

-- ---- limits

-- where no limit is exceeded, there are few functions, and few parameters of each
within_limits : (small : Bool) (p : Program) → first_limit small p ≡ None → (nat_le (length p.functions) most_functions ≡ true) × (all_keep few_params p.functions ≡ true)
within_limits small p e = kept (nat_le (length p.functions) most_functions) (all_keep few_params p.functions) _ e
  where
    kept : (a b : Bool) (rest : Option Which) → cond a (cond b rest (Some Params)) (Some Functions) ≡ None → (a ≡ true) × (b ≡ true)
    kept true true rest h = (refl, refl)
    kept true false rest h = absurd cc
    kept false b rest h = absurd cc

facts_of : (small : Bool) (p : Program) → Good p → first_limit small p ≡ None → Facts p.functions
facts_of small p g e =
    let limits = within_limits small p e in
    record {
      bodies = g.bodies;
      scalars = g.scalars;
      few = λ i f h. leb-true (params_count f.type) 8 (each_keeps few_params p.functions limits.1 i f h);
      short = leb-true (length p.functions) 1000 limits.0;
    }

typed_facts : (q p : Program) (small : Bool) (w : Option Which) → first_limit small q ≡ w → Good q → unless q w ≡ Typed p → Facts p.functions
typed_facts q p small None e g h = let is : q ≡ p = cc in subst (λ (r : Program). Facts r.functions) is (facts_of small q g e)
typed_facts q p small (Some w) e g h = absurd cc

decided_facts : (c : Checked Program) (p : Program) → Holds Good c → decided c ≡ Typed p → Facts p.functions
decided_facts (Fine q) p g e = typed_facts q p true (first_limit true q) refl g e
decided_facts (Noted n q) p g e = typed_facts q p (not n.large) (first_limit (not n.large) q) refl g e
decided_facts (Broken from rule) p g e = absurd cc

-- ---- programs

pub typed_programs_fit : (ds : Decls) (p : Program) (d : Declared) → outcome ds ≡ Typed p → IsProgram d p → IsFit d
unfolding source_in
typed_programs_fit ds p d e is =
    let functions : p.functions ≡ (program_in d []).functions = sym (ap (λ (q : Program). q.functions) is) in
    let converts : ResultsAreConverted (record { program = program_in d p.names; texts = (source_in d).texts; placed = (source_in d).placed }) =
    subst (λ (q : Program). ResultsAreConverted (record { program = q; texts = (source_in d).texts; placed = (source_in d).placed })) (sym is) (results_are_converted ds p e (source_in d).texts (source_in d).placed) in
    let structs : p.structs ≡ (program_in d []).structs = sym (ap (λ (q : Program). q.structs) is) in
    source_fits (source_in d) (sig_in d) (subst (λ (fs : List Function). Facts fs) functions (decided_facts (program ds) p (source_good ds) e)) converts
    (small_without_names p (program_in d []) structs functions (typed_is_small ds p e))
