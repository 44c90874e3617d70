-- The flat code of a program, and which functions a system file answers, by the source that the program stands for.
use Rattle.std.proofs.Common.{◌≡◌, ℕ, zero, suc, ◌+◌, ◌-◌, ◌&&◌, leb, Bool, false, List, [], ◌∷◌, ◌++◌, length, map, Option, Some, None, refl, sym, ap, ◌∙◌}
use Rattle.std.specs.Prelude.{if◌then◌else◌, is_none, is_some, slice_get}
use Rattle.std.specs.Option.{option_map}
use Rattle.c_types_model.specs.Types.{CType}
use Rattle.c_builtins.specs.declared.builtin.Builtin.{Builtin}
use Rattle.c_builtins.specs.declared.lookup.TheConstants.{BUILTINS}
use Rattle.c_builtins.specs.Table.{first_source_function, name_of, params_of as params_of_prototype, prototype_of, result_of as result_of_prototype}
use Rattle.c_types_rules.specs.TypedTree.{Body}
use Rattle.c_types_rules.specs.Sources.{Function, Program, params_of, result_of}
use Rattle.c_types_rules.specs.Limits.{frame_size}
use Rattle.c_code.specs.declared.code.FuncInfo.{FuncInfo}
use Rattle.c_code.specs.declared.instr.Instr.{Instr}
use Rattle.c_code.specs.Machine.{Flat, flat}
use Rattle.c_semantics.specs.Context.{Source, local_offsets, shape_of, shapes_of}
use Rattle.c_lower_placement.specs.Code.{Making, body_code}
use Rattle.c_types_program.specs.declared.function.Body as bodies
use Rattle.c_types_program.specs.declared.function.Function as code
use Rattle.c_types_program.specs.Declarations.{Declared, body_in, function_in}
use Rattle.c_types_program.specs.Programs.{IsProgram, program_in, texts_in}
use Rattle.c_types_nodes.specs.Tables.{Table}
use Rattle.c_lower_layout.specs.Sources.{fixed_types, place_among, sig_in, source_in, types_of_functions}
use Rattle.c_lower.specs.Lowered.{builtin_info, code_of, codes_of, entry_at, frame_of, info_of, infos_from, known_info, lowered}
use Rattle.std.proofs.lemmas.List.{length-map}
use Rattle.call_operations.specs.Sets.{has_no_body, is_external}
use Rattle.annot_reader.specs.Interface.{Interface}
use Rattle.annot_reader.specs.Interfaces.{declared_at}
use Rattle.sys_script_lines.specs.declared.externals.External.{External}
use Rattle.sys_script_lines.specs.Externals.{external_named}
use Rattle.sys_script.specs.Externals.{external_in, external_of, externals_from, pieces_of, result_range}

-- ---- what code is made with

source_same : (p q : Declared) → program_in p [] ≡ program_in q [] → texts_in p.texts ≡ texts_in q.texts → source_in p ≡ source_in q
unfolding source_in
source_same p q e t = λ j. record { program = e j; texts = t j; placed = (source_in p).placed }

sig_same : (p q : Declared) → program_in p [] ≡ program_in q [] → sig_in p ≡ sig_in q
unfolding sig_in
sig_same p q e = λ j t. place_among t (fixed_types ++ types_of_functions (e j).functions)

abbrev makes : Source → (CType → ℕ) → Body → Making
makes s sig b = record { against = record { source = s; code = flat [] [] []; offsets = local_offsets s b.locals }; sig = sig }

-- ---- the same definitions over what functions stand for

abbrev code_as : Source → (CType → ℕ) → Option Body → List Instr
code_as s sig None = []
code_as s sig (Some b) = body_code b (makes s sig b)

abbrev codes_as : Source → (CType → ℕ) → List Function → List Instr
codes_as s sig [] = []
codes_as s sig (f ∷ fs) = code_as s sig f.body ++ codes_as s sig fs

abbrev frame_as : Source → Option Body → ℕ
frame_as s None = 0
frame_as s (Some b) = frame_size s.program b.locals

abbrev entry_as : Option Body → ℕ → Option ℕ
entry_as None at = None
entry_as (Some b) at = Some at

abbrev info_as : Source → (CType → ℕ) → ℕ → Function → FuncInfo
info_as s sig at f = record {
  name = f.name;
  params = shapes_of (params_of f.type);
  result = shape_of (result_of f.type);
  sig = sig f.type;
  frame = frame_as s f.body;
  entry = entry_as f.body at;
}

abbrev infos_as : Source → (CType → ℕ) → ℕ → List Function → List FuncInfo
infos_as s sig at [] = []
infos_as s sig at (f ∷ fs) = info_as s sig at f ∷ infos_as s sig (at + length (code_as s sig f.body)) fs

abbrev builtin_as : (CType → ℕ) → Builtin → FuncInfo
builtin_as sig b = record {
  name = name_of b;
  params = shapes_of (params_of_prototype (prototype_of b));
  result = shape_of (result_of_prototype (prototype_of b));
  sig = sig (prototype_of b);
  frame = 0;
  entry = None;
}

abbrev lowered_as : Source → (CType → ℕ) → List Function → Flat
lowered_as s sig fs = flat (map (builtin_as sig) BUILTINS) (infos_as s sig 0 fs) (codes_as s sig fs)

-- ---- they are the same

module _ (p : Declared) where
  code_same : (o : Option bodies.Body) → code_of p o ≡ code_as (source_in p) (sig_in p) (option_map (body_in p.table) o)
  code_same None = refl
  code_same (Some b) = refl

  frame_same : (o : Option bodies.Body) → frame_of p o ≡ frame_as (source_in p) (option_map (body_in p.table) o)
  frame_same None = refl
  frame_same (Some b) = refl

  entry_same : (o : Option bodies.Body) (at : ℕ) → entry_at o at ≡ entry_as (option_map (body_in p.table) o) at
  entry_same None at = refl
  entry_same (Some b) at = refl

  codes_same : (fs : List code.Function) → codes_of p fs ≡ codes_as (source_in p) (sig_in p) (map (function_in p.table) fs)
  codes_same [] = refl
  codes_same (f ∷ fs) = λ j. code_same f.body j ++ codes_same fs j

  info_same : (at : ℕ) (f : code.Function) → info_of p at f ≡ info_as (source_in p) (sig_in p) at (function_in p.table f)
  info_same at f = λ j. known_info p f (frame_same f.body j) (entry_same f.body at j)

  infos_same : (at : ℕ) (fs : List code.Function) → infos_from p at fs ≡ infos_as (source_in p) (sig_in p) at (map (function_in p.table) fs)
  infos_same at [] = refl
  infos_same at (f ∷ fs) =
      (λ j. info_same at f j ∷ infos_from p (at + length (code_same f.body j)) fs) ∙
      ap (λ is. info_as (source_in p) (sig_in p) at (function_in p.table f) ∷ is) (infos_same (at + length (code_as (source_in p) (sig_in p) (option_map (body_in p.table) f.body))) fs)

  lowered_is : lowered p ≡ lowered_as (source_in p) (sig_in p) (map (function_in p.table) p.functions)
  lowered_is = λ j. flat (map (builtin_info p) BUILTINS) (infos_same 0 p.functions j) (codes_same p.functions j)

-- ---- programs that stand for one source

without_names : (p : Declared) (r : Program) → IsProgram p r → program_in p [] ≡ record r { names = [] }
without_names p r is = ap (λ (u : Program). let bare : Program = record u { names = [] } in bare) is

functions_are : (p : Declared) (r : Program) → IsProgram p r → map (function_in p.table) p.functions ≡ r.functions
functions_are p r is = ap (λ (u : Program). u.functions) is

pub one_code : (p q : Declared) (r : Program) → IsProgram p r → IsProgram q r → texts_in p.texts ≡ texts_in q.texts → lowered p ≡ lowered q
one_code p q r is it texts =
    let bare : program_in p [] ≡ program_in q [] = without_names p r is ∙ sym (without_names q r it) in
    let source : source_in p ≡ source_in q = source_same p q bare texts in
    let sig : sig_in p ≡ sig_in q = sig_same p q bare in
    let functions : map (function_in p.table) p.functions ≡ map (function_in q.table) q.functions = functions_are p r is ∙ sym (functions_are q r it) in
    lowered_is p ∙ ((λ j. lowered_as (source j) (sig j) (functions j)) ∙ sym (lowered_is q))

-- ---- the functions that a system file answers

abbrev external_as : Interface → ℕ → Function → External
external_as i number f = record {
  func = number;
  below = (result_range f.type).0;
  most = (result_range f.type).1;
  pieces = pieces_of (declared_at i number);
}

abbrev externals_as : Interface → ℕ → List Function → List (List ℕ × External)
externals_as i number [] = []
externals_as i number (f ∷ fs) =
    if is_some f.body then externals_as i (number + 1) fs
    else (f.name, external_as i number f) ∷ externals_as i (number + 1) fs

some_same : {A B : Type 0} (g : A → B) (o : Option A) → is_some o ≡ is_some (option_map g o)
some_same g None = refl
some_same g (Some x) = refl

externals_same : (t : Table) (i : Interface) (number : ℕ) (fs : List code.Function) → externals_from t.types i number fs ≡ externals_as i number (map (function_in t) fs)
externals_same t i number [] = refl
externals_same t i number (f ∷ fs) = λ j.
    if some_same (body_in t) f.body j then externals_same t i (number + 1) fs j
    else (f.name, external_of t.types i number f) ∷ externals_same t i (number + 1) fs j

pub one_externals : (p q : Declared) (r : Program) (i : Interface) → IsProgram p r → IsProgram q r → external_in p i ≡ external_in q i
one_externals p q r i is it =
    let functions : map (function_in p.table) p.functions ≡ map (function_in q.table) q.functions = functions_are p r is ∙ sym (functions_are q r it) in
    let same = externals_same p.table i first_source_function p.functions ∙ (ap (externals_as i first_source_function) functions ∙ sym (externals_same q.table i first_source_function q.functions)) in
    λ j name. external_named name (same j)

-- ---- which functions have no body

pub one_length : (p q : Declared) (r : Program) → IsProgram p r → IsProgram q r → length p.functions ≡ length q.functions
one_length p q r is it =
    sym (length-map p.functions (function_in p.table)) ∙ (ap length (functions_are p r is ∙ sym (functions_are q r it)) ∙ length-map q.functions (function_in q.table))

abbrev no_body_as : Option Function → Bool
no_body_as (Some f) = is_none f.body
no_body_as None = false

none_same : {A B : Type 0} (g : A → B) (o : Option A) → is_none o ≡ is_none (option_map g o)
none_same g None = refl
none_same g (Some x) = refl

no_body_is : (t : Table) (fs : List code.Function) (n : ℕ) → has_no_body (slice_get fs n) ≡ no_body_as (slice_get (map (function_in t) fs) n)
no_body_is t [] n = refl
no_body_is t (f ∷ fs) zero = none_same (body_in t) f.body
no_body_is t (f ∷ fs) (suc n) = no_body_is t fs n

pub one_external : (p q : Declared) (r : Program) (f : ℕ) → IsProgram p r → IsProgram q r → is_external p.functions f ≡ is_external q.functions f
one_external p q r f is it =
    let functions : map (function_in p.table) p.functions ≡ map (function_in q.table) q.functions = functions_are p r is ∙ sym (functions_are q r it) in
    let n = f - first_source_function in
    ap (λ (b : Bool). leb first_source_function f && b) (no_body_is p.table p.functions n ∙ (ap (λ (fs : List Function). no_body_as (slice_get fs n)) functions ∙ sym (no_body_is q.table q.functions n)))
