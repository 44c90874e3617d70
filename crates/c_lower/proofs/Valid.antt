-- The code of a program whose evaluation stack is small is valid.
use Rattle.std.proofs.Common.{◌≡◌, ℕ, zero, suc, ◌+◌, ◌^◌, ◌<◌, ◌≤◌, max, Bool, true, false, cond, List, [], ◌∷◌, ◌++◌, length, map, Option, Some, None, refl, sym, ap, ◌∙◌, subst, arith}
use Rattle.std.specs.Prelude.{nat_lt, slice_get}
use Rattle.std.specs.Option.{option_map}
use Rattle.std.proofs.lemmas.List.{length-map}
use Rattle.std.proofs.lemmas.Option.{same_Some}
use Rattle.std.proofs.lemmas.Bool.{ltb-false}
use Rattle.memory_map.specs.declared.placed.Placed.{Placed}
use Rattle.c_code.specs.declared.code.FuncInfo.{FuncInfo}
use Rattle.c_code.specs.declared.instr.Instr.{Instr}
use Rattle.c_code.specs.Machine.{Flat, flat, func_of}
use Rattle.c_code.specs.Builtins.{IsBuiltin, prototype}
use Rattle.c_code.specs.Valid.{start_sig, IsStart, IsSteady, IsValid}
use Rattle.c_types_model.specs.Types.{CType}
use Rattle.c_builtins.specs.declared.builtin.Builtin.{Builtin}
use Rattle.c_builtins.specs.declared.builtin.Builtin.TheVariants.{Malloc, Free, Spawn, Join, Lock, Unlock, Print}
use Rattle.c_builtins.specs.declared.lookup.TheConstants.{BUILTINS}
use Rattle.c_builtins.specs.Table.{number_of, params_of as params_of_prototype, prototype_of, result_of as result_of_prototype, thread_function}
use Rattle.c_types_rules.specs.Sources as sources
use Rattle.c_types_rules.specs.TypedTree as typed
use Rattle.c_semantics.specs.Context.{Source, body_of, shape_of, shapes_of, type_of}
use Rattle.c_lower_placement.specs.Code.{body_code, making as making_at}
use Rattle.c_lower_placement.specs.Heights.{Stand, body_heights, statement_depth}
use Rattle.c_lower_placement.specs.Laws.{IsEmitted, IsMadeOf, IsWithin, MakesTheMarks}
use Rattle.c_types_nodes.specs.Tables.{Table}
use Rattle.c_types_program.specs.declared.function.Body.{Body}
use Rattle.c_types_program.specs.declared.function.Function.{Function}
use Rattle.c_types_program.specs.Declarations.{Declared, body_in, function_in}
use Rattle.c_types_program.specs.Programs.{texts_in}
use Rattle.c_lower_layout.specs.Sources.{fixed_types, sig_in, source_in, types_of_functions}
use Rattle.c_lower_laws.specs.Fits.{IsFit, Knows}
use Rattle.c_lower.specs.Lowered.{IsSourceOf, builtin_info, code_of, codes_of, infos_from, lowered}
use Rattle.c_lower.specs.Depths.{body_depth, first_wide, functions_in, greatest_depth, is_wide}
use Rattle.c_lower_layout.proofs.Numbers.{one_place}
use Rattle.c_lower.proofs.Standing.{height_in}
use Rattle.c_lower.proofs.Laid.{all_heights, among, heights_of, infos_counted, stands_at, start}
use Rattle.c_lower.proofs.Emitted.{Found, body_found, body_here, code_means, emitted, entry_is, known, source, typed_at}

abbrev nowhere : Placed
nowhere = record { globals = []; strings = []; replay = []; system = []; faces = [] }

-- no function up to the end is wide
all_few : (t : Table) (n : ℕ) (fs : List Function) → first_wide n (map (function_in t) fs) ≡ None → (k : ℕ) (g : Function) → slice_get fs k ≡ Some g → is_wide (option_map (body_in t) g.body) ≡ false
all_few t n [] e k g h = absurd cc
all_few t n (f ∷ fs) e k g h = by (is_wide (option_map (body_in t) f.body)) refl k h (λ r m c. all_few t (suc n) fs r m g c)
  where
    by : (b : Bool) → is_wide (option_map (body_in t) f.body) ≡ b → (k : ℕ) → slice_get (f ∷ fs) k ≡ Some g
        → (first_wide (suc n) (map (function_in t) fs) ≡ None → (m : ℕ) → slice_get fs m ≡ Some g → is_wide (option_map (body_in t) g.body) ≡ false) → is_wide (option_map (body_in t) g.body) ≡ false
    by true w k h later =
        let some : first_wide n (map (function_in t) (f ∷ fs)) ≡ Some (16 + n) = ap (λ c. cond c (Some (16 + n)) (first_wide (suc n) (map (function_in t) fs))) w in absurd cc
    by false w zero h later = ap (λ (x : Function). is_wide (option_map (body_in t) x.body)) (sym (same_Some f g h)) ∙ w
    by false w (suc m) h later = later (sym (ap (λ c. cond c (Some (16 + n)) (first_wide (suc n) (map (function_in t) fs))) w) ∙ e) m h

get_some : (fs : List Function) (k : ℕ) → k < length fs → (g : Function) × (slice_get fs k ≡ Some g)
get_some [] k lt = absurd (omega arith)
get_some (f ∷ fs) zero lt = (f, refl)
get_some (f ∷ fs) (suc k) lt = get_some fs k (omega arith)

module _ (p : Declared) where
  abbrev s : Source
  s = source p [] nowhere

  abbrev code : Flat
  code = lowered p

  abbrev sig : CType → ℕ
  sig = sig_in p

  abbrev height : ℕ → ℕ
  height = height_in (all_heights p p.functions)

  pub knows : Knows s code sig
  unfolding sig_in
  knows = record {
    each = λ f info e. let h = typed_at p [] nowhere f info e in (h.0, h.2);
    tells = λ f info t known e. let h = typed_at p [] nowhere f info known in sym (one_place (fixed_types ++ types_of_functions s.program.functions) t (type_of s f) h.3 (sym e ∙ h.2));
    builtins = builtins;
    sources = λ k lt. let h = get_some p.functions k (omega (arith, length-map p.functions (function_in p.table))) in (_, known p [] nowhere k h.0 h.1);
  }
    where
      builtins : (b : Builtin) → (info : FuncInfo) × (func_of code (number_of b) ≡ Some info)
      builtins Malloc = (_, refl)
      builtins Free = (_, refl)
      builtins Spawn = (_, refl)
      builtins Join = (_, refl)
      builtins Lock = (_, refl)
      builtins Unlock = (_, refl)
      builtins Print = (_, refl)

  stands : (f : ℕ) (b : typed.Body) (w : Found p [] nowhere f b) → Stand height (0 + start p w.place p.functions) (body_heights b)
  stands f b w =
      let here : Stand height (start p w.place p.functions) (heights_of p w.function.body) = stands_at p p.functions w.place w.function w.there in
      subst (λ n. Stand height n (body_heights b)) (omega arith)
      (subst (λ (hs : List ℕ). Stand height (start p w.place p.functions) hs) (ap (heights_of p) w.has ∙ ap body_heights w.means) here)

  within : (q : ℕ) (i : Instr) → slice_get code.instrs q ≡ Some i → IsWithin s code sig (emitted p [] nowhere) q
  within q i e = let h = among p p.functions q i e in of_body h.0 h.1 h.2 h.2.body refl h.3 h.4 h.5
    where
      of_body : (k by : ℕ) (g : Function) (o : Option Body) → g.body ≡ o → slice_get p.functions k ≡ Some g → by < length (code_of p g.body) → start p k p.functions + by ≡ q → IsWithin s code sig (emitted p [] nowhere) q
      of_body k by g None h t lt n = let none : length (code_of p g.body) ≡ 0 = ap (λ o. length (code_of p o)) h in absurd (omega arith)
      of_body k by g (Some body) h t lt n =
          let b = body_in p.table body in
          let defined : body_of s (16 + k) ≡ Some b = body_here p [] nowhere k g t ∙ ap (λ (o : Option Body). option_map (body_in p.table) o) h in
          let w = body_found p [] nowhere (16 + k) b defined in
          let place : w.place ≡ k = let e = w.number in omega arith in
          let long : length (code_of p g.body) ≡ length (body_code b (making_at s code sig b)) = ap (λ o. length (code_of p o)) h ∙ ap length (code_means p [] nowhere body) in
          let there : 0 + start p w.place p.functions + by ≡ q = let m : start p w.place p.functions ≡ start p k p.functions = ap (λ j. start p j p.functions) place in omega arith in
          record { func = 16 + k; body = b; defined = defined; by = by; inside = omega arith; there = ap (λ m. m + by) (entry_is p [] nowhere (16 + k) b defined) ∙ there }

  few_in : first_wide 0 (functions_in p) ≡ None → (f : ℕ) (b : typed.Body) → Found p [] nowhere f b → statement_depth b.statements ≤ 64
  few_in few f b w =
      let c = body_in p.table w.body in
      let no : is_wide (option_map (body_in p.table) w.function.body) ≡ false = all_few p.table 0 p.functions few w.place w.function w.there in
      let test : nat_lt 64 (body_depth c) ≡ false = ap (λ o. is_wide (option_map (body_in p.table) o)) (sym w.has) ∙ no in
      let most : max (statement_depth c.statements) (greatest_depth c.unevaluated) ≤ 64 = ltb-false 64 (body_depth c) test in
      let own : statement_depth c.statements ≤ 64 = omega (arith, most) in
      subst (λ (d : typed.Body). statement_depth d.statements ≤ 64) w.means own

  made : IsFit p → first_wide 0 (functions_in p) ≡ None → IsMadeOf s code sig height
  unfolding source_in
  made fit few = record {
    emitted = emitted p [] nowhere;
    within = within;
    stands = λ f b d. subst (λ n. Stand height n (body_heights b)) (sym (entry_is p [] nowhere f b d)) (stands f b (body_found p [] nowhere f b d));
    fits = λ f b d. record { few = few_in few f b (body_found p [] nowhere f b d); calls = (fit.bodies f b d).calls code knows; holds = (fit.bodies f b d).holds };
  }

  one_type : (f g : ℕ) (a b : FuncInfo) → func_of code f ≡ Some a → func_of code g ≡ Some b → a.sig ≡ b.sig → (a.params ≡ b.params) × (a.result ≡ b.result)
  unfolding sig_in
  one_type f g a b ea eb e =
      let ha = typed_at p [] nowhere f a ea in
      let hb = typed_at p [] nowhere g b eb in
      let us = fixed_types ++ types_of_functions s.program.functions in
      let same : type_of s f ≡ type_of s g = one_place us (type_of s f) (type_of s g) hb.3 (sym ha.2 ∙ (e ∙ hb.2)) in (
        ha.0 ∙ (ap (λ t. shapes_of (sources.params_of t)) same ∙ sym hb.0),
        ha.1 ∙ (ap (λ t. shape_of (sources.result_of t)) same ∙ sym hb.1),
      )

  -- the first of the fixed types is what a thread may run
  starts : (f : ℕ) (a : FuncInfo) → func_of code f ≡ Some a → a.sig ≡ start_sig → IsStart a
  unfolding sig_in
  starts f a e zero_sig =
      let h = typed_at p [] nowhere f a e in
      let us = fixed_types ++ types_of_functions s.program.functions in
      let same : thread_function ≡ type_of s f = one_place us thread_function (type_of s f) h.3 (sym (sym h.2 ∙ zero_sig)) in
      (h.0 ∙ ap (λ t. shapes_of (sources.params_of t)) (sym same), h.1 ∙ ap (λ t. shape_of (sources.result_of t)) (sym same))

  is_builtin : (b : Builtin) → IsBuiltin (builtin_info p b) (prototype (shapes_of (params_of_prototype (prototype_of b))) (shape_of (result_of_prototype (prototype_of b))))
  is_builtin b = record { params = refl; result = refl; no_body = refl }

  pub valid : IsFit p → first_wide 0 (functions_in p) ≡ None → ((height : ℕ → ℕ) → IsMadeOf s code sig height → IsSteady code height) → IsValid code
  unfolding source_in
  valid fit few law = record {
    height = height;
    steady = law height (made fit few);
    few_params = λ f info e. let h = typed_at p [] nowhere f info e in subst (λ ps. length ps ≤ 8) (sym h.0) (fit.few_params f);
    one_type = one_type;
    starts = starts;
    builtins = (is_builtin Malloc, (is_builtin Free, (is_builtin Spawn, (is_builtin Join, (is_builtin Lock, (is_builtin Unlock, (is_builtin Print, tt)))))));
    numbered = omega (arith, fit.few_functions, infos_counted p p.functions 0, length-map p.functions (function_in p.table));
  }

-- the same of parts that were put together
pub valid_made : (p : Declared) (bs ss : List FuncInfo) (is : List Instr) → bs ≡ map (builtin_info p) BUILTINS → ss ≡ infos_from p 0 p.functions → is ≡ codes_of p p.functions
    → IsFit p → first_wide 0 (functions_in p) ≡ None → ((s : Source) (code : Flat) (sig : CType → ℕ) (height : ℕ → ℕ) → IsMadeOf s code sig height → IsSteady code height)
    → IsValid (flat bs ss is)
valid_made p bs ss is eb es ei fit few law =
    let same : flat bs ss is ≡ lowered p = ap (λ l. flat l ss is) eb ∙ (ap (λ l. flat (map (builtin_info p) BUILTINS) l is) es ∙ ap (λ l. flat (map (builtin_info p) BUILTINS) (infos_from p 0 p.functions) l) ei) in
    subst (λ (c : Flat). IsValid c) (sym same) (valid p fit few (λ height made. law (source p [] nowhere) (lowered p) (sig_in p) height made))

-- the code makes the marks of each source that the program stands for
pub marks : (p : Declared) (s : Source) → IsSourceOf p s → ((s : Source) (code : Flat) (sig : CType → ℕ) → IsEmitted s code sig → MakesTheMarks s code) → MakesTheMarks s (lowered p)
marks p s of law =
    let same : source p s.program.names s.placed ≡ s =
    ap (λ q. record { program = q; texts = texts_in p.texts; placed = s.placed }) (sym of.program) ∙ ap (λ ts. record { program = s.program; texts = ts; placed = s.placed }) (sym of.texts) in
    subst (λ (z : Source). MakesTheMarks z (lowered p)) same (law (source p s.program.names s.placed) (lowered p) (sig_in p) (emitted p s.program.names s.placed))
