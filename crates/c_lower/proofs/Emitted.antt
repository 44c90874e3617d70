-- The code of a program holds the code of each function of its source.
use Rattle.std.proofs.Common.{◌≡◌, ℕ, zero, suc, ◌+◌, ◌-◌, ◌^◌, ◌<◌, ◌≤◌, ◌⊎◌, inl, inr, Bool, true, false, cond, eqb, ltb, leb, List, [], ◌∷◌, ◌++◌, length, length-append, map, Option, Some, None, refl, sym, ap, ◌∙◌, subst, arith}
use Rattle.std.specs.Prelude.{slice_get}
use Rattle.std.specs.Option.{option_map}
use Rattle.std.proofs.lemmas.Option.{same_Some, slice_get_within, slice_get-map}
use Rattle.std.proofs.lemmas.Bool.{le-ltb, leb-true, ltb-false, ne_eqb}
use Rattle.memory_map.specs.declared.placed.Placed.{Placed}
use Rattle.c_code.specs.declared.code.FuncInfo.{FuncInfo}
use Rattle.c_code.specs.declared.instr.Instr.{Instr}
use Rattle.c_code.specs.Machine.{Flat, entry, entry_of, func_of, has_sig}
use Rattle.c_code.specs.MarkLists.{result_shape as known_result}
use Rattle.c_scopes.specs.Scopes.{Scope}
use Rattle.c_types_model.specs.Types.{CType, Void}
use Rattle.c_builtins.specs.declared.builtin.Builtin.{Builtin}
use Rattle.c_builtins.specs.declared.builtin.Builtin.TheVariants.{Malloc, Free, Spawn, Join, Lock, Unlock, Print}
use Rattle.c_builtins.specs.declared.lookup.TheConstants.{BUILTINS}
use Rattle.c_builtins.specs.Table.{prototype_of}
use Rattle.c_types_rules.specs.Environment.{Meaning}
use Rattle.c_types_rules.specs.Sources as sources
use Rattle.c_types_rules.specs.Limits.{frame_size}
use Rattle.c_types_rules.specs.TypeTests.{same_type}
use Rattle.c_types_rules.specs.TypedTree as typed
use Rattle.c_semantics.specs.Context.{Source, body_of, builtin_of, is_function_of, local_offsets, param_shapes, result_shape, shape_of, shapes_of, type_of}
use Rattle.c_lower_placement.specs.Code.{Lies, body_code, making as making_at}
use Rattle.c_lower_placement.specs.Laws.{IsEmitted, IsFunction, laid}
use Rattle.c_types_table.specs.Tables.{type_at}
use Rattle.c_types_program.specs.declared.function.Body.{Body}
use Rattle.c_types_program.specs.declared.function.Function.{Function}
use Rattle.c_types_program.specs.Declarations.{Declared, body_in, function_in}
use Rattle.c_types_program.specs.Programs.{program_in, texts_in}
use Rattle.c_lower_layout.specs.Sources.{fixed_types, place_among, sig_in, source_in, types_of_functions}
use Rattle.c_lower.specs.Lowered.{builtin_info, code_of, codes_of, entry_at, frame_of, info_of, infos_from, locals_of, lowered}
use Rattle.c_lower.proofs.Same.{body_same}
use Rattle.c_lower_layout.proofs.Numbers.{numbers_tell, within}
use Rattle.c_lower.proofs.Laid.{info_at, known_at, lies_at, none_at, start}

-- the source of a program, with these names at file scope, whose objects lie there
abbrev pub source : Declared → Scope Meaning → Placed → Source
source p names placed = record { program = program_in p names; texts = texts_in p.texts; placed = placed }

-- ---- builtins

pub no_builtin : (f : ℕ) → 7 ≤ f → builtin_of f ≡ None
no_builtin f h =
    rw (ne_eqb f 0 (λ e. absurd (omega arith)), ne_eqb f 1 (λ e. absurd (omega arith)), ne_eqb f 2 (λ e. absurd (omega arith)), ne_eqb f 3 (λ e. absurd (omega arith)), ne_eqb f 4 (λ e. absurd (omega arith)), ne_eqb f 5 (λ e. absurd (omega arith)), ne_eqb f 6 (λ e. absurd (omega arith))) refl

-- what is known at the number of a builtin
pub builtin_known : (p : Declared) (f : ℕ) (info : FuncInfo) → slice_get (map (builtin_info p) BUILTINS) f ≡ Some info → (b : Builtin) × (info ≡ builtin_info p b) × (builtin_of f ≡ Some b)
builtin_known p zero info e = (Malloc, sym (same_Some _ info e), refl)
builtin_known p (suc zero) info e = (Free, sym (same_Some _ info e), refl)
builtin_known p (suc (suc zero)) info e = (Spawn, sym (same_Some _ info e), refl)
builtin_known p (suc (suc (suc zero))) info e = (Join, sym (same_Some _ info e), refl)
builtin_known p (suc (suc (suc (suc zero)))) info e = (Lock, sym (same_Some _ info e), refl)
builtin_known p (suc (suc (suc (suc (suc zero))))) info e = (Unlock, sym (same_Some _ info e), refl)
builtin_known p (suc (suc (suc (suc (suc (suc zero)))))) info e = (Print, sym (same_Some _ info e), refl)
builtin_known p (suc (suc (suc (suc (suc (suc (suc f))))))) info e = absurd cc

no_entry : (p : Declared) (bs : List Builtin) (f : ℕ) → entry_of (slice_get (map (builtin_info p) bs) f) ≡ None
no_entry p [] f = refl
no_entry p (b ∷ bs) zero = refl
no_entry p (b ∷ bs) (suc f) = no_entry p bs f

module _ (p : Declared) (names : Scope Meaning) (placed : Placed) where
  abbrev pub s : Source
  s = source p names placed

  abbrev pub code : Flat
  code = lowered p

  abbrev pub sig : CType → ℕ
  sig = sig_in p

  -- ---- functions of the source by number

  not_below : (k : ℕ) → ltb (16 + k) 16 ≡ false
  not_below k = le-ltb (16 + k) 16 (omega arith)

  minus : (k : ℕ) → 16 + k - 16 ≡ k
  minus k = omega arith

  above : (f : ℕ) → ltb f 16 ≡ false → f ≡ 16 + (f - 16)
  above f h = let le : 16 ≤ f = ltb-false f 16 h in omega arith

  pub type_here : (k : ℕ) (g : Function) → slice_get p.functions k ≡ Some g → type_of s (16 + k) ≡ type_at p.table.types g.ty
  type_here k g e = rw (not_below k, minus k, slice_get-map (function_in p.table) p.functions k, e) refl

  pub body_here : (k : ℕ) (g : Function) → slice_get p.functions k ≡ Some g → body_of s (16 + k) ≡ option_map (body_in p.table) g.body
  body_here k g e = rw (not_below k, minus k, slice_get-map (function_in p.table) p.functions k, e) refl

  pub known : (k : ℕ) (g : Function) → slice_get p.functions k ≡ Some g → func_of code (16 + k) ≡ Some (info_of p (0 + start p k p.functions) g)
  known k g e = rw (not_below k, minus k) (info_at p p.functions k 0 g e)

  -- ---- bodies

  -- what a function is whose body is known
  pub record Found (f : ℕ) (b : typed.Body) : Type 0 where
    pub place : ℕ
    pub function : Function
    pub body : Body
    pub number : f ≡ 16 + place
    pub there : slice_get p.functions place ≡ Some function
    pub has : function.body ≡ Some body
    pub means : body_in p.table body ≡ b

  pub body_found : (f : ℕ) (b : typed.Body) → body_of s f ≡ Some b → Found f b
  body_found f b e = by (ltb f 16) refl
    where
      of_body : (g : Function) (o : Option Body) → g.body ≡ o → slice_get p.functions (f - 16) ≡ Some g → ltb f 16 ≡ false → option_map (body_in p.table) o ≡ Some b → Found f b
      of_body g None h t l d = absurd cc
      of_body g (Some body) h t l d = record { place = f - 16; function = g; body = body; number = above f l; there = t; has = h; means = same_Some (body_in p.table body) b d }

      of_function : (o : Option Function) → slice_get p.functions (f - 16) ≡ o → ltb f 16 ≡ false → body_of s f ≡ Some b → Found f b
      of_function None t l d =
          let none : body_of s f ≡ None = rw (l, slice_get-map (function_in p.table) p.functions (f - 16), t) refl in
          absurd cc
      of_function (Some g) t l d =
          let some : body_of s f ≡ option_map (body_in p.table) g.body = rw (l, slice_get-map (function_in p.table) p.functions (f - 16), t) refl in
          of_body g g.body refl t l (sym some ∙ d)

      by : (c : Bool) → ltb f 16 ≡ c → Found f b
      by true l = let none : body_of s f ≡ None = rw l refl in absurd cc
      by false l = of_function (slice_get p.functions (f - 16)) refl l e

  -- the code of a function is that of its definition, wherever it stands
  pub code_means : (body : Body) → code_of p (Some body) ≡ body_code (body_in p.table body) (making_at s code sig (body_in p.table body))
  unfolding source_in
  code_means body = body_same p (local_offsets (source_in p) (locals_of p body)) sig [] names _ placed _ code (body_in p.table body)

  pub is_function : (f : ℕ) (b : typed.Body) → Found f b → IsFunction s code sig f b
  unfolding source_in
  is_function f b w =
      let type : type_of s f ≡ type_at p.table.types w.function.ty = ap (type_of s) w.number ∙ type_here w.place w.function w.there in
      let size : frame_of p w.function.body ≡ frame_size (program_in p names) b.locals =
      ap (frame_of p) w.has ∙ ap (λ (c : typed.Body). frame_size (program_in p names) c.locals) w.means in
      let lies : Lies code.instrs (0 + start p w.place p.functions) (code_of p w.function.body) = subst (λ n. Lies code.instrs n (code_of p w.function.body)) (omega arith) (lies_at p p.functions w.place w.function w.there) in
      record {
        info = info_of p (0 + start p w.place p.functions) w.function;
        entry = 0 + start p w.place p.functions;
        known = ap (func_of code) w.number ∙ known w.place w.function w.there;
        begins = ap (λ o. entry_at o (0 + start p w.place p.functions)) w.has;
        params = ap (λ t. shapes_of (sources.params_of t)) (sym type);
        result = ap (λ t. shape_of (sources.result_of t)) (sym type);
        frame = size;
        lies = subst (λ (is : List Instr). Lies code.instrs (0 + start p w.place p.functions) is)
            (ap (code_of p) w.has ∙ (code_means w.body ∙ ap (λ (c : typed.Body). body_code c (making_at s code sig c)) w.means)) lies;
      }

  -- ---- other functions

  pub others : (f : ℕ) → body_of s f ≡ None → entry (laid s code) f ≡ None
  others f d = by (ltb f 16) refl
    where
      of_body : (g : Function) (o : Option Body) → g.body ≡ o → option_map (body_in p.table) g.body ≡ None → (at : ℕ) → entry_at g.body at ≡ None
      of_body g None h n at = ap (λ o. entry_at o at) h
      of_body g (Some body) h n at = let some : option_map (body_in p.table) g.body ≡ Some (body_in p.table body) = ap (option_map (body_in p.table)) h in absurd cc

      of_function : (o : Option Function) → slice_get p.functions (f - 16) ≡ o → ltb f 16 ≡ false → entry (laid s code) f ≡ None
      of_function None t l = rw (l, none_at p p.functions (f - 16) 0 t) refl
      of_function (Some g) t l =
          let has : option_map (body_in p.table) g.body ≡ None = sym (body_here (f - 16) g t) ∙ (ap (body_of s) (sym (above f l)) ∙ d) in
          ap (λ n. entry (laid s code) n) (above f l) ∙ (ap entry_of (known (f - 16) g t) ∙ of_body g g.body refl has (0 + start p (f - 16) p.functions))

      by : (c : Bool) → ltb f 16 ≡ c → entry (laid s code) f ≡ None
      by true l = rw l (no_entry p BUILTINS f)
      by false l = of_function (slice_get p.functions (f - 16)) refl l

  -- the type of the function of a number
  abbrev Typed : ℕ → FuncInfo → Type 0
  Typed f info = (info.params ≡ param_shapes s f) × (info.result ≡ result_shape s f) × (info.sig ≡ sig (type_of s f)) × (place_among (type_of s f) (fixed_types ++ types_of_functions s.program.functions) < length (fixed_types ++ types_of_functions s.program.functions))

  types_mapped : (fs : List Function) (k : ℕ) (g : Function) → slice_get fs k ≡ Some g → slice_get (types_of_functions (map (function_in p.table) fs)) k ≡ Some (type_at p.table.types g.ty)
  types_mapped [] k g e = absurd cc
  types_mapped (f ∷ fs) zero g e = ap (λ (h : Function). Some (type_at p.table.types h.ty)) (same_Some f g e)
  types_mapped (f ∷ fs) (suc k) g e = types_mapped fs k g e

  listed : (k : ℕ) (g : Function) → slice_get p.functions k ≡ Some g
      → place_among (type_at p.table.types g.ty) (fixed_types ++ types_of_functions s.program.functions) < length (fixed_types ++ types_of_functions s.program.functions)
  listed k g e =
      within (fixed_types ++ types_of_functions s.program.functions) (suc (suc (suc (suc (suc (suc (suc (suc k)))))))) (type_at p.table.types g.ty) (types_mapped p.functions k g e)

  builtin_listed : (b : Builtin) → place_among (prototype_of b) (fixed_types ++ types_of_functions s.program.functions) < length (fixed_types ++ types_of_functions s.program.functions)
  builtin_listed Malloc = within (fixed_types ++ types_of_functions s.program.functions) 1 (prototype_of Malloc) refl
  builtin_listed Free = within (fixed_types ++ types_of_functions s.program.functions) 2 (prototype_of Free) refl
  builtin_listed Spawn = within (fixed_types ++ types_of_functions s.program.functions) 3 (prototype_of Spawn) refl
  builtin_listed Join = within (fixed_types ++ types_of_functions s.program.functions) 4 (prototype_of Join) refl
  builtin_listed Lock = within (fixed_types ++ types_of_functions s.program.functions) 5 (prototype_of Lock) refl
  builtin_listed Unlock = within (fixed_types ++ types_of_functions s.program.functions) 6 (prototype_of Unlock) refl
  builtin_listed Print = within (fixed_types ++ types_of_functions s.program.functions) 7 (prototype_of Print) refl

  pub typed_at : (f : ℕ) (info : FuncInfo) → func_of code f ≡ Some info → Typed f info
  typed_at f info e = by (ltb f 16) refl
    where
      builtin : ltb f 16 ≡ true → (b : Builtin) → info ≡ builtin_info p b → builtin_of f ≡ Some b → Typed f info
      builtin l b h n =
          let type : type_of s f ≡ prototype_of b = rw (l, n) refl in (
            ap (λ (i : FuncInfo). i.params) h ∙ ap (λ t. shapes_of (sources.params_of t)) (sym type),
            ap (λ (i : FuncInfo). i.result) h ∙ ap (λ t. shape_of (sources.result_of t)) (sym type),
            ap (λ (i : FuncInfo). i.sig) h ∙ ap sig (sym type),
            subst (λ t. place_among t (fixed_types ++ types_of_functions s.program.functions) < length (fixed_types ++ types_of_functions s.program.functions)) (sym type) (builtin_listed b),
          )

      of_source : ltb f 16 ≡ false → (g : Function) → slice_get p.functions (f - 16) ≡ Some g → info ≡ info_of p (0 + start p (f - 16) p.functions) g → Typed f info
      of_source l g t h =
          let type : type_of s f ≡ type_at p.table.types g.ty = ap (type_of s) (above f l) ∙ type_here (f - 16) g t in (
            ap (λ (i : FuncInfo). i.params) h ∙ ap (λ t. shapes_of (sources.params_of t)) (sym type),
            ap (λ (i : FuncInfo). i.result) h ∙ ap (λ t. shape_of (sources.result_of t)) (sym type),
            ap (λ (i : FuncInfo). i.sig) h ∙ ap sig (sym type),
            subst (λ t. place_among t (fixed_types ++ types_of_functions s.program.functions) < length (fixed_types ++ types_of_functions s.program.functions)) (sym type) (listed (f - 16) g t),
          )

      by : (c : Bool) → ltb f 16 ≡ c → Typed f info
      by true l =
          let h : slice_get (map (builtin_info p) BUILTINS) f ≡ Some info = rw l at e in
          let k = builtin_known p f info h in
          builtin l k.0 k.1 k.2
      by false l =
          let h : slice_get (infos_from p 0 p.functions) (f - 16) ≡ Some info = rw l at e in
          let k = known_at p p.functions (f - 16) 0 info h in
          of_source l k.0 k.1 k.2

  -- no function has the number
  unknown : (f : ℕ) → func_of code f ≡ None → type_of s f ≡ Void
  unknown f e = by (ltb f 16) refl
    where
      of_function : (o : Option Function) → slice_get p.functions (f - 16) ≡ o → ltb f 16 ≡ false → type_of s f ≡ Void
      of_function None t l =
          let le : 16 ≤ f = ltb-false f 16 l in
          rw (l, slice_get-map (function_in p.table) p.functions (f - 16), t, no_builtin f (omega arith)) refl
      of_function (Some g) t l = let some : func_of code f ≡ Some (info_of p (0 + start p (f - 16) p.functions) g) = ap (func_of code) (above f l) ∙ known (f - 16) g t in absurd cc

      past : (f : ℕ) → slice_get (map (builtin_info p) BUILTINS) f ≡ None → 7 ≤ f
      past zero h = absurd cc
      past (suc zero) h = absurd cc
      past (suc (suc zero)) h = absurd cc
      past (suc (suc (suc zero))) h = absurd cc
      past (suc (suc (suc (suc zero)))) h = absurd cc
      past (suc (suc (suc (suc (suc zero))))) h = absurd cc
      past (suc (suc (suc (suc (suc (suc zero)))))) h = absurd cc
      past (suc (suc (suc (suc (suc (suc (suc f))))))) h = omega arith

      by : (c : Bool) → ltb f 16 ≡ c → type_of s f ≡ Void
      by true l =
          let h : slice_get (map (builtin_info p) BUILTINS) f ≡ None = rw l at e in
          rw (l, no_builtin f (past f h)) refl
      by false l = of_function (slice_get p.functions (f - 16)) refl l

  pub results : (f : ℕ) → known_result (func_of code f) ≡ result_shape s f
  results f = of (func_of code f) refl
    where
      of : (o : Option FuncInfo) → func_of code f ≡ o → known_result (func_of code f) ≡ result_shape s f
      of None e = ap known_result e ∙ ap (λ t. shape_of (sources.result_of t)) (sym (unknown f e))
      of (Some info) e = ap known_result e ∙ (typed_at f info e).1

  pub sigs : (t : CType) (f : ℕ) → leb 16 f ≡ true → has_sig (sig t) (func_of code f) ≡ is_function_of s t f
  unfolding sig_in
  sigs t f h =
      let le : 16 ≤ f = leb-true 16 f h in
      let l : ltb f 16 ≡ false = le-ltb f 16 le in
      of (slice_get p.functions (f - 16)) refl l
    where
      of : (o : Option Function) → slice_get p.functions (f - 16) ≡ o → ltb f 16 ≡ false → has_sig (sig t) (func_of code f) ≡ is_function_of s t f
      of None e l = rw (l, none_at p p.functions (f - 16) 0 e, slice_get-map (function_in p.table) p.functions (f - 16), e) refl
      of (Some g) e l =
          let test : has_sig (sig t) (func_of code f) ≡ same_type (type_at p.table.types g.ty) t =
          ap (has_sig (sig t)) (ap (func_of code) (above f l) ∙ known (f - 16) g e) ∙ numbers_tell (fixed_types ++ types_of_functions s.program.functions) t (type_at p.table.types g.ty) (listed (f - 16) g e) in
          let other : is_function_of s t f ≡ same_type (type_at p.table.types g.ty) t = rw (l, slice_get-map (function_in p.table) p.functions (f - 16), e) refl in
          test ∙ sym other

  -- flat code that holds the code of each function of the source
  pub emitted : IsEmitted s code sig
  emitted = record {
    bodies = λ f b d. is_function f b (body_found f b d);
    others = others;
    results = results;
    sigs = sigs;
  }

  -- where the code of a function begins
  pub entry_is : (f : ℕ) (b : typed.Body) (d : body_of s f ≡ Some b) → (emitted.bodies f b d).entry ≡ 0 + start p (body_found f b d).place p.functions
  unfolding emitted is_function
  entry_is f b d = refl
