-- What the code of an accepted source calls by name, the source mentions.
use Rattle.std.proofs.Common.{◌≡◌, ◌≤◌, ◌<◌, ℕ, zero, suc, ◌+◌, ◌-◌, Bool, false, cond, List, [], ◌∷◌, length, map, Option, Some, None, refl, sym, ap, ◌∙◌, subst, arith}
use Rattle.std.specs.Prelude.{nat_lt, slice_get}
use Rattle.std.specs.List.{AllByRecursion, Contains}
use Rattle.std.specs.Option.{option_map}
use Rattle.std.proofs.lemmas.Bool.{le-ltb}
use Rattle.std.proofs.lemmas.List.Elements.{All-contains, All-contains_itself, All-from_recursion, recursion_from_All}
use Rattle.std.proofs.lemmas.Option.{same_Some, slice_get-map}
use Rattle.memory_map.specs.declared.placed.Placed.{Placed}
use Rattle.c_builtins.specs.Table.{first_source_function}
use Rattle.c_code.specs.declared.instr.Instr.{Instr}
use Rattle.c_code.specs.declared.instr.Instr.TheVariants as instr
use Rattle.c_code.specs.Machine.{Laid, entry, entry_of, func_of}
use Rattle.c_types_rules.specs.TypedTree as typed
use Rattle.c_types_rules.specs.Sources as sources
use Rattle.c_types_rules.specs.Sources.{Program}
use Rattle.c_semantics.specs.Context.{body_of, local_offsets}
use Rattle.c_lower_placement.specs.Code.{Lies, body_code, statement_code}
use Rattle.c_types_program.specs.declared.function.Body.{Body}
use Rattle.c_types_program.specs.declared.function.Function.{Function}
use Rattle.c_types_program.specs.Declarations.{Declared, body_in, function_in}
use Rattle.c_types_program.specs.Programs.{IsProgram, texts_in}
use Rattle.c_lower_layout.specs.Sources.{source_in}
use Rattle.c_lower_bodies.specs.Making.{making, setting}
use Rattle.c_lower.specs.Lowered.{code_of, codes_of, entry_at, info_of, locals_of, lowered}
use Rattle.c_lower.specs.Named.{Among, FunctionName, Name, instr_names, statement_names}
use Rattle.c_lower.proofs.Emitted.{body_found, known, others, source}
use Rattle.c_lower.proofs.Laid.{lies_at, start}
use Rattle.c_lower.proofs.Naming.{Fine, all_get, body_fine}
use Rattle.cut_graph_rules.specs.declared.mention.Mention.{Mention}
use Rattle.cut_graph_rules.specs.declared.mention.Mention.TheVariants as mentions
use Rattle.cut_graph_rules.specs.MayRun.{mentions_in, or_nothing}
use Rattle.cut_graph_rules.specs.Sources.{body_mentions, function_mentions, mentions_of}
use Rattle.whole_runs.specs.Code.{Names, Reaches, begins, goes_on, next_places}
use Rattle.whole_runs_sources.proofs.Closed.{body_length, body_within, within_at}
use Rattle.whole_runs_sources.proofs.Named.{IsMentioned, all_mentioned}

-- an instruction of code that lies there
lies_get : (code is : List Instr) (at by : ℕ) → Lies code at is → by < length is → slice_get is by ≡ slice_get code (at + by)
lies_get code [] at by l lt = absurd (omega arith)
lies_get code (i ∷ is) at zero l lt = let n : at ≡ at + 0 = omega arith in sym l.0 ∙ ap (slice_get code) n
lies_get code (i ∷ is) at (suc by) l lt = let n : at + 1 + by ≡ at + suc by = omega arith in lies_get code is (at + 1) by l.1 (omega arith) ∙ ap (slice_get code) n

module _ (d : Declared) (q : Placed) where
  abbrev pub laid : Laid
  laid = record { code = lowered d; placed = q }

  abbrev code : Body → List Instr
  code b = code_of d (Some b)

  -- the place is one in the body of the function
  pub record Inside (g place : ℕ) : Type 0 where
    pub order : ℕ
    pub function : Function
    pub body : Body
    pub number : g ≡ first_source_function + order
    pub declared : slice_get d.functions order ≡ Some function
    pub defined : function.body ≡ Some body
    pub by : ℕ
    pub before : by < length (code_of d (Some body))
    pub there : start d order d.functions + by ≡ place

  -- ---- where a body begins

  some_code : (b : Body) → 0 < length (code_of d (Some b))
  some_code b = let n = body_length (making (setting d (local_offsets (source_in d) (locals_of d b)))) (body_in d.table b) in omega (arith, n)

  at_entry : (g place : ℕ) → entry laid g ≡ Some place → Inside g place
  at_entry g place e = by (body_of (source d [] q) g) refl
    where
      by : (o : Option typed.Body) → body_of (source d [] q) g ≡ o → Inside g place
      by None is = let none : None ≡ Some place = sym (others d [] q g is) ∙ e in absurd cc
      by (Some b) is =
          let w = body_found d [] q g b is in
          let info = info_of d (0 + start d w.place d.functions) w.function in
          let here : func_of (lowered d) g ≡ Some info = ap (func_of (lowered d)) w.number ∙ known d [] q w.place w.function w.there in
          let begins_at : entry_at w.function.body (0 + start d w.place d.functions) ≡ Some place = sym (ap entry_of here) ∙ e in
          let first : Some (0 + start d w.place d.functions) ≡ Some place = sym (ap (λ o. entry_at o (0 + start d w.place d.functions)) w.has) ∙ begins_at in
          let at : 0 + start d w.place d.functions ≡ place = same_Some (0 + start d w.place d.functions) place first in
          record {
            order = w.place;
            function = w.function;
            body = w.body;
            number = w.number;
            declared = w.there;
            defined = w.has;
            by = 0;
            before = some_code w.body;
            there = omega (arith, at);
          }

  -- ---- what stands in it

  instr_here : (g place : ℕ) (h : Inside g place) (i : Instr) → slice_get (lowered d).instrs place ≡ Some i → slice_get (code_of d (Some h.body)) h.by ≡ Some i
  instr_here g place h i e =
      let at = start d h.order d.functions in
      let lies : Lies (codes_of d d.functions) at (code_of d (Some h.body)) =
      subst (λ (o : Option Body). Lies (codes_of d d.functions) at (code_of d o)) h.defined (lies_at d d.functions h.order h.function h.declared) in
      lies_get (codes_of d d.functions) (code_of d (Some h.body)) at h.by lies h.before ∙ (ap (slice_get (codes_of d d.functions)) h.there ∙ e)

  -- it goes on in the same body
  further : (g place : ℕ) (h : Inside g place) (i : Instr) (to : ℕ) → slice_get (lowered d).instrs place ≡ Some i → Contains (next_places place i) to → Inside g to
  further g place h i to e goes =
      let x = making (setting d (local_offsets (source_in d) (locals_of d h.body))) in
      let b = body_in d.table h.body in
      let at = start d h.order d.functions in
      let first = at in
      let last = at + length (statement_code b.statements x 0 0) + 1 in
      let all : AllByRecursion (λ (n : ℕ). (first ≤ n) × (n ≤ last)) (next_places place i) =
      subst (λ (n : ℕ). AllByRecursion (λ (m : ℕ). (first ≤ m) × (m ≤ last)) (next_places n i)) h.there
      (within_at first last at h.by (body_code b x) i (body_within x b at) (instr_here g place h i e)) in
      let inside : (first ≤ to) × (to ≤ last) = All-contains (λ (n : ℕ). (first ≤ n) × (n ≤ last)) (next_places place i) to (All-from_recursion (λ (n : ℕ). (first ≤ n) × (n ≤ last)) (next_places place i) all) goes in
      let long = body_length x b in
      record {
        order = h.order;
        function = h.function;
        body = h.body;
        number = h.number;
        declared = h.declared;
        defined = h.defined;
        by = to - at;
        before = omega (arith, inside.0, inside.1, long);
        there = omega (arith, inside.0);
      }

  pub reached : (g place : ℕ) → Reaches laid g place → Inside g place
  reached g place (begins e) = at_entry g place e
  reached g place (goes_on {p = p} i r e to) = further g p (reached g p r) i place e to

  -- ---- what it names

  abbrev names_of : Body → List Name
  names_of b = statement_names (texts_in d.texts) (body_in d.table b).statements

  code_fine : (b : Body) → Fine (names_of b) (code_of d (Some b))
  unfolding source_in
  code_fine b =
      let ns = names_of b in
      body_fine ns (making (setting d (local_offsets (source_in d) (locals_of d b)))) (body_in d.table b) (recursion_from_All (Contains ns) ns (All-contains_itself ns))

  -- the mentions of a body have each name that its code has
  pub mentioned : (g place : ℕ) (h : Inside g place) (i : Instr) → slice_get (lowered d).instrs place ≡ Some i → (n : Name) → Contains (instr_names i) n → IsMentioned (body_mentions (body_in d.table h.body)) n
  mentioned g place h i e n at =
      let b = body_in d.table h.body in
      let ns = names_of h.body in
      let among : AllByRecursion (Contains ns) (instr_names i) = all_get (λ j. Among ns (instr_names j)) (code_of d (Some h.body)) h.by i (code_fine h.body) (instr_here g place h i e) in
      let one : Contains ns n = All-contains (Contains ns) (instr_names i) n (All-from_recursion (Contains ns) (instr_names i) among) at in
      All-contains (IsMentioned (body_mentions b)) ns n (All-from_recursion (IsMentioned (body_mentions b)) ns (all_mentioned (texts_in d.texts) b.statements _)) one

  -- they are what the source mentions of the function
  module _ (p : Program) (is : IsProgram d p) where
    functions_are : map (function_in d.table) d.functions ≡ p.functions
    functions_are = ap (λ (r : Program). r.functions) is

    pub mentions_here : (g place : ℕ) (h : Inside g place) → mentions_in (mentions_of p) g ≡ body_mentions (body_in d.table h.body)
    mentions_here g place h =
        let number : g ≡ 16 + h.order = h.number in
        let not_below : nat_lt g 16 ≡ false = le-ltb g 16 (omega (arith, number)) in
        let back : g - 16 ≡ h.order = omega (arith, number) in
        let there : slice_get p.functions h.order ≡ Some (function_in d.table h.function) =
        sym (ap (λ (fs : List sources.Function). slice_get fs h.order) functions_are) ∙ (slice_get-map (function_in d.table) d.functions h.order ∙ ap (option_map (function_in d.table)) h.declared) in
        let all = λ (f : sources.Function). function_mentions f.body in
        ap (λ (b : Bool). cond b [] (or_nothing (slice_get (map all p.functions) (g - 16)))) not_below
        ∙ (ap (λ (k : ℕ). or_nothing (slice_get (map all p.functions) k)) back
        ∙ (ap or_nothing (slice_get-map all p.functions h.order)
        ∙ (ap (λ (o : Option sources.Function). or_nothing (option_map all o)) there
        ∙ ap (λ (o : Option Body). function_mentions (option_map (body_in d.table) o)) h.defined)))

    -- a function that is called by name is mentioned
    pub called : (g f : ℕ) → Names laid g f → Contains (mentions_in (mentions_of p) g) (mentions.Function f)
    called g f n =
        let h = reached g n.place n.reaches in
        let itself : Contains (instr_names (instr.Call f n.arity)) (FunctionName f) = (0, omega arith, refl) in
        subst (λ (ms : List Mention). Contains ms (mentions.Function f)) (sym (mentions_here g n.place h)) (mentioned g n.place h (instr.Call f n.arity) n.calls (FunctionName f) itself)
