-- What is found is all that is wrong.
use Rattle.std.proofs.Common.{◌≡◌, ◌⊎◌, inl, inr, ℕ, ◌+◌, ◌-◌, ◌<◌, ◌≤◌, Bool, true, false, not, List, length, refl, sym, ap, ◌∙◌, subst, arith}
use Rattle.std.specs.Prelude.{◌↔◌, Option, Some, None, slice_get, option_map, is_some}
use Rattle.std.specs.List.{Contains}
use Rattle.std.proofs.lemmas.Option.{slice_get_within}
use Rattle.std.proofs.lemmas.Bool.{and_from, and_parts, not-true, or_cases, or_left, or_right}
use Rattle.marks.specs.declared.side.Side.{Side}
use Rattle.marks.specs.declared.side.Side.TheVariants.{Replay, System}
use Rattle.c_builtins.specs.Table.{first_source_function}
use Rattle.c_types_rules.specs.Sources as sources
use Rattle.c_types_program.specs.declared.function.Function.{Function}
use Rattle.c_types_program.specs.Declarations.{Declared, body_in, function_in}
use Rattle.cut_graph_rules.specs.declared.mention.Mention.{Mention}
use Rattle.cut_graph_rules.specs.Sources.{Mentioned, mentions_of}
use Rattle.cut_graph_rules.specs.MayRun.{Names, mentions_in}
use Rattle.cut_graph_rules.specs.Findings as rules
use Rattle.cut_graph_rules.specs.Findings.{Cut, IsExternal, IsFinding, IsFirst, IsGlobal, IsNamed, IsTouching, IsWritten, May, Shared, Above, function_of, is_above, is_shared}
use Rattle.isolation_check_rows.specs.declared.kind.MentionKind.{MentionKind}
use Rattle.isolation_check_rows.specs.declared.kind.MentionKind.TheVariants as kinds
use Rattle.isolation_check_rows.specs.declared.sides.Counts.TheVariants as counting
use Rattle.isolation_check_rows.specs.Rows.{counts, first_from, flag, mention_of}
use Rattle.isolation_check_rows.specs.Firsts.{Mentions}
use Rattle.isolation_check_rows.proofs.Firsts.{found, nowhere}
use Rattle.isolation_check_findings.specs.Given.{IsCut}
use Rattle.isolation_check_findings.specs.Found.{IsAbove, IsBelow, IsSharedAt, function_name, has_no_body, is_outside}
use Rattle.isolation_check_findings.proofs.Naming.{as_many, function_at, function_inside, function_listed, global_inside, global_is, has_name, in_function, is_global, is_named, name_is, parts, there}

no_body : {A B : Type 0} (h : A → B) (o : Option A) → option_map h o ≡ None → not (is_some o) ≡ true
no_body h None e = refl
no_body h (Some a) e = let x : Some (h a) ≡ None = e in cc

without : {A B : Type 0} (h : A → B) (o : Option A) → not (is_some o) ≡ true → option_map h o ≡ None
without h None e = refl
without h (Some a) e = cc

module _ (p : Declared) (n : Mentioned) (above below faces : List Bool) (c : Cut) (k : IsCut p n above below faces c) where
  -- ---- functions that count, and what they mention

  mentions_at : (kind : MentionKind) (count : ℕ → Bool) (place q : ℕ) → Mentions kind count place first_source_function n.functions q
      → Contains (mentions_in (mentions_of c.program) (first_source_function + q)) (mention_of kind place)
  mentions_at kind count place q h =
      subst (λ (m : Mentioned). Contains (mentions_in m (first_source_function + q)) (mention_of kind place)) k.mentions
      (subst (λ (l : List Mention). Contains l (mention_of kind place)) (sym (in_function n q h.list h.there)) h.mentions)

  mentioned_by : (kind : MentionKind) (count : ℕ → Bool) (place f : ℕ) → count f ≡ true
      → Contains (mentions_in (mentions_of c.program) f) (mention_of kind place)
      → (q : ℕ) × (f ≡ first_source_function + q) × Mentions kind count place first_source_function n.functions q
  mentioned_by kind count place f runs h =
      let i = parts n f (mention_of kind place) (subst (λ (m : Mentioned). Contains (mentions_in m f) (mention_of kind place)) (sym k.mentions) h) in
      let e : f ≡ first_source_function + (f - first_source_function) = omega (arith, i.of_source) in (
        f - first_source_function,
        e,
        record {
          list = i.list;
          there = i.at;
          counts = subst (λ (g : ℕ). count g ≡ true) e runs;
          mentions = i.mentions;
        },
      )

  from_source : (kind : MentionKind) (count : ℕ → Bool) (place a : ℕ) → first_from kind count place first_source_function n.functions ≡ Some a
      → (g : sources.Function) × (first_source_function ≤ a) × (function_of c.program a ≡ Some g)
  from_source kind count place a e =
      let f = found kind count place first_source_function a n.functions e in
      let l = function_listed p n above below faces c k f.place f.does.list f.does.there in
      let at = f.at in
      let back : a - first_source_function ≡ f.place = omega arith in
      (l.0, omega arith, ap (λ (i : ℕ). slice_get c.program.functions i) back ∙ l.1)

  -- ---- first functions that mention a global

  module _ (side : Side) (count : ℕ → Bool) (iff : (f : ℕ) → (count f ≡ true) ↔ May c side f) (place : ℕ) where
    first_of : (a : ℕ) → first_from kinds.Global count place first_source_function n.functions ≡ Some a → IsFirst c side place a
    first_of a e =
        let f = found kinds.Global count place first_source_function a n.functions e in
        let t : IsTouching c side place (first_source_function + f.place) = record {
          runs = (iff (first_source_function + f.place)).0 f.does.counts;
          mentions = mentions_at kinds.Global count place f.place f.does;
        } in
        record {
          touches = subst (λ (x : ℕ). IsTouching c side place x) (sym f.at) t;
          least = λ h m.
              let q = mentioned_by kinds.Global count place h ((iff h).1 m.runs) m.mentions in
              let l = f.least q.0 q.2 in omega (arith, q.1);
        }

    first_by : (a : ℕ) (o : Option ℕ) → first_from kinds.Global count place first_source_function n.functions ≡ o → IsFirst c side place a → o ≡ Some a
    first_by a None e h =
        let q = mentioned_by kinds.Global count place a ((iff a).1 h.touches.runs) h.touches.mentions in
        absurd (nowhere kinds.Global count place first_source_function n.functions e q.0 q.2)
    first_by a (Some b) e h =
        let f = first_of b e in
        let up = h.least b f.touches in
        let down = f.least a h.touches in
        let same : b ≡ a = omega arith in ap Some same

    of_first : (a : ℕ) → IsFirst c side place a → first_from kinds.Global count place first_source_function n.functions ≡ Some a
    of_first a h = first_by a (first_from kinds.Global count place first_source_function n.functions) refl h

  -- ---- functions that write a global

  is_written : (place w : ℕ) → first_from kinds.Written (counts above below counting.Either) place first_source_function n.functions ≡ Some w
      → IsWritten c place
  is_written place w e =
      let f = found kinds.Written (counts above below counting.Either) place first_source_function w n.functions e in
      let by = first_source_function + f.place in
      let writes = mentions_at kinds.Written (counts above below counting.Either) place f.place f.does in
      elim (or_cases (flag above by) (flag below by) f.does.counts) [
        | inl h ↦ record { side = Replay; by = by; runs = (k.replay by).0 h; writes = writes }
        | inr h ↦ record { side = System; by = by; runs = (k.system by).0 h; writes = writes }
      ]

  either : (side : Side) (f : ℕ) → May c side f → counts above below counting.Either f ≡ true
  either Replay f m = or_left (flag above f) (flag below f) ((k.replay f).1 m)
  either System f m = or_right (flag above f) (flag below f) ((k.system f).1 m)

  written_by : (place : ℕ) (o : Option ℕ) → first_from kinds.Written (counts above below counting.Either) place first_source_function n.functions ≡ o
      → IsWritten c place → (w : ℕ) × (o ≡ Some w)
  written_by place None e h =
      let q = mentioned_by kinds.Written (counts above below counting.Either) place h.by (either h.side h.by h.runs) h.writes in
      absurd (nowhere kinds.Written (counts above below counting.Either) place first_source_function n.functions e q.0 q.2)
  written_by place (Some w) e h = (w, refl)

  of_written : (place : ℕ) → IsWritten c place
      → (w : ℕ) × (first_from kinds.Written (counts above below counting.Either) place first_source_function n.functions ≡ Some w)
  of_written place h = written_by place (first_from kinds.Written (counts above below counting.Either) place first_source_function n.functions) refl h

  -- ---- globals

  shared_is : (x : rules.Finding) → IsBelow (length p.globals) (IsSharedAt p n.functions above below) x → IsFinding c x
  shared_is x (place, lt, h) =
      let ga = from_source kinds.Global (counts above below counting.Above) place h.a h.has_above in
      let gb = from_source kinds.Global (counts above below counting.Below) place h.b h.has_below in
      subst (λ (y : rules.Finding). IsFinding c y) (sym h.is)
      (is_shared (is_global p n above below faces c k place lt)
      (first_of Replay (counts above below counting.Above) k.replay place h.a h.has_above)
      (first_of System (counts above below counting.Below) k.system place h.b h.has_below)
      (is_written place h.w h.has_written)
      (is_named p n above below faces c k h.a ga.0 ga.1 ga.2)
      (is_named p n above below faces c k h.b gb.0 gb.1 gb.2))

  -- ---- externals

  declared_at : (q : ℕ) → q < length p.functions
      → (f : Function) × (slice_get p.functions q ≡ Some f) × (function_of c.program (first_source_function + q) ≡ Some (function_in p.table f))
  declared_at q lt =
      let f = there p.functions q lt in
      let back : first_source_function + q - first_source_function ≡ q = omega arith in (
        f.0,
        f.1,
        function_at p n above below faces c k (first_source_function + q)
            ∙ (ap (λ (i : ℕ). option_map (function_in p.table) (slice_get p.functions i)) back ∙ ap (option_map (function_in p.table)) f.1),
      )

  external_is : (q : ℕ) → q < length p.functions → is_outside p faces q ≡ true
      → IsExternal c.program (first_source_function + q) (function_name p (first_source_function + q)) × (c.face (first_source_function + q) ≡ false)
  external_is q lt e =
      let tests = and_parts (has_no_body (slice_get p.functions q)) (not (flag faces (first_source_function + q))) e in
      let f = declared_at q lt in
      let bare : not (is_some f.0.body) ≡ true = ap has_no_body (sym f.1) ∙ tests.0 in (
        record {
          function = function_in p.table f.0;
          of_source = omega arith;
          declared = f.2;
          named = has_name p n above below faces c k (first_source_function + q) (function_in p.table f.0) f.2;
          without_body = without (body_in p.table) f.0.body bare;
        },
        sym (k.face (first_source_function + q)) ∙ not-true (flag faces (first_source_function + q)) tests.1,
      )

  above_is : (x : rules.Finding) → IsBelow (length n.functions) (IsAbove p n above faces (length p.functions)) x → IsFinding c x
  above_is x (caller, lt, h) =
      let e = h.external.0 in
      let at = h.external.2 in
      let ext = external_is e h.external.1 at.outside in
      let many = as_many p n above below faces c k in
      let f = declared_at caller (omega arith) in
      let names : Names (mentions_of c.program) (first_source_function + caller) (first_source_function + e) =
      subst (λ (m : Mentioned). Names m (first_source_function + caller) (first_source_function + e)) k.mentions at.named in
      subst (λ (y : rules.Finding). IsFinding c y) (sym at.is)
      (is_above ext.0 ext.1 ((k.replay (first_source_function + caller)).0 h.may_run) names
      (is_named p n above below faces c k (first_source_function + caller) (function_in p.table f.0) (omega arith) f.2))

  -- ---- all that is wrong is found

  found_of : (x : rules.Finding) → IsFinding c x
      → IsBelow (length p.globals) (IsSharedAt p n.functions above below) x ⊎ IsBelow (length n.functions) (IsAbove p n above faces (length p.functions)) x
  found_of _ (is_shared {place} {a} {b} {name} {above = over} {below = under} g fa fb w na nb) =
      let e1 = global_is p n above below faces c k place name g in
      let e2 = name_is p n above below faces c k a over na.function na.declared na.named in
      let e3 = name_is p n above below faces c k b under nb.function nb.declared nb.named in
      let written = of_written place w in
      inl (
        place,
        global_inside p n above below faces c k place name g,
        record {
          a = a;
          b = b;
          w = written.0;
          has_above = of_first Replay (counts above below counting.Above) k.replay place a fa;
          has_below = of_first System (counts above below counting.Below) k.system place b fb;
          has_written = written.1;
          is = λ i. Shared (e1 i) (e2 i) (e3 i);
        },
      )
  found_of _ (is_above {e} {f} {name} {caller} ext face may names named) =
      let inside_e = function_inside p n above below faces c k e ext.function ext.declared in
      let inside_f = function_inside p n above below faces c k f named.function named.declared in
      let lt_e = slice_get_within p.functions (e - first_source_function) inside_e.0 inside_e.1 in
      let lt_f = slice_get_within p.functions (f - first_source_function) inside_f.0 inside_f.1 in
      let many = as_many p n above below faces c k in
      let ee : e ≡ first_source_function + (e - first_source_function) = omega (arith, ext.of_source) in
      let ef : f ≡ first_source_function + (f - first_source_function) = omega (arith, named.of_source) in
      let bodiless : option_map (body_in p.table) inside_e.0.body ≡ None = ap (λ (g : sources.Function). g.body) inside_e.2 ∙ ext.without_body in
      let bare : has_no_body (slice_get p.functions (e - first_source_function)) ≡ true = ap has_no_body inside_e.1 ∙ no_body (body_in p.table) inside_e.0.body bodiless in
      let faceless : not (flag faces (first_source_function + (e - first_source_function))) ≡ true =
      ap (λ (g : ℕ). not (flag faces g)) (sym ee) ∙ (ap not (k.face e) ∙ ap not face) in
      let here : Names n f e = subst (λ (m : Mentioned). Names m f e) (sym k.mentions) names in
      let e1 = name_is p n above below faces c k e name ext.function ext.declared ext.named ∙ ap (function_name p) ee in
      let e2 = name_is p n above below faces c k f caller named.function named.declared named.named ∙ ap (function_name p) ef in
      inr (
        f - first_source_function,
        omega arith,
        record {
          may_run = subst (λ (g : ℕ). flag above g ≡ true) ef ((k.replay f).1 may);
          external = (
            e - first_source_function,
            lt_e,
            record {
              named = subst (λ (g : ℕ). Names n (first_source_function + (f - first_source_function)) g) ee (subst (λ (g : ℕ). Names n g e) ef here);
              outside = and_from (has_no_body (slice_get p.functions (e - first_source_function))) (not (flag faces (first_source_function + (e - first_source_function)))) bare faceless;
              is = λ i. Above (e1 i) (e2 i);
            },
          );
        },
      )

  pub exact_to : (x : rules.Finding)
      → IsBelow (length p.globals) (IsSharedAt p n.functions above below) x ⊎ IsBelow (length n.functions) (IsAbove p n above faces (length p.functions)) x
      → IsFinding c x
  exact_to x h = elim h [ inl s ↦ shared_is x s | inr a ↦ above_is x a ]

  pub exact_from : (x : rules.Finding) → IsFinding c x
      → IsBelow (length p.globals) (IsSharedAt p n.functions above below) x ⊎ IsBelow (length n.functions) (IsAbove p n above faces (length p.functions)) x
  exact_from x h = found_of x h
