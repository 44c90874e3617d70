-- What an accepted cut permits is granted.
use Rattle.std.proofs.Common.{◌≡◌, ℕ, zero, suc, ◌-◌, ◌<◌, ◌≤◌, Bool, true, false, cond, ltb, List, [], length, Option, Some, None, is_some, slice_get, option_map, ◌⊎◌, inl, inr, refl, sym, ap, ◌∙◌, subst, arith}
use Rattle.std.specs.List.{Contains}
use Rattle.std.proofs.lemmas.Bool.{ltb-false, ltb-true, ne_eqb}
use Rattle.std.proofs.lemmas.List.Elements.{Contains-append_left}
use Rattle.std.proofs.lemmas.List.{length-map}
use Rattle.std.proofs.lemmas.Option.{slice_get-map, slice_get_within}
use Rattle.marks.specs.declared.side.Side.{Side}
use Rattle.marks.specs.declared.side.Side.TheVariants.{Replay, System}
use Rattle.c_builtins.specs.declared.builtin.Builtin.{Builtin}
use Rattle.c_builtins.specs.declared.builtin.Builtin.TheVariants.{Spawn, Join, Lock, Unlock, Print}
use Rattle.c_builtins.specs.Table.{in_interface, number_of}
use Rattle.c_types_rules.specs.TypedTree.{Body}
use Rattle.c_types_rules.specs.Sources.{Function, Program}
use Rattle.c_semantics.specs.Context.{Source, body_of, body_or, builtin_of, is_face, source_function}
use Rattle.c_semantics.specs.Calls.{is_pool}
use Rattle.c_semantics.specs.Arguments.{is_any, is_known}
use Rattle.cut_graph_rules.specs.declared.mention.Mention.{Mention}
use Rattle.cut_graph_rules.specs.declared.mention.Mention.TheVariants.{Function as FunctionMention, Global, Written}
use Rattle.cut_graph_rules.specs.Mentions.{statement_mentions, unevaluated_mentions}
use Rattle.cut_graph_rules.specs.Sources.{Mentioned, function_mentions, mentions_of}
use Rattle.cut_graph_rules.specs.MayRun.{IsFunction, Names, begins, below, crosses, in_body, in_value, mentions_in, or_nothing, stays}
use Rattle.cut_graph_rules.specs.Findings.{Cut, IsAccepted, IsGlobal, IsNamed, IsTouching, IsWritten, May, Mentions, Above, Shared, function_of, is_above, is_shared}
use Rattle.cut_graph_laws.specs.Granted.{Grants, called_side}
use Rattle.cut_graph_laws.specs.SoundCut.{IsCutOf, permits}

-- ---- functions by number

no_builtin : (f : ℕ) → 7 ≤ f → builtin_of f ≡ None
no_builtin f h =
    rw (ne_eqb f 0 (λ e. absurd (omega arith)), ne_eqb f 1 (λ e. absurd (omega arith)), ne_eqb f 2 (λ e. absurd (omega arith)), ne_eqb f 3 (λ e. absurd (omega arith)), ne_eqb f 4 (λ e. absurd (omega arith)), ne_eqb f 5 (λ e. absurd (omega arith)), ne_eqb f 6 (λ e. absurd (omega arith))) refl

-- a builtin that isn't of the pool is in the interface
builtin_face : (face : ℕ → Bool) → ((b : Builtin) → face (number_of b) ≡ in_interface b) → (f : ℕ) → is_any None (builtin_of f) ≡ true → is_pool Replay f ≡ false → face f ≡ true
builtin_face face h zero k np = absurd cc
builtin_face face h (suc zero) k np = absurd cc
builtin_face face h (suc (suc zero)) k np = h Spawn
builtin_face face h (suc (suc (suc zero))) k np = h Join
builtin_face face h (suc (suc (suc (suc zero)))) k np = h Lock
builtin_face face h (suc (suc (suc (suc (suc zero))))) k np = h Unlock
builtin_face face h (suc (suc (suc (suc (suc (suc zero)))))) k np = h Print
builtin_face face h (suc (suc (suc (suc (suc (suc (suc f))))))) k np =
    let no : false ≡ true = sym (ap (λ (o : Option Builtin). is_any None o) (no_builtin (suc (suc (suc (suc (suc (suc (suc f))))))) (omega arith))) ∙ k in
    absurd cc

-- a function of the source, with what its number says
record IsSource (s : Source) (f : ℕ) (g : Function) : Type 0 where
  pub least : 16 ≤ f
  pub there : slice_get s.program.functions (f - 16) ≡ Some g

module _ (s : Source) where
  -- what stands at the number
  placed : (f : ℕ) (t : Bool) (g : Function) → ltb f 16 ≡ t → cond t None (slice_get s.program.functions (f - 16)) ≡ Some g → IsSource s f g
  placed f true g l e = absurd cc
  placed f false g l e = record { least = ltb-false f 16 l; there = e }

  of_source : (f : ℕ) (g : Function) → source_function s f ≡ Some g → IsSource s f g
  of_source f g e = placed f (ltb f 16) g refl e

  with_body : (f : ℕ) (b : Body) → body_of s f ≡ Some b → (g : Function) × IsSource s f g × (g.body ≡ Some b)
  with_body f b e = by (source_function s f) refl e
    where
      by : (o : Option Function) → source_function s f ≡ o → body_or o ≡ Some b → (g : Function) × IsSource s f g × (g.body ≡ Some b)
      by None h k = absurd cc
      by (Some g) h k = (g, of_source f g h, k)

  body_known : (f : ℕ) (b : Body) → body_of s f ≡ Some b → is_known s f ≡ true
  body_known f b e = by (source_function s f) refl e
    where
      by : (o : Option Function) → source_function s f ≡ o → body_or o ≡ Some b → is_known s f ≡ true
      by None h k = absurd cc
      by (Some g) h k = ap (λ (o : Option Function). is_any o (builtin_of f)) h

  -- what is known is a function, by its number
  numbered : (f : ℕ) → is_known s f ≡ true → IsFunction (mentions_of s.program) f
  numbered f k = by (source_function s f) refl
    where
      count : length (mentions_of s.program).functions ≡ length s.program.functions
      count = length-map s.program.functions (λ (g : Function). function_mentions g.body)

      by : (o : Option Function) → source_function s f ≡ o → IsFunction (mentions_of s.program) f
      by (Some g) h =
          let i = of_source f g h in
          let least = i.least in
          let lt = slice_get_within s.program.functions (f - 16) g i.there in
          omega (arith, count)
      by None h = low (ltb f 7) refl (sym (ap (λ (o : Option Function). is_any o (builtin_of f)) h) ∙ k)
        where
          low : (b : Bool) → ltb f 7 ≡ b → is_any None (builtin_of f) ≡ true → IsFunction (mentions_of s.program) f
          low true l e = let lt : f < 7 = ltb-true f 7 l in omega (arith, count)
          low false l e =
              let le : 7 ≤ f = ltb-false f 7 l in
              let no : false ≡ true = sym (ap (λ (o : Option Builtin). is_any None o) (no_builtin f le)) ∙ e in
              absurd cc

-- where no least number has a property, none has it
module _ (P : ℕ → Type 0) (none : (a : ℕ) → P a → ((h : ℕ) → P h → a ≤ h) → ⊥) where
  no_less : (a h : ℕ) → (h < a → ⊥) → (t : Bool) → ltb h a ≡ t → a ≤ h
  no_less a h f true l = absurd (f (ltb-true h a l))
  no_less a h f false l = ltb-false h a l

  never : (k a : ℕ) → a < k → P a → ⊥
  never zero a lt pa = absurd (omega (arith, lt))
  never (suc k) a lt pa = none a pa (λ h ph. no_less a h (λ less. never k h (omega (arith, less, lt)) ph) (ltb h a) refl)

  least_of : (a : ℕ) → P a → ⊥
  least_of a pa = never (suc a) a (omega arith) pa

module _ (s : Source) (c : Cut) (of : IsCutOf s c) (accepted : IsAccepted c) where
  abbrev n : Mentioned
  n = mentions_of c.program

  -- ---- what a body mentions

  number_at : (f : ℕ) (t : Bool) → 16 ≤ f → ltb f 16 ≡ t → t ≡ false
  number_at f false le l = refl
  number_at f true le l = let lt : f < 16 = ltb-true f 16 l in absurd (omega (arith, lt, le))

  -- those of a function of the source
  listed : (f : ℕ) (g : Function) → IsSource s f g → mentions_in n f ≡ function_mentions g.body
  listed f g i =
      let high : ltb f 16 ≡ false = number_at f (ltb f 16) i.least refl in
      let here : slice_get n.functions (f - 16) ≡ Some (function_mentions g.body) =
      ap (λ (q : Program). slice_get (mentions_of q).functions (f - 16)) of.program
      ∙ (slice_get-map (λ (h : Function). function_mentions h.body) s.program.functions (f - 16) ∙ ap (option_map (λ (h : Function). function_mentions h.body)) i.there) in
      ap (λ (t : Bool). cond t [] (or_nothing (slice_get n.functions (f - 16)))) high ∙ ap or_nothing here

  mentioned : (f : ℕ) (b : Body) (m : Mention) → body_of s f ≡ Some b → Contains (statement_mentions b.statements) m → Mentions c f m
  mentioned f b m e k =
      let w = with_body s f b e in
      let same : mentions_in n f ≡ function_mentions (Some b) = listed f w.0 w.1 ∙ ap function_mentions w.2 in
      subst (λ (ms : List Mention). Contains ms m) (sym same) (Contains-append_left (statement_mentions b.statements) (unevaluated_mentions b.unevaluated) m k)

  -- ---- calls by name

  reaches : (side : Side) (f h : ℕ) → May c side f → Names n f h → IsFunction n h → (t : Bool) → c.face h ≡ t → May c (called_side side t) h
  reaches Replay f h may names is true e = crosses may names is e
  reaches Replay f h may names is false e = stays may names is e
  reaches System f h may names is t e = below may names is

  named : (side : Side) (f : ℕ) (b : Body) → body_of s f ≡ Some b → (is_known s f ≡ true → May c side f) → (h : ℕ) → Contains (statement_mentions b.statements) (FunctionMention h) → is_known s h ≡ true → May c (called_side side (is_face s h)) h
  named side f b e may h k known =
      let is : IsFunction n h = subst (λ (q : Program). IsFunction (mentions_of q) h) (sym of.program) (numbered s h known) in
      reaches side f h (may (body_known s f b e)) (in_body (mentioned f b (FunctionMention h) e k)) is (is_face s h) (of.faces h)

  -- ---- externals

  -- what names something is declared
  declared_by : (f h : ℕ) → Names n f h → (m : Mention) × Contains (mentions_in n f) m
  declared_by f h (in_body k) = (FunctionMention h, k)
  declared_by f h (in_value {g = g} k l) = (Global g, k)

  caller : (f : ℕ) (m : Mention) → Contains (mentions_in n f) m → (name : List ℕ) × IsNamed c.program f name
  caller f m k = by (ltb f 16) refl (slice_get s.program.functions (f - 16)) refl
    where
      by : (t : Bool) → ltb f 16 ≡ t → (o : Option Function) → slice_get s.program.functions (f - 16) ≡ o → (name : List ℕ) × IsNamed c.program f name
      by true l o e = let none = subst (λ (t : Bool). Contains (cond t [] (or_nothing (slice_get n.functions (f - 16)))) m) l k in absurd (omega (arith, none.1))
      by false l None e =
          let here : slice_get n.functions (f - 16) ≡ None =
          ap (λ (q : Program). slice_get (mentions_of q).functions (f - 16)) of.program
          ∙ (slice_get-map (λ (h : Function). function_mentions h.body) s.program.functions (f - 16) ∙ ap (option_map (λ (h : Function). function_mentions h.body)) e) in
          let same : mentions_in n f ≡ [] = ap (λ (t : Bool). cond t [] (or_nothing (slice_get n.functions (f - 16)))) l ∙ ap or_nothing here in
          let none = subst (λ (ms : List Mention). Contains ms m) same k in
          absurd (omega (arith, none.1))
      by false l (Some g) e = (g.name, record { function = g; of_source = ltb-false f 16 l; declared = ap (λ (q : Program). function_of q f) of.program ∙ e; named = refl })

  -- what may run above the cut is where the run begins, or is named by what may run there
  above_named : (side : Side) (f : ℕ) → May c side f → side ≡ Replay → (f ≡ c.main) ⊎ ((a : ℕ) × May c Replay a × Names n a f)
  above_named side f begins e = inl refl
  above_named side f (stays {f = a} r names is outside) e = inr (a, r, names)
  above_named side f (crosses {f = a} r names is inside) e = absurd cc
  above_named side f (below {f = a} r names is) e = absurd cc

  -- an external that is named above the cut is found
  no_external : (f : ℕ) (g : Function) → source_function s f ≡ Some g → body_of s f ≡ None → is_face s f ≡ false → May c Replay f → ⊥
  no_external f g h bare outside may = elim (above_named Replay f may refl) [
    | inl e ↦ let no : false ≡ true = sym (ap (λ (x : ℕ). is_some (body_of s x)) (sym e) ∙ ap (λ (o : Option Body). is_some o) bare) ∙ of.main in cc
    | inr z ↦
        let i = of_source s f g h in
        let by = declared_by z.0 f z.2 in
        let who = caller z.0 by.0 by.1 in
        accepted (Above g.name who.0)
        (is_above (record {
          function = g;
          of_source = i.least;
          declared = ap (λ (q : Program). function_of q f) of.program ∙ i.there;
          named = refl;
          without_body = sym (ap (λ (o : Option Function). body_or o) h) ∙ bare;
        }) (of.faces f ∙ outside) z.1 z.2 who.1)
  ]

  external : (f : ℕ) → is_known s f ≡ true → (is_known s f ≡ true → May c Replay f) → body_of s f ≡ None → is_pool Replay f ≡ false → is_face s f ≡ true
  external f known may bare no_pool = by (source_function s f) refl
    where
      by : (o : Option Function) → source_function s f ≡ o → is_face s f ≡ true
      by None h = sym (of.faces f) ∙ builtin_face c.face of.builtins f (sym (ap (λ (o : Option Function). is_any o (builtin_of f)) h) ∙ known) no_pool
      by (Some g) h = inside (is_face s f) refl
        where
          inside : (t : Bool) → is_face s f ≡ t → is_face s f ≡ true
          inside true e = e
          inside false e = absurd (no_external f g h bare e (may known))

  -- ---- all that is granted

  pub grants : Grants s (permits s c)
  grants = record {
    names = λ side f b e may h k known. named side f b e may h k known;
    touched = λ side f b e may g k. (f, record { runs = may (body_known s f b e); mentions = mentioned f b (Global g) e k });
    written = λ side f b e may g k. (f, record { runs = may (body_known s f b e); writes = mentioned f b (Written g) e k });
    externals = external;
  }

  -- ---- globals

  pub never_shared : (g : ℕ) (name : List ℕ) → IsGlobal c.program g name → (a b : ℕ) → IsTouching c Replay g a → IsTouching c System g b → IsWritten c g → ⊥
  never_shared g name is a b above under written =
      least_of (IsTouching c Replay g)
      (λ x tx lx. least_of (IsTouching c System g)
      (λ y ty ly.
      let first = caller x (Global g) tx.mentions in
      let second = caller y (Global g) ty.mentions in
      accepted (Shared name first.0 second.0) (is_shared is (record { touches = tx; least = lx }) (record { touches = ty; least = ly }) written first.1 second.1)) b under)
      a above
