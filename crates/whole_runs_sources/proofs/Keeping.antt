-- Where the cut of a source is accepted, direct calls of its code keep the modes.
use Rattle.std.proofs.Common.{◌≡◌, ◌≤◌, ◌<◌, ℕ, zero, suc, ◌+◌, ◌-◌, Bool, true, false, cond, List, [], ◌∷◌, length, map, Option, Some, None, refl, sym, ap, ◌∙◌, subst, arith}
use Rattle.std.specs.Prelude.{is_some, nat_lt, slice_get}
use Rattle.std.specs.List.{Contains}
use Rattle.std.specs.Option.{option_map}
use Rattle.std.proofs.lemmas.Bool.{ltb-false}
use Rattle.std.proofs.lemmas.List.{length-map}
use Rattle.std.proofs.lemmas.Option.{slice_get-map}
use Rattle.marks.specs.declared.side.Side.{Side}
use Rattle.marks.specs.declared.side.Side.TheVariants.{Replay, System}
use Rattle.memory_map.specs.declared.placed.Placed.{Placed}
use Rattle.c_builtins.specs.Table.{first_source_function, number_of}
use Rattle.c_code.specs.Machine.{Flat, entry, entry_of, is_true}
use Rattle.c_code.specs.MarkLists.{has_entry}
use Rattle.c_code.specs.Valid.{IsValid}
use Rattle.c_types_rules.specs.Sources as sources
use Rattle.c_types_rules.specs.Sources.{Program}
use Rattle.c_types_rules.specs.TypedTree as typed
use Rattle.c_types_program.specs.Declarations.{Declared, function_in}
use Rattle.c_lower.specs.Lowered.{lowered}
use Rattle.c_lower.proofs.Emitted.{known}
use Rattle.c_lower.proofs.Laid.{start}
use Rattle.cut_graph_rules.specs.declared.mention.Mention.{Mention}
use Rattle.cut_graph_rules.specs.Findings as cuts
use Rattle.cut_graph_rules.specs.Findings.{AreFindings, Cut, Finding, IsFinding, May, is_above}
use Rattle.cut_graph_rules.specs.MayRun as rules
use Rattle.cut_graph_rules.specs.MayRun.{MayRun, begins, below, crosses, in_body, in_value, mentions_in, or_nothing, stays}
use Rattle.cut_graph_rules.specs.Sources.{Mentioned, function_mentions, mentions_of}
use Rattle.isolation_check_rules.specs.Places.{AreFlags, source_of}
use Rattle.isolation_check.specs.Literals.{literals_in}
use Rattle.cut_graph_sources.proofs.Cuts.{is_cut, laid_out}
use Rattle.cut_graph_sources.proofs.Names.{main_has_a_body}
use Rattle.cut_check.specs.Sources.{cut_of, main_of}
use Rattle.front_end.specs.declared.source.CheckedSource.{CheckedSource}
use Rattle.whole_runs.specs.Code.{MayCallAbove, Names}
use Rattle.whole_runs.specs.Fits.{KeepsModes}
use Rattle.whole_runs.specs.World.{may_run}
use Rattle.whole_runs_sources.specs.Laws.{IsPlacedAs, laid_at}
use Rattle.whole_runs_sources.proofs.Bodies.{called, laid}
use Rattle.whole_runs_sources.proofs.Faces.{face_is}
use Rattle.whole_runs_sources.proofs.Facts.{is_of, mapped}
use Rattle.whole_runs_sources.proofs.Functions.{called_below}
use Rattle.whole_runs_sources.proofs.Main.{flag_true, has_body, main_below}
use Rattle.whole_runs_sources.proofs.MainOutside.{main_outside}

pub none_accepted : (c : Cut) → AreFindings c [] → cuts.IsAccepted c
none_accepted c are x f = let none = (are.exact x).1 f in absurd (omega (arith, none.1))

flagged : (p : Program) (P : ℕ → Type 0) (flags : List Bool) → AreFlags p P flags → (f : ℕ) → is_true (slice_get flags f) ≡ true → P f
flagged p P flags are f h = by (slice_get flags f) refl h
  where
    by : (o : Option Bool) → slice_get flags f ≡ o → is_true o ≡ true → P f
    by (Some b) e k = (are.exact f b e).0 k
    by None e k = absurd cc

get_some : {A : Type 0} (xs : List A) (k : ℕ) → k < length xs → (x : A) × (slice_get xs k ≡ Some x)
get_some [] k lt = absurd (omega arith)
get_some (x ∷ xs) zero lt = (x, refl)
get_some (x ∷ xs) (suc k) lt = get_some xs k (omega (arith, lt))

none_contained : {A : Type 0} (x : A) → Contains [] x → ⊥
none_contained x h = absurd (omega (arith, h.1))

-- what mentions something is a function of the source
record IsSourceFunction (p : Program) (f : ℕ) : Type 0 where
  function : sources.Function
  of_source : first_source_function ≤ f
  declared : slice_get p.functions (f - first_source_function) ≡ Some function

mentions_something : (p : Program) (f : ℕ) (m : Mention) → Contains (mentions_in (mentions_of p) f) m → IsSourceFunction p f
mentions_something p f m h = by (nat_lt f first_source_function) refl (slice_get p.functions (f - first_source_function)) refl h
  where
    all : sources.Function → List Mention
    all g = function_mentions g.body

    by : (b : Bool) → nat_lt f first_source_function ≡ b → (o : Option sources.Function) → slice_get p.functions (f - first_source_function) ≡ o →
        Contains (cond b [] (or_nothing (slice_get (map all p.functions) (f - first_source_function)))) m → IsSourceFunction p f
    by true l o e k = absurd (none_contained m k)
    by false l (Some g) e k = record { function = g; of_source = ltb-false f first_source_function l; declared = e }
    by false l None e k =
        let none : or_nothing (slice_get (map all p.functions) (f - first_source_function)) ≡ [] =
        ap or_nothing (slice_get-map all p.functions (f - first_source_function) ∙ ap (option_map all) e) in
        absurd (none_contained m (subst (λ (ms : List Mention). Contains ms m) none k))

names_something : (p : Program) (f g : ℕ) → rules.Names (mentions_of p) f g → IsSourceFunction p f
names_something p f g (in_body m) = mentions_something p f _ m
names_something p f g (in_value m more) = mentions_something p f _ m

module _ (bytes cut : List ℕ) (c : CheckedSource) (q : Placed) (h : IsPlacedAs bytes cut c q) (valid : IsValid c.code) where
  abbrev d : Declared
  d = c.program

  abbrev p : Program
  p = h.program

  abbrev mine : Cut
  mine = cut_of cut p h.annotated

  abbrev named : Mentioned
  named = mentions_of p

  accepted : cuts.IsAccepted mine
  accepted = none_accepted mine h.placed.none

  code_is : c.code ≡ lowered d
  code_is = (is_of bytes cut c q h).code

  many : length named.functions ≡ length p.functions
  many = length-map p.functions _

  -- ---- flags and the cut

  pub may_above : (f : ℕ) → may_run q Replay f ≡ true → May mine Replay f
  may_above f e = flagged p (May mine Replay) q.replay h.placed.placed.replay f e

  pub may_below : (f : ℕ) → may_run q System f ≡ true → May mine System f
  may_below f e = flagged p (May mine System) q.system h.placed.placed.system f e

  runs_above : (f : ℕ) → f < first_source_function + length p.functions → May mine Replay f → may_run q Replay f ≡ true
  runs_above f l m = flag_true p (May mine Replay) q.replay h.placed.placed.replay f l m

  runs_below : (f : ℕ) → f < first_source_function + length p.functions → May mine System f → may_run q System f ≡ true
  runs_below f l m = flag_true p (May mine System) q.system h.placed.placed.system f l m

  -- ---- direct calls

  names : (g f : ℕ) → Names (laid_at c q) g f → rules.Names named g f
  names g f n = in_body (called d q p (is_of bytes cut c q h).program g f (subst (λ (code : Flat). Names (record { code = code; placed = q }) g f) code_is n))

  known_below : (g f : ℕ) → Names (laid_at c q) g f → f < first_source_function + length p.functions
  known_below g f n = called_below bytes cut c q h valid n.place f n.arity n.calls

  is_function : (g f : ℕ) → Names (laid_at c q) g f → rules.IsFunction named f
  is_function g f n = let l = known_below g f n in omega (arith, l, many)

  -- ---- what runs above the cut

  above_below : (f : ℕ) → May mine Replay f → f < first_source_function + length p.functions
  above_below f m = by Replay f m refl
    where
      by : (side : Side) (f : ℕ) → MayRun named mine.face mine.main side f → side ≡ Replay → f < first_source_function + length p.functions
      by side f begins e = main_below bytes cut c q h
      by side f (stays m n function outside) e = omega (arith, function, many)
      by side f (crosses m n function inside) e = omega (arith, function, many)
      by side f (below m n function) e = omega (arith, function, many)

  outside_above : (f : ℕ) → May mine Replay f → mine.face f ≡ false
  outside_above f m = by Replay f m refl
    where
      by : (side : Side) (f : ℕ) → MayRun named mine.face mine.main side f → side ≡ Replay → mine.face f ≡ false
      by side f begins e = main_outside bytes cut c q h
      by side f (stays m n function outside) e = outside
      by side f (crosses m n function inside) e = absurd cc
      by side f (below m n function) e = absurd cc

  -- a function of the source has a body there: else it is found
  abbrev HasBody : ℕ → Type 0
  HasBody f = (g : sources.Function) × (slice_get p.functions (f - first_source_function) ≡ Some g) × (is_some g.body ≡ true)

  not_found : (f g : ℕ) → May mine Replay g → rules.Names named g f → first_source_function ≤ f → mine.face f ≡ false → (x : sources.Function) → slice_get p.functions (f - first_source_function) ≡ Some x →
      (o : Option typed.Body) → x.body ≡ o → is_some o ≡ true
  not_found f g m n source outside x at (Some b) e = refl
  not_found f g m n source outside x at None e =
      let caller = names_something p g f n in
      absurd (accepted _ (is_above {e = f} {f = g} {name = x.name} {caller = caller.function.name}
      (record { function = x; of_source = source; declared = at; named = refl; without_body = e }) outside m n
      (record { function = caller.function; of_source = caller.of_source; declared = caller.declared; named = refl })))

  body_above : (f : ℕ) → May mine Replay f → first_source_function ≤ f → HasBody f
  body_above f m source = by Replay f m refl source
    where
      by : (side : Side) (f : ℕ) → MayRun named mine.face mine.main side f → side ≡ Replay → first_source_function ≤ f → HasBody f
      by side f begins e l =
          let (g, at, body) = main_has_a_body h.says.right.ds p h.says.declares in
          let back : main_of p - first_source_function ≡ Rattle.std.specs.List.position_or_len Rattle.cut_check.specs.Sources.is_main p.functions = omega arith in
          (g, ap (slice_get p.functions) back ∙ at, body)
      by side f (stays {f = g} m n function outside) e l =
          let (x, at) = get_some p.functions (f - first_source_function) (omega (arith, l, function, many)) in
          (x, at, not_found f g m n l outside x at x.body refl)
      by side f (crosses m n function inside) e l = absurd cc
      by side f (below m n function) e l = absurd cc

  entry_there : (f : ℕ) → first_source_function ≤ f → HasBody f → has_entry (entry (laid_at c q) f) ≡ true
  entry_there f l (g, at, body) =
      let functions : map (function_in d.table) d.functions ≡ p.functions = ap (λ (r : Program). r.functions) (is_of bytes cut c q h).program in
      let k = f - first_source_function in
      let (x, there, is) = mapped (function_in d.table) d.functions k g (ap (λ (fs : List sources.Function). slice_get fs k) functions ∙ at) in
      let number : f ≡ 16 + k = omega (arith, l) in
      let here = ap (λ (n : ℕ). entry (laid d q) n) number ∙ ap entry_of (known d [] q k x there) in
      ap (λ (code : Flat). has_entry (entry (record { code = code; placed = q }) f)) code_is
      ∙ (ap has_entry here ∙ has_body d.table x.body (0 + start d k d.functions) (ap (λ (y : sources.Function). is_some y.body) is ∙ body))

  -- ---- the modes

  may_call : (g f : ℕ) → may_run q Replay g ≡ true → Names (laid_at c q) g f → MayCallAbove (laid_at c q) f
  may_call g f runs n =
      let m = may_above g runs in
      let inside = known_below g f n in
      record {
        face = λ is. runs_below f inside (crosses m (names g f n) (is_function g f n) (sym (face_is bytes cut c q h f) ∙ is));
        plain = λ is source. runs_above f inside (stays m (names g f n) (is_function g f n) (sym (face_is bytes cut c q h f) ∙ is));
        body = λ is source. entry_there f source (body_above f (stays m (names g f n) (is_function g f n) (sym (face_is bytes cut c q h f) ∙ is)) source);
      }

  pub keeps_modes : KeepsModes (laid_at c q)
  keeps_modes = record {
    above = may_call;
    below = λ g f runs n. runs_below f (known_below g f n) (below (may_below g runs) (names g f n) (is_function g f n));
    no_face = λ f runs. face_is bytes cut c q h f ∙ outside_above f (may_above f runs);
    bodies = λ f runs source. entry_there f source (body_above f (may_above f runs) source);
    builtins = λ b. face_is bytes cut c q h (number_of b) ∙ (is_cut bytes cut p h.annotated h.says (source_of p (literals_in d.texts) q) (laid_out bytes cut p h.annotated h.says (literals_in d.texts) q h.placed.placed)).builtins b;
  }
