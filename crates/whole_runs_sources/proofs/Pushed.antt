-- There is a place for each object that the code of an accepted source names.
use Rattle.std.proofs.Common.{◌≡◌, ℕ, suc, List, [], ◌∷◌, length, map, Some, refl, sym, ap, ◌∙◌, subst, arith}
use Rattle.std.specs.Prelude.{slice_get}
use Rattle.std.specs.List.{Contains}
use Rattle.std.specs.Option.{option_map}
use Rattle.std.proofs.lemmas.List.{length-map}
use Rattle.std.proofs.lemmas.List.Elements.{All-contains, All-from_recursion}
use Rattle.std.proofs.lemmas.Option.{slice_get-map}
use Rattle.memory_map.specs.declared.placed.Place.{Place}
use Rattle.memory_map.specs.declared.placed.Placed.{Placed}
use Rattle.c_lexer.specs.declared.token.Token.{Token}
use Rattle.c_syntax.specs.Syntax.{Decls}
use Rattle.c_code.specs.declared.instr.Instr.{Instr}
use Rattle.c_code.specs.declared.instr.Instr.TheVariants as instr
use Rattle.c_code.specs.declared.instr.Push.TheVariants as push
use Rattle.c_types_rules.specs.Limits as typing
use Rattle.c_types_rules.specs.Limits.{Outcome, Typed, outcome, type_of}
use Rattle.c_types_rules.specs.Sources as sources
use Rattle.c_types_rules.specs.Sources.{Program, extents_in}
use Rattle.c_types.specs.Texts.{texts_among}
use Rattle.c_types_model.specs.Types.{CType}
use Rattle.c_types_model.specs.declared.extent.Extent.{Extent}
use Rattle.c_semantics.specs.Context.{Source}
use Rattle.c_types_program.specs.declared.text.TextLiteral.{TextLiteral}
use Rattle.c_types_program.specs.Declarations.{Declared, body_in, function_in}
use Rattle.c_types_program.specs.Programs.{IsProgram, texts_in}
use Rattle.c_lower.specs.Named.{GlobalName, IsOfFunction, Name, TextName, instr_names, statement_names}
use Rattle.isolation_check_rules.specs.Places.{Literal, global_extents, inits, inits_of, source_of}
use Rattle.isolation_check.specs.Literals.{ended, literal_in, literals_in, strings_in}
use Rattle.front_end.specs.declared.source.CheckedSource.{CheckedSource}
use Rattle.front_end.specs.Answers.{SaysOf}
use Rattle.whole_runs.specs.Fits.{PlacesObjects}
use Rattle.whole_runs_sources.specs.Laws.{IsPlacedAs, laid_at}
use Rattle.whole_runs_sources.proofs.Facts.{is_code, is_of}
use Rattle.whole_runs_sources.proofs.KnownExpressions.{AreKnown, IsKnown}
use Rattle.whole_runs_sources.proofs.KnownPrograms.{Good, typed_good}
use Rattle.whole_runs_sources.proofs.Strings.{HasDecls, source_has}

-- ---- as many places as objects

strings_many : (ps : List Place) (ts : List TextLiteral) → inits_of ps ≡ map ended (strings_in ts) → length ps ≡ length ts
strings_many ps ts e =
    let a = length-map ps (λ (o : Place). o.init) in
    let b = ap length e in
    let c = length-map (strings_in ts) ended in
    let d = length-map (literals_in ts) (λ (l : Literal). l.bytes) in
    let f = length-map ts literal_in in
    omega (arith, a, b, c, d, f)

-- ---- what an accepted source has

-- the program that it is typed as, and its strings
record IsTypedAs (ts : List Token) (ds : Decls) (c : CheckedSource) : Type 0 where
  program : Program
  typed : outcome ds ≡ Typed program
  is : IsProgram c.program program
  texts : c.program.texts ≡ texts_among ts

typed_as : (cut : List ℕ) (ts : List Token) (ds : Decls) (c : CheckedSource) (o : Outcome) → outcome ds ≡ o → SaysOf cut ts ds o c → IsTypedAs ts ds c
typed_as cut ts ds c (Typed p) e says = record { program = p; typed = e; is = says.0; texts = says.1 }
typed_as cut ts ds c (typing.Rule from rule) e says = absurd says
typed_as cut ts ds c (typing.Limit w) e says = absurd says

inits_many : (s : Source) (gs : List sources.Global) (xs : List Extent) → length xs ≡ length gs → length (inits s gs xs) ≡ length gs
inits_many s [] xs e = refl
inits_many s (g ∷ gs) [] e = absurd (omega (arith, e))
inits_many s (g ∷ gs) (x ∷ xs) e = ap suc (inits_many s gs xs (omega (arith, e)))

extents_many : (p : Program) (ts : List CType) → length (extents_in p ts) ≡ length ts
extents_many p [] = refl
extents_many p (t ∷ ts) = ap suc (extents_many p ts)

module _ (bytes cut : List ℕ) (c : CheckedSource) (q : Placed) (h : IsPlacedAs bytes cut c q) where
  abbrev d : Declared
  d = c.program

  abbrev ts : List Token
  ts = h.accepted.right.source.tokens

  here : IsTypedAs ts h.accepted.right.ds c
  here = typed_as cut ts h.accepted.right.ds c (outcome h.accepted.right.ds) refl h.accepted.says

  abbrev p : Program
  p = here.program

  abbrev T : List ℕ
  T = texts_in d.texts

  good : Good T p
  good =
      typed_good T h.accepted.right.ds p
      (subst (λ (texts : List TextLiteral). HasDecls (texts_in texts) h.accepted.right.ds) (sym here.texts) (source_has ts h.accepted.right.ds h.accepted.right.source.spells)) here.typed

  -- what code names is declared, or stands in the source
  known : (place : ℕ) (i : Instr) → slice_get c.code.instrs place ≡ Some i → (n : Name) → Contains (instr_names i) n → IsKnown (length p.globals) (length T) n
  known place i e n at =
      let w : IsOfFunction d c.code place i = (is_code bytes cut c q h).names place i e in
      let ns = statement_names T (body_in d.table w.body).statements in
      let functions : map (function_in d.table) d.functions ≡ p.functions = ap (λ (r : Program). r.functions) here.is in
      let there : slice_get p.functions w.order ≡ Some (function_in d.table w.function) =
      sym (ap (λ (fs : List sources.Function). slice_get fs w.order) functions) ∙ (slice_get-map (function_in d.table) d.functions w.order ∙ ap (option_map (function_in d.table)) w.declared) in
      let body : AreKnown (length p.globals) (length T) ns = good.bodies w.order (function_in d.table w.function) (body_in d.table w.body) there (ap (option_map (body_in d.table)) w.defined) in
      let one : Contains ns n = All-contains (Contains ns) (instr_names i) n (All-from_recursion (Contains ns) (instr_names i) w.names) at in
      All-contains (IsKnown (length p.globals) (length T)) ns n (All-from_recursion (IsKnown (length p.globals) (length T)) ns body.all) one

  globals_placed : length q.globals ≡ length p.globals
  globals_placed =
      let r = h.program in
      let own : IsProgram d r = (is_of bytes cut c q h).program in
      let a = length-map q.globals (λ (o : Place). o.init) in
      let b = ap length h.placed.placed.globals in
      let x = extents_many r (map type_of r.globals) in
      let y = length-map r.globals type_of in
      let z = inits_many (source_of r (literals_in d.texts) q) r.globals (global_extents r) (x ∙ y) in
      let m = ap (λ (s : Program). length s.globals) own in
      let n = ap (λ (s : Program). length s.globals) here.is in
      omega (arith, a, b, z, m, n)

  strings_placed : length q.strings ≡ length T
  strings_placed = strings_many q.strings d.texts h.placed.placed.strings ∙ sym (length-map d.texts (λ (t : TextLiteral). t.from))

  pub places_objects : PlacesObjects (laid_at c q)
  places_objects = record {
    globals = λ place g e. let low = known place (instr.Push (push.Global g)) e (GlobalName g) (0, omega arith, refl) in omega (arith, low, globals_placed);
    strings = λ place s e. let low = known place (instr.Push (push.Text s)) e (TextName s) (0, omega arith, refl) in omega (arith, low, strings_placed);
    global_areas = h.placed.apart.globals;
    string_areas = h.placed.apart.strings;
    apart = h.placed.apart.apart;
  }
