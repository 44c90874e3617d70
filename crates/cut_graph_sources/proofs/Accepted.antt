-- What the front end says of a right source, and when its cut is accepted.
use Rattle.std.proofs.Common.{◌≡◌, ℕ, List, [], ◌∷◌, ◌++◌, map, codes, Ok, Some, refl, sym, ap, ◌∙◌, subst, arith}
use Rattle.std.proofs.lemmas.Option.{same_Some}
use Rattle.memory_map.specs.declared.placed.Placed.{Placed}
use Rattle.c_lexer.specs.declared.token.Token.{Token}
use Rattle.c_syntax.specs.Syntax.{Decls}
use Rattle.c_scopes.specs.Scopes.{Scope}
use Rattle.c_types_rules.specs.Checked.{Checked, Fine, Noted, Broken}
use Rattle.c_types_rules.specs.Environment.{Meaning}
use Rattle.c_types_rules.specs.Limits as limits
use Rattle.c_types_rules.specs.Limits.{Outcome, Typed, outcome}
use Rattle.c_types_rules.specs.Sources.{Program}
use Rattle.c_types_rules.specs.TypedTree.{Callee, Values, SourceFunction, BuiltinFunction, Through}
use Rattle.c_types_program.specs.Declarations.{Declared}
use Rattle.c_types_program.specs.Programs.{IsProgram, program_in, texts_in}
use Rattle.c_semantics.specs.Arguments.{ArgumentsAreConverted, Passes}
use Rattle.c_semantics.specs.Context.{Source}
use Rattle.c_semantics.specs.Returned.{ResultsAreConverted}
use Rattle.c_lower_placement.specs.Code.{making}
use Rattle.c_lower_placement.specs.Laws.{MakesTheMarks}
use Rattle.c_lower_layout.specs.Sources.{sig_in, source_in}
use Rattle.c_lower_laws.specs.Fits.{IsFit}
use Rattle.c_lower_laws.proofs.Passing.{statement_passes}
use Rattle.c_lower.specs.Lowered.{lowered}
use Rattle.c_lower.proofs.Valid.{knows}
use Rattle.annot_reader_rules.specs.Cuts.{annotations}
use Rattle.annot_reader_rules.specs.Notes.{Annotated}
use Rattle.annot_reader.specs.Interface.{Interface}
use Rattle.annot_reader.specs.Interfaces.{IsInterface}
use Rattle.cut_graph_rules.specs.Findings as cuts
use Rattle.cut_graph_rules.specs.Findings.{AreFindings, Cut, Finding, line_of}
use Rattle.isolation_check_rules.specs.Places.{IsPlaced, Literal, source_of}
use Rattle.lockset_check_rules.specs.declared.finding.LockFinding.{LockFinding}
use Rattle.front_end.specs.declared.source.CheckedSource.{CheckedSource}
use Rattle.front_end.specs.Answers.{IsAccepted, IsCode, SaysOf}
use Rattle.front_end.specs.Sources.{IsRight}
use Rattle.front_end.proofs.OneAnswer.{one_source}
use Rattle.cut_check.specs.Lines.{FindingsOf, FoundText, LinesOf, LockFindingsOf, of_cut, of_guards, of_lines, text_of}
use Rattle.cut_check.specs.Sources.{Says, cut_of, found}
use Rattle.cut_graph_laws.specs.SoundCut.{IsCutOf}
use Rattle.cut_graph_sources.specs.Sources.{IsAcceptedAs, IsSaid}
use Rattle.cut_graph_sources.proofs.Cuts.{is_cut, laid_out}

-- ---- what accepted bytes say

noted : (cut : List ℕ) (n : Checked Annotated) (i : Interface) → IsInterface cut n (Ok i) → (a : Annotated) × (found n ≡ Some a)
noted cut (Fine a) i h = (a, refl)
noted cut (Noted m a) i h = (a, refl)
noted cut (Broken from rule) i h = absurd h

said : (bytes cut : List ℕ) (c : CheckedSource) (right : IsRight bytes cut) (ts : List Token) (o : Outcome) → outcome right.ds ≡ o → SaysOf cut ts right.ds o c → IsSaid bytes cut
said bytes cut c right ts (Typed p) e says =
    let (a, here) = noted cut (annotations right.ds p) c.interface says.2 in
    record { program = p; annotated = a; says = record { right = right; declares = e; annotated = here } }
said bytes cut c right ts (limits.Rule from rule) e says = absurd says
said bytes cut c right ts (limits.Limit w) e says = absurd says

pub is_right : (bytes cut : List ℕ) (c : CheckedSource) → IsAccepted bytes cut c → IsSaid bytes cut
is_right bytes cut c accepted = said bytes cut c accepted.right accepted.right.source.tokens (outcome accepted.right.ds) refl accepted.says

-- ---- the bytes are one source

same_program : (bytes cut : List ℕ) (p q : Program) (a b : Annotated) → Says bytes cut p a → Says bytes cut q b → p ≡ q
same_program bytes cut p q a b s t =
    let both : Typed p ≡ Typed q = sym s.declares ∙ (ap outcome (one_source bytes s.right.ds t.right.ds s.right.source t.right.source) ∙ t.declares) in cc

same_notes : (bytes cut : List ℕ) (p q : Program) (a b : Annotated) → Says bytes cut p a → Says bytes cut q b → a ≡ b
same_notes bytes cut p q a b s t =
    same_Some a b (sym s.annotated ∙ (ap (λ (ds : Decls). found (annotations ds p)) (one_source bytes s.right.ds t.right.ds s.right.source t.right.source) ∙
    (ap (λ (r : Program). found (annotations t.right.ds r)) (same_program bytes cut p q a b s t) ∙ t.annotated)))

same_cut : (bytes cut : List ℕ) (p q : Program) (a b : Annotated) → Says bytes cut p a → Says bytes cut q b → cut_of cut q b ≡ cut_of cut p a
same_cut bytes cut p q a b s t = ap (λ (r : Program). cut_of cut r b) (sym (same_program bytes cut p q a b s t)) ∙ ap (λ (n : Annotated). cut_of cut p n) (sym (same_notes bytes cut p q a b s t))

-- ---- nothing is found

none_accepted : (c : Cut) → AreFindings c [] → cuts.IsAccepted c
none_accepted c are x f = let none = (are.exact x).1 f in absurd (omega (arith, none.1))

pub without_findings : (bytes cut : List ℕ) (p : Program) (a : Annotated) → Says bytes cut p a → FindingsOf bytes cut [] → cuts.IsAccepted (cut_of cut p a)
without_findings bytes cut p a says f =
    subst cuts.IsAccepted (same_cut bytes cut p f.program a f.annotated says f.says) (none_accepted (cut_of cut f.program f.annotated) f.are)

pub with_guards : (bytes cut : List ℕ) (p : Program) (a : Annotated) → Says bytes cut p a → (xs : List LockFinding) → LockFindingsOf bytes cut xs → cuts.IsAccepted (cut_of cut p a)
with_guards bytes cut p a says xs f = subst cuts.IsAccepted (same_cut bytes cut p f.program a f.annotated says f.says) f.accepted

-- a line has its end, so that no line is printed where there is no text
some_text : (line more : List ℕ) → [] ≡ (line ++ codes "\n") ++ more → ⊥
some_text [] more e = cc
some_text (x ∷ line) more e = cc

by_lines : (bytes cut : List ℕ) (p : Program) (a : Annotated) → Says bytes cut p a → (lines : List (List ℕ)) → LinesOf bytes cut lines → [] ≡ text_of lines → cuts.IsAccepted (cut_of cut p a)
by_lines bytes cut p a says lines (of_guards {xs = xs} f) e = with_guards bytes cut p a says xs f
by_lines bytes cut p a says lines (of_cut {xs = []} f some) e = absurd (some refl)
by_lines bytes cut p a says lines (of_cut {xs = x ∷ xs} f some) e = absurd (some_text (line_of x) (text_of (map line_of xs)) e)

by_text : (bytes cut : List ℕ) (p : Program) (a : Annotated) (text : List ℕ) → Says bytes cut p a → FoundText bytes cut text → [] ≡ text → cuts.IsAccepted (cut_of cut p a)
by_text bytes cut p a text says (of_lines {lines = lines} h) e = by_lines bytes cut p a says lines h e

pub without_text : (bytes cut : List ℕ) (p : Program) (a : Annotated) → Says bytes cut p a → FoundText bytes cut [] → cuts.IsAccepted (cut_of cut p a)
without_text bytes cut p a says h = by_text bytes cut p a [] says h refl

-- ---- places

pub placed_as : (bytes cut : List ℕ) (c : CheckedSource) (p : Program) (a : Annotated) → IsAccepted bytes cut c → Says bytes cut p a → cuts.IsAccepted (cut_of cut p a) → (ls : List Literal) (q : Placed)
    → map (λ l. l.from) ls ≡ texts_in c.program.texts → IsPlaced (cut_of cut p a) ls q → IsAcceptedAs bytes cut c p a (source_of p ls q)
placed_as bytes cut c p a taken says accepted ls q texts placed =
    record { has = record { says = says; accepted = accepted; is = laid_out bytes cut p a says ls q placed }; accepted = taken; texts = texts }

-- ---- programs and code

-- its program and code are those of this program
record IsOfProgram (p : Program) (c : CheckedSource) : Type 0 where
  program : IsProgram c.program p
  code : IsCode c.program c.code

of_outcome : (cut : List ℕ) (ts : List Token) (ds : Decls) (p : Program) (c : CheckedSource) (o : Outcome) → SaysOf cut ts ds o c → o ≡ Typed p → IsOfProgram p c
of_outcome cut ts ds p c (Typed q) says e =
    let same : q ≡ p = cc in
    subst (λ (r : Program). IsOfProgram r c) same (record { program = says.0; code = says.3 })
of_outcome cut ts ds p c (limits.Rule from rule) says e = absurd says
of_outcome cut ts ds p c (limits.Limit w) says e = absurd says

of_program : (bytes cut : List ℕ) (p : Program) (a : Annotated) (c : CheckedSource) → Says bytes cut p a → IsAccepted bytes cut c → IsOfProgram p c
of_program bytes cut p a c says accepted =
    let ds = accepted.right.ds in
    of_outcome cut accepted.right.source.tokens ds p c (outcome ds) accepted.says (ap outcome (one_source bytes ds says.right.ds accepted.right.source says.right.source) ∙ says.declares)

-- ---- arguments

-- the arguments of a fit program are converted, whatever its names and wherever its objects lie
arguments_convert : (d : Declared) (names : Scope Meaning) (texts : List ℕ) (placed : Placed) → IsFit d → ArgumentsAreConverted (record { program = program_in d names; texts = texts; placed = placed })
unfolding source_in
arguments_convert d names texts placed fit f b e =
    statement_passes (making (source_in d) (lowered d) (sig_in d) b) (record { program = program_in d names; texts = texts; placed = placed }) alike b.statements ((fit.bodies f b e).calls (lowered d) (knows d))
  where
    alike : (g : Callee) (vs : Values) → Passes (source_in d) g vs → Passes (record { program = program_in d names; texts = texts; placed = placed }) g vs
    alike (SourceFunction from number) vs h = h
    alike (BuiltinFunction from c) vs h = h
    alike (Through v) vs h = h

module _ (bytes cut : List ℕ) (c : CheckedSource) (p : Program) (a : Annotated) (s : Source) (is : IsAcceptedAs bytes cut c p a s) where
  of : IsOfProgram p c
  of = of_program bytes cut p a c is.has.says is.accepted

  pub cut_is : IsCutOf s (cut_of cut p a)
  cut_is = is_cut bytes cut p a is.has.says s is.has.is

  abbrev at_home : Program → Source
  at_home q = record { program = q; texts = s.texts; placed = s.placed }

  pub makes : MakesTheMarks s c.code
  makes = of.code.marks s (record { program = is.has.is.program ∙ (sym of.program ∙ ap (λ (q : Program). program_in c.program q.names) (sym is.has.is.program)); texts = is.texts })

  pub results : ((ds : Decls) (q : Program) → outcome ds ≡ Typed q → (texts : List ℕ) (placed : Placed) → ResultsAreConverted (record { program = q; texts = texts; placed = placed })) → ResultsAreConverted s
  results law = subst (λ (q : Program). ResultsAreConverted (at_home q)) (sym is.has.is.program) (law is.has.says.right.ds p is.has.says.declares s.texts s.placed)

  pub arguments : ((ds : Decls) (q : Program) (d : Declared) → outcome ds ≡ Typed q → IsProgram d q → IsFit d) → ArgumentsAreConverted s
  arguments law =
      subst (λ (q : Program). ArgumentsAreConverted (at_home q)) (of.program ∙ sym is.has.is.program)
      (arguments_convert c.program p.names s.texts s.placed (law is.has.says.right.ds p c.program is.has.says.declares of.program))
