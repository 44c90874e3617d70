-- The world of an accepted source runs under its cut.
use Rattle.std.proofs.Common.{◌≡◌, ℕ, List, [], ◌∷◌, map, refl, sym, ap, ◌∙◌, subst}
use Rattle.c_syntax.specs.Syntax.{Decls}
use Rattle.c_code.specs.Machine.{Flat}
use Rattle.c_semantics.specs.Context.{Source}
use Rattle.c_types_rules.specs.Limits.{Typed, outcome}
use Rattle.c_types_rules.specs.Sources.{Program}
use Rattle.c_types_program.specs.declared.text.TextLiteral.{TextLiteral}
use Rattle.c_types_program.specs.Declarations.{Declared}
use Rattle.c_types_program.specs.Programs.{IsProgram, texts_in}
use Rattle.c_lower_laws.specs.Fits.{IsFit}
use Rattle.annot_reader_rules.specs.Notes.{Annotated}
use Rattle.cut_graph_sources.proofs.Cuts.{is_cut, laid_out}
use Rattle.cut_check.specs.Sources.{Says, cut_of}
use Rattle.cut_check.proofs.OneText.{one_annotated, one_program}
use Rattle.isolation_check_rules.specs.Places.{Literal, source_of}
use Rattle.isolation_check.specs.Literals.{literals_in}
use Rattle.front_end.specs.declared.source.CheckedSource.{CheckedSource}
use Rattle.whole_runs.specs.Fits.{IsFitCode}
use Rattle.whole_runs.specs.World.{World}
use Rattle.whole_runs_cuts.specs.Laws.{RunsUnder}
use Rattle.whole_runs_cuts_sources.specs.Laws.{ProgramsRunUnderTheirCuts}
use Rattle.whole_runs_sources.specs.Laws.{IsPlacedAs, IsWorldOf, laid_at}
use Rattle.whole_runs_sources.proofs.Facts.{is_of}
use Rattle.whole_runs_sources.proofs.Keeping.{none_accepted}

same_texts : (ts : List TextLiteral) → map (λ (l : Literal). l.from) (literals_in ts) ≡ texts_in ts
same_texts [] = refl
same_texts (t ∷ ts) = ap (λ (ns : List ℕ). t.from ∷ ns) (same_texts ts)

module _ (bytes cut script : List ℕ) (c : CheckedSource) (w : World) (h : IsWorldOf bytes cut script c w)
    (fits : (ds : Decls) (p : Program) (d : Declared) → outcome ds ≡ Typed p → IsProgram d p → IsFit d)
    (code : IsFitCode (laid_at c w.laid.placed))
    (runs : (d : Declared) (s : Source) (w : World) → ProgramsRunUnderTheirCuts d s w) where
  abbrev q : IsPlacedAs bytes cut c w.laid.placed
  q = h.source

  abbrev s : Source
  s = source_of q.program (literals_in c.program.texts) w.laid.placed

  code_is : w.laid.code ≡ c.code
  code_is = h.code

  under : RunsUnder s (cut_of cut q.program q.annotated) w
  under =
      runs c.program s w
      (record {
        fit = fits q.says.right.ds q.program c.program q.says.declares (is_of bytes cut c w.laid.placed q).program;
        source = record { program = sym (is_of bytes cut c w.laid.placed q).program; texts = same_texts c.program.texts };
        laid_is = ap (λ (x : Flat). record { code = x; placed = w.laid.placed }) (code_is ∙ (is_of bytes cut c w.laid.placed q).code);
        code = subst (λ (x : Flat). IsFitCode (record { code = x; placed = w.laid.placed })) (sym code_is) code;
      })
      (cut_of cut q.program q.annotated)
      (is_cut bytes cut q.program q.annotated q.says s (laid_out bytes cut q.program q.annotated q.says (literals_in c.program.texts) w.laid.placed q.placed.placed))
      (none_accepted (cut_of cut q.program q.annotated) q.placed.none) (literals_in c.program.texts) q.placed.placed

  pub runs_under : (p : Program) (a : Annotated) → Says bytes cut p a → RunsUnder (source_of p (literals_in c.program.texts) w.laid.placed) (cut_of cut p a) w
  runs_under p a says =
      subst (λ (r : Program). RunsUnder (source_of r (literals_in c.program.texts) w.laid.placed) (cut_of cut r a) w) (one_program q.says says)
      (subst (λ (n : Annotated). RunsUnder s (cut_of cut q.program n) w) (one_annotated q.says says) under)
