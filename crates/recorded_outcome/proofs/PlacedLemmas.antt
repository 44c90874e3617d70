-- Where the objects of a source lie in which nothing is found.
use Rattle.std.proofs.Common.{◌≡◌, ℕ, List, [], ◌∷◌, Err, map, refl, subst}
use Rattle.std.specs.Prelude.{Vec}
use Rattle.std.specs.declared.alloc.Global.{Global}
use Rattle.memory_map.specs.declared.placed.Placed.{Placed}
use Rattle.c_types_rules.specs.Sources.{Program}
use Rattle.annot_reader_rules.specs.Notes.{Annotated}
use Rattle.cut_graph_rules.specs.Findings.{Finding, line_of}
use Rattle.isolation_check_findings.specs.declared.finding.Finding.{Finding as Found}
use Rattle.isolation_check_findings.specs.Found.{finding_of}
use Rattle.isolation_check.specs.declared.error.PlaceError.{PlaceError}
use Rattle.isolation_check.specs.declared.error.PlaceError.TheVariants.{Findings}
use Rattle.isolation_check.specs.Answers.{Answers, IsAcceptedAt, IsRefused}
use Rattle.isolation_check.specs.Literals.{literals_in}
use Rattle.front_end.specs.declared.source.CheckedSource.{CheckedSource}
use Rattle.front_end.specs.Answers.{IsAccepted}
use Rattle.cut_check.specs.Lines.{LinesOf, of_cut}
use Rattle.cut_check.specs.Sources.{Says, cut_of}
use Rattle.cut_check.proofs.Accepted.{known}
use Rattle.cut_check.proofs.OneText.{one_lines}
use Rattle.whole_runs_sources.specs.Laws.{IsPlacedAs}

pub placed_as : (bytes cut : List ℕ) (c : CheckedSource) (q : Placed) → IsAccepted bytes cut c
    → ((p : Program) (a : Annotated) → Says bytes cut p a → IsAcceptedAt (cut_of cut p a) (literals_in c.program.texts) q) → IsPlacedAs bytes cut c q
placed_as bytes cut c q accepted at = let k = known bytes cut c accepted in record {
  accepted = accepted;
  program = k.program;
  annotated = k.annotated;
  says = k.says;
  placed = at k.program k.annotated k.says;
}

no_line : (xs : List Finding) → map line_of xs ≡ [] → xs ≡ []
no_line [] e = refl
no_line (x ∷ xs) e = absurd (cc e)

-- nothing is refused where nothing is found
refused_not : (bytes cut : List ℕ) (c : CheckedSource) (xs : List Finding) → IsAccepted bytes cut c → LinesOf bytes cut []
    → ((p : Program) (a : Annotated) → Says bytes cut p a → IsRefused (cut_of cut p a) xs) → ⊥
refused_not bytes cut c xs accepted none refused =
    let k = known bytes cut c accepted in
    let r = refused k.program k.annotated k.says in
    r.some (no_line xs (one_lines (of_cut (record { program = k.program; annotated = k.annotated; says = k.says; are = r.all }) r.some) none))

pub not_refused : (bytes cut : List ℕ) (c : CheckedSource) (e : PlaceError) (fs : Vec Found Global) → e ≡ Findings fs → IsAccepted bytes cut c → LinesOf bytes cut []
    → ((p : Program) (a : Annotated) → Says bytes cut p a → Answers (cut_of cut p a) (literals_in c.program.texts) (Err e)) → ⊥
not_refused bytes cut c e fs is accepted none answers =
    refused_not bytes cut c (map finding_of fs.items) accepted none
    (λ p a says. subst (λ (x : PlaceError). Answers (cut_of cut p a) (literals_in c.program.texts) (Err x)) is (answers p a says))
