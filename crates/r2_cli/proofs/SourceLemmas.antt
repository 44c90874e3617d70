-- What reading a source comes to, and that its bytes and the name of the cut decide it.
use Rattle.std.proofs.Common.{◌≡◌, ℕ, List, [], refl, sym, ap, subst, codes}
use Rattle.source_limits.specs.Limits.{most_bytes}
use Rattle.cut_check.specs.Lines.{FoundText, LinesOf, of_lines, text_of}
use Rattle.cut_check.proofs.Lines.{no_lines, is_right}
use Rattle.cut_check.proofs.OneText.{one_lines, one_stubs}
use Rattle.front_end.specs.Answers.{IsSourceError}
use Rattle.front_end.specs.Same as alike
use Rattle.front_end.specs.Same.{SameError}
use Rattle.front_end.specs.declared.error.SourceError.{SourceError}
use Rattle.front_end.specs.declared.error.SourceError.TheVariants as errors
use Rattle.front_end.proofs.OneAnswer.{not_wrong, one_error}
use Rattle.r2_base.specs.Seen.{Contents}
use Rattle.r2_cli_outcome.specs.declared.plan.End.{End}
use Rattle.r2_cli_outcome.specs.declared.plan.End.TheVariants.{NoMemory}
use Rattle.r2_cli_outcome.specs.declared.status.Status.TheVariants.{Findings}
use Rattle.r2_cli_outcome.specs.Outcome.{Outcome, printed}
use Rattle.r2_cli_outcome.specs.Reading.{Of, Reading}
use Rattle.r2_cli_outcome.specs.Stages.{passed, ended, on}
use Rattle.r2_cli_outcome.specs.Input as input
use Rattle.r2_cli_outcome.specs.Input.{Input}
use Rattle.r2_cli_outcome.specs.Plans.{EndsAs, IsEnd}
use Rattle.r2_cli_outcome.proofs.StageLemmas.{is_refused}
use Rattle.r2_cli_outcome.proofs.Decided.{IsOne, one_then, one_input}
use Rattle.r2_cli.specs.Commands as outcomes
use Rattle.r2_cli.specs.Commands.{SameOutcome, StubsOf, printed_as}
use Rattle.r2_cli.specs.Source as stage
use Rattle.r2_cli.specs.Source.{SourceOf, refused_for, source}

refused_source : (bytes cut : List ℕ) (error : SourceError) (x y : ℕ) (end : End) → IsSourceError bytes cut error → IsEnd (refused_for cut error) end → (error ≡ errors.Memory → end ≡ NoMemory) → EndsAs (SourceOf cut bytes) x y end
refused_source bytes cut (errors.Fault fault) x y end is e m = is_refused (SourceOf cut bytes) (refused_for cut (errors.Fault fault)) x y end (stage.wrong is) e
refused_source bytes cut errors.NoSuchCut x y end is e m = is_refused (SourceOf cut bytes) (refused_for cut errors.NoSuchCut) x y end (stage.wrong is) e
refused_source bytes cut (errors.Limit limit) x y end is e m = is_refused (SourceOf cut bytes) (refused_for cut (errors.Limit limit)) x y end (stage.wrong is) e
refused_source bytes cut errors.Memory x y end is e m = subst (λ (k : End). EndsAs (SourceOf cut bytes) x y k) (sym (m refl)) tt

pub source_refused : (bytes text cut word : List ℕ) (error : SourceError) (x y : ℕ) (end : End) → text ≡ bytes → word ≡ cut → IsSourceError text word error → IsEnd (refused_for cut error) end → (error ≡ errors.Memory → end ≡ NoMemory)
    → EndsAs (SourceOf cut bytes) x y end
source_refused bytes text cut word error x y end e d is it m =
    refused_source bytes cut error x y end (subst (λ (w : List ℕ). IsSourceError bytes w error) d (subst (λ (w : List ℕ). IsSourceError w word error) e is)) it m

-- what was found ends the command; where nothing was, the cut is accepted
pub cut_found : (bytes cut text : List ℕ) (x y : ℕ) (end : End) → FoundText bytes cut text → (text ≡ [] → ⊥) → IsEnd (printed Findings text []) end → EndsAs (SourceOf cut bytes) x y end
cut_found bytes cut text x y end (of_lines {lines = lines} are) some is =
    is_refused (SourceOf cut bytes) (printed Findings (text_of lines) []) x y end (stage.found are (λ e. some (ap text_of e))) is

pub cut_accepted : (bytes cut text : List ℕ) → FoundText bytes cut text → text ≡ [] → SourceOf cut bytes (passed bytes)
cut_accepted bytes cut text (of_lines {lines = lines} are) e = stage.accepted (subst (LinesOf bytes cut) (no_lines lines e) are)

-- ---- one answer

pub self : (o : Outcome) → SameOutcome o o
self o = outcomes.same

same_refused : (cut : List ℕ) (e f : SourceError) → SameError e f → SameOutcome (refused_for cut e) (refused_for cut f)
same_refused cut e f alike.same = outcomes.same
same_refused cut e f (alike.no_tree n m) = outcomes.no_tree n m
same_refused cut e f (alike.too_deep n m) = outcomes.too_deep n m

same_found : (bytes cut : List ℕ) (xs ys : List (List ℕ)) → LinesOf bytes cut xs → LinesOf bytes cut ys → SameOutcome (printed Findings (text_of xs) []) (printed Findings (text_of ys) [])
same_found bytes cut xs ys a b = subst (λ (ls : List (List ℕ)). SameOutcome (printed Findings (text_of xs) []) (printed Findings (text_of ls) [])) (one_lines a b) outcomes.same

one_source_of : (cut bytes : List ℕ) → IsOne SameOutcome (SourceOf cut bytes)
one_source_of cut bytes (passed x) (passed y) (stage.accepted a) (stage.accepted b) = refl
one_source_of cut bytes (passed x) (ended o) (stage.accepted a) (stage.wrong {error = e} b) = absurd (not_wrong bytes cut e (is_right a) b)
one_source_of cut bytes (passed x) (ended o) (stage.accepted a) (stage.found b some) = absurd (some (one_lines b a))
one_source_of cut bytes (ended o) (passed y) (stage.wrong {error = e} a) (stage.accepted b) = absurd (not_wrong bytes cut e (is_right b) a)
one_source_of cut bytes (ended o) (passed y) (stage.found a some) (stage.accepted b) = absurd (some (one_lines a b))
one_source_of cut bytes (ended o) (ended p) (stage.wrong {error = e} a) (stage.wrong {error = f} b) = same_refused cut e f (one_error a b)
one_source_of cut bytes (ended o) (ended p) (stage.wrong {error = e} a) (stage.found b some) = absurd (not_wrong bytes cut e (is_right b) a)
one_source_of cut bytes (ended o) (ended p) (stage.found a some) (stage.wrong {error = e} b) = absurd (not_wrong bytes cut e (is_right a) b)
one_source_of cut bytes (ended o) (ended p) (stage.found {lines = xs} a some) (stage.found {lines = ys} b more) = same_found bytes cut xs ys a b

pub one_source : (held : Contents) (src cut : List ℕ) → IsOne SameOutcome (source (Of held) src cut)
one_source held src cut = one_then SameOutcome (Input (Of held) src (codes "source") most_bytes) (SourceOf cut) (one_input SameOutcome self held src (codes "source") most_bytes) (one_source_of cut)

pub one_stubs_of : (cut bytes : List ℕ) → IsOne SameOutcome (StubsOf cut bytes)
one_stubs_of cut bytes (passed x) (passed y) (printed_as a) (printed_as b) = one_stubs a b
one_stubs_of cut bytes (passed x) (ended o) a b = elim b [ ]
one_stubs_of cut bytes (ended o) b a c = elim a [ ]

-- in what is passed on nothing is found
pub none_found : (reading : Reading) (src cut bytes : List ℕ) → source reading src cut (passed bytes) → LinesOf bytes cut []
none_found reading src cut bytes (on {a = text} (input.read there short) (stage.accepted none)) = none
