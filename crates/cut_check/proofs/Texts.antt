-- The texts of the code are those of the source.
use Rattle.std.proofs.Common.{◌≡◌, ◌≢◌, ℕ, zero, suc, ◌+◌, List, [], ◌∷◌, ◌++◌, length, map, codes, refl, sym, ap, ◌∙◌, subst, arith}
use Rattle.std.specs.List.{All, flat_map, range_with_len}
use Rattle.annot_reader_rules.specs.Notes.{Annotated}
use Rattle.annot_reader.specs.Interface.{Interface}
use Rattle.c_builtins.specs.Table.{first_source_function}
use Rattle.c_types_rules.specs.Sources.{Program}
use Rattle.call_operations.specs.Sets.{AreStubs, stubs_of}
use Rattle.cut_graph_rules.specs.Findings.{AreFindings, line_of}
use Rattle.front_end.specs.declared.source.CheckedSource.{CheckedSource}
use Rattle.isolation_check_findings.specs.declared.finding.Finding.{Finding}
use Rattle.isolation_check_findings.specs.Found.{HasLine, finding_of}
use Rattle.stub_operations.specs.declared.purpose.Purpose.{Purpose}
use Rattle.stub_operations.specs.Operations.{word_of}
use Rattle.stub_operations.specs.Stubs.{Stubs}
use Rattle.stub_texts.specs.Texts as texts
use Rattle.stub_texts.specs.Texts.{names_in, texts_from}
use Rattle.cut_check.specs.Flags.{ended_line}
use Rattle.cut_check.specs.Lines.{FoundText, of_cut, of_lines, text_of}
use Rattle.cut_check.specs.Sources.{IsOf, cut_of}
use Rattle.cut_check.specs.Stubs.{names_of, stubs_text}
use Rattle.cut_check.proofs.Accepted.{Known}
use Rattle.cut_check.proofs.MainPlace.{function_count}
use Rattle.cut_check.proofs.Interfaces.{interface_is}
use Rattle.cut_check.proofs.Names.{names_are}
use Rattle.cut_check.proofs.StubLists.{stubs_are}

-- ---- stubs

pub stubs_text_is : (purpose : Purpose) (cut : List ℕ) (p : Program) (a : Annotated) (c : CheckedSource) (s : Stubs) → IsOf cut p a c → AreStubs purpose c.program.functions c.interface s →
    texts.stubs_text (word_of purpose) (names_in c.code) s ≡ stubs_text purpose cut p a
stubs_text_is purpose cut p a c s is are =
    let names : names_in c.code ≡ names_of p = ap names_in is.code ∙ names_are c.program p is.program in
    let count : length c.program.functions ≡ length p.functions = function_count c.program p is.program in
    ap (λ (ns : ℕ → List ℕ). texts_from (word_of purpose) ns 0 s.added) names ∙
    (stubs_are purpose c.program.functions c.interface s (word_of purpose) (names_of p) are ∙
    (ap (λ n. texts_from (word_of purpose) (names_of p) 0 (map (stubs_of purpose c.interface) (range_with_len 0 (first_source_function + n)))) count ∙
    ap (λ (i : Interface). texts_from (word_of purpose) (names_of p) 0 (map (stubs_of purpose i) (range_with_len 0 (first_source_function + length p.functions)))) (interface_is cut a c.interface is.interface)))

-- ---- lines

lines_are : (xs : List Finding) → All HasLine xs → flat_map ended_line xs ≡ text_of (map line_of (map finding_of xs))
lines_are [] h = refl
lines_are (x ∷ xs) h =
    let first : x.line.items ≡ line_of (finding_of x) = h zero x (omega arith) in
    ap (λ t. (t ++ codes "\n") ++ flat_map ended_line xs) first ∙
    ap (λ t. (line_of (finding_of x) ++ codes "\n") ++ t) (lines_are xs (λ k d l. h (suc k) d (omega (arith, l))))

some_found : (xs : List Finding) → xs ≢ [] → map finding_of xs ≢ []
some_found [] some e = some refl
some_found (x ∷ xs) some e = cc

-- what is found in the cut
pub cut_text_is : (bytes cut : List ℕ) (c : CheckedSource) (k : Known bytes cut c) (xs : List Finding) (text : List ℕ) → AreFindings (cut_of cut k.program k.annotated) (map finding_of xs) → All HasLine xs
    → xs ≢ [] → text ≡ flat_map ended_line xs → FoundText bytes cut text
cut_text_is bytes cut c k xs text are lines some e =
    subst (λ t. FoundText bytes cut t) (sym (e ∙ lines_are xs lines))
    (of_lines (of_cut (record { program = k.program; annotated = k.annotated; says = k.says; are = are }) (some_found xs some)))
