-- What is known of declarations that share their annotations.
use Rattle.std.proofs.Common.{◌≡◌, ◌<◌, ℕ, List, length, Option, Some, None, Ok, refl, sym, subst}
use Rattle.c_syntax.specs.declared.declaration.Decl.{Decl as DeclNode}
use Rattle.c_syntax.specs.declared.id.DeclId.{DeclId}
use Rattle.c_syntax.specs.Alike.{AreAlike, ShareSpecifiers}
use Rattle.c_syntax.specs.Nodes.{Nodes, decl_at}
use Rattle.c_syntax.specs.Stands.{StandAnnots, StandsDecl}
use Rattle.c_syntax.specs.Syntax.{Decl, Declare}
use Rattle.c_types_model.specs.Types.{CType, CTypes}
use Rattle.c_types_rules.specs.Environment.{Environment}
use Rattle.annot_reader_rules.specs.Functions.{function_notes}
use Rattle.annot_reader_words.specs.Answers.{Tells}
use Rattle.annot_reader_functions.specs.declared.kind.FunctionKind.{FunctionKind}
use Rattle.annot_reader_functions.specs.declared.known.Known.{Known}
use Rattle.annot_reader_functions.specs.declared.notes.FunctionNotes.{FunctionNotes}
use Rattle.annot_reader_functions.specs.Known.{AreKnown, IsKept, SayBeside, annots_of}
use Rattle.annot_reader_functions.specs.Rules.{IsTypeName}
use Rattle.annot_reader_functions.specs.Sayings.{IsNoted, kind_in}
use Rattle.annot_reader_functions.proofs.Beside.{known_says}

-- what those of one say those of the other say
pub says_too : (N : Nodes) (cut : List ℕ) (v : Known) (i : DeclId) (d : Decl) → AreKnown N cut (Some v) → ShareSpecifiers N.decls v.decl i → StandsDecl N i d → SayBeside cut (annots_of d) v
says_too N cut v i (Declare from an b ps n r) known w (e, at, f, a, base, parts, name, last) = by (decl_at N v.decl) refl
  where
    by : (o : Option DeclNode) → decl_at N v.decl ≡ o → SayBeside cut an v
    by None is = absurd (subst (λ o. AreAlike o (decl_at N i)) is w)
    by (Some x) is =
        let both : AreAlike (Some x) (Some e) = subst (AreAlike (Some x)) at (subst (λ o. AreAlike o (decl_at N i)) is w) in
        known.1 x an is (subst (λ vs. StandAnnots N vs an) (sym both.0) a)

-- it is known of a declaration once that was read
module _ (N : Nodes) (cut : List ℕ) (i : DeclId) (k : FunctionKind) (notes : FunctionNotes) (env : Environment) (t : CType) (ts : CTypes) (v : Known) where
  pub known_now : IsTypeName N i → i.0 < length N.decls → IsKept N i k notes v → ((d : Decl) → StandsDecl N i d → Tells (IsNoted cut) (function_notes env (kind_in k) d t ts) (Ok notes)) → AreKnown N cut (Some v)
  known_now (Declare from first b ps n r, (e, at, f, a, base, parts, name, last), fits) inside m g = (
    subst (λ (j : DeclId). j.0 < length N.decls) (sym m.decl) inside,
    λ x an there s.
        let same : x ≡ e = (let there_too : decl_at N i ≡ Some x = subst (λ j. decl_at N j ≡ Some x) m.decl there in cc) in
        let d : Decl = Declare from an b ps n r in
        let stands : StandsDecl N i d = (e, at, f, subst (λ (y : DeclNode). StandAnnots N y.annots an) same s, base, parts, name, last) in
        known_says cut notes v m.in_cut m.cache m.holds env (kind_in k) d t ts m.main (m.words d stands) (g d stands),
  )
