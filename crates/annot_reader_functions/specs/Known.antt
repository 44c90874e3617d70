-- What annotations say of a function beside what they say of its parameters.
use Rattle.std.specs.Prelude.{◌≡◌, ◌<◌, ◌+◌, ◌||◌, ℕ, pos, Bool, true, false, if◌then◌else◌, List, [], ◌∷◌, ◌++◌, map, length, Option, Some, None, Ok}
use Rattle.c_syntax.specs.declared.declaration.Decl.{Decl as DeclNode}
use Rattle.c_syntax.specs.declared.id.DeclId.{DeclId}
use Rattle.c_syntax.specs.Nodes.{Nodes, decl_at}
use Rattle.c_syntax.specs.Stands.{StandAnnots, StandsDecl}
use Rattle.c_syntax.specs.Syntax.{Annots, Annotate, NoAnnots, MoreAnnots, Decl, Declare}
use Rattle.c_types_rules.specs.Checked.{Fine, ◌>>=◌}
use Rattle.annot_reader_rules.specs.Cuts.{in_cut}
use Rattle.annot_reader_rules.specs.Functions.{all_noted, is_empty, no_holds, nothing}
use Rattle.annot_reader_rules.specs.Misplaced.{bare_annots}
use Rattle.annot_reader_rules.specs.Notes.{Notes}
use Rattle.annot_reader_rules.specs.Regions.{Signature}
use Rattle.annot_reader_words.specs.declared.word.FunctionWord.{FunctionWord}
use Rattle.annot_reader_words.specs.declared.word.FunctionWord.TheVariants as words
use Rattle.annot_reader_words.specs.Answers.{Passes}
use Rattle.annot_reader_words.specs.Words.{function_word}
use Rattle.annot_reader_functions.specs.declared.kind.FunctionKind.{FunctionKind}
use Rattle.annot_reader_functions.specs.declared.known.Known.{Known}
use Rattle.annot_reader_functions.specs.declared.notes.FunctionNotes.{FunctionNotes}
use Rattle.annot_reader_functions.specs.Sayings.{kind_in}

-- ---- annotations that speak of parameters

abbrev pub of_parameters : Option FunctionWord → Bool
of_parameters (Some words.Sync) = true
of_parameters (Some words.Commit) = true
of_parameters _ = false

-- those, in order
abbrev pub parameter_words : Annots → Annots
parameter_words NoAnnots = NoAnnots
parameter_words (MoreAnnots (Annotate from word is) xs) =
    if of_parameters (function_word word) then MoreAnnots (Annotate from word is) (parameter_words xs)
    else parameter_words xs

-- their places, where the first annotation is at this one
abbrev pub places_from : (k : ℕ) → Annots → List ℕ
places_from k NoAnnots = []
places_from k (MoreAnnots (Annotate from word is) xs) =
    if of_parameters (function_word word) then k ∷ places_from (k + 1) xs else places_from (k + 1) xs

-- one place more, where this holds
abbrev pub with_place : Bool → (k : ℕ) → List ℕ → List ℕ
with_place true k ks = ks ++ k ∷ []
with_place false k ks = ks

-- what the first says, but of parameters what the second says
abbrev pub with_parameters : Notes → Notes → Notes
with_parameters n m = record n { sync = m.sync; commit = m.commit }

-- ---- what is known

-- the same is said, beside what is said of parameters
pub record IsBeside (cut : List ℕ) (n : Notes) (v : Known) : Type 0 where
  pub in_cut : v.in_cut ≡ in_cut cut n
  pub cache : v.cache ≡ n.cache
  pub holds : v.holds ≡ map pos n.holds
  pub agree : (no_holds n.holds || is_empty n.cuts) ≡ true

-- it is known of functions of this kind: where they have no body, no mutexes are held
pub record IsKnownOf (v : Known) (k : FunctionKind) : Type 0 where
  pub main : k.is_main ≡ v.is_main
  pub body : k.has_body ≡ false → v.holds ≡ []

-- annotations say this of the functions that it is known of, and of their parameters what those say that
-- speak of them, whatever these are; and none is out of place
abbrev pub SayBeside : (cut : List ℕ) → Annots → Known → Type 0
SayBeside cut an v = Passes (bare_annots an) (Ok tt) × (v.words.items ≡ places_from 0 an) ×
    ((n : Notes) × IsBeside cut n v × ((s : Signature) (k : FunctionKind) → IsKnownOf v k →
    all_noted an s (kind_in k) nothing ≡
    (all_noted (parameter_words an) s (kind_in k) nothing >>= λ m. Fine (with_parameters n m))))

abbrev pub annots_of : Decl → Annots
annots_of (Declare from an b ps n r) = an

-- those of a declaration say it, if something is known
abbrev pub AreKnown : Nodes → (cut : List ℕ) → Option Known → Type 0
AreKnown N cut None = Unit {0}
AreKnown N cut (Some v) = (v.decl.0 < length N.decls) × ((e : DeclNode) (an : Annots) →
    decl_at N v.decl ≡ Some e → StandAnnots N e.annots an → SayBeside cut an v)

-- what is known of the annotations of this declaration of a function of this kind, where they say this
pub record IsKept (N : Nodes) (i : DeclId) (k : FunctionKind) (n : FunctionNotes) (v : Known) : Type 0 where
  pub decl : v.decl ≡ i
  pub main : v.is_main ≡ k.is_main
  pub in_cut : v.in_cut ≡ n.in_cut
  pub cache : v.cache ≡ n.annots.cache
  pub holds : v.holds ≡ n.holds
  pub words : (d : Decl) → StandsDecl N i d → v.words.items ≡ places_from 0 (annots_of d)
