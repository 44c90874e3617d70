-- The interface of a cut, by what was read.
use Rattle.std.proofs.Common.{◌≡◌, ℕ, ◌||◌, List, [], ◌∷◌, Result, Ok, Err, refl, ap, ◌∙◌, subst}
use Rattle.std.specs.List.{list_any}
use Rattle.std.specs.Result.{IsErrAnd}
use Rattle.std.proofs.lemmas.Result.{err_from_is_err_and}
use Rattle.c_scopes.specs.Scopes.{innermost}
use Rattle.c_syntax.specs.Syntax.{Decls}
use Rattle.c_types_rules.specs.Environment.{Environment}
use Rattle.c_types_rules.specs.Sources.{Program, at_file, tags_of}
use Rattle.c_types_rules.specs.Checked as checked
use Rattle.c_types_rules.specs.Checked.{Checked, Fine, Noted, Broken}
use Rattle.annot_reader_rules.specs.Cuts.{all_noted, annotations, any_in, in_cut}
use Rattle.annot_reader_rules.specs.Notes.{Annotated, Notes}
use Rattle.annot_reader_words.specs.declared.error.AnnotationError.{AnnotationError}
use Rattle.annot_reader_words.specs.declared.error.AnnotationError.TheVariants as broken
use Rattle.annot_reader_words.specs.Answers.{Tells}
use Rattle.annot_reader_functions.specs.declared.notes.FunctionNotes.{FunctionNotes}
use Rattle.annot_reader.specs.declared.error.InterfaceError.{InterfaceError}
use Rattle.annot_reader.specs.declared.error.InterfaceError.TheVariants.{Rule, NoSuchCut, Memory}
use Rattle.annot_reader.specs.declared.reading.Reading.{Reading}
use Rattle.annot_reader.specs.Errors.{by_annotation_error}
use Rattle.annot_reader.specs.Interface.{Interface}
use Rattle.annot_reader.specs.Interfaces.{IsInterface}
use Rattle.annot_reader.specs.Reading.{AreNoted, AreRead, IsReading, nothing_read}

pub any_same : (cut : List ℕ) (ns : List Notes) (vs : List FunctionNotes) → AreNoted cut ns vs → list_any (λ (v : FunctionNotes). v.in_cut) vs ≡ any_in cut ns
any_same cut [] [] h = refl
any_same cut [] (v ∷ vs) h = absurd h
any_same cut (n ∷ ns) [] h = absurd h
any_same cut (n ∷ ns) (v ∷ vs) h = ap (λ b. b || list_any (λ (w : FunctionNotes). w.in_cut) vs) h.0.in_cut ∙ ap (λ b. in_cut cut n || b) (any_same cut ns vs h.1)

module _ (cut : List ℕ) where
  -- the rule that is broken
  raises : (c : Checked Annotated) (e : AnnotationError) → Tells {B = Reading} (IsReading cut) c (Err e) → IsInterface cut c (Err (by_annotation_error e))
  raises (Fine a) (broken.Rule f r) h = absurd h
  raises (Fine a) broken.Memory h = tt
  raises (Noted n a) (broken.Rule f r) h = absurd h
  raises (Noted n a) broken.Memory h = tt
  raises (Broken f r) (broken.Rule g s) h = h
  raises (Broken f r) broken.Memory h = tt

  of_noted : (n : checked.Notes) (a : Annotated) (r : Result Interface InterfaceError) → IsInterface cut (Fine a) r → IsInterface cut (Noted n a) r
  of_noted n a (Ok i) h = h
  of_noted n a (Err NoSuchCut) h = h
  of_noted n a (Err Memory) h = tt
  of_noted n a (Err (Rule f r)) h = absurd h

  -- what is made of what was read
  pub finds : (c : Checked Annotated) (v : Reading) (r : Result Interface InterfaceError) → Tells (IsReading cut) c (Ok v) → ((a : Annotated) → AreRead cut a v → IsInterface cut (Fine a) r) → IsInterface cut c r
  finds (Fine a) v r h k = k a h
  finds (Noted n a) v r h k = of_noted n a r (k a h)
  finds (Broken f n) v r h k = absurd h

  -- what a `?` returns
  pub raised_rule : (c : Checked Annotated) (e : AnnotationError) (r : Result Interface InterfaceError) → IsErrAnd r (λ v. v ≡ by_annotation_error e) → Tells {B = Reading} (IsReading cut) c (Err e) → IsInterface cut c r
  raised_rule c e r i h = let p = err_from_is_err_and r i in rw (p.1, p.2) (raises c e h)

  -- the annotations of a source
  pub of_source : (env : Environment) (ds : Decls) (p : Program) (r : Result Interface InterfaceError) → env ≡ at_file (tags_of ds) p → IsInterface cut (all_noted env p ds nothing_read) r → IsInterface cut (annotations ds p) r
  of_source env ds p r e h = subst (λ (f : Environment). IsInterface cut (all_noted f p ds nothing_read) r) e h

pub file_names : (env : Environment) (tags : List (List ℕ)) (p : Program) → env ≡ at_file tags p → innermost env.scopes ≡ p.names
file_names env tags p e = ap (λ (f : Environment). innermost f.scopes) e
