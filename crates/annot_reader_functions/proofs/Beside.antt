-- What is known of annotations once a declaration was read, and what is said of another that shares them.
use Rattle.std.proofs.Common.{◌≡◌, ◌||◌, Bool, true, false, List, [], ◌∷◌, ℕ, pos, map, Option, Result, Ok, Err, Vec, Global, refl, sym, ap, ◌∙◌, subst}
use Rattle.c_syntax.specs.Syntax.{Annots, Decl, Declare}
use Rattle.c_types_model.specs.Types.{CType, CTypes}
use Rattle.c_types_rules.specs.Checked.{Checked, Fine, keep, ◌>>=◌, ◌>>◌}
use Rattle.c_types_rules.specs.Environment.{Environment, inner}
use Rattle.annot_reader_rules.specs.Functions.{FunctionKind as KnownKind, all_noted, all_parameters, function_notes, is_empty, no_holds, nothing, own_parameters, result_parts, within}
use Rattle.annot_reader_rules.specs.Misplaced.{bare_annots, bare_parts, bare_rest}
use Rattle.annot_reader_rules.specs.Notes.{Notes, Parameter}
use Rattle.annot_reader_rules.specs.Regions.{Signature}
use Rattle.annot_reader_words.specs.declared.error.AnnotationError.{AnnotationError}
use Rattle.annot_reader_words.specs.declared.notes.Param.{Param}
use Rattle.annot_reader_words.specs.Answers.{Passes, Tells, Unsaid}
use Rattle.annot_reader_words.proofs.Composing.{follows, goes_on, same_tells, stops, stops_there}
use Rattle.annot_reader_words.proofs.Folding.{same_after}
use Rattle.annot_reader_functions.specs.declared.kind.FunctionKind.{FunctionKind}
use Rattle.annot_reader_functions.specs.declared.known.Known.{Known}
use Rattle.annot_reader_functions.specs.declared.notes.FunctionNotes.{FunctionNotes}
use Rattle.annot_reader_functions.specs.declared.said.Said.{Said}
use Rattle.annot_reader_functions.specs.First.{bare_besides, bare_outside, heading, signature_with}
use Rattle.annot_reader_functions.specs.Known.{IsBeside, IsKnownOf, SayBeside, annots_of, parameter_words, places_from, with_parameters}
use Rattle.annot_reader_functions.specs.Sayings.{AreSaid, IsNoted, IsSaid, kind_in}
use Rattle.annot_reader_functions.proofs.Apart.{all_beside}
use Rattle.annot_reader_functions.proofs.Composed.{OfFunction, S, in_steps, own_of, rest_of}
use Rattle.annot_reader_functions.proofs.Finding.{before, into, past}
use Rattle.annot_reader_functions.proofs.Listing.{AreIn}
use Rattle.annot_reader_functions.proofs.Steps.{bind_assoc}

-- ---- what is known once a declaration was read

-- annotations say this, and of parameters what those say that speak of them
abbrev Goes : Notes → Annots → Signature → KnownKind → Type 0
Goes n an s k = all_noted an s k nothing ≡ (all_noted (parameter_words an) s k nothing >>= λ m. Fine (with_parameters n m))

none_held : (ms : List ℕ) → map pos ms ≡ [] → no_holds ms ≡ true
none_held [] e = refl
none_held (m ∷ ms) e = absurd cc

module _ (cut : List ℕ) (v : FunctionNotes) (w : Known) (in_cut_too : w.in_cut ≡ v.in_cut) (cache : w.cache ≡ v.annots.cache) (holds : w.holds ≡ v.holds) where
  after_test : (from : ℕ) (m : Notes) (b : Bool) (c : Checked (List Parameter)) → (no_holds m.holds || is_empty m.cuts) ≡ b → Tells (IsNoted cut) (keep from 8 b >> (c >>= λ ps. Fine (record m { params = ps }))) (Ok v) → IsBeside cut m w
  after_test from m true c e h =
      let one = into (IsNoted cut) v c (λ ps. Fine (record m { params = ps })) h in
      let told : IsNoted cut (record m { params = one.0 }) v = one.2 in
      record { in_cut = in_cut_too ∙ told.in_cut; cache = cache ∙ told.cache; holds = holds ∙ told.holds; agree = e }
  after_test from m false c e h = absurd h

  pub known_says : (env : Environment) (k : KnownKind) (d : Decl) (t : CType) (ts : CTypes) → w.is_main ≡ k.is_main → w.words.items ≡ places_from 0 (annots_of d) → Tells (IsNoted cut) (function_notes env k d t ts) (Ok v) → SayBeside cut (annots_of d) w
  known_says env k (Declare from an b ps n r) t ts main places h =
      let s = signature_with env (own_parameters ps) t ts in
      let params : Checked (List Parameter) = all_parameters (own_parameters ps) (within s (inner env)) 0 ts in
      let test : Notes → Checked Notes = λ m. keep from 8 (no_holds m.holds || is_empty m.cuts) >> (params >>= λ qs. Fine (record m { params = qs })) in
      let said : Checked Notes = all_noted an s k nothing >>= test in
      let two : Checked Notes = bare_rest r >> said in
      let one : Checked Notes = bare_parts (result_parts ps) >> two in
      let is_told = past (IsNoted cut) v (bare_rest r) said (past (IsNoted cut) v (bare_parts (result_parts ps)) two (past (IsNoted cut) v (bare_annots an) one h)) in
      let found = into (IsNoted cut) v (all_noted an s k nothing) test is_told in
      let kept = after_test from found.0 (no_holds found.0.holds || is_empty found.0.cuts) params refl found.2 in (
        before (IsNoted cut) v (bare_annots an) one h,
        places,
        (
          found.0,
          kept,
          λ u j such. subst (λ (a : Bool). Goes found.0 an u (record { is_main = a; has_body = j.has_body })) (sym (such.main ∙ main))
              (all_beside s u k j.has_body found.0 (λ e. none_held found.0.holds (sym kept.holds ∙ such.body e)) an nothing nothing found.1),
        ),
      )

-- ---- what is said where it is known

skips : (from : ℕ) (b : Bool) (x : Notes) (g : Notes → Checked Notes) → b ≡ true → ((keep from 8 b >> Fine x) >>= g) ≡ g x
skips from true x g e = refl
skips from false x g e = absurd cc

module _ (cut : List ℕ) (env : Environment) (d : Decl) (t : CType) (ts : CTypes) (w : Known) (says : SayBeside cut (annots_of d) w) (k : FunctionKind) (such : IsKnownOf w k) where
  abbrev Answer : Type 0
  Answer = Result FunctionNotes AnnotationError

  outside_too : (r : Result (Unit {0}) AnnotationError) → Passes (bare_besides d) r → Passes (bare_outside d) r
  outside_too = by d says
    where
      by : (e : Decl) → SayBeside cut (annots_of e) w → (r : Result (Unit {0}) AnnotationError) → Passes (bare_besides e) r → Passes (bare_outside e) r
      by (Declare from an b ps n rest) says r h = goes_on Unsaid Unsaid (bare_annots an) (bare_parts (result_parts ps) >> bare_rest rest) tt r says.0 h

  pub breaks_besides : (e : AnnotationError) → Passes (bare_besides d) (Err e) → OfFunction cut env (kind_in k) d t ts (Err e)
  breaks_besides e h = in_steps cut env (kind_in k) d t ts (Err e) (stops_there Unsaid (IsNoted cut) (bare_outside d) _ e (outside_too (Err e) h))

  -- what those say that speak of parameters
  abbrev Words : Signature → Checked Notes
  Words s = all_noted (parameter_words (annots_of d)) s (kind_in k) nothing

  in_words : (s : Signature) (g : Notes → Checked Notes) → (heading s (kind_in k) d >>= g) ≡ (Words s >>= λ m. g (with_parameters says.2.0 m))
  in_words = by d says
    where
      by : (e : Decl) (says : SayBeside cut (annots_of e) w) (s : Signature) (g : Notes → Checked Notes) →
          (heading s (kind_in k) e >>= g) ≡ (all_noted (parameter_words (annots_of e)) s (kind_in k) nothing >>= λ m. g (with_parameters says.2.0 m))
      by (Declare from an b ps name r) says s g =
          let j = kind_in k in
          let n : Notes = says.2.0 in
          let test : Notes → Checked Notes = λ m. keep from 8 (no_holds m.holds || is_empty m.cuts) >> Fine m in
          let put : Notes → Checked Notes = λ m. Fine (with_parameters n m) in
          let some : Checked Notes = all_noted (parameter_words an) s j nothing in
          bind_assoc (all_noted an s j nothing) test g
          ∙ (ap (λ c. c >>= λ m. (test m >>= g)) (says.2.2 s k such)
          ∙ (bind_assoc some put (λ m. test m >>= g)
          ∙ same_after some (λ m. test (with_parameters n m) >>= g) (λ m. g (with_parameters n m)) (λ m. skips from (no_holds n.holds || is_empty n.cuts) (with_parameters n m) g says.2.1.agree)))

  module _ (outside : Passes (bare_besides d) (Ok tt)) where
    abbrev s : Signature
    s = S cut env (kind_in k) d t ts

    abbrev Rest : Notes → Checked Notes
    Rest m = rest_of env s (own_of d) ts (with_parameters says.2.0 m)

    after_outside : (r : Answer) → Tells (IsNoted cut) (Words s >>= Rest) r → OfFunction cut env (kind_in k) d t ts r
    after_outside r h =
        in_steps cut env (kind_in k) d t ts r (goes_on Unsaid (IsNoted cut) (bare_outside d) (heading s (kind_in k) d >>= rest_of env s (own_of d) ts) tt r (outside_too (Ok tt) outside)
        (same_tells (IsNoted cut) (heading s (kind_in k) d >>= rest_of env s (own_of d) ts) (Words s >>= Rest) r (in_words s (rest_of env s (own_of d) ts)) h))

    pub breaks_words : (e : AnnotationError) → Tells (AreSaid cut) (Words s) (Err e) → OfFunction cut env (kind_in k) d t ts (Err e)
    breaks_words e h = after_outside (Err e) (stops (AreSaid cut) (IsNoted cut) (Words s) Rest e h)

    module _ (said : Said) (words : Tells (AreSaid cut) (Words s) (Ok said)) where
      abbrev Parameters : Checked (List Parameter)
      Parameters = all_parameters (own_of d) (within s (inner env)) 0 ts

      pub breaks_last : (e : AnnotationError) → Tells AreIn Parameters (Err e) → OfFunction cut env (kind_in k) d t ts (Err e)
      breaks_last e h =
          after_outside (Err e) (follows (AreSaid cut) (IsNoted cut) (Words s) Rest said (Err e) words (λ m i.
          stops AreIn (IsNoted cut) Parameters (λ ps. Fine (record (with_parameters says.2.0 m) { params = ps })) e h))

      pub says_all : (params : Vec Param Global) (v : FunctionNotes) → Tells AreIn Parameters (Ok params) →
          ((m : Notes) (ps : List Parameter) → IsSaid cut said m → AreIn ps params → IsNoted cut (record (with_parameters says.2.0 m) { params = ps }) v) → OfFunction cut env (kind_in k) d t ts (Ok v)
      says_all params v h f =
          after_outside (Ok v) (follows (AreSaid cut) (IsNoted cut) (Words s) Rest said (Ok v) words (λ m i.
          follows AreIn (IsNoted cut) Parameters (λ ps. Fine (record (with_parameters says.2.0 m) { params = ps })) params (Ok v) h (λ ps j. f m ps i j)))
