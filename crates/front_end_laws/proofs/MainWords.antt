-- A function that is named `main` names no cut.
use Rattle.std.proofs.Common.{◌≡◌, ℕ, Bool, true, false, cond, ◌||◌, List, [], refl}
use Rattle.std.specs.Prelude.{codes, not}
use Rattle.c_syntax.specs.Syntax.{Annot, Annots, Annotate, Decl, Declare, Items, MoreAnnots, NoAnnots}
use Rattle.c_scopes.specs.Scopes.{same_name}
use Rattle.c_types_model.specs.Types.{CType, CTypes}
use Rattle.c_types_rules.specs.Checked.{Checked, Fine, Broken, keep, ◌>>=◌, ◌>>◌}
use Rattle.c_types_rules.specs.Environment.{Environment}
use Rattle.annot_reader_rules.specs.Notes.{Notes, Parameter}
use Rattle.annot_reader_rules.specs.Regions.{Signature, alone}
use Rattle.annot_reader_rules.specs.Functions as words
use Rattle.annot_reader_rules.specs.Functions.{FunctionKind, cut_word, commit_word, function_notes, holds_word, is_empty, is_filled, no_holds, sync_word}
use Rattle.c_lower_laws.proofs.Held.{Holds, holds_then, holds_on, holds_after, holds_kept}

-- if it is `main`
abbrev pub InNoCut : FunctionKind → Notes → Type 0
InNoCut k n = k.is_main ≡ true → n.cuts ≡ []

chosen : {A : Type 0} (P : A → Type 0) (b : Bool) (x y : Checked A) → Holds P x → Holds P y → Holds P (cond b x y)
chosen P true x y h k = h
chosen P false x y h k = k

module _ (k : FunctionKind) where
  abbrev Out : Notes → Type 0
  Out n = InNoCut k n

  -- a cut is named by another function alone
  not_main : (names : List (List ℕ)) (b : Bool) → not b ≡ true → b ≡ true → names ≡ []
  not_main names true e is = absurd cc
  not_main names false e is = absurd cc

  cut_out : (from : ℕ) (is : Items) (n : Notes) → Out n → Holds Out (cut_word from is k n)
  cut_out from is n h =
      holds_after Out (keep from 1 (is_filled is)) _ (holds_after Out _ _ (holds_kept Out from 9 (not k.is_main) _ (λ e.
      holds_on Out (words.names_in from is) (λ names. Fine (record n { cuts = names })) (λ names. not_main names k.is_main e))))

  sync_out : (from : ℕ) (is : Items) (s : Signature) (n : Notes) → Out n → Holds Out (sync_word from is s n)
  sync_out from is s n h = search (holds_after, holds_on, h)

  commit_out : (from : ℕ) (is : Items) (s : Signature) (n : Notes) → Out n → Holds Out (commit_word from is s n)
  commit_out from is s n h = search (holds_after, holds_on, h)

  holds_out : (from : ℕ) (is : Items) (n : Notes) → Out n → Holds Out (holds_word from is k n)
  holds_out from is n h = search (holds_after, holds_on, h)

  word_out : (x : Annot) (s : Signature) (n : Notes) → Out n → Holds Out (words.noted x s k n)
  word_out (Annotate from word is) s n h =
      let cached : Checked Notes = alone from is n.cache >> Fine (record n { cache = true }) in
      let last : Checked Notes = Broken from 1 in
      let held : Checked Notes = cond (same_name word (codes "holds")) (holds_word from is k n) last in
      let cache : Checked Notes = cond (same_name word (codes "cache")) cached held in
      let commit : Checked Notes = cond (same_name word (codes "commit")) (commit_word from is s n) cache in
      let sync : Checked Notes = cond (same_name word (codes "sync")) (sync_word from is s n) commit in
      chosen Out (same_name word (codes "cut")) (cut_word from is k n) sync (cut_out from is n h)
      (chosen Out (same_name word (codes "sync")) (sync_word from is s n) commit (sync_out from is s n h)
      (chosen Out (same_name word (codes "commit")) (commit_word from is s n) cache (commit_out from is s n h)
      (chosen Out (same_name word (codes "cache")) cached held (holds_after Out (alone from is n.cache) (Fine (record n { cache = true })) h)
      (chosen Out (same_name word (codes "holds")) (holds_word from is k n) last (holds_out from is n h) tt))))

  all_out : (xs : Annots) (s : Signature) (n : Notes) → Out n → Holds Out (words.all_noted xs s k n)
  all_out NoAnnots s n h = h
  all_out (MoreAnnots x xs) s n h = holds_then Out Out (words.noted x s k n) (λ m. words.all_noted xs s k m) (word_out x s n h) (λ m j. all_out xs s m j)

  pub function_out : (env : Environment) (d : Decl) (r : CType) (ts : CTypes) → Holds Out (function_notes env k d r ts)
  function_out env (Declare from an b ps n rest) r ts = search (holds_after, then_noted)
    where
      then_noted : (s : Signature) (c : Checked (List Parameter)) → Holds Out (words.all_noted an s k words.nothing >>= (λ m. keep from 8 (no_holds m.holds || is_empty m.cuts) >> (c >>= (λ params. Fine (record m { params = params })))))
      then_noted s c =
          holds_then Out Out (words.all_noted an s k words.nothing) (λ m. keep from 8 (no_holds m.holds || is_empty m.cuts) >> (c >>= (λ params. Fine (record m { params = params })))) (all_out an s words.nothing (λ is. refl))
          (λ m h. holds_after Out (keep from 8 (no_holds m.holds || is_empty m.cuts)) (c >>= (λ params. Fine (record m { params = params })))
          (holds_on Out c (λ params. Fine (record m { params = params })) (λ params. h)))
