-- What one declaration says more.
use Rattle.std.proofs.Common.{◌≡◌, ℕ, ℤ, ◌<◌, ◌≤◌, nat_lt, Bool, true, false, if◌then◌else◌, List, [], ◌∷◌, ◌++◌, length, Option, Some, None, Result, Ok, Err, refl, sym, subst, arith}
use Rattle.std.specs.Result.{IsErrAnd}
use Rattle.std.proofs.lemmas.Bool.{le-ltb, lt-ltb}
use Rattle.c_syntax.specs.Syntax.{Decl}
use Rattle.c_types_model.specs.Types.{CType, CTypes, FunctionOf}
use Rattle.c_types_rules.specs.Checked.{Checked, Fine, Noted, Broken, ◌>>=◌, ◌>>◌}
use Rattle.c_types_rules.specs.Environment.{Environment}
use Rattle.c_types_rules.specs.Sources.{Function}
use Rattle.annot_reader_rules.specs.Cuts.{function_at, kind_of, noted_as, noted_function}
use Rattle.annot_reader_rules.specs.Functions.{FunctionKind, declared_later, function_notes, global_notes}
use Rattle.annot_reader_rules.specs.Notes.{Annotated, Notes}
use Rattle.annot_reader_words.specs.declared.error.AnnotationError.{AnnotationError}
use Rattle.annot_reader_words.specs.declared.error.AnnotationError.TheVariants.{Memory, Rule}
use Rattle.annot_reader_words.specs.Answers.{Passes, Tells}
use Rattle.annot_reader_words.proofs.Composing.{follows, raised, stops}
use Rattle.annot_reader_words.specs.Readings.{IsMutex}
use Rattle.annot_reader_functions.specs.declared.notes.FunctionNotes.{FunctionNotes}
use Rattle.annot_reader_functions.specs.Sayings.{IsNoted}
use Rattle.annot_reader.specs.declared.reading.Reading.{Reading}
use Rattle.annot_reader.specs.Reading.{AreMutexes, AreNoted, AreRead, noted_global}

-- ---- one more after those before

pub noted_after : (cut : List ℕ) (ns : List Notes) (vs : List FunctionNotes) (n : Notes) (v : FunctionNotes) → AreNoted cut ns vs → IsNoted cut n v → AreNoted cut (ns ++ n ∷ []) (vs ++ v ∷ [])
noted_after cut [] [] n v h k = (k, tt)
noted_after cut [] (w ∷ vs) n v h k = absurd h
noted_after cut (m ∷ ns) [] n v h k = absurd h
noted_after cut (m ∷ ns) (w ∷ vs) n v h k = (h.0, noted_after cut ns vs n v h.1 k)

pub as_many : (cut : List ℕ) (ns : List Notes) (vs : List FunctionNotes) → AreNoted cut ns vs → length ns ≡ length vs
as_many cut [] [] h = refl
as_many cut [] (v ∷ vs) h = absurd h
as_many cut (n ∷ ns) [] h = absurd h
as_many cut (n ∷ ns) (v ∷ vs) h = let rest : length ns ≡ length vs = as_many cut ns vs h.1 in omega arith

pub mutex_after : (ms : List (Option ℕ)) (ns : List (Option ℤ)) (m : Option ℕ) (n : Option ℤ) → AreMutexes ms ns → IsMutex m n → AreMutexes (ms ++ m ∷ []) (ns ++ n ∷ [])
mutex_after [] [] m n h k = (k, tt)
mutex_after [] (y ∷ ns) m n h k = absurd h
mutex_after (x ∷ ms) [] m n h k = absurd h
mutex_after (x ∷ ms) (y ∷ ns) m n h k = (h.0, mutex_after ms ns m n h.1 k)

-- ---- functions and globals

module _ (cut : List ℕ) (r : Reading) where
  abbrev pub Reads : Annotated → Unit {0} → Type 0
  Reads a u = AreRead cut a r

  abbrev Answer : Type 0
  Answer = Result (Unit {0}) AnnotationError

  -- nothing more is said where no rule is broken
  pub as_before : (c : Checked (Unit {0})) (a : Annotated) (x : Answer) → Passes c x → AreRead cut a r → Tells Reads (c >> Fine a) x
  as_before (Fine u) a (Ok y) h k = k
  as_before (Fine u) a (Err Memory) h k = tt
  as_before (Fine u) a (Err (Rule f n)) h k = absurd h
  as_before (Noted n u) a (Ok y) h k = k
  as_before (Noted n u) a (Err Memory) h k = tt
  as_before (Noted m u) a (Err (Rule f n)) h k = absurd h
  as_before (Broken f n) a (Ok y) h k = absurd h
  as_before (Broken f n) a (Err Memory) h k = tt
  as_before (Broken f n) a (Err (Rule g m)) h k = h

  module _ (env : Environment) (d : Decl) (place : ℕ) (fs : List Function) (a : Annotated) where
    abbrev pub OfFunction : Answer → Type 0
    OfFunction x = Tells Reads (noted_function env d place (function_at fs place) a) x

    at_function : (o : Option Function) (x : Answer) → function_at fs place ≡ o → Tells Reads (noted_function env d place o a) x → OfFunction x
    at_function o x e h = subst (λ (z : Option Function). Tells Reads (noted_function env d place z a) x) (sym e) h

    pub no_function : function_at fs place ≡ None → AreRead cut a r → OfFunction (Ok tt)
    no_function e h = at_function None (Ok tt) e h

    by_test : (f : Function) (b : Bool) (x : Answer) → function_at fs place ≡ Some f → nat_lt place (length a.functions) ≡ b → Tells Reads (if b then (declared_later d >> Fine a) else noted_as env d f f.type a) x → OfFunction x
    by_test f b x e l h =
        at_function (Some f) x e (subst (λ (t : Bool). Tells Reads (if t then (declared_later d >> Fine a) else noted_as env d f f.type a) x) (sym l) h)

    pub again : (f : Function) (x : Answer) → function_at fs place ≡ Some f → place < length a.functions → Passes (declared_later d) x → AreRead cut a r → OfFunction x
    again f x e l h k = by_test f true x e (lt-ltb place (length a.functions) l) (as_before (declared_later d) a x h k)

    module _ (f : Function) (kind : FunctionKind) (t : CType) (ts : CTypes) (at : function_at fs place ≡ Some f) (first : length a.functions ≤ place) (kinds : kind ≡ kind_of f) (type : f.type ≡ FunctionOf t ts) where
      abbrev with_notes : Notes → Checked Annotated
      with_notes n = Fine (record a { functions = a.functions ++ n ∷ [] })

      by_notes : (x : Answer) → Tells Reads (function_notes env kind d t ts >>= with_notes) x → OfFunction x
      by_notes x h =
          by_test f false x at (le-ltb place (length a.functions) first)
          (subst (λ (u : CType). Tells Reads (noted_as env d f u a) x) (sym type) (subst (λ (k : FunctionKind). Tells Reads (function_notes env k d t ts >>= with_notes) x) kinds h))

      first_breaks : (e : AnnotationError) → Tells (IsNoted cut) (function_notes env kind d t ts) (Err e) → OfFunction (Err e)
      first_breaks e h = by_notes (Err e) (stops (IsNoted cut) Reads (function_notes env kind d t ts) with_notes e h)

      pub first_raised : (x : Answer) (e : AnnotationError) → IsErrAnd x (λ v. v ≡ e) → Tells (IsNoted cut) (function_notes env kind d t ts) (Err e) → OfFunction x
      first_raised x e i h = raised Reads (noted_function env d place (function_at fs place) a) x e i (first_breaks e h)

      pub first_tells : (v : FunctionNotes) → Tells (IsNoted cut) (function_notes env kind d t ts) (Ok v) → ((n : Notes) → IsNoted cut n v → AreRead cut (record a { functions = a.functions ++ n ∷ [] }) r) → OfFunction (Ok tt)
      first_tells v h k = by_notes (Ok tt) (follows (IsNoted cut) Reads (function_notes env kind d t ts) with_notes v (Ok tt) h k)

  abbrev with_guard : Annotated → Option ℕ → Checked Annotated
  with_guard a g = Fine (record a { guards = a.guards ++ g ∷ [] })

  pub global_tells : (d : Decl) (a : Annotated) (v : Option ℤ) → Tells IsMutex (global_notes d) (Ok v) → ((m : Option ℕ) → IsMutex m v → AreRead cut (record a { guards = a.guards ++ m ∷ [] }) r) → Tells Reads (noted_global d a) (Ok tt)
  global_tells d a v h k = follows IsMutex Reads (global_notes d) (with_guard a) v (Ok tt) h k
