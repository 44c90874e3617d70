-- Words have one form at most, and the names that a form reads.
use Rattle.std.proofs.lemmas.Fmt.{decimal_is_IsNumeral}
use Rattle.std.specs.Str.Parse.{digits_value}
use Rattle.std.proofs.Common.{arith, ◌≡◌, ◌∷◌, [], ◌||◌, inl, inr, ℕ, List, Option, Some, None, codes, sym, ◌∙◌, ap, refl, subst, cond, bytes_eq, IfNone, true, false, Bool}
use Rattle.log_closure.specs.Events.{In}
use Rattle.r2_cli_outcome.proofs.Named.{has, has_first, has_more, same_name}
use Rattle.r2_cli.specs.declared.forms.Command.{Command}
use Rattle.r2_cli.specs.Forms.{form_of}
use Rattle.r2_cli.specs.Words.{Form, help, version, order, check, stubs, gen, recording, words_of, HasNames, IsForm, IsUsage}

-- a command line is read back: one line a form, where a comparison of forms has one for each two
read : List (List ℕ) → Option Form
read (w ∷ []) = cond (bytes_eq w (codes "--help")) (Some help) (Some version)
read (w ∷ a ∷ []) = Some (order a)
read (w ∷ a ∷ b ∷ []) = cond (bytes_eq w (codes "check")) (Some (check a b)) (Some (stubs a b))
read (w ∷ a ∷ b ∷ d ∷ []) = Some (gen (digits_value 10 a) b d)
read (w ∷ a ∷ b ∷ d ∷ e ∷ f ∷ []) = Some (recording a b d e f)
read _ = None

reads : (f : Form) → HasNames f → read (words_of f) ≡ Some f
unfolding read
reads help h = refl
reads version h = refl
reads (order a) h = refl
reads (check a b) h = refl
reads (stubs a b) h = refl
reads (recording a b d e f) h = refl
reads (gen n a b) h = ap (λ m. Some (gen m a b)) (decimal_is_IsNumeral n (omega (arith, h.few))).1

same_words : (f g : Form) → HasNames f → HasNames g → words_of f ≡ words_of g → f ≡ g
same_words f g p q e = let d : Some f ≡ Some g = sym (reads f p) ∙ ap read e ∙ reads g q in cc

pub one_form : (words : List (List ℕ)) (f g : Form) → IsForm words f → IsForm words g → f ≡ g
one_form words f g p q = same_words f g p.1 q.1 (sym p.0 ∙ q.0)

-- the form of words from which a command was read
pub is_form_of : (words : List (List ℕ)) (c d : Command) (form : Form) → IsForm words (form_of c) → c ≡ d → form_of d ≡ form → IsForm words form
is_form_of words c d form is e same = subst (IsForm words) (ap form_of e ∙ same) is

-- words that have none of the forms, form by form
no_form_of : (words : List (List ℕ)) → (IsForm words help → ⊥) → (IsForm words version → ⊥) → ((log : List ℕ) → IsForm words (order log) → ⊥) → ((src cut : List ℕ) → IsForm words (check src cut) → ⊥)
    → ((src cut : List ℕ) → IsForm words (stubs src cut) → ⊥) → ((src cut sys log rep : List ℕ) → IsForm words (recording src cut sys log rep) → ⊥)
    → ((n : ℕ) (src sys : List ℕ) → IsForm words (gen n src sys) → ⊥) → IsUsage words
no_form_of words a b d e f r g help is = a is
no_form_of words a b d e f r g version is = b is
no_form_of words a b d e f r g (order log) is = d log is
no_form_of words a b d e f r g (check src cut) is = e src cut is
no_form_of words a b d e f r g (stubs src cut) is = f src cut is
no_form_of words a b d e f r g (gen n src sys) is = g n src sys is
no_form_of words a b d e f r g (recording src cut sys log rep) is = r src cut sys log rep is

pub is_usage : {T : Type 0} (words : List (List ℕ)) (result : Option T) → (IsForm words help → ⊥) → (IsForm words version → ⊥) → ((log : List ℕ) → IsForm words (order log) → ⊥)
    → ((src cut : List ℕ) → IsForm words (check src cut) → ⊥) → ((src cut : List ℕ) → IsForm words (stubs src cut) → ⊥) → ((src cut sys log rep : List ℕ) → IsForm words (recording src cut sys log rep) → ⊥) → IfNone result ((n : ℕ) (src sys : List ℕ) → IsForm words (gen n src sys) → ⊥) → IfNone result (IsUsage words)
is_usage words None a b d e f r g = no_form_of words a b d e f r g
is_usage words (Some x) a b d e f r g = tt

-- a name among these
pub in_has : (names : List (List ℕ)) (n : List ℕ) → In n names → has names n ≡ true
in_has [] n h = absurd h
in_has (m ∷ ms) n (inl e) = subst (λ (k : List ℕ). has (k ∷ ms) n ≡ true) e (has_first n ms)
in_has (m ∷ ms) n (inr h) = has_more m n ms (in_has ms n h)

either : (b : Bool) (m n : List ℕ) (ms : List (List ℕ)) → bytes_eq m n ≡ b → b || has ms n ≡ true → (has ms n ≡ true → In n ms) → In n (m ∷ ms)
either true m n ms e h f = inl (sym (same_name m n e))
either false m n ms e h f = inr (f h)

pub has_in : (names : List (List ℕ)) (n : List ℕ) → has names n ≡ true → In n names
has_in [] n h = absurd (let k : false ≡ true = h in cc)
has_in (m ∷ ms) n h = either (bytes_eq m n) m n ms refl h (has_in ms n)
