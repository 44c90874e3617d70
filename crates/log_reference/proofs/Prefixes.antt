-- The prefixes of bytes with which a log text begins.
use Rattle.std.proofs.Common.{◌≡◌, ℕ, ◌+◌, ◌≤◌, List, [], ◌++◌, length, take, drop, ⊎_elim, refl, sym, ap, ◌∙◌, subst, arith, append_assoc}
use Rattle.std.proofs.lemmas.Bool.{cases_lt}
use Rattle.std.proofs.lemmas.List.{take_all, take-take, take-append-drop}
use Rattle.log_codec.specs.LogText.{BeginsLog, log_text, version_1}
use Rattle.log_codec.specs.Kept.{IsFirstWrong}

-- a log text begins with no bytes
pub none_begin : BeginsLog []
none_begin = ([], log_text version_1 [], ((tt, omega arith), refl))

-- what begins a log text has prefixes that do
pub prefix_begins : (bytes : List ℕ) (n : ℕ) → BeginsLog bytes → BeginsLog (take n bytes)
prefix_begins bytes n (cs, more, (are, is)) = (cs, drop n bytes ++ more, (are, sym (append_assoc (take n bytes) (drop n bytes) more) ∙ ap (λ (l : List ℕ). l ++ more) (take-append-drop n bytes) ∙ is))

pub less_begins : (bytes : List ℕ) (m n : ℕ) → m ≤ n → BeginsLog (take n bytes) → BeginsLog (take m bytes)
less_begins bytes m n le h = subst BeginsLog (take-take m n bytes le) (prefix_begins (take n bytes) m h)

pub whole_begins : (bytes : List ℕ) (n : ℕ) → length bytes ≤ n → BeginsLog (take n bytes) → BeginsLog bytes
whole_begins bytes n le h = subst BeginsLog (take_all n bytes le) h

-- the first wrong byte is one at most
pub first_one : (bytes : List ℕ) (m n : ℕ) → IsFirstWrong bytes m → IsFirstWrong bytes n → m ≡ n
first_one bytes m n a b =
    ⊎_elim
    (λ lt. absurd (a.here (less_begins bytes (m + 1) n (omega (arith, lt)) b.before)))
    (λ ge. ⊎_elim
    (λ lt. absurd (b.here (less_begins bytes (n + 1) m (omega (arith, lt)) a.before)))
    (λ le. omega (arith, ge, le))
    (cases_lt n m))
    (cases_lt m n)

-- and where a log text begins with all there is none
pub begins_none : (bytes : List ℕ) (n : ℕ) → BeginsLog bytes → IsFirstWrong bytes n → ⊥
begins_none bytes n h w = w.here (prefix_begins bytes (n + 1) h)
