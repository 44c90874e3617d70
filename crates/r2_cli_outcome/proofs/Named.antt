-- The names that stages read decide what they come to, and an answer over any files is one for some contents.
use Rattle.std.proofs.Common.{◌≡◌, ◌∷◌, [], ◌||◌, ◌++◌, ℕ, List, Bool, true, false, Option, Some, None, cond, bytes_eq, sym, ◌∙◌, ap, refl, subst}
use Rattle.std.proofs.lemmas.Slice.Eq.{bytes_eq-Decides}
use Rattle.r2_base.specs.Seen.{Contents, Store}
use Rattle.r2_cli_outcome.specs.Outcome.{Outcome}
use Rattle.r2_cli_outcome.specs.Reading.{Reading, Of, Sees, AreOf}
use Rattle.r2_cli_outcome.specs.Stages.{Answer, Then, Comes, on, stop, done, refused, passed, ended}
use Rattle.r2_cli_outcome.specs.Input.{Input, missing, too_long, read}

-- the name is one of these
abbrev pub has : List (List ℕ) → List ℕ → Bool
has [] n = false
has (m ∷ ms) n = bytes_eq m n || has ms n

pub same_name : (m n : List ℕ) → bytes_eq m n ≡ true → m ≡ n
same_name m n e = (bytes_eq-Decides m n).0 e

pub its_name : (n : List ℕ) → bytes_eq n n ≡ true
its_name n = (bytes_eq-Decides n n).1 refl

first_or : (b c : Bool) → b ≡ true → b || c ≡ true
first_or true c e = refl
first_or false c e = absurd (let k : false ≡ true = e in cc)

second_or : (b c : Bool) → c ≡ true → b || c ≡ true
second_or true c e = refl
second_or false c e = e

pub has_first : (n : List ℕ) (ms : List (List ℕ)) → has (n ∷ ms) n ≡ true
has_first n ms = first_or (bytes_eq n n) (has ms n) (its_name n)

pub has_more : (m n : List ℕ) (ms : List (List ℕ)) → has ms n ≡ true → has (m ∷ ms) n ≡ true
has_more m n ms e = second_or (bytes_eq m n) (has ms n) e

one_of_both : (b c : Bool) → b || c ≡ true → (b ≡ false → ⊥) → b ≡ true
one_of_both true c e f = refl
one_of_both false c e f = absurd (f refl)

or_none : (b : Bool) → b || false ≡ true → b ≡ true
or_none true e = refl
or_none false e = e

pub only_name : (m n : List ℕ) → has (m ∷ []) n ≡ true → m ≡ n
only_name m n e = same_name m n (or_none (bytes_eq m n) e)

-- ---- a stage reads these names alone

abbrev pub ReadsOnly : {A : Type 0} → List (List ℕ) → (Reading → Answer A → Type 0) → Type 1
ReadsOnly {A} names stage = (s t : Reading) → ((n : List ℕ) (x : Option (List ℕ)) → has names n ≡ true → s n x → t n x) → (ans : Answer A) → stage s ans → stage t ans

pub reads_input : (names : List (List ℕ)) (name word : List ℕ) (most : ℕ) → has names name ≡ true → ReadsOnly names (λ reading. Input reading name word most)
reads_input names name word most is s t f ans (missing h) = missing (f name None is h)
reads_input names name word most is s t f ans (too_long {bytes = x} h m) = too_long (f name (Some x) is h) m
reads_input names name word most is s t f ans (read {bytes = x} h m) = read (f name (Some x) is h) m

pub reads_both : {A B : Type 0} (names : List (List ℕ)) (first : Reading → Answer A → Type 0) (next : Reading → A → Answer B → Type 0)
    → ReadsOnly names first → ((a : A) → ReadsOnly names (λ reading. next reading a)) → ReadsOnly names (λ reading. Then (first reading) (next reading))
reads_both names first next p q s t f ans (on {a = a} h k) = on (p s t f (passed a) h) (q a s t f ans k)
reads_both names first next p q s t f ans (stop {o = o} h) = stop (p s t f (ended o) h)

-- what it reads decides what it comes to
pub decided_by : {A : Type 0} (names : List (List ℕ)) (stage : Reading → Answer A → Type 0) → ReadsOnly names stage → (held other : Contents) → ((n : List ℕ) → has names n ≡ true → other n ≡ held n)
    → (ans : Answer A) → stage (Of held) ans → stage (Of other) ans
decided_by names stage p held other same ans h = p (Of held) (Of other) (λ n x is e. e ∙ sym (same n is)) ans h

-- ---- contents for an answer over any files

-- what was seen under these names, and that with such contents it holds
pub record IsNamed (names : List (List ℕ)) (files : Store) (P : Contents → Type 0) : Type 0 where
  pub seen : Contents
  pub shown : (n : List ℕ) → has names n ≡ true → Sees files n (seen n)
  pub holds : (held : Contents) → ((n : List ℕ) → has names n ≡ true → held n ≡ seen n) → P held

-- of files that tell all, what they hold was seen
sees_there : (files : Store) (n m : List ℕ) (x : Option (List ℕ)) → n ≡ m → Sees files n x → Sees files m x
sees_there files n m x e s = subst (λ (k : List ℕ). Sees files k x) e s

one_seen : (files : Store) (name : List ℕ) (x : Option (List ℕ)) (P : Contents → Type 0) → Sees files name x → ((held : Contents) → held name ≡ x → P held) → IsNamed (name ∷ []) files P
one_seen files name x P s f = record {
  seen = λ n. x;
  shown = λ n is. sees_there files name n x (only_name name n is) s;
  holds = λ held same. f held (same name (has_first name []));
}

pub named_input : (files : Store) (name word : List ℕ) (most : ℕ) (ans : Answer (List ℕ)) → Input (Sees files) name word most ans → IsNamed (name ∷ []) files (λ held. Input (Of held) name word most ans)
named_input files name word most ans (missing s) = one_seen files name None (λ held. Input (Of held) name word most ans) s (λ held e. missing (sym e))
named_input files name word most ans (too_long {bytes = b} s m) = one_seen files name (Some b) (λ held. Input (Of held) name word most ans) s (λ held e. too_long (sym e) m)
named_input files name word most ans (read {bytes = b} s m) = one_seen files name (Some b) (λ held. Input (Of held) name word most ans) s (λ held e. read (sym e) m)

-- of nothing that is read, everything holds
pub named_none : (files : Store) (P : Contents → Type 0) → ((held : Contents) → P held) → IsNamed [] files P
named_none files P f = record { seen = files.holds; shown = λ n is. absurd (let k : false ≡ true = is in cc); holds = λ held same. f held }

pub named_more : (names : List (List ℕ)) (files : Store) (P Q : Contents → Type 0) → ((held : Contents) → P held → Q held) → IsNamed names files P → IsNamed names files Q
named_more names files P Q f p = record { seen = p.seen; shown = p.shown; holds = λ held same. f held (p.holds held same) }

-- no name is in both lists
abbrev pub AreApart : List (List ℕ) → List (List ℕ) → Type 0
AreApart names more = (n : List ℕ) → has names n ≡ true → has more n ≡ true → ⊥

either : (b c d : Bool) (P : Type 0) → (b ≡ true → P) → (c ≡ true → P) → d ≡ b || c → d ≡ true → P
either true c d P f g e is = f refl
either false c d P f g e is = g (sym e ∙ is)

has_both : (names more : List (List ℕ)) (n : List ℕ) → has (names ++ more) n ≡ has names n || has more n
has_both [] more n = refl
has_both (m ∷ ms) more n = ap (λ (b : Bool). bytes_eq m n || b) (has_both ms more n) ∙ or_assoc (bytes_eq m n) (has ms n) (has more n)
  where
    or_assoc : (a b c : Bool) → a || (b || c) ≡ (a || b) || c
    or_assoc true b c = refl
    or_assoc false b c = refl

-- what was seen under the first names, and else under the others
abbrev joined : List (List ℕ) → Contents → Contents → Contents
joined names seen other n = cond (has names n) (seen n) (other n)

at_first : (b : Bool) (x y : Option (List ℕ)) → b ≡ true → cond b x y ≡ x
at_first true x y e = refl
at_first false x y e = absurd (let k : false ≡ true = e in cc)

at_other : (b : Bool) (x y : Option (List ℕ)) → (b ≡ true → ⊥) → cond b x y ≡ y
at_other true x y e = absurd (e refl)
at_other false x y e = refl

pub named_both : (names more : List (List ℕ)) (files : Store) (P Q R : Contents → Type 0) → AreApart names more → ((held : Contents) → P held → Q held → R held)
    → IsNamed names files P → IsNamed more files Q → IsNamed (names ++ more) files R
named_both names more files P Q R apart f p q = record { seen = joined names p.seen q.seen; shown = there; holds = λ held same. f held (p.holds held (first held same)) (q.holds held (second held same)) }
  where
    sees : (n : List ℕ) (x y : Option (List ℕ)) → x ≡ y → Sees files n y → Sees files n x
    sees n x y e s = subst (λ (z : Option (List ℕ)). Sees files n z) (sym e) s

    there : (n : List ℕ) → has (names ++ more) n ≡ true → Sees files n (joined names p.seen q.seen n)
    there n is = either (has names n) (has more n) (has (names ++ more) n) (Sees files n (joined names p.seen q.seen n))
        (λ e. sees n (joined names p.seen q.seen n) (p.seen n) (at_first (has names n) (p.seen n) (q.seen n) e) (p.shown n e))
        (λ e. sees n (joined names p.seen q.seen n) (q.seen n) (at_other (has names n) (p.seen n) (q.seen n) (λ k. apart n k e)) (q.shown n e))
        (has_both names more n) is

    first : (held : Contents) → ((n : List ℕ) → has (names ++ more) n ≡ true → held n ≡ joined names p.seen q.seen n) → (n : List ℕ) → has names n ≡ true → held n ≡ p.seen n
    first held same n is = same n (has_both names more n ∙ first_or (has names n) (has more n) is) ∙ at_first (has names n) (p.seen n) (q.seen n) is

    second : (held : Contents) → ((n : List ℕ) → has (names ++ more) n ≡ true → held n ≡ joined names p.seen q.seen n) → (n : List ℕ) → has more n ≡ true → held n ≡ q.seen n
    second held same n is = same n (has_both names more n ∙ second_or (has names n) (has more n) is) ∙ at_other (has names n) (p.seen n) (q.seen n) (λ k. apart n k is)

-- the contents of all names
pub named_contents : (names : List (List ℕ)) (files : Store) (P : Contents → Type 0) → IsNamed names files P → (held : Contents) × AreOf files held × P held
named_contents names files P p = (joined names p.seen files.holds, are, p.holds (joined names p.seen files.holds) (λ n is. at_first (has names n) (p.seen n) (files.holds n) is))
  where
    by : (b : Bool) (x y : Option (List ℕ)) → (b ≡ true → x ≡ y) → cond b x y ≡ y
    by true x y f = f refl
    by false x y f = refl

    are : AreOf files (joined names p.seen files.holds)
    are told n = by (has names n) (p.seen n) (files.holds n) (λ is. p.shown n is told)

-- a stage and then the next, which read names that are apart
pub named_then : {A B : Type 0} (names more : List (List ℕ)) (files : Store) (first : Reading → Answer A → Type 0) (next : Reading → A → Answer B → Type 0) (ans : Answer B) → AreApart names more
    → ((a : Answer A) → first (Sees files) a → IsNamed names files (λ held. first (Of held) a))
    → ((a : A) (b : Answer B) → next (Sees files) a b → IsNamed more files (λ held. next (Of held) a b))
    → Then (first (Sees files)) (next (Sees files)) ans → IsNamed (names ++ more) files (λ held. Then (first (Of held)) (next (Of held)) ans)
named_then names more files first next ans apart f g (on {a = a} h k) =
    named_both names more files (λ held. first (Of held) (passed a)) (λ held. next (Of held) a ans) (λ held. Then (first (Of held)) (next (Of held)) ans) apart (λ held p q. on p q) (f (passed a) h) (g a ans k)
named_then names more files first next ans apart f g (stop {o = o} h) = widened
  where
    here : IsNamed names files (λ held. first (Of held) (ended o))
    here = f (ended o) h

    widened : IsNamed (names ++ more) files (λ held. Then (first (Of held)) (next (Of held)) (ended o))
    widened = named_both names more files (λ held. first (Of held) (ended o)) (λ held. Unit {0}) (λ held. Then (first (Of held)) (next (Of held)) (ended o)) apart (λ held p q. stop p) here
        (record { seen = files.holds; shown = λ n is told. refl; holds = λ held same. tt })

-- the last stage reads nothing
pub named_last : {A B : Type 0} (names : List (List ℕ)) (files : Store) (first : Reading → Answer A → Type 0) (next : A → Answer B → Type 0) (ans : Answer B)
    → ((a : Answer A) → first (Sees files) a → IsNamed names files (λ held. first (Of held) a))
    → Then (first (Sees files)) next ans → IsNamed names files (λ held. Then (first (Of held)) next ans)
named_last names files first next ans f (on {a = a} h k) = named_more names files (λ held. first (Of held) (passed a)) (λ held. Then (first (Of held)) next ans) (λ held p. on p k) (f (passed a) h)
named_last names files first next ans f (stop {o = o} h) = named_more names files (λ held. first (Of held) (ended o)) (λ held. Then (first (Of held)) next (ended o)) (λ held p. stop p) (f (ended o) h)

-- the outcome of a command
pub named_comes : (names : List (List ℕ)) (files : Store) (command : Reading → Answer Outcome → Type 0) (o : Outcome)
    → ((a : Answer Outcome) → command (Sees files) a → IsNamed names files (λ held. command (Of held) a))
    → Comes (command (Sees files)) o → IsNamed names files (λ held. Comes (command (Of held)) o)
named_comes names files command o f (done h) = named_more names files (λ held. command (Of held) (passed o)) (λ held. Comes (command (Of held)) o) (λ held p. done p) (f (passed o) h)
named_comes names files command o f (refused h) = named_more names files (λ held. command (Of held) (ended o)) (λ held. Comes (command (Of held)) o) (λ held p. refused p) (f (ended o) h)
