-- How checks that follow each other compose, and what answers agree with them.
use Rattle.std.proofs.Common.{◌≡◌, Result, Ok, Err, refl, sym, subst}
use Rattle.std.specs.Result.{IsErrAnd}
use Rattle.std.proofs.lemmas.Result.{err_from_is_err_and}
use Rattle.c_types_rules.specs.Checked.{Checked, Fine, Noted, Broken, Notes, noting, ◌>>=◌, ◌>>◌}
use Rattle.c_types_rules.proofs.Notes.{noting_twice}
use Rattle.annot_reader_words.specs.declared.error.AnnotationError.{AnnotationError}
use Rattle.annot_reader_words.specs.declared.error.AnnotationError.TheVariants.{Rule, Memory}
use Rattle.annot_reader_words.specs.Answers.{Tells}

-- ---- checks

pub assoc : {A B C : Type 0} (a : Checked A) (b : Checked B) (c : Checked C) → ((a >> b) >> c) ≡ (a >> (b >> c))
assoc (Fine x) b c = refl
assoc (Noted n x) (Fine y) c = refl
assoc (Noted n x) (Noted m y) c = sym (noting_twice n m c)
assoc (Noted n x) (Broken f r) c = refl
assoc (Broken f r) b c = refl

pub then_fine : (c : Checked (Unit {0})) → (c >> Fine tt) ≡ c
then_fine (Fine x) = refl
then_fine (Noted n x) = refl
then_fine (Broken f r) = refl

-- ---- answers

pub memory : {A B : Type 0} (is : A → B → Type 0) (c : Checked A) → Tells is c (Err Memory)
memory is (Fine x) = tt
memory is (Noted n x) = tt
memory is (Broken f r) = tt

pub noting_tells : {A B : Type 0} (is : A → B → Type 0) (n : Notes) (c : Checked A) (r : Result B AnnotationError) → Tells is c r → Tells is (noting n c) r
noting_tells is n (Fine x) (Ok y) h = h
noting_tells is n (Fine x) (Err Memory) h = tt
noting_tells is n (Fine x) (Err (Rule f r)) h = absurd h
noting_tells is n (Noted m x) (Ok y) h = h
noting_tells is n (Noted m x) (Err Memory) h = tt
noting_tells is n (Noted m x) (Err (Rule f r)) h = absurd h
noting_tells is n (Broken f r) s h = h

pub same_tells : {A B : Type 0} (is : A → B → Type 0) (c d : Checked A) (r : Result B AnnotationError) → c ≡ d → Tells is d r → Tells is c r
same_tells is c d r e h = let P : Checked _ → Type 0 = λ x. Tells is x r in subst P (sym e) h

-- the second step isn't made after the first broke a rule
pub stops : {A B C D : Type 0} (is : A → B → Type 0) (js : C → D → Type 0) (c : Checked A) (f : A → Checked C) (e : AnnotationError) → Tells is c (Err e) → Tells js (c >>= f) (Err e)
stops is js (Fine x) f (Rule a b) h = absurd h
stops is js (Fine x) f Memory h = memory js (f x)
stops is js (Noted n x) f (Rule a b) h = absurd h
stops is js (Noted n x) f Memory h = memory js (noting n (f x))
stops is js (Broken a b) f (Rule c d) h = h
stops is js (Broken a b) f Memory h = tt

-- the second step is made with what the first found
pub follows : {A B C D : Type 0} (is : A → B → Type 0) (js : C → D → Type 0) (c : Checked A) (f : A → Checked C) (y : B) (r : Result D AnnotationError) →
    Tells is c (Ok y) → ((x : A) → is x y → Tells js (f x) r) → Tells js (c >>= f) r
follows is js (Fine x) f y r h k = k x h
follows is js (Noted n x) f y r h k = noting_tells js n (f x) r (k x h)
follows is js (Broken a b) f y r h k = absurd h

pub stops_there : {A B C D : Type 0} (is : A → B → Type 0) (js : C → D → Type 0) (c : Checked A) (d : Checked C) (e : AnnotationError) → Tells is c (Err e) → Tells js (c >> d) (Err e)
stops_there is js (Fine x) d (Rule a b) h = absurd h
stops_there is js (Fine x) d Memory h = memory js d
stops_there is js (Noted n x) d (Rule a b) h = absurd h
stops_there is js (Noted n x) d Memory h = memory js (noting n d)
stops_there is js (Broken a b) d (Rule f r) h = h
stops_there is js (Broken a b) d Memory h = tt

pub goes_on : {A B C D : Type 0} (is : A → B → Type 0) (js : C → D → Type 0) (c : Checked A) (d : Checked C) (y : B) (r : Result D AnnotationError) →
    Tells is c (Ok y) → Tells js d r → Tells js (c >> d) r
goes_on is js (Fine x) d y r h k = k
goes_on is js (Noted n x) d y r h k = noting_tells js n d r k
goes_on is js (Broken a b) d y r h k = absurd h

-- what a `?` returns
pub raised : {A B : Type 0} (js : A → B → Type 0) (c : Checked A) (r : Result B AnnotationError) (e : AnnotationError) → IsErrAnd r (λ v. v ≡ e) → Tells js c (Err e) → Tells js c r
raised js c r e h t = let p = err_from_is_err_and r h in rw (p.1, p.2) t

-- a rule that is broken is broken whatever is sought
pub same_error : {A B D : Type 0} (is : A → B → Type 0) (js : A → D → Type 0) (c : Checked A) (e : AnnotationError) → Tells is c (Err e) → Tells js c (Err e)
same_error is js (Fine x) (Rule a b) h = absurd h
same_error is js (Fine x) Memory h = tt
same_error is js (Noted n x) (Rule a b) h = absurd h
same_error is js (Noted n x) Memory h = tt
same_error is js (Broken a b) (Rule f r) h = h
same_error is js (Broken a b) Memory h = tt

-- what is found tells something else
pub tells_too : {A B D : Type 0} (is : A → B → Type 0) (js : A → D → Type 0) (c : Checked A) (y : B) (z : D) → ((x : A) → is x y → js x z) → Tells is c (Ok y) → Tells js c (Ok z)
tells_too is js (Fine x) y z f h = f x h
tells_too is js (Noted n x) y z f h = f x h
tells_too is js (Broken a b) y z f h = absurd h
