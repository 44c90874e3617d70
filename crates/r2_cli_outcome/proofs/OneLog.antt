-- The bytes of a log decide what reading it comes to.
use Rattle.std.proofs.Common.{◌≡◌, ◌↔◌, ◌<◌, ◌≤◌, ◌+◌, ◌++◌, ◌∷◌, [], ◌⊎◌, inl, inr, ℕ, List, Bool, true, false, IsTrue, take, drop, length, sym, ◌∙◌, ap, refl, subst, arith, append_assoc, codes, decimal, min}
use Rattle.std.proofs.lemmas.List.{take-append-drop, take-append-le, length-take}
use Rattle.log_codec.specs.LogText.{BeginsLog}
use Rattle.log_codec.specs.Kept as byte_place
use Rattle.log_codec.specs.Kept.{KeptLog, StandInFull}
use Rattle.log_closure.specs.Events.{LogEvent, Part, In, events_of}
use Rattle.log_closure.specs.Closed.{Precedes, Ordered, IsClosedPart}
use Rattle.log_closure.specs.Wrong as wrong
use Rattle.log_closure.specs.declared.error.OrderError.{OrderError}
use Rattle.r2_base.specs.Seen.{Contents}
use Rattle.r2_cli_outcome.specs.declared.status.Status.TheVariants.{BadLog}
use Rattle.r2_cli_outcome.specs.Outcome.{Outcome, refusal}
use Rattle.r2_cli_outcome.specs.Reading.{Of}
use Rattle.r2_cli_outcome.specs.Stages.{passed, ended}
use Rattle.r2_cli_outcome.specs.Input.{Input, most_log_bytes}
use Rattle.r2_cli_outcome.specs.Log as stage
use Rattle.r2_cli_outcome.specs.Log.{IsKept, IsLogPart, IsBadLog, LogOf, log, bad_byte, bad_event, order_words}
use Rattle.r2_cli_outcome.proofs.Decided.{IsOne, one_then, one_input}

-- ---- lists

-- two ways to part one list: the prefixes are equal, or one goes on after the item that follows the other
apart : {A : Type 0} (xs ys : List A) (x y : A) (ls rs : List A) → xs ++ x ∷ ls ≡ ys ++ y ∷ rs
    → ((xs ≡ ys) × (x ≡ y)) ⊎ (((m : List A) × (ys ≡ xs ++ x ∷ m)) ⊎ ((m : List A) × (xs ≡ ys ++ y ∷ m)))
apart [] [] x y ls rs e = inl (refl, cc)
apart [] (z ∷ zs) x y ls rs e = inr (inl (zs, (let same : z ≡ x = cc in ap (λ w. w ∷ zs) same)))
apart (w ∷ ws) [] x y ls rs e = inr (inr (ws, (let same : w ≡ y = cc in ap (λ v. v ∷ ws) same)))
apart {A} (w ∷ ws) (z ∷ zs) x y ls rs e = longer (apart ws zs x y ls rs (let tails : ws ++ x ∷ ls ≡ zs ++ y ∷ rs = cc in tails))
  where
    heads : w ≡ z
    heads = cc

    longer : ((ws ≡ zs) × (x ≡ y)) ⊎ (((m : List A) × (zs ≡ ws ++ x ∷ m)) ⊎ ((m : List A) × (ws ≡ zs ++ y ∷ m)))
        → ((w ∷ ws ≡ z ∷ zs) × (x ≡ y)) ⊎ (((m : List A) × (z ∷ zs ≡ w ∷ (ws ++ x ∷ m))) ⊎ ((m : List A) × (w ∷ ws ≡ z ∷ (zs ++ y ∷ m))))
    longer (inl (same, eq)) = inl (ap (λ v. v ∷ ws) heads ∙ ap (λ v. z ∷ v) same, eq)
    longer (inr (inl (m, is))) = inr (inl (m, ap (λ v. v ∷ zs) (sym heads) ∙ ap (λ v. w ∷ v) is))
    longer (inr (inr (m, is))) = inr (inr (m, ap (λ v. v ∷ ws) heads ∙ ap (λ v. z ∷ v) is))

-- ---- the bytes of a log

begins_prefix : (prefix rest : List ℕ) → BeginsLog (prefix ++ rest) → BeginsLog prefix
begins_prefix prefix rest (cs, more, is) = (cs, rest ++ more, (is.0, sym (append_assoc prefix rest more) ∙ is.1))

begins_take : (bytes : List ℕ) (n : ℕ) → BeginsLog bytes → BeginsLog (take n bytes)
begins_take bytes n begins = begins_prefix (take n bytes) (drop n bytes) (subst BeginsLog (sym (take-append-drop n bytes)) begins)

not_both : (bytes : List ℕ) (n : ℕ) → byte_place.IsFirstWrong bytes n → BeginsLog bytes → ⊥
not_both bytes n first begins = first.here (begins_take bytes (n + 1) begins)

not_before : (bytes : List ℕ) (n m : ℕ) → byte_place.IsFirstWrong bytes n → byte_place.IsFirstWrong bytes m → n < m → ⊥
not_before bytes n m first other lt =
    let size : length (take m bytes) ≡ min m (length bytes) = length-take m bytes in
    let fits : n + 1 ≤ length (take m bytes) = omega (arith, size, lt, other.within) in
    let same : take (n + 1) (take m bytes) ≡ take (n + 1) bytes =
    sym (take-append-le (n + 1) (take m bytes) (drop m bytes) fits) ∙ ap (take (n + 1)) (take-append-drop m bytes) in
    first.here (subst BeginsLog same (begins_take (take m bytes) (n + 1) other.before))

same_place : (n m : ℕ) → (n < m → ⊥) → (m < n → ⊥) → n ≡ m
same_place n m up down = omega (arith, up, down)

first_byte : (bytes : List ℕ) (n m : ℕ) → byte_place.IsFirstWrong bytes n → byte_place.IsFirstWrong bytes m → n ≡ m
first_byte bytes n m first other = same_place n m (not_before bytes n m first other) (not_before bytes m n other first)

same_whole : {P : Type 0} (v w : Bool) → (IsTrue v ↔ P) → (IsTrue w ↔ P) → v ≡ w
same_whole true true a b = refl
same_whole false false a b = refl
same_whole true false a b = absurd (let never : false ≡ true = b.1 (a.0 refl) in cc)
same_whole false true a b = absurd (let never : false ≡ true = a.1 (b.0 refl) in cc)

same_records : (bytes : List ℕ) (k l : KeptLog) → BeginsLog bytes → StandInFull bytes k.records → StandInFull bytes l.records → k.records ≡ l.records
same_records bytes k l (cs, more, is) a b = a cs more is ∙ sym (b cs more is)

same_kept : (bytes : List ℕ) (k l : KeptLog) → IsKept bytes k → IsKept bytes l → k ≡ l
same_kept bytes k l a b =
    let recorded : k ≡ record k { records = l.records } = ap (λ rs. let kept : KeptLog = record k { records = rs } in kept) (same_records bytes k l a.begins a.in_full b.in_full) in
    recorded ∙ ap (λ (w : Bool). let kept : KeptLog = record { records = l.records; whole = w } in kept) (same_whole k.whole l.whole a.whole b.whole)

-- ---- the order of a log

right_not_wrong : (whole : Bool) (all before : List LogEvent) (e : LogEvent) (error : OrderError) → wrong.IsRight whole all before e → wrong.IsWrong whole all before e error → ⊥
right_not_wrong whole all before e error right (wrong.as_twice is) = right.0 is
right_not_wrong whole all before e error right (wrong.as_missing not_twice is) = right.1 is
right_not_wrong whole all before e error right (wrong.as_clock not_twice not_missing is) = right.2 is

same_wrong : (whole : Bool) (all before : List LogEvent) (e : LogEvent) (f g : OrderError) → wrong.IsWrong whole all before e f → wrong.IsWrong whole all before e g → f ≡ g
same_wrong whole all before e f g (wrong.as_twice a) (wrong.as_twice b) = refl
same_wrong whole all before e f g (wrong.as_twice a) (wrong.as_missing b c) = absurd (b a)
same_wrong whole all before e f g (wrong.as_twice a) (wrong.as_clock b c d) = absurd (b a)
same_wrong whole all before e f g (wrong.as_missing a b) (wrong.as_twice c) = absurd (a c)
same_wrong whole all before e f g (wrong.as_missing a b) (wrong.as_missing c d) = refl
same_wrong whole all before e f g (wrong.as_missing a b) (wrong.as_clock c d x) = absurd (d b)
same_wrong whole all before e f g (wrong.as_clock a b c) (wrong.as_twice d) = absurd (a d)
same_wrong whole all before e f g (wrong.as_clock a b c) (wrong.as_missing d x) = absurd (b x)
same_wrong whole all before e f g (wrong.as_clock a b c) (wrong.as_clock d x y) = refl

first_event : (whole : Bool) (all : List LogEvent) (f g : OrderError) → wrong.IsFirstWrong whole all f → wrong.IsFirstWrong whole all g → f ≡ g
first_event whole all f g (before, e, after, is, right, bad) (prefix, d, rest, it, good, worse) = by (apart before prefix e d after rest (sym is ∙ it))
  where
    by : ((before ≡ prefix) × (e ≡ d)) ⊎ (((m : List LogEvent) × (prefix ≡ before ++ e ∷ m)) ⊎ ((m : List LogEvent) × (before ≡ prefix ++ d ∷ m))) → f ≡ g
    by (inl (same, eq)) = same_wrong whole all prefix d f g (subst (λ (x : LogEvent). wrong.IsWrong whole all prefix x f) eq (subst (λ (b : List LogEvent). wrong.IsWrong whole all b e f) same bad)) worse
    by (inr (inl (m, parts))) = absurd (right_not_wrong whole all before e f (good before e m parts) bad)
    by (inr (inr (m, parts))) = absurd (right_not_wrong whole all prefix d g (right prefix d m parts) worse)

none_wrong : (whole : Bool) (all : List LogEvent) (error : OrderError) → wrong.AreRight whole all all → wrong.IsFirstWrong whole all error → ⊥
none_wrong whole all error right (before, e, after, is, fine, bad) = right_not_wrong whole all before e error (right before e after is) bad

not_twice_before : (e f : LogEvent) → Precedes e f → Precedes f e → ⊥
not_twice_before e f (inl a) (inl b) = omega (arith, a, b)
not_twice_before e f (inl a) (inr b) = let same = b.0 in omega (arith, a, same)
not_twice_before e f (inr a) (inl b) = let same = a.0 in omega (arith, b, same)
not_twice_before e f (inr a) (inr b) = let up = a.1 in let down = b.1 in omega (arith, up, down)

same_order : (p q : List LogEvent) → Ordered p → Ordered q → ((e : LogEvent) → In e p → In e q) → ((e : LogEvent) → In e q → In e p) → p ≡ q
same_order [] [] a b there back = refl
same_order [] (y ∷ ys) a b there back = absurd (back y (inl refl))
same_order (x ∷ xs) [] a b there back = absurd (there x (inl refl))
same_order (x ∷ xs) (y ∷ ys) a b there back = ap (λ e. e ∷ xs) first ∙ ap (λ es. y ∷ es) (same_order xs ys a.1 b.1 into out)
  where
    meets : (x ≡ y) ⊎ In x ys → (y ≡ x) ⊎ In y xs → x ≡ y
    meets (inl e) i = e
    meets (inr i) (inl e) = sym e
    meets (inr i) (inr j) = absurd (not_twice_before x y (a.0 y j) (b.0 x i))

    first : x ≡ y
    first = meets (there x (inl refl)) (back y (inl refl))

    passed : (e : LogEvent) → In e xs → (e ≡ y) ⊎ In e ys → In e ys
    passed e i (inl same) = absurd (let self : Precedes x x = subst (Precedes x) (same ∙ sym first) (a.0 e i) in not_twice_before x x self self)
    passed e i (inr j) = j

    came : (e : LogEvent) → In e ys → (e ≡ x) ⊎ In e xs → In e xs
    came e i (inl same) = absurd (let self : Precedes y y = subst (Precedes y) (same ∙ first) (b.0 e i) in not_twice_before y y self self)
    came e i (inr j) = j

    into : (e : LogEvent) → In e xs → In e ys
    into e i = passed e i (there e (inr i))

    out : (e : LogEvent) → In e ys → In e xs
    out e i = came e i (back e (inr i))

same_part : (kept p q : List LogEvent) → IsClosedPart kept p → IsClosedPart kept q → p ≡ q
same_part kept p q a b = same_order p q a.1 b.1 (λ e i. (b.0 e).1 ((a.0 e).0 i)) (λ e i. (a.0 e).1 ((b.0 e).0 i))

-- ---- the answer of the stage

same_log : (bytes : List ℕ) (p q : Part) → IsLogPart bytes p → IsLogPart bytes q → p ≡ q
same_log bytes p q a b =
    let kept : a.kept ≡ b.kept = same_kept bytes a.kept b.kept a.of_bytes b.of_bytes in
    let closed : IsClosedPart (events_of b.kept.records) p.events = subst (λ (k : KeptLog). IsClosedPart (events_of k.records) p.events) kept a.closed in
    let events : p.events ≡ q.events = same_part (events_of b.kept.records) p.events q.events closed b.closed in
    let wholes : p.whole ≡ q.whole = a.whole ∙ ap (λ (k : KeptLog). k.whole) kept ∙ sym b.whole in
    let first : p ≡ record p { events = q.events } = ap (λ es. let part : Part = record p { events = es } in part) events in
    first ∙ ap (λ (w : Bool). let part : Part = record { events = q.events; whole = w } in part) wholes

bad_not_part : (bytes words : List ℕ) (p : Part) → IsBadLog bytes words → IsLogPart bytes p → ⊥
bad_not_part bytes words p (bad_byte {n = n} first) a = not_both bytes n first a.of_bytes.begins
bad_not_part bytes words p (bad_event {kept = kept} {error = error} of first) a =
    let same : kept ≡ a.kept = same_kept bytes kept a.kept of a.of_bytes in
    none_wrong a.kept.whole (events_of a.kept.records) error a.right (subst (λ (k : KeptLog). wrong.IsFirstWrong k.whole (events_of k.records) error) same first)

same_bad : (bytes v w : List ℕ) → IsBadLog bytes v → IsBadLog bytes w → v ≡ w
same_bad bytes v w (bad_byte {n = n} first) (bad_byte {n = m} other) = ap (λ (k : ℕ). codes "log byte " ++ decimal k) (first_byte bytes n m first other)
same_bad bytes v w (bad_byte {n = n} first) (bad_event of other) = absurd (not_both bytes n first of.begins)
same_bad bytes v w (bad_event of first) (bad_byte {n = m} other) = absurd (not_both bytes m other of.begins)
same_bad bytes v w (bad_event {kept = kept} {error = f} of first) (bad_event {kept = other} {error = g} it second) =
    ap order_words (first_event other.whole (events_of other.records) f g
    (subst (λ (k : KeptLog). wrong.IsFirstWrong k.whole (events_of k.records) f) (same_kept bytes kept other of it) first) second)

pub one_log_of : (alike : Outcome → Outcome → Type 0) → ((o : Outcome) → alike o o) → (bytes : List ℕ) → IsOne alike (LogOf bytes)
one_log_of alike self bytes (passed p) (passed q) (stage.right a) (stage.right b) = same_log bytes p q a b
one_log_of alike self bytes (passed p) (ended o) (stage.right a) (stage.wrong {words = w} b) = absurd (bad_not_part bytes w p b a)
one_log_of alike self bytes (ended o) (passed q) (stage.wrong {words = v} a) (stage.right b) = absurd (bad_not_part bytes v q a b)
one_log_of alike self bytes (ended o) (ended p) (stage.wrong {words = v} a) (stage.wrong {words = w} b) =
    subst (λ (u : List ℕ). alike (refusal BadLog v) (refusal BadLog u)) (same_bad bytes v w a b) (self (refusal BadLog v))

pub one_log : (alike : Outcome → Outcome → Type 0) → ((o : Outcome) → alike o o) → (held : Contents) (name : List ℕ) → IsOne alike (log (Of held) name)
one_log alike self held name = one_then alike (Input (Of held) name (codes "log") most_log_bytes) LogOf (one_input alike self held name (codes "log") most_log_bytes) (one_log_of alike self)
