-- The events of records have names and keys as the order check wants them.
use Rattle.std.proofs.Common.{◌≡◌, ◌≢◌, ◌++◌, ◌∷◌, [], ℕ, ◌+◌, List, map, Bool, true, false, refl, ap, ◌∙◌, sym, cond, arith, ◌<◌, length, get_or, take, subst, append_assoc, append-nil, inl, inr, ⊎_elim}
use Rattle.std.specs.Prelude.{eqb}
use Rattle.std.proofs.lemmas.List.Sums.{sum_by-append, sum_by-cons}
use Rattle.std.proofs.lemmas.List.{take_more, get_or-set_same, get_or-set_other, get_or-replicate}
use Rattle.std.proofs.lemmas.Bool.{eq-eqb, cases_eq}
use Rattle.std.proofs.lemmas.Bool.Decides.{nat_tests}
use Rattle.std.proofs.Math.ListN.{set, replicate}
use Rattle.run_events.specs.Class.{number_of}
use Rattle.run_events.specs.declared.key.Class.{Class}
use Rattle.run_events.specs.declared.key.Class.TheVariants.{Mutex, User, Callback, Thread, Pool, Out, Async}
use Rattle.run_events.specs.declared.event.Record.{Record}
use Rattle.log_closure.specs.declared.tie.Tie.{Tie}
use Rattle.log_closure.specs.Events.{In, LogEvent, event_of, events_after, events_of, of_thread}
use Rattle.log_closure.specs.Ties.{key_tie, listed, thread_tie}
use Rattle.log_closure.proofs.Numbered.{Numbered}
use Rattle.log_closure.proofs.Order.{map-in}
use Rattle.log_closure.proofs.Passed.{listed_in}

pub of_thread_more : (t : ℕ) (rs : List Record) (r : Record) → of_thread t (rs ++ r ∷ []) ≡ of_thread t rs + cond (eqb r.thread t) 1 0
of_thread_more t rs r = sum_by-append (λ (x : Record). cond (eqb x.thread t) 1 0) rs (r ∷ []) ∙ ap (λ (n : ℕ). of_thread t rs + n) (sum_by-cons (λ (x : Record). cond (eqb x.thread t) 1 0) r [] ∙ omega arith)

of_thread_mine : (rs more : List Record) (r : Record) → of_thread r.thread rs < of_thread r.thread (rs ++ r ∷ more)
of_thread_mine rs more r =
    let e : eqb r.thread r.thread ≡ true = eq-eqb r.thread r.thread refl in
    let a = sum_by-append (λ (x : Record). cond (eqb x.thread r.thread) 1 0) rs (r ∷ more) ∙ ap (λ (n : ℕ). of_thread r.thread rs + n) (sum_by-cons (λ (x : Record). cond (eqb x.thread r.thread) 1 0) r more) in
    go (eqb r.thread r.thread) e a
  where
    go : (b : Bool) → b ≡ true → of_thread r.thread (rs ++ r ∷ more) ≡ of_thread r.thread rs + (cond b 1 0 + of_thread r.thread more) → of_thread r.thread rs < of_thread r.thread (rs ++ r ∷ more)
    go true e a = omega (arith, a)
    go false e a = absurd cc

pub index_below : (acc rs : List Record) (e : LogEvent) → In e (events_after acc rs) → e.name.index < of_thread e.name.thread (acc ++ rs)
index_below acc [] e i = absurd i
index_below acc (r ∷ rs) e (inl is) = subst (λ (x : LogEvent). x.name.index < of_thread x.name.thread (acc ++ r ∷ rs)) (sym is) (of_thread_mine acc rs r)
index_below acc (r ∷ rs) e (inr i) = subst (λ (l : List Record). e.name.index < of_thread e.name.thread l) (append_assoc acc (r ∷ []) rs) (index_below (acc ++ r ∷ []) rs e i)

pub events_after-append : (acc rs : List Record) (r : Record) → events_after acc (rs ++ r ∷ []) ≡ events_after acc rs ++ event_of (acc ++ rs) r ∷ []
events_after-append acc [] r = ap (λ (l : List Record). event_of l r ∷ []) (sym (append-nil acc))
events_after-append acc (s ∷ rs) r = ap (λ (l : List LogEvent). event_of acc s ∷ l) (events_after-append (acc ++ s ∷ []) rs r ∙ ap (λ (l : List Record). events_after (acc ++ s ∷ []) rs ++ event_of l r ∷ []) (append_assoc acc (s ∷ []) rs))

pub above : (c : Class) → 0 < number_of c
above Mutex = omega arith
above User = omega arith
above Callback = omega arith
above Thread = omega arith
above Pool = omega arith
above Out = omega arith
above Async = omega arith

alone : (before : List Record) (r : Record) → listed (map thread_tie (events_of before)) (thread_tie (event_of before r)) ≡ false
alone before r = go (listed (map thread_tie (events_of before)) (thread_tie (event_of before r))) refl
  where
    go : (b : Bool) → listed (map thread_tie (events_of before)) (thread_tie (event_of before r)) ≡ b → b ≡ false
    go false e = refl
    go true e =
        let (x, i, is) = map-in thread_tie (events_of before) (thread_tie (event_of before r)) (listed_in _ _ e) in
        let t : r.thread ≡ x.name.thread = ap (λ (k : Tie). k.value) is in
        let n : of_thread r.thread before ≡ x.name.index = ap (λ (k : Tie). k.number) is in
        let lt : x.name.index < of_thread r.thread before = subst (λ (u : ℕ). x.name.index < of_thread u before) (sym t) (index_below [] before x i) in
        absurd (omega (arith, n, lt))

pub numbered : (before rs : List Record) → Numbered (events_of before) (events_after before rs)
numbered before [] = tt
numbered before (r ∷ rs) = (
  alone before r,
  λ k i. let (m, j, is) = map-in key_tie r.keys k i in let a = above m.key.class in let c : k.class ≡ number_of m.key.class = ap (λ (x : Tie). x.class) is in omega (arith, a, c),
  subst (λ (l : List LogEvent). Numbered l (events_after (before ++ r ∷ []) rs)) (events_after-append [] before r) (numbered (before ++ r ∷ []) rs),
)

-- steps of counting

pub seen_records : (rs : List Record) (i : ℕ) (r : Record) → i < length rs → r ≡ get_or rs i r → take (i + 1) rs ≡ take i rs ++ r ∷ []
seen_records rs i r lt is = take_more rs i r lt ∙ ap (λ (x : Record). take i rs ++ x ∷ []) (sym is)

pub counts_more : (counts : List ℕ) (rs : List Record) (i th : ℕ) (r : Record) → i < length rs → r ≡ get_or rs i r → th ≡ r.thread → th < length counts → ((t : ℕ) → t < 256 → get_or counts t 0 ≡ of_thread t (take i rs)) → (t : ℕ) → t < 256
    → get_or (set counts th (get_or counts th 0 + 1)) t 0 ≡ of_thread t (take (i + 1) rs)
counts_more counts rs i th r lt is eq within h t b =
    ⊎_elim
    (λ e. let yes_is : eqb r.thread t ≡ true = eq-eqb r.thread t (sym eq ∙ e) in
    subst (λ (u : ℕ). get_or (set counts th (get_or counts th 0 + 1)) u 0 ≡ get_or counts u 0 + 1) e (get_or-set_same counts th (get_or counts th 0 + 1) 0 within) ∙ ap (λ (n : ℕ). n + 1) (h t b) ∙ sym (more ∙ ap (λ (x : Bool). of_thread t (take i rs) + cond x 1 0) yes_is))
    (λ ne. let ne' : t ≢ th = λ e. ne (sym e) in
    let no_is : eqb r.thread t ≡ false = grind (arith, nat_tests) in
    get_or-set_other counts th t (get_or counts th 0 + 1) 0 ne' ∙ h t b ∙ sym (more ∙ ap (λ (x : Bool). of_thread t (take i rs) + cond x 1 0) no_is ∙ omega arith))
    (cases_eq th t)
  where
    more : of_thread t (take (i + 1) rs) ≡ of_thread t (take i rs) + cond (eqb r.thread t) 1 0
    more = ap (of_thread t) (seen_records rs i r lt is) ∙ of_thread_more t (take i rs) r

pub counts_none : (t : ℕ) → t < 256 → get_or (replicate 256 0) t 0 ≡ of_thread t []
counts_none t h = get_or-replicate 256 t 0 0 h
