-- The events of a file, one after the other.
use Rattle.std.proofs.Common.{◌≡◌, ℕ, cond, ◌+◌, ◌<◌, ◌≤◌, List, [], ◌∷◌, ◌++◌, length, get_or, take, drop, sym, ap, ◌∙◌, subst, arith, append_assoc, append-nil}
use Rattle.std.specs.Prelude.{eqb}
use Rattle.std.proofs.lemmas.List.Sums.{sum_by-append, sum_by-cons}
use Rattle.std.proofs.lemmas.List.{take_more, take_all}
use Rattle.run_events.specs.declared.event.Record.{Record}
use Rattle.log_closure.specs.Events.{LogEvent, In, event_of, events_after, events_of, of_thread}
use Rattle.log_reference.proofs.Splits.{split-in, split_at, Each, each_more}

events_join : (acc xs ys : List Record) → events_after acc (xs ++ ys) ≡ events_after acc xs ++ events_after (acc ++ xs) ys
events_join acc [] ys = ap (λ (l : List Record). events_after l ys) (sym (append-nil acc))
events_join acc (r ∷ xs) ys = ap (λ (l : List LogEvent). event_of acc r ∷ l) (events_join (acc ++ r ∷ []) xs ys ∙ ap (λ (l : List Record). events_after (acc ++ r ∷ []) xs ++ events_after l ys) (append_assoc acc (r ∷ []) xs))

-- the events of a prefix that is longer by one
pub events_more : (rs : List Record) (i : ℕ) (r : Record) → i < length rs → r ≡ get_or rs i r → events_of (take (i + 1) rs) ≡ events_of (take i rs) ++ event_of (take i rs) r ∷ []
events_more rs i r lt is = ap events_of (take_more rs i r lt ∙ ap (λ (x : Record). take i rs ++ x ∷ []) (sym is)) ∙ events_join [] (take i rs) (r ∷ [])

-- all events, split at one
pub events_split : (rs : List Record) (i : ℕ) (r : Record) → i < length rs → r ≡ get_or rs i r → events_of rs ≡ events_of (take i rs) ++ event_of (take i rs) r ∷ events_after (take i rs ++ r ∷ []) (drop (i + 1) rs)
events_split rs i r lt is = ap events_of (split_at rs i r lt ∙ ap (λ (x : Record). take i rs ++ x ∷ drop (i + 1) rs) (sym is)) ∙ events_join [] (take i rs) (r ∷ drop (i + 1) rs)

pub event_in : (rs : List Record) (i : ℕ) (r : Record) → i < length rs → r ≡ get_or rs i r → In (event_of (take i rs) r) (events_of rs)
event_in rs i r lt is = subst (In (event_of (take i rs) r)) (sym (events_split rs i r lt is)) (split-in (events_of (take i rs)) (event_of (take i rs) r) _)

-- what holds at each event of a prefix, and at the event after it
pub each_event : (P : List LogEvent → LogEvent → Type 0) (rs : List Record) (i : ℕ) (r : Record) → i < length rs → r ≡ get_or rs i r → Each P (events_of (take i rs)) → P (events_of (take i rs)) (event_of (take i rs) r) → Each P (events_of (take (i + 1) rs))
each_event P rs i r lt is all here = subst (Each P) (sym (events_more rs i r lt is)) (each_more P (events_of (take i rs)) (event_of (take i rs) r) all here)

pub each_of_all : (P : List LogEvent → LogEvent → Type 0) (rs : List Record) (i : ℕ) → length rs ≤ i → Each P (events_of (take i rs)) → Each P (events_of rs)
each_of_all P rs i le all = subst (λ (l : List Record). Each P (events_of l)) (take_all i rs le) all

-- the number of a thread's records in a prefix that is longer by one
pub count_more : (t : ℕ) (rs : List Record) (i : ℕ) (r : Record) → i < length rs → r ≡ get_or rs i r → of_thread t (take (i + 1) rs) ≡ of_thread t (take i rs) + cond (eqb r.thread t) 1 0
count_more t rs i r lt is =
    ap (of_thread t) (take_more rs i r lt ∙ ap (λ (x : Record). take i rs ++ x ∷ []) (sym is))
    ∙ sum_by-append (λ (x : Record). cond (eqb x.thread t) 1 0) (take i rs) (r ∷ [])
    ∙ ap (λ (n : ℕ). of_thread t (take i rs) + n) (sum_by-cons (λ (x : Record). cond (eqb x.thread t) 1 0) r [] ∙ omega arith)
