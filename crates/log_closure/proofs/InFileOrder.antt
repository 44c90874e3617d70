-- The first wrong event that is computed is the first in file order.
use Rattle.std.proofs.Common.{◌≡◌, ◌≢◌, Bool, List, [], ◌∷◌, ◌++◌, Option, Some, None, inl, inr, refl, sym, ap, ◌∙◌, subst, append_assoc, append-nil}
use Rattle.std.specs.Prelude.{◌⊎◌, Result, Ok, Err}
use Rattle.run_events.specs.declared.event.Record.{Record}
use Rattle.log_closure.specs.declared.error.OrderError.{OrderError}
use Rattle.log_closure.specs.declared.error.OrderError.TheVariants.{Twice, Missing, Clock, Memory}
use Rattle.log_closure.specs.Events.{In, LogEvent, events_of}
use Rattle.log_closure.specs.FirstWrong.{first_wrong, or_else, wrong}
use Rattle.log_closure.specs.Tables.{Answers}
use Rattle.log_closure.specs.Wrong.{AreRight, IsFirstWrong, IsRight, IsWrong, as_clock, as_missing, as_twice}
use Rattle.log_closure.proofs.Exact.{meant, right_or_wrong}
use Rattle.log_closure.proofs.Passed.{else_none}
use Rattle.log_closure.proofs.Union.{In-left, In-right}

or_else_assoc : (a b c : Option OrderError) → or_else (or_else a b) c ≡ or_else a (or_else b c)
or_else_assoc None b c = refl
or_else_assoc (Some a) b c = refl

first_wrong-append : (whole : Bool) (all before es fs : List LogEvent) → first_wrong whole all before (es ++ fs) ≡ or_else (first_wrong whole all before es) (first_wrong whole all (before ++ es) fs)
first_wrong-append whole all before [] fs = ap (λ (l : List LogEvent). first_wrong whole all l fs) (sym (append-nil before))
first_wrong-append whole all before (e ∷ es) fs =
    ap (or_else (wrong whole all before e)) (first_wrong-append whole all (before ++ e ∷ []) es fs ∙ ap (λ (l : List LogEvent). or_else (first_wrong whole all (before ++ e ∷ []) es) (first_wrong whole all l fs)) (append_assoc before (e ∷ []) es))
    ∙ sym (or_else_assoc (wrong whole all before e) (first_wrong whole all (before ++ e ∷ []) es) (first_wrong whole all (before ++ e ∷ es) fs))

record Found (whole : Bool) (all before es : List LogEvent) (w : OrderError) : Type 0 where
  prefix : List LogEvent
  event : LogEvent
  back : List LogEvent
  split : es ≡ prefix ++ event ∷ back
  none : first_wrong whole all before prefix ≡ None
  here : wrong whole all (before ++ prefix) event ≡ Some w

some_is : (a b : OrderError) → Some a ≡ Some b → a ≡ b
some_is a b e = cc

found : (whole : Bool) (all before es : List LogEvent) (w : OrderError) → first_wrong whole all before es ≡ Some w → Found whole all before es w
found whole all before [] w h = absurd cc
found whole all before (e ∷ es) w h = go (wrong whole all before e) refl h (λ k. found whole all (before ++ e ∷ []) es w k)
  where
    go : (o : Option OrderError) → wrong whole all before e ≡ o → or_else o (first_wrong whole all (before ++ e ∷ []) es) ≡ Some w → (first_wrong whole all (before ++ e ∷ []) es ≡ Some w → Found whole all (before ++ e ∷ []) es w) → Found whole all before (e ∷ es) w
    go (Some v) is k rec = record { prefix = []; event = e; back = es; split = refl; none = refl; here = ap (λ (l : List LogEvent). wrong whole all l e) (append-nil before) ∙ is ∙ k }
    go None is k rec =
        let f = rec k in
        record {
          prefix = e ∷ f.prefix;
          event = f.event;
          back = f.back;
          split = ap (λ (l : List LogEvent). e ∷ l) f.split;
          none = ap (λ (o : Option OrderError). or_else o (first_wrong whole all (before ++ e ∷ []) f.prefix)) is ∙ f.none;
          here = ap (λ (l : List LogEvent). wrong whole all l f.event) (sym (append_assoc before (e ∷ []) f.prefix)) ∙ f.here;
        }

wrong_not_right : (whole : Bool) (all before : List LogEvent) (e : LogEvent) (w : OrderError) → IsWrong whole all before e w → IsRight whole all before e → ⊥
wrong_not_right whole all before e w (as_twice t) r = r.0 t
wrong_not_right whole all before e w (as_missing n m) r = r.1 m
wrong_not_right whole all before e w (as_clock n m c) r = r.2 c

wrong_one : (whole : Bool) (all before : List LogEvent) (e : LogEvent) (v w : OrderError) → IsWrong whole all before e v → IsWrong whole all before e w → v ≡ w
wrong_one whole all before e v w (as_twice t) (as_twice u) = refl
wrong_one whole all before e v w (as_twice t) (as_missing n m) = absurd (n t)
wrong_one whole all before e v w (as_twice t) (as_clock n m c) = absurd (n t)
wrong_one whole all before e v w (as_missing n m) (as_twice t) = absurd (n t)
wrong_one whole all before e v w (as_missing n m) (as_missing k l) = refl
wrong_one whole all before e v w (as_missing n m) (as_clock k l c) = absurd (l m)
wrong_one whole all before e v w (as_clock n m c) (as_twice t) = absurd (n t)
wrong_one whole all before e v w (as_clock n m c) (as_missing k l) = absurd (m l)
wrong_one whole all before e v w (as_clock n m c) (as_clock k l d) = refl

is_right : (rs : List Record) (whole : Bool) (before : List LogEvent) (e : LogEvent) → In e (events_of rs) → wrong whole (events_of rs) before e ≡ None → IsRight whole (events_of rs) before e
is_right rs whole before e i h = subst (right_or_wrong whole (events_of rs) before e) h (meant rs whole before e i)

is_wrong : (rs : List Record) (whole : Bool) (before : List LogEvent) (e : LogEvent) (w : OrderError) → In e (events_of rs) → wrong whole (events_of rs) before e ≡ Some w → IsWrong whole (events_of rs) before e w
is_wrong rs whole before e w i h = subst (right_or_wrong whole (events_of rs) before e) h (meant rs whole before e i)

prefix_right : (rs : List Record) (whole : Bool) (prefix : List LogEvent) → ((e : LogEvent) → In e prefix → In e (events_of rs)) → first_wrong whole (events_of rs) [] prefix ≡ None → AreRight whole (events_of rs) prefix
prefix_right rs whole prefix sub h before e after is =
    let all = events_of rs in
    let rest = (else_none (first_wrong whole all [] before) (first_wrong whole all before (e ∷ after)) (sym (first_wrong-append whole all [] before (e ∷ after)) ∙ ap (first_wrong whole all []) (sym is) ∙ h)).1 in
    is_right rs whole before e (sub e (subst (In e) (sym is) (In-right e before (e ∷ after) (inl refl)))) (else_none (wrong whole all before e) _ rest).0

right_prefix : (rs : List Record) (whole : Bool) (prefix : List LogEvent) → ((e : LogEvent) → In e prefix → In e (events_of rs)) → AreRight whole (events_of rs) prefix → first_wrong whole (events_of rs) [] prefix ≡ None
right_prefix rs whole prefix sub h = go (first_wrong whole (events_of rs) [] prefix) refl
  where
    go : (o : Option OrderError) → first_wrong whole (events_of rs) [] prefix ≡ o → first_wrong whole (events_of rs) [] prefix ≡ None
    go None is = is
    go (Some w) is =
        let f = found whole (events_of rs) [] prefix w is in
        let i : In f.event prefix = subst (In f.event) (sym f.split) (In-right f.event f.prefix (f.event ∷ f.back) (inl refl)) in
        absurd (wrong_not_right whole (events_of rs) f.prefix f.event w (is_wrong rs whole f.prefix f.event w (sub f.event i) f.here) (h f.prefix f.event f.back f.split))

pub passes_right : (rs : List Record) (whole : Bool) → first_wrong whole (events_of rs) [] (events_of rs) ≡ None → AreRight whole (events_of rs) (events_of rs)
passes_right rs whole h = prefix_right rs whole (events_of rs) (λ e i. i) h

pub right_passes : (rs : List Record) (whole : Bool) → AreRight whole (events_of rs) (events_of rs) → first_wrong whole (events_of rs) [] (events_of rs) ≡ None
right_passes rs whole h = right_prefix rs whole (events_of rs) (λ e i. i) h

pub first_meant : (rs : List Record) (whole : Bool) (w : OrderError) → first_wrong whole (events_of rs) [] (events_of rs) ≡ Some w → IsFirstWrong whole (events_of rs) w
first_meant rs whole w h =
    let all = events_of rs in
    let f = found whole all [] all w h in
    let i : In f.event all = subst (In f.event) (sym f.split) (In-right f.event f.prefix (f.event ∷ f.back) (inl refl)) in
    (f.prefix, f.event, f.back, f.split, prefix_right rs whole f.prefix (λ e j. subst (In e) (sym f.split) (In-left e f.prefix (f.event ∷ f.back) j)) f.none, is_wrong rs whole f.prefix f.event w i f.here)

pub meant_first : (rs : List Record) (whole : Bool) (w : OrderError) → IsFirstWrong whole (events_of rs) w → first_wrong whole (events_of rs) [] (events_of rs) ≡ Some w
meant_first rs whole w (before, e, after, split, right, here) =
    let all = events_of rs in
    let i : In e all = subst (In e) (sym split) (In-right e before (e ∷ after) (inl refl)) in
    let none = right_prefix rs whole before (λ f j. subst (In f) (sym split) (In-left f before (e ∷ after) j)) right in
    ap (first_wrong whole all []) split ∙ first_wrong-append whole all [] before (e ∷ after) ∙ ap (λ (o : Option OrderError). or_else o (first_wrong whole all before (e ∷ after))) none
    ∙ ap (λ (o : Option OrderError). or_else o (first_wrong whole all (before ++ e ∷ []) after)) (go i (wrong whole all before e) refl)
  where
    go : In e (events_of rs) → (o : Option OrderError) → wrong whole (events_of rs) before e ≡ o → wrong whole (events_of rs) before e ≡ Some w
    go i None is = absurd (wrong_not_right whole (events_of rs) before e w here (is_right rs whole before e i is))
    go i (Some v) is = is ∙ ap (λ (x : OrderError). Some x) (wrong_one whole (events_of rs) before e v w (is_wrong rs whole before e v i is) here)

-- what an answer says

pub answered : {X : Type 0} (r : Result X OrderError) (w : Option OrderError) (x : OrderError) → Answers r w → r ≡ Err x → x ≢ Memory → w ≡ Some x
answered (Ok y) w x a e n = absurd cc
answered (Err Memory) w x a e n = absurd (n (let z : Memory ≡ x = cc in sym z))
answered (Err (Twice y)) w x a e n = a ∙ cc
answered (Err (Missing y)) w x a e n = a ∙ cc
answered (Err (Clock y)) w x a e n = a ∙ cc

pub refused_only : (X : Type 0) (r : OrderError) (w : Option OrderError) → Answers {X = X} (Err r) w → w ≡ None → r ≡ Memory
refused_only X Memory w a e = refl
refused_only X (Twice y) w a e = absurd cc
refused_only X (Missing y) w a e = absurd cc
refused_only X (Clock y) w a e = absurd cc

pub refused_as : (X : Type 0) (r : OrderError) (w : Option OrderError) (x : OrderError) → Answers {X = X} (Err r) w → w ≡ Some x → (r ≡ x) ⊎ (r ≡ Memory)
refused_as X Memory w x a e = inr refl
refused_as X (Twice y) w x a e = inl cc
refused_as X (Missing y) w x a e = inl cc
refused_as X (Clock y) w x a e = inl cc

pub same_err : {X : Type 0} (r : Result X OrderError) (a b : OrderError) → r ≡ Err a → r ≡ Err b → a ≡ b
same_err (Ok x) a b p q = absurd cc
same_err (Err e) a b p q = cc

pub err_to : {X : Type 0} (r : Result X OrderError) (a b : OrderError) → r ≡ Err a → a ≡ b → r ≡ Err b
err_to r a b p e = subst (λ (y : OrderError). r ≡ Err y) e p

pub answered_as : (X : Type 0) (x : OrderError) (w : Option OrderError) (z : OrderError) → Answers {X = X} (Err x) w → x ≡ z → z ≢ Memory → w ≡ Some z
answered_as X x w z a e ne = answered {X = X} (Err x) w x a refl (λ m. ne (sym e ∙ m)) ∙ ap (λ (y : OrderError). Some y) e
