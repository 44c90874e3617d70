-- The event before one in its thread is always in the file, so a missing predecessor is a key's.
use Rattle.std.proofs.Common.{◌≡◌, ℕ, ◌+◌, ◌-◌, ◌<◌, ◌≤◌, Bool, true, false, cond, List, [], ◌∷◌, ◌++◌, inl, ⊎_elim, refl, sym, ap, ◌∙◌, subst, arith, append_assoc, append-nil}
use Rattle.std.specs.Prelude.{eqb}
use Rattle.std.proofs.lemmas.Bool.{cases_lt, eqb-true}
use Rattle.run_events.specs.declared.event.Record.{Record}
use Rattle.log_closure.specs.declared.tie.Tie.{Tie}
use Rattle.log_closure.specs.Events.{In, LogEvent, event_of, events_of, of_thread}
use Rattle.log_closure.specs.Ties.{earlier, thread_tie}
use Rattle.log_closure.proofs.Numbers.{events_after-append, index_below, of_thread_more}
use Rattle.log_closure.proofs.Union.{In-left, In-right}

abbrev tie_of : ℕ → ℕ → Tie
tie_of t n = record { class = 0; value = t; number = n }

-- an event of these records has each number below the thread's count
abbrev Has : List Record → Type 0
Has rs = (t n : ℕ) → n < of_thread t rs → (e : LogEvent) × In e (events_of rs) × (thread_tie e ≡ tie_of t n)

has_more : (acc : List Record) (r : Record) → Has acc → Has (acc ++ r ∷ [])
has_more acc r h t n lt =
    ⊎_elim
    (λ old. let (e, i, is) = h t n old in (e, subst (In e) (sym (events_after-append [] acc r)) (In-left e (events_of acc) (event_of acc r ∷ []) i), is))
    (λ ge. go (eqb r.thread t) refl ge)
    (cases_lt n (of_thread t acc))
  where
    go : (b : Bool) → eqb r.thread t ≡ b → of_thread t acc ≤ n → (e : LogEvent) × In e (events_of (acc ++ r ∷ [])) × (thread_tie e ≡ tie_of t n)
    go true q ge =
        let m = of_thread_more t acc r ∙ ap (λ (b : Bool). of_thread t acc + cond b 1 0) q in
        let k : of_thread t acc ≡ n = omega (arith, m, lt, ge) in
        let th : r.thread ≡ t = eqb-true r.thread t q in (
          event_of acc r,
          subst (In (event_of acc r)) (sym (events_after-append [] acc r)) (In-right (event_of acc r) (events_of acc) (event_of acc r ∷ []) (inl refl)),
          (λ j. tie_of (th j) (of_thread (th j) acc)) ∙ ap (tie_of t) k,
        )
    go false q ge = let m = of_thread_more t acc r ∙ ap (λ (b : Bool). of_thread t acc + cond b 1 0) q in absurd (omega (arith, m, lt, ge))

has_all : (acc rs : List Record) → Has acc → Has (acc ++ rs)
has_all acc [] h = subst Has (sym (append-nil acc)) h
has_all acc (r ∷ rs) h = subst Has (append_assoc acc (r ∷ []) rs) (has_all (acc ++ r ∷ []) rs (has_more acc r h))

pub thread_kept : (rs : List Record) (e : LogEvent) → In e (events_of rs) → 0 < e.name.index → (f : LogEvent) × In f (events_of rs) × (thread_tie f ≡ earlier (thread_tie e))
thread_kept rs e i pos =
    let below = index_below [] rs e i in
    has_all [] rs (λ t n lt. absurd (omega arith)) e.name.thread (e.name.index - 1) (omega (arith, below))
