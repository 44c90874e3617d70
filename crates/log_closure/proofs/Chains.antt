-- In a closed set of a file that fits, clocks are lengths of longest chains.
use Rattle.std.proofs.Common.{zero, suc, ◌≡◌, ℕ, ◌+◌, ◌<◌, ◌≤◌, List, [], ◌∷◌, Option, Some, None, inl, inr, ⊎_elim, refl, sym, ap, ◌∙◌, arith}
use Rattle.std.specs.Prelude.{max}
use Rattle.std.proofs.lemmas.Bool.{cases_lt}
use Rattle.log_closure.specs.declared.tie.Tie.{Tie}
use Rattle.causal_order.specs.Order.{Chain, begins, goes_on}
use Rattle.log_closure.specs.Chains.{IsClock}
use Rattle.log_closure.specs.Events.{In, LogEvent, numbered}
use Rattle.log_closure.specs.FirstWrong.{both, clock_at, greatest}
use Rattle.log_closure.specs.Growing.{HoldsBefore}
use Rattle.log_closure.specs.Ties.{listed, needs, ties, ties_of}
use Rattle.log_closure.proofs.Meaning.{follows_precedes, precedes_follows}
use Rattle.log_closure.proofs.Union.{Fits, all_in, greatest_some, owner, rises}

some_is : (a b : ℕ) → Some a ≡ Some b → a ≡ b
some_is a b e = cc

-- a greatest clock above 0 stands at one of the ties
pub reached : (at : Tie → Option ℕ) (ts : List Tie) (c : ℕ) → greatest at ts ≡ Some c → 0 < c → (t : Tie) × In t ts × (at t ≡ Some c)
reached at [] c e lt = let z = some_is 0 c e in absurd (omega (arith, z))
reached at (s ∷ ts) c e lt = reach_step (at s) (greatest at ts) refl e (λ y. reached at ts c y lt)
  where
    reach_step : (m n : Option ℕ) → at s ≡ m → both m n ≡ Some c → (n ≡ Some c → (t : Tie) × In t ts × (at t ≡ Some c)) → (t : Tie) × In t (s ∷ ts) × (at t ≡ Some c)
    reach_step None n p r rec = absurd cc
    reach_step (Some x) None p r rec = absurd cc
    reach_step (Some x) (Some y) p r rec =
        let z = some_is (max x y) c r in
        ⊎_elim (λ small. let k : x ≡ c = omega (arith, z) in (s, inl refl, p ∙ ap (λ (n : ℕ). Some n) k))
        (λ great. let k : y ≡ c = omega (arith, z) in let (t, j, f) = rec (ap (λ (n : ℕ). Some n) k) in (t, inr j, f))
        (cases_lt y c)

-- its greatest clock
the_greatest : (all set : List LogEvent) → Fits all → HoldsBefore all set → (e : LogEvent) → In e set → (c : ℕ) × (greatest (clock_at all) (needs (ties e)) ≡ Some c) × (e.entry.clock ≡ c + 1)
the_greatest all set fit h e i =
    let have : (s : Tie) → In s (needs (ties e)) → (c : ℕ) × (clock_at all s ≡ Some c) =
    λ s j. let v = owner set s (all_in (listed (ties_of set)) (needs (ties e)) (h e i).1 s j) in (v.event.entry.clock, fit.first v.event (h v.event v.among).0 s v.has) in
    let (c, g) = greatest_some (clock_at all) (needs (ties e)) have in
    (c, g, fit.clocks e (h e i).0 c g)

no_longer : (all set : List LogEvent) → Fits all → HoldsBefore all set → (n : ℕ) (e : LogEvent) → Chain numbered set n e → n ≤ e.entry.clock
no_longer all set fit h n e (begins i) = let (c, g, is) = the_greatest all set fit h e i in omega (arith, is)
no_longer all set fit h n f (goes_on {n = m} {e = e} chain d) =
    let i = d.f_in in
    let le = no_longer all set fit h m e chain in
    let w = precedes_follows set e f d in
    let o = owner set w.tie (all_in (listed (ties_of set)) (needs (ties f)) (h f i).1 w.tie w.needed) in
    let lt = rises all set fit h f i w.tie w.needed o in
    let a = fit.first e (among chain) w.tie w.had in
    let b = fit.first o.event (h o.event o.among).0 w.tie o.has in
    let z : e.entry.clock ≡ o.event.entry.clock = some_is e.entry.clock o.event.entry.clock (sym a ∙ b) in
    omega (arith, le, lt, z)
  where
    among : {k : ℕ} {g : LogEvent} → Chain numbered set k g → In g all
    among (begins {e = g} j) = (h g j).0
    among (goes_on {f = g} c v) = (h g v.f_in).0

as_long : (all set : List LogEvent) → Fits all → HoldsBefore all set → (n : ℕ) (e : LogEvent) → In e set → e.entry.clock ≡ n → Chain numbered set n e
as_long all set fit h zero e i eq = let (c, g, is) = the_greatest all set fit h e i in absurd (omega (arith, is, eq))
as_long all set fit h (suc zero) e i eq = begins i
as_long all set fit h (suc (suc m)) e i eq =
    let (c, g, is) = the_greatest all set fit h e i in
    let k : c ≡ suc m = omega (arith, is, eq) in
    let (t, j, f) = reached (clock_at all) (needs (ties e)) c g (omega (arith, k)) in
    let o = owner set t (all_in (listed (ties_of set)) (needs (ties e)) (h e i).1 t j) in
    let b = fit.first o.event (h o.event o.among).0 t o.has in
    let z : o.event.entry.clock ≡ suc m = some_is o.event.entry.clock c (sym b ∙ f) ∙ k in
    goes_on (as_long all set fit h (suc m) o.event o.among z) (follows_precedes set o.event e o.among i (record { tie = t; needed = j; had = o.has }))

pub is_clock : (all set : List LogEvent) → Fits all → HoldsBefore all set → (e : LogEvent) → In e set → IsClock set e
is_clock all set fit h e i = record { chain = as_long all set fit h e.entry.clock e i refl; most = λ n c. no_longer all set fit h n e c }
