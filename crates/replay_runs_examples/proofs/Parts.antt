-- Tests of the parts of the rules that are about lists and ranges.
use Rattle.std.proofs.Common.{◌≡◌, ℕ, Bool, true, false, ◌&&◌, not, cond, eqb, leb, List, [], ◌∷◌, ◌++◌, length, Option, Some, None, refl, sym, ap, subst, eqb-true}
use Rattle.std.proofs.lemmas.Bool.{leb-true, and_parts, true≢false}
use Rattle.run_events.specs.declared.key.Key.{Key}
use Rattle.marks.specs.declared.fault.FaultKind.{FaultKind}
use Rattle.marks.specs.declared.fault.FaultKind.TheVariants.{NotLive, ReadOnly}
use Rattle.marks.specs.Kinds.{fault_number}
use Rattle.marks.specs.Places.{is_constant}
use Rattle.marks.specs.declared.range.Range.{Range}
use Rattle.marks.specs.Ranges.{Piece, Prepared, any_range, are_bytes}
use Rattle.marks.specs.Marks.{Access, Reading, Writing, Commit, NoRegion, Withheld, Released}
use Rattle.marks.specs.Wants.{same_numbers}
use Rattle.replay_runs.specs.Runs.{same_key}
use Rattle.replay_runs.specs.Interface.{Committing}
use Rattle.replay_runs.specs.Threads.{OpenCall}
use Rattle.replay_runs.specs.Pool.{prepares_key}
use Rattle.replay_runs.specs.Rules.{Apart, DistinctKeys, AreWhole, IsUsed, AreUsed, CommitsUsed, Commits, Closes, ClosesUp, SomeConstant, StopsCall, AtIn, AtOut, AtConstant}
use Rattle.replay_runs.proofs.Keys.{same_key_true}
use Rattle.replay_runs.proofs.Replies.{same_numbers_true, kind_numbered}
use Rattle.replay_runs_examples.proofs.Bytes.{all_from, all_from_true, some_from, some_from_true}

-- equal things

abbrev pub same_bool : Bool → Bool → Bool
same_bool true b = b
same_bool false b = not b

pub same_bool_true : (a b : Bool) → same_bool a b ≡ true → a ≡ b
same_bool_true true b e = sym e
same_bool_true false true e = absurd cc
same_bool_true false false e = refl

abbrev pub same_ranges : List Range → List Range → Bool
same_ranges [] [] = true
same_ranges (r ∷ rs) (q ∷ qs) = (eqb r.addr q.addr && eqb r.len q.len) && same_ranges rs qs
same_ranges _ _ = false

pub same_ranges_true : (rs qs : List Range) → same_ranges rs qs ≡ true → rs ≡ qs
same_ranges_true [] [] e = refl
same_ranges_true [] (q ∷ qs) e = absurd cc
same_ranges_true (r ∷ rs) [] e = absurd cc
same_ranges_true (r ∷ rs) (q ∷ qs) e =
    let w = and_parts (eqb r.addr q.addr && eqb r.len q.len) (same_ranges rs qs) e in
    let u = and_parts (eqb r.addr q.addr) (eqb r.len q.len) w.0 in
    let a : r.addr ≡ q.addr = eqb-true _ _ u.0 in
    let b : r.len ≡ q.len = eqb-true _ _ u.1 in
    let t = same_ranges_true rs qs w.1 in
    λ i. record { addr = a i; len = b i } ∷ t i

abbrev pub same_prepared : List Prepared → List Prepared → Bool
same_prepared [] [] = true
same_prepared (r ∷ rs) (q ∷ qs) = (eqb r.key q.key && (eqb r.range.addr q.range.addr && eqb r.range.len q.range.len)) && same_prepared rs qs
same_prepared _ _ = false

pub same_prepared_true : (rs qs : List Prepared) → same_prepared rs qs ≡ true → rs ≡ qs
same_prepared_true [] [] e = refl
same_prepared_true [] (q ∷ qs) e = absurd cc
same_prepared_true (r ∷ rs) [] e = absurd cc
same_prepared_true (r ∷ rs) (q ∷ qs) e =
    let w = and_parts (eqb r.key q.key && (eqb r.range.addr q.range.addr && eqb r.range.len q.range.len)) (same_prepared rs qs) e in
    let v = and_parts (eqb r.key q.key) (eqb r.range.addr q.range.addr && eqb r.range.len q.range.len) w.0 in
    let u = and_parts (eqb r.range.addr q.range.addr) (eqb r.range.len q.range.len) v.1 in
    let k : r.key ≡ q.key = eqb-true _ _ v.0 in
    let a : r.range.addr ≡ q.range.addr = eqb-true _ _ u.0 in
    let b : r.range.len ≡ q.range.len = eqb-true _ _ u.1 in
    let t = same_prepared_true rs qs w.1 in
    λ i. record { key = k i; range = record { addr = a i; len = b i } } ∷ t i

abbrev pub same_keys : List Key → List Key → Bool
same_keys [] [] = true
same_keys (j ∷ js) (k ∷ ks) = same_key j k && same_keys js ks
same_keys _ _ = false

pub same_keys_true : (js ks : List Key) → same_keys js ks ≡ true → js ≡ ks
same_keys_true [] [] e = refl
same_keys_true [] (k ∷ ks) e = absurd cc
same_keys_true (j ∷ js) [] e = absurd cc
same_keys_true (j ∷ js) (k ∷ ks) e =
    let w = and_parts (same_key j k) (same_keys js ks) e in
    let h = same_key_true j k w.0 in
    let t = same_keys_true js ks w.1 in
    λ i. h i ∷ t i

abbrev pub same_fault : Option FaultKind → Option FaultKind → Bool
same_fault None None = true
same_fault (Some k) (Some l) = eqb (fault_number k) (fault_number l)
same_fault _ _ = false

pub same_fault_true : (o p : Option FaultKind) → same_fault o p ≡ true → o ≡ p
same_fault_true None None e = refl
same_fault_true None (Some l) e = absurd cc
same_fault_true (Some k) None e = absurd cc
same_fault_true (Some k) (Some l) e = ap Some (kind_numbered k l (eqb-true _ _ e))

abbrev pub same_range : Option Range → Option Range → Bool
same_range None None = true
same_range (Some r) (Some q) = eqb r.addr q.addr && eqb r.len q.len
same_range _ _ = false

pub same_range_true : (o p : Option Range) → same_range o p ≡ true → o ≡ p
same_range_true None None e = refl
same_range_true None (Some l) e = absurd cc
same_range_true (Some k) None e = absurd cc
same_range_true (Some r) (Some q) e =
    let u = and_parts (eqb r.addr q.addr) (eqb r.len q.len) e in
    let a : r.addr ≡ q.addr = eqb-true _ _ u.0 in
    let b : r.len ≡ q.len = eqb-true _ _ u.1 in
    λ i. Some (record { addr = a i; len = b i })

-- the parts of the rules

abbrev pub apart : List Range → Bool
apart [] = true
apart (r ∷ rs) = all_from (λ x. not (any_range rs x)) r.addr r.len && apart rs

pub not_true : (b : Bool) → not b ≡ true → b ≡ false
not_true true e = absurd cc
not_true false e = refl

pub apart_true : (rs : List Range) → apart rs ≡ true → Apart rs
apart_true [] h = tt
apart_true (r ∷ rs) h =
    let w = and_parts (all_from (λ x. not (any_range rs x)) r.addr r.len) (apart rs) h in
    (λ x e. not_true (any_range rs x) (all_from_true (λ x. not (any_range rs x)) r.addr r.len w.0 x e), apart_true rs w.1)

abbrev pub distinct : List Prepared → Bool
distinct [] = true
distinct (p ∷ ps) = not (prepares_key ps p.key) && distinct ps

pub distinct_true : (ps : List Prepared) → distinct ps ≡ true → DistinctKeys ps
distinct_true [] h = tt
distinct_true (p ∷ ps) h = let w = and_parts (not (prepares_key ps p.key)) (distinct ps) h in (not_true _ w.0, distinct_true ps w.1)

abbrev pub whole : List Piece → Bool
whole [] = true
whole (p ∷ ps) = eqb (length p.bytes) p.range.len && whole ps

pub whole_true : (ps : List Piece) → whole ps ≡ true → AreWhole ps
whole_true [] h = tt
whole_true (p ∷ ps) h = let w = and_parts (eqb (length p.bytes) p.range.len) (whole ps) h in (eqb-true _ _ w.0, whole_true ps w.1)

abbrev pub is_used : ℕ → Piece → Bool
is_used n p = eqb (length p.bytes) n && (leb n p.range.len && are_bytes p.bytes)

pub is_used_true : (n : ℕ) (p : Piece) → is_used n p ≡ true → IsUsed n p
is_used_true n p h =
    let w = and_parts (eqb (length p.bytes) n) (leb n p.range.len && are_bytes p.bytes) h in
    let u = and_parts (leb n p.range.len) (are_bytes p.bytes) w.1 in
    (eqb-true _ _ w.0, leb-true _ _ u.0, u.1)

abbrev pub are_used : List ℕ → List Piece → Bool
are_used [] [] = true
are_used (n ∷ ns) (p ∷ ps) = is_used n p && are_used ns ps
are_used _ _ = false

pub are_used_true : (ns : List ℕ) (ps : List Piece) → are_used ns ps ≡ true → AreUsed ns ps
are_used_true [] [] h = tt
are_used_true [] (p ∷ ps) h = absurd (true≢false (sym h))
are_used_true (n ∷ ns) [] h = absurd (true≢false (sym h))
are_used_true (n ∷ ns) (p ∷ ps) h = let w = and_parts (is_used n p) (are_used ns ps) h in (is_used_true n p w.0, are_used_true ns ps w.1)

abbrev pub used_commit : ℕ → Option ℕ → Commit → Bool
used_commit k None NoRegion = false
used_commit k None Withheld = true
used_commit k None (Released j p) = false
used_commit k (Some n) NoRegion = false
used_commit k (Some n) Withheld = false
used_commit k (Some n) (Released j p) = eqb j k && is_used (cond (eqb p.range.addr 0) 0 n) p

pub used_commit_true : (k : ℕ) (o : Option ℕ) (c : Commit) → used_commit k o c ≡ true → CommitsUsed k o c
used_commit_true k None Withheld h = refl
used_commit_true k None NoRegion h = absurd (true≢false (sym h))
used_commit_true k None (Released j p) h = absurd (true≢false (sym h))
used_commit_true k (Some n) (Released j p) h =
    let w = and_parts (eqb j k) (is_used (cond (eqb p.range.addr 0) 0 n) p) h in
    (eqb-true j k w.0, is_used_true (cond (eqb p.range.addr 0) 0 n) p w.1)
used_commit_true k (Some n) NoRegion h = absurd (true≢false (sym h))
used_commit_true k (Some n) Withheld h = absurd (true≢false (sym h))

abbrev pub commits : Option Committing → Commit → Bool
commits None NoRegion = true
commits None Withheld = false
commits None (Released j p) = false
commits (Some c) commit = used_commit c.key c.used commit

pub commits_true : (o : Option Committing) (c : Commit) → commits o c ≡ true → Commits o c
commits_true None NoRegion h = refl
commits_true None Withheld h = absurd (true≢false (sym h))
commits_true None (Released j p) h = absurd (true≢false (sym h))
commits_true (Some k) c h = used_commit_true k.key k.used c h

abbrev pub closes : List OpenCall → ℕ → List ℕ → List Range → Bool
closes [] f args outs = false
closes (c ∷ cs) f args outs = eqb f c.func && (same_numbers args c.args && same_ranges outs c.outs)

pub closes_true : (cs : List OpenCall) (f : ℕ) (args : List ℕ) (outs : List Range) → closes cs f args outs ≡ true → Closes cs f args outs
closes_true [] f args outs h = absurd (true≢false (sym h))
closes_true (c ∷ cs) f args outs h =
    let w = and_parts (eqb f c.func) (same_numbers args c.args && same_ranges outs c.outs) h in
    let u = and_parts (same_numbers args c.args) (same_ranges outs c.outs) w.1 in
    (eqb-true _ _ w.0, same_numbers_true _ _ u.0, same_ranges_true _ _ u.1)

abbrev pub closes_up : List ℕ → ℕ → Bool
closes_up [] f = false
closes_up (g ∷ fs) f = eqb f g

pub closes_up_true : (fs : List ℕ) (f : ℕ) → closes_up fs f ≡ true → ClosesUp fs f
closes_up_true [] f h = absurd (true≢false (sym h))
closes_up_true (g ∷ fs) f h = eqb-true _ _ h

-- the ranges tested before, and the one that stops a Call, begin the list
abbrev pub begins : List Range → Range → List Range → Bool
begins before r [] = false
begins [] r (q ∷ qs) = eqb r.addr q.addr && eqb r.len q.len
begins (b ∷ before) r (q ∷ qs) = (eqb b.addr q.addr && eqb b.len q.len) && begins before r qs

range_is : (r q : Range) → (eqb r.addr q.addr && eqb r.len q.len) ≡ true → r ≡ q
range_is r q e =
    let u = and_parts (eqb r.addr q.addr) (eqb r.len q.len) e in
    let a : r.addr ≡ q.addr = eqb-true _ _ u.0 in
    let b : r.len ≡ q.len = eqb-true _ _ u.1 in
    λ i. record { addr = a i; len = b i }

pub begins_true : (before : List Range) (r : Range) (qs : List Range) → begins before r qs ≡ true → (after : List Range) × (qs ≡ before ++ (r ∷ after))
begins_true before r [] h = absurd (true≢false (sym h))
begins_true [] r (q ∷ qs) h = let e = range_is r q h in (qs, λ i. sym e i ∷ qs)
begins_true (b ∷ before) r (q ∷ qs) h =
    let w = and_parts (eqb b.addr q.addr && eqb b.len q.len) (begins before r qs) h in
    let e = range_is b q w.0 in
    let u = begins_true before r qs w.1 in
    (u.0, λ i. sym e i ∷ u.1 i)

abbrev pub some_constant : Range → Bool
some_constant r = some_from is_constant r.addr r.len

pub some_constant_true : (r : Range) → some_constant r ≡ true → SomeConstant r
some_constant_true r h = some_from_true is_constant r.addr r.len h

abbrev pub no_range : List Range → Bool
no_range [] = true
no_range rs = false

-- a Call that a fault stops
abbrev pub stops : List Range → List Range → FaultKind → List Range → List Range → Access → Bool
stops ins outs NotLive is os (Reading r) = begins is r ins && no_range os
stops ins outs NotLive is os (Writing r) = same_ranges is ins && (begins os r outs && apart os)
stops ins outs ReadOnly is os (Writing r) = same_ranges is ins && (begins os r outs && (apart (r ∷ os) && some_constant r))
stops ins outs k is os a = false

pub stops_true : (ins outs : List Range) (k : FaultKind) (is os : List Range) (a : Access) → stops ins outs k is os a ≡ true → StopsCall ins outs k is os a
stops_true ins outs NotLive is [] (Reading r) h =
    let w = begins_true is r ins (and_parts (begins is r ins) true h).0 in
    AtIn is w.0 r w.1
stops_true ins outs NotLive is (o ∷ os) (Reading r) h = absurd (true≢false (sym (and_parts (begins is r ins) false h).1))
stops_true ins outs NotLive is os (Writing r) h =
    let a = and_parts (same_ranges is ins) (begins os r outs && apart os) h in
    let b = and_parts (begins os r outs) (apart os) a.1 in
    let w = begins_true os r outs b.0 in
    subst (λ z. StopsCall ins outs NotLive z os (Writing r)) (sym (same_ranges_true is ins a.0)) (AtOut os w.0 r w.1 (apart_true os b.1))
stops_true ins outs ReadOnly is os (Writing r) h =
    let a = and_parts (same_ranges is ins) (begins os r outs && (apart (r ∷ os) && some_constant r)) h in
    let b = and_parts (begins os r outs) (apart (r ∷ os) && some_constant r) a.1 in
    let c = and_parts (apart (r ∷ os)) (some_constant r) b.1 in
    let w = begins_true os r outs b.0 in
    subst (λ z. StopsCall ins outs ReadOnly z os (Writing r)) (sym (same_ranges_true is ins a.0)) (AtConstant os w.0 r w.1 (apart_true (r ∷ os) c.0) (some_constant_true r c.1))
stops_true ins outs k is os a h = absurd (true≢false (sym h))
