-- Ranges that are read, one after the other.
use Rattle.std.proofs.Common.{◌≡◌, ℕ, suc, ◌+◌, ◌<◌, ◌≤◌, true, false, ◌||◌, List, [], ◌∷◌, ◌++◌, length, get_or, take, drop, sym, ap, ◌∙◌, arith, append_assoc}
use Rattle.std.proofs.lemmas.List.{append-nil, take_more, take_all}
use Rattle.std.proofs.lemmas.List.Elements.{All-get_or, All-nil, All-cons}
use Rattle.std.proofs.Math.Seq.{drop-cons}
use Rattle.run_events.specs.declared.key.Key.{Key}
use Rattle.marks.specs.declared.range.Range.{Range}
use Rattle.marks.specs.Marks.{Mark}
use Rattle.logical_clock.specs.Events.{is_among}
use Rattle.replay_runs.specs.Runs.{Start, same_key}
use Rattle.replay_runs.specs.Checks.{Done}
use Rattle.replay_runs.specs.Passing.{AllMayRead}
use Rattle.replay_runs.proofs.Passing.{read_from}
use Rattle.space_memory_bytes.specs.Areas.{AreaState}
use Rattle.space_memory_access.specs.declared.access.Access.{Access}
use Rattle.space_memory_access.specs.declared.holder.Region.{Region}
use Rattle.space_memory_access.specs.declared.refusal.Refusal.{Refusal}
use Rattle.space_memory_access.specs.declared.refusal.Refusal.TheVariants.{NotLive, Pending, OtherSpace, ReadOnly, StackFull, KeyInUse, NoKey, Size}
use Rattle.space_memory_access.specs.Accesses.{IsAllowed, IsRefused}
use Rattle.space_memory.specs.Spaces.{SpaceState}
use Rattle.space_memory_laws.specs.StandsFor.{StandsFor}
use Rattle.space_memory_laws.proofs.Refusals.{findings}
use Rattle.recorder_calls.specs.Reading.{AllMayBeRead, MayBeRead, read_in, shown_in}

-- what is allowed isn't refused
pub unread : (bytes : List AreaState) (regions : List Region) (a : Access) (r : Refusal) → IsAllowed bytes regions a → IsRefused bytes regions a r → ⊥
unread bytes regions a (OtherSpace x) ok bad = ok.own x bad.in_range bad.holds
unread bytes regions a (NotLive x) ok bad = ok.live x bad.1.in_range bad.1.holds
unread bytes regions a (Pending x) ok bad = ok.free x bad.2.in_range bad.2.holds
unread bytes regions a (ReadOnly x) ok bad = ok.writable x bad.3.in_range bad.3.holds
unread bytes regions a (StackFull x) ok bad = bad
unread bytes regions a (KeyInUse x) ok bad = bad
unread bytes regions a (NoKey x) ok bad = bad
unread bytes regions a (Size x) ok bad = bad

read_push : (bytes : List AreaState) (rs : List Range) (r : Range) → read_in bytes (rs ++ r ∷ []) ≡ read_in bytes rs ++ shown_in bytes r
read_push bytes [] r = append-nil (shown_in bytes r)
read_push bytes (q ∷ rs) r = ap (λ bs. shown_in bytes q ++ bs) (read_push bytes rs r) ∙ sym (append_assoc (shown_in bytes q) (read_in bytes rs) (shown_in bytes r))

pub read_more : (memory : SpaceState) (t : ℕ) (rs : List Range) (i : ℕ) (d : Range) (old new : List ℕ) → i < length rs → (AllMayBeRead memory t rs → old ≡ read_in memory.bytes (take i rs)) → (MayBeRead memory t (get_or rs i d) → new ≡ old ++ shown_in memory.bytes (get_or rs i d)) → AllMayBeRead memory t rs → new ≡ read_in memory.bytes (take (i + 1) rs)
read_more memory t rs i d old new lt before one all =
    one (All-get_or (MayBeRead memory t) rs i d lt all) ∙ (ap (λ bs. bs ++ shown_in memory.bytes (get_or rs i d)) (before all)
    ∙ (sym (read_push memory.bytes (take i rs) (get_or rs i d)) ∙ ap (read_in memory.bytes) (sym (take_more rs i d lt))))

pub read_whole : (memory : SpaceState) (t : ℕ) (rs : List Range) (i : ℕ) (bytes : List ℕ) → length rs ≤ i → (AllMayBeRead memory t rs → bytes ≡ read_in memory.bytes (take i rs)) → AllMayBeRead memory t rs → bytes ≡ read_in memory.bytes rs
read_whole memory t rs i bytes le read all = read all ∙ ap (read_in memory.bytes) (take_all i rs le)

-- ---- a key among others

pub among_next : (keys : List Key) (k : Key) (i : ℕ) (d : Key) → i < length keys → same_key (get_or keys i d) k ≡ false → is_among (drop i keys) k ≡ is_among (drop (i + 1) keys) k
among_next keys k i d lt e = ap (λ ks. is_among ks k) (drop-cons keys i d lt) ∙ (ap (λ b. b || is_among (drop (suc i) keys) k) e ∙ ap (λ n. is_among (drop n keys) k) (let on : suc i ≡ i + 1 = omega arith in on))

pub among_here : (keys : List Key) (k : Key) (i : ℕ) (d : Key) → i < length keys → same_key (get_or keys i d) k ≡ true → is_among (drop i keys) k ≡ true
among_here keys k i d lt e = ap (λ ks. is_among ks k) (drop-cons keys i d lt) ∙ ap (λ b. b || is_among (drop (suc i) keys) k) e

-- ---- ranges that a run may read

pub may_be_read : (s : Start) (past : List Mark) (memory : SpaceState) (t : ℕ) (rs : List Range) → StandsFor s past memory → AllMayRead s past t rs → AllMayBeRead memory t rs
may_be_read s past memory t [] h all = All-nil (MayBeRead memory t)
may_be_read s past memory t (r ∷ rs) h all = All-cons (MayBeRead memory t) r rs
    (λ small. (findings s past memory t r.addr r.len false h small all.0.unraced).passes.0 (read_from s past t r Done all.0 tt))
    (may_be_read s past memory t rs h all.1)
