-- A Call, whose parts are added one after the other.
use Rattle.std.proofs.Common.{◌≡◌, ℕ, ◌+◌, ◌-◌, ◌^◌, ◌<◌, ◌≤◌, Bool, true, false, cond, ◌||◌, eqb, List, [], ◌∷◌, ◌++◌, map, length, get_or, take, All, append_assoc, Option, Some, None, inl, inr, ⊎_elim, refl, ap, sym, ◌∙◌, subst, arith, eqb-true, get_or-set_same}
use Rattle.std.specs.Prelude.{slice_index, slice_set}
use Rattle.std.specs.List.{list_any}
use Rattle.std.proofs.lemmas.List.Folds.{list_any-append}
use Rattle.std.proofs.lemmas.Bool.{cases_Bool, cases_lt, cond-true, cond-false, or_cases, or_parts, true≢false}
use Rattle.std.proofs.lemmas.List.{append-nil, map-append, take_all, take_more}
use Rattle.std.proofs.lemmas.List.Elements.{All-cons, All-nil}
use Rattle.run_events.specs.declared.key.Class.TheVariants.{Async, Callback}
use Rattle.marks.specs.Places.{thread_count, is_system}
use Rattle.marks.specs.declared.range.Range.{Range}
use Rattle.marks.specs.Ranges.{Piece, Prepared, any_piece, any_prepared, any_range, covers, piece_ranges}
use Rattle.marks.specs.Marks.{Call, Event, Made, Mark}
use Rattle.marks.specs.Bytes.{Asks, Cell, Dead, Held, Live, EventAsks, IsLive, Shows, cell_after, event_leaves, event_reads, event_writes, hold, touches, writes}
use Rattle.space_memory_bytes.specs.Areas.{byte_at}
use Rattle.space_memory_bytes.specs.Numbers.{HasBytes}
use Rattle.space_memory_access.specs.declared.holder.Holder.TheVariants.{Key}
use Rattle.space_memory_access.specs.declared.refusal.Refusal.{Refusal}
use Rattle.space_memory_access.specs.Accesses.{IsAllowed}
use Rattle.space_memory_access.specs.Held.{HeldState, innermost, prepared_region}
use Rattle.replay_runs.specs.Runs.{OfKey, Start, byte, has, is_listed, keys_of, marks_of, new_events}
use Rattle.replay_runs.specs.Keys.{key, keys_for, sorted_keys}
use Rattle.replay_runs.specs.Pool.{prepares_key}
use Rattle.replay_runs.specs.Rules.{AreWhole, Carries, EventCarries, HasKeys, SharedAct, SharedEvent}
use Rattle.replay_runs.proofs.Holding.{shown_live}
use Rattle.replay_runs.proofs.Keys.{any_right, listed_of}
use Rattle.replay_runs.proofs.Stops.{any_prepares}
use Rattle.space_memory.specs.Cells.{is_held}
use Rattle.space_memory.specs.Spaces.{SpaceState}
use Rattle.space_memory.specs.Held.{AddsRegion, IsPrepareRefused, holder_of, region_access, region_range}
use Rattle.space_memory_laws.specs.Shown.{cell_of, value_when_held}
use Rattle.space_memory_laws.specs.Calls.{Holds, InCall, IsShown, Part, Prepares, Reads, held_part, parts_of, prepared_part}
use Rattle.space_memory_laws.specs.StandsFor.{StandsFor}
use Rattle.space_memory_laws.proofs.CallRules.{any_both, call_made}
use Rattle.space_memory_laws.proofs.Calls.{no_region}
use Rattle.space_memory_laws.proofs.Cells.{covered}
use Rattle.space_memory_laws.proofs.Parts.{held_range, opened, prepared_range}
use Rattle.reference_recorder_spaces.specs.Next.{Adds, AreFree, IsNext, IsNextPart, IsRegion, IsUntouched, has_byte, writes_byte}
use Rattle.reference_recorder_spaces.proofs.Allowed.{not_dead, not_pending}
use Rattle.reference_recorder_spaces.proofs.Parts.{all_free, next_after, next_first, reads_apart, reads_take, reads_write, written, written_apart, written_has, written_takes, written_write}
use Rattle.reference_recorder_spaces.proofs.Same.{plain_is}
use Rattle.reference_recorder_spaces.proofs.Untouched.{held_byte, untouched_if}

-- ---- one part more

pub holds_one : (t : ℕ) (old new : SpaceState) (r : Range) (write : Bool) → r.addr < 2 ^ 64 → IsRegion r →
    AddsRegion old.bytes (region_range r) (holder_of write (innermost old.held t)) old.held new.held → new ≡ record old { held = new.held } →
    IsAllowed old.bytes old.held.regions (region_access t r write) → Adds t (held_part write r ∷ []) old new
holds_one t old new r write small region adds rest ok = λ s past base parts h. held_range s past base old new t parts r r h small region rest write adds ok

pub prepares_one : (t k : ℕ) (old new : SpaceState) (r : Range) → r.addr < 2 ^ 64 → IsRegion r →
    AddsRegion old.bytes (region_range r) (Key k (Some (innermost old.held t))) old.held new.held → new ≡ record old { held = new.held } →
    IsAllowed old.bytes old.held.regions (region_access t r true) →
    ((f : Refusal) → IsPrepareRefused old.bytes old.held.regions (region_access t r true) k f → ⊥) → Adds t (Prepares k r ∷ []) old new
prepares_one t k old new r small region adds rest ok free = λ s past base parts h. prepared_range s past base old new t parts r r h small region rest k adds ok free

pub adds_none : (t : ℕ) (old : SpaceState) → Adds t [] old old
adds_none t old = λ s past base parts h. subst (λ ps. InCall s past t ps base old) (sym (append-nil parts)) h

pub adds_next : {A : Type 0} (t : ℕ) (part : A → Part) (xs : List A) (i : ℕ) (d : A) (old mid new : SpaceState) → i < length xs →
    Adds t (map part (take i xs)) old mid → Adds t (part (get_or xs i d) ∷ []) mid new → Adds t (map part (take (i + 1) xs)) old new
adds_next t part xs i d old mid new lt first then' = λ s past base parts h.
    subst (λ ps. InCall s past t ps base new)
    (append_assoc parts (map part (take i xs)) (part (get_or xs i d) ∷ [])
    ∙ ap (λ ps. parts ++ ps) (sym (ap (map part) (take_more xs i d lt) ∙ map-append part (take i xs) (get_or xs i d ∷ []))))
    (then' s past base (parts ++ map part (take i xs)) (first s past base parts h))

pub adds_item : {A : Type 0} (t : ℕ) (part : A → Part) (xs : List A) (i : ℕ) (x : A) (old mid new : SpaceState) → i < length xs → x ≡ get_or xs i x →
    Adds t (map part (take i xs)) old mid → Adds t (part x ∷ []) mid new → Adds t (map part (take (i + 1) xs)) old new
adds_item t part xs i x old mid new lt is first then' = adds_next t part xs i x old mid new lt first (subst (λ y. Adds t (part y ∷ []) mid new) is then')

-- the part of an element is this one
pub adds_as : (t : ℕ) (p q : Part) (old new : SpaceState) → q ≡ p → Adds t (q ∷ []) old new → Adds t (p ∷ []) old new
adds_as t p q old new e h = subst (λ r. Adds t (r ∷ []) old new) e h

pub adds_all : {A : Type 0} (t : ℕ) (part : A → Part) (xs : List A) (i : ℕ) (old new : SpaceState) → length xs ≤ i →
    Adds t (map part (take i xs)) old new → Adds t (map part xs) old new
adds_all t part xs i old new le h = subst (λ ys. Adds t (map part ys) old new) (take_all i xs le) h

-- ---- regions

-- no object lies at address 0
pub null_dead : (s : Start) (past : List Mark) (memory : SpaceState) → StandsFor s past memory → (byte s 0 past).cell ≡ Dead
null_dead s past memory h = h.bytes 0 refl ∙ ap (λ b. cell_of b (value_when_held memory.held.regions 0)) (h.sound.inside 0 refl refl refl)

region_if : (r : Range) → (covers r 0 ≡ true → ⊥) → IsRegion r
region_if r out = elim (cases_Bool (eqb r.addr 0)) [
  | inl is ↦
      let at : r.addr ≡ 0 = eqb-true r.addr 0 is in
      let none : r.len ≡ 0 = elim (cases_lt 0 r.len) [ inl some ↦ absurd (out (covered r 0 (omega (arith, at)) (omega (arith, at, some)))) | inr le ↦ omega (arith, le) ] in
      cond-true (eqb r.addr 0) (record { addr = 0; len = 0 }) r is ∙ (λ i. record { addr = sym at i; len = sym none i })
  | inr not ↦ cond-false (eqb r.addr 0) (record { addr = 0; len = 0 }) r not
]

pub all_regions : (rs : List Range) → any_range rs 0 ≡ false → All IsRegion rs
all_regions [] e = All-nil IsRegion
all_regions (r ∷ rs) e =
    let p = or_parts (covers r 0) (any_range rs 0) e in
    All-cons IsRegion r rs (region_if r (λ c. true≢false (sym c ∙ p.0))) (all_regions rs p.1)

pub all_pieces : (ps : List Piece) → any_piece ps 0 ≡ false → All (λ (p : Piece). IsRegion p.range) ps
all_pieces [] e = All-nil (λ (p : Piece). IsRegion p.range)
all_pieces (p ∷ ps) e =
    let q = or_parts (covers p.range 0) (any_piece ps 0) e in
    All-cons (λ (p : Piece). IsRegion p.range) p ps (region_if p.range (λ c. true≢false (sym c ∙ q.0))) (all_pieces ps q.1)

pub all_prepared : (ps : List Prepared) → any_prepared ps 0 ≡ false → All (λ (p : Prepared). IsRegion p.range) ps
all_prepared [] e = All-nil (λ (p : Prepared). IsRegion p.range)
all_prepared (p ∷ ps) e =
    let q = or_parts (covers p.range 0) (any_prepared ps 0) e in
    All-cons (λ (p : Prepared). IsRegion p.range) p ps (region_if p.range (λ c. true≢false (sym c ∙ q.0))) (all_prepared ps q.1)

-- ---- the Call

no_live : (b : Bool) → (b ≡ true → ⊥) → b ≡ false
no_live true h = absurd (h refl)
no_live false h = refl

live_is : (b : Option ℕ) (held : Option ℕ) (v : ℕ) → cell_of b held ≡ Live v → b ≡ Some v
live_is None held v e = absurd cc
live_is (Some b) None v e = let p : b ≡ v = cc in ap (λ x. Some x) p
live_is (Some b) (Some w) v e = absurd cc

module _ (old : SpaceState) (t func : ℕ) (args : List ℕ) (ins : List Piece) (outs : List Range) (prepared : List Prepared) (e : Event) (kind : e.kind ≡ Call func args ins outs prepared)
    (n : IsNext old t (Made e)) where
  abbrev mine : List Mark
  mine = marks_of n.start n.mark.thread n.past

  made : n.mark.act ≡ Made e
  made = plain_is n.mark.act (Made e) n.same tt

  asks : (x : ℕ) → EventAsks (Call func args ins outs prepared) x (byte n.start x n.past)
  asks x = subst (λ k. EventAsks k x (byte n.start x n.past)) kind (subst (λ a. Asks a (λ x. byte n.start x n.past)) made n.allowed.bytes x)

  carries : EventCarries n.program.interface n.start n.mark.thread mine (Call func args ins outs prepared)
  carries = subst (EventCarries n.program.interface n.start n.mark.thread mine) kind
      (subst (Carries n.program.interface n.start n.mark.thread mine (n.program.want n.mark.thread mine)) made n.allowed.own.carries)

  none_dead : IsLive (byte n.start 0 n.past).cell → ⊥
  none_dead live = subst IsLive (null_dead n.start n.past old n.stands) live

  null_read : any_piece ins 0 ≡ false
  null_read = no_live (any_piece ins 0) (λ z. none_dead (shown_live ins 0 (byte n.start 0 n.past).cell z (asks 0).0))

  null_written : (any_range outs 0 || any_prepared prepared 0) ≡ false
  null_written = no_live (any_range outs 0 || any_prepared prepared 0) (λ z. none_dead ((asks 0).1 z))

  pub reads_regions : All (λ (p : Piece). IsRegion p.range) ins
  reads_regions = all_pieces ins null_read

  pub holds_regions : All IsRegion outs
  holds_regions = all_regions outs (or_parts (any_range outs 0) (any_prepared prepared 0) null_written).0

  pub prepares_regions : All (λ (p : Prepared). IsRegion p.range) prepared
  prepares_regions = all_prepared prepared (or_parts (any_range outs 0) (any_prepared prepared 0) null_written).1

  own_read : (x : ℕ) → any_piece ins x ≡ true → is_system x ≡ false
  own_read x z = n.allowed.own.other_space x (ap (λ a. touches a x) made ∙ ap (λ k. event_reads k x || event_writes k x) kind ∙ ap (λ b. b || event_writes (Call func args ins outs prepared) x) z)

  -- each piece has the bytes of memory
  shown : (ps : List Piece) → AreWhole ps → ((x : ℕ) → Shows ps x (byte n.start x n.past).cell) → ((x : ℕ) → any_piece ps x ≡ true → is_system x ≡ false) → All (IsShown old.bytes) ps
  shown [] whole shows own = All-nil (IsShown old.bytes)
  shown (p ∷ ps) whole shows own = All-cons (IsShown old.bytes) p ps
      (record { whole = whole.0; bytes_are = has })
      (shown ps whole.1 (λ x. (shows x).1) (λ x z. own x (or_true (covers p.range x) z)))
    where
      or_true : (a : Bool) {b : Bool} → b ≡ true → (a || b) ≡ true
      or_true true e = refl
      or_true false e = e

      has : HasBytes old.bytes p.range.addr p.bytes
      has i lt =
          let x = p.range.addr + i in
          let c : covers p.range x ≡ true = covered p.range x (omega arith) (omega (arith, lt, whole.0)) in
          let at : x - p.range.addr ≡ i = omega arith in
          live_is (byte_at old.bytes x) (value_when_held old.held.regions x) (slice_index p.bytes i)
          (sym (n.stands.bytes x (own x (ap (λ b. b || any_piece ps x) c))) ∙ (shows x).0 c ∙ ap (λ j. Live (get_or p.bytes j 0)) at)

  keyed : (k : ℕ) → prepares_key prepared k ≡ true → has n.mark (OfKey (key Async k)) ≡ true
  keyed k z =
      let i = n.program.interface in
      ap (λ a. is_listed (keys_of a) (key Async k)) made
      ∙ listed_of e.keys (i.keys_at_call func args ++ (map (key Callback) (i.registers func args) ++ map (λ p. key Async p.key) prepared)) (key Async k)
      (subst (λ a. HasKeys i n.mark.thread mine a) made n.allowed.own.keys ∙ ap (λ q. sorted_keys (keys_for i n.mark.thread mine q)) kind)
      (any_right (i.keys_at_call func args) _ (key Async k) (any_right (map (key Callback) (i.registers func args)) _ (key Async k) (any_prepares prepared k z)))

  -- each of its parts may be added
  in_use_none : (k : ℕ) → prepares_key prepared k ≡ true → prepared_region old.held.regions k ≡ None
  in_use_none k z =
      let i = n.program.interface in
      let rule = subst (SharedEvent i n.start Async k (new_events (OfKey (key Async k)) n.past)) kind
      (subst (SharedAct i n.start (key Async k) (new_events (OfKey (key Async k)) n.past)) made (n.allowed.shared (OfKey (key Async k)) (keyed k z))) in
      no_region (prepared_region old.held.regions k) (n.stands.keys k ∙ rule z)

  abbrev ws : List Part
  ws = written outs prepared

  abbrev parts : List Part
  parts = map (λ (p : Piece). Reads p.range) ins ++ ws

  written_so : (x : ℕ) → list_any (writes_byte x) parts ≡ true → (any_range outs x || any_prepared prepared x) ≡ true
  written_so x c = sym (any_both outs prepared x) ∙ sym (written_write outs prepared x) ∙ sym (reads_write (λ (p : Piece). p.range) ins ws x) ∙ c

  reads_has : (ps : List Piece) (x : ℕ) → list_any (has_byte x) (map (λ (p : Piece). Reads p.range) ps) ≡ any_piece ps x
  reads_has [] x = refl
  reads_has (p ∷ ps) x = ap (λ b. covers p.range x || b) (reads_has ps x)

  has_so : (x : ℕ) → list_any (has_byte x) parts ≡ (any_piece ins x || (any_range outs x || any_prepared prepared x))
  has_so x =
      list_any-append (has_byte x) (map (λ (p : Piece). Reads p.range) ins) ws
      ∙ (λ i. reads_has ins x i || (written_has outs prepared x ∙ any_both outs prepared x) i)

  touched : (x : ℕ) → touches n.mark.act x ≡ (any_piece ins x || (any_range outs x || any_prepared prepared x))
  touched x = ap (λ a. touches a x) made ∙ ap (λ k. event_reads k x || event_writes k x) kind

  live_part : (x : ℕ) → (any_piece ins x || (any_range outs x || any_prepared prepared x)) ≡ true → IsLive (byte n.start x n.past).cell
  live_part x c = ⊎_elim
      (λ z. shown_live ins x (byte n.start x n.past).cell z (asks x).0)
      (asks x).1
      (or_cases (any_piece ins x) (any_range outs x || any_prepared prepared x) c)

  free_parts : AreFree old parts
  free_parts = record {
    ranges = all_free old parts
        (λ x c.
        let z : (any_piece ins x || (any_range outs x || any_prepared prepared x)) ≡ true = sym (has_so x) ∙ c in
        let own = n.allowed.own.other_space x (touched x ∙ z) in
        record {
          own = own;
          live = not_dead n.start n.past old n.stands x own (live_part x z);
          free = no_live (is_held old.held.regions x) (not_pending n.start n.past old n.stands x own (live_part x z));
        })
        (λ x c. n.allowed.own.read_only x (ap (λ a. writes a x) made ∙ ap (λ k. event_writes k x) kind ∙ written_so x c));
    apart = reads_apart (λ (p : Piece). p.range) ins ws (written_apart outs prepared carries.4 carries.5);
    keys = λ k c. in_use_none k (sym (written_takes outs prepared k) ∙ sym (reads_take (λ (p : Piece). p.range) ins ws k) ∙ c);
  }

  -- a byte that is pending then is what it was
  as_held : (x v : ℕ) → is_system x ≡ false → cell_after n.mark.act x (byte n.start x n.past).cell ≡ Held v → byte_at old.bytes x ≡ Some v
  as_held x v own e = go (any_range outs x || any_prepared prepared x) (byte n.start x n.past).cell refl
      (sym (ap (λ a. cell_after a x (byte n.start x n.past).cell) made ∙ ap (λ k. event_leaves k x (byte n.start x n.past).cell) kind) ∙ e)
    where
      was_held : (c : Cell) → (byte n.start x n.past).cell ≡ c → c ≡ Held v → byte_at old.bytes x ≡ Some v
      was_held c is z = held_byte n.start n.past old n.stands n.untouched x v own (is ∙ z)

      go : (b : Bool) (c : Cell) → (byte n.start x n.past).cell ≡ c → cond b (hold c) c ≡ Held v → byte_at old.bytes x ≡ Some v
      go true Dead is z = was_held Dead is z
      go true (Live w) is z =
          let same : w ≡ v = cc in
          live_is (byte_at old.bytes x) (value_when_held old.held.regions x) v (sym (n.stands.bytes x own) ∙ is ∙ ap (λ u. Live u) same)
      go true (Held w) is z = was_held (Held w) is z
      go false c is z = was_held c is z

  module _ (small : t < thread_count) (begun : SpaceState) (held : begun.held ≡ record old.held { depths = slice_set old.held.depths t (slice_index old.held.depths t + 1) })
      (rest : begun ≡ record old { held = begun.held }) where
    in_call : InCall n.start n.past t [] old begun
    in_call = opened n.start n.past old begun t n.stands small held rest

    pub is_open : 1 ≤ slice_index begun.held.depths t
    is_open =
        let up : slice_index begun.held.depths t ≡ slice_index old.held.depths t + 1 =
        ap (λ (q : HeldState). slice_index q.depths t) held ∙ get_or-set_same old.held.depths t (slice_index old.held.depths t + 1) 0 (let k = n.stands.sound.held.threads in omega (arith, k, small)) in
        omega (arith, up)

    next_parts : IsNextPart t (map (λ (p : Piece). Reads p.range) ins ++ ws) begun
    next_parts = record { start = n.start; past = n.past; base = old; before = []; call = in_call; free = free_parts }

    pub next_reads : IsNextPart t (map (λ (p : Piece). Reads p.range) ins) begun
    next_reads = next_first t (map (λ (p : Piece). Reads p.range) ins) ws begun next_parts

    after_reads : (read : SpaceState) → Adds t (map (λ (p : Piece). Reads p.range) ins) begun read → IsNextPart t ws read
    after_reads read adds = next_after t (map (λ (p : Piece). Reads p.range) ins) ws begun read next_parts adds

    pub next_holds : (read : SpaceState) → Adds t (map (λ (p : Piece). Reads p.range) ins) begun read → IsNextPart t (map Holds outs) read
    next_holds read adds = next_first t (map Holds outs) (map prepared_part prepared) read (after_reads read adds)

    pub next_prepares : (read held : SpaceState) → Adds t (map (λ (p : Piece). Reads p.range) ins) begun read → Adds t (map Holds outs) read held → IsNextPart t (map prepared_part prepared) held
    next_prepares read held adds holds = next_after t (map Holds outs) (map prepared_part prepared) read held (after_reads read adds) holds

    pub calls : (read held prepares : SpaceState) → Adds t (map (λ (p : Piece). Reads p.range) ins) begun read → Adds t (map Holds outs) read held →
        Adds t (map prepared_part prepared) held prepares → StandsFor n.start (n.mark ∷ n.past) prepares × IsUntouched prepares
    calls read held prepares a b c =
        let s = n.start in
        let reads = map (λ (p : Piece). Reads p.range) ins in
        let whole = c s n.past old (reads ++ map Holds outs) (b s n.past old reads (a s n.past old [] in_call)) in
        let parts : (reads ++ map Holds outs) ++ map prepared_part prepared ≡ parts_of (piece_ranges ins) outs prepared = append_assoc reads (map Holds outs) (map prepared_part prepared) ∙ ap (λ ps. ps ++ (map Holds outs ++ map prepared_part prepared)) (read_parts ins) in
        let made' : InCall s n.past n.mark.thread (parts_of (piece_ranges ins) outs prepared) old prepares =
        subst (λ u. InCall s n.past u (parts_of (piece_ranges ins) outs prepared) old prepares) (sym n.of_thread) (subst (λ ps. InCall s n.past t ps old prepares) parts whole) in
        let stands = (call_made s n.past old prepares n.mark e func args ins outs prepared made' made kind (shown ins carries.1 (λ x. (asks x).0) own_read) keyed).mark.stands in
        (stands, untouched_if s (n.mark ∷ n.past) prepares stands (λ x v own e. ap (λ (q : SpaceState). byte_at q.bytes x) whole.rest ∙ as_held x v own e))
      where
        read_parts : (ps : List Piece) → map (λ (p : Piece). Reads p.range) ps ≡ map Reads (piece_ranges ps)
        read_parts [] = refl
        read_parts (p ∷ ps) = ap (λ qs. Reads p.range ∷ qs) (read_parts ps)
