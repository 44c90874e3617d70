-- What the rules of runs ask of a Call holds of one that was made part by part.
use Rattle.std.proofs.Common.{◌≡◌, ℕ, ◌+◌, ◌-◌, Bool, true, false, cond, eqb, ◌||◌, List, [], ◌∷◌, ◌++◌, map, Some, None, inl, inr, refl, ap, sym, ◌∙◌, subst, arith, All}
use Rattle.std.specs.Prelude.{option_map}
use Rattle.std.specs.List.{list_any}
use Rattle.std.proofs.lemmas.Bool.{true≢false, eq-eqb, or_cases}
use Rattle.std.proofs.lemmas.List.Elements.{All-head, All-tail}
use Rattle.std.proofs.lemmas.List.Folds.{list_any-append}
use Rattle.run_events.specs.declared.key.Class.TheVariants.{Async}
use Rattle.marks.specs.declared.range.Range.{Range}
use Rattle.marks.specs.Ranges.{Piece, Prepared, covers, any_range, any_piece, any_prepared, piece_ranges, prepared_ranges}
use Rattle.marks.specs.Marks.{Call, Event, Made, Mark}
use Rattle.marks.specs.Bytes.{IsLive, Shows, EventAsks, Asks, touches, writes, reads, event_reads, event_writes}
use Rattle.space_memory_bytes.specs.Areas.{AreaState, byte_at}
use Rattle.space_memory_access.specs.declared.holder.OpenCall.{OpenCall}
use Rattle.space_memory_access.specs.declared.holder.Region.{Region}
use Rattle.space_memory_access.specs.declared.holder.Holder.{Holder}
use Rattle.space_memory_access.specs.Holders.{has_key}
use Rattle.space_memory_access.specs.Held.{innermost, prepared_region}
use Rattle.replay_runs.specs.Runs.{Start, OfKey, has, byte}
use Rattle.replay_runs.specs.Keys.{key}
use Rattle.replay_runs.specs.Pool.{prepares_key}
use Rattle.replay_runs.specs.Rules.{Apart, DistinctKeys}
use Rattle.replay_runs.specs.Passing.{NoneInUse}
use Rattle.space_memory.specs.Spaces.{SpaceState}
use Rattle.space_memory_laws.specs.Shown.{cell_of}
use Rattle.space_memory_laws.specs.Held.{AreApart, HaveOwnKeys}
use Rattle.space_memory_laws.specs.Calls.{Part, Reads, Holds, prepared_part, parts_of, HaveRegions, InCall, IsShown, IsCall}
use Rattle.space_memory_laws.proofs.Cells.{cover_parts, unheld}
use Rattle.space_memory_laws.proofs.Access.{live_cell}
use Rattle.space_memory_laws.proofs.Regions.{some_none}
use Rattle.space_memory_laws.proofs.Added.{has_byte, writes_byte, held_is, waits_as, reads_any, holds_any, prepares_any, written_any}
use Rattle.space_memory_laws.proofs.Calls.{free_at, written_is, writable_at, no_key, call_stands}

or_right' : (a b : Bool) → b ≡ true → (a || b) ≡ true
or_right' true b e = refl
or_right' false b e = e

or_left' : (a b : Bool) → a ≡ true → (a || b) ≡ true
or_left' true b e = refl
or_left' false b e = absurd (true≢false (sym e))

any_pieces : (ps : List Piece) (x : ℕ) → any_range (piece_ranges ps) x ≡ any_piece ps x
any_pieces [] x = refl
any_pieces (p ∷ ps) x = ap (λ b. covers p.range x || b) (any_pieces ps x)

-- regions that come later are apart among themselves
pub apart_of : (xs ys : List Region) → AreApart (xs ++ ys) → AreApart ys
apart_of [] ys h = h
apart_of (x ∷ xs) ys h = apart_of xs ys h.1

pub keys_of : (xs ys : List Region) → HaveOwnKeys (xs ++ ys) → HaveOwnKeys ys
keys_of [] ys h = h
keys_of (x ∷ xs) ys h = keys_of xs ys h.1

pub any_both : (outs : List Range) (prepared : List Prepared) (x : ℕ) → any_range (outs ++ prepared_ranges prepared) x ≡ (any_range outs x || any_prepared prepared x)
any_both [] [] x = refl
any_both [] (p ∷ ps) x = ap (λ b. covers p.range x || b) (any_both [] ps x)
any_both (r ∷ rs) ps x = ap (λ b. covers r x || b) (any_both rs ps x) ∙ assoc (covers r x) (any_range rs x) (any_prepared ps x)
  where
    assoc : (a b c : Bool) → (a || (b || c)) ≡ ((a || b) || c)
    assoc true b c = refl
    assoc false b c = refl

module _ (bytes : List AreaState) (call : OpenCall) where
  -- the ranges of parts that are written don't meet
  pub prepared_apart : (prepared : List Prepared) (rs : List Region) → HaveRegions bytes call (map prepared_part prepared) rs → AreApart rs → Apart (prepared_ranges prepared)
  prepared_apart [] [] h apart = tt
  prepared_apart (p ∷ ps) (r ∷ rs) h apart = (
    (λ x in'. any_both [] ps x ∙ sym (prepares_any ps x) ∙ sym (held_is bytes call (map prepared_part ps) rs x h.1) ∙ apart.0 x
        (waits_as bytes call (prepared_part p) r x h.0 ∙ in')),
    prepared_apart ps rs h.1 apart.1,
  )
  prepared_apart [] (r ∷ rs) h apart = absurd h
  prepared_apart (p ∷ ps) [] h apart = absurd h

  pub held_apart : (outs : List Range) (prepared : List Prepared) (rs : List Region) →
      HaveRegions bytes call (map Holds outs ++ map prepared_part prepared) rs → AreApart rs → Apart (outs ++ prepared_ranges prepared)
  held_apart [] prepared rs h apart = prepared_apart prepared rs h apart
  held_apart (o ∷ outs) prepared (r ∷ rs) h apart = (
    (λ x in'. any_both outs prepared x ∙ ap (λ b. b || any_prepared prepared x) (sym (holds_any outs x)) ∙ ap
        (λ b. list_any (writes_byte x) (map Holds outs) || b) (sym (prepares_any prepared x)) ∙ sym
        (list_any-append (writes_byte x) (map Holds outs) (map prepared_part prepared)) ∙ sym
        (held_is bytes call (map Holds outs ++ map prepared_part prepared) rs x h.1) ∙ apart.0 x
        (waits_as bytes call (Holds o) r x h.0 ∙ in')),
    held_apart outs prepared rs h.1 apart.1,
  )
  held_apart (o ∷ outs) prepared [] h apart = absurd h

  pub read_apart : (ins outs : List Range) (prepared : List Prepared) (rs : List Region) →
      HaveRegions bytes call (parts_of ins outs prepared) rs → AreApart rs → Apart (outs ++ prepared_ranges prepared)
  read_apart [] outs prepared rs h apart = held_apart outs prepared rs h apart
  read_apart (i ∷ ins) outs prepared (r ∷ rs) h apart = read_apart ins outs prepared rs h.1 apart.1
  read_apart (i ∷ ins) outs prepared [] h apart = absurd h

  -- their keys differ
  unused : (prepared : List Prepared) (rs : List Region) (k : ℕ) → HaveRegions bytes call (map prepared_part prepared) rs → prepared_region rs k ≡ None → prepares_key prepared k ≡ false
  unused [] rs k h none = refl
  unused (p ∷ ps) (r ∷ rs) k h none = go (eqb p.key k) (ap (λ (o : Holder). cond (has_key k o) (Some r) (prepared_region rs k)) (sym h.0.holder_is) ∙ none) (unused ps rs k h.1)
    where
      go : (b : Bool) → cond b (Some r) (prepared_region rs k) ≡ None → (prepared_region rs k ≡ None → prepares_key ps k ≡ false) → (b || prepares_key ps k) ≡ false
      go true e again = absurd (some_none r e)
      go false e again = again e
  unused (p ∷ ps) [] k h none = absurd h

  pub prepared_distinct : (prepared : List Prepared) (rs : List Region) → HaveRegions bytes call (map prepared_part prepared) rs → HaveOwnKeys rs → DistinctKeys prepared
  prepared_distinct [] rs h own = tt
  prepared_distinct (p ∷ ps) (r ∷ rs) h own = (unused ps rs p.key h.1 (own.0 p.key (ap (has_key p.key) h.0.holder_is ∙ eq-eqb p.key p.key refl)), prepared_distinct ps rs h.1 own.1)
  prepared_distinct (p ∷ ps) [] h own = absurd h

  pub held_distinct : (outs : List Range) (prepared : List Prepared) (rs : List Region) →
      HaveRegions bytes call (map Holds outs ++ map prepared_part prepared) rs → HaveOwnKeys rs → DistinctKeys prepared
  held_distinct [] prepared rs h own = prepared_distinct prepared rs h own
  held_distinct (o ∷ outs) prepared (r ∷ rs) h own = held_distinct outs prepared rs h.1 own.1
  held_distinct (o ∷ outs) prepared [] h own = absurd h

  pub read_distinct : (ins outs : List Range) (prepared : List Prepared) (rs : List Region) → HaveRegions bytes call (parts_of ins outs prepared) rs → HaveOwnKeys rs → DistinctKeys prepared
  read_distinct [] outs prepared rs h own = held_distinct outs prepared rs h own
  read_distinct (i ∷ ins) outs prepared (r ∷ rs) h own = read_distinct ins outs prepared rs h.1 own.1
  read_distinct (i ∷ ins) outs prepared [] h own = absurd h

module _ (s : Start) (past : List Mark) (base new : SpaceState) (m : Mark) (e : Event) (func : ℕ) (args : List ℕ) (ins : List Piece)
    (outs : List Range) (prepared : List Prepared) (h : InCall s past m.thread (parts_of (piece_ranges ins) outs prepared) base new)
    (is : m.act ≡ Made e) (kind : e.kind ≡ Call func args ins outs prepared) (shown : All (IsShown base.bytes) ins)
    (keyed : (k : ℕ) → prepares_key prepared k ≡ true → has m (OfKey (key Async k)) ≡ true) where
  abbrev parts : List Part
  parts = parts_of (piece_ranges ins) outs prepared

  read_at : (x : ℕ) → any_piece ins x ≡ true → list_any (has_byte x) parts ≡ true
  read_at x r =
      list_any-append (has_byte x) (map Reads (piece_ranges ins)) (map Holds outs ++ map prepared_part prepared)
      ∙ or_left' (list_any (has_byte x) (map Reads (piece_ranges ins))) (list_any (has_byte x) (map Holds outs ++ map prepared_part prepared)) (reads_any (piece_ranges ins) x ∙ any_pieces ins x ∙ r)

  written_at : (x : ℕ) → (any_range outs x || any_prepared prepared x) ≡ true → list_any (writes_byte x) parts ≡ true
  written_at x w = written_any (piece_ranges ins) outs prepared x ∙ w

  cell_at : (x : ℕ) → list_any (has_byte x) parts ≡ true → (byte s x past).cell ≡ cell_of (byte_at base.bytes x) None
  cell_at x c =
      let f = free_at base parts x h.free c in
      h.stands.bytes x f.own ∙ ap (cell_of (byte_at base.bytes x)) (unheld base.held.regions x (λ p. true≢false (sym p ∙ f.free)))

  shows : (ps : List Piece) (x : ℕ) → ((y : ℕ) → any_piece ps y ≡ true → any_piece ins y ≡ true) → All (IsShown base.bytes) ps → Shows ps x (byte s x past).cell
  shows [] x sub all = tt
  shows (p ∷ ps) x sub all = (
    (λ in'.
        let c = cover_parts p.range x in' in
        let at : p.range.addr + (x - p.range.addr) ≡ x = omega (arith, c.0) in
        let there : any_piece ins x ≡ true = sub x (or_left' (covers p.range x) (any_piece ps x) in') in
        cell_at x (read_at x there) ∙ ap (λ b. cell_of b None)
        (ap (byte_at base.bytes) (sym at) ∙ (All-head (IsShown base.bytes) p ps all).bytes_are (x - p.range.addr)
        (omega (arith, (All-head (IsShown base.bytes) p ps all).whole, c.0, c.1)))),
    shows ps x (λ y is'. sub y (or_right' (covers p.range y) (any_piece ps y) is')) (All-tail (IsShown base.bytes) p ps all),
  )

  asks : (x : ℕ) → EventAsks e.kind x (byte s x past)
  asks x = subst (λ k. EventAsks k x (byte s x past)) (sym kind) (
    shows ins x (λ y is'. is') shown,
    λ w. let c = written_is parts x (written_at x w) in subst IsLive (sym (cell_at x c)) (live_cell (byte_at base.bytes x) (free_at base parts x h.free c).live),
  )

  writes_are : (x : ℕ) → writes m.act x ≡ (any_range outs x || any_prepared prepared x)
  writes_are x = ap (λ a. writes a x) is ∙ ap (λ k. event_writes k x) kind

  reads_are : (x : ℕ) → reads m.act x ≡ any_piece ins x
  reads_are x = ap (λ a. reads a x) is ∙ ap (λ k. event_reads k x) kind

  touched : (x : ℕ) → touches m.act x ≡ true → list_any (has_byte x) parts ≡ true
  touched x t = elim (or_cases (reads m.act x) (writes m.act x) t) [
    | inl r ↦ read_at x (sym (reads_are x) ∙ r)
    | inr w ↦ written_is parts x (written_at x (sym (writes_are x) ∙ w))
  ]

  none_used : (ps : List Prepared) → ((k : ℕ) → prepares_key ps k ≡ true → prepares_key prepared k ≡ true) → NoneInUse s past ps
  none_used [] sub = tt
  none_used (p ∷ ps) sub = (
    (let used = sub p.key (or_left' (eqb p.key p.key) (prepares_key ps p.key) (eq-eqb p.key p.key refl)) in
        sym (h.stands.keys p.key) ∙ ap (option_map (λ (r : Region). r.range)) (no_key s past base new m e func args ins outs prepared h is kind keyed p.key used)),
    none_used ps (λ k is'. sub k (or_right' (eqb p.key k) (prepares_key ps k) is')),
  )

  pub call_made : IsCall s past m outs prepared new
  call_made = record {
    mark = record {
      asks = subst (λ a. Asks a (λ x. byte s x past)) (sym is) asks;
      stands = call_stands s past base new m e func args ins outs prepared h is kind keyed;
    };
    other_space = λ x t. (free_at base parts x h.free (touched x t)).own;
    read_only = λ x w. writable_at base parts x h.free (written_at x (sym (writes_are x) ∙ w));
    apart = read_apart base.bytes (innermost new.held m.thread) (piece_ranges ins) outs prepared h.regions.added h.regions.regions (apart_of base.held.regions h.regions.added (subst AreApart h.regions.all h.held.apart));
    distinct = read_distinct base.bytes (innermost new.held m.thread) (piece_ranges ins) outs prepared h.regions.added h.regions.regions (keys_of base.held.regions h.regions.added (subst HaveOwnKeys h.regions.all h.held.keys));
    free_keys = none_used prepared (λ k is'. is');
  }
