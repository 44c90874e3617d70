-- Copies of what comes up with a Ret: that they may be made, what they are, and how long.
use Rattle.std.proofs.Common.{◌≡◌, ℕ, zero, suc, ◌+◌, ◌<◌, ◌≤◌, Bool, true, false, ◌&&◌, leb, ltb, List, [], ◌∷◌, ◌++◌, length, get_or, take, Option, Some, None, refl, sym, ap, ◌∙◌, subst, arith}
use Rattle.std.specs.Prelude.{option_map, slice_index}
use Rattle.std.specs.List.{AllByRecursion}
use Rattle.std.proofs.lemmas.Bool.{and_parts, le-ltb, lt-ltb, ltb-false, ltb-true}
use Rattle.std.proofs.lemmas.List.{append-nil, length-append, length-map, map-append, take_all, take_more}
use Rattle.marks.specs.declared.range.Range.{Range}
use Rattle.marks.specs.Places.{constants, replay_globals, replay_end, system_globals, system_end, is_constant, is_replay, is_system}
use Rattle.marks.specs.Ranges.{Piece, are_bytes, piece_bytes, piece_ranges}
use Rattle.marks.specs.Marks.{Commit, NoRegion, Withheld, Released, logged, released}
use Rattle.stub_meaning.specs.Meaning.{first_of}
use Rattle.log_codec.specs.LogText.{IsPiece}
use Rattle.space_memory_bytes.specs.Areas.{AreaState, IsDead}
use Rattle.space_memory_bytes.specs.Numbers.{HasBytes}
use Rattle.space_memory_access.specs.declared.access.Access.{Access}
use Rattle.space_memory_access.specs.declared.holder.Region.{Region}
use Rattle.space_memory_access.specs.declared.refusal.Refusal.{Refusal}
use Rattle.space_memory_access.specs.declared.refusal.Refusal.TheVariants.{NotLive, Pending, OtherSpace, ReadOnly, StackFull, KeyInUse, NoKey, Size}
use Rattle.space_memory_access.specs.Accesses.{IsAllowed, IsRefused}
use Rattle.space_memory_access.specs.Held.{prepared_region}
use Rattle.space_memory.specs.Spaces.{SpaceState}
use Rattle.space_memory.specs.Releases.{committed_size}
use Rattle.space_memory_laws.specs.Returns.{ShowUsed, used_at}
use Rattle.recorder_returns.specs.declared.returning.Returning.{Returning}
use Rattle.recorder_returns.specs.declared.copying.Brought.{Brought}
use Rattle.recorder_returns.specs.Bringing.{HaveBytes, committing_of}
use Rattle.recorder_returns.specs.Copies.{AddsCommit, AreCopies, IsBrought, IsCopy, MayBeCopied, MayCopy}

-- ---- a copy that is allowed isn't refused

pub not_refused : (bytes : List AreaState) (regions : List Region) (a : Access) (r : Refusal) → IsAllowed bytes regions a → IsRefused bytes regions a r → ⊥
not_refused bytes regions a (OtherSpace x) ok bad = ok.own x bad.in_range bad.holds
not_refused bytes regions a (NotLive x) ok bad = ok.live x bad.1.in_range bad.1.holds
not_refused bytes regions a (Pending x) ok bad = ok.free x bad.2.in_range bad.2.holds
not_refused bytes regions a (ReadOnly x) ok bad = ok.writable x bad.3.in_range bad.3.holds
not_refused bytes regions a (StackFull x) ok bad = bad
not_refused bytes regions a (KeyInUse x) ok bad = bad
not_refused bytes regions a (NoKey x) ok bad = bad
not_refused bytes regions a (Size x) ok bad = bad

pub bytes_small : (bs : List ℕ) → ((i : ℕ) → get_or bs i 0 < 256) → are_bytes bs ≡ true
bytes_small [] h = refl
bytes_small (b ∷ bs) h = (λ j. lt-ltb b 256 (h 0) j && bytes_small bs (λ i. h (suc i)) j)

pub copy_is : (bytes : List AreaState) (r : Range) (used len : ℕ) (read copy : List ℕ) → len ≡ used_at r used → length read ≡ len → HasBytes bytes r.addr read → are_bytes read ≡ true → copy ≡ read → IsCopy bytes r used copy
copy_is bytes r used len read copy len_is count shown small is = subst (IsCopy bytes r used) (sym is) (record { count = count ∙ len_is; shown = shown; are_so = small })

pub copied_at : (memory : SpaceState) (t : ℕ) (rs : List Range) (ns : List ℕ) (i : ℕ) (d : Range) → i < length rs → i < length ns → MayBeCopied memory t rs ns → MayCopy memory t (get_or rs i d) (get_or ns i 0)
copied_at memory t [] ns i d lr ln h = absurd (omega (arith, lr))
copied_at memory t (r ∷ rs) [] i d lr ln h = absurd (omega (arith, ln))
copied_at memory t (r ∷ rs) (n ∷ ns) zero d lr ln h = h.0
copied_at memory t (r ∷ rs) (n ∷ ns) (suc i) d lr ln h = copied_at memory t rs ns i d (omega (arith, lr)) (omega (arith, ln)) h.1

-- ---- one after the other

module _ (bytes : List AreaState) where
  shown_both : (ps qs : List Piece) (ns ms : List ℕ) → ShowUsed bytes ps ns → ShowUsed bytes qs ms → ShowUsed bytes (ps ++ qs) (ns ++ ms)
  shown_both [] qs [] ms h k = k
  shown_both [] qs (n ∷ ns) ms h k = absurd h
  shown_both (p ∷ ps) qs [] ms h k = absurd h
  shown_both (p ∷ ps) qs (n ∷ ns) ms h k = (h.0, h.1, shown_both ps qs ns ms h.2 k)

  have_both : (ps qs : List Piece) → HaveBytes ps → HaveBytes qs → HaveBytes (ps ++ qs)
  have_both [] qs h k = k
  have_both (p ∷ ps) qs h k = (h.0, have_both ps qs h.1 k)

  pub none_copied : AreCopies bytes [] [] []
  none_copied = record { up = []; ranges = refl; pieces = refl; shows = tt; have = tt }

  pub one_more : (rs : List Range) (ns : List ℕ) (ps : List (List ℕ)) (i : ℕ) (d : Range) (p : List ℕ) → i < length rs → i < length ns → AreCopies bytes (take i rs) (take i ns) ps → IsCopy bytes (get_or rs i d) (get_or ns i 0) p → AreCopies bytes (take (i + 1) rs) (take (i + 1) ns) (ps ++ p ∷ [])
  one_more rs ns ps i d p lr ln h c =
      let q : Piece = record { range = get_or rs i d; bytes = p } in
      record {
        up = h.up ++ q ∷ [];
        ranges = map-append (λ (z : Piece). z.range) h.up (q ∷ []) ∙ (ap (λ zs. zs ++ get_or rs i d ∷ []) h.ranges ∙ sym (take_more rs i d lr));
        pieces = map-append (λ (z : Piece). z.bytes) h.up (q ∷ []) ∙ ap (λ zs. zs ++ p ∷ []) h.pieces;
        shows = subst (ShowUsed bytes (h.up ++ q ∷ [])) (sym (take_more ns i 0 ln)) (shown_both h.up (q ∷ []) (take i ns) (get_or ns i 0 ∷ []) h.shows (c.count, c.shown, tt));
        have = have_both h.up (q ∷ []) h.have (c.are_so, tt);
      }

  pub all_copied : (rs : List Range) (ns : List ℕ) (ps : List (List ℕ)) (i : ℕ) → length rs ≤ i → length ns ≡ length rs → AreCopies bytes (take i rs) (take i ns) ps → AreCopies bytes rs ns ps
  all_copied rs ns ps i le n h = record {
    up = h.up;
    ranges = h.ranges ∙ take_all i rs le;
    pieces = h.pieces;
    shows = subst (ShowUsed bytes h.up) (take_all i ns (omega (arith, le, n))) h.shows;
    have = h.have;
  }

-- all of it
pub brought : (memory : SpaceState) (said : Returning) (pieces : List (List ℕ)) (b : Brought) → AreCopies memory.bytes said.ranges.items said.done.used pieces → AddsCommit memory (first_of said.done.commits) pieces said.ranges.items b.pieces b.ranges.items → IsBrought memory said b
brought memory said pieces b h c = record {
  up = h.up;
  commit = c.commit;
  regions = h.ranges;
  is = c.is;
  pieces = c.pieces ∙ ap (λ zs. zs ++ logged c.commit) (sym h.pieces);
  ranges = c.ranges ∙ (ap (λ zs. zs ++ piece_ranges (released c.commit)) (sym h.ranges) ∙ sym (map-append (λ (z : Piece). z.range) h.up (released c.commit)));
  shows = shown_both memory.bytes h.up (released c.commit) said.done.used (committed_size (committing_of (first_of said.done.commits))) h.shows c.shows;
  have = have_both memory.bytes h.up (released c.commit) h.have c.have;
}

-- ---- what is committed

module _ (memory : SpaceState) (ps : List (List ℕ)) (rs : List Range) where
  pub no_commit : AddsCommit memory None ps rs ps rs
  no_commit = record { commit = NoRegion; is = refl; pieces = sym (append-nil ps); ranges = sym (append-nil rs); shows = tt; have = tt }

  pub withheld : (key : ℕ) → AddsCommit memory (Some (record { key = key; used = None })) ps rs (ps ++ [] ∷ []) rs
  withheld key = record { commit = Withheld; is = refl; pieces = refl; ranges = sym (append-nil rs); shows = tt; have = tt }

  pub committed_copy : (key n : ℕ) (r : Range) (p : List ℕ) → option_map (λ (g : Region). g.range) (prepared_region memory.held.regions key) ≡ Some r → IsCopy memory.bytes r n p → AddsCommit memory (Some (record { key = key; used = Some n })) ps rs (ps ++ p ∷ []) (rs ++ r ∷ [])
  committed_copy key n r p there c =
      let q : Piece = record { range = r; bytes = p } in
      record { commit = Released key q; is = (q, refl, there); pieces = refl; ranges = refl; shows = (c.count, c.shown, tt); have = (c.are_so, tt) }

-- ---- how long they are

or_past : (b : Bool) (x n : ℕ) → n ≤ x → (b && ltb x n) ≡ false
or_past true x n le = le-ltb x n le
or_past false x n le = refl

abbrev LieInside : List AreaState → Type 0
LieInside bytes = (x : ℕ) → is_constant x ≡ false → is_replay x ≡ false → is_system x ≡ false → IsDead bytes x

module _ (bytes : List AreaState) (inside : LieInside bytes) where
  dead_past : (x : ℕ) → system_end ≤ x → IsDead bytes x
  dead_past x le = inside x
      (or_past (leb constants x) x replay_globals (omega (arith, le)))
      (or_past (leb replay_globals x) x replay_end (omega (arith, le)))
      (or_past (leb system_globals x) x system_end le)

  short : (addr : ℕ) (bs : List ℕ) → HasBytes bytes addr bs → length bs ≤ system_end
  short addr [] h = omega arith
  short addr (b ∷ bs) h = by (ltb (addr + length bs) system_end) refl
    where
      by : (c : Bool) → ltb (addr + length bs) system_end ≡ c → length (b ∷ bs) ≤ system_end
      by true e = let lt = ltb-true (addr + length bs) system_end e in omega (arith, lt)
      by false e = absurd (none (sym (dead_past (addr + length bs) (ltb-false (addr + length bs) system_end e)) ∙ h (length bs) (omega arith)))
        where
          none : ◌≡◌ {A = Option ℕ} None (Some (slice_index (b ∷ bs) (length bs))) → ⊥
          none z = absurd cc

  all_small : (bs : List ℕ) → are_bytes bs ≡ true → AllByRecursion (λ (b : ℕ). b < 256) bs
  all_small [] h = tt
  all_small (b ∷ bs) h = let q = and_parts (ltb b 256) (are_bytes bs) h in (ltb-true b 256 q.0, all_small bs q.1)

  is_piece : (addr : ℕ) (bs : List ℕ) → HasBytes bytes addr bs → are_bytes bs ≡ true → IsPiece bs
  is_piece addr bs h b = let n = short addr bs h in (omega (arith, n), all_small bs b)

  are_pieces : (ps qs : List Piece) (more : List (List ℕ)) (ns : List ℕ) → ShowUsed bytes (ps ++ qs) ns → HaveBytes (ps ++ qs) → ((ms : List ℕ) → ShowUsed bytes qs ms → HaveBytes qs → AllByRecursion IsPiece more) → AllByRecursion IsPiece (piece_bytes ps ++ more)
  are_pieces [] qs more ns h b last = last ns h b
  are_pieces (p ∷ ps) qs more [] h b last = absurd h
  are_pieces (p ∷ ps) qs more (n ∷ ns) h b last = (is_piece p.range.addr p.bytes h.1 b.0, are_pieces ps qs more ns h.2 b.1 last)

  last_piece : (commit : Commit) (ms : List ℕ) → ShowUsed bytes (released commit) ms → HaveBytes (released commit) → AllByRecursion IsPiece (logged commit)
  last_piece NoRegion ms h b = tt
  last_piece Withheld ms h b = ((omega arith, tt), tt)
  last_piece (Released k p) [] h b = absurd h
  last_piece (Released k p) (m ∷ ms) h b = (is_piece p.range.addr p.bytes h.1 b.0, tt)

  pub all_pieces : (up : List Piece) (commit : Commit) (ns : List ℕ) → ShowUsed bytes (up ++ released commit) ns → HaveBytes (up ++ released commit) → AllByRecursion IsPiece (piece_bytes up ++ logged commit)
  all_pieces up commit ns h b = are_pieces up (released commit) (logged commit) ns h b (last_piece commit)

one_commit : (commit : Commit) → length (logged commit) ≤ 1
one_commit NoRegion = omega arith
one_commit Withheld = omega arith
one_commit (Released k p) = omega arith

pub few_pieces : (up : List Piece) (commit : Commit) (outs : List Range) → piece_ranges up ≡ outs → length outs ≤ 8 → length (piece_bytes up ++ logged commit) ≤ 9
few_pieces up commit outs is few =
    let a = length-append (piece_bytes up) (logged commit) in
    let b = length-map up (λ (p : Piece). p.bytes) in
    let c = length-map up (λ (p : Piece). p.range) in
    let d = ap length is in
    let e = one_commit commit in
    omega (arith, a, b, c, d, e, few)
