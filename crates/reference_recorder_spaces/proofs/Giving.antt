-- A Ret: its pieces are written below the cut, and its call is closed.
use Rattle.std.proofs.Common.{◌≡◌, ℕ, ◌<◌, ◌≤◌, Bool, true, false, ◌||◌, List, [], ◌∷◌, ◌++◌, map, length, All, Option, Some, None, inl, inr, ⊎_elim, refl, ap, sym, ◌∙◌, subst, arith}
use Rattle.std.specs.Prelude.{option_map, slice_index}
use Rattle.std.specs.Option.{option_to_list}
use Rattle.std.proofs.lemmas.Bool.{cases_Bool, or_cases, or_parts, true≢false}
use Rattle.std.proofs.lemmas.List.{append-nil, map-append, length-map}
use Rattle.std.proofs.lemmas.List.Elements.{All-append, All-cons, All-head, All-nil, All-tail}
use Rattle.run_events.specs.declared.key.Class.TheVariants.{Async}
use Rattle.marks.specs.Places.{thread_count, is_constant, is_system}
use Rattle.marks.specs.Ranges.{Piece, any_piece, any_range, covers, piece_ranges}
use Rattle.marks.specs.Marks.{Commit, Event, Made, Mark, NoRegion, Released, Ret, Withheld, released}
use Rattle.marks.specs.Bytes.{Held, IsHeld, cell_after, event_leaves, event_reads, event_writes, touches, writes}
use Rattle.space_memory_bytes.specs.Areas.{AreaState, byte_at}
use Rattle.space_memory_access.specs.declared.holder.Region.{Region}
use Rattle.space_memory_access.specs.declared.refusal.Refusal.{Refusal}
use Rattle.space_memory_access.specs.declared.refusal.Refusal.TheVariants.{NotLive, Pending, OtherSpace, ReadOnly, StackFull, KeyInUse, NoKey, Size}
use Rattle.space_memory_access.specs.Held.{HeldState, innermost, prepared_region}
use Rattle.replay_runs.specs.Runs.{OfKey, Start, byte, has, is_listed, keys_of, marks_of, new_events}
use Rattle.replay_runs.specs.Interface.{Committing}
use Rattle.replay_runs.specs.Keys.{commit_keys, key, keys_for, sorted_keys}
use Rattle.replay_runs.specs.Pool.{in_use}
use Rattle.replay_runs.specs.Returns.{ReleasesInUse}
use Rattle.replay_runs.specs.Rules.{Apart, AreUsed, Carries, Commits, CommitsUsed, EventCarries, HasKeys, IsReturn, SharedAct, SharedEvent}
use Rattle.replay_runs.specs.Threads.{open_calls}
use Rattle.replay_runs.proofs.Holding.{piece_range_of, pieces_cases}
use Rattle.replay_runs.proofs.Keys.{listed_last}
use Rattle.space_memory.specs.Releases.{AllFilled, IsReleaseRefused, LacksKey, committed, committed_size, outs_of}
use Rattle.space_memory.specs.Spaces.{SpaceState}
use Rattle.space_memory_laws.specs.Changes.{IsReleased}
use Rattle.space_memory_laws.specs.Owed.{IsPreparedUnder, any_out}
use Rattle.space_memory_laws.specs.Returns.{CommitsAs, FitsIn, ShowUsed}
use Rattle.space_memory_laws.specs.Rights.{IsHandedDown}
use Rattle.space_memory_laws.specs.StandsFor.{StandsFor}
use Rattle.space_memory_laws.proofs.Gone.{gone_waiting}
use Rattle.space_memory_laws.proofs.Owed.{or_left, owed}
use Rattle.space_memory_laws.proofs.Regions.{some_none}
use Rattle.space_memory_laws.proofs.Returns.{IsClosed, closing, returns}
use Rattle.reference_recorder_spaces.specs.Next.{AreGiven, HasPieces, IsGiven, IsNext, IsUntouched, Puts, committing}
use Rattle.reference_recorder_spaces.proofs.Apart.{all_apart, depth_is, out_ranges, outs_apart}
use Rattle.reference_recorder_spaces.proofs.Calling.{null_dead}
use Rattle.reference_recorder_spaces.proofs.Filled.{all_end, all_filled, all_used, none_filled, none_unfilled}
use Rattle.reference_recorder_spaces.proofs.Same.{plain_is}
use Rattle.reference_recorder_spaces.proofs.Untouched.{not_given, stays}
use Rattle.reference_recorder_spaces.proofs.Pieces.{Shows, piece_ranges_append}

-- ---- what a Ret has

used_fit : (ns : List ℕ) (ps : List Piece) → AreUsed ns ps → All FitsIn ps
used_fit [] [] h = All-nil FitsIn
used_fit (n ∷ ns) (p ∷ ps) h = All-cons FitsIn p ps (let e = h.0.0 in let le = h.0.1 in omega (arith, e, le)) (used_fit ns ps h.1)
used_fit [] (p ∷ ps) h = absurd h
used_fit (n ∷ ns) [] h = absurd h

-- what is released is what the annotations commit
record IsOfKey (o : Option Committing) (k : ℕ) (p : Piece) : Type 0 where
  c : Committing
  is : o ≡ Some c
  key_is : k ≡ c.key
  fits : FitsIn p

of_key : (o : Option Committing) (k : ℕ) (p : Piece) → Commits o (Released k p) → IsOfKey o k p
of_key None k p h = absurd cc
of_key (Some c) k p h = go c.used h
  where
    go : (used : Option ℕ) → CommitsUsed c.key used (Released k p) → IsOfKey (Some c) k p
    go None h = absurd cc
    go (Some m) h = record { c = c; is = refl; key_is = h.0; fits = let e = h.1.0 in let le = h.1.1 in omega (arith, e, le) }

module _ (old : SpaceState) (t func : ℕ) (args : List ℕ) (value : ℕ) (same : Bool) (outs : List Piece) (commit : Commit) (e : Event) (kind : e.kind ≡ Ret func args value same outs commit)
    (n : IsNext old t (Made e)) (small : t < thread_count) where
  abbrev s : Start
  s = n.start

  abbrev mine : List Mark
  mine = marks_of n.start n.mark.thread n.past

  made : n.mark.act ≡ Made e
  made = plain_is n.mark.act (Made e) n.same tt

  in_range : n.mark.thread < thread_count
  in_range = let z = n.of_thread in omega (arith, z, small)

  carries : IsReturn n.program.interface s n.mark.thread mine func args value same outs commit
  carries = subst (EventCarries n.program.interface s n.mark.thread mine) kind
      (subst (Carries n.program.interface s n.mark.thread mine (n.program.want n.mark.thread mine)) made n.allowed.own.carries)

  closes : IsClosed (open_calls mine) (piece_ranges outs)
  closes = closing (open_calls mine) func args (piece_ranges outs) carries.closes

  -- the region of its key
  record HasRegion (k : ℕ) (p : Piece) : Type 0 where
    listed : has n.mark (OfKey (key Async k)) ≡ true
    region : in_use s k n.past ≡ Some p.range
    fits : FitsIn p

  has_region : (k : ℕ) (p : Piece) → commit ≡ Released k p → HasRegion k p
  has_region k p is =
      let i = n.program.interface in
      let c = of_key (i.commits func args value) k p (subst (Commits (i.commits func args value)) is carries.committed) in
      let keys : keys_for i n.mark.thread mine e.kind ≡ i.keys_at_return func args ++ key Async k ∷ [] =
      ap (keys_for i n.mark.thread mine) kind ∙ ap (λ o. i.keys_at_return func args ++ commit_keys o) c.is ∙ ap (λ j. i.keys_at_return func args ++ key Async j ∷ []) (sym c.key_is) in
      let there : has n.mark (OfKey (key Async k)) ≡ true =
      ap (λ a. is_listed (keys_of a) (key Async k)) made
      ∙ listed_last e.keys (i.keys_at_return func args) (key Async k) (subst (λ a. HasKeys i n.mark.thread mine a) made n.allowed.own.keys ∙ ap sorted_keys keys) in
      let rule = subst (λ q. SharedEvent i s Async k (new_events (OfKey (key Async k)) n.past) q) (kind ∙ ap (Ret func args value same outs) is)
      (subst (SharedAct i s (key Async k) (new_events (OfKey (key Async k)) n.past)) made (n.allowed.shared (OfKey (key Async k)) there)) in
      record { listed = there; region = rule refl; fits = c.fits }

  released_in_use : (c : Commit) → commit ≡ c → ReleasesInUse s n.past c
  released_in_use NoRegion is = tt
  released_in_use Withheld is = tt
  released_in_use (Released k p) is = (has_region k p is).region

  all_fit : All FitsIn (outs ++ released commit)
  all_fit = All-append FitsIn outs (released commit) (used_fit (n.program.interface.used func args value) outs carries.used) (go commit refl)
    where
      go : (c : Commit) → commit ≡ c → All FitsIn (released c)
      go NoRegion is = All-nil FitsIn
      go Withheld is = All-nil FitsIn
      go (Released k p) is = All-cons FitsIn p [] (has_region k p is).fits (All-nil FitsIn)

  commits_as : (m : SpaceState) → StandsFor s n.past m → (c : Commit) → commit ≡ c → CommitsAs n.mark m.held (committing c) c
  commits_as m h NoRegion is = refl
  commits_as m h Withheld is = refl
  commits_as m h (Released k p) is = let r = has_region k p is in (h.keys k ∙ r.region, refl, r.listed)

  apart : Apart (piece_ranges (outs ++ released commit))
  apart = subst Apart (sym (piece_ranges_append outs (released commit))) (go commit refl)
    where
      go : (c : Commit) → commit ≡ c → Apart (piece_ranges outs ++ piece_ranges (released c))
      go NoRegion is = subst Apart (sym (append-nil (piece_ranges outs))) (outs_apart s n.past old n.mark.thread (piece_ranges outs) n.stands in_range closes)
      go Withheld is = subst Apart (sym (append-nil (piece_ranges outs))) (outs_apart s n.past old n.mark.thread (piece_ranges outs) n.stands in_range closes)
      go (Released k p) is = all_apart s n.past old n.mark.thread (piece_ranges outs) n.stands in_range closes k (p.range ∷ []) (one (prepared_region old.held.regions k) (n.stands.keys k ∙ (has_region k p is).region))
        where
          one : (o : Option Region) → option_map (λ (r : Region). r.range) o ≡ Some p.range → p.range ∷ [] ≡ map (λ (r : Region). r.range) (option_to_list o)
          one None e = absurd cc
          one (Some r) e = let z : r.range ≡ p.range = cc in ap (λ q. q ∷ []) (sym z)

  -- none of them is at address 0
  none_null : any_piece (outs ++ released commit) 0 ≡ false
  none_null = elim (cases_Bool (any_piece (outs ++ released commit) 0)) [
    | inl z ↦ absurd (subst IsHeld (null_dead s n.past old n.stands) ((owed s n.past old n.stands 0 refl).1 (⊎_elim
        (λ y. inl (n.mark.thread, (in_range, ap (λ cs. any_out cs 0) closes.is ∙ or_left (any_range closes.top.outs 0) (any_out closes.below 0) (ap (λ rs. any_range rs 0) (sym closes.outs) ∙ piece_range_of outs 0 ∙ y))))
        (λ y. inr (by_key commit refl y))
        (pieces_cases outs (released commit) 0 z))))
    | inr out ↦ out
  ]
    where
      by_key : (c : Commit) → commit ≡ c → any_piece (released c) 0 ≡ true → (k : ℕ) × IsPreparedUnder s n.past k 0
      by_key NoRegion is y = absurd (true≢false (sym y))
      by_key Withheld is y = absurd (true≢false (sym y))
      by_key (Released k p) is y = (k, (p.range, (has_region k p is).region, ⊎_elim (λ z. z) (λ z. absurd (true≢false (sym z))) (or_cases (covers p.range 0) false y)))

  -- each may be written
  given_byte : (x : ℕ) → any_piece (outs ++ released commit) x ≡ true → IsHandedDown s n.past n.mark.thread true x
  given_byte x z = ⊎_elim
      (λ y. inl (ap (λ cs. any_out cs x) closes.is ∙ or_left (any_range closes.top.outs x) (any_out closes.below x) (ap (λ rs. any_range rs x) (sym closes.outs) ∙ piece_range_of outs x ∙ y)))
      (λ y. inr (inr (by_key commit refl y)))
      (pieces_cases outs (released commit) x z)
    where
      by_key : (c : Commit) → commit ≡ c → any_piece (released c) x ≡ true → (k : ℕ) × IsPreparedUnder s n.past k x
      by_key NoRegion is y = absurd (true≢false (sym y))
      by_key Withheld is y = absurd (true≢false (sym y))
      by_key (Released k p) is y = (k, (p.range, (has_region k p is).region, ⊎_elim (λ z. z) (λ z. absurd (true≢false (sym z))) (or_cases (covers p.range x) false y)))

  own_byte : (x : ℕ) → any_piece (outs ++ released commit) x ≡ true → is_system x ≡ false
  own_byte x z = n.allowed.own.other_space x (ap (λ a. touches a x) made ∙ ap (λ k. event_reads k x || event_writes k x) kind ∙ z)

  no_constant : (x : ℕ) → any_piece (outs ++ released commit) x ≡ true → is_constant x ≡ false
  no_constant x z = n.allowed.own.read_only x (ap (λ a. writes a x) made ∙ ap (λ k. event_writes k x) kind ∙ z)

  all_given : (ps : List Piece) → All FitsIn ps → ((x : ℕ) → any_piece ps x ≡ true → any_piece (outs ++ released commit) x ≡ true) → All (IsGiven s n.past n.mark.thread) ps
  all_given [] fits some = All-nil (IsGiven s n.past n.mark.thread)
  all_given (p ∷ ps) fits some = All-cons (IsGiven s n.past n.mark.thread) p ps
      (record {
        fits = All-head FitsIn p ps fits;
        own = λ x c. own_byte x (here x c);
        writable = λ x c. no_constant x (here x c);
        handed = λ x c. given_byte x (here x c);
      })
      (all_given ps (All-tail FitsIn p ps fits) (λ x c. some x (or_true (covers p.range x) c)))
    where
      here : (x : ℕ) → covers p.range x ≡ true → any_piece (outs ++ released commit) x ≡ true
      here x c = some x (ap (λ b. b || any_piece ps x) c)

      or_true : (a : Bool) {b : Bool} → b ≡ true → (a || b) ≡ true
      or_true true e = refl
      or_true false e = e

  pub given : AreGiven t (outs ++ released commit) old
  given = subst (λ u. AreGiven u (outs ++ released commit) old) n.of_thread (record {
    start = s;
    past = n.past;
    thread = in_range;
    stands = n.stands;
    each = all_given (outs ++ released commit) all_fit (λ x z. z);
    apart = apart;
  })

  sizes_are : map (λ (p : Piece). length p.bytes) outs ++ committed_size (committing commit) ≡ map (λ (p : Piece). length p.bytes) (outs ++ released commit)
  sizes_are = ap (λ ns. map (λ (p : Piece). length p.bytes) outs ++ ns) (go commit) ∙ sym (map-append (λ (p : Piece). length p.bytes) outs (released commit))
    where
      go : (c : Commit) → committed_size (committing c) ≡ map (λ (p : Piece). length p.bytes) (released c)
      go NoRegion = refl
      go Withheld = refl
      go (Released k p) = refl

  pub in_call : 1 ≤ slice_index old.held.depths t
  in_call = let d = depth_is s n.past old n.mark.thread (piece_ranges outs) n.stands in_range closes in
      let z = ap (slice_index old.held.depths) n.of_thread in
      omega (arith, d, z)

  pub still_held : (mid : SpaceState) → Puts t (outs ++ released commit) old mid → mid.held ≡ old.held
  still_held mid puts = (puts s n.past n.stands all_fit apart).held

  pub as_many : length (map (λ (p : Piece). length p.bytes) outs) ≡ length (outs_of (innermost old.held t) old.held.regions)
  as_many =
      let r : map (λ (g : Region). g.range) (outs_of (innermost old.held n.mark.thread) old.held.regions) ≡ piece_ranges outs = out_ranges s n.past old n.mark.thread (piece_ranges outs) n.stands in_range closes in
      length-map outs (λ (p : Piece). length p.bytes)
      ∙ sym (length-map outs (λ (p : Piece). p.range))
      ∙ ap length (sym r)
      ∙ length-map (outs_of (innermost old.held n.mark.thread) old.held.regions) (λ (g : Region). g.range)
      ∙ ap (λ u. length (outs_of (innermost old.held u) old.held.regions)) n.of_thread

  shows : (bytes : List AreaState) (ps : List Piece) → All (Shows bytes) ps → All FitsIn ps → any_piece ps 0 ≡ false → ShowUsed bytes ps (map (λ (p : Piece). length p.bytes) ps)
  shows bytes [] all fits out = tt
  shows bytes (p ∷ ps) all fits out =
      let q = or_parts (covers p.range 0) (any_piece ps 0) out in
      (all_used p (All-head FitsIn p ps fits) q.0, All-head (Shows bytes) p ps all, shows bytes ps (All-tail (Shows bytes) p ps all) (All-tail FitsIn p ps fits) q.1)

  -- ---- its call is closed

  abbrev pieces : List Piece
  pieces = outs ++ released commit

  abbrev regions : List Region
  regions = old.held.regions

  -- the regions that are given back, and their pieces
  abbrev gone : List Region
  gone = outs_of (innermost old.held n.mark.thread) regions ++ committed regions (committing commit)

  gone_ranges : map (λ (g : Region). g.range) gone ≡ piece_ranges pieces
  gone_ranges =
      map-append (λ (g : Region). g.range) (outs_of (innermost old.held n.mark.thread) regions) (committed regions (committing commit))
      ∙ (λ i. out_ranges s n.past old n.mark.thread (piece_ranges outs) n.stands in_range closes i ++ go commit refl i)
      ∙ sym (piece_ranges_append outs (released commit))
    where
      go : (c : Commit) → commit ≡ c → map (λ (g : Region). g.range) (committed regions (committing c)) ≡ piece_ranges (released c)
      go NoRegion is = refl
      go Withheld is = refl
      go (Released k p) is = one (prepared_region regions k) (n.stands.keys k ∙ (has_region k p is).region)
        where
          one : (o : Option Region) → option_map (λ (r : Region). r.range) o ≡ Some p.range → map (λ (r : Region). r.range) (option_to_list o) ≡ p.range ∷ []
          one None e = absurd cc
          one (Some r) e = let z : r.range ≡ p.range = cc in ap (λ q. q ∷ []) z

  -- each is filled as its piece says
  returned : (mid : SpaceState) → HasPieces s n.past pieces old mid → AllFilled mid.bytes gone (map (λ (p : Piece). length p.bytes) outs ++ committed_size (committing commit))
  returned mid h = subst (AllFilled mid.bytes gone) (sym sizes_are)
      (all_filled old mid n.untouched gone pieces gone_ranges
      (gone_waiting (innermost old.held n.mark.thread) (committing commit) regions n.stands.sound.held.apart n.stands.sound.held.whole n.stands.sound.held.keys) all_fit none_null
      (all_end old mid pieces all_fit apart (λ x some none. h.others x none)))

  -- and its key is in use
  has_key : (c : Commit) (x : ℕ) → commit ≡ c → LacksKey regions (committing c) x → ⊥
  has_key NoRegion x is lacks = lacks
  has_key Withheld x is lacks = lacks
  has_key (Released k p) x is lacks =
      some_none p.range (sym (n.stands.keys k ∙ (has_region k p is).region) ∙ ap (option_map (λ (r : Region). r.range)) lacks.0)

  not_refused : (mid : SpaceState) → HasPieces s n.past pieces old mid → (r : Refusal) →
      IsReleaseRefused mid.bytes regions (innermost old.held n.mark.thread) (map (λ (p : Piece). length p.bytes) outs) (committing commit) r → ⊥
  not_refused mid h (NotLive x) w = w
  not_refused mid h (Pending x) w = w
  not_refused mid h (OtherSpace x) w = w
  not_refused mid h (ReadOnly x) w = w
  not_refused mid h (StackFull x) w = w
  not_refused mid h (KeyInUse x) w = w
  not_refused mid h (NoKey x) w = has_key commit x refl w
  not_refused mid h (Size x) w = none_unfilled mid.bytes gone (map (λ (p : Piece). length p.bytes) outs ++ committed_size (committing commit)) x (returned mid h) w.1

  -- so memory closes the call
  pub may_close : (mid : SpaceState) → Puts t pieces old mid → (r : Refusal) →
      IsReleaseRefused mid.bytes mid.held.regions (innermost mid.held t) (map (λ (p : Piece). length p.bytes) outs) (committing commit) r → ⊥
  may_close mid puts r w =
      let h = puts s n.past n.stands all_fit apart in
      let sizes = map (λ (p : Piece). length p.bytes) outs in
      not_refused mid h r (subst (λ u. IsReleaseRefused mid.bytes regions (innermost old.held u) sizes (committing commit) r) (sym n.of_thread)
      (subst (λ (q : HeldState). IsReleaseRefused mid.bytes q.regions (innermost q t) sizes (committing commit) r) h.held w))

  -- no byte that stays pending is one of a piece
  still_pending : (x v : ℕ) → cell_after n.mark.act x (byte s x n.past).cell ≡ Held v → (any_piece pieces x ≡ false) × ((byte s x n.past).cell ≡ Held v)
  still_pending x v e =
      let c = (byte s x n.past).cell in
      not_given pieces x c v (sym (ap (λ a. cell_after a x c) made ∙ ap (λ k. event_leaves k x c) kind) ∙ e)

  pub gives : (mid new : SpaceState) → Puts t (outs ++ released commit) old mid →
      (HasPieces s n.past (outs ++ released commit) old mid → IsReleased mid new t (map (λ (p : Piece). length p.bytes) outs) (committing commit)) →
      StandsFor s (n.mark ∷ n.past) new × IsUntouched new
  gives mid new puts after =
      let h = puts s n.past n.stands all_fit apart in
      let sizes = map (λ (p : Piece). length p.bytes) outs in
      let done : IsReleased mid new n.mark.thread sizes (committing commit) = subst (λ u. IsReleased mid new u sizes (committing commit)) (sym n.of_thread) (after h) in
      let stands =
      (returns s n.past mid new n.mark func args outs commit sizes (committing commit) h.stands in_range done (record {
        event = e;
        act = made;
        result = value;
        same = same;
        kind = kind;
        closes = carries.closes;
        commits = commits_as mid h.stands commit refl;
        shows = subst (ShowUsed mid.bytes (outs ++ released commit)) (sym sizes_are) (shows mid.bytes (outs ++ released commit) h.bytes all_fit none_null);
      })).mark.stands in (
        stands,
        stays s n.past n.mark old new n.stands n.untouched stands (λ x v e.
            let q = still_pending x v e in
            (q.1, ap (λ (m : SpaceState). byte_at m.bytes x) done.rest ∙ h.others x (none_filled pieces x all_fit q.0))),
      )
