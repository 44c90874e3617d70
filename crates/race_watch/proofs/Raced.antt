-- A race with what was seen is a race with what was told.
use Rattle.std.proofs.Common.{◌≡◌, ℕ, suc, zero, ◌<◌, ◌≤◌, Bool, true, List, [], ◌∷◌, ◌+◌, ◌^◌, length, get_or, ◌⊎◌, inl, inr, ⊎_elim, refl, sym, ap, ◌∙◌, subst, arith}
use Rattle.std.specs.Prelude.{slice_index}
use Rattle.std.specs.List.{All}
use Rattle.std.proofs.lemmas.Bool.Decides.{nat_tests}
use Rattle.marks.specs.declared.range.Range.{Range}
use Rattle.marks.specs.Places.{is_constant}
use Rattle.marks.specs.Ranges.{IsInRange, covers}
use Rattle.causal_order.specs.Order.{OfThread}
use Rattle.race_watch.specs.declared.seen.Seen.{Seen}
use Rattle.std.specs.Prelude.{Result, Ok, Err, OnOk, OnErr, IfErr}
use Rattle.race_watch.specs.declared.error.WatchError.{WatchError}
use Rattle.race_watch.specs.declared.error.WatchError.TheVariants.{Race, Memory}
use Rattle.race_watch.specs.declared.first.Tested.{Tested}
use Rattle.race_watch.specs.Told.{Told, Accessed, knows, IsRaced, IsRace}
use Rattle.race_watch.specs.Hits.{In}
use Rattle.race_watch.specs.State.{WatchState}
use Rattle.race_watch.specs.Stands.{Stands, Reached, NoRace, Answers, IsLastSeen, Puts}
use Rattle.std.specs.Prelude.{not, cond, eqb, ◌||◌, ◌&&◌, false}
use Rattle.race_watch.specs.declared.tables.Tables.{Tables}
use Rattle.race_watch.specs.Told.{place, wrote, touched}
use Rattle.race_watch.specs.Stands.{IsNoted, Found}
use Rattle.race_watch.specs.Tables.{at, listed, cells_of, AreTables, HasEpoch, HasHit, IsLeastOf, ArePut}
use Rattle.race_watch.proofs.Epochs.{known_area, known_thread, no_constant, listed_is}
use Rattle.race_watch.proofs.Quiet.{in_it, same_last, quiet_access}
use Rattle.race_watch.proofs.Last.{last, last_place, last_seen_more, last_epochs_more, last_constants_more, settled_put, true_not_false}

pub all_in : (P : Seen → Type 0) (xs : List Seen) (s : Seen) → All P xs → In s xs → P s
all_in P [] s h i = absurd i
all_in P (x ∷ xs) s h (inl e) = subst P (sym e) (h 0 x (omega arith))
all_in P (x ∷ xs) s h (inr i) = all_in P xs s (λ k d lt. h (suc k) d (omega (arith, lt))) i

covered : (r : Range) (x : ℕ) → IsInRange r x → covers r x ≡ true
covered r x h = grind (arith, nat_tests, h.0, h.1)

-- what is known at the access
record Known (past : List Told) (a : Tested) : Type 0 where
  row : (u : ℕ) → u < 32 → slice_index a.known.now u ≡ knows past (OfThread a.thread) u

few_epochs : (t : Tables) → AreTables t → (w : Bool) (u x n : ℕ) → n < listed (cells_of t) w u x → u < 32
few_epochs t h w u x n lt = omega (arith, known_thread t w u x n (omega (arith, lt, listed_is t w u x h)), h.few)

few_of : (seen : List Seen) → All (λ (s : Seen). s.thread < 32) seen → (s : Seen) → In s seen → s.thread < 32
few_of seen few s i = all_in (λ (s : Seen). s.thread < 32) seen s few i

-- what is kept: the list and the tables
record Keeps (past : List Told) (seen : List Seen) (t : Tables) : Type 0 where
  is : IsLastSeen seen (listed (cells_of t)) past
  few : (s : Seen) → In s seen → s.thread < 32
  tables : AreTables t

raced_at : (seen : List Seen) (t : Tables) (past : List Told) (a : Tested) (x u : ℕ) → Known past a → Keeps past seen t → HasHit a seen x u ⊎ HasEpoch a (at t) x u → IsRaced a.thread a.write past x u
raced_at seen t past a x u k l (inl h) =
    let s = h.0 in
    let z = l.is.sound s a.write x h.1 h.3.writes (covered s.range x h.3.shared.0) in
    subst (IsRaced a.thread a.write past x) h.2
    (record {
      other = h.3.other;
      no_constant = h.3.shared.1;
      unknown = omega (arith, z, k.row s.thread (l.few s h.1), h.3.unknown);
    })
raced_at seen t past a x u k l (inr h) =
    let m : at t a.write u x ≤ last a.write u x past = omega (arith, l.is.below a.write u x, listed_is t a.write u x l.tables) in
    let lt : u < 32 = omega (arith, known_thread t a.write u x _ h.unknown, l.tables.few) in
    record {
      other = h.other;
      no_constant = no_constant x (known_area t a.write u x _ h.unknown);
      unknown = omega (arith, m, k.row u lt, h.unknown);
    }

hit_at : (seen : List Seen) (t : Tables) (past : List Told) (a : Tested) (x u : ℕ) → Known past a → Keeps past seen t → x < 2 ^ 64 → IsRaced a.thread a.write past x u → HasHit a seen x u ⊎ HasEpoch a (at t) x u
hit_at seen t past a x u k l lt h = ⊎_elim in_list by_epoch (l.is.complete a.write u x n h.no_constant h.unknown)
  where
    n : ℕ
    n = knows past (OfThread a.thread) u

    in_list : Found seen a.write u x (knows past (OfThread a.thread) u) → HasHit a seen x u ⊎ HasEpoch a (at t) x u
    in_list f =
        let row = k.row f.one.thread (l.few f.one f.one_in) in
        let same : knows past (OfThread a.thread) f.one.thread ≡ knows past (OfThread a.thread) u = ap (knows past (OfThread a.thread)) f.of in
        inl (
          f.one,
          f.one_in,
          f.of,
          record {
            other = λ e. h.other (sym f.of ∙ e);
            writes = f.counts;
            unknown = omega (arith, row, same, f.later);
            shared = (in_it f.one.range x f.covered lt, h.no_constant);
          },
        )

    by_epoch : knows past (OfThread a.thread) u < listed (cells_of t) a.write u x → HasHit a seen x u ⊎ HasEpoch a (at t) x u
    by_epoch m =
        let row = k.row u (few_epochs t l.tables a.write u x _ m) in
        inr (record { other = h.other; unknown = omega (arith, m, row, listed_is t a.write u x l.tables) })

known_of : (past : List Told) (w : WatchState) (a : Tested) → Stands past w → a.thread < length w.rows → a.known.now ≡ get_or w.rows a.thread [] → Known past a
known_of past w a h lt is = record { row = λ u l. ap (λ r. slice_index r u) is ∙ h.rows a.thread u lt l }

keeps_of : (past : List Told) (w : WatchState) (t : Tables) → Stands past w → Reached w → w.epochs ≡ cells_of t → AreTables t → Keeps past w.seen t
keeps_of past w t h r e k = record { is = subst (λ m. IsLastSeen w.seen (listed m) past) e h.seen; few = few_of w.seen r.threads; tables = k }

pub is_race : (past : List Told) (w : WatchState) (t : Tables) (a : Tested) (addr other : ℕ) → Stands past w → Reached w → w.epochs ≡ cells_of t → AreTables t → a.thread < length w.rows → a.known.now ≡ get_or w.rows a.thread [] → IsLeastOf a.range (λ x u. HasHit a w.seen x u ⊎ HasEpoch a (at t) x u) addr other → IsRace a.thread a.range a.write past other addr
is_race past w t a addr other h r e ts lt is f =
    let k = known_of past w a h lt is in
    let l = keeps_of past w t h r e ts in
    let raced : IsRaced a.thread a.write past addr other = raced_at w.seen t past a addr other k l f.holds in
    record {
      first = record {
        in_range = f.in_range;
        holds = (other, raced);
        least = λ y i v. (f.least y v.0 i (hit_at w.seen t past a y v.0 k l i.2 v.1)).0;
      };
      raced = raced;
      least = λ u v. (f.least addr u f.in_range (hit_at w.seen t past a addr u k l f.in_range.2 v)).1 refl;
    }

pub no_race : (past : List Told) (w : WatchState) (t : Tables) (a : Tested) → Stands past w → Reached w → w.epochs ≡ cells_of t → AreTables t → a.thread < length w.rows → a.known.now ≡ get_or w.rows a.thread [] → ((x u : ℕ) → IsInRange a.range x → HasHit a w.seen x u ⊎ HasEpoch a (at t) x u → ⊥) → NoRace past a.thread a.range a.write
no_race past w t a h r e ts lt is f = λ x u i v. f x u i (hit_at w.seen t past a x u (known_of past w a h lt is) (keeps_of past w t h r e ts) i.2 v)

-- nor where nothing is listed, and no access of the tables is unknown
pub free_no_race : (past : List Told) (w : WatchState) (t : Tables) (a : Tested) → Stands past w → Reached w → w.epochs ≡ cells_of t → AreTables t → a.thread < length w.rows → a.known.now ≡ get_or w.rows a.thread [] → w.seen ≡ [] → ((x u : ℕ) → IsInRange a.range x → HasEpoch a (at t) x u → ⊥) → NoRace past a.thread a.range a.write
free_no_race past w t a h r e ts lt is none free = no_race past w t a h r e ts lt is (λ x u i. ⊎_elim (λ (s : HasHit a w.seen x u). subst (In s.0) none s.1) (free x u i))

-- no epoch of a thread is after its place
pub own_epochs : (w : WatchState) (ts : Tables) (t n : ℕ) → Reached w → w.epochs ≡ cells_of ts → AreTables ts → t < length w.made → n ≡ slice_index w.made t → (x : ℕ) → at ts true t x ≤ n + 1
own_epochs w ts t n r e k lm is x =
    let l = keeps_of r.past w ts r.stands r e k in
    let m : at ts true t x ≤ last true t x r.past = subst (λ y. y ≤ last true t x r.past) (listed_is ts true t x k) (l.is.below true t x) in
    omega (arith, m, last_place true t x r.past, is, r.stands.made t lm)

-- where the thread's own epochs stand at its place, there is no race
pub settled_no_race : (past : List Told) (w : WatchState) (ts : Tables) (t : ℕ) (range : Range) (write : Bool) (n : ℕ) → Stands past w → Reached w → w.epochs ≡ cells_of ts → AreTables ts → t < length w.rows → t < length w.made → n ≡ slice_index w.made t → ((x : ℕ) → covers range x ≡ true → at ts (not write) t x ≡ n + 1) → NoRace past t range write
settled_no_race past w ts t range write n h r e k lt lm is all x u i v =
    let l = keeps_of past w ts h r e k in
    let l0 = keeps_of r.past w ts r.stands r e k in
    let epoch : listed (cells_of ts) (not write) t x ≡ n + 1 = listed_is ts (not write) t x k ∙ all x (covered range x i) in
    let low : place t r.past < last (not write) t x r.past = omega (arith, l0.is.below (not write) t x, epoch, is, r.stands.made t lm) in
    let q = r.quiet write t u x v.other v.no_constant i.2 (omega (arith, low, turned write (touched t x r.past) (wrote t x r.past))) in
    let p : knows past (OfThread t) u < last write u x r.past = same_last w.seen (listed (cells_of ts)) past r.past write u x _ l.is l0.is v.no_constant v.unknown in
    let small : u < 32 = ⊎_elim (λ (f : Found w.seen write u x (knows past (OfThread t) u)). subst (λ y. y < 32) f.of (l.few f.one f.one_in)) (λ m. few_epochs ts k write u x _ m) (l.is.complete write u x _ v.no_constant v.unknown) in
    omega (arith, p, q, h.rows t u lt small, r.stands.rows t u lt small)
  where
    turned : (b : Bool) (m n : ℕ) → cond (not b) m n ≡ cond b n m
    turned true m n = refl
    turned false m n = refl

-- one access more

abbrev access : ℕ → ℕ → Range → Bool → Seen
access t n range write = record { thread = t; place = n; range = range; write = write }

by_put : (past : List Told) (w : WatchState) (seen : List Seen) (epochs : List ℕ) (t : ℕ) (range : Range) (write : Bool) (n : ℕ) → Stands past w → t < length w.made → n ≡ slice_index w.made t → IsNoted w.seen seen (listed w.epochs) (listed epochs) (access t n range write) → Stands (Accessed t range write ∷ past) (record w { seen = seen; epochs = epochs })
by_put past w seen epochs t range write n h lt is p =
    record {
      events = h.events;
      made = h.made;
      rows = h.rows;
      keys = h.keys;
      seen = ⊎_elim in_list by_epoch p;
    }
  where
    in_list : Puts w.seen seen (access t n range write) × ((v : Bool) (u x : ℕ) → listed epochs v u x ≡ listed w.epochs v u x) → IsLastSeen seen (listed epochs) (Accessed t range write ∷ past)
    in_list q =
        let g = last_seen_more past w.seen seen (listed w.epochs) t range write n (is ∙ h.made t lt) h.seen q.0 in
        record { sound = g.sound; below = λ v u x. omega (arith, g.below v u x, q.1 v u x); complete = λ v u x k o l. ⊎_elim (λ f. inl f) (λ m. inr (omega (arith, m, q.1 v u x))) (g.complete v u x k o l) }

    by_epoch : (seen ≡ w.seen) × ArePut (listed w.epochs) (listed epochs) (access t n range write) → IsLastSeen seen (listed epochs) (Accessed t range write ∷ past)
    by_epoch q = subst (λ l. IsLastSeen l (listed epochs) (Accessed t range write ∷ past)) (sym q.0) (last_epochs_more past w.seen (listed w.epochs) (listed epochs) t range write n (is ∙ h.made t lt) h.seen q.1)

-- epochs of tables are those of the list
noted_listed : (old new : List Seen) (a b : Tables) (one : Seen) → AreTables a → AreTables b → IsNoted old new (at a) (at b) one → IsNoted old new (listed (cells_of a)) (listed (cells_of b)) one
noted_listed old new a b one h k (inl p) = inl (p.0, λ w u x. listed_is b w u x k ∙ p.1 w u x ∙ sym (listed_is a w u x h))
noted_listed old new a b one h k (inr p) = inr (p.0, λ w u x. listed_is b w u x k ∙ p.1 w u x ∙ ap (cond (eqb one.thread u && ((w || one.write) && covers one.range x)) (suc one.place)) (sym (listed_is a w u x h)))

-- the last write is an access
ordered : (epochs : List ℕ) (u x : ℕ) → listed epochs false u x ≤ listed epochs true u x
ordered epochs u x = omega arith

pub settled_stands : (past : List Told) (w : WatchState) (ts : Tables) (t : ℕ) (range : Range) (write : Bool) (n : ℕ) → Stands past w → Reached w → w.epochs ≡ cells_of ts → AreTables ts → t < length w.made → n ≡ slice_index w.made t → ((x : ℕ) → covers range x ≡ true → at ts (not write) t x ≡ n + 1) → Stands (Accessed t range write ∷ past) w
settled_stands past w ts t range write n h r e k lt is all =
    by_put past w w.seen w.epochs t range write n h lt is
    (inr (refl, settled_put past w.seen (listed w.epochs) t range write n (is ∙ h.made t lt) h.seen (ordered w.epochs) (λ x c. ap (λ m. listed m (not write) t x) e ∙ listed_is ts (not write) t x k ∙ all x c)))

pub noted_stands : (past : List Told) (w : WatchState) (seen : List Seen) (a b : Tables) (t : ℕ) (range : Range) (write : Bool) (n : ℕ) → Stands past w → w.epochs ≡ cells_of a → AreTables a → AreTables b → t < length w.made → n ≡ slice_index w.made t → IsNoted w.seen seen (at a) (at b) (access t n range write) → Stands (Accessed t range write ∷ past) (record w { seen = seen; epochs = cells_of b })
noted_stands past w seen a b t range write n h e k l lt is p = by_put past w seen (cells_of b) t range write n h lt is (subst (λ m. IsNoted w.seen seen (listed m) (listed (cells_of b)) (access t n range write)) (sym e) (noted_listed w.seen seen a b (access t n range write) k l p))

in_at : (xs : List Seen) (k : ℕ) (d : Seen) → k < length xs → In (get_or xs k d) xs
in_at [] k d lt = absurd (omega (arith, lt))
in_at (x ∷ xs) zero d lt = inl refl
in_at (x ∷ xs) (suc k) d lt = inr (in_at xs k d (omega (arith, lt)))

all_puts : (P : Seen → Type 0) (old new : List Seen) (one : Seen) → Puts old new one → All P old → P one → (k : ℕ) (d : Seen) → k < length new → P (get_or new k d)
all_puts P old new one p h q k d lt = ⊎_elim (λ i. all_in P old (get_or new k d) h i) (λ e. subst P (sym e) q) (p.each (get_or new k d) (in_at new k d lt))

pub noted_reached : (w : WatchState) (seen : List Seen) (a b : Tables) (t : ℕ) (range : Range) (write : Bool) (n : ℕ) → Reached w → w.epochs ≡ cells_of a → AreTables a → AreTables b → t < length w.rows → t < length w.made → n ≡ slice_index w.made t → ((past : List Told) → Stands past w → NoRace past t range write) → IsNoted w.seen seen (at a) (at b) (access t n range write) → Reached (record w { seen = seen; epochs = cells_of b })
noted_reached w seen a b t range write n r e k l lt lm is none p =
    let q : IsNoted w.seen seen (listed w.epochs) (listed (cells_of b)) (access t n range write) = subst (λ m. IsNoted w.seen seen (listed m) (listed (cells_of b)) (access t n range write)) (sym e) (noted_listed w.seen seen a b (access t n range write) k l p) in
    record {
      past = Accessed t range write ∷ r.past;
      stands = by_put r.past w seen (cells_of b) t range write n r.stands lm is q;
      quiet = quiet_access r.past t range write (none r.past r.stands) r.quiet;
      few_events = r.few_events;
      width = r.width;
      few = r.few;
      threads = ⊎_elim (λ (v : Puts w.seen seen (access t n range write) × ((v : Bool) (u x : ℕ) → at b v u x ≡ at a v u x)). all_puts (λ (s : Seen). s.thread < 32) w.seen seen (access t n range write) v.0 r.threads (omega (arith, lt, r.few))) (λ v. subst (All (λ (s : Seen). s.thread < 32)) (sym v.0) r.threads) p;
    }

pub same_reached : (w : WatchState) (seen : List Seen) (epochs : List ℕ) → Reached w → seen ≡ w.seen → epochs ≡ w.epochs → Reached (record w { seen = seen; epochs = epochs })
same_reached w seen epochs r e f = subst (λ l. Reached (record w { seen = l; epochs = epochs })) (sym e) (subst (λ m. Reached (record w { epochs = m })) (sym f) r)

-- by whether the access was kept, in the tables
pub reached_if : (w : WatchState) (a b : Tables) (t : ℕ) (range : Range) (write : Bool) (n : ℕ) (kept : Bool) → Reached w → w.epochs ≡ cells_of a → AreTables a → AreTables b → t < length w.rows → t < length w.made → n ≡ slice_index w.made t → (kept ≡ true → (past : List Told) → Stands past w → NoRace past t range write) → (kept ≡ true → ArePut (at a) (at b) (access t n range write)) → (kept ≡ false → b ≡ a) → Reached (record w { seen = w.seen; epochs = cells_of b })
reached_if w a b t range write n true r e k l lt lm is none put same = noted_reached w w.seen a b t range write n r e k l lt lm is (none refl) (inr (refl, put refl))
reached_if w a b t range write n false r e k l lt lm is none put same = same_reached w w.seen (cells_of b) r refl (ap cells_of (same refl) ∙ sym e)

-- by what the keeping answers

pub answers_by : (past : List Told) (t : ℕ) (range : Range) (write : Bool) (r : Result Unit WatchError) → IfErr r (λ e. e ≡ Memory) → NoRace past t range write → Answers past t range write r
answers_by past t range write (Ok x) h n = n
answers_by past t range write (Err (Race other addr)) h n = absurd cc
answers_by past t range write (Err Memory) h n = n

pub stands_by : (past : List Told) (w : WatchState) (seen : List Seen) (a b : Tables) (t : ℕ) (range : Range) (write : Bool) (n : ℕ) (r : Result Unit WatchError) → Stands past w → w.epochs ≡ cells_of a → AreTables a → AreTables b → t < length w.made → n ≡ slice_index w.made t → OnOk r (IsNoted w.seen seen (at a) (at b) (access t n range write)) → OnOk r (Stands (Accessed t range write ∷ past) (record w { seen = seen; epochs = cells_of b }))
stands_by past w seen a b t range write n (Ok x) h e k l lt is p = noted_stands past w seen a b t range write n h e k l lt is p
stands_by past w seen a b t range write n (Err y) h e k l lt is p = tt

pub reached_by : (w : WatchState) (seen : List Seen) (a b : Tables) (t : ℕ) (range : Range) (write : Bool) (n : ℕ) (r : Result Unit WatchError) → Reached w → w.epochs ≡ cells_of a → AreTables a → AreTables b → t < length w.rows → t < length w.made → n ≡ slice_index w.made t → ((past : List Told) → Stands past w → NoRace past t range write) → OnOk r (IsNoted w.seen seen (at a) (at b) (access t n range write)) → OnErr r (seen ≡ w.seen) → OnErr r (cells_of b ≡ cells_of a) → Reached (record w { seen = seen; epochs = cells_of b })
reached_by w seen a b t range write n (Ok x) h e k l lt lm is none p q s = noted_reached w seen a b t range write n h e k l lt lm is none p
reached_by w seen a b t range write n (Err y) h e k l lt lm is none p q s = same_reached w seen (cells_of b) h q (s ∙ sym e)

-- what holds of each past where the result is Ok
pub each_ok : (r : Result Unit WatchError) (P Q : List Told → Type 0) → ((past : List Told) → P past → OnOk r (Q past)) → OnOk r ((past : List Told) → P past → Q past)
each_ok (Ok x) P Q h = h
each_ok (Err e) P Q h = tt

-- constants race with nothing

pub constants_no_race : (past : List Told) (t : ℕ) (range : Range) (write : Bool) → ((x : ℕ) → covers range x ≡ true → is_constant x ≡ true) → NoRace past t range write
constants_no_race past t range write all x u i v = true_not_false (sym (all x (covered range x i)) ∙ v.no_constant)

pub constants_stand : (past : List Told) (w : WatchState) (t : ℕ) (range : Range) (write : Bool) → Stands past w → ((x : ℕ) → covers range x ≡ true → is_constant x ≡ true) → Stands (Accessed t range write ∷ past) w
constants_stand past w t range write h all =
    record {
      events = h.events;
      made = h.made;
      rows = h.rows;
      keys = h.keys;
      seen = last_constants_more past w.seen (listed w.epochs) t range write h.seen all;
    }
