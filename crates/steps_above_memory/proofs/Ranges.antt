-- What the checks of one range find where memory or the watch refuses it.
use Rattle.std.proofs.Common.{◌≡◌, ◌↔◌, ⊎_elim, inl, ℕ, ◌^◌, ◌<◌, Bool, true, ◌&&◌, ◌||◌, not, List, [], Some, Ok, Err, refl, sym, subst}
use Rattle.std.proofs.lemmas.Bool.{and_parts, or_cases}
use Rattle.marks.specs.declared.breach.BreachKind.TheVariants as breach
use Rattle.marks.specs.Places.{is_constant}
use Rattle.marks.specs.declared.range.Range.{Range}
use Rattle.marks.specs.Ranges.{range, covers, IsInRange}
use Rattle.marks.specs.Ranges as marks
use Rattle.marks.specs.Marks.{Mark}
use Rattle.marks.specs.Bytes.{Byte, reads, writes}
use Rattle.marks.proofs.Touched.{or_true_right}
use Rattle.space_memory_access.specs.declared.refusal.Refusal.{Refusal}
use Rattle.space_memory_access.specs.declared.refusal.Refusal.TheVariants.{NotLive, Pending, OtherSpace, ReadOnly, StackFull, KeyInUse, NoKey, Size}
use Rattle.space_memory_access.specs.Accesses.{IsAllowed, IsRefused}
use Rattle.space_memory_laws.specs.Refusals.{access, finding_of, FindsWhatIsRefused}
use Rattle.space_memory_laws.proofs.Cells.{cover_parts, covered}
use Rattle.space_memory_laws.proofs.Refusals.{second, findings}
use Rattle.replay_runs.specs.Runs.{Start}
use Rattle.replay_runs.specs.Interface.{Program}
use Rattle.replay_runs.specs.Laws.{fresh}
use Rattle.replay_runs.specs.Passing.{Unraced}
use Rattle.replay_runs.specs.Checks.{Checks, BreachFound, Done, Finds, Races, race_check, range_checks}
use Rattle.race_watch.specs.declared.error.WatchError.{WatchError}
use Rattle.race_watch.specs.declared.error.WatchError.TheVariants as error
use Rattle.race_watch.specs.Told.{IsRaced, IsRace}
use Rattle.race_watch.specs.Stands.{Answers, AnswersBy}
use Rattle.race_watch.specs.Stands as watch
use Rattle.race_watch_laws.specs.Told.{told}
use Rattle.race_watch_laws.proofs.Races.{races_same}
use Rattle.steps_above_memory.specs.declared.above.MemoryAbove.{MemoryAbove}
use Rattle.steps_above_memory.specs.declared.refusal.StepRefusal.{StepRefusal}
use Rattle.steps_above_memory.specs.Above.{StandsForAbove}
use Rattle.steps_above_memory.specs.Refusals.{IsFound, refusal_of, refusal_by}
use Rattle.steps_above_memory.specs.Steps.{FindsRefusal}

-- what is found is the refusal
pub as_found : (cs : Checks) (r : Refusal) → Finds cs (finding_of r) → IsFound cs (refusal_of r)
as_found cs (NotLive x) h = h
as_found cs (Pending x) h = h
as_found cs (OtherSpace x) h = h
as_found cs (ReadOnly x) h = h
as_found cs (StackFull x) h = h
as_found cs (KeyInUse x) h = h
as_found cs (NoKey x) h = h
as_found cs (Size x) h = h

-- whoever races at a byte touches it
racer_touches : (r w v k : Bool) → (w || (v && (not k && (r || w)))) ≡ true → (r || w) ≡ true
racer_touches r w v k e = ⊎_elim
    (λ z. or_true_right r w z)
    (λ z. (and_parts (not k) (r || w) (and_parts v (not k && (r || w)) z).1).1)
    (or_cases w (v && (not k && (r || w))) e)

module _ (program : Program) (memory : ℕ → Byte) (past : List Mark) (above : MemoryAbove) (h : StandsForAbove program memory past above) (t addr len : ℕ) (write : Bool) (small : addr < 2 ^ 64) where
  abbrev s : Start
  s = fresh memory

  abbrev r : Range
  r = record { addr = addr; len = len }

  races : (x u : ℕ) → IsRaced t write (told past) x u ↔ Races past t write x u
  races x u = races_same program memory past h.goes_well.calm.steps t write x u

  in_range : (x u : ℕ) → covers r x ≡ true → Races past t write x u → IsInRange r x
  in_range x u c b =
      let p = cover_parts r x c in
      (p.0, p.1, h.goes_well.addresses b.0 b.1 x (racer_touches (reads b.0.act x) (writes b.0.act x) write (is_constant x) b.4))

  -- where the watch sees no race there is none
  pub unraced : watch.NoRace (told past) t r write → Unraced past t write (range addr len)
  unraced none x u c b = none x u (in_range x u c b) ((races x u).1 b)

  pub race_found : (other at : ℕ) → IsRace t r write (told past) other at → Finds (race_check past t write (range addr len) Done) (BreachFound breach.Race at (Some other))
  race_found other at b =
      inl (
        at,
        (
          (covered r at b.first.in_range.0 b.first.in_range.1, (other, (races at other).0 b.raced)),
          λ y c. b.first.least y (in_range y c.1.0 c.0 c.1.1) (c.1.0, (races y c.1.0).1 c.1.1),
        ),
        (other, ((races at other).0 b.raced, λ u c. b.least u ((races at u).1 c)), refl),
      )

  pub finds : watch.NoRace (told past) t r write → FindsWhatIsRefused s past above.spaces t addr len write
  finds none = findings s past above.spaces t addr len write h.spaces small (unraced none)

  -- a refusal by the watch, where memory is the own side's
  pub by_watch : (e : WatchError) →
      ((x : ℕ) → IsRefused above.spaces.bytes above.spaces.held.regions (access t addr len write) (OtherSpace x) → ⊥) →
      Answers (told past) t r write (Err e) → IsFound (range_checks s past t write [] (range addr len) Done) (refusal_by e)
  by_watch (error.Race other at) own b = (second s past above.spaces t addr len write small).race (BreachFound breach.Race at (Some other)) own (race_found other at b)
  by_watch error.Memory own b = tt

-- ---- for every run

own_if_else : (above : MemoryAbove) (t addr len : ℕ) (write : Bool) (r : Refusal) →
    IsRefused above.spaces.bytes above.spaces.held.regions (access t addr len write) r → ((x : ℕ) → r ≡ OtherSpace x → ⊥) → (x : ℕ) →
    IsRefused above.spaces.bytes above.spaces.held.regions (access t addr len write) (OtherSpace x) → ⊥
own_if_else above t addr len write (NotLive y) h ne x k = h.0 x k.in_range k.holds
own_if_else above t addr len write (Pending y) h ne x k = h.0 x k.in_range k.holds
own_if_else above t addr len write (OtherSpace y) h ne x k = ne y refl
own_if_else above t addr len write (ReadOnly y) h ne x k = h.0 x k.in_range k.holds
own_if_else above t addr len write (StackFull y) h ne x k = h
own_if_else above t addr len write (KeyInUse y) h ne x k = h
own_if_else above t addr len write (NoKey y) h ne x k = h
own_if_else above t addr len write (Size y) h ne x k = h

-- the checks of one range find this, whatever the run
abbrev pub FindsAt : MemoryAbove → ℕ → Bool → Range → StepRefusal → Type 0
FindsAt above t write r refusal = (program : Program) (memory : ℕ → Byte) (past : List Mark) → StandsForAbove program memory past above → IsFound (range_checks (fresh memory) past t write [] (marks.range r.addr r.len) Done) refusal

pub found_at : (above : MemoryAbove) (t : ℕ) (write : Bool) (r : Range) (refused : Refusal) (refusal : StepRefusal) →
    FindsRefusal above t write r refused refusal →
    IsRefused above.spaces.bytes above.spaces.held.regions (access t r.addr r.len write) refused → FindsAt above t write r refusal
found_at above t write r refused refusal finds p program memory past h = finds program memory past h p

module _ (above : MemoryAbove) (t : ℕ) (write : Bool) (range : Range) (small : range.addr < 2 ^ 64) where
  -- the other side's memory is found first
  pub foreign : (x : ℕ) → FindsRefusal above t write range (OtherSpace x) (refusal_of (OtherSpace x))
  foreign x program memory past h p = (second (fresh memory) past above.spaces t range.addr range.len write small).other_space x p

  pub foreign_as : (r : Refusal) (x : ℕ) → r ≡ OtherSpace x → FindsRefusal above t write range r (refusal_of r)
  foreign_as r x is = subst (λ q. FindsRefusal above t write range q (refusal_of q)) (sym is) (foreign x)

  -- then a race
  pub raced : (r : Refusal) (e : WatchError) → ((x : ℕ) → r ≡ OtherSpace x → ⊥) → AnswersBy above.watch t range write (Err e) → FindsRefusal above t write range r (refusal_by e)
  raced r e ne answers program memory past h p = by_watch program memory past above h t range.addr range.len write small e (own_if_else above t range.addr range.len write r p ne) (answers (told past) h.watch)

  -- then what memory refuses
  pub unraced_refusal : (r : Refusal) → AnswersBy above.watch t range write (Ok tt) → FindsRefusal above t write range r (refusal_of r)
  unraced_refusal r answers program memory past h p = as_found
      (range_checks (fresh memory) past t write [] (marks.range range.addr range.len) Done) r
      ((finds program memory past above h t range.addr range.len write small (answers (told past) h.watch)).refused r p)

  -- a race of what memory allows
  pub raced_alone : (e : WatchError) → IsAllowed above.spaces.bytes above.spaces.held.regions (access t range.addr range.len write) →
      AnswersBy above.watch t range write (Err e) → FindsAt above t write range (refusal_by e)
  raced_alone e ok answers program memory past h = by_watch program memory past above h t range.addr range.len write small e (λ x k. ok.own x k.in_range k.holds) (answers (told past) h.watch)
