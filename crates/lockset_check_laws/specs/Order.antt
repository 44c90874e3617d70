-- Accesses of a global that a mutex guards are ordered.
use Rattle.std.specs.Prelude.{◌≡◌, ◌≢◌, ℕ, ◌<◌, ◌≤◌, true, List, [], ◌∷◌, length, Option, Some, None}
use Rattle.run_events.specs.declared.key.Class.TheVariants.{Mutex}
use Rattle.marks.specs.declared.side.Side.{Side}
use Rattle.marks.specs.declared.side.Side.TheVariants.{Replay, System}
use Rattle.marks.specs.Marks.{Act, Turn, Load, Store, Enter, Leave, Step, Fault, Made, Mark}
use Rattle.marks.specs.Bytes.{Byte, place}
use Rattle.replay_runs.specs.Runs.{Start, OfThread, OfKey, In, has, events_with}
use Rattle.replay_runs.specs.Known.{known}
use Rattle.replay_runs.specs.Keys.{key}
use Rattle.replay_runs.specs.Laws.{fresh}
use Rattle.lockset_check_laws.specs.Locks.{LockCalls, Deed, Takes, GivesBack, Frees, Drops, Other, deed, own, taken, holder}

-- each mark keeps a rule over the marks before it, of all threads and the newest first
abbrev pub AtEach : (List Mark → Mark → Type 0) → List Mark → Type 0
AtEach Rule [] = Unit {0}
AtEach Rule (m ∷ past) = Rule past m × AtEach Rule past

abbrev pub FreeFor : LockCalls → List Mark → Deed → Type 0
FreeFor l past (Takes side k) = holder l k past ≡ None
FreeFor l past (GivesBack k) = Unit {0}
FreeFor l past (Frees k) = Unit {0}
FreeFor l past (Drops k) = Unit {0}
FreeFor l past Other = Unit {0}

-- a mutex is taken only where no thread holds it
abbrev pub IsExclusive : LockCalls → List Mark → Mark → Type 0
IsExclusive l past m = FreeFor l past (deed l m.act)

-- the thread's last mark was the call that gives the mutex back
abbrev pub JustGaveBack : LockCalls → ℕ → List Mark → Type 0
JustGaveBack l k [] = ⊥
JustGaveBack l k (c ∷ mine) = deed l c.act ≡ GivesBack k

abbrev pub KeyedFor : LockCalls → List Mark → Mark → Deed → Type 0
KeyedFor l past m (Takes Replay k) = has m (OfKey (key Mutex k)) ≡ true
KeyedFor l past m (GivesBack k) = has m (OfKey (key Mutex k)) ≡ true
KeyedFor l past m (Frees k) = JustGaveBack l k (own m.thread past)
KeyedFor l past m (Takes System k) = Unit {0}
KeyedFor l past m (Drops k) = Unit {0}
KeyedFor l past m Other = Unit {0}

-- above the cut, what takes a mutex and what gives it back has the mutex as a key, and what frees it comes
-- right after
abbrev pub IsKeyed : LockCalls → List Mark → Mark → Type 0
IsKeyed l past m = KeyedFor l past m (deed l m.act)

-- the global with which the path of an access begins
abbrev pub global_of : Act → Option ℕ
global_of (Load origin at bytes) = origin
global_of (Store origin at bytes) = origin
global_of Turn = None
global_of (Enter func args at bytes) = None
global_of (Leave at size) = None
global_of (Step func args result ins pieces freed) = None
global_of (Fault kind crosses ins outs access) = None
global_of (Made event) = None

abbrev pub DropsOwn : LockCalls → List Mark → Deed → Type 0
DropsOwn l mine (Drops k) = taken l k mine ≡ Some System
DropsOwn l mine (Takes side k) = Unit {0}
DropsOwn l mine (GivesBack k) = Unit {0}
DropsOwn l mine (Frees k) = Unit {0}
DropsOwn l mine Other = Unit {0}

-- a thread touches a guarded global only on the side on which it took the mutex, and gives back below the
-- cut
-- only what
-- it took there
pub record IsHeld (l : LockCalls) (guard : ℕ → Option ℕ) (past : List Mark) (m : Mark) : Type 0 where
  pub guarded : (o k : ℕ) → global_of m.act ≡ Some o → guard o ≡ Some k →
      taken l k (own m.thread past) ≡ Some m.side
  pub drops : DropsOwn l (own m.thread past) (deed l m.act)

-- the numbers of a thread's marks never fall
abbrev pub Rises : List Mark → Mark → Type 0
Rises past m = (x : Mark) → In x past → x.thread ≡ m.thread → x.index ≤ m.index

-- marks of all threads, the newest first, in which the guards are kept
pub record GuardsKept (l : LockCalls) (guard : ℕ → Option ℕ) (past : List Mark) : Type 0 where
  pub exclusive : AtEach (IsExclusive l) past
  pub keyed : AtEach (IsKeyed l) past
  pub held : AtEach (IsHeld l guard) past
  pub rising : AtEach Rises past

-- above the cut, the mark touches the global
pub record Touches (m : Mark) (o : ℕ) : Type 0 where
  pub global : global_of m.act ≡ Some o
  pub above : m.side ≡ Replay

-- a thread that has taken the guard above the cut knows each access of the global by the others above the
-- cut
abbrev pub GuardTellsOfAccesses : LockCalls → (ℕ → Option ℕ) → Type 0
GuardTellsOfAccesses l guard =
    (past : List Mark) → GuardsKept l guard past → (a : Mark) → In a past → (o k : ℕ) → Touches a o →
    guard o ≡ Some k → (t : ℕ) → t ≢ a.thread → taken l k (own t past) ≡ Some Replay →
    place a < known past (OfThread t) a.thread

-- of two accesses above the cut of one guarded global by two threads, the later one's thread knows the
-- earlier one
abbrev pub GuardedAccessesAreOrdered : LockCalls → (ℕ → Option ℕ) → Type 0
GuardedAccessesAreOrdered l guard =
    (past : List Mark) (m : Mark) → GuardsKept l guard (m ∷ past) → (a : Mark) → In a past → (o k : ℕ) →
    Touches a o → Touches m o → guard o ≡ Some k → m.thread ≢ a.thread →
    place a < known past (OfThread m.thread) a.thread

abbrev pub IsFree : LockCalls → List Mark → Deed → Type 0
IsFree l mine (Takes side k) = taken l k mine ≡ None
IsFree l mine (GivesBack k) = Unit {0}
IsFree l mine (Frees k) = Unit {0}
IsFree l mine (Drops k) = Unit {0}
IsFree l mine Other = Unit {0}

-- a thread takes only what it hasn't taken
abbrev pub TakesFree : LockCalls → List Mark → Type 0
TakesFree l [] = Unit {0}
TakesFree l (m ∷ mine) = IsFree l mine (deed l m.act) × TakesFree l mine

-- what a thread has taken it holds, so that no other thread has taken it, and it takes nothing twice
pub record TakenIsHeld (l : LockCalls) (past : List Mark) : Type 0 where
  pub holds : (k t : ℕ) (side : Side) → taken l k (own t past) ≡ Some side → holder l k past ≡ Some t
  pub takes : (t : ℕ) → TakesFree l (own t past)

abbrev pub ExclusiveLocksAreHeld : LockCalls → Type 0
ExclusiveLocksAreHeld l = (past : List Mark) → AtEach (IsExclusive l) past → AtEach (IsKeyed l) past →
    TakenIsHeld l past

-- each mark has the number of its thread's events before it
abbrev pub IsCounted : Start → List Mark → Mark → Type 0
IsCounted s past m = m.index ≡ length (events_with s (OfThread m.thread) past)

-- marks that are counted, as those of runs are, rise
abbrev pub CountedMarksRise : Type 0
CountedMarksRise = (memory : ℕ → Byte) (past : List Mark) → AtEach (IsCounted (fresh memory)) past →
    AtEach Rises past
