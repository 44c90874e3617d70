-- Causal order (Lamport 1978), over any kind of event that is numbered among those with which it has
-- something in common.
use Rattle.std.specs.Prelude.{◌≡◌, ◌⊎◌, ℕ, suc, ◌≤◌, Bool, false, ◌&&◌, ◌||◌, if◌then◌else◌, ◌==◌, List, [], ◌∷◌}
use Rattle.run_events.specs.Class.{number_of}
use Rattle.run_events.specs.declared.key.Key.{Key}
use Rattle.run_events.specs.declared.key.KeyMark.{KeyMark}

-- what ties events to each other: the thread that makes them, or a key
pub data Link : Type 0 where
  OfThread : (thread : ℕ) → Link
  OfKey : (key : Key) → Link

abbrev pub same_key : Key → Key → Bool
same_key j k = number_of j.class == number_of k.class && j.value == k.value

-- the key is among these
abbrev pub is_listed : List KeyMark → Key → Bool
is_listed [] k = false
is_listed (q ∷ qs) k = same_key q.key k || is_listed qs k

-- its ticket there
abbrev pub ticket_in : List KeyMark → Key → ℕ
ticket_in [] k = 0
ticket_in (q ∷ qs) k = if same_key q.key k then q.ticket else ticket_in qs k

abbrev pub In : {E : Type 0} → E → List E → Type 0
In x [] = ⊥
In x (y ∷ ys) = (x ≡ y) ⊎ In x ys

-- how events are numbered: that an event has a link, and so many events with the link come before it. Of a
-- thread the
-- number is the event's index, of a key its ticket
abbrev pub Numbers : Type 0 → Type 1
Numbers E = E → Link → ℕ → Type 0

-- of the events of a set, e comes directly before f by one link
pub record DirectlyPrecedes {E : Type 0} (at : Numbers E) (set : List E) (e f : E) : Type 0 where
  pub link : Link
  pub number : ℕ
  pub e_in : In e set
  pub f_in : In f set
  pub first : at e link number
  pub second : at f link (suc number)

-- the set holds what comes directly before the event: by each link by which it isn't the first
abbrev pub HoldsPredecessors : {E : Type 0} → Numbers E → List E → E → Type 0
HoldsPredecessors {E} at set f = (l : Link) (n : ℕ) → at f l (suc n) → (e : E) × In e set × at e l n

-- e happens before f, or is f
pub data LeadsTo {E : Type 0} (at : Numbers E) (set : List E) : E → E → Type 0 where
  itself : {e : E} → In e set → LeadsTo at set e e
  onward : {e f g : E} → DirectlyPrecedes at set e f → LeadsTo at set f g → LeadsTo at set e g

-- a chain of n events of the set ends in the event; each comes directly before the next
pub data Chain {E : Type 0} (at : Numbers E) (set : List E) : ℕ → E → Type 0 where
  begins : {e : E} → In e set → Chain at set 1 e
  goes_on : {n : ℕ} {e f : E} → Chain at set n e → DirectlyPrecedes at set e f → Chain at set (suc n) f

-- the clock of an event is the length of the longest chain that ends in it
pub record IsClock {E : Type 0} (at : Numbers E) (set : List E) (clock : ℕ) (e : E) : Type 0 where
  pub chain : Chain at set clock e
  pub most : (n : ℕ) → Chain at set n e → n ≤ clock
