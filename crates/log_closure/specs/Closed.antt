-- The closed part of the events that are kept of a log, and its order.
use Rattle.std.specs.Prelude.{◌≡◌, ◌↔◌, ◌<◌, List, [], ◌∷◌, ◌⊎◌}
use Rattle.log_closure.specs.Events.{LogEvent, In}
use Rattle.log_closure.specs.Predecessors.{HoldsPredecessors}

-- kept events that hold the direct predecessors of each of them
abbrev pub IsClosed : List LogEvent → List LogEvent → Type 0
IsClosed kept set = (e : LogEvent) → In e set → In e kept × HoldsPredecessors set e

-- the event is in the union of all closed sets
abbrev pub InUnion : List LogEvent → LogEvent → Type 0
InUnion kept e = (set : List LogEvent) × IsClosed kept set × In e set

-- by clock, then by thread
abbrev pub Precedes : LogEvent → LogEvent → Type 0
Precedes e f = (e.entry.clock < f.entry.clock) ⊎
    ((e.entry.clock ≡ f.entry.clock) × (e.name.thread < f.name.thread))

-- each event precedes all after it
abbrev pub Ordered : List LogEvent → Type 0
Ordered [] = Unit {0}
Ordered (e ∷ es) = ((f : LogEvent) → In f es → Precedes e f) × Ordered es

-- the union of all closed sets, in order
abbrev pub IsClosedPart : List LogEvent → List LogEvent → Type 0
IsClosedPart kept part = ((e : LogEvent) → In e part ↔ InUnion kept e) × Ordered part
