-- What ties events to each other: the number of an event in its thread, and the ticket of each of its keys.
-- Threads have the class 0.
use Rattle.std.specs.Prelude.{◌-◌, map, Bool, ◌&&◌, if◌then◌else◌, ◌==◌, List, [], ◌∷◌}
use Rattle.std.specs.List.{list_any, flat_map}
use Rattle.run_events.specs.Class.{number_of}
use Rattle.run_events.specs.declared.key.KeyMark.{KeyMark}
use Rattle.log_closure.specs.declared.tie.Tie.{Tie}
use Rattle.log_closure.specs.Events.{LogEvent, marks}

abbrev pub same : Tie → Tie → Bool
same s t = s.class == t.class && (s.value == t.value && s.number == t.number)

abbrev pub listed : List Tie → Tie → Bool
listed ts t = list_any (λ s. same s t) ts

abbrev pub key_tie : KeyMark → Tie
key_tie m = record { class = number_of m.key.class; value = m.key.value; number = m.ticket }

abbrev pub keys : LogEvent → List Tie
keys e = map key_tie (marks e)

abbrev pub thread_tie : LogEvent → Tie
thread_tie e = record { class = 0; value = e.name.thread; number = e.name.index }

abbrev pub ties : LogEvent → List Tie
ties e = thread_tie e ∷ keys e

abbrev pub ties_of : List LogEvent → List Tie
ties_of es = flat_map ties es

abbrev pub keys_of : List LogEvent → List Tie
keys_of es = flat_map keys es

-- the tie of the event before
abbrev pub earlier : Tie → Tie
earlier t = record { class = t.class; value = t.value; number = t.number - 1 }

-- the ties of the direct predecessors of an event with these ties
abbrev pub needs : List Tie → List Tie
needs [] = []
needs (t ∷ ts) = if t.number == 0 then needs ts else earlier t ∷ needs ts
