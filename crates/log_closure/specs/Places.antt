-- Places of events in a file.
use Rattle.std.specs.Prelude.{ℕ, ◌+◌, Bool, ◌==◌, map, slice_index_or, List, [], ◌∷◌}
use Rattle.std.specs.List.{filter}
use Rattle.std.specs.declared.cmp.Ordering.{Ordering}
use Rattle.std.specs.Ordering.{nat_cmp, ordering_then}
use Rattle.run_events.specs.declared.event.Event.TheVariants.{UpRet}
use Rattle.run_events.specs.declared.event.Record.{Record}
use Rattle.log_closure.specs.declared.place.LogPlace.{LogPlace}
use Rattle.log_closure.specs.Events.{LogEvent, Part}

abbrev pub place_cmp : LogPlace → LogPlace → Ordering
place_cmp a b = ordering_then (nat_cmp a.clock b.clock)
    (ordering_then (nat_cmp a.thread b.thread)
    (ordering_then (nat_cmp a.index b.index) (nat_cmp a.at b.at)))

-- the place of an event that stands at n
abbrev pub place_of : ℕ → LogEvent → LogPlace
place_of n e = record { clock = e.entry.clock; thread = e.name.thread; index = e.name.index; at = n }

-- the places of events of which the first stands at n
abbrev pub places_from : ℕ → List LogEvent → List LogPlace
places_from n [] = []
places_from n (e ∷ es) = place_of n e ∷ places_from (n + 1) es

-- what stands past the end of a file
abbrev pub no_record : Record
no_record = record { thread = 0; steps = 0; clock = 0; keys = []; event = UpRet 0 }

-- the event at a place
abbrev pub event_at : List Record → LogPlace → LogEvent
event_at rs p = record {
  name = record { thread = p.thread; index = p.index };
  entry =
      slice_index_or rs p.at no_record;
}

abbrev pub events_at : List Record → List LogPlace → List LogEvent
events_at rs ps = map (event_at rs) ps

abbrev pub part_at : List Record → List LogPlace → Bool → Part
part_at rs ps whole = record { events = events_at rs ps; whole = whole }

abbrev pub of_place : ℕ → LogPlace → Bool
of_place t p = p.thread == t

-- where the events of the thread stand in the file
abbrev pub thread_places : ℕ → List LogPlace → List ℕ
thread_places t ps = map (λ (p : LogPlace). p.at) (filter (of_place t) ps)
