-- The texts of events: their kinds, their names, their keys, and a line for each.
use Rattle.std.specs.Prelude.{ℕ, List, ◌++◌, length, codes, decimal}
use Rattle.std.specs.List.{flat_map}
use Rattle.run_events.specs.Class.{word_of}
use Rattle.run_events.specs.declared.key.KeyMark.{KeyMark}
use Rattle.run_events.specs.declared.event.EventName.{EventName}
use Rattle.run_events.specs.declared.event.Record.{Record}
use Rattle.run_events.specs.declared.event.Event.{Event}
use Rattle.run_events.specs.declared.event.Event.TheVariants.{Call, Ret, Up, UpRet, Alloc, Free, Stop}
use Rattle.log_closure.specs.Events.{LogEvent}

-- the word of the kind of an event
abbrev pub kind_word : Event → List ℕ
kind_word (Call func args) = codes "call"
kind_word (Ret same result outs) = codes "ret"
kind_word (Up func args) = codes "up"
kind_word (UpRet result) = codes "upret"
kind_word (Alloc size addr) = codes "alloc"
kind_word (Free addr) = codes "free"
kind_word (Stop reason) = codes "stop"

-- THREAD.INDEX
abbrev pub name_text : EventName → List ℕ
name_text name = decimal name.thread ++ codes "." ++ decimal name.index

-- a space, then CLASS:VALUE@TICKET
abbrev pub key_text : KeyMark → List ℕ
key_text m = codes " " ++ word_of m.key.class ++ codes ":" ++ decimal m.key.value ++ codes "@" ++
    decimal m.ticket

-- a space, KIND, a space, STEPS
abbrev pub kind_text : Record → List ℕ
kind_text r = codes " " ++ kind_word r.event ++ codes " " ++ decimal r.steps

-- CLOCK THREAD.INDEX KIND STEPS, then the keys
abbrev pub event_line : LogEvent → List ℕ
event_line e = decimal e.entry.clock ++ codes " " ++ name_text e.name ++ kind_text e.entry ++
    flat_map key_text e.entry.keys ++ codes "\n"

-- lines, one after the other
abbrev pub lines_text : List (List ℕ) → List ℕ
lines_text ls = flat_map (λ (line : List ℕ). line) ls

-- the last line: how many events there are
abbrev pub end_line : ℕ → List ℕ
end_line count = codes "events " ++ decimal count ++ codes "\n"

-- what `order` prints: a line for each event in this order, and the last line
abbrev pub order_text : List LogEvent → List ℕ
order_text es = flat_map event_line es ++ end_line (length es)
