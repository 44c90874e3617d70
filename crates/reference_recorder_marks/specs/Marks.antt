-- Which marks values of this crate stand for, field for field, and which past a vector of them is.
use Rattle.std.specs.Prelude.{List, map, reverse, None}
use Rattle.marks.specs.Marks as shown
use Rattle.reference_recorder_marks.specs.declared.mark.Access.{Access}
use Rattle.reference_recorder_marks.specs.declared.mark.Access.TheVariants as access
use Rattle.reference_recorder_marks.specs.declared.mark.Commit.{Commit}
use Rattle.reference_recorder_marks.specs.declared.mark.Commit.TheVariants as commit
use Rattle.reference_recorder_marks.specs.declared.mark.EventKind.{EventKind}
use Rattle.reference_recorder_marks.specs.declared.mark.EventKind.TheVariants as kind
use Rattle.reference_recorder_marks.specs.declared.mark.Event.{Event}
use Rattle.reference_recorder_marks.specs.declared.mark.Act.{Act}
use Rattle.reference_recorder_marks.specs.declared.mark.Act.TheVariants as act
use Rattle.reference_recorder_marks.specs.declared.mark.Mark.{Mark}

abbrev pub access_of : Access → shown.Access
access_of access.Nowhere = shown.Nowhere
access_of (access.Reading r) = shown.Reading r
access_of (access.Writing r) = shown.Writing r
access_of (access.Freeing at) = shown.Freeing at

abbrev pub commit_of : Commit → shown.Commit
commit_of commit.NoRegion = shown.NoRegion
commit_of commit.Withheld = shown.Withheld
commit_of (commit.Released key region) = shown.Released key region

abbrev pub kind_of : EventKind → shown.EventKind
kind_of (kind.Call f args ins outs prepared) = shown.Call f args ins outs prepared
kind_of (kind.Ret f args v same outs c) = shown.Ret f args v same outs (commit_of c)
kind_of (kind.Up f args) = shown.Up f args
kind_of (kind.UpRet f v) = shown.UpRet f v
kind_of (kind.Alloc at size) = shown.Alloc at size
kind_of (kind.Free at size) = shown.Free at size
kind_of (kind.Stop fault) = shown.Stop fault

abbrev pub event_of : Event → shown.Event
event_of e = record { kind = kind_of e.kind; steps = e.steps; keys = e.keys; clock = e.clock }

abbrev pub act_of : Act → shown.Act
act_of act.Turn = shown.Turn
act_of (act.Load origin at bytes) = shown.Load origin at bytes
act_of (act.Store origin at bytes) = shown.Store origin at bytes
act_of (act.Enter f args at bytes) = shown.Enter f args at bytes
act_of (act.Leave at size) = shown.Leave at size
act_of (act.Step f args v ins pieces freed) = shown.Step f args v ins pieces freed
act_of (act.Fault kind crosses ins outs a) = shown.Fault kind crosses ins outs (access_of a)
act_of (act.Made e) = shown.Made (event_of e)

abbrev pub mark_of : Mark → shown.Mark
mark_of m = record { thread = m.thread; side = m.side; index = m.index; act = act_of m.act }

-- the newest first, of marks the oldest first
abbrev pub past : List Mark → List shown.Mark
past ms = reverse (map mark_of ms)

-- ---- origins

-- the mark without the global that a path begins with, of which code that runs tells nothing. Nothing but
-- what a thread's code comes to depends on it
abbrev pub without_origin : shown.Act → shown.Act
without_origin shown.Turn = shown.Turn
without_origin (shown.Load origin at bytes) = shown.Load None at bytes
without_origin (shown.Store origin at bytes) = shown.Store None at bytes
without_origin (shown.Enter f args at bytes) = shown.Enter f args at bytes
without_origin (shown.Leave at size) = shown.Leave at size
without_origin (shown.Step f args v ins pieces freed) = shown.Step f args v ins pieces freed
without_origin (shown.Fault kind crosses ins outs a) = shown.Fault kind crosses ins outs a
without_origin (shown.Made e) = shown.Made e

abbrev pub without_origins : List shown.Mark → List shown.Mark
without_origins ms = map (λ (m : shown.Mark). record m { act = without_origin m.act }) ms
