-- Which events can stand in a log.
use Rattle.std.specs.Prelude.{◌≡◌, true, List}
use Rattle.std.specs.List.{AllByRecursion}
use Rattle.marks.specs.Marks.{is_event}
use Rattle.whole_runs.specs.Records.{full_record}
use Rattle.recorder_book.specs.Sizes.{IsInFull}
use Rattle.reference_recorder_marks.specs.declared.mark.Mark.{Mark}
use Rattle.reference_recorder_marks.specs.Marks.{act_of, mark_of}

-- the mark is no event, or its record can stand in a log in full
abbrev pub IsRecordable : Mark → Type 0
IsRecordable m = is_event (act_of m.act) ≡ true → IsInFull (full_record (mark_of m))

abbrev pub AreRecordable : List Mark → Type 0
AreRecordable ms = AllByRecursion IsRecordable ms
