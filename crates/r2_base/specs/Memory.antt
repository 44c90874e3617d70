-- What the objects in memory show.
use Rattle.std.specs.Prelude.{◌≡◌, ℕ, List, Option, Some}
use Rattle.r2_base.specs.declared.sure_files.SureFiles.{SureFiles}
use Rattle.r2_base.specs.declared.mem_files.MemFiles.{MemFiles}
use Rattle.r2_base.specs.declared.sinks.SureSink.{SureSink}
use Rattle.r2_base.specs.declared.sinks.MemSink.{MemSink}
use Rattle.r2_base.specs.Held.{held_in}
use Rattle.r2_base.specs.Seen.{Store, Stream, telling}

-- what a name holds
abbrev pub sure_file : SureFiles → List ℕ → Option (List ℕ)
sure_file files name = held_in files.files name

abbrev pub mem_file : MemFiles → List ℕ → Option (List ℕ)
mem_file files name = held_in files.files name

-- the numbers of the calls that fail, and the number of the next call
abbrev pub listed : MemFiles → List ℕ
listed files = files.fail.items

abbrev pub call_number : MemFiles → ℕ
call_number files = files.calls

-- the most bytes that one read gives
abbrev pub read_limit : MemFiles → ℕ
read_limit files = files.most

abbrev pub read_faults : MemFiles → ℕ
read_faults files = files.read_faults

abbrev pub write_faults : MemFiles → ℕ
write_faults files = files.write_faults

-- what `new` was told stays
pub record KeepsPlan (old new : MemFiles) : Type 0 where
  pub same_list : listed new ≡ listed old
  pub same_limit : read_limit new ≡ read_limit old

-- the bytes so far
abbrev pub sure_bytes : SureSink → List ℕ
sure_bytes sink = sink.bytes.items

abbrev pub mem_bytes : MemSink → List ℕ
mem_bytes sink = sink.bytes.items

abbrev pub sink_listed : MemSink → List ℕ
sink_listed sink = sink.fail.items

abbrev pub sink_call_number : MemSink → ℕ
sink_call_number sink = sink.calls

abbrev pub sink_faults : MemSink → ℕ
sink_faults sink = sink.faults

-- what is seen of each through its trait
abbrev pub sure_store : SureFiles → Store
sure_store files = telling (sure_file files) 0 0

abbrev pub mem_store : MemFiles → Store
mem_store files = telling (mem_file files) (read_faults files) (write_faults files)

abbrev pub sure_stream : SureSink → Stream
sure_stream sink = record { given = Some (sure_bytes sink); faults = 0 }

abbrev pub mem_stream : MemSink → Stream
mem_stream sink = record { given = Some (mem_bytes sink); faults = sink_faults sink }
