-- What is written of a run: its log, and what it printed.
use Rattle.std.specs.Prelude.{ℕ, ◌%◌, Bool, ◌&&◌, if◌then◌else◌, ◌==◌, List, [], ◌∷◌, ◌++◌, take, reverse, flat_map}
use Rattle.std.specs.List.{range_with_len}
use Rattle.marks.specs.Places.{thread_count}
use Rattle.marks.specs.Ranges.{Piece}
use Rattle.marks.specs.Marks.{Act, Turn, Load, Store, Enter, Leave, Step, Fault, Made, Mark, is_event}
use Rattle.c_builtins.specs.declared.builtin.Builtin.TheVariants.{Print}
use Rattle.c_builtins.specs.Table.{number_of}
use Rattle.log_codec.specs.LogText.{Chunk, log_text}
use Rattle.replay_runs.specs.Runs.{history}
use Rattle.replay_runs.specs.Records.{record_of, pieces_in_a_row, output}
use Rattle.whole_runs.specs.World.{World, begin}
use Rattle.whole_runs.specs.Sides.{seen, events_by}
use Rattle.whole_runs.specs.Records.{version}

-- ---- the log

-- how many records of a thread are kept back: a thread puts its records out as one chunk when they number
-- `chunk`
abbrev pub kept_back : World → List Mark → (thread : ℕ) → ℕ
kept_back w run t = events_by w t run % w.file.chunk

-- a chunk of a thread's last n records
abbrev pub last_records : World → List Mark → (thread n : ℕ) → Chunk
last_records w run t n = record { thread = t; records = reverse (take n (history record_of (begin w) t run)) }

-- the last mark of the run is an event with which the thread's records number `chunk`
abbrev pub fills_chunk : World → (now : List Mark) → Mark → Bool
fills_chunk w now m = is_event m.act && kept_back w now m.thread == 0

abbrev pub new_chunks : World → (now : List Mark) → Mark → List Chunk
new_chunks w now m = if fills_chunk w now m then last_records w now m.thread w.file.chunk ∷ [] else []

-- the chunks that are put out in a run, its Stops like all other events
abbrev pub chunks : World → List Mark → List Chunk
chunks w [] = []
chunks w (m ∷ past) = chunks w past ++ new_chunks w (m ∷ past) m

-- what a thread keeps back to the end, if anything
abbrev pub rest : World → List Mark → (thread : ℕ) → List Chunk
rest w run t = if kept_back w run t == 0 then [] else last_records w run t (kept_back w run t) ∷ []

-- the chunks, and then what each thread kept back, in the order of threads
abbrev pub all_chunks : World → List Mark → List Chunk
all_chunks w run = chunks w run ++ flat_map (rest w run) (range_with_len 0 thread_count)

abbrev pub log_of : World → List Mark → List ℕ
log_of w run = log_text version (all_chunks w run)

-- ---- output

-- what was printed above the cut, by the calls of `r2_print`
abbrev pub replay_output : World → List Mark → List ℕ
replay_output w run = output (begin w) (seen run)

abbrev pub printed_below : (func : ℕ) → List Piece → List ℕ
printed_below f ins = if f == number_of Print then pieces_in_a_row ins else []

abbrev pub act_printed : Act → List ℕ
act_printed Turn = []
act_printed (Load origin at bytes) = []
act_printed (Store origin at bytes) = []
act_printed (Enter f args at bytes) = []
act_printed (Leave at size) = []
act_printed (Step f args result ins pieces freed) = printed_below f ins
act_printed (Fault kind crosses ins outs access) = []
act_printed (Made e) = []

-- what was printed below it, in the order of steps
abbrev pub system_output : List Mark → List ℕ
system_output [] = []
system_output (m ∷ past) = system_output past ++ act_printed m.act
