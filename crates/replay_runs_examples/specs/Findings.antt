-- Steps at which the checks find something, each beside one that just keeps the rule.
use Rattle.std.specs.Prelude.{ℕ, zero, suc, ◌+◌, ◌*◌, if◌then◌else◌, ◌==◌, List, [], ◌∷◌, ◌++◌, false}
use Rattle.run_events.specs.declared.key.Class.TheVariants.{Callback}
use Rattle.marks.specs.declared.side.Side.TheVariants.{Replay}
use Rattle.marks.specs.declared.range.Range.{Range}
use Rattle.marks.specs.Ranges.{range, within}
use Rattle.marks.specs.Marks.{Call, Ret, Up, Enter, NoRegion, Made, Mark}
use Rattle.marks.specs.Bytes.{Dead, Live, Byte}
use Rattle.marks.specs.Wants.{Want, Outside, Enters, Calls, Below}
use Rattle.replay_runs.specs.Runs.{Start, has}
use Rattle.replay_runs.specs.Interface.{Program}
use Rattle.replay_runs.specs.Keys.{key}
use Rattle.replay_runs.specs.Checks.{Finding, Answered, Passes, Finds, checks, return_checks}
use Rattle.replay_runs.specs.Laws.{IsReplayRun, fresh}
use Rattle.replay_runs_examples.specs.Programs.{Code, Doing, Steps, Makes, always, here, main, mark, move, program, read_later, read_now, returns, await, run_of, whole, zeros}

-- code of thread 0 that enters main and goes on so
abbrev pub only : Code → ℕ → Code
only ws zero = always Outside ∷ always (Enters false main [] (zeros 16)) ∷ ws
only ws (suc t) = []

abbrev pub coming_to : Code → Program
coming_to ws = program whole (only ws)

abbrev pub entered : List Doing
entered = Makes 0 (Up main []) ∷ Steps 0 (Enter main [] 0x20000000 (zeros 16)) ∷ []

-- code that comes to a step after some others, what it did before, and what comes next
pub record Example : Type 0 where
  pub program : Program
  pub done : List Doing
  pub want : Want

abbrev pub past : Example → List Mark
past x = run_of x.program here x.done

-- the checks find this there
abbrev pub Meets : Example → Finding → Type 0
Meets x f = Finds (checks x.program.interface here (past x) 0 x.want) f

-- this may be done there
abbrev pub Goes : Example → Doing → Type 0
Goes x d = IsReplayRun x.program here (mark x.program here (past x) d ∷ past x)

-- the first step in main
abbrev pub first : Want → Example
first w = record { program = coming_to (always w ∷ []); done = entered; want = w }

-- `read_later(0x10000000, 4, 9)`, which prepares four bytes under the key 9
abbrev pub region : List ℕ
region = 0x10000000 ∷ 4 ∷ 9 ∷ []

abbrev pub prepares : List ℕ → ℕ → Range → Doing
prepares args k r = Makes 0 (Call read_later args [] [] (record { key = k; range = r } ∷ []))

abbrev pub prepared : List Doing
prepared = entered ++ prepares region 9 (range 0x10000000 4) ∷ returns 0 read_later region 0 ∷ []

-- the step after it
abbrev pub later : Want → Example
later w = record {
  program = coming_to (always (Calls false read_later region) ∷ always (Below read_later region) ∷
      always w ∷ []);
  done = prepared;
  want = w;
}

-- a call of `move`, which reads four bytes and holds four
abbrev pub moves : ℕ → ℕ → Want
moves p q = Calls false move (p ∷ q ∷ [])

abbrev pub moved : Doing
moved = Makes 0 (Call move (0x10000000 ∷ 0x10000008 ∷ []) (record {
  range = range 0x10000000 4;
  bytes =
      zeros 4;
} ∷ []) (range 0x10000008 4 ∷ []) [])

-- the return of a call
pub record Return : Type 0 where
  pub program : Program
  pub done : List Doing
  pub func : ℕ
  pub args : List ℕ

abbrev pub called : Return → List Mark
called r = run_of r.program here r.done

-- with this result, and this from below, the checks find this there
abbrev pub Gives : Return → Answered → ℕ → Finding → Type 0
Gives r below v f = Finds (return_checks r.program.interface here (called r) below r.func r.args v) f

abbrev pub Allows : Return → Answered → ℕ → Type 0
Allows r below v = Passes (return_checks r.program.interface here (called r) below r.func r.args v)

abbrev pub Returned : Return → Doing → Type 0
Returned r d = IsReplayRun r.program here (mark r.program here (called r) d ∷ called r)

-- `read_now(0x10000000)`, which fills some of four bytes
abbrev pub reading : Return
reading = record {
  program = coming_to (always (Calls false read_now (0x10000000 ∷ [])) ∷
      always (Below read_now (0x10000000 ∷ [])) ∷ []);
  done = entered ++ Makes 0 (Call read_now (0x10000000 ∷ []) [] (range 0x10000000 4 ∷ []) []) ∷ [];
  func = read_now;
  args = 0x10000000 ∷ [];
}

abbrev pub filled : List ℕ → Doing
filled bytes = Makes 0 (Ret read_now (0x10000000 ∷ []) 4 false
    (record { range = range 0x10000000 4; bytes = bytes } ∷ []) NoRegion)

-- a scripted piece of so many bytes
abbrev pub scripted : ℕ → Answered
scripted n = record { pieces = n ∷ []; committed = 0; changed = λ x. false }

-- code below changed the byte at x
abbrev pub changed : ℕ → Answered
changed x = record { pieces = []; committed = 0; changed = λ y. y == x }

-- `await(9)`, where no region was prepared, and where one was
abbrev pub unprepared : Return
unprepared = record {
  program = coming_to (always (Calls false await (9 ∷ [])) ∷ always (Below await (9 ∷ [])) ∷ []);
  done = entered ++ Makes 0 (Call await (9 ∷ []) [] [] []) ∷ [];
  func = await;
  args = 9 ∷ [];
}

abbrev pub awaiting : Return
awaiting = record {
  program = coming_to (always (Calls false read_later region) ∷ always (Below read_later region) ∷
      always (Calls false await (9 ∷ [])) ∷ always (Below await (9 ∷ [])) ∷ []);
  done = prepared ++ Makes 0 (Call await (9 ∷ []) [] [] []) ∷ [];
  func = await;
  args = 9 ∷ [];
}

-- main has called itself so often, and does so again
abbrev pub begun : Mark
begun = record {
  thread = 0;
  side = Replay;
  index = 0;
  act =
      Made (record {
        kind = Up main [];
        steps = 0;
        keys = record { key = key Callback main; ticket = 0 } ∷
            [];
        clock = 1;
      });
}

abbrev pub nested : ℕ → List Mark
nested zero = begun ∷ []
nested (suc n) = record {
  thread = 0;
  side = Replay;
  index = 1;
  act =
      Enter main [] (0x20000000 + 16 * n) (zeros 16);
} ∷ nested n

abbrev pub stacked : ℕ → ℕ → Byte
stacked n x = record { cell = if within 0x20000000 (16 * n) x then Live 0 else Dead; block = 0 }

abbrev pub deep : ℕ → Start
deep n = record (fresh (stacked n)) {
  parts = λ t. if t == 0 then nested n else [];
  events =
      λ l. if has begun l then begun ∷ [] else [];
}

abbrev pub recursing : Program
recursing = record {
  interface = (program whole (only [])).interface;
  want =
      λ t mine. Enters false main [] (zeros 16);
}
