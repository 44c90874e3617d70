-- The marks of a run at its end, and with its Stops.
use Rattle.std.proofs.Common.{◌≡◌, ℕ, List, [], ◌∷◌, ◌++◌, map, reverse, Option, Some, None, refl, ap, sym, ◌∙◌, subst, append_assoc}
use Rattle.std.specs.Prelude.{filter}
use Rattle.std.specs.Option.{option_to_list}
use Rattle.std.specs.List.{range_with_len}
use Rattle.std.proofs.lemmas.List.{map-append, reverse-append}
use Rattle.marks.specs.declared.fault.FaultKind.{FaultKind}
use Rattle.marks.specs.Marks.{Act, Turn, Load, Store, Enter, Leave, Step, Fault, Made, Mark}
use Rattle.c_machine.specs.Moves.{ThreadState}
use Rattle.replay_runs.specs.Threads.{act_fault}
use Rattle.space_memory.specs.Spaces.{SpaceState}
use Rattle.space_memory_laws.specs.StandsFor.{StandsFor}
use Rattle.whole_runs.specs.declared.ending.Ending.{Ending}
use Rattle.whole_runs.specs.World.{World, begin}
use Rattle.whole_runs.specs.Sides.{seen}
use Rattle.whole_runs.specs.Outcomes.{started}
use Rattle.whole_runs.specs.Threads.{in_replay_mode}
use Rattle.whole_runs.specs.Ends.{IsLast, done, budget, blocked, fault, breach, script, events, full, stop_of, stops}
use Rattle.whole_runs_memory.specs.Plain.{IsPlain}
use Rattle.whole_runs_memory.proofs.Plain.{plain_above}
use Rattle.recorder_threads.specs.Threads.{AreThreadsOf}
use Rattle.recorder_threads.proofs.Faults.{faults_leave_all}
use Rattle.reference_recorder_marks.specs.declared.mark.Mark.{Mark as Told}
use Rattle.reference_recorder_marks.specs.Marks.{mark_of, past as past_of, without_origins}
use Rattle.reference_recorder_origins.proofs.Blind.{blank}
use Rattle.reference_recorder_laws.specs.AtEnd.{IsPastAtEnd}
use Rattle.reference_recorder_spaces.specs.Whole.{IsMemoryAfter}
use Rattle.reference_recorder_threads.specs.Telling.{AreThreadsAfter}
use Rattle.reference_recorder_end.specs.Ends.{AreAtEnd, AreStops, IsEnded, IsWhole}

past_append : (marks added : List Told) → past_of (marks ++ added) ≡ past_of added ++ past_of marks
past_append marks added = ap reverse (map-append mark_of marks added) ∙ reverse-append (map mark_of marks) (map mark_of added)

-- ---- Stops have no origins

reverse_without : (ms : List Mark) → without_origins (reverse ms) ≡ reverse (without_origins ms)
reverse_without [] = refl
reverse_without (m ∷ ms) =
    ap without_origins (reverse-append (m ∷ []) ms)
    ∙ map-append blank (reverse ms) (m ∷ [])
    ∙ ap (λ ns. ns ++ blank m ∷ []) (reverse_without ms)
    ∙ sym (reverse-append (blank m ∷ []) (without_origins ms))

each_without : (w : World) (run : List Mark) (ts : List ℕ) → without_origins (map (stop_of w run) ts) ≡ map (stop_of w run) ts
each_without w run [] = refl
each_without w run (t ∷ ts) = ap (λ ms. stop_of w run t ∷ ms) (each_without w run ts)

stops_without : (w : World) (run : List Mark) → without_origins (stops w run) ≡ stops w run
stops_without w run =
    let ts = filter (in_replay_mode w run) (range_with_len 0 (started run)) in
    reverse_without (map (stop_of w run) ts) ∙ ap reverse (each_without w run ts)

-- ---- memory stays as it is

-- a fault is no step that changes memory
fault_plain : (a : Act) (kind : FaultKind) → act_fault a None ≡ Some kind → IsPlain a
fault_plain (Fault k crosses ins outs access) kind e = tt
fault_plain Turn kind e = tt
fault_plain (Load o at bytes) kind e = tt
fault_plain (Store o at bytes) kind e = absurd cc
fault_plain (Enter f args at bytes) kind e = absurd cc
fault_plain (Leave at size) kind e = absurd cc
fault_plain (Step f args v ins pieces freed) kind e = absurd cc
fault_plain (Made ev) kind e = absurd cc

module _ (w : World) (memory : SpaceState) where
  abbrev Stands : List Mark → Type 0
  Stands run = StandsFor (begin w) (seen run) memory

  stops_stand : (run : List Mark) (ms : List Mark) (ts : List ℕ) → Stands ms → Stands (reverse (map (stop_of w run) ts) ++ ms)
  stops_stand run ms [] h = h
  stops_stand run ms (t ∷ ts) h =
      let stop = stop_of w run t in
      let more : Stands (stop ∷ ms) = plain_above w ms memory stop h tt in
      subst Stands (sym (append_assoc (reverse (map (stop_of w run) ts)) (stop ∷ []) ms) ∙ ap (λ ns. ns ++ ms) (sym (reverse-append (stop ∷ []) (map (stop_of w run) ts))))
      (stops_stand run (stop ∷ ms) ts more)

  module _ (past : List Mark) where
    last_stands : (last : List Mark) (e : Ending) → IsLast w past last e → Stands past → Stands (last ++ past)
    last_stands last e (done a) h = h
    last_stands last e (budget a b) h = h
    last_stands last e (blocked a b) h = h
    last_stands last e (fault {m = m} kind s found k) h = plain_above w past memory m h (fault_plain m.act kind k.kind_is)
    last_stands last e (breach kind x other s found) h = h
    last_stands last e (script s passes lacks) h = h
    last_stands last e (events m s made many) h = h
    last_stands last e (full m s made room many) h = h

last_threads : (w : World) (past last : List Mark) (e : Ending) (threads : List ThreadState) → IsLast w past last e → AreThreadsOf w past threads → AreThreadsOf w (last ++ past) threads
last_threads w past last e threads (done a) h = h
last_threads w past last e threads (budget a b) h = h
last_threads w past last e threads (blocked a b) h = h
last_threads w past last e threads (fault {m = m} kind s found k) h = faults_leave_all w past s kind m k threads h
last_threads w past last e threads (breach kind x other s found) h = h
last_threads w past last e threads (script s passes lacks) h = h
last_threads w past last e threads (events m s made many) h = h
last_threads w past last e threads (full m s made room many) h = h

-- ---- the end

module _ (w : World) (marks : List Told) (last : Option Told) (ending : Ending) (h : IsEnded w marks last ending) where
  pub at_end : IsPastAtEnd w (marks ++ option_to_list last)
  at_end = record {
    fit = h.past.fit;
    past = h.past.run;
    follows = h.past.follows;
    last = h.mark;
    ending = ending;
    ends = h.ends;
    same = map-append blank h.mark h.past.run ∙ (λ i. h.same i ++ h.past.same i) ∙ sym (past_append marks (option_to_list last));
  }

  pub threads_at_end : (threads : List ThreadState) → AreThreadsAfter w marks threads → AreAtEnd w (marks ++ option_to_list last) threads
  unfolding at_end
  threads_at_end threads are = record { past = at_end; are = last_threads w h.past.run h.mark ending threads h.ends (are h.past) }

  abbrev now : List Mark
  now = h.mark ++ h.past.run

  pub whole : (threads : List ThreadState) (memory : SpaceState) (added : List Told) → AreThreadsAfter w marks threads → IsMemoryAfter w marks memory →
      AreStops w (marks ++ option_to_list last) threads added → IsWhole w w.file.chunk ((marks ++ option_to_list last) ++ added) memory ending
  unfolding at_end threads_at_end
  whole threads memory added are after stop = record {
    fit = h.past.fit;
    chunk_is = refl;
    run = stops w now ++ now;
    is_run = record { past = h.past.run; follows = h.past.follows; last = h.mark; ends = h.ends; run_is = refl };
    same =
        map-append blank (stops w now) now
        ∙ ap (λ ms. ms ++ without_origins now) (stops_without w now)
        ∙ (λ i. sym (stop (threads_at_end threads are)) i ++ at_end.same i)
        ∙ sym (past_append (marks ++ option_to_list last) added);
    stands = stops_stand w memory now now (filter (in_replay_mode w now) (range_with_len 0 (started now))) (last_stands w memory h.past.run h.mark ending h.ends (after h.past));
  }

  -- the same of lists that are these
  pub whole_as : (threads : List ThreadState) (memory : SpaceState) (added first second run all : List Told) → first ≡ marks → second ≡ marks → run ≡ marks ++ option_to_list last → all ≡ run ++ added →
      AreThreadsAfter w first threads → IsMemoryAfter w second memory → AreStops w run threads added → IsWhole w w.file.chunk all memory ending
  whole_as threads memory added first second run all a b c d are after stop =
      subst (λ ms. IsWhole w w.file.chunk ms memory ending) (sym (d ∙ ap (λ ms. ms ++ added) c))
      (whole threads memory added (subst (λ ms. AreThreadsAfter w ms threads) a are) (subst (λ ms. IsMemoryAfter w ms memory) b after) (subst (λ ms. AreStops w ms threads added) c stop))
