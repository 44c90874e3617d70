-- A Call that memory made is one that can be.
use Rattle.std.proofs.Common.{◌≡◌, ⊎_elim, ℕ, Bool, true, false, cond, ◌||◌, eqb, List, [], ◌∷◌, ◌++◌, length, map, Some, None, refl, sym, ap, ◌∙◌, subst, eqb-true, eq-eqb, All}
use Rattle.std.specs.Prelude.{is_some}
use Rattle.std.proofs.lemmas.Bool.{and_from, or_cases, true≢false}
use Rattle.std.proofs.lemmas.List.{append-nil, length-map}
use Rattle.run_events.specs.declared.event.Event.{Event as Logged}
use Rattle.run_events.specs.declared.key.Class.{Class}
use Rattle.run_events.specs.declared.key.Class.TheVariants.{Mutex, User, Callback, Thread, Pool, Out, Async}
use Rattle.run_events.specs.declared.key.Key.{Key}
use Rattle.run_events.specs.declared.key.KeyMark.{KeyMark}
use Rattle.marks.specs.declared.side.Side.TheVariants.{Replay}
use Rattle.marks.specs.Ranges.{Piece, Prepared, piece_ranges}
use Rattle.marks.specs.Marks.{EventKind, Call, Made, Mark}
use Rattle.marks.specs.Wants.{Calls, Answer, Go, answer_if, answer_to, event_answer, same_numbers}
use Rattle.logical_clock.specs.Events.{is_among}
use Rattle.replay_runs.specs.Runs.{Start, OfKey, has as has_link, is_listed, new_events, same_key}
use Rattle.replay_runs.specs.Keys.{key}
use Rattle.replay_runs.specs.Pool.{in_use, prepares_key}
use Rattle.replay_runs.specs.Records.{printed_by}
use Rattle.replay_runs.specs.Rules.{SharedEvent}
use Rattle.replay_runs.specs.Passing.{AllMayRead, NoneInUse}
use Rattle.replay_runs.proofs.Passing.{say}
use Rattle.replay_runs.specs.Checks.{Passes}
use Rattle.space_memory.specs.Spaces.{SpaceState}
use Rattle.space_memory_laws.specs.Calls.{InCall, IsCall, IsShown, parts_of}
use Rattle.space_memory_laws.proofs.CallRules as rules
use Rattle.space_memory_laws.proofs.Passing.{free_reads}
use Rattle.steps_above_memory.specs.declared.above.MemoryAbove.{MemoryAbove}
use Rattle.steps_above_memory.specs.declared.parts.CallRegions.{CallRegions}
use Rattle.steps_above_memory.specs.Above.{StandsForAbove}
use Rattle.steps_above_memory.specs.Calls.{HasParts, TakesCall, prepares}
use Rattle.steps_above_memory.specs.Calls as above
use Rattle.steps_above_interface.specs.Stands.{CountsCall}
use Rattle.steps_above_stamps.specs.declared.stamps.EventStamp.{EventStamp}
use Rattle.whole_runs.specs.declared.ending.Ending.{Ending}
use Rattle.whole_runs.specs.World.{World, begin, interface, program_of}
use Rattle.whole_runs.specs.Sides.{seen}
use Rattle.whole_runs.specs.Log.{replay_output}
use Rattle.whole_runs.specs.Tests.{tests}
use Rattle.whole_runs.specs.Steps.{Picked}
use Rattle.recorder_memory.specs.declared.memory.Memory.{Memory}
use Rattle.recorder_memory.specs.Stands.{placed}
use Rattle.recorder_memory.proofs.Calling.{call_made}
use Rattle.steps_above_memory.proofs.Accesses.{same_numbers_self}
use Rattle.recorder_threads.specs.Threads.{args_at}
use Rattle.recorder_state.specs.declared.state.RunState.{RunState}
use Rattle.recorder_state.specs.Ends.{IsEnded}
use Rattle.recorder_events.specs.Room.{IsRoomOrEnd}
use Rattle.recorder_events.specs.Making.{CanBe, IsComing, IsEventStep, IsRecorded, event_mark}
use Rattle.recorder_events.proofs.Ending.{IsSized, ends_full}
use Rattle.recorder_events.proofs.Sized.{event_sized}
use Rattle.recorder_events.proofs.Steps.{coming}
use Rattle.c_code.specs.MarkLists.{reply}
use Rattle.recorder_calls.specs.Reading.{AllMayBeRead, read_in}
use Rattle.recorder_calls.specs.Calls.{IsCallNext, IsOfSomeRun}
use Rattle.recorder_calls.proofs.Read.{may_be_read}
use Rattle.recorder_calls.proofs.Shown.{all_shown, in_a_row, pieces, ranges_are, whole}

-- ---- keys of regions

abbrev under_keys : List Prepared → List KeyMark
under_keys ps = map (λ (p : Prepared). record { key = key Async p.key; ticket = 0 }) ps

listed : (ps : List Prepared) (k : ℕ) → prepares_key ps k ≡ true → is_listed (under_keys ps) (key Async k) ≡ true
listed [] k e = e
listed (p ∷ ps) k e = go (eqb p.key k) e (listed ps k)
  where
    go : (b : Bool) → (b || prepares_key ps k) ≡ true → (prepares_key ps k ≡ true → is_listed (under_keys ps) (key Async k) ≡ true) → (b || is_listed (under_keys ps) (key Async k)) ≡ true
    go true z more = refl
    go false z more = more z

none_used : (s : Start) (past : List Mark) (ps : List Prepared) (k : ℕ) → NoneInUse s past ps → prepares_key ps k ≡ true → in_use s k past ≡ None
none_used s past [] k none e = absurd (true≢false (sym e))
none_used s past (p ∷ ps) k none e = ⊎_elim
    (λ z. subst (λ j. in_use s j past ≡ None) (eqb-true p.key k z) none.0)
    (λ z. none_used s past ps k none.1 z) (or_cases (eqb p.key k) (prepares_key ps k) e)

among_listed : (qs : List KeyMark) (k : Key) → is_among (map (λ (q : KeyMark). q.key) qs) k ≡ is_listed qs k
among_listed [] k = refl
among_listed (q ∷ qs) k = ap (λ b. same_key q.key k || b) (among_listed qs k)

event_reply : (w : World) (past : List Mark) (s : Picked w past) (kind : EventKind) (stamp : EventStamp) (x : Answer) → event_answer s.want kind ≡ Some x → reply s.side s.want (event_mark w past s kind stamp) ≡ Some x
unfolding reply answer_to
event_reply w past s kind stamp x e = e

module _ (w : World) (s : RunState) (t : ℕ) (regions : CallRegions) (keys : List Key) (event : Logged) (h : IsCallNext w s t regions keys event) where
  abbrev pub past : List Mark
  past = h.at.reached.past

  abbrev step : Picked w past
  step = h.at.step

  abbrev args : List ℕ
  args = args_at s.threads t

  abbrev ps : List Prepared
  ps = prepares regions

  abbrev old : MemoryAbove
  old = s.memory.above

  abbrev read : List Piece
  read = pieces old.spaces.bytes regions.ins.now

  abbrev pub kind : EventKind
  kind = Call h.func args read regions.outs.now ps

  pub stands : StandsForAbove (program_of w) (placed w) (seen past) old
  stands = h.at.reached.memory.above

  pub run : IsOfSomeRun old
  run = (program_of w, placed w, seen past, stands)

  pub answer : event_answer step.want kind ≡ Some Go
  answer = ap (λ v. event_answer v kind) h.at.told ∙ ap (λ b. answer_if b Go) (and_from (eqb h.func h.func) (same_numbers args args) (eq-eqb h.func h.func refl) (same_numbers_self args))

  module _ (new : SpaceState) (has : HasParts old t (parts_of regions.ins.now regions.outs.now ps) new) where
    in_call : InCall (begin w) (seen past) t (parts_of (piece_ranges read) regions.outs.now ps) old.spaces new
    in_call = subst (λ l. InCall (begin w) (seen past) t (parts_of l regions.outs.now ps) old.spaces new) (sym (ranges_are old.spaces.bytes regions.ins.now)) (has (program_of w) (placed w) (seen past) stands).call

    shown : All (IsShown old.spaces.bytes) read
    shown = all_shown old.spaces regions.ins.now (free_reads old.spaces regions.ins.now regions.outs.now ps (has (program_of w) (placed w) (seen past) stands).call.free)

    -- as an event with any numbers
    is_call : IsCall (begin w) (seen past) (record { thread = t; side = Replay; index = 0; act = Made (record { kind = kind; steps = 0; keys = under_keys ps; clock = 0 }) }) regions.outs.now ps new
    is_call = rules.call_made (begin w) (seen past) old.spaces new (record { thread = t; side = Replay; index = 0; act = Made (record { kind = kind; steps = 0; keys = under_keys ps; clock = 0 }) })
        (record { kind = kind; steps = 0; keys = under_keys ps; clock = 0 }) h.func args read regions.outs.now ps in_call refl refl shown (listed ps)

    shared_at : (class : Class) (value : ℕ) → SharedEvent (interface w) (begin w) class value (new_events (OfKey (key class value)) (seen past)) kind
    shared_at Mutex value = tt
    shared_at User value = tt
    shared_at Callback value = tt
    shared_at Thread value = tt
    shared_at Pool value = tt
    shared_at Out value = tt
    shared_at Async value = λ e. none_used (begin w) (seen past) ps value is_call.free_keys e

    module _ (takes : TakesCall old t regions) where
      pub can_be : CanBe w past step kind
      can_be = record {
        answers = ap is_some answer;
        agrees = tt;
        carries = (ranges_are old.spaces.bytes regions.ins.now ∙ sym h.wanted.ins_are, whole old.spaces.bytes regions.ins.now, sym h.wanted.outs_are, sym h.wanted.prepares, is_call.apart, is_call.distinct);
        shared = λ k among. shared_at k.class k.value;
        bytes = is_call.mark.asks;
        passes = subst (λ u. Passes (tests w past u step.side step.want)) (sym h.at.thread) (subst (λ d. Passes (tests w past t d step.want)) (sym h.at.side_is) (subst (λ v. Passes (tests w past t Replay v)) (sym h.at.told)
            (takes (program_of w) (placed w) (seen past) h.indirect h.func args stands h.wanted)));
      }

      pub all_read : AllMayBeRead old.spaces t regions.ins.now
      all_read = may_be_read (begin w) (seen past) old.spaces t regions.ins.now stands.spaces
          (subst (AllMayRead (begin w) (seen past) t) h.wanted.ins_are (((say (begin w) (seen past) t (interface w)).calls h.indirect h.func args).0 (takes (program_of w) (placed w) (seen past) h.indirect h.func args stands h.wanted)).reads)

      pub is_sized : IsSized w s h.at.reached step kind can_be event (length keys)
      is_sized stamp have = event_sized w past step kind stamp (length keys) (sym (length-map stamp.keys (λ (q : KeyMark). q.key)) ∙ (ap length have ∙ ap length h.keys_are)) event h.event_is

      pub ends : (end : Ending) → IsRoomOrEnd s.book event (length keys) (Some end) → IsEnded w s end
      ends end full = ends_full w s h.at.reached step kind can_be event (length keys) end is_sized full

      abbrev pub coming_so : (memory : Memory) → IsComing w (record s { memory = memory }) t keys event
      coming_so memory = coming w s t h.at.reached step h.at.thread kind can_be keys h.keys_are memory event h.event_is

      module _ (memory : Memory) (new1 fin : RunState) (r : IsRecorded w past step kind keys (record s { memory = memory }) new1) where
        abbrev m : Mark
        m = event_mark w past step kind r.stamp

        has_key : (k : Key) → has_link m (OfKey k) ≡ is_among keys k
        has_key k = sym (among_listed r.stamp.keys k) ∙ ap (λ ks. is_among ks k) r.keys_are

        output_is : (bytes : List ℕ) → bytes ≡ cond (is_among keys (key Out 0)) (read_in old.spaces.bytes regions.ins.now) [] → s.output.items ++ bytes ≡ replay_output w (m ∷ past)
        output_is bytes is = go (is_among keys (key Out 0)) (has_link m (OfKey (key Out 0))) (has_key (key Out 0)) is
          where
            go : (b c : Bool) → c ≡ b → bytes ≡ cond b (read_in old.spaces.bytes regions.ins.now) [] → s.output.items ++ bytes ≡ printed_by (cond c (m ∷ new_events (OfKey (key Out 0)) (seen past)) (new_events (OfKey (key Out 0)) (seen past)))
            go true true e z = ap (λ bs. s.output.items ++ bs) (z ∙ sym (in_a_row old.spaces.bytes regions.ins.now)) ∙ ap (λ os. os ++ pieces_of) h.at.reached.around.shown.output
              where
                pieces_of : List ℕ
                pieces_of = printed_by (m ∷ [])
            go false false e z = ap (λ bs. s.output.items ++ bs) z ∙ (append-nil s.output.items ∙ h.at.reached.around.shown.output)
            go true false e z = absurd cc
            go false true e z = absurd cc

        pub event_step : (bytes : List ℕ) → bytes ≡ cond (is_among keys (key Out 0)) (read_in old.spaces.bytes regions.ins.now) [] → fin.output.items ≡ s.output.items ++ bytes
            → CountsCall keys s.interface fin.interface → length fin.interface.registered ≡ length s.interface.registered → fin ≡ record new1 { output = fin.output; interface = fin.interface }
            → above.MakesCall old t regions keys memory.above → memory.above.spaces ≡ new → IsRoomOrEnd s.book event (length keys) None → IsEventStep w fin t (Calls h.indirect h.func args) Go
        event_step bytes is out counts functions rest makes same room =
            subst (λ v. IsEventStep w fin t v Go) h.at.told
            (subst (λ z. IsEventStep w z t step.want Go) (sym (rest ∙ ap (λ (z : RunState). let q : RunState = record z { output = fin.output; interface = fin.interface } in q) r.rest)) (record {
              marked = record {
                fit = h.at.reached.fit;
                past = past;
                follows = h.at.reached.follows;
                steps = h.at.reached.steps;
                step = step;
                thread = h.at.thread;
                mark = m;
                made = r.made;
                room = room w past m h.at.reached.around.shown.book (is_sized r.stamp (r.keys_are ∙ sym h.keys_are));
                others = record {
                  memory = call_made s.memory memory t regions keys makes (subst (HasParts old t (parts_of regions.ins.now regions.outs.now ps)) (sym same) has) w past m h.at.reached.memory (record {
                    func = h.func;
                    args = args;
                    read = read;
                    next = record {
                      fit = h.at.reached.fit;
                      follows = h.at.reached.follows;
                      step = step;
                      made = r.made;
                      thread = h.at.thread;
                      event = record { kind = kind; steps = r.stamp.steps; keys = r.stamp.keys; clock = r.stamp.clock };
                      act_is = refl;
                      kind_is = refl;
                      keys_are = r.keys_are;
                    };
                    ins_are = ranges_are old.spaces.bytes regions.ins.now;
                    shown = shown;
                  });
                  stamps = r.stamps;
                  book = r.book;
                  output = out ∙ output_is bytes is;
                  system_output = sym (append-nil s.system_output.items) ∙ ap (λ os. os ++ []) h.at.reached.around.shown.system_output;
                  interface = counts (interface w) (placed w) (seen past) m (record { event = record { kind = kind; steps = r.stamp.steps; keys = r.stamp.keys; clock = r.stamp.clock }; act = refl; call = refl; keys_are = r.keys_are }) h.at.reached.around.interface;
                  functions = functions ∙ h.at.reached.around.functions;
                  prepared = h.at.reached.around.prepared;
                };
              };
              want_is = refl;
              threads = h.at.reached.around.shown.threads;
              system = h.at.reached.around.system;
              no_outcome = refl;
              answers = event_reply w past step kind r.stamp Go answer;
            }))
