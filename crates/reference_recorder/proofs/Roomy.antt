-- Whether there is room for a mark that is made.
use Rattle.std.proofs.Common.{◌≡◌, ◌+◌, ◌-◌, ◌^◌, ◌<◌, ◌≤◌, true, false, List, [], ◌∷◌, ◌++◌, length, Option, None, refl, sym, ap, ◌∙◌, subst, arith}
use Rattle.std.specs.Prelude.{sum_by}
use Rattle.std.proofs.lemmas.Bool.{true≢false}
use Rattle.std.proofs.lemmas.List.{length_push}
use Rattle.marks.specs.Marks.{Act, Mark, is_event}
use Rattle.whole_runs.specs.declared.ending.Ending.{Ending}
use Rattle.whole_runs.specs.declared.ending.Ending.TheVariants as ending
use Rattle.whole_runs.specs.declared.ending.Halt.TheVariants as halt
use Rattle.whole_runs.specs.World.{World}
use Rattle.whole_runs.specs.Fits.{IsFit}
use Rattle.whole_runs.specs.Records.{size_of}
use Rattle.whole_runs.specs.Ends.{bytes_of, events, events_of, full, most_bytes, most_events}
use Rattle.recorder_book.specs.Sizes.{IsInFull}
use Rattle.whole_runs.specs.Records.{full_record}
use Rattle.reference_recorder_marks.specs.declared.mark.Mark.{Mark as Told}
use Rattle.reference_recorder_marks.specs.Marks.{act_of, mark_of, past as past_of, without_origin}
use Rattle.reference_recorder_marks.proofs.Past.{past_push}
use Rattle.reference_recorder_records.specs.Recordable.{AreRecordable}
use Rattle.reference_recorder_threads.specs.Telling.{IsPast}
use Rattle.reference_recorder_threads.proofs.Oldest.{as_many}
use Rattle.reference_recorder_laws.proofs.Short.{event_without, few_bytes, few_events, few_marks, same_act, same_events}
use Rattle.reference_recorder_records_laws.proofs.Runs.{are_recordable, next_recordable}
use Rattle.reference_recorder_end.specs.Ends.{IsEnded}
use Rattle.reference_recorder.specs.declared.steps.Coming.{Coming}
use Rattle.reference_recorder.specs.Steps.{ComesNext, IsEndAs, IsMadeMark, IsNextAs}
use Rattle.reference_recorder.proofs.Going.{ends}

module _ (w : World) (marks : List Told) (p : IsPast w marks) where
  pub events_same : events_of (past_of marks) ≡ events_of p.run
  events_same = sym (ap events_of p.same) ∙ same_events p.run

  pub bytes_same : bytes_of (past_of marks) ≡ bytes_of p.run
  bytes_same = ap (λ ms. sum_by size_of ms) events_same

  pub short : length marks + 1 < 2 ^ 32
  short = let few = few_marks w p.fit p.run p.follows in let same = as_many p.run marks p.same in omega (arith, few, same)

  pub few_made : length (events_of (past_of marks)) < 2 ^ 23
  few_made = let few = few_events w p.run p.follows in let same = ap length events_same in omega (arith, few, same)

  pub small_made : bytes_of (past_of marks) ≤ most_bytes
  small_made = let few = few_bytes w p.run p.follows in let same = bytes_same in omega (arith, few, same)

  pub recordable : AreRecordable marks
  recordable = are_recordable w p.fit p.run p.follows marks p.same

module _ (w : World) (marks : List Told) (told : Told) (m : IsMadeMark w marks told) where
  abbrev made : Mark
  made = m.made.mark

  abbrev run : List Mark
  run = m.past.run

  does : without_origin made.act ≡ act_of told.act
  does = ap (λ (q : Mark). q.act) m.made.same

  event_as : is_event made.act ≡ is_event (act_of told.act)
  event_as = sym (event_without made.act) ∙ ap is_event does

  -- an event is told whole
  is_told : is_event (act_of told.act) ≡ true → made ≡ mark_of told
  is_told e = sym (ap (λ (a : Act). let q : Mark = record made { act = a } in q) (same_act made.act (event_as ∙ e))) ∙ m.made.same

  pub in_full : is_event (act_of told.act) ≡ true → IsInFull (full_record (mark_of told))
  in_full e = next_recordable w m.past.fit run m.past.follows m.step made m.made.made told m.made.same e

  pub no_event : is_event (act_of told.act) ≡ false → IsNextAs w run told
  no_event e = record {
    mark = made;
    same = m.made.same;
    next = record {
      step = m.step;
      made = m.made.made;
      room = record {
        events = λ z. absurd (true≢false (sym z ∙ event_as ∙ e));
        bytes = λ z. absurd (true≢false (sym z ∙ event_as ∙ e));
      };
    };
  }

  module _ (e : is_event (act_of told.act) ≡ true) where
    pub too_many : most_events ≤ length (events_of (past_of marks)) → IsEndAs w run None (ending.Halted halt.Events)
    too_many le = ends w run (ending.Halted halt.Events)
        (events made m.step (record { made = m.made.made; event = event_as ∙ e }) (let same = ap length (events_same w marks m.past) in omega (arith, le, same)))

    module _ (few : length (events_of (past_of marks)) < most_events) where
      few_now : length (events_of run) < most_events
      few_now = let same = ap length (events_same w marks m.past) in omega (arith, few, same)

      size_same : size_of (mark_of told) ≡ size_of made
      size_same = sym (ap size_of (is_told e))

      pub too_long : most_bytes < bytes_of (past_of marks) + size_of (mark_of told) → IsEndAs w run None (ending.Halted halt.Full)
      too_long lt = ends w run (ending.Halted halt.Full)
          (full made m.step (record { made = m.made.made; event = event_as ∙ e }) few_now (let same = bytes_same w marks m.past in let as' = size_same in omega (arith, lt, same, as')))

      pub has_room : bytes_of (past_of marks) + size_of (mark_of told) ≤ most_bytes → IsNextAs w run told
      has_room le = record {
        mark = made;
        same = m.made.same;
        next = record {
          step = m.step;
          made = m.made.made;
          room = record {
            events = λ z. few_now;
            bytes = λ z. let same = bytes_same w marks m.past in let as' = size_same in omega (arith, le, same, as');
          };
        };
      }

-- ---- a mark more

pub none_made : (w : World) → IsFit w → IsPast w []
none_made w fit = record { fit = fit; run = []; same = refl; follows = tt }

module _ (w : World) (marks : List Told) (p : IsPast w marks) (told : Told) (n : IsNextAs w p.run told) where
  pub one_more : IsPast w (marks ++ told ∷ [])
  one_more = record {
    fit = p.fit;
    run = n.mark ∷ p.run;
    same = (λ i. n.same i ∷ p.same i) ∙ sym (past_push marks told);
    follows = (n.next, p.follows);
  }

  pub in_budget : length marks < w.file.budget
  in_budget = let lt = n.next.step.goes_on.in_budget in let same = as_many p.run marks p.same in omega (arith, lt, same)

  pub fewer : (all : List Told) → all ≡ marks ++ told ∷ [] → w.file.budget - length all < w.file.budget - length marks
  fewer all same =
      let lt = in_budget in
      let long = ap length same ∙ length_push marks told in
      omega (arith, lt, long)

-- the end of a run is all that is asked of it
pub is_ended : (w : World) (marks : List Told) (p : IsPast w marks) (last : Option Told) (e : Ending) → IsEndAs w p.run last e → IsEnded w marks last e
is_ended w marks p last e h = record { past = p; mark = h.mark; ends = h.ends; same = h.same }

-- what comes after the marks, where they were looked at through a reference
pub come_on : (w : World) (marks seen : List Told) → seen ≡ marks → (c : Coming) → ((p : IsPast w seen) → ComesNext w seen p c) → (p : IsPast w marks) → ComesNext w marks p c
come_on w marks seen e c h = subst (λ ms. (p : IsPast w ms) → ComesNext w ms p c) e h
