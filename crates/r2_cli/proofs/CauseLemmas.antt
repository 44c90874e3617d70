-- Each outcome has a status with a cause.
use Rattle.std.proofs.Common.{◌≡◌, ◌≤◌, [], inl, inr, ℕ, List, Bool, true, false, Some, length, codes, sym, refl, subst}
use Rattle.cut_check.specs.Lines.{LinesOf}
use Rattle.front_end.specs.Sources.{IsWrong}
use Rattle.front_end.specs.declared.error.SourceError.{SourceError}
use Rattle.front_end.specs.declared.error.SourceError.TheVariants as errors
use Rattle.log_closure.specs.Events.{Part, In}
use Rattle.r2_base.specs.Seen.{Contents}
use Rattle.r2_cli_outcome.specs.declared.status.Status.{Status}
use Rattle.r2_cli_outcome.specs.declared.status.Status.TheVariants.{Done}
use Rattle.r2_cli_outcome.specs.World.{World}
use Rattle.r2_cli_outcome.specs.Outcome.{Outcome, printed}
use Rattle.r2_cli_outcome.specs.Reading.{Of}
use Rattle.r2_cli_outcome.specs.Stages.{Then, Only, Comes, passed, on, stop, done, refused}
use Rattle.r2_cli_outcome.specs.Input as input
use Rattle.r2_cli_outcome.specs.Input.{Input, most_log_bytes}
use Rattle.r2_cli_outcome.specs.Log as log_stage
use Rattle.r2_cli_outcome.specs.Log.{LogOf, IsLogPart, log}
use Rattle.r2_cli_outcome.specs.Left.{Leaves}
use Rattle.r2_cli_outcome.proofs.Decided.{EndsIn, ends_then, ends_only}
use Rattle.r2_cli_outcome.proofs.Consequences.{leaves_cause}
use Rattle.r2_cli.specs.declared.help.TheConstants.{HELP, VERSION}
use Rattle.r2_cli.specs.Source as source_stage
use Rattle.r2_cli.specs.Source.{SourceOf, refused_for, source}
use Rattle.r2_cli.specs.Words.{Form, help, version, order, check, stubs, gen, recording, IsForm, source_of, log_of, system_of, inputs_of}
use Rattle.r2_cli.specs.Commands.{command, generated, order_outcome, IsOutcome, OutcomeOf, StubsOf, no_form, formed}
use Rattle.r2_cli.specs.Causes as cause
use Rattle.r2_cli.specs.System.{system}
use Rattle.whole_runs.specs.declared.ending.Ending.{Ending}
use Rattle.whole_runs.specs.declared.ending.Ending.TheVariants as endings
use Rattle.whole_runs.specs.Recorded.{Told}
use Rattle.recording_texts.specs.Endings.{status_of}
use Rattle.recorded_outcome.specs.Stages as system_stage
use Rattle.recorded_outcome.specs.Stages.{recorded_as}
use Rattle.r2_cli.proofs.CommandLemmas.{recording_end, stubs_end}
use Rattle.r2_cli.proofs.SourceLemmas.{none_found}
use Rattle.r2_cli.specs.Causes.{Cause, IsCaused, IsComplete, IsTooLong, ReadsLog, ReadsSource, ReadsSystem, Records, long_log, long_source, long_system}

-- the outcome's status has a cause
abbrev Caused : List (List ℕ) → Contents → World → World → Outcome → Type 0
Caused words held a b o = Cause words held a b o.status

-- ---- logs

part_there : (held : Contents) (name : List ℕ) (part : Part) → log (Of held) name (passed part) → (bytes : List ℕ) × (Some bytes ≡ held name) × (length bytes ≤ most_log_bytes) × IsLogPart bytes part
part_there held name part (on {a = bytes} (input.read there short) (log_stage.right is)) = (bytes, there, short, is)

ends_log : (words : List (List ℕ)) (held : Contents) (a b : World) (form : Form) (name : List ℕ) → IsForm words form → log_of form ≡ Some name → In name (inputs_of form) → EndsIn (Caused words held a b) (log (Of held) name)
ends_log words held a b form name is of reads o (stop (input.missing h)) = cause.no_file form name is reads (sym h)
ends_log words held a b form name is of reads o (stop (input.too_long h m)) = cause.too_long is (long_log of (sym h) m)
ends_log words held a b form name is of reads o (on {a = bytes} (input.read h short) (log_stage.wrong bad)) =
    cause.bad_log is (record { name = name; is_log = of; there = sym h; short = short }) bad

-- ---- sources

ends_wrong : (words : List (List ℕ)) (held : Contents) (a b : World) (form : Form) (bytes cut : List ℕ) (error : SourceError) → IsForm words form → ReadsSource held form bytes cut → IsWrong bytes cut error
    → Cause words held a b (refused_for cut error).status
ends_wrong words held a b form bytes cut (errors.Fault fault) is reads bad = cause.source is reads bad
ends_wrong words held a b form bytes cut errors.NoSuchCut is reads bad = cause.no_cut is reads bad
ends_wrong words held a b form bytes cut (errors.Limit limit) is reads bad = cause.too_large is reads bad
ends_wrong words held a b form bytes cut errors.Memory is reads bad = cause.no_memory

ends_source : (words : List (List ℕ)) (held : Contents) (a b : World) (form : Form) (src cut : List ℕ) → IsForm words form → source_of form ≡ Some (src, cut) → In src (inputs_of form)
    → EndsIn (Caused words held a b) (source (Of held) src cut)
ends_source words held a b form src cut is of reads o (stop (input.missing h)) = cause.no_file form src is reads (sym h)
ends_source words held a b form src cut is of reads o (stop (input.too_long h m)) = cause.too_long is (long_source of (sym h) m)
ends_source words held a b form src cut is of reads o (on {a = bytes} (input.read h short) (source_stage.wrong {error = error} bad)) =
    ends_wrong words held a b form bytes cut error is (record { name = src; is_source = of; there = sym h; short = short }) bad
ends_source words held a b form src cut is of reads o (on {a = bytes} (input.read h short) (source_stage.found are some)) =
    cause.found is (record { name = src; is_source = of; there = sym h; short = short }) are some

-- the bytes that a source passes on are what was read
source_read : (held : Contents) (form : Form) (src cut bytes : List ℕ) → source_of form ≡ Some (src, cut) → source (Of held) src cut (passed bytes) → ReadsSource held form bytes cut
source_read held form src cut bytes of (on {a = text} (input.read there short) (source_stage.accepted none)) = record { name = src; is_source = of; there = sym there; short = short }

-- ---- system files

ends_system : (words : List (List ℕ)) (held : Contents) (a b : World) (form : Form) (src cut bytes sys : List ℕ) → IsForm words form → source_of form ≡ Some (src, cut) → source (Of held) src cut (passed bytes)
    → system_of form ≡ Some sys → In sys (inputs_of form) → EndsIn (Caused words held a b) (system (Of held) sys cut bytes)
ends_system words held a b form src cut bytes sys is from first of reads o (stop (input.missing h)) = cause.no_file form sys is reads (sym h)
ends_system words held a b form src cut bytes sys is from first of reads o (stop (input.too_long h m)) = cause.too_long is (long_system of (sym h) m)
ends_system words held a b form src cut bytes sys is from first of reads o (on {a = script} (input.read h short) (system_stage.wrong accepted breaks)) =
    cause.bad_system is (source_read held form src cut bytes from first) (record { name = sys; is_system = of; there = sym h; short = short }) accepted breaks

-- ---- commands

ends_recording : (words : List (List ℕ)) (held : Contents) (a b : World) (src cut sys log rep : List ℕ) → IsForm words (recording src cut sys log rep) → EndsIn (Caused words held a b) (command (Of held) (recording src cut sys log rep))
ends_recording words held a b src cut sys log rep is o (stop h) = ends_source words held a b (recording src cut sys log rep) src cut is refl (inl refl) o h
ends_recording words held a b src cut sys log rep is o (on {a = bytes} h (stop k)) =
    ends_system words held a b (recording src cut sys log rep) src cut bytes sys is refl h refl (inr (inl refl)) o k
ends_recording words held a b src cut sys log rep is o (on {a = bytes} h (on {a = script} i k)) = recording_end (Caused words held a b) log rep cut bytes script o k

ends_command : (words : List (List ℕ)) (held : Contents) (a b : World) (form : Form) → IsForm words form → EndsIn (Caused words held a b) (command (Of held) form)
ends_command words held a b help is = ends_only (Caused words held a b) (printed Done HELP.now [])
ends_command words held a b version is = ends_only (Caused words held a b) (printed Done VERSION.now [])
ends_command words held a b (order name) is =
    ends_then (Caused words held a b) (log (Of held) name) (λ part. Only (passed (order_outcome part.whole part.events))) (ends_log words held a b (order name) name is refl (inl refl))
    (λ part. ends_only (Caused words held a b) (order_outcome part.whole part.events))
ends_command words held a b (check src cut) is =
    ends_then (Caused words held a b) (source (Of held) src cut) (λ accepted. Only (passed (printed Done (codes "accepted\n") []))) (ends_source words held a b (check src cut) src cut is refl (inl refl))
    (λ accepted. ends_only (Caused words held a b) (printed Done (codes "accepted\n") []))
ends_command words held a b (stubs src cut) is =
    ends_then (Caused words held a b) (source (Of held) src cut) (λ bytes. Then (StubsOf cut bytes) (λ text. Only (passed (printed Done text [])))) (ends_source words held a b (stubs src cut) src cut is refl (inl refl))
    (λ bytes. stubs_end (Caused words held a b) cut bytes)
ends_command words held a b (gen rounds src sys) is = ends_only (Caused words held a b) (generated rounds src sys)
ends_command words held a b (recording src cut sys log rep) is = ends_recording words held a b src cut sys log rep is

of_same : (words : List (List ℕ)) (held : Contents) (a b : World) (o p : Outcome) → Only (passed p) (passed o) → Caused words held a b p → Caused words held a b o
of_same words held a b o p e c = let same : o ≡ p = cc e in subst (λ (q : Outcome). Caused words held a b q) (sym same) c

ordered_cause : (words : List (List ℕ)) (held : Contents) (a b : World) (name : List ℕ) (part : Part) (whole : Bool) → IsForm words (order name) → part.whole ≡ whole
    → (bytes : List ℕ) × (Some bytes ≡ held name) × (length bytes ≤ most_log_bytes) × IsLogPart bytes part → Caused words held a b (order_outcome whole part.events)
ordered_cause words held a b name part true is e (bytes, there, short, of) =
    cause.done (order name) is (bytes, part, record { name = name; is_log = refl; there = sym there; short = short }, of, e)
ordered_cause words held a b name part false is e (bytes, there, short, of) =
    cause.short {form = order name} is (record { name = name; is_log = refl; there = sym there; short = short }) of e

-- a source whose cut is accepted, of a command that reads it
accepted_there : (held : Contents) (form : Form) (src cut accepted : List ℕ) → source_of form ≡ Some (src, cut) → source (Of held) src cut (passed accepted) → (bytes : List ℕ) × ReadsSource held form bytes cut × LinesOf bytes cut []
accepted_there held form src cut accepted of (on {a = bytes} (input.read there short) (source_stage.accepted none)) =
    (bytes, record { name = src; is_source = of; there = sym there; short = short }, none)

-- a system file that was read, and how the run that was recorded ended
system_read : (held : Contents) (form : Form) (sys cut bytes script : List ℕ) → system_of form ≡ Some sys → system (Of held) sys cut bytes (passed script) → ReadsSystem held form script
system_read held form sys cut bytes script of (on {a = text} (input.read there short) (system_stage.right accepted reads)) = record { name = sys; is_system = of; there = sym there; short = short }

ended_so : (words : List (List ℕ)) (held : Contents) (a b : World) (src cut sys log rep : List ℕ) (told : Told) (e : Ending) → IsForm words (recording src cut sys log rep) → Records held (recording src cut sys log rep) told
    → told.ending ≡ e → Cause words held a b (status_of e)
ended_so words held a b src cut sys log rep told endings.Done is records e = cause.done (recording src cut sys log rep) is (told, records, e)
ended_so words held a b src cut sys log rep told (endings.Fault kind thread) is records e = cause.fault is records e
ended_so words held a b src cut sys log rep told (endings.Breach kind thread addr other) is records e = cause.breach is records e
ended_so words held a b src cut sys log rep told (endings.Halted why) is records e = cause.halted is records e

done_command : (words : List (List ℕ)) (held : Contents) (a b : World) (form : Form) (o : Outcome) → IsForm words form → command (Of held) form (passed o) → Caused words held a b o
done_command words held a b help o is h = of_same words held a b o (printed Done HELP.now []) h (cause.done help is tt)
done_command words held a b version o is h = of_same words held a b o (printed Done VERSION.now []) h (cause.done version is tt)
done_command words held a b (order name) o is (on {a = part} h k) =
    of_same words held a b o (order_outcome part.whole part.events) k (ordered_cause words held a b name part part.whole is refl (part_there held name part h))
done_command words held a b (check src cut) o is (on {a = accepted} h k) = of_same words held a b o (printed Done (codes "accepted\n") []) k (cause.done (check src cut) is (accepted_there held (check src cut) src cut accepted refl h))
done_command words held a b (stubs src cut) o is (on {a = accepted} h (on {a = text} i k)) =
    of_same words held a b o (printed Done text []) k (cause.done (stubs src cut) is (accepted_there held (stubs src cut) src cut accepted refl h))
done_command words held a b (gen rounds src sys) o is h = of_same words held a b o (generated rounds src sys) h (cause.done (gen rounds src sys) is tt)
done_command words held a b (recording src cut sys log rep) o is (on {a = bytes} h (on {a = script} i (recorded_as {code = code} {told = told} of))) =
    ended_so words held a b src cut sys log rep told told.ending is (record {
      bytes = bytes;
      cut = cut;
      script = script;
      code = code;
      source = source_read held (recording src cut sys log rep) src cut bytes refl h;
      right = none_found (Of held) src cut bytes h;
      system = system_read held (recording src cut sys log rep) sys cut bytes script refl i;
      of = of;
    }) refl

comes_cause : (words : List (List ℕ)) (held : Contents) (a b : World) (form : Form) (o : Outcome) → IsForm words form → Comes (command (Of held) form) o → Caused words held a b o
comes_cause words held a b form o is (done h) = done_command words held a b form o is h
comes_cause words held a b form o is (refused h) = ends_command words held a b form is o h

outcome_cause : (words : List (List ℕ)) (held : Contents) (a b : World) (o : Outcome) → IsOutcome (Of held) words o → Caused words held a b o
outcome_cause words held a b o (no_form u) = cause.usage u
outcome_cause words held a b o (formed form is h) = comes_cause words held a b form o is h

-- the contents of an outcome, or those of the files where there is none
pub is_caused : (words : List (List ℕ)) (a b : World) (result : Status) → Leaves (OutcomeOf a.files words) a b result → IsCaused words a b result
is_caused words a b result l =
    leaves_cause (OutcomeOf a.files words) (λ s. IsCaused words a b s) a b result (λ o h. (h.0, h.1, outcome_cause words h.0 a b o h.2))
    (λ r. (a.files.holds, (λ told n. refl), cause.read_fault r)) (λ t r. (a.files.holds, (λ told n. refl), cause.write_fault t r)) (a.files.holds, (λ told n. refl), cause.no_memory) l
