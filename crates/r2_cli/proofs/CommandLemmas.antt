-- Each command decides one outcome, reads its inputs alone, and writes its outputs alone.
use Rattle.std.proofs.Common.{◌≡◌, inl, inr, ◌∷◌, [], ℕ, List, Bool, Result, true, false, Option, codes, sym, ◌∙◌, refl, subst}
use Rattle.source_limits.specs.Limits.{most_bytes}
use Rattle.front_end.specs.declared.error.SourceError.{SourceError}
use Rattle.front_end.specs.declared.error.SourceError.TheVariants as errors
use Rattle.log_closure.specs.Events.{Part, In}
use Rattle.r2_base.specs.Seen.{Contents, OnlyReads, Store}
use Rattle.r2_cli_outcome.specs.declared.status.Status.TheVariants.{Done}
use Rattle.r2_cli_outcome.specs.Outcome.{Outcome, err, out, file, printed}
use Rattle.r2_cli_outcome.specs.Reading.{Reading, Of, Sees}
use Rattle.r2_cli_outcome.specs.Stages.{Answer, Then, Only, Comes, passed, ended, on, done, refused}
use Rattle.r2_cli_outcome.specs.Input as input
use Rattle.r2_cli_outcome.specs.Input.{Input, most_log_bytes, most_system_bytes}
use Rattle.r2_cli_outcome.specs.Log as log_stage
use Rattle.r2_cli_outcome.specs.Log.{LogOf, log}
use Rattle.r2_cli_outcome.specs.declared.plan.End.{End}
use Rattle.r2_cli_outcome.specs.Plans.{Answers}
use Rattle.r2_cli_outcome.proofs.StageLemmas.{answers_more, sees_before}
use Rattle.r2_cli_outcome.proofs.Decided.{IsOne, EndsIn, one_then, one_input, one_only, one_comes, ends_then, ends_only}
use Rattle.r2_cli_outcome.proofs.OneLog.{one_log}
use Rattle.r2_cli_outcome.proofs.Named.{has, has_first, has_more, only_name, ReadsOnly, IsNamed, reads_input, reads_both, named_input, named_last, named_then, named_comes, named_contents, named_none}
use Rattle.r2_cli_outcome.proofs.Consequences.{Avoids}
use Rattle.generated_files.specs.Source.{source_text}
use Rattle.generated_files.specs.declared.texts.TheConstants.{SYSTEM}
use Rattle.r2_cli.specs.declared.help.TheConstants.{HELP, VERSION}
use Rattle.call_inspector.specs.ReportText.{report_text}
use Rattle.recorded_outcome.specs.Recorded.{run_of}
use Rattle.recorded_outcome.specs.Stages as system_stage
use Rattle.recorded_outcome.specs.Stages.{RecordingOf, SystemOf, recorded_as}
use Rattle.recorded_outcome.proofs.OneRecording.{one_recording_of, one_system_of}
use Rattle.r2_cli.specs.System.{system}
use Rattle.r2_cli.specs.Source as source_stage
use Rattle.r2_cli.specs.Source.{SourceOf, refused_for, source}
use Rattle.r2_cli.specs.Words.{Form, help, version, order, check, stubs, gen, recording, HasNames, IsForm, inputs_of, outputs_of}
use Rattle.r2_cli.specs.Commands as outcomes
use Rattle.r2_cli.specs.Commands.{command, generated, order_outcome, IsOutcome, OutcomeOf, SameOutcome, StubsOf, no_form, formed}
use Rattle.r2_cli.proofs.FormLemmas.{one_form, has_in}
use Rattle.r2_cli.proofs.SourceLemmas.{self, one_source, one_stubs_of}

-- what follows an accepted source

abbrev stubs_printed : (cut bytes : List ℕ) → Answer Outcome → Type 0
stubs_printed cut bytes = Then (StubsOf cut bytes) (λ text. Only (passed (printed Done text [])))

pub stubs_end : (P : Outcome → Type 0) (cut bytes : List ℕ) → EndsIn P (stubs_printed cut bytes)
stubs_end P cut bytes = ends_then P (StubsOf cut bytes) (λ text. Only (passed (printed Done text []))) (λ o h. elim h [ ]) (λ text. ends_only P (printed Done text []))

-- and what follows one by which a run is recorded

abbrev run_recorded : (log rep cut bytes script : List ℕ) → Answer Outcome → Type 0
run_recorded log rep cut bytes script = RecordingOf log rep cut bytes script

abbrev system_then : Reading → (sys log rep cut bytes : List ℕ) → Answer Outcome → Type 0
system_then reading sys log rep cut bytes = Then (system reading sys cut bytes) (run_recorded log rep cut bytes)

pub recording_end : (P : Outcome → Type 0) (log rep cut bytes script : List ℕ) → EndsIn P (run_recorded log rep cut bytes script)
recording_end P log rep cut bytes script o h = elim h [ ]

-- ---- one outcome

one_system : (held : Contents) (sys cut bytes : List ℕ) → IsOne SameOutcome (system (Of held) sys cut bytes)
one_system held sys cut bytes =
    one_then SameOutcome (Input (Of held) sys (codes "system") most_system_bytes) (SystemOf cut bytes) (one_input SameOutcome self held sys (codes "system") most_system_bytes) (λ script. one_system_of SameOutcome self cut bytes script)

one_command : (held : Contents) (form : Form) → IsOne SameOutcome (command (Of held) form)
one_command held help = one_only SameOutcome (printed Done HELP.now [])
one_command held version = one_only SameOutcome (printed Done VERSION.now [])
one_command held (order name) =
    one_then SameOutcome (log (Of held) name) (λ part. Only (passed (order_outcome part.whole part.events))) (one_log SameOutcome self held name) (λ part. one_only SameOutcome (order_outcome part.whole part.events))
one_command held (check src cut) =
    one_then SameOutcome (source (Of held) src cut) (λ accepted. Only (passed (printed Done (codes "accepted\n") []))) (one_source held src cut) (λ accepted. one_only SameOutcome (printed Done (codes "accepted\n") []))
one_command held (stubs src cut) =
    one_then SameOutcome (source (Of held) src cut) (stubs_printed cut) (one_source held src cut)
    (λ bytes. one_then SameOutcome (StubsOf cut bytes) (λ text. Only (passed (printed Done text []))) (one_stubs_of cut bytes) (λ text. one_only SameOutcome (printed Done text [])))
one_command held (gen rounds src sys) = one_only SameOutcome (generated rounds src sys)
one_command held (recording src cut sys log rep) =
    one_then SameOutcome (source (Of held) src cut) (system_then (Of held) sys log rep cut) (one_source held src cut)
    (λ bytes. one_then SameOutcome (system (Of held) sys cut bytes) (run_recorded log rep cut bytes) (one_system held sys cut bytes) (λ script. one_recording_of SameOutcome log rep cut bytes script))

pub one_outcome : (words : List (List ℕ)) (held : Contents) (o p : Outcome) → IsOutcome (Of held) words o → IsOutcome (Of held) words p → SameOutcome o p
one_outcome words held o p (no_form u) (no_form v) = outcomes.same
one_outcome words held o p (no_form u) (formed g is h) = absurd (u g is)
one_outcome words held o p (formed f is h) (no_form v) = absurd (v f is)
one_outcome words held o p (formed f is h) (formed g it k) =
    one_comes SameOutcome self (command (Of held) f) (one_command held f) o p h (subst (λ (i : Form). Comes (command (Of held) i) p) (one_form words g f it is) k)

-- ---- the names that are read

reads_log : (names : List (List ℕ)) (name : List ℕ) → has names name ≡ true → ReadsOnly names (λ reading. log reading name)
reads_log names name is = reads_both names (λ reading. Input reading name (codes "log") most_log_bytes) (λ reading. LogOf) (reads_input names name (codes "log") most_log_bytes is) (λ bytes s t f ans h. h)

reads_source : (names : List (List ℕ)) (src cut : List ℕ) → has names src ≡ true → ReadsOnly names (λ reading. source reading src cut)
reads_source names src cut is = reads_both names (λ reading. Input reading src (codes "source") most_bytes) (λ reading. SourceOf cut) (reads_input names src (codes "source") most_bytes is) (λ bytes s t f ans h. h)

reads_system : (names : List (List ℕ)) (sys cut bytes : List ℕ) → has names sys ≡ true → ReadsOnly names (λ reading. system reading sys cut bytes)
reads_system names sys cut bytes is =
    reads_both names (λ reading. Input reading sys (codes "system") most_system_bytes) (λ reading. SystemOf cut bytes) (reads_input names sys (codes "system") most_system_bytes is) (λ script s t f ans h. h)

-- what is read later was there before
pub system_before : {T : Type 0} (view : T → List ℕ) (a b : Store) (sys cut bytes : List ℕ) (x y : ℕ) (result : Result T End) → OnlyReads a b → Answers view (system (Sees b) sys cut bytes) x y result
    → Answers view (system (Sees a) sys cut bytes) x y result
system_before view a b sys cut bytes x y result r h =
    answers_more view (system (Sees b) sys cut bytes) (system (Sees a) sys cut bytes) x y result
    (λ ans. reads_system (sys ∷ []) sys cut bytes (has_first sys []) (Sees b) (Sees a) (λ n found there. sees_before a b r n found) ans) h

pub reads_command : (form : Form) → ReadsOnly (inputs_of form) (λ reading. command reading form)
reads_command help = λ s t f ans h. h
reads_command version = λ s t f ans h. h
reads_command (order name) =
    reads_both (name ∷ []) (λ reading. log reading name) (λ reading part. Only (passed (order_outcome part.whole part.events))) (reads_log (name ∷ []) name (has_first name [])) (λ part s t f ans h. h)
reads_command (check src cut) =
    reads_both (src ∷ []) (λ reading. source reading src cut) (λ reading accepted. Only (passed (printed Done (codes "accepted\n") []))) (reads_source (src ∷ []) src cut (has_first src [])) (λ accepted s t f ans h. h)
reads_command (stubs src cut) =
    reads_both (src ∷ []) (λ reading. source reading src cut) (λ reading. stubs_printed cut) (reads_source (src ∷ []) src cut (has_first src [])) (λ bytes s t f ans h. h)
reads_command (gen rounds src sys) = λ s t f ans h. h
reads_command (recording src cut sys log rep) =
    reads_both (src ∷ sys ∷ []) (λ reading. source reading src cut) (λ reading. system_then reading sys log rep cut) (reads_source (src ∷ sys ∷ []) src cut (has_first src (sys ∷ [])))
    (λ bytes. reads_both (src ∷ sys ∷ []) (λ reading. system reading sys cut bytes) (λ reading. run_recorded log rep cut bytes)
    (reads_system (src ∷ sys ∷ []) sys cut bytes (has_more src sys (sys ∷ []) (has_first sys []))) (λ script s t f ans h. h))

comes_by : (form : Form) (s t : Reading) → ((n : List ℕ) (x : Option (List ℕ)) → has (inputs_of form) n ≡ true → s n x → t n x) → (o : Outcome) → Comes (command s form) o → Comes (command t form) o
comes_by form s t f o (done h) = done (reads_command form s t f (passed o) h)
comes_by form s t f o (refused h) = refused (reads_command form s t f (ended o) h)

pub inputs_decide : (words : List (List ℕ)) (held other : Contents) (o : Outcome) → ((form : Form) (n : List ℕ) → IsForm words form → In n (inputs_of form) → other n ≡ held n)
    → IsOutcome (Of held) words o → IsOutcome (Of other) words o
inputs_decide words held other o same (no_form u) = no_form u
inputs_decide words held other o same (formed form is h) =
    formed form is (comes_by form (Of held) (Of other) (λ n x there e. e ∙ sym (same form n is (has_in (inputs_of form) n there))) o h)

-- ---- contents for an answer over any files

named_log : (files : Store) (name : List ℕ) (ans : Answer Part) → log (Sees files) name ans → IsNamed (name ∷ []) files (λ held. log (Of held) name ans)
named_log files name ans h = named_last (name ∷ []) files (λ reading. Input reading name (codes "log") most_log_bytes) LogOf ans (named_input files name (codes "log") most_log_bytes) h

named_source : (files : Store) (src cut : List ℕ) (ans : Answer (List ℕ)) → source (Sees files) src cut ans → IsNamed (src ∷ []) files (λ held. source (Of held) src cut ans)
named_source files src cut ans h = named_last (src ∷ []) files (λ reading. Input reading src (codes "source") most_bytes) (SourceOf cut) ans (named_input files src (codes "source") most_bytes) h

named_system : (files : Store) (sys cut bytes : List ℕ) (ans : Answer (List ℕ)) → system (Sees files) sys cut bytes ans → IsNamed (sys ∷ []) files (λ held. system (Of held) sys cut bytes ans)
named_system files sys cut bytes ans h =
    named_last (sys ∷ []) files (λ reading. Input reading sys (codes "system") most_system_bytes) (SystemOf cut bytes) ans (named_input files sys (codes "system") most_system_bytes) h

apart : (src sys : List ℕ) → (src ≡ sys → ⊥) → (n : List ℕ) → has (src ∷ []) n ≡ true → has (sys ∷ []) n ≡ true → ⊥
apart src sys ne n is it = ne (only_name src n is ∙ sym (only_name sys n it))

named_command : (files : Store) (form : Form) (ans : Answer Outcome) → HasNames form → command (Sees files) form ans → IsNamed (inputs_of form) files (λ held. command (Of held) form ans)
named_command files help ans names h = named_none files (λ held. command (Of held) help ans) (λ held. h)
named_command files version ans names h = named_none files (λ held. command (Of held) version ans) (λ held. h)
named_command files (order name) ans names h =
    named_last (name ∷ []) files (λ reading. log reading name) (λ part. Only (passed (order_outcome part.whole part.events))) ans (named_log files name) h
named_command files (check src cut) ans names h =
    named_last (src ∷ []) files (λ reading. source reading src cut) (λ accepted. Only (passed (printed Done (codes "accepted\n") []))) ans (named_source files src cut) h
named_command files (stubs src cut) ans names h = named_last (src ∷ []) files (λ reading. source reading src cut) (stubs_printed cut) ans (named_source files src cut) h
named_command files (gen rounds src sys) ans names h = named_none files (λ held. command (Of held) (gen rounds src sys) ans) (λ held. h)
named_command files (recording src cut sys log rep) ans names h =
    named_then (src ∷ []) (sys ∷ []) files (λ reading. source reading src cut) (λ reading. system_then reading sys log rep cut) ans (apart src sys names.source_system) (named_source files src cut)
    (λ bytes b. named_last (sys ∷ []) files (λ reading. system reading sys cut bytes) (run_recorded log rep cut bytes) b (named_system files sys cut bytes)) h

pub of_contents : (files : Store) (words : List (List ℕ)) (o : Outcome) → IsOutcome (Sees files) words o → OutcomeOf files words o
of_contents files words o (no_form u) = (files.holds, λ told n. refl, no_form u)
of_contents files words o (formed form is h) =
    let p = named_contents (inputs_of form) files (λ held. Comes (command (Of held) form) o)
    (named_comes (inputs_of form) files (λ reading. command reading form) o (λ ans. named_command files form ans is.1) h) in
    (p.0, p.1, formed form is p.2)

-- ---- the names that are written

order_avoids : (n : List ℕ) (whole : Bool) (part : Part) → Avoids n (order_outcome whole part.events).writes
order_avoids n true part = (λ (e : out ≡ file n). cc, tt)
order_avoids n false part = (λ (e : out ≡ file n). cc, tt)

print_avoids : (n : List ℕ) (o p : Outcome) → Only (passed p) (passed o) → Avoids n p.writes → Avoids n o.writes
print_avoids n o p e a = let same : o ≡ p = cc e in subst (λ (q : Outcome). Avoids n q.writes) (sym same) a

-- a name that is none of two isn't written to
two_avoid : (n rounds_text system src sys : List ℕ) → (In n (src ∷ sys ∷ []) → ⊥) → Avoids n (record { to = file src; text = rounds_text } ∷ record { to = file sys; text = system } ∷ [])
two_avoid n rounds_text system src sys f = ((λ (e : file src ≡ file n). f (inl (let same : n ≡ src = cc e in same))), ((λ (e : file sys ≡ file n). f (inr (inl (let same : n ≡ sys = cc e in same)))), tt))

-- nor one that is none of the two of a recording
four_avoid : (n log_text rep_text output errors log rep : List ℕ) → (In n (log ∷ rep ∷ []) → ⊥)
    → Avoids n (record { to = file log; text = log_text } ∷ record { to = file rep; text = rep_text } ∷ record { to = out; text = output } ∷ record { to = err; text = errors } ∷ [])
four_avoid n log_text rep_text output errors log rep f =
    ((λ (e : file log ≡ file n). f (inl (let same : n ≡ log = cc e in same))), ((λ (e : file rep ≡ file n). f (inr (inl (let same : n ≡ rep = cc e in same)))), ((λ (e : out ≡ file n). cc), ((λ (e : err ≡ file n). cc), tt))))

done_avoids : (n : List ℕ) (reading : Reading) (form : Form) (o : Outcome) → (In n (outputs_of form) → ⊥) → command reading form (passed o) → Avoids n o.writes
done_avoids n reading help o f h = print_avoids n o (printed Done HELP.now []) h (λ (e : out ≡ file n). cc, tt)
done_avoids n reading version o f h = print_avoids n o (printed Done VERSION.now []) h (λ (e : out ≡ file n). cc, tt)
done_avoids n reading (order name) o f (on {a = part} h k) = print_avoids n o (order_outcome part.whole part.events) k (order_avoids n part.whole part)
done_avoids n reading (check src cut) o f (on {a = accepted} h k) = print_avoids n o (printed Done (codes "accepted\n") []) k (λ (e : out ≡ file n). cc, tt)
done_avoids n reading (stubs src cut) o f (on {a = bytes} h (on {a = text} i k)) = print_avoids n o (printed Done text []) k (λ (e : out ≡ file n). cc, tt)
done_avoids n reading (gen rounds src sys) o f h = print_avoids n o (generated rounds src sys) h (two_avoid n (source_text rounds) SYSTEM.now src sys f)
done_avoids n reading (recording src cut sys log rep) o f (on {a = bytes} h (on {a = script} i (recorded_as {code = code} {told = told} is))) = four_avoid n told.log (report_text (run_of told) code) told.output told.system_output log rep f

input_avoids : (n : List ℕ) (reading : Reading) (name word : List ℕ) (most : ℕ) → EndsIn (λ o. Avoids n o.writes) (Input reading name word most)
input_avoids n reading name word most o (input.missing h) = tt
input_avoids n reading name word most o (input.too_long h m) = tt

log_avoids : (n : List ℕ) (reading : Reading) (name : List ℕ) → EndsIn (λ o. Avoids n o.writes) (log reading name)
log_avoids n reading name =
    ends_then (λ o. Avoids n o.writes) (Input reading name (codes "log") most_log_bytes) LogOf (input_avoids n reading name (codes "log") most_log_bytes) of_bytes
  where
    of_bytes : (bytes : List ℕ) → EndsIn (λ o. Avoids n o.writes) (LogOf bytes)
    of_bytes bytes o (log_stage.wrong is) = tt

refused_avoids : (n cut : List ℕ) (error : SourceError) → Avoids n (refused_for cut error).writes
refused_avoids n cut (errors.Fault fault) = tt
refused_avoids n cut errors.NoSuchCut = tt
refused_avoids n cut (errors.Limit limit) = tt
refused_avoids n cut errors.Memory = tt

source_avoids : (n : List ℕ) (reading : Reading) (src cut : List ℕ) → EndsIn (λ o. Avoids n o.writes) (source reading src cut)
source_avoids n reading src cut =
    ends_then (λ o. Avoids n o.writes) (Input reading src (codes "source") most_bytes) (SourceOf cut) (input_avoids n reading src (codes "source") most_bytes) of_bytes
  where
    of_bytes : (bytes : List ℕ) → EndsIn (λ o. Avoids n o.writes) (SourceOf cut bytes)
    of_bytes bytes o (source_stage.wrong {error = error} is) = refused_avoids n cut error
    of_bytes bytes o (source_stage.found are some) = (λ (e : out ≡ file n). cc, tt)

system_avoids : (n : List ℕ) (reading : Reading) (sys cut bytes : List ℕ) → EndsIn (λ o. Avoids n o.writes) (system reading sys cut bytes)
system_avoids n reading sys cut bytes =
    ends_then (λ o. Avoids n o.writes) (Input reading sys (codes "system") most_system_bytes) (SystemOf cut bytes) (input_avoids n reading sys (codes "system") most_system_bytes) of_script
  where
    of_script : (script : List ℕ) → EndsIn (λ o. Avoids n o.writes) (SystemOf cut bytes script)
    of_script script o (system_stage.wrong a e) = tt

ended_avoids : (n : List ℕ) (reading : Reading) (form : Form) → EndsIn (λ o. Avoids n o.writes) (command reading form)
ended_avoids n reading help = ends_only (λ o. Avoids n o.writes) (printed Done HELP.now [])
ended_avoids n reading version = ends_only (λ o. Avoids n o.writes) (printed Done VERSION.now [])
ended_avoids n reading (order name) =
    ends_then (λ o. Avoids n o.writes) (log reading name) (λ part. Only (passed (order_outcome part.whole part.events))) (log_avoids n reading name)
    (λ part. ends_only (λ o. Avoids n o.writes) (order_outcome part.whole part.events))
ended_avoids n reading (check src cut) =
    ends_then (λ o. Avoids n o.writes) (source reading src cut) (λ accepted. Only (passed (printed Done (codes "accepted\n") []))) (source_avoids n reading src cut)
    (λ accepted. ends_only (λ o. Avoids n o.writes) (printed Done (codes "accepted\n") []))
ended_avoids n reading (stubs src cut) =
    ends_then (λ o. Avoids n o.writes) (source reading src cut) (stubs_printed cut) (source_avoids n reading src cut) (λ bytes. stubs_end (λ o. Avoids n o.writes) cut bytes)
ended_avoids n reading (gen rounds src sys) = ends_only (λ o. Avoids n o.writes) (generated rounds src sys)
ended_avoids n reading (recording src cut sys log rep) =
    ends_then (λ o. Avoids n o.writes) (source reading src cut) (system_then reading sys log rep cut) (source_avoids n reading src cut)
    (λ bytes. ends_then (λ o. Avoids n o.writes) (system reading sys cut bytes) (run_recorded log rep cut bytes) (system_avoids n reading sys cut bytes)
    (λ script. recording_end (λ o. Avoids n o.writes) log rep cut bytes script))

comes_avoids : (n : List ℕ) (reading : Reading) (form : Form) (o : Outcome) → (In n (outputs_of form) → ⊥) → Comes (command reading form) o → Avoids n o.writes
comes_avoids n reading form o f (done h) = done_avoids n reading form o f h
comes_avoids n reading form o f (refused h) = ended_avoids n reading form o h

-- no outcome of the words writes to a name that isn't one of their outputs
pub outcome_avoids : (words : List (List ℕ)) (files : Store) (n : List ℕ) → ((form : Form) → IsForm words form → In n (outputs_of form) → ⊥) → (o : Outcome) → OutcomeOf files words o → Avoids n o.writes
outcome_avoids words files n f o (held, are, no_form u) = tt
outcome_avoids words files n f o (held, are, formed form is h) = comes_avoids n (Of held) form o (f form is) h
