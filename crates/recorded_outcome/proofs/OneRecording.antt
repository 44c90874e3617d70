-- The bytes of a source, the name of its cut and the bytes of a system file decide what a recording leaves.
use Rattle.std.proofs.Common.{◌≡◌, ℕ, ◌+◌, ◌&&◌, ltb, List, [], ◌∷◌, ◌++◌, Some, None, Ok, codes, refl, sym, ap, ◌∙◌, subst}
use Rattle.std.specs.Prelude.{if◌then◌else◌, is_none}
use Rattle.marks.specs.Marks.{Mark}
use Rattle.c_code.specs.Machine.{Flat}
use Rattle.c_builtins.specs.Table.{first_source_function}
use Rattle.annot_reader.specs.Interfaces.{annots_at, declared_at}
use Rattle.stub_operations.specs.declared.purpose.Purpose.TheVariants.{Record}
use Rattle.stub_operations.specs.Operations.{operations_below}
use Rattle.stub_operations.specs.Stubs.{added_at, below_at}
use Rattle.call_operations.specs.Said.{call_says}
use Rattle.call_operations.specs.Sets.{stubs_of}
use Rattle.system_side.specs.declared.file.SysFile.{SysFile}
use Rattle.sys_script_lines.specs.Scripts.{Breaks, IsRead, Reads, SaidSoFar, Script}
use Rattle.isolation_check_rules.specs.Places.{IsPlaced, Literal}
use Rattle.isolation_check.specs.Literals.{literals_in}
use Rattle.cut_graph_rules.specs.Findings.{Cut}
use Rattle.space_memory_laws.specs.StandsFor.{StandsFor}
use Rattle.call_inspector.specs.Ending.{ending_of, ending_text}
use Rattle.call_inspector.specs.MemoryText.{memory_text}
use Rattle.call_inspector.specs.ThreadText.{threads_from}
use Rattle.front_end.specs.declared.source.CheckedSource.{CheckedSource}
use Rattle.cut_check.specs.Sources.{cut_of}
use Rattle.cut_check.proofs.OneText.{one_annotated, one_program}
use Rattle.whole_runs.specs.World.{World, begin}
use Rattle.whole_runs.specs.Sides.{seen}
use Rattle.whole_runs.specs.Log.{log_of, replay_output, system_output}
use Rattle.whole_runs.specs.Recorded.{IsRecording, Told, full_records}
use Rattle.whole_runs_laws.proofs.OneStep.{steps_determined}
use Rattle.whole_runs_laws.proofs.OneFault.{faults_determined}
use Rattle.whole_runs_laws.proofs.Runs.{one_run}
use Rattle.whole_runs_sources.specs.Laws.{IsWorldOf}
use Rattle.r2_cli_outcome.specs.declared.status.Status.TheVariants.{System}
use Rattle.r2_cli_outcome.specs.Outcome.{Outcome, err, file, out, refusal}
use Rattle.r2_cli_outcome.specs.Stages.{ended, passed}
use Rattle.r2_cli_outcome.proofs.Decided.{IsOne}
use Rattle.recording_texts.specs.Endings.{ending_line, status_of}
use Rattle.recorded_outcome.specs.Recorded.{IsRecordingOf, recorded}
use Rattle.recorded_outcome.specs.Stages.{RecordingOf, SystemOf, line_words, recorded_as, right, script_for, wrong}
use Rattle.recorded_outcome.proofs.OneReport.{memory_same}
use Rattle.recorded_outcome.proofs.OnePlaces.{one_placed}
use Rattle.recorded_outcome.proofs.OneSource.{AreAlike, alike}
use Rattle.recorded_outcome.proofs.SameStubs.{same_recording}

-- ---- the reading of a system file

both_ways : (s r : Script) (t : SaidSoFar) (n : ℕ) → s ≡ Reads t → r ≡ Breaks n → s ≡ r → ⊥
both_ways s r t n e f same = absurd (let no : Reads t ≡ Breaks n = sym e ∙ (same ∙ f) in cc)

pub one_system_of : (like : Outcome → Outcome → Type 0) → ((o : Outcome) → like o o) → (cut bytes script : List ℕ) → IsOne like (SystemOf cut bytes script)
one_system_of like self cut bytes script (passed x) (passed y) (right a e) (right b f) = refl
one_system_of like self cut bytes script (passed x) (ended o) (right {c = c} {s = s} a e) (wrong {c = d} {n = n} b f) =
    both_ways (script_for c script) (script_for d script) s n e f ((alike bytes cut c d a b).answered script)
one_system_of like self cut bytes script (ended o) (passed y) (wrong {c = c} {n = n} a e) (right {c = d} {s = s} b f) =
    both_ways (script_for d script) (script_for c script) s n f e ((alike bytes cut d c b a).answered script)
one_system_of like self cut bytes script (ended o) (ended p) (wrong {c = c} {n = n} a e) (wrong {c = d} {n = m} b f) =
    let both : Breaks n ≡ Breaks m = sym e ∙ ((alike bytes cut c d a b).answered script ∙ f) in
    let same : n ≡ m = cc both in
    subst (λ (k : ℕ). like (refusal System (line_words n)) (refusal System (line_words k))) same (self (refusal System (line_words n)))

-- ---- worlds

one_file : (s : Script) (f g : SysFile) → IsRead s (Ok f) → IsRead s (Ok g) → f ≡ g
one_file (Reads s) f g h k = h ∙ sym k
one_file (Breaks n) f g h k = absurd h

module _ (bytes cut script : List ℕ) (c d : CheckedSource) (w u : World) (h : IsWorldOf bytes cut script c w) (k : IsWorldOf bytes cut script d u) where
  same : AreAlike c d
  same = alike bytes cut c d h.source.accepted k.source.accepted

  code_same : w.laid.code ≡ u.laid.code
  code_same = h.code ∙ (same.code ∙ sym k.code)

  one_cut : cut_of cut k.source.program k.source.annotated ≡ cut_of cut h.source.program h.source.annotated
  one_cut = λ j. cut_of cut (one_program k.source.says h.source.says j) (one_annotated k.source.says h.source.says j)

  literals : literals_in d.program.texts ≡ literals_in c.program.texts
  literals = ap literals_in (sym same.texts)

  placed_same : w.laid.placed ≡ u.laid.placed
  placed_same =
      let there = k.source.placed.placed in
      let moved = subst (λ (x : Cut). IsPlaced x (literals_in d.program.texts) u.laid.placed) one_cut there in
      let here = subst (λ (ls : List Literal). IsPlaced (cut_of cut h.source.program h.source.annotated) ls u.laid.placed) literals moved in
      one_placed (cut_of cut h.source.program h.source.annotated) (literals_in c.program.texts) w.laid.placed u.laid.placed h.source.placed.placed here

  file_same : w.file ≡ u.file
  file_same = one_file (script_for c script) w.file u.file h.file (subst (λ (s : Script). IsRead s (Ok u.file)) (sym (same.answered script)) k.file)

  added_same : (f : ℕ) → added_at w.stubs f ≡ added_at u.stubs f
  added_same f = h.stubs.added f ∙
      ((λ j. if ltb f (first_source_function + same.count j) then stubs_of Record (same.interface j) f else None) ∙ sym (k.stubs.added f))

  below_same : (f : ℕ) → below_at w.stubs f ≡ below_at u.stubs f
  below_same f = h.stubs.below f ∙
      ((λ j. if same.externals f j && is_none (annots_at (same.interface j) f) then Some (operations_below (call_says (declared_at (same.interface j) f))) else None)
      ∙ sym (k.stubs.below f))

  abbrev z : World
  z = record w { stubs = u.stubs }

  world_same : u ≡ z
  world_same =
      let code = sym code_same in
      let placed = sym placed_same in
      let file = sym file_same in
      λ j. record { laid = record { code = code j; placed = placed j }; stubs = u.stubs; file = file j }

  first_told : (told : Told) → IsRecording w told → IsRecording z told
  first_told told r = same_recording w u.stubs added_same below_same told r

  second_told : (told : Told) → IsRecording u told → IsRecording z told
  second_told told r = subst (λ (x : World). IsRecording x told) world_same r

-- ---- what is told of one world

module _ (z : World) (t s : Told) (a : IsRecording z t) (b : IsRecording z s) where
  run_same : a.run ≡ b.run
  run_same = (one_run z (steps_determined z) (faults_determined z) a.run b.run t.ending s.ending a.is_run b.is_run).0

  ending_same : t.ending ≡ s.ending
  ending_same = (one_run z (steps_determined z) (faults_determined z) a.run b.run t.ending s.ending a.is_run b.is_run).1

  logs_same : t.log ≡ s.log
  logs_same = a.log ∙ (ap (log_of z) run_same ∙ sym b.log)

  threads_same : t.threads ≡ s.threads
  threads_same = a.threads ∙ (ap (full_records z) run_same ∙ sym b.threads)

  output_same : t.output ≡ s.output
  output_same = a.output ∙ (ap (replay_output z) run_same ∙ sym b.output)

  below_printed : t.system_output ≡ s.system_output
  below_printed = a.system_output ∙ (ap system_output run_same ∙ sym b.system_output)

  texts_same : memory_text t.memory ≡ memory_text s.memory
  texts_same = memory_same (begin z) (seen a.run) t.memory s.memory a.memory (subst (λ (run : List Mark). StandsFor (begin z) (seen run) s.memory) (sym run_same) b.memory)

  pub outcome_same : (log rep : List ℕ) (code flat : Flat) → code ≡ flat → recorded log rep code t ≡ recorded log rep flat s
  outcome_same log rep code flat e = λ j. record {
    status = status_of (ending_same j);
    writes =
        record { to = file log; text = logs_same j } ∷
        record { to = file rep; text = threads_from (e j) 0 (threads_same j) ++ codes "memory\n" ++ texts_same j ++ codes "end " ++ ending_text (ending_of (threads_same j)) ++ codes "\n" } ∷
        record { to = out; text = output_same j } ∷ record { to = err; text = below_printed j } ∷ [];
    line = ending_line (e j) (ending_same j);
  }

-- ---- what a recording leaves

one_outcome : (log rep cut bytes script : List ℕ) (code flat : Flat) (t s : Told) → IsRecordingOf bytes cut script code t → IsRecordingOf bytes cut script flat s → recorded log rep code t ≡ recorded log rep flat s
one_outcome log rep cut bytes script code flat t s a b =
    let first = first_told bytes cut script a.source b.source a.world b.world a.is_world b.is_world t a.recording in
    let second = second_told bytes cut script a.source b.source a.world b.world a.is_world b.is_world s b.recording in
    let codes = sym a.code_is ∙ (code_same bytes cut script a.source b.source a.world b.world a.is_world b.is_world ∙ b.code_is) in
    outcome_same (record a.world { stubs = b.world.stubs }) t s first second log rep code flat codes

pub one_recording_of : (like : Outcome → Outcome → Type 0) (log rep cut bytes script : List ℕ) → IsOne like (RecordingOf log rep cut bytes script)
one_recording_of like log rep cut bytes script (passed o) (passed p) (recorded_as {code = code} {told = t} a) (recorded_as {code = flat} {told = s} b) = one_outcome log rep cut bytes script code flat t s a b
one_recording_of like log rep cut bytes script (passed o) (ended p) a b = elim b [ ]
one_recording_of like log rep cut bytes script (ended o) y a b = elim a [ ]
