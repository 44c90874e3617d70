-- Steps of builtins.
use Rattle.std.proofs.Common.{◌≡◌, ℕ, ◌≤◌, Bool, true, false, cond, eq-eqb, List, [], ◌∷◌, ◌++◌, length, Some, None, refl, sym, ap, ◌∙◌, subst, arith}
use Rattle.std.specs.Option.{option_or}
use Rattle.marks.specs.declared.side.Side.TheVariants.{System}
use Rattle.marks.specs.declared.breach.BreachKind.TheVariants.{Mode}
use Rattle.marks.specs.Places.{function_address}
use Rattle.marks.specs.declared.range.Range.{Range}
use Rattle.marks.specs.Ranges.{Piece}
use Rattle.marks.specs.Bytes.{granted}
use Rattle.marks.specs.Marks.{Mark}
use Rattle.marks.specs.Wants.{Steps, Value}
use Rattle.c_builtins.specs.declared.builtin.Builtin.{Builtin}
use Rattle.c_builtins.specs.declared.builtin.Builtin.TheVariants as builtins
use Rattle.c_builtins.specs.Table.{number_of}
use Rattle.c_code.specs.Machine.{first}
use Rattle.c_code.specs.Typed.{AreArguments, CarriesValues}
use Rattle.replay_runs.specs.Records.{pieces_in_a_row}
use Rattle.steps_above_memory.specs.declared.refusal.StepRefusal.{StepRefusal}
use Rattle.steps_above_memory.specs.declared.refusal.StepRefusal.TheVariants as refusal
use Rattle.whole_runs.specs.World.{World, interface, interface_on, may_run}
use Rattle.whole_runs.specs.Log.{printed_below}
use Rattle.whole_runs.specs.Outcomes.{builtin_of}
use Rattle.whole_runs.specs.Below.{block_at, given, last_under, prepared_below}
use Rattle.whole_runs.specs.Tests.{step_checks}
use Rattle.whole_runs.specs.Steps.{zeros}
use Rattle.whole_runs_seen.proofs.Threads.{threads_known}
use Rattle.recorder_memory.specs.declared.memory.Memory.{Memory}
use Rattle.recorder_memory.specs.Below.{ComesToBuiltin, FreesBlock, GivesBlock, IsForThreads, Prints, RefusesFree, RefusesPrint}
use Rattle.recorder_memory.proofs.Quiet.{steps_of_threads}
use Rattle.recorder_system.specs.declared.given.Given.TheVariants as shown
use Rattle.recorder_system.specs.Calls.{IsGiven}
use Rattle.recorder_system.specs.Shown.{given_in}
use Rattle.recorder_system.proofs.Gives.{tells_builtin}
use Rattle.recorder_system.proofs.Numbers.{number_is}
use Rattle.recorder_system.proofs.Values.{ints}
use Rattle.recorder_threads.specs.declared.wants.Want.TheVariants as told
use Rattle.recorder_threads.specs.Threads.{args_at}
use Rattle.recorder_state.specs.declared.state.RunState.{RunState}
use Rattle.recorder_state.specs.declared.stop.Stop.{Stop}
use Rattle.recorder_state.specs.Turns.{IsAtStep}
use Rattle.recorder_state.specs.Ends.{IsStopped}
use Rattle.recorder_state.specs.Plain.{IsResultStep}
use Rattle.recorder_state.specs.Prepared.{ArePreparedBelow}
use Rattle.recorder_plain.proofs.Breaches.{indirect_found}
use Rattle.recorder_plain.proofs.Steps.{carries, comes, stops_before}
use Rattle.recorder_below.specs.Builtins.{IsAtBuiltin}
use Rattle.recorder_below.proofs.Called.{gives, m, prints_nothing}
use Rattle.recorder_below.proofs.Made.{EndsBy}
use Rattle.recorder_below.proofs.Prepares.{prepares_nothing}

-- one that a pointer names may not run there
pub step_breaks : (w : World) (s : RunState) (t : ℕ) (i : Bool) (f : ℕ) → IsAtStep w s t System (told.Step i f) → (end : Stop) → EndsBy t (refusal.Breach Mode (function_address f) None) end → i ≡ true → may_run w.laid.placed System f ≡ false → IsStopped w s end
step_breaks w s t i f at end ends e may_not =
    stops_before w s t System (told.Step i f) at (Steps i f (args_at s.threads t)) at.told (refusal.Breach Mode (function_address f) None) end s.memory refl ends
    (indirect_found (interface w) System f (step_checks w at.reached.past t f (args_at s.threads t) (builtin_of f)) i e may_not)

module _ (w : World) (s : RunState) (t f : ℕ) (b : Builtin) (is : IsAtBuiltin w s t f b) where
  abbrev pub args : List ℕ
  args = args_at s.threads t

  abbrev pub past : List Mark
  past = is.at.reached.past

  abbrev pub to : ComesToBuiltin w past s.memory t is.indirect f args b
  to = record { to = comes w s t System (told.Step is.indirect f) is.at (Steps is.indirect f args) is.at.told is.may; builtin = is.builtin }

  -- nothing more is prepared
  pub kept : (v : ℕ) (ins pieces : List Piece) (freed : List Range) (new : Memory) → ArePreparedBelow w (m w s t is.indirect f is.at v ins pieces freed new ∷ past) s.prepared
  kept v ins pieces freed new = λ k. is.at.reached.around.prepared k ∙ sym (ap (λ ps. option_or (last_under k ps) (prepared_below w k past)) (prepares_nothing w is.at.reached.fit f b is.builtin args))

  pub fits : AreArguments w.laid f args
  fits = subst (CarriesValues w.laid) is.at.told (carries w s t System (told.Step is.indirect f) is.at)

module _ (w : World) (s : RunState) (t f : ℕ) (is : IsAtBuiltin w s t f builtins.Malloc) where
  pub malloc_gives : (addr : ℕ) (new : Memory) → GivesBlock s.memory (first (args_at s.threads t)) addr new → IsResultStep w (record s { memory = new }) t f addr (Value addr)
  malloc_gives addr new made =
      gives w s t is.indirect f is.at addr [] (zeros addr (granted addr (first (args_at s.threads t)))) [] new s.prepared (record s { memory = new }) refl (kept w s t f builtins.Malloc is addr [] (zeros addr (granted addr (first (args_at s.threads t)))) [] new) (prints_nothing s.system_output.items f)
      (made w is.at.reached.past t is.indirect f (args_at s.threads t) (to w s t f builtins.Malloc is) refl)

module _ (w : World) (s : RunState) (t f : ℕ) (is : IsAtBuiltin w s t f builtins.Free) where
  pub free_gives : (new : Memory) → FreesBlock s.memory (first (args_at s.threads t)) new → IsResultStep w (record s { memory = new }) t f 0 (Value 0)
  free_gives new made =
      gives w s t is.indirect f is.at 0 [] [] (block_at (first (args_at s.threads t)) is.at.reached.past) new s.prepared (record s { memory = new }) refl (kept w s t f builtins.Free is 0 [] [] (block_at (first (args_at s.threads t)) is.at.reached.past) new) (prints_nothing s.system_output.items f)
      (made w is.at.reached.past t is.indirect f (args_at s.threads t) (to w s t f builtins.Free is) refl)

  pub free_stops : (r : StepRefusal) (end : Stop) (new : Memory) → EndsBy t r end → RefusesFree s.memory (first (args_at s.threads t)) r → new ≡ s.memory → IsStopped w (record s { memory = new }) end
  free_stops r end new ends refuses same =
      stops_before w s t System (told.Step is.indirect f) is.at (Steps is.indirect f (args_at s.threads t)) is.at.told r end new same ends
      (refuses w is.at.reached.past t is.indirect f (args_at s.threads t) (to w s t f builtins.Free is) refl)

module _ (w : World) (s : RunState) (t f : ℕ) (b : Builtin) (is : IsAtBuiltin w s t f b) (threads : IsForThreads b) where
  few_threads : length s.system.threads ≤ 32
  few_threads = let n = is.at.reached.around.system.count in let k = (threads_known w is.at.reached.fit.code is.at.reached.past is.at.reached.follows).few in omega (arith, n, k)

  given_so : IsGiven w (given w is.at.reached.past t f (args_at s.threads t)) (given_in s.system t (first (args_at s.threads t)) b)
  given_so = tells_builtin s.system t f (args_at s.threads t) b few_threads is.builtin (ints w.laid f (args_at s.threads t) is.at.reached.fit.code.valid (fits w s t f b is)) w is.at.reached.past is.at.reached.around.system

  pub threads_give : (v : ℕ) → given_in s.system t (first (args_at s.threads t)) b ≡ shown.Value v → IsResultStep w s t f v (Value v)
  threads_give v e =
      gives w s t is.indirect f is.at v [] [] [] s.memory s.prepared s refl (kept w s t f b is v [] [] [] s.memory) (prints_nothing s.system_output.items f)
      (steps_of_threads s.memory w is.at.reached.past t is.indirect f (args_at s.threads t) b v (to w s t f b is) threads (subst (IsGiven w (given w is.at.reached.past t f (args_at s.threads t))) e given_so))

-- the builtin with this number is `r2_print`, so what it reads is printed
printed : (f : ℕ) (ins : List Piece) → builtin_of f ≡ Some builtins.Print → printed_below f ins ≡ pieces_in_a_row ins
printed f ins e = ap (λ b. cond b (pieces_in_a_row ins) []) (eq-eqb f (number_of builtins.Print) (number_is f builtins.Print e))

module _ (w : World) (s : RunState) (t f : ℕ) (is : IsAtBuiltin w s t f builtins.Print) where
  pub print_gives : (s' : RunState) (bytes : List ℕ) (ranges : List Range) → s' ≡ record s { system_output = s'.system_output } → s'.system_output.items ≡ s.system_output.items ++ bytes → ranges ≡ (interface_on w System f).ins f (args_at s.threads t) → Prints s.memory t ranges bytes → IsResultStep w s' t f 0 (Value 0)
  print_gives s' bytes ranges differs out are prints =
      let p = prints w is.at.reached.past is.indirect f (args_at s.threads t) (to w s t f builtins.Print is) (sym are) in
      gives w s t is.indirect f is.at 0 p.ins [] [] s.memory s.prepared s' differs (kept w s t f builtins.Print is 0 p.ins [] [] s.memory) (out ∙ ap (λ xs. s.system_output.items ++ xs) (sym p.bytes_are ∙ sym (printed f p.ins is.builtin))) p.marked

  pub print_stops : (r : StepRefusal) (end : Stop) (ranges : List Range) → EndsBy t r end → ranges ≡ (interface_on w System f).ins f (args_at s.threads t) → RefusesPrint s.memory t ranges r → IsStopped w s end
  print_stops r end ranges ends are refuses =
      stops_before w s t System (told.Step is.indirect f) is.at (Steps is.indirect f (args_at s.threads t)) is.at.told r end s.memory refl ends
      (refuses w is.at.reached.past is.indirect f (args_at s.threads t) (to w s t f builtins.Print is) (sym are))
