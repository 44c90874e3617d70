-- Where a source passes values of its types, what a thread reaches by a name is known.
use Rattle.std.proofs.Common.{◌≡◌, ℕ, Bool, true, false, List, Some, refl, subst}
use Rattle.std.proofs.lemmas.Bool.{and_parts}
use Rattle.std.proofs.lemmas.Option.{same_Some}
use Rattle.marks.specs.declared.side.Side.{Side}
use Rattle.marks.specs.declared.side.Side.TheVariants.{Replay, System}
use Rattle.marks.specs.Marks.{Mark}
use Rattle.marks.specs.Wants.{Want, Outside, Turns, Loads, Stores, Enters, Leaves, Allocs, Frees, Calls, Below, Gives, Returns, CallsBack, UpReturns, Steps, Fails, Answer, Go, Value, Frame, CalledBack, Stopped}
use Rattle.c_code.specs.Frames.{are_values}
use Rattle.c_types_model.specs.Types.{CType}
use Rattle.c_types_rules.specs.Sources.{params_of}
use Rattle.c_semantics.specs.Reading.{Marks}
use Rattle.c_semantics.specs.Context.{Source, param_shapes, shapes_of}
use Rattle.c_semantics.specs.Calls.{thread_behaviour}
use Rattle.c_semantics.specs.Returned.{ResultsAreConverted}
use Rattle.c_semantics.specs.Arguments.{AreArguments, ArgumentsAreConverted, CarriesValues, WantsCarryValues, is_known}
use Rattle.c_semantics.proofs.Carried.{wants_carry_values}
use Rattle.cut_graph_rules.specs.Findings.{Cut, IsAccepted, May}
use Rattle.cut_graph_reached.specs.Reached.{Reach, by_pointer, called, entered, reached, stepped}
use Rattle.cut_graph_reached.specs.Answers.{IsAnswered, IsReached, ModesKept}
use Rattle.cut_graph_laws.specs.SoundCut.{IsCutOf, IsThread, Part, SoundCut, StaysWithin, of_function, permits}
use Rattle.cut_graph_laws.proofs.Accepted.{grants}
use Rattle.cut_graph_laws.proofs.Cuts.{sound_cut}
use Rattle.cut_graph_laws.proofs.Wants.{thread_granted}

module _ (s : Source) where
  abbrev Known : Reach → Type 0
  Known r = is_known s r.func ≡ true

  known_of : (f : ℕ) (args : List ℕ) → AreArguments s f args → is_known s f ≡ true
  known_of f args ok = (and_parts (is_known s f) (are_values (param_shapes s f) args) ok).0

  same : (q r : Reach) → Some q ≡ Some r → Known q → Known r
  same q r e h = subst Known (same_Some q r e) h

  by_entering : (side : Side) (f : ℕ) (x : Answer) (r : Reach) → entered side f x ≡ Some r → is_known s f ≡ true → Known r
  by_entering side f (Frame at) r e h = same (record { side = side; func = f }) r e h
  by_entering side f Go r e h = absurd cc
  by_entering side f (Value v) r e h = absurd cc
  by_entering side f (CalledBack g args) r e h = absurd cc
  by_entering side f Stopped r e h = absurd cc

  by_calling : (f : ℕ) (x : Answer) (r : Reach) → called f x ≡ Some r → is_known s f ≡ true → Known r
  by_calling f Go r e h = same (record { side = System; func = f }) r e h
  by_calling f (Frame at) r e h = absurd cc
  by_calling f (Value v) r e h = absurd cc
  by_calling f (CalledBack g args) r e h = absurd cc
  by_calling f Stopped r e h = absurd cc

  by_stepping : (side : Side) (f : ℕ) (x : Answer) (r : Reach) → stepped side f x ≡ Some r → is_known s f ≡ true → Known r
  by_stepping side f (Value v) r e h = same (record { side = side; func = f }) r e h
  by_stepping side f Go r e h = absurd cc
  by_stepping side f (Frame at) r e h = absurd cc
  by_stepping side f (CalledBack g args) r e h = absurd cc
  by_stepping side f Stopped r e h = absurd cc

  -- what is reached by a name is what is wanted
  named_known : (side : Side) (want : Want) (x : Answer) (r : Reach) → CarriesValues s want → reached side want x ≡ Some r → by_pointer want ≡ false → Known r
  named_known side (Enters i f args bytes) x r ok e named = by_entering side f x r e (known_of f args ok)
  named_known side (Calls i f args) x r ok e named = by_calling f x r e (known_of f args ok)
  named_known side (Steps i f args) x r ok e named = by_stepping side f x r e (known_of f args ok)
  named_known side Outside x r ok e named = absurd cc
  named_known side (Below f args) x r ok e named = absurd cc
  named_known side (CallsBack f args bytes) x r ok e named = absurd cc
  named_known side Turns x r ok e named = absurd cc
  named_known side (Loads o at n) x r ok e named = absurd cc
  named_known side (Stores o at bytes) x r ok e named = absurd cc
  named_known side (Leaves at n) x r ok e named = absurd cc
  named_known side (Allocs n) x r ok e named = absurd cc
  named_known side (Frees at) x r ok e named = absurd cc
  named_known side (Gives f args) x r ok e named = absurd cc
  named_known side (Returns f args v) x r ok e named = absurd cc
  named_known side (UpReturns f v) x r ok e named = absurd cc
  named_known side (Fails kind) x r ok e named = absurd cc

  module _ (c : Cut) (Threads : Marks → Type 0) (sound : SoundCut s c Threads) (a : Marks) (is : Threads a) (carries : WantsCarryValues s a) where
    abbrev part : (ms : List Mark) → ModesKept (May c) a ms → Part c Threads
    part ms kept = record { behaviour = a; thread = is; marks = ms; kept = kept }

    runs : (ms : List Mark) → ModesKept (May c) a ms → (r : Reach) → IsReached a ms r → May c r.side r.func
    runs ms kept r k = by (by_pointer k.want) refl
      where
        by : (t : Bool) → by_pointer k.want ≡ t → May c r.side r.func
        by true e = kept r (record { reaches = k; pointer = e })
        by false e = sound.reaches (part ms kept) r k (named_known k.side k.want k.answer r (carries k.answered.before k.side k.want k.answered.wanted) k.reaches e)

    never : (ms : List Mark) → ModesKept (May c) a ms → (i : Bool) (f : ℕ) (args : List ℕ) (v : ℕ) → IsAnswered a ms Replay (Steps i f args) (Value v) → ⊥
    never ms kept i f args v k = sound.externals (part ms kept) f (known_of f args (carries k.before Replay (Steps i f args) k.wanted)) (record { indirect = i; args = args; value = v; answered = k })

    pub stays_within : StaysWithin c a
    stays_within = record { reaches = runs; steps = never }

pub threads_within : (s : Source) (c : Cut) → IsCutOf s c → IsAccepted c → ResultsAreConverted s → ArgumentsAreConverted s → (t : CType) (address : ℕ) (args : List ℕ) → are_values (shapes_of (params_of t)) args ≡ true → StaysWithin c (thread_behaviour s t address args)
threads_within s c of accepted results arguments t address args ok =
    stays_within s c (IsThread s) (sound_cut s c of accepted (IsThread s) (thread_granted s (permits s c) (grants s c of accepted))) (thread_behaviour s t address args) (of_function t address args) (wants_carry_values s results arguments t address args ok)
