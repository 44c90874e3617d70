-- An accepted cut is sound for threads that want what is granted.
use Rattle.std.proofs.Common.{◌≡◌, ℕ, Bool, true, false, List, [], ◌∷◌, ◌++◌, Some, append_assoc, refl, sym, ap, ◌∙◌, subst}
use Rattle.std.proofs.lemmas.Option.{same_Some}
use Rattle.marks.specs.declared.side.Side.{Side}
use Rattle.marks.specs.declared.side.Side.TheVariants.{Replay, System}
use Rattle.marks.specs.Marks.{Mark}
use Rattle.marks.specs.Wants.{Want, Outside, Turns, Loads, Stores, Enters, Leaves, Allocs, Frees, Calls, Below, Gives, Returns, CallsBack, UpReturns, Steps, Fails, Answer, Go, Value, Frame, CalledBack, Stopped}
use Rattle.c_code.specs.MarkLists.{Expects}
use Rattle.c_semantics.specs.Reading.{Marks}
use Rattle.c_semantics.specs.Context.{Source}
use Rattle.c_semantics.specs.Arguments.{is_known}
use Rattle.cut_graph_rules.specs.Findings.{Cut, IsAccepted, IsGlobal, May}
use Rattle.cut_graph_reached.specs.Reached.{Reach, by_pointer, called, entered, reached, stepped}
use Rattle.cut_graph_reached.specs.Answers.{IsAnswered, IsReached, ModesKept}
use Rattle.cut_graph_laws.specs.Granted.{Permits, WantGranted, WantsAreGranted}
use Rattle.cut_graph_laws.specs.SoundCut.{IsCutOf, MeetsAbove, Part, SoundCut, Touches, Writes, accessed, is_store, permits}
use Rattle.cut_graph_laws.proofs.Accepted.{never_shared}

-- pointers that keep to the modes of a list keep to those of each prefix of it
pub kept_before : (may : Side → ℕ → Type 0) (p : Marks) (ms before after : List Mark) (m : Mark) → ms ≡ before ++ (m ∷ after) → ModesKept may p ms → ModesKept may p before
kept_before may p ms before after m e kept r k =
    let i = k.reaches in
    let a = i.answered in
    kept r (record {
      reaches = record {
        side = i.side;
        want = i.want;
        answer = i.answer;
        answered = record {
          before = a.before;
          mark = a.mark;
          after = a.after ++ (m ∷ after);
          there = e ∙ (ap (λ (l : List Mark). l ++ (m ∷ after)) a.there ∙ append_assoc a.before (a.mark ∷ a.after) (m ∷ after));
          wanted = a.wanted;
          answers = a.answers;
        };
        reaches = i.reaches;
      };
      pointer = k.pointer;
    })

module _ (s : Source) (c : Cut) where
  abbrev P : Permits
  P = permits s c

  -- ---- what is wanted by name

  abbrev Runs : Reach → Type 0
  Runs r = is_known s r.func ≡ true → May c r.side r.func

  same_reach : (q r : Reach) → Some q ≡ Some r → Runs q → Runs r
  same_reach q r e h = subst Runs (same_Some q r e) h

  by_entering : (side : Side) (f : ℕ) (x : Answer) (r : Reach) → entered side f x ≡ Some r → Runs (record { side = side; func = f }) → Runs r
  by_entering side f (Frame at) r e h = same_reach (record { side = side; func = f }) r e h
  by_entering side f Go r e h = absurd cc
  by_entering side f (Value v) r e h = absurd cc
  by_entering side f (CalledBack g args) r e h = absurd cc
  by_entering side f Stopped r e h = absurd cc

  by_calling : (f : ℕ) (x : Answer) (r : Reach) → called f x ≡ Some r → Runs (record { side = System; func = f }) → Runs r
  by_calling f Go r e h = same_reach (record { side = System; func = f }) r e h
  by_calling f (Frame at) r e h = absurd cc
  by_calling f (Value v) r e h = absurd cc
  by_calling f (CalledBack g args) r e h = absurd cc
  by_calling f Stopped r e h = absurd cc

  by_stepping : (side : Side) (f : ℕ) (x : Answer) (r : Reach) → stepped side f x ≡ Some r → Runs (record { side = side; func = f }) → Runs r
  by_stepping side f (Value v) r e h = same_reach (record { side = side; func = f }) r e h
  by_stepping side f Go r e h = absurd cc
  by_stepping side f (Frame at) r e h = absurd cc
  by_stepping side f (CalledBack g args) r e h = absurd cc
  by_stepping side f Stopped r e h = absurd cc

  -- a step above the cut is never one by name
  stepped_there : (side : Side) (i : Bool) (f : ℕ) → i ≡ false → WantGranted s P side (Steps i f []) → Runs (record { side = side; func = f })
  stepped_there Replay i f e granted known = let no : true ≡ false = sym (granted known).0 ∙ e in absurd cc
  stepped_there System i f e granted known = granted e known

  by_name : (side : Side) (want : Want) (x : Answer) (r : Reach) → WantGranted s P side want → reached side want x ≡ Some r → by_pointer want ≡ false → Runs r
  by_name side (Enters i f args bytes) x r granted e named = by_entering side f x r e (granted named)
  by_name side (Calls i f args) x r granted e named = by_calling f x r e (granted named)
  by_name side (Steps i f args) x r granted e named = by_stepping side f x r e (stepped_there side i f named granted)
  by_name side Outside x r granted e named = absurd cc
  by_name side (Below f args) x r granted e named = absurd cc
  by_name side (CallsBack f args bytes) x r granted e named = absurd cc
  by_name side Turns x r granted e named = absurd cc
  by_name side (Loads o at n) x r granted e named = absurd cc
  by_name side (Stores o at bytes) x r granted e named = absurd cc
  by_name side (Leaves at n) x r granted e named = absurd cc
  by_name side (Allocs n) x r granted e named = absurd cc
  by_name side (Frees at) x r granted e named = absurd cc
  by_name side (Gives f args) x r granted e named = absurd cc
  by_name side (Returns f args v) x r granted e named = absurd cc
  by_name side (UpReturns f v) x r granted e named = absurd cc
  by_name side (Fails kind) x r granted e named = absurd cc

  -- ---- globals that are accessed

  touched : (side : Side) (want : Want) (g : ℕ) → WantGranted s P side want → accessed want ≡ Some g → P.touches side g
  touched side (Loads o at n) g granted e = granted g e
  touched side (Stores o at bytes) g granted e = (granted g e).0
  touched side Outside g granted e = absurd cc
  touched side Turns g granted e = absurd cc
  touched side (Enters i f args bytes) g granted e = absurd cc
  touched side (Leaves at n) g granted e = absurd cc
  touched side (Allocs n) g granted e = absurd cc
  touched side (Frees at) g granted e = absurd cc
  touched side (Calls i f args) g granted e = absurd cc
  touched side (Below f args) g granted e = absurd cc
  touched side (Gives f args) g granted e = absurd cc
  touched side (Returns f args v) g granted e = absurd cc
  touched side (CallsBack f args bytes) g granted e = absurd cc
  touched side (UpReturns f v) g granted e = absurd cc
  touched side (Steps i f args) g granted e = absurd cc
  touched side (Fails kind) g granted e = absurd cc

  written : (side : Side) (want : Want) (g : ℕ) → WantGranted s P side want → accessed want ≡ Some g → is_store want ≡ true → P.writes side g
  written side (Stores o at bytes) g granted e store = (granted g e).1
  written side (Loads o at n) g granted e store = absurd cc
  written side Outside g granted e store = absurd cc
  written side Turns g granted e store = absurd cc
  written side (Enters i f args bytes) g granted e store = absurd cc
  written side (Leaves at n) g granted e store = absurd cc
  written side (Allocs n) g granted e store = absurd cc
  written side (Frees at) g granted e store = absurd cc
  written side (Calls i f args) g granted e store = absurd cc
  written side (Below f args) g granted e store = absurd cc
  written side (Gives f args) g granted e store = absurd cc
  written side (Returns f args v) g granted e store = absurd cc
  written side (CallsBack f args bytes) g granted e store = absurd cc
  written side (UpReturns f v) g granted e store = absurd cc
  written side (Steps i f args) g granted e store = absurd cc
  written side (Fails kind) g granted e store = absurd cc

  -- ---- threads that want what is granted

  module _ (of : IsCutOf s c) (accepted : IsAccepted c) (Threads : Marks → Type 0) (granted : (a : Marks) → Threads a → WantsAreGranted s P a) where
    expected : (d : Part c Threads) (past : List Mark) (side : Side) (want : Want) → d.behaviour past ≡ Expects side want → ModesKept (May c) d.behaviour past → WantGranted s P side want
    expected d past side want e kept = granted d.behaviour d.thread past side want e (λ r k known. kept r k)

    wanted_there : (d : Part c Threads) (side : Side) (want : Want) (x : Answer) → IsAnswered d.behaviour d.marks side want x → WantGranted s P side want
    wanted_there d side want x a = expected d a.before side want a.wanted (kept_before (May c) d.behaviour d.marks a.before a.after a.mark a.there d.kept)

    runs : (d : Part c Threads) (r : Reach) → IsReached d.behaviour d.marks r → Runs r
    runs d r k = by (by_pointer k.want) refl
      where
        by : (t : Bool) → by_pointer k.want ≡ t → Runs r
        by true e known = d.kept r (record { reaches = k; pointer = e })
        by false e known = by_name k.side k.want k.answer r (wanted_there d k.side k.want k.answer k.answered) k.reaches e known

    never_met : (d : Part c Threads) (f : ℕ) → is_known s f ≡ true → MeetsAbove c Threads d f → ⊥
    never_met d f known m =
        let step = wanted_there d Replay (Steps m.indirect f m.args) (Value m.value) m.answered known in
        let may = d.kept (record { side = Replay; func = f }) (record {
          reaches = record { side = Replay; want = Steps m.indirect f m.args; answer = Value m.value; answered = m.answered; reaches = refl };
          pointer = step.0;
        }) in
        step.1 (λ k. may)

    apart : (d e w : Part c Threads) (g : ℕ) (name : List ℕ) → IsGlobal c.program g name → Touches c Threads d Replay g → Touches c Threads e System g → Writes c Threads w g → ⊥
    apart d e w g name is above under store =
        let a = touched Replay above.want g (wanted_there d Replay above.want above.answer above.answered) above.global in
        let b = touched System under.want g (wanted_there e System under.want under.answer under.answered) under.global in
        let t = store.touches in
        let by = written store.side t.want g (wanted_there w store.side t.want t.answer t.answered) t.global store.stores in
        never_shared s c of accepted g name is a.0 b.0 a.1 b.1 (record { side = store.side; by = by.0; runs = by.1.runs; writes = by.1.writes })

    pub sound_cut : SoundCut s c Threads
    sound_cut = record {
      reaches = runs;
      globals = apart;
      externals = never_met;
      wants = λ d side want e. expected d d.marks side want e d.kept;
    }
