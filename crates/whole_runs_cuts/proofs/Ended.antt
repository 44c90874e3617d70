-- The fault that ends a run and the Stops after it run nothing and touch nothing.
use Rattle.std.proofs.Common.{◌≡◌, inl, inr, ⊎_elim, ℕ, true, false, List, [], ◌∷◌, ◌++◌, Some, None, refl, sym, ap, ◌∙◌, subst}
use Rattle.std.specs.Prelude.{filter, map, reverse}
use Rattle.std.specs.List.{range_with_len}
use Rattle.std.proofs.lemmas.List.{reverse-append}
use Rattle.marks.specs.declared.side.Side.{Side}
use Rattle.marks.specs.declared.side.Side.TheVariants.{System}
use Rattle.marks.specs.declared.fault.FaultKind.{FaultKind}
use Rattle.marks.specs.Marks.{Act, Turn, Load, Store, Enter, Leave, Step, Fault, Made, Mark}
use Rattle.replay_runs.specs.Runs.{In}
use Rattle.replay_runs.specs.Threads.{act_fault}
use Rattle.replay_runs.proofs.Causes.{In-append}
use Rattle.cut_graph_rules.specs.Findings.{Cut, May}
use Rattle.cut_graph_reached.specs.Reached.{Reach}
use Rattle.cut_graph_laws.specs.Answering.{global_of}
use Rattle.whole_runs.specs.declared.ending.Ending.{Ending}
use Rattle.whole_runs.specs.World.{World}
use Rattle.whole_runs.specs.Outcomes.{started}
use Rattle.whole_runs.specs.Threads.{in_replay_mode}
use Rattle.whole_runs.specs.Ends.{IsLast, IsRun, done, budget, blocked, fault, breach, script, events, full, stop_of, stops}
use Rattle.whole_runs_cuts.specs.Laws.{AreApart, MarksKeep, is_step, runs}
use Rattle.whole_runs_cuts.proofs.Apart.{stored_is_global}

-- the mark runs nothing, and touches no global
record IsIdle (m : Mark) : Type 0 where
  pub runs_none : (side : Side) → runs side m.act ≡ None
  pub no_step : is_step m.act ≡ false
  pub no_global : global_of m.act ≡ None

abbrev AreIdle : List Mark → Type 0
AreIdle ms = (m : Mark) → In m ms → IsIdle m

idle_fault : (m : Mark) (kind : FaultKind) (a : Act) → m.act ≡ a → act_fault a None ≡ Some kind → IsIdle m
idle_fault m kind (Fault k crosses ins outs access) e h = record { runs_none = λ side. ap (runs side) e; no_step = ap is_step e; no_global = ap global_of e }
idle_fault m kind Turn e h = absurd cc
idle_fault m kind (Load o at bytes) e h = absurd cc
idle_fault m kind (Store o at bytes) e h = absurd cc
idle_fault m kind (Enter f args at b) e h = absurd cc
idle_fault m kind (Leave at size) e h = absurd cc
idle_fault m kind (Step f args v ins pieces freed) e h = absurd cc
idle_fault m kind (Made ev) e h = absurd cc

one_idle : (m : Mark) → IsIdle m → AreIdle (m ∷ [])
one_idle m h k (inl e) = subst IsIdle (sym e) h
one_idle m h k (inr i) = absurd i

both_idle : (xs ys : List Mark) → AreIdle xs → AreIdle ys → AreIdle (xs ++ ys)
both_idle xs ys a b m i = ⊎_elim (a m) (b m) (In-append m xs ys i)

idle_reversed : (ms : List Mark) → AreIdle ms → AreIdle (reverse ms)
idle_reversed [] h = h
idle_reversed (m ∷ ms) h = subst AreIdle (sym (reverse-append (m ∷ []) ms)) (both_idle (reverse ms) (m ∷ []) (idle_reversed ms (λ k i. h k (inr i))) (one_idle m (h m (inl refl))))

module _ (c : Cut) (w : World) where
  stops_idle : (run : List Mark) → AreIdle (stops w run)
  stops_idle run = let ts = filter (in_replay_mode w run) (range_with_len 0 (started run)) in idle_reversed (map (stop_of w run) ts) (each ts)
    where
      each : (ts : List ℕ) → AreIdle (map (stop_of w run) ts)
      each [] m i = absurd i
      each (t ∷ ts) m (inl e) = subst IsIdle (sym e) (record { runs_none = λ side. refl; no_step = refl; no_global = refl })
      each (t ∷ ts) m (inr i) = each ts m i

  last_idle : (past last : List Mark) (e : Ending) → IsLast w past last e → AreIdle last
  last_idle past last e (fault {m} kind s found is) = one_idle m (idle_fault m kind m.act refl is.kind_is)
  last_idle past last e (done h) = λ m i. absurd i
  last_idle past last e (budget h k) = λ m i. absurd i
  last_idle past last e (blocked h k) = λ m i. absurd i
  last_idle past last e (breach kind x other s found) = λ m i. absurd i
  last_idle past last e (script s passes lacks) = λ m i. absurd i
  last_idle past last e (events n s made many) = λ m i. absurd i
  last_idle past last e (full n s made few many) = λ m i. absurd i

  -- idle marks change nothing
  module _ (ms past : List Mark) (idle : AreIdle ms) (keeps : MarksKeep c past) where
    touched : (m : Mark) (g : ℕ) → In m (ms ++ past) → global_of m.act ≡ Some g → In m past
    touched m g i h = ⊎_elim (λ k. let no : None ≡ Some g = sym (idle m k).no_global ∙ h in absurd cc) (λ k. k) (In-append m ms past i)

    ran : (m : Mark) (r : Reach) → In m (ms ++ past) → runs m.side m.act ≡ Some r → May c r.side r.func
    ran m r i h = ⊎_elim (λ k. let no : None ≡ Some r = sym ((idle m k).runs_none m.side) ∙ h in absurd cc) (λ k. keeps.runs m r k h) (In-append m ms past i)

    stepped : (m : Mark) → In m (ms ++ past) → is_step m.act ≡ true → m.side ≡ System
    stepped m i h = ⊎_elim (λ k. let no : false ≡ true = sym (idle m k).no_step ∙ h in absurd cc) (λ k. keeps.steps m k h) (In-append m ms past i)

    apart : AreApart c (ms ++ past)
    apart a b k g name is ia sa ga ib sb gb ik gk = keeps.apart a b k g name is (touched a g ia ga) sa ga (touched b g ib gb) sb gb (touched k g ik (stored_is_global k.act g gk)) gk

    with_idle : MarksKeep c (ms ++ past)
    with_idle = record { runs = ran; steps = stepped; apart = apart }

  pub ended_keeps : (run : List Mark) (e : Ending) → (is : IsRun w run e) → MarksKeep c is.past → MarksKeep c run
  ended_keeps run e is keeps =
      let after = with_idle is.last is.past (last_idle is.past is.last e is.ends) keeps in
      subst (MarksKeep c) (sym is.run_is) (with_idle (stops w (is.last ++ is.past)) (is.last ++ is.past) (stops_idle (is.last ++ is.past)) after)
