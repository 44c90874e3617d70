-- Marks that touch a global answer what touches it, on their side; so an accepted cut keeps the marks of a run apart.
use Rattle.std.proofs.Common.{◌≡◌, ℕ, ◌<◌, Bool, true, false, ◌&&◌, eqb, List, length, Option, Some, None, refl, sym, ap, ◌∙◌, subst, eqb-true}
use Rattle.std.specs.Prelude.{not, reverse}
use Rattle.std.proofs.lemmas.Bool.{and_parts}
use Rattle.marks.specs.declared.side.Side.{Side}
use Rattle.marks.specs.declared.side.Side.TheVariants.{Replay, System}
use Rattle.marks.specs.Ranges.{are_bytes}
use Rattle.marks.specs.Marks.{Act, Turn, Load, Store, Enter, Leave, Step, Fault, Made, Mark, side_of}
use Rattle.marks.specs.Wants.{Want, Loads, Stores, Frees, Answer, answer_to, same_numbers, same_origin, stopped_if}
use Rattle.c_code.proofs.Sides.{answered, replied}
use Rattle.c_semantics.specs.Reading.{Marks}
use Rattle.c_semantics.specs.Context.{Source}
use Rattle.replay_runs.specs.Runs.{In}
use Rattle.cut_graph_rules.specs.Findings.{Cut}
use Rattle.cut_graph_laws.specs.Answering.{global_of, stored_by}
use Rattle.cut_graph_laws.specs.SoundCut.{Part, SoundCut, Touches, Writes, accessed, is_store}
use Rattle.cut_graph_run_laws.specs.Code.{IsCodeThread}
use Rattle.whole_runs.specs.World.{World}
use Rattle.whole_runs.specs.Sides.{own}
use Rattle.whole_runs.specs.Outcomes.{started}
use Rattle.whole_runs_seen.proofs.Threads.{AreThreads}
use Rattle.whole_runs_cuts.specs.Laws.{AreApart, ThreadKeeps, thread_of}
use Rattle.whole_runs_cuts.proofs.Marks.{answering, is_started}

-- ---- what an access answers

pub never_both : (b : Bool) (y : Answer) → stopped_if (b && false) ≡ Some y → ⊥
never_both true y e = cc
never_both false y e = cc

same_global : (g : ℕ) (p q : Option ℕ) → p ≡ Some g → same_origin p q ≡ true → q ≡ Some g
same_global g p q e h = by q (subst (λ (o : Option ℕ). same_origin o q ≡ true) e h)
  where
    by : (q : Option ℕ) → same_origin (Some g) q ≡ true → q ≡ Some g
    by None k = absurd cc
    by (Some n) k = ap Some (sym (eqb-true g n k))

-- what is wanted touches the global, and stores it where the mark does
pub record IsOf (want : Want) (a : Act) (g : ℕ) : Type 0 where
  pub touches : accessed want ≡ Some g
  pub stores : stored_by a ≡ Some g → is_store want ≡ true

loads_it : (want : Want) (p : Option ℕ) (at : ℕ) (bytes : List ℕ) (y : Answer) (g : ℕ) → answer_to want (Load p at bytes) ≡ Some y → p ≡ Some g → IsOf want (Load p at bytes) g
unfolding answer_to
loads_it (Loads q x n) p at bytes y g e h =
    let parts = and_parts (same_origin p q && eqb at x) (eqb (length bytes) n && are_bytes bytes) (answered _ _ y e).0 in
    record { touches = same_global g p q h (and_parts (same_origin p q) (eqb at x) parts.0).0; stores = λ z. absurd cc }
loads_it (Frees x) p at bytes y g e h = absurd (never_both (not (eqb x 0)) y e)
loads_it want p at bytes y g e h = absurd cc

stores_it : (want : Want) (p : Option ℕ) (at : ℕ) (bytes : List ℕ) (y : Answer) (g : ℕ) → answer_to want (Store p at bytes) ≡ Some y → p ≡ Some g → IsOf want (Store p at bytes) g
unfolding answer_to
stores_it (Stores q x bs) p at bytes y g e h =
    let parts = and_parts (same_origin p q) (eqb at x && same_numbers bytes bs) (answered _ _ y e).0 in
    record { touches = same_global g p q h parts.0; stores = λ z. refl }
stores_it (Frees x) p at bytes y g e h = absurd (never_both (not (eqb x 0)) y e)
stores_it want p at bytes y g e h = absurd cc

touches_it : (want : Want) (a : Act) (y : Answer) (g : ℕ) → answer_to want a ≡ Some y → global_of a ≡ Some g → IsOf want a g
touches_it want (Load p at bytes) y g e h = loads_it want p at bytes y g e h
touches_it want (Store p at bytes) y g e h = stores_it want p at bytes y g e h
touches_it want Turn y g e h = absurd cc
touches_it want (Enter f args at bytes) y g e h = absurd cc
touches_it want (Leave at size) y g e h = absurd cc
touches_it want (Step f args v ins pieces freed) y g e h = absurd cc
touches_it want (Fault kind crosses ins outs access) y g e h = absurd cc
touches_it want (Made event) y g e h = absurd cc

-- an access is made on the side of the code that wants it
own_side : (side : Side) (a : Act) (g : ℕ) → global_of a ≡ Some g → side_of side a ≡ side
own_side side (Load p at bytes) g h = refl
own_side side (Store p at bytes) g h = refl
own_side side Turn g h = absurd cc
own_side side (Enter f args at bytes) g h = absurd cc
own_side side (Leave at size) g h = absurd cc
own_side side (Step f args v ins pieces freed) g h = absurd cc
own_side side (Fault kind crosses ins outs access) g h = absurd cc
own_side side (Made event) g h = absurd cc

pub stored_is_global : (a : Act) (g : ℕ) → stored_by a ≡ Some g → global_of a ≡ Some g
stored_is_global (Store p at bytes) g h = h
stored_is_global (Load p at bytes) g h = absurd cc
stored_is_global Turn g h = absurd cc
stored_is_global (Enter f args at bytes) g h = absurd cc
stored_is_global (Leave at size) g h = absurd cc
stored_is_global (Step f args v ins pieces freed) g h = absurd cc
stored_is_global (Fault kind crosses ins outs access) g h = absurd cc
stored_is_global (Made event) g h = absurd cc

-- ---- all marks

module _ (s : Source) (c : Cut) (w : World) (sound : SoundCut s c (IsCodeThread s w.laid.code)) (past : List Mark) (known : AreThreads w past) (keeps : (t : ℕ) → t < started past → ThreadKeeps s c w past t) where
  abbrev Threads : Marks → Type 0
  Threads = IsCodeThread s w.laid.code

  part : (m : Mark) → In m past → Part c Threads
  part m i =
      let k = keeps m.thread (is_started w past known m i) in
      record { behaviour = thread_of w past m.thread; thread = k.thread; marks = reverse (own w m.thread past); kept = k.kept }

  touching : (m : Mark) (side : Side) (g : ℕ) → (i : In m past) → m.side ≡ side → global_of m.act ≡ Some g → Touches c Threads (part m i) side g
  unfolding part
  touching m side g i e h =
      let z = answering w past known m i in
      let r = replied z.side z.want m z.answer z.replies in
      let same : z.side ≡ side = sym (own_side z.side m.act g h) ∙ (sym r.0 ∙ e) in
      subst (λ (x : Side). Touches c Threads (part m i) x g) same (record { want = z.want; answer = z.answer; answered = z.answered; global = (touches_it z.want m.act z.answer g r.1 h).touches })

  writing : (m : Mark) (g : ℕ) → (i : In m past) → stored_by m.act ≡ Some g → Writes c Threads (part m i) g
  unfolding part
  writing m g i h =
      let z = answering w past known m i in
      let of = touches_it z.want m.act z.answer g (replied z.side z.want m z.answer z.replies).1 (stored_is_global m.act g h) in
      record { side = z.side; touches = record { want = z.want; answer = z.answer; answered = z.answered; global = of.touches }; stores = of.stores h }

  pub apart : AreApart c past
  apart a b k g name is ia sa ga ib sb gb ik gk = sound.globals (part a ia) (part b ib) (part k ik) g name is (touching a Replay g ia sa ga) (touching b System g ib sb gb) (writing k g ik gk)
