-- A mark that touches a global answers a want of that global, on its own side; so marks are kept apart where wants are.
use Rattle.std.proofs.Common.{◌≡◌, ◌≢◌, ℕ, Bool, true, false, ◌&&◌, eqb, eqb-true, List, length, Option, Some, None, refl, sym, ap, ◌∙◌, subst}
use Rattle.std.specs.Prelude.{not}
use Rattle.std.proofs.lemmas.Bool.{and_parts}
use Rattle.marks.specs.declared.side.Side.{Side}
use Rattle.marks.specs.declared.side.Side.TheVariants.{Replay, System}
use Rattle.marks.specs.Ranges.{are_bytes}
use Rattle.marks.specs.Marks.{Act, Turn, Load, Store, Enter, Leave, Step, Fault, Made, Mark, side_of}
use Rattle.marks.specs.Wants.{Want, Loads, Stores, Frees, Answer, answer_to, same_numbers, same_origin, stopped_if}
use Rattle.c_code.specs.MarkLists.{Wrong}
use Rattle.c_code.proofs.Sides.{answered, replied}
use Rattle.c_semantics.specs.Reading.{Marks}
use Rattle.c_semantics.specs.Context.{Source}
use Rattle.cut_graph_rules.specs.Findings.{Cut}
use Rattle.cut_graph_laws.specs.Answering.{Answering, IsMarkOf, MarksAnswer, MarksKeepApart, global_of, stored_by}
use Rattle.cut_graph_laws.specs.SoundCut.{Part, SoundCut, Touches, Writes, accessed, is_store}

not_stopped : (b : Bool) (y : Answer) → stopped_if (b && false) ≡ Some y → ⊥
not_stopped true y e = cc
not_stopped false y e = cc

same_global : (g : ℕ) (p q : Option ℕ) → p ≡ Some g → same_origin p q ≡ true → q ≡ Some g
same_global g p q e h = by q (subst (λ (o : Option ℕ). same_origin o q ≡ true) e h)
  where
    by : (q : Option ℕ) → same_origin (Some g) q ≡ true → q ≡ Some g
    by None k = absurd cc
    by (Some n) k = ap Some (sym (eqb-true g n k))

loads_global : (want : Want) (p : Option ℕ) (x : ℕ) (bytes : List ℕ) (y : Answer) (g : ℕ) → answer_to want (Load p x bytes) ≡ Some y → p ≡ Some g → accessed want ≡ Some g
unfolding answer_to
loads_global (Loads q at n) p x bytes y g e h =
    let both = and_parts (same_origin p q && eqb x at) (eqb (length bytes) n && are_bytes bytes) (answered _ _ y e).0 in
    same_global g p q h (and_parts (same_origin p q) (eqb x at) both.0).0
loads_global (Frees at) p x bytes y g e h = absurd (not_stopped (not (eqb at 0)) y e)
loads_global want p x bytes y g e h = absurd cc

stores_global : (want : Want) (p : Option ℕ) (x : ℕ) (bytes : List ℕ) (y : Answer) (g : ℕ) → answer_to want (Store p x bytes) ≡ Some y → p ≡ Some g → (accessed want ≡ Some g) × (is_store want ≡ true)
unfolding answer_to
stores_global (Stores q at bs) p x bytes y g e h =
    let both = and_parts (same_origin p q) (eqb x at && same_numbers bytes bs) (answered _ _ y e).0 in
    (same_global g p q h both.0, refl)
stores_global (Frees at) p x bytes y g e h = absurd (not_stopped (not (eqb at 0)) y e)
stores_global want p x bytes y g e h = absurd cc

touching : (want : Want) (a : Act) (y : Answer) (g : ℕ) → answer_to want a ≡ Some y → global_of a ≡ Some g → accessed want ≡ Some g
touching want (Load p x bytes) y g e h = loads_global want p x bytes y g e h
touching want (Store p x bytes) y g e h = (stores_global want p x bytes y g e h).0
touching want Turn y g e h = absurd cc
touching want (Enter f args at bytes) y g e h = absurd cc
touching want (Leave at size) y g e h = absurd cc
touching want (Step f args v ins pieces freed) y g e h = absurd cc
touching want (Fault kind crosses ins outs access) y g e h = absurd cc
touching want (Made event) y g e h = absurd cc

storing : (want : Want) (a : Act) (y : Answer) (g : ℕ) → answer_to want a ≡ Some y → stored_by a ≡ Some g → (accessed want ≡ Some g) × (is_store want ≡ true)
storing want (Store p x bytes) y g e h = stores_global want p x bytes y g e h
storing want (Load p x bytes) y g e h = absurd cc
storing want Turn y g e h = absurd cc
storing want (Enter f args at bytes) y g e h = absurd cc
storing want (Leave at size) y g e h = absurd cc
storing want (Step f args v ins pieces freed) y g e h = absurd cc
storing want (Fault kind crosses ins outs access) y g e h = absurd cc
storing want (Made event) y g e h = absurd cc

-- an access is made on the side of the code that wants it
own_side : (side : Side) (a : Act) (g : ℕ) → global_of a ≡ Some g → side_of side a ≡ side
own_side side (Load p x bytes) g h = refl
own_side side (Store p x bytes) g h = refl
own_side side Turn g h = absurd cc
own_side side (Enter f args at bytes) g h = absurd cc
own_side side (Leave at size) g h = absurd cc
own_side side (Step f args v ins pieces freed) g h = absurd cc
own_side side (Fault kind crosses ins outs access) g h = absurd cc
own_side side (Made event) g h = absurd cc

module _ (s : Source) (c : Cut) (Threads : Marks → Type 0) (sound : SoundCut s c Threads) (answer : (a : Marks) → Threads a → MarksAnswer a) where
  answering : (d : Part c Threads) (m : Mark) (i : IsMarkOf c Threads d m) → Answering d.behaviour i.before m
  answering d m i = answer d.behaviour d.thread i.before m i.after (subst (λ (ms : List Mark). d.behaviour ms ≢ Wrong) i.there i.right)

  touches : (d : Part c Threads) (m : Mark) (side : Side) (g : ℕ) → IsMarkOf c Threads d m → m.side ≡ side → global_of m.act ≡ Some g → Touches c Threads d side g
  touches d m side g i e h =
      let is = answering d m i in
      let r = replied is.side is.want m is.answer is.answers in
      let same : is.side ≡ side = sym (own_side is.side m.act g h) ∙ (sym r.0 ∙ e) in
      subst (λ (z : Side). Touches c Threads d z g) same (record {
        want = is.want;
        answer = is.answer;
        answered = record { before = i.before; mark = m; after = i.after; there = i.there; wanted = is.expected; answers = is.answers };
        global = touching is.want m.act is.answer g r.1 h;
      })

  writes : (d : Part c Threads) (m : Mark) (g : ℕ) → IsMarkOf c Threads d m → stored_by m.act ≡ Some g → Writes c Threads d g
  writes d m g i h =
      let is = answering d m i in
      let r = replied is.side is.want m is.answer is.answers in
      let t = storing is.want m.act is.answer g r.1 h in
      record {
        side = is.side;
        touches = record {
          want = is.want;
          answer = is.answer;
          answered = record { before = i.before; mark = m; after = i.after; there = i.there; wanted = is.expected; answers = is.answers };
          global = t.0;
        };
        stores = t.1;
      }

  pub kept_apart : MarksKeepApart c Threads
  kept_apart d e w a b k g name is ia sa ga ib sb gb ik gk = sound.globals d e w g name is (touches d a Replay g ia sa ga) (touches e b System g ib sb gb) (writes w k g ik gk)
