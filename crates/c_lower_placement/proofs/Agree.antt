-- What is said of lists of marks, up to a length, is what flat code says from a configuration on.
use Rattle.std.proofs.Common.{◌≡◌, ℕ, zero, suc, ◌<◌, ◌≤◌, Bool, true, false, cond, List, [], ◌∷◌, length, Option, Some, None, Result, Ok, Err, refl, sym, ap, ◌∙◌, subst, arith}
use Rattle.std.specs.Prelude.{slice_get}
use Rattle.marks.specs.declared.side.Side.{Side}
use Rattle.marks.specs.declared.fault.FaultKind.{FaultKind}
use Rattle.marks.specs.Marks.{Mark}
use Rattle.marks.specs.Wants.{Want, Fails, Answer, Go, Value, Frame, CalledBack, Stopped}
use Rattle.c_code.specs.declared.shape.Shape.{Shape}
use Rattle.c_code.specs.declared.instr.Instr.{Instr}
use Rattle.c_code.specs.declared.activation.Activation.{Activation}
use Rattle.c_code.specs.declared.activation.Waiting.{Waiting}
use Rattle.c_code.specs.Values.{at_zero, is_value}
use Rattle.c_code.specs.Machine.{Laid, Config, Going, Lost, Action, Silent, Asks, Pends, Awaits, Starts, Over, Stuck, act, action, combine, next, valued}
use Rattle.c_code.specs.MarkLists.{Reading, Wants, step, next_of, reply, closed, follow, follow_to, at_end, lists}
use Rattle.c_code.proofs.Settles.{IsLoud, settled_loud, settled_silent, lists_settled}
use Rattle.c_semantics.specs.Reading.{Marks, wrong, heard, ask, fails, or_fault, with_value}

module _ (r : Reading) (l : Laid) where
  abbrev pub Agree : ℕ → Marks → Config → Type 0
  Agree n p c = (ms : List Mark) → length ms ≤ n → p ms ≡ lists r ms l c

  pub fewer : (j n : ℕ) (p : Marks) (c : Config) → j ≤ n → Agree n p c → Agree j p c
  fewer j n p c le h ms few = h ms (omega arith)

  lists_silent : (ms : List Mark) (c d : Config) → action l c ≡ Silent d → lists r ms l c ≡ lists r ms l d
  lists_silent ms c d e = sym (lists_settled l r ms c) ∙ (ap (λ x. lists r ms l x) (settled_silent l c d e) ∙ lists_settled l r ms d)

  pub by_silent : (n : ℕ) (p : Marks) (c d : Config) → action l c ≡ Silent d → Agree n p d → Agree n p c
  by_silent n p c d e h ms few = h ms few ∙ sym (lists_silent ms c d e)

  wants_loud : (x : Action) (side : Side) (want : Want) (k : Answer → Config) → next_of r l x ≡ Wants side want k → IsLoud x
  wants_loud (Silent d) side want k e = absurd cc
  wants_loud (Asks s w go) side want k e = tt
  wants_loud (Pends p) side want k e = tt
  wants_loud (Awaits p) side want k e = tt
  wants_loud (Starts f args) side want k e = tt
  wants_loud (Over v) side want k e = tt
  wants_loud Stuck side want k e = tt

  heard_follow : (o : Option Answer) (go : Answer → Marks) (k : Answer → Config) (ms : List Mark) → ((a : Answer) → go a ms ≡ lists r ms l (k a)) → heard o go ms ≡ follow_to o k (lists r ms l) (closed ms)
  heard_follow None go k ms h = refl
  heard_follow (Some Stopped) go k ms h = refl
  heard_follow (Some Go) go k ms h = h Go
  heard_follow (Some (Value v)) go k ms h = h (Value v)
  heard_follow (Some (Frame at)) go k ms h = h (Frame at)
  heard_follow (Some (CalledBack g args)) go k ms h = h (CalledBack g args)

  pub by_ask : (n : ℕ) (side : Side) (want : Want) (go : Answer → Marks) (k : Answer → Config) (c : Config) → step r l c ≡ Wants side want k → ((a : Answer) (j : ℕ) → j < n → Agree j (go a) (k a)) → Agree n (ask side want go) c
  by_ask n side want go k c e h [] few =
      let still = settled_loud l c (wants_loud (action l c) side want k e) in
      sym (ap (λ x. at_end (step r l x)) still ∙ ap at_end e)
  by_ask n side want go k c e h (m ∷ ms) few =
      let still = settled_loud l c (wants_loud (action l c) side want k e) in
      let less : length ms < n = omega arith in
      heard_follow (reply side want m) go k ms (λ a. h a (length ms) less ms (omega arith)) ∙ sym (ap (λ x. follow (step r l x) m (lists r ms l) (closed ms)) still ∙ ap (λ x. follow x m (lists r ms l) (closed ms)) e)

  pub by_lost : (n : ℕ) → Agree n wrong Lost
  by_lost n [] few = refl
  by_lost n (m ∷ ms) few = refl

  pub by_cond : (n : ℕ) (b : Bool) (p q : Marks) (c d : Config) → Agree n p c → Agree n q d → Agree n (cond b p q) (cond b c d)
  by_cond n true p q c d h k = h
  by_cond n false p q c d h k = k

  pub by_zero : (n v : ℕ) (p q : Marks) (c d : Config) → Agree n p c → Agree n q d → Agree n (at_zero v p q) (at_zero v c d)
  by_zero n zero p q c d h k = h
  by_zero n (suc v) p q c d h k = k

  pub by_value : (n : ℕ) (shape : Shape) (go : ℕ → Marks) (a : Activation) (values : List ℕ) (ws : List Waiting) → ((v : ℕ) → Agree n (go v) (Going a (v ∷ values) ws)) → (x : Answer) → Agree n (with_value shape go x) (valued shape a values ws x)
  by_value n shape go a values ws h (Value v) = by_cond n (is_value shape v) (go v) wrong (Going a (v ∷ values) ws) Lost (h v) (by_lost n)
  by_value n shape go a values ws h Go = by_lost n
  by_value n shape go a values ws h (Frame at) = by_lost n
  by_value n shape go a values ws h (CalledBack g args) = by_lost n
  by_value n shape go a values ws h Stopped = by_lost n

  pub by_fails : (n : ℕ) (side : Side) (kind : FaultKind) (c : Config) → action l c ≡ Asks side (Fails kind) (λ x. Lost) → Agree n (fails side kind) c
  by_fails n side kind c e = by_ask n side (Fails kind) (λ a. wrong) (λ a. Lost) c (ap (next_of r l) e) (λ a j lt. by_lost j)

  -- a configuration that is another
  pub the_same : (n : ℕ) (p : Marks) (c d : Config) → c ≡ d → Agree n p d → Agree n p c
  the_same n p c d e h = subst (λ x. Agree n p x) (sym e) h

  pub by_combine : (n : ℕ) (o : Result ℕ FaultKind) (a : Activation) (values : List ℕ) (ws : List Waiting) (go : ℕ → Marks) (c : Config) → action l c ≡ combine o a values ws → ((v : ℕ) → Agree n (go v) (Going (next a) (v ∷ values) ws)) → Agree n (or_fault a.side o go) c
  by_combine n (Ok v) a values ws go c e h = by_silent n (go v) c (Going (next a) (v ∷ values) ws) e (h v)
  by_combine n (Err kind) a values ws go c e h = by_fails n a.side kind c e

  -- what an instruction does where it stands
  pub acting : (i : Instr) (a : Activation) (values : List ℕ) (ws : List Waiting) → slice_get l.code.instrs a.at ≡ Some i → action l (Going a values ws) ≡ act l (Some i) a values ws
  acting i a values ws e = ap (λ o. act l o a values ws) e
