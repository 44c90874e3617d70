-- The code of an expression makes the marks of the expression.
use Rattle.std.proofs.Common.{◌≡◌, ℕ, suc, ◌+◌, ◌%◌, ◌^◌, ◌≤◌, ◌-◌, ◌-ℤ◌, pos, negsuc, Bool, true, false, cond, List, [], ◌∷◌, ◌++◌, length, Option, Some, None, Ok, refl, sym, ap, ◌∙◌, subst, arith}
use Rattle.std.proofs.Math.Nat.{add-mod-mod}
use Rattle.r2_num.specs.declared.kinds.IntKind.{IntKind}
use Rattle.r2_num.specs.declared.kinds.IntKind.TheVariants.{I64, U64}
use Rattle.r2_num.specs.declared.operations.Op.TheVariants.{Div}
use Rattle.r2_num.specs.Conversions.{wrapped}
use Rattle.marks.specs.declared.side.Side.{Side}
use Rattle.marks.specs.Places.{function_address}
use Rattle.marks.specs.Ranges.{bytes_of_number}
use Rattle.marks.specs.Wants.{Loads, Stores, Answer, Go, Value, Frame, CalledBack, Stopped}
use Rattle.c_code.specs.declared.instr.Push.{Push}
use Rattle.c_code.specs.declared.instr.Push.TheVariants.{Number, Local, Global, Text}
use Rattle.c_code.specs.declared.instr.Change.{Change}
use Rattle.c_code.specs.declared.instr.Change.TheVariants as change
use Rattle.c_code.specs.declared.instr.Combine.{Combine}
use Rattle.c_code.specs.declared.instr.Combine.TheVariants as combine
use Rattle.c_code.specs.declared.instr.Instr.{Instr}
use Rattle.c_code.specs.declared.instr.Instr.TheVariants as instr
use Rattle.c_code.specs.declared.activation.Activation.{Activation}
use Rattle.c_code.specs.declared.activation.Waiting.{Waiting}
use Rattle.c_code.specs.Values.{arith_of, at_zero, bytes_of, changed, combined, converted, read, written}
use Rattle.c_code.specs.Machine.{Flat, Laid, Config, Going, Lost, Silent, Asks, act, action, at_place, call_act, callee, in_frame, loaded, next, pointer_act, push, take_args, to_callee, with_args}
use Rattle.c_code.specs.MarkLists.{Reading, next_of}
use Rattle.c_types_model.specs.Types.{CType}
use Rattle.c_builtins.specs.Table.{number_of}
use Rattle.c_types_rules.specs.TypedTree.{Object, Values, Callee, Sum, PointerPlus, PlusPointer, PointerMinus, Way, Up, Down, Given, New, Old, GlobalObject, LocalObject, TextObject, Pointed, Element, MemberOf, Constant, FunctionAddress, ReadOf, AddressOf, Convert, Negate, Complement, Arithmetic, PointerSum, PointerDifference, PointerComparison, Not, Both, Either, Choice, Sequence, Assigned, Changed, Moved, Stepped, CallOf, NoValues, MoreValues, SourceFunction, BuiltinFunction, Through, object_type, value_type}
use Rattle.c_types_rules.specs.TypedTree as typed
use Rattle.c_semantics.specs.Reading.{Marks, ask, or_fault, with_any}
use Rattle.c_semantics.specs.Context.{Source, global_address, kind_of, member_offset, order_of, size_of, text_address}
use Rattle.c_semantics.specs.Values.{Here, address, back_by, called, fetch, given, in_order, is_read, load, local_address, moved_by, negative, on_by, origin, stepped_by, store, summed, target, truth, value, values, width, wrap}
use Rattle.c_lower_placement.specs.Places.{Has, Jumps}
use Rattle.c_lower_placement.specs.Placement.{Against, CallAt, CalleeAt, ConvertAt, IsSigOf, LoadAt, MoveAt, ObjectAt, SumAt, ValueAt, ValuesAt, count, keeps_old, loads, offset_of, step_by}
use Rattle.c_lower_placement.specs.Conversions.{converts, reconverts}
use Rattle.c_lower_placement.specs.Laws.{laid}
use Rattle.c_lower_placement.proofs.Conversions.{change_is, conversion_is}
use Rattle.c_lower_placement.proofs.Agree.{Agree, acting, by_ask, by_combine, by_silent, by_zero, by_lost, fewer}

-- where an activation of a function runs, and what its calls make
pub record Spot : Type 0 where
  pub side : Side
  pub base : ℕ
  pub size : ℕ
  pub offsets : List ℕ
  pub call : (func : ℕ) → (args : List ℕ) → (ℕ → Marks) → Marks
  pub call_at : CType → (address : ℕ) → (args : List ℕ) → (ℕ → Marks) → Marks

abbrev pub stand : Spot → ℕ → Activation
stand p at = record { at = at; base = p.base; size = p.size; side = p.side }

-- arguments lie one above another, the last one on top
abbrev pub over : List ℕ → List ℕ → List ℕ
over [] values = values
over (x ∷ xs) values = over xs (x ∷ values)

module _ (r : Reading) (s : Source) (code : Flat) where
  abbrev pub l : Laid
  l = laid s code

  abbrev pub here_at : Spot → Here
  here_at p = record { source = s; side = p.side; base = p.base; offsets = p.offsets; call = p.call; call_at = p.call_at }

  abbrev pub against_at : Spot → Against
  against_at p = record { source = s; code = code; offsets = p.offsets }

  -- a call makes what is said of it, wherever its arguments lie
  pub record CallsAgree (n : ℕ) (p : Spot) : Type 0 where
    pub named : (j : ℕ) → j ≤ n → (f : ℕ) (args : List ℕ) (go : ℕ → Marks) (c : Config) (at : ℕ) (vs rest : List ℕ) (ws : List Waiting) →
        action l c ≡ call_act f (stand p at) vs ws args rest → take_args (length args) [] vs ≡ Some (args, rest) → ((v : ℕ) → Agree r l j (go v) (Going (stand p (at + 1)) (v ∷ rest) ws)) → Agree r l j (p.call f args go) c
    pub pointed : (j : ℕ) → j ≤ n → (t : CType) (sig a : ℕ) (args : List ℕ) (go : ℕ → Marks) (c : Config) (at : ℕ) (vs rest : List ℕ) (ws : List Waiting) →
        IsSigOf s code t sig → action l c ≡ to_callee (callee l sig a) (stand p at) args vs rest ws → take_args (length args) [] vs ≡ Some (args, a ∷ rest) → ((v : ℕ) → Agree r l j (go v) (Going (stand p (at + 1)) (v ∷ rest) ws)) → Agree r l j (p.call_at t a args go) c

  pub fewer_calls : (j n : ℕ) (p : Spot) → j ≤ n → CallsAgree n p → CallsAgree j p
  fewer_calls j n p le c = record { named = λ i li. c.named i (omega arith); pointed = λ i li. c.pointed i (omega arith) }

  -- a step that makes no mark
  pub steps : (n : ℕ) (q : Marks) (p : Spot) (i : Instr) (at to : ℕ) (values new : List ℕ) (ws : List Waiting) → Has code.instrs at i to → act l (Some i) (stand p at) values ws ≡ Silent (Going (stand p (at + 1)) new ws)
      → Agree r l n q (Going (stand p to) new ws) → Agree r l n q (Going (stand p at) values ws)
  steps n q p i at to values new ws h e k =
      by_silent r l n q (Going (stand p at) values ws) (Going (stand p (at + 1)) new ws) (acting r l i (stand p at) values ws h.here ∙ e) (subst (λ x. Agree r l n q (Going (stand p x) new ws)) (sym h.after) k)

  pub pushes : (n : ℕ) (q : Marks) (p : Spot) (w : Push) (at to : ℕ) (values : List ℕ) (ws : List Waiting) → Has code.instrs at (instr.Push w) to → Agree r l n q (Going (stand p to) (push l w (stand p at) ∷ values) ws) → Agree r l n q (Going (stand p at) values ws)
  pushes n q p w at to values ws h k = steps n q p (instr.Push w) at to values (push l w (stand p at) ∷ values) ws h refl k

  pub changes : (n : ℕ) (q : Marks) (p : Spot) (how : Change) (at to v : ℕ) (values : List ℕ) (ws : List Waiting) → Has code.instrs at (instr.Change how) to → Agree r l n q (Going (stand p to) (changed how v ∷ values) ws) → Agree r l n q (Going (stand p at) (v ∷ values) ws)
  changes n q p how at to v values ws h k = steps n q p (instr.Change how) at to (v ∷ values) (changed how v ∷ values) ws h refl k

  pub drops : (n : ℕ) (q : Marks) (p : Spot) (at to v : ℕ) (values : List ℕ) (ws : List Waiting) → Has code.instrs at instr.Drop to → Agree r l n q (Going (stand p to) values ws) → Agree r l n q (Going (stand p at) (v ∷ values) ws)
  drops n q p at to v values ws h k = steps n q p instr.Drop at to (v ∷ values) values ws h refl k

  -- two values are combined, or the operator faults
  pub combines : (n : ℕ) (go : ℕ → Marks) (p : Spot) (how : Combine) (at to x y : ℕ) (values : List ℕ) (ws : List Waiting) → Has code.instrs at (instr.Combine how) to
      → ((v : ℕ) → Agree r l n (go v) (Going (stand p to) (v ∷ values) ws)) → Agree r l n (or_fault p.side (combined how x y) go) (Going (stand p at) (y ∷ (x ∷ values)) ws)
  combines n go p how at to x y values ws h k =
      by_combine r l n (combined how x y) (stand p at) values ws go (Going (stand p at) (y ∷ (x ∷ values)) ws) (acting r l (instr.Combine how) (stand p at) (y ∷ (x ∷ values)) ws h.here)
      (λ v. subst (λ z. Agree r l n (go v) (Going (stand p z) (v ∷ values) ws)) (sym h.after) (k v))

  -- the sum of two values, which can't fault
  pub sums : (n : ℕ) (q : Marks) (p : Spot) (how : Combine) (at to x y v : ℕ) (values : List ℕ) (ws : List Waiting) → combined how x y ≡ Ok v → Has code.instrs at (instr.Combine how) to
      → Agree r l n q (Going (stand p to) (v ∷ values) ws) → Agree r l n q (Going (stand p at) (y ∷ (x ∷ values)) ws)
  sums n q p how at to x y v values ws e h k = steps n q p (instr.Combine how) at to (y ∷ (x ∷ values)) (v ∷ values) ws h (ap (λ o. Rattle.c_code.specs.Machine.combine o (stand p at) values ws) e) k

  -- a jump, where it leads
  lands : (n : ℕ) (q : Marks) (p : Spot) (jump : ℕ → Instr) (at target : ℕ) (values : List ℕ) (ws : List Waiting) → (j : Jumps code.instrs at jump target) → Agree r l n q (Going (stand p target) values ws) → Agree r l n q (Going (stand p (at + 1 + j.by)) values ws)
  lands n q p jump at target values ws j k = subst (λ z. Agree r l n q (Going (stand p z) values ws)) (sym j.lands) k

  pub skips : (n : ℕ) (a b : Marks) (p : Spot) (at target v : ℕ) (values : List ℕ) (ws : List Waiting) → Jumps code.instrs at instr.SkipIfZero target
      → Agree r l n a (Going (stand p target) values ws) → Agree r l n b (Going (stand p (at + 1)) values ws) → Agree r l n (at_zero v a b) (Going (stand p at) (v ∷ values) ws)
  skips n a b p at target v values ws j k m =
      by_silent r l n (at_zero v a b) (Going (stand p at) (v ∷ values) ws) (at_zero v (Going (stand p (at + 1 + j.by)) values ws) (Going (stand p (at + 1)) values ws)) (acting r l (instr.SkipIfZero j.by) (stand p at) (v ∷ values) ws j.here)
      (by_zero r l n v a b (Going (stand p (at + 1 + j.by)) values ws) (Going (stand p (at + 1)) values ws) (lands n a p instr.SkipIfZero at target values ws j k) m)

  ends_at_zero : (n : ℕ) (a b : Marks) (p : Spot) (at target v : ℕ) (values : List ℕ) (ws : List Waiting) → Jumps code.instrs at instr.EndIfZero target
      → Agree r l n a (Going (stand p target) (0 ∷ values) ws) → Agree r l n b (Going (stand p (at + 1)) values ws) → Agree r l n (at_zero v a b) (Going (stand p at) (v ∷ values) ws)
  ends_at_zero n a b p at target v values ws j k m =
      by_silent r l n (at_zero v a b) (Going (stand p at) (v ∷ values) ws) (at_zero v (Going (stand p (at + 1 + j.by)) (0 ∷ values) ws) (Going (stand p (at + 1)) values ws)) (acting r l (instr.EndIfZero j.by) (stand p at) (v ∷ values) ws j.here)
      (by_zero r l n v a b (Going (stand p (at + 1 + j.by)) (0 ∷ values) ws) (Going (stand p (at + 1)) values ws) (lands n a p instr.EndIfZero at target (0 ∷ values) ws j k) m)

  ends_unless_zero : (n : ℕ) (a b : Marks) (p : Spot) (at target v : ℕ) (values : List ℕ) (ws : List Waiting) → Jumps code.instrs at instr.EndUnlessZero target
      → Agree r l n a (Going (stand p (at + 1)) values ws) → Agree r l n b (Going (stand p target) (1 ∷ values) ws) → Agree r l n (at_zero v a b) (Going (stand p at) (v ∷ values) ws)
  ends_unless_zero n a b p at target v values ws j k m =
      by_silent r l n (at_zero v a b) (Going (stand p at) (v ∷ values) ws) (at_zero v (Going (stand p (at + 1)) values ws) (Going (stand p (at + 1 + j.by)) (1 ∷ values) ws)) (acting r l (instr.EndUnlessZero j.by) (stand p at) (v ∷ values) ws j.here)
      (by_zero r l n v a b (Going (stand p (at + 1)) values ws) (Going (stand p (at + 1 + j.by)) (1 ∷ values) ws) k (lands n b p instr.EndUnlessZero at target (1 ∷ values) ws j m))

  pub goes_on : (n : ℕ) (q : Marks) (p : Spot) (at target : ℕ) (values : List ℕ) (ws : List Waiting) → Jumps code.instrs at instr.GoOn target → Agree r l n q (Going (stand p target) values ws) → Agree r l n q (Going (stand p at) values ws)
  goes_on n q p at target values ws j k =
      by_silent r l n q (Going (stand p at) values ws) (Going (stand p (at + 1 + j.by)) values ws) (acting r l (instr.GoOn j.by) (stand p at) values ws j.here) (lands n q p instr.GoOn at target values ws j k)

  -- ---- loads and stores

  with_loaded : (n : ℕ) (go : ℕ → Marks) (p : Spot) (at to : ℕ) (new : ℕ → List ℕ) (ws : List Waiting) → at + 1 ≡ to → ((v : ℕ) → Agree r l n (go v) (Going (stand p to) (new v) ws)) → (x : Answer) → Agree r l n (with_any go x) (loaded (stand p (at + 1)) new ws x)
  with_loaded n go p at to new ws e h (Value v) = subst (λ z. Agree r l n (go v) (Going (stand p z) (new v) ws)) (sym e) (h v)
  with_loaded n go p at to new ws e h Go = by_lost r l n
  with_loaded n go p at to new ws e h (Frame b) = by_lost r l n
  with_loaded n go p at to new ws e h (CalledBack g args) = by_lost r l n
  with_loaded n go p at to new ws e h Stopped = by_lost r l n

  -- a Load of a kind, which leaves the address or takes it away
  loads_of : (n : ℕ) (go : ℕ → Marks) (p : Spot) (i : Instr) (o : Option ℕ) (k : IntKind) (at to a : ℕ) (values : List ℕ) (new : ℕ → List ℕ) (ws : List Waiting) → Has code.instrs at i to
      → act l (Some i) (stand p at) (a ∷ values) ws ≡ Asks p.side (Loads o a (bytes_of k)) (loaded (stand p (at + 1)) new ws) → ((v : ℕ) → Agree r l n (go v) (Going (stand p to) (new v) ws))
      → Agree r l n (ask p.side (Loads o a (bytes_of k)) (with_any go)) (Going (stand p at) (a ∷ values) ws)
  loads_of n go p i o k at to a values new ws h e c =
      by_ask r l n p.side (Loads o a (bytes_of k)) (with_any go) (loaded (stand p (at + 1)) new ws) (Going (stand p at) (a ∷ values) ws) (ap (next_of r l) (acting r l i (stand p at) (a ∷ values) ws h.here ∙ e))
      (λ x j lt. with_loaded j go p at to new ws h.after (λ v. fewer r l j n (go v) (Going (stand p to) (new v) ws) (omega arith) (c v)) x)

  load_agrees : (n : ℕ) (b : Bool) (o : Object) (go : ℕ → Marks) (p : Spot) (at to a : ℕ) (values : List ℕ) (ws : List Waiting) → LoadAt (against_at p) b o at to → ((v : ℕ) → Agree r l n (go v) (Going (stand p to) (v ∷ values) ws))
      → Agree r l n (cond b (ask p.side (Loads (origin o) a (width (object_type o))) (with_any (λ v. go (converted (kind_of (object_type o)) v)))) (go a)) (Going (stand p at) (a ∷ values) ws)
  load_agrees n true o go p at to a values ws h c =
      loads_of n (λ v. go (converted (kind_of (object_type o)) v)) p (instr.Load (kind_of (object_type o)) (origin o)) (origin o) (kind_of (object_type o)) at to a values (λ v. converted (kind_of (object_type o)) v ∷ values) ws h refl (λ v. c (converted (kind_of (object_type o)) v))
  load_agrees n false o go p at to a values ws h c = subst (λ z. Agree r l n (go a) (Going (stand p z) (a ∷ values) ws)) (sym h) (c a)

  -- a store keeps the value alone
  pub store_agrees : (n : ℕ) (o : Option ℕ) (k : IntKind) (q : Marks) (p : Spot) (at to a v : ℕ) (values : List ℕ) (ws : List Waiting) → Has code.instrs at (instr.Store k o) to → Agree r l n q (Going (stand p to) (v ∷ values) ws)
      → Agree r l n (ask p.side (Stores o a (bytes_of_number (bytes_of k) v)) (λ x. q)) (Going (stand p at) (v ∷ (a ∷ values)) ws)
  store_agrees n o k q p at to a v values ws h c =
      by_ask r l n p.side (Stores o a (bytes_of_number (bytes_of k) v)) (λ x. q) (λ x. Going (stand p (at + 1)) (v ∷ values) ws) (Going (stand p at) (v ∷ (a ∷ values)) ws)
      (ap (next_of r l) (acting r l (instr.Store k o) (stand p at) (v ∷ (a ∷ values)) ws h.here))
      (λ x j lt. fewer r l j n q (Going (stand p (at + 1)) (v ∷ values) ws) (omega arith) (subst (λ z. Agree r l n q (Going (stand p z) (v ∷ values) ws)) (sym h.after) c))

  -- a store in the frame, which leaves nothing
  pub store_local_agrees : (n : ℕ) (k : IntKind) (offset : ℕ) (q : Marks) (p : Spot) (at to v : ℕ) (values : List ℕ) (ws : List Waiting) → Has code.instrs at (instr.StoreLocal k offset) to → Agree r l n q (Going (stand p to) values ws)
      → Agree r l n (ask p.side (Stores None (in_frame (stand p at) offset) (bytes_of_number (bytes_of k) v)) (λ x. q)) (Going (stand p at) (v ∷ values) ws)
  store_local_agrees n k offset q p at to v values ws h c =
      by_ask r l n p.side (Stores None (in_frame (stand p at) offset) (bytes_of_number (bytes_of k) v)) (λ x. q) (λ x. Going (stand p (at + 1)) values ws) (Going (stand p at) (v ∷ values) ws)
      (ap (next_of r l) (acting r l (instr.StoreLocal k offset) (stand p at) (v ∷ values) ws h.here))
      (λ x j lt. fewer r l j n q (Going (stand p (at + 1)) values ws) (omega arith) (subst (λ z. Agree r l n q (Going (stand p z) values ws)) (sym h.after) c))

  convert_agrees : (n : ℕ) (b : Bool) (k : IntKind) (go : ℕ → Marks) (p : Spot) (at to v : ℕ) (values : List ℕ) (ws : List Waiting) → ConvertAt (against_at p) b k at to → ((x : ℕ) → Agree r l n (go x) (Going (stand p to) (x ∷ values) ws))
      → Agree r l n (go (cond b (converted k v) v)) (Going (stand p at) (v ∷ values) ws)
  convert_agrees n true k go p at to v values ws h c = changes n (go (converted k v)) p (change.Convert k) at to v values ws h (c (converted k v))
  convert_agrees n false k go p at to v values ws h c = subst (λ z. Agree r l n (go v) (Going (stand p z) (v ∷ values) ws)) (sym h) (c v)

  -- ---- sums

  -- what makes a value, whatever waits below it
  abbrev pub Carried : ℕ → Spot → ((ℕ → Marks) → Marks) → (ℕ → ℕ → Type 0) → Type 0
  Carried n p f At = (at to : ℕ) (go : ℕ → Marks) (values : List ℕ) (ws : List Waiting) → At at to → ((v : ℕ) → Agree r l n (go v) (Going (stand p to) (v ∷ values) ws)) → Agree r l n (f go) (Going (stand p at) values ws)

  sum_agrees : (n : ℕ) (p : Spot) (x : Sum) (f g : (ℕ → Marks) → Marks) (F G : ℕ → ℕ → Type 0) (size at to : ℕ) (go : ℕ → Marks) (values : List ℕ) (ws : List Waiting)
      → Carried n p f F → Carried n p g G → SumAt (against_at p) x F G size at to → ((v : ℕ) → Agree r l n (go v) (Going (stand p to) (v ∷ values) ws)) → Agree r l n (in_order x f g (λ a b. go (summed x a b size))) (Going (stand p at) values ws)
  sum_agrees n p PointerPlus f g F G size at to go values ws cf cg h c =
      cf at h.0 (λ a. g (λ b. go (on_by a b size))) values ws h.2 (λ a. cg h.0 h.1 (λ b. go (on_by a b size)) (a ∷ values) ws h.3 (λ b. sums n (go (on_by a b size)) p (combine.Index size) h.1 to a b (on_by a b size) values ws refl h.4 (c (on_by a b size))))
  sum_agrees n p PlusPointer f g F G size at to go values ws cf cg h c =
      cg at h.0 (λ b. f (λ a. go (on_by a b size))) values ws h.2 (λ b. cf h.0 h.1 (λ a. go (on_by a b size)) (b ∷ values) ws h.3 (λ a. sums n (go (on_by a b size)) p (combine.IndexOf size) h.1 to b a (on_by a b size) values ws refl h.4 (c (on_by a b size))))
  sum_agrees n p PointerMinus f g F G size at to go values ws cf cg h c =
      cf at h.0 (λ a. g (λ b. go (back_by a b size))) values ws h.3 (λ a. cg h.0 h.1 (λ b. go (back_by a b size)) (a ∷ values) ws h.4 (λ b. changes n (go (back_by a b size)) p (change.Negate I64) h.1 h.2 b (a ∷ values) ws h.5
      (sums n (go (back_by a b size)) p (combine.Index size) h.2 to a (negative b) (back_by a b size) values ws refl h.6 (c (back_by a b size)))))

  move_agrees : (n : ℕ) (q : ℕ → Marks) (p : Spot) (w : Way) (size at to a b : ℕ) (values : List ℕ) (ws : List Waiting) → MoveAt (against_at p) w size at to → ((v : ℕ) → Agree r l n (q v) (Going (stand p to) (v ∷ values) ws)) → Agree r l n (q (moved_by w a b size)) (Going (stand p at) (b ∷ (a ∷ values)) ws)
  move_agrees n q p Up size at to a b values ws h c = sums n (q (on_by a b size)) p (combine.Index size) at to a b (on_by a b size) values ws refl h (c (on_by a b size))
  move_agrees n q p Down size at to a b values ws h c =
      changes n (q (back_by a b size)) p (change.Negate I64) at h.0 b (a ∷ values) ws h.1 (sums n (q (back_by a b size)) p (combine.Index size) h.0 to a (negative b) (back_by a b size) values ws refl h.2 (c (back_by a b size)))

  -- a step of an object: what is stored, and what is kept
  step_value : (w : Way) (old size : ℕ) → (old + step_by w size) % 2 ^ 64 ≡ stepped_by w old size
  step_value Up old size = refl
  step_value Down old size = add-mod-mod old (2 ^ 64 - size % 2 ^ 64) (2 ^ 64)

  step_kept : (g : Given) (old new : ℕ) → cond (keeps_old g) old new ≡ given g old new
  step_kept New old new = refl
  step_kept Old old new = refl

  step_agrees : (n : ℕ) (o : Option ℕ) (k : IntKind) (w : Way) (g : Given) (size : ℕ) (go : ℕ → Marks) (p : Spot) (at to a old : ℕ) (values : List ℕ) (ws : List Waiting) → Has code.instrs at (instr.StoreStep k (step_by w size) (keeps_old g) o) to
      → ((v : ℕ) → Agree r l n (go v) (Going (stand p to) (v ∷ values) ws))
      → Agree r l n (ask p.side (Stores o a (bytes_of_number (bytes_of k) (converted k (stepped_by w old size)))) (λ x. go (given g old (converted k (stepped_by w old size))))) (Going (stand p at) (old ∷ (a ∷ values)) ws)
  step_agrees n o k w g size go p at to a old values ws h c =
      let new = converted k (stepped_by w old size) in
      by_ask r l n p.side (Stores o a (bytes_of_number (bytes_of k) new)) (λ x. go (given g old new)) (λ x. Going (stand p (at + 1)) (cond (keeps_old g) old new ∷ values) ws) (Going (stand p at) (old ∷ (a ∷ values)) ws)
      (ap (next_of r l) (acting r l (instr.StoreStep k (step_by w size) (keeps_old g) o) (stand p at) (old ∷ (a ∷ values)) ws h.here) ∙ ap (λ z. next_of r l (Asks p.side (Stores o a (bytes_of_number (bytes_of k) (converted k z))) (λ x. Going (stand p (at + 1)) (cond (keeps_old g) old (converted k z) ∷ values) ws))) (step_value w old size))
      (λ x j lt. fewer r l j n (go (given g old new)) (Going (stand p (at + 1)) (cond (keeps_old g) old new ∷ values) ws) (omega arith)
      (subst (λ z. Agree r l n (go (given g old new)) (Going (stand p z) (cond (keeps_old g) old new ∷ values) ws)) (sym h.after)
      (subst (λ z. Agree r l n (go (given g old new)) (Going (stand p to) (z ∷ values) ws)) (sym (step_kept g old new)) (c (given g old new)))))

  -- ---- objects that are read, changed and stored

  -- a Load that leaves the address
  pub keeps : (n : ℕ) (o : Object) (go : ℕ → Marks) (p : Spot) (at to a : ℕ) (values : List ℕ) (ws : List Waiting) → Has code.instrs at (loads o) to
      → ((v : ℕ) → Agree r l n (go (converted (kind_of (object_type o)) v)) (Going (stand p to) (converted (kind_of (object_type o)) v ∷ (a ∷ values)) ws))
      → Agree r l n (fetch (here_at p) (origin o) (object_type o) go a) (Going (stand p at) (a ∷ values) ws)
  keeps n o go p at to a values ws h c =
      loads_of n (λ v. go (converted (kind_of (object_type o)) v)) p (loads o) (origin o) (kind_of (object_type o)) at to a values (λ v. converted (kind_of (object_type o)) v ∷ (a ∷ values)) ws h refl c

  -- ---- arguments

  -- what lies on top is taken as it was put there
  taken : (xs : List ℕ) (m : ℕ) (acc stack : List ℕ) → take_args (length xs + m) acc (over xs stack) ≡ take_args m (xs ++ acc) stack
  taken [] m acc stack = let e : 0 + m ≡ m = omega arith in ap (λ k. take_args k acc stack) e
  taken (x ∷ xs) m acc stack =
      let e : length (x ∷ xs) + m ≡ length xs + suc m = omega arith in
      ap (λ k. take_args k acc (over xs (x ∷ stack))) e ∙ taken xs (suc m) acc (x ∷ stack)

  nil_after : (xs : List ℕ) → xs ++ [] ≡ xs
  nil_after [] = refl
  nil_after (x ∷ xs) = ap (λ ys. x ∷ ys) (nil_after xs)

  pub all_taken : (xs stack : List ℕ) → take_args (length xs) [] (over xs stack) ≡ Some (xs, stack)
  all_taken xs stack =
      let e : length xs ≡ length xs + 0 = omega arith in
      ap (λ k. take_args k [] (over xs stack)) e ∙ (taken xs 0 [] stack ∙ ap (λ ys. Some (ys, stack)) (nil_after xs))

  -- the callee's address, where it has one, lies below the arguments
  abbrev pub below_args : Callee → ℕ → List ℕ → List ℕ
  below_args (Through v) a stack = a ∷ stack
  below_args f a stack = stack

  calls_by_name : (n : ℕ) (p : Spot) (f : ℕ) (xs : List ℕ) (c at to : ℕ) (go : ℕ → Marks) (stack : List ℕ) (ws : List Waiting) → CallsAgree n p → length xs ≡ c → Has code.instrs at (instr.Call f c) to
      → ((v : ℕ) → Agree r l n (go v) (Going (stand p to) (v ∷ stack) ws)) → Agree r l n (p.call f xs go) (Going (stand p at) (over xs stack) ws)
  calls_by_name n p f xs c at to go stack ws cs e h k =
      let some = all_taken xs stack in
      let same : take_args c [] (over xs stack) ≡ Some (xs, stack) = ap (λ m. take_args m [] (over xs stack)) (sym e) ∙ some in
      let acts : action l (Going (stand p at) (over xs stack) ws) ≡ call_act f (stand p at) (over xs stack) ws xs stack =
      acting r l (instr.Call f c) (stand p at) (over xs stack) ws h.here ∙ ap (λ o. with_args o (call_act f (stand p at) (over xs stack) ws)) same in
      cs.named n (omega arith) f xs go (Going (stand p at) (over xs stack) ws) at (over xs stack) stack ws acts some
      (λ v. subst (λ z. Agree r l n (go v) (Going (stand p z) (v ∷ stack) ws)) (sym h.after) (k v))

  calls_by_pointer : (n : ℕ) (p : Spot) (t : CType) (sig a : ℕ) (xs : List ℕ) (c at to : ℕ) (go : ℕ → Marks) (stack : List ℕ) (ws : List Waiting) → CallsAgree n p → IsSigOf s code t sig → length xs ≡ c → Has code.instrs at (instr.CallPointer sig c) to
      → ((v : ℕ) → Agree r l n (go v) (Going (stand p to) (v ∷ stack) ws)) → Agree r l n (p.call_at t a xs go) (Going (stand p at) (over xs (a ∷ stack)) ws)
  calls_by_pointer n p t sig a xs c at to go stack ws cs is e h k =
      let some = all_taken xs (a ∷ stack) in
      let same : take_args c [] (over xs (a ∷ stack)) ≡ Some (xs, a ∷ stack) = ap (λ m. take_args m [] (over xs (a ∷ stack))) (sym e) ∙ some in
      let acts : action l (Going (stand p at) (over xs (a ∷ stack)) ws) ≡ to_callee (callee l sig a) (stand p at) xs (over xs (a ∷ stack)) stack ws =
      acting r l (instr.CallPointer sig c) (stand p at) (over xs (a ∷ stack)) ws h.here ∙ ap (λ o. with_args o (pointer_act l sig (stand p at) (over xs (a ∷ stack)) ws)) same in
      cs.pointed n (omega arith) t sig a xs go (Going (stand p at) (over xs (a ∷ stack)) ws) at (over xs (a ∷ stack)) stack ws is acts some
      (λ v. subst (λ z. Agree r l n (go v) (Going (stand p z) (v ∷ stack) ws)) (sym h.after) (k v))

  moves : (n : ℕ) (q : Marks) (p : Spot) (at to : ℕ) (stack : List ℕ) (ws : List Waiting) → at ≡ to → Agree r l n q (Going (stand p to) stack ws) → Agree r l n q (Going (stand p at) stack ws)
  moves n q p at to stack ws e k = subst (λ z. Agree r l n q (Going (stand p z) stack ws)) (sym e) k

  -- what is called: given its arguments it makes the call, wherever they lie above the address
  abbrev Makes : ℕ → Spot → Callee → ℕ → ((List ℕ → (ℕ → Marks) → Marks)) → ℕ → ℕ → ℕ → Type 0
  Makes n p f a make c at to = (xs : List ℕ) (go : ℕ → Marks) (stack : List ℕ) (ws : List Waiting) → length xs ≡ c → ((v : ℕ) → Agree r l n (go v) (Going (stand p to) (v ∷ stack) ws)) → Agree r l n (make xs go) (Going (stand p at) (over xs (below_args f a stack)) ws)

  mutual
    pub object_agrees : (o : Object) (n : ℕ) (p : Spot) (at to : ℕ) (go : ℕ → Marks) (stack : List ℕ) (ws : List Waiting) → CallsAgree n p → ObjectAt o (against_at p) at to → ((v : ℕ) → Agree r l n (go v) (Going (stand p to) (v ∷ stack) ws))
        → Agree r l n (address o (here_at p) go) (Going (stand p at) stack ws)
    object_agrees (GlobalObject from place t) n p at to go stack ws cs h c = pushes n (go (global_address s place)) p (Global place) at to stack ws h (c (global_address s place))
    object_agrees (LocalObject place t) n p at to go stack ws cs h c = pushes n (go (local_address (here_at p) place)) p (Local (offset_of (against_at p) place)) at to stack ws h (c (local_address (here_at p) place))
    object_agrees (TextObject from size) n p at to go stack ws cs h c = pushes n (go (text_address s from)) p (Text (order_of from s.texts)) at to stack ws h (c (text_address s from))
    object_agrees (Pointed v t) n p at to go stack ws cs h c = value_agrees v n p at to go stack ws cs h c
    object_agrees (Element x q i t) n p at to go stack ws cs h c =
        sum_agrees n p x (value q (here_at p)) (value i (here_at p)) (ValueAt q (against_at p)) (ValueAt i (against_at p)) (size_of s t) at to go stack ws
        (λ m k f vs us g d. value_agrees q n p m k f vs us cs g d) (λ m k f vs us g d. value_agrees i n p m k f vs us cs g d) h c
    object_agrees (MemberOf o number t) n p at to go stack ws cs h c =
        let d = member_offset s (object_type o) number in
        object_agrees o n p at h.0 (λ a. go (wrap (a + d))) stack ws cs h.1 (λ a. changes n (go (wrap (a + d))) p (change.Offset d) h.0 to a stack ws h.2 (c (wrap (a + d))))

    pub value_agrees : (v : typed.Value) (n : ℕ) (p : Spot) (at to : ℕ) (go : ℕ → Marks) (stack : List ℕ) (ws : List Waiting) → CallsAgree n p → ValueAt v (against_at p) at to → ((v : ℕ) → Agree r l n (go v) (Going (stand p to) (v ∷ stack) ws))
        → Agree r l n (value v (here_at p) go) (Going (stand p at) stack ws)
    value_agrees (Constant k m) n p at to go stack ws cs h c = pushes n (go (written m)) p (Number (written m)) at to stack ws h (c (written m))
    value_agrees (FunctionAddress from number t) n p at to go stack ws cs h c = pushes n (go (function_address number)) p (Number (function_address number)) at to stack ws h (c (function_address number))
    value_agrees (ReadOf o) n p at to go stack ws cs h c =
        object_agrees o n p at h.0 (load (here_at p) (origin o) (object_type o) go) stack ws cs h.1 (λ a. load_agrees n (is_read (object_type o)) o go p h.0 to a stack ws h.2 c)
    value_agrees (AddressOf o t) n p at to go stack ws cs h c = object_agrees o n p at to go stack ws cs h c
    value_agrees (Convert t v) n p at to go stack ws cs h c =
        subst (λ q. Agree r l n q (Going (stand p at) stack ws)) (sym (conversion_is (here_at p) go t v))
        (value_agrees v n p at h.0 (λ x. go (cond (converts t v) (converted (kind_of t) x) x)) stack ws cs h.1 (λ x. convert_agrees n (converts t v) (kind_of t) go p h.0 to x stack ws h.2 c))
    value_agrees (Negate k v) n p at to go stack ws cs h c =
        let f : ℕ → ℕ = λ x. written (wrapped k (pos 0 -ℤ read k x)) in
        value_agrees v n p at h.0 (λ x. go (f x)) stack ws cs h.1 (λ x. changes n (go (f x)) p (change.Negate k) h.0 to x stack ws h.2 (c (f x)))
    value_agrees (Complement k v) n p at to go stack ws cs h c =
        let f : ℕ → ℕ = λ x. written (wrapped k (negsuc 0 -ℤ read k x)) in
        value_agrees v n p at h.0 (λ x. go (f x)) stack ws cs h.1 (λ x. changes n (go (f x)) p (change.Complement k) h.0 to x stack ws h.2 (c (f x)))
    value_agrees (Arithmetic op k a b) n p at to go stack ws cs h c =
        value_agrees a n p at h.0 (λ x. value b (here_at p) (λ y. or_fault p.side (arith_of op k x y) go)) stack ws cs h.2
        (λ x. value_agrees b n p h.0 h.1 (λ y. or_fault p.side (arith_of op k x y) go) (x ∷ stack) ws cs h.3 (λ y. combines n go p (combine.Arith op k) h.1 to x y stack ws h.4 c))
    value_agrees (PointerSum x q i size) n p at to go stack ws cs h c =
        sum_agrees n p x (value q (here_at p)) (value i (here_at p)) (ValueAt q (against_at p)) (ValueAt i (against_at p)) size at to go stack ws
        (λ m k f vs us g d. value_agrees q n p m k f vs us cs g d) (λ m k f vs us g d. value_agrees i n p m k f vs us cs g d) h c
    value_agrees (PointerDifference a b size) n p at to go stack ws cs h c =
        value_agrees a n p at h.0 (λ x. value b (here_at p) (λ y. or_fault p.side (arith_of Div I64 (written (pos x -ℤ pos y)) size) go)) stack ws cs h.2
        (λ x. value_agrees b n p h.0 h.1 (λ y. or_fault p.side (arith_of Div I64 (written (pos x -ℤ pos y)) size) go) (x ∷ stack) ws cs h.3 (λ y. combines n go p (combine.Distance size) h.1 to x y stack ws h.4 c))
    value_agrees (PointerComparison op a b) n p at to go stack ws cs h c =
        value_agrees a n p at h.0 (λ x. value b (here_at p) (λ y. or_fault p.side (arith_of op U64 x y) go)) stack ws cs h.2
        (λ x. value_agrees b n p h.0 h.1 (λ y. or_fault p.side (arith_of op U64 x y) go) (x ∷ stack) ws cs h.3 (λ y. combines n go p (combine.Arith op U64) h.1 to x y stack ws h.4 c))
    value_agrees (Not v) n p at to go stack ws cs h c =
        value_agrees v n p at h.0 (λ x. go (at_zero x 1 0)) stack ws cs h.1 (λ x. changes n (go (at_zero x 1 0)) p change.Not h.0 to x stack ws h.2 (c (at_zero x 1 0)))
    value_agrees (Both a b) n p at to go stack ws cs h c =
        value_agrees a n p at h.0 (λ x. at_zero x (go 0) (value b (here_at p) (λ y. go (truth y)))) stack ws cs h.2
        (λ x. ends_at_zero n (go 0) (value b (here_at p) (λ y. go (truth y))) p h.0 to x stack ws h.3 (c 0)
        (value_agrees b n p (h.0 + 1) h.1 (λ y. go (truth y)) stack ws cs h.4 (λ y. changes n (go (truth y)) p change.Truth h.1 to y stack ws h.5 (c (truth y)))))
    value_agrees (Either a b) n p at to go stack ws cs h c =
        value_agrees a n p at h.0 (λ x. at_zero x (value b (here_at p) (λ y. go (truth y))) (go 1)) stack ws cs h.2
        (λ x. ends_unless_zero n (value b (here_at p) (λ y. go (truth y))) (go 1) p h.0 to x stack ws h.3
        (value_agrees b n p (h.0 + 1) h.1 (λ y. go (truth y)) stack ws cs h.4 (λ y. changes n (go (truth y)) p change.Truth h.1 to y stack ws h.5 (c (truth y)))) (c 1))
    value_agrees (Choice t a b) n p at to go stack ws cs h c =
        value_agrees t n p at h.0 (λ x. at_zero x (value b (here_at p) go) (value a (here_at p) go)) stack ws cs h.2
        (λ x. skips n (value b (here_at p) go) (value a (here_at p) go) p h.0 (h.1 + 1) x stack ws h.3
        (value_agrees b n p (h.1 + 1) to go stack ws cs h.6 c)
        (value_agrees a n p (h.0 + 1) h.1 go stack ws cs h.4 (λ y. goes_on n (go y) p h.1 to (y ∷ stack) ws h.5 (c y))))
    value_agrees (Sequence a b) n p at to go stack ws cs h c =
        value_agrees a n p at h.0 (λ x. value b (here_at p) go) stack ws cs h.2
        (λ x. drops n (value b (here_at p) go) p h.0 h.1 x stack ws h.3 (value_agrees b n p h.1 to go stack ws cs h.4 c))
    value_agrees (Assigned o v) n p at to go stack ws cs h c =
        object_agrees o n p at h.0 (λ a. value v (here_at p) (λ x. store (here_at p) (origin o) (object_type o) a x (go x))) stack ws cs h.2
        (λ a. value_agrees v n p h.0 h.1 (λ x. store (here_at p) (origin o) (object_type o) a x (go x)) (a ∷ stack) ws cs h.3 (λ x. store_agrees n (origin o) (kind_of (object_type o)) (go x) p h.1 to a x stack ws h.4 (c x)))
    value_agrees (Changed o op k v) n p at to go stack ws cs h c =
        let t = object_type o in
        let kept : (a : ℕ) → (ℕ → Marks) = λ a new. store (here_at p) (origin o) t a new (go new) in
        let own = kind_of t in
        let done : (a : ℕ) → (old : ℕ) → Marks = λ a old. value v (here_at p) (λ y. or_fault p.side (arith_of op k (converted k old) y) (λ x. kept a (converted own x))) in
        let given_back : (a : ℕ) → (ℕ → Marks) = λ a x. kept a (cond (reconverts k own) (converted own x) x) in
        let after : (a : ℕ) → (old : ℕ) → Marks = λ a old. value v (here_at p) (λ y. or_fault p.side (arith_of op k old y) (given_back a)) in
        object_agrees o n p at h.0 (λ a. fetch (here_at p) (origin o) t (done a) a) stack ws cs h.6
        (λ a. keeps n o (done a) p h.0 h.1 a stack ws h.7 (λ w.
        let old = converted own w in
        subst (λ q. Agree r l n q (Going (stand p h.1) (old ∷ (a ∷ stack)) ws)) (sym (change_is (here_at p) (kept a) op k own v (pos w)))
        (convert_agrees n (reconverts own k) k (after a) p h.1 h.2 old (a ∷ stack) ws h.8
        (λ x. value_agrees v n p h.2 h.3 (λ y. or_fault p.side (arith_of op k x y) (given_back a)) (x ∷ (a ∷ stack)) ws cs h.9
        (λ y. combines n (given_back a) p (combine.Arith op k) h.3 h.4 x y (a ∷ stack) ws h.10
        (λ z. convert_agrees n (reconverts k own) own (kept a) p h.4 h.5 z (a ∷ stack) ws h.11
        (λ new. store_agrees n (origin o) own (go new) p h.5 to a new stack ws h.12 (c new))))))))
    value_agrees (Moved o w i size) n p at to go stack ws cs h c =
        let t = object_type o in
        let kept : (a : ℕ) → (ℕ → Marks) = λ a new. store (here_at p) (origin o) t a new (go new) in
        let done : (a : ℕ) → (old : ℕ) → Marks = λ a old. value i (here_at p) (λ y. kept a (moved_by w old y size)) in
        object_agrees o n p at h.0 (λ a. fetch (here_at p) (origin o) t (done a) a) stack ws cs h.4
        (λ a. keeps n o (done a) p h.0 h.1 a stack ws h.5 (λ z.
        let old = converted (kind_of t) z in
        value_agrees i n p h.1 h.2 (λ y. kept a (moved_by w old y size)) (old ∷ (a ∷ stack)) ws cs h.6
        (λ y. move_agrees n (kept a) p w size h.2 h.3 old y (a ∷ stack) ws h.7 (λ new. store_agrees n (origin o) (kind_of t) (go new) p h.3 to a new stack ws h.8 (c new)))))
    value_agrees (Stepped o w g size) n p at to go stack ws cs h c =
        let t = object_type o in
        let new : ℕ → ℕ = λ old. converted (kind_of t) (stepped_by w old size) in
        object_agrees o n p at h.0 (λ a. fetch (here_at p) (origin o) t (λ old. store (here_at p) (origin o) t a (new old) (go (given g old (new old)))) a) stack ws cs h.2
        (λ a. keeps n o (λ old. store (here_at p) (origin o) t a (new old) (go (given g old (new old)))) p h.0 h.1 a stack ws h.3 (λ z. step_agrees n (origin o) (kind_of t) w g size go p h.1 to a (converted (kind_of t) z) stack ws h.4 c))
    value_agrees (CallOf f vs t) n p at to go stack ws cs h c =
        callee_agrees f n p at h.0 (λ make. values vs (here_at p) (λ xs. make xs go)) stack ws (count vs) h.1 to cs h.2 h.4
        (λ a make k. values_agree vs n p h.0 h.1 (λ xs. make xs go) (below_args f a stack) ws cs h.3 (λ xs e. k xs go stack ws e c))

    pub values_agree : (vs : Values) (n : ℕ) (p : Spot) (at to : ℕ) (go : List ℕ → Marks) (stack : List ℕ) (ws : List Waiting) → CallsAgree n p → ValuesAt vs (against_at p) at to
        → ((xs : List ℕ) → length xs ≡ count vs → Agree r l n (go xs) (Going (stand p to) (over xs stack) ws)) → Agree r l n (values vs (here_at p) go) (Going (stand p at) stack ws)
    values_agree NoValues n p at to go stack ws cs h c = moves n (go []) p at to stack ws h (c [] refl)
    values_agree (MoreValues v vs) n p at to go stack ws cs h c =
        value_agrees v n p at h.0 (λ x. values vs (here_at p) (λ xs. go (x ∷ xs))) stack ws cs h.1
        (λ x. values_agree vs n p h.0 to (λ xs. go (x ∷ xs)) (x ∷ stack) ws cs h.2 (λ xs e. c (x ∷ xs) (ap suc e)))

    pub callee_agrees : (f : Callee) (n : ℕ) (p : Spot) (at m : ℕ) (go : (List ℕ → (ℕ → Marks) → Marks) → Marks) (stack : List ℕ) (ws : List Waiting) (count call to : ℕ) → CallsAgree n p → CalleeAt f (against_at p) at m → CallAt f (against_at p) count call to
        → ((a : ℕ) (make : List ℕ → (ℕ → Marks) → Marks) → Makes n p f a make count call to → Agree r l n (go make) (Going (stand p m) (below_args f a stack) ws)) → Agree r l n (called f (here_at p) go) (Going (stand p at) stack ws)
    callee_agrees (SourceFunction from number) n p at m go stack ws count call to cs h k c =
        moves n (go (p.call number)) p at m stack ws h (c 0 (p.call number) (λ xs g vs us e d. calls_by_name n p number xs count call to g vs us cs e k d))
    callee_agrees (BuiltinFunction from b) n p at m go stack ws count call to cs h k c =
        moves n (go (p.call (number_of b))) p at m stack ws h (c 0 (p.call (number_of b)) (λ xs g vs us e d. calls_by_name n p (number_of b) xs count call to g vs us cs e k d))
    callee_agrees (Through v) n p at m go stack ws count call to cs h k c =
        value_agrees v n p at m (λ a. go (p.call_at (target (value_type v)) a)) stack ws cs h
        (λ a. c a (p.call_at (target (value_type v)) a) (λ xs g vs us e d. calls_by_pointer n p (target (value_type v)) k.0 a xs count call to g vs us cs k.1 e k.2 d))
