-- Where a thread stands, with what waits beside it, each with its values; and what is open there.
use Rattle.std.proofs.Common.{◌≡◌, ◌≢◌, ◌⊎◌, inl, inr, ℕ, ◌+◌, ◌-◌, ◌&&◌, Bool, true, false, cond, List, [], ◌∷◌, ◌++◌, length, drop, Option, Some, None, refl, sym, ap, ◌∙◌, subst, arith}
use Rattle.std.proofs.Math.Seq.{drop-append_seam}
use Rattle.marks.specs.declared.side.Side.{Side}
use Rattle.marks.specs.declared.side.Side.TheVariants.{Replay, System}
use Rattle.marks.specs.declared.range.Range.{Range}
use Rattle.marks.specs.Ranges.{range}
use Rattle.marks.specs.Wants.{Want, Outside, Turns, Loads, Stores, Enters, Leaves, Allocs, Frees, Calls, Below, Gives, Returns, CallsBack, UpReturns, Steps, Fails, Answer, Go, Value, Frame, CalledBack, Stopped}
use Rattle.c_code.specs.declared.shape.Shape.TheVariants.{Pointer}
use Rattle.c_code.specs.declared.code.FuncInfo.{FuncInfo}
use Rattle.c_code.specs.declared.activation.Activation.{Activation}
use Rattle.c_code.specs.declared.activation.Call.{Call}
use Rattle.c_code.specs.declared.activation.Waiting.{Waiting}
use Rattle.c_code.specs.declared.activation.Waiting.TheVariants.{ForValue, ForRet, ForUpRet, ForBelow, ForOutside}
use Rattle.c_code.specs.Values.{is_value}
use Rattle.c_code.specs.Frames.{frame_bytes}
use Rattle.c_code.specs.Machine.{Laid, Config, Going, Under, Entering, Closing, Starting, Done, Lost, at_place, entry, entry_of, func_of, frame_of, bytes_for, begin, framed, give, take_args, uncover}
use Rattle.c_code.specs.MarkLists.{Reading, Split, Above, has_entry, takes_values, called_back}
use Rattle.c_code.specs.Valid.{Leads, IsSteady}
use Rattle.c_code.specs.Fits.{with_address, held_by}
use Rattle.c_code.specs.Opens.{Opens, nothing, with_frame, with_call, with_up, in_function, topmost, opens_waiting, opens_in, IsFirst, frames_on, EndsInnermost}
use Rattle.c_code.proofs.FrameBytes.{frame_count}
use Rattle.c_code.proofs.Pairs.{takes}
use Rattle.c_code.proofs.OpenMarks.{IsQuiet, enter_opens, no_frame}
use Rattle.c_code.proofs.Walk.{Within, goes, nowhere}

-- ---- what waits

pub data Layers : Type 0 where
  Bottom : Layers
  Layer : Waiting → List ℕ → Layers → Layers

abbrev pub waits_in : Layers → List Waiting
waits_in Bottom = []
waits_in (Layer w seg s) = w ∷ waits_in s

abbrev pub values_in : Layers → List ℕ
values_in Bottom = []
values_in (Layer w seg s) = seg ++ values_in s

abbrev pub opens_of : Layers → Opens
opens_of Bottom = nothing
opens_of (Layer (ForValue a) seg s) = in_function a (opens_of s)
opens_of (Layer (ForRet call) seg s) = in_function call.then (with_call call.func (topmost call.args (seg ++ values_in s)) (opens_of s))
opens_of (Layer (ForUpRet a f) seg s) = with_up f (in_function a (opens_of s))
opens_of (Layer (ForBelow call f) seg s) = with_up f (in_function call.then (with_call call.func (topmost call.args (seg ++ values_in s)) (opens_of s)))
opens_of (Layer (ForOutside f) seg s) = with_up f (opens_of s)

abbrev pub IsBottom : Layers → Type 0
IsBottom Bottom = Unit {0}
IsBottom (Layer w seg s) = ⊥

-- what waits for the end of a crossing
abbrev pub IsCrossing : Waiting → Type 0
IsCrossing (ForValue a) = ⊥
IsCrossing (ForRet call) = Unit {0}
IsCrossing (ForUpRet a f) = Unit {0}
IsCrossing (ForBelow call f) = Unit {0}
IsCrossing (ForOutside f) = Unit {0}

-- above the cut all code is replay code
abbrev pub Runs : Reading → Side → Type 0
Runs Split side = Unit {0}
Runs Above side = side ≡ Replay

pub runs_above : (r : Reading) → Runs r Replay
runs_above Split = tt
runs_above Above = refl

module _ (r : Reading) (l : Laid) (height : ℕ → ℕ) where
  -- as many values as are held for a call
  abbrev pub SitsCall : Call → List ℕ → Type 0
  SitsCall call seg = (k : ℕ) × Leads l.code height call.then.at (k + 1) × (length seg ≡ k + held_by call)

  abbrev pub Sits : Waiting → List ℕ → Layers → Type 0
  Sits (ForValue a) seg s = Leads l.code height a.at (length seg + 1) × Runs r a.side
  Sits (ForRet call) seg s = SitsCall call seg × Runs r call.then.side
  Sits (ForUpRet a f) seg s = Leads l.code height a.at (length seg + 1) × Runs r a.side
  Sits (ForBelow call f) seg s = SitsCall call seg × Runs r call.then.side
  Sits (ForOutside f) seg s = (seg ≡ []) × IsBottom s

  abbrev pub AllSit : Layers → Type 0
  AllSit Bottom = Unit {0}
  AllSit (Layer w seg s) = Sits w seg s × AllSit s

  -- a thread stands here, and this is open
  pub data Stands : Opens → Config → Type 0 where
    going : (a : Activation) (seg : List ℕ) (s : Layers) → Leads l.code height a.at (length seg) → Runs r a.side → AllSit s → Stands (in_function a (opens_of s)) (Going a (seg ++ values_in s) (waits_in s))
    under : (call : Call) (seg : List ℕ) (s : Layers) → SitsCall call seg → Runs r call.then.side → AllSit s → Stands (opens_of (Layer (ForRet call) seg s)) (Under call (seg ++ values_in s) (waits_in s))
    entering : (side : Side) (i : Bool) (f : ℕ) (args : List ℕ) (s : Layers) → Runs r side → AllSit s → Stands (opens_of s) (Entering side i f args (values_in s) (waits_in s))
    closing : (v : ℕ) (w : Waiting) (seg : List ℕ) (s : Layers) → IsCrossing w → Sits w seg s → AllSit s → Stands (opens_of (Layer w seg s)) (Closing v w (seg ++ values_in s) (waits_in s))
    starting : (f : Option ℕ) (args : List ℕ) → r ≡ Split → Stands nothing (Starting f args)
    done : (v : ℕ) → Stands nothing (Done v)
    lost : (o : Opens) → Stands o Lost

  -- ---- what the definition says

  past_seg : (n : ℕ) (seg vs : List ℕ) → n ≡ length seg → drop n (seg ++ vs) ≡ vs
  past_seg n seg vs e = ap (λ k. drop k (seg ++ vs)) e ∙ drop-append_seam seg vs

  past_call : (call : Call) (seg vs : List ℕ) → SitsCall call seg → drop (height call.then.at - 1 + held_by call) (seg ++ vs) ≡ vs
  past_call call seg vs (k, leads, e) = past_seg (height call.then.at - 1 + held_by call) seg vs (omega (arith, leads.1, e))

  pub waiting_is : (s : Layers) → AllSit s → opens_waiting height (waits_in s) (values_in s) ≡ opens_of s
  waiting_is Bottom h = refl
  waiting_is (Layer (ForValue a) seg s) (h, k) = ap (λ vs. in_function a (opens_waiting height (waits_in s) vs)) (past_seg (height a.at - 1) seg (values_in s) (omega (arith, h.0.1))) ∙ ap (in_function a) (waiting_is s k)
  waiting_is (Layer (ForRet call) seg s) (h, k) =
      let o = λ (b : Opens). in_function call.then (with_call call.func (topmost call.args (seg ++ values_in s)) b) in
      ap (λ vs. o (opens_waiting height (waits_in s) vs)) (past_call call seg (values_in s) h.0) ∙ ap o (waiting_is s k)
  waiting_is (Layer (ForUpRet a f) seg s) (h, k) =
      ap (λ vs. with_up f (in_function a (opens_waiting height (waits_in s) vs))) (past_seg (height a.at - 1) seg (values_in s) (omega (arith, h.0.1))) ∙ ap (λ o. with_up f (in_function a o)) (waiting_is s k)
  waiting_is (Layer (ForBelow call f) seg s) (h, k) =
      let o = λ (b : Opens). with_up f (in_function call.then (with_call call.func (topmost call.args (seg ++ values_in s)) b)) in
      ap (λ vs. o (opens_waiting height (waits_in s) vs)) (past_call call seg (values_in s) h.0) ∙ ap o (waiting_is s k)
  waiting_is (Layer (ForOutside f) seg s) (h, k) = ap (λ ks. with_up f (opens_waiting height (waits_in s) (ks ++ values_in s))) h.0 ∙ ap (with_up f) (waiting_is s k)

  pub opens_are : (o : Opens) (c : Config) → Stands o c → c ≢ Lost → opens_in height c ≡ o
  opens_are o c (going a seg s leads runs sit) n = ap (λ vs. in_function a (opens_waiting height (waits_in s) vs)) (past_seg (height a.at) seg (values_in s) leads.1) ∙ ap (in_function a) (waiting_is s sit)
  opens_are o c (under call seg s h runs sit) n = waiting_is (Layer (ForRet call) seg s) ((h, runs), sit)
  opens_are o c (entering side i f args s runs sit) n = waiting_is s sit
  opens_are o c (closing v w seg s z h sit) n = waiting_is (Layer w seg s) (h, sit)
  opens_are o c (starting f args e) n = refl
  opens_are o c (done v) n = refl
  opens_are o c (lost p) n = absurd (n refl)

  pub is_lost : (o : Opens) (c : Config) → Stands o c → (c ≡ Lost) ⊎ (c ≢ Lost)
  is_lost o c (going a seg s leads runs sit) = inr (λ e. cc)
  is_lost o c (under call seg s h runs sit) = inr (λ e. cc)
  is_lost o c (entering side i f args s runs sit) = inr (λ e. cc)
  is_lost o c (closing v w seg s z h sit) = inr (λ e. cc)
  is_lost o c (starting f args e) = inr (λ e. cc)
  is_lost o c (done v) = inr (λ e. cc)
  is_lost o c (lost p) = inl refl

  -- ---- results and frames

  pub gives : (v : ℕ) (s : Layers) → AllSit s → Stands (opens_of s) (give v (waits_in s) (values_in s))
  gives v Bottom h = done v
  gives v (Layer (ForValue a) seg s) (h, k) = going a (v ∷ seg) s (h.0.0, omega (arith, h.0.1)) h.1 k
  gives v (Layer (ForRet call) seg s) (h, k) = closing v (ForRet call) seg s tt h k
  gives v (Layer (ForUpRet a f) seg s) (h, k) = closing v (ForUpRet a f) seg s tt h k
  gives v (Layer (ForBelow call f) seg s) (h, k) = closing v (ForBelow call f) seg s tt h k
  gives v (Layer (ForOutside f) seg s) (h, k) = closing v (ForOutside f) seg s tt h k

  -- where its function goes on
  pub stays_within : (a : Activation) (s : Layers) → Runs r a.side → AllSit s → (c : Config) → Within l height a (values_in s) (waits_in s) c → Stands (in_function a (opens_of s)) c
  stays_within a s runs sit c (goes q seg leads) = going (at_place q a) seg s leads runs sit
  stays_within a s runs sit c nowhere = lost (in_function a (opens_of s))

  -- of a frame that is entered
  module _ (steady : IsSteady l.code height) where
    begins_at : (side : Side) (base f : ℕ) (args : List ℕ) (info : FuncInfo) (e : Option ℕ) (s : Layers) → Runs r side → AllSit s → func_of l.code f ≡ Some info → info.entry ≡ e
        → Stands (with_frame side (range base (length (frame_bytes info args))) (opens_of s)) (begin side base (Some info) e (values_in s) (waits_in s))
    begins_at side base f args info None s runs sit known at = lost (with_frame side (range base (length (frame_bytes info args))) (opens_of s))
    begins_at side base f args info (Some place) s runs sit known at =
        let body = steady.bodies f info place known at in
        let a : Activation = record { at = place; base = base; size = info.frame; side = side } in
        subst (λ n. Stands (with_frame side (range base n) (opens_of s)) (Going a (values_in s) (waits_in s))) (sym (frame_count info args body.holds)) (going a [] s body.begins runs sit)

    begins_of : (side : Side) (base f : ℕ) (args : List ℕ) (o : Option FuncInfo) (s : Layers) → Runs r side → AllSit s → func_of l.code f ≡ o
        → Stands (with_frame side (range base (length (bytes_for o args))) (opens_of s)) (begin side base o (entry_of o) (values_in s) (waits_in s))
    begins_of side base f args None s runs sit known = lost (with_frame side (range base 0) (opens_of s))
    begins_of side base f args (Some info) s runs sit known = begins_at side base f args info info.entry s runs sit known refl

    pub framed_at : (side : Side) (f : ℕ) (args : List ℕ) (s : Layers) → Runs r side → AllSit s → (base : ℕ) → Stands (with_frame side (range base (length (frame_of l f args))) (opens_of s)) (framed l side f (values_in s) (waits_in s) (Frame base))
    framed_at side f args s runs sit base = by (is_value Pointer base)
      where
        by : (t : Bool) → Stands (with_frame side (range base (length (frame_of l f args))) (opens_of s)) (cond t (begin side base (func_of l.code f) (entry l f) (values_in s) (waits_in s)) Lost)
        by true = begins_of side base f args (func_of l.code f) s runs sit refl
        by false = lost (with_frame side (range base (length (frame_of l f args))) (opens_of s))

    pub framed_stands : (side : Side) (f : ℕ) (args : List ℕ) (s : Layers) → Runs r side → AllSit s → (x : Answer) → Stands (enter_opens side (frame_of l f args) x (opens_of s)) (framed l side f (values_in s) (waits_in s) x)
    framed_stands side f args s runs sit (Frame base) = framed_at side f args s runs sit base
    framed_stands side f args s runs sit Go = lost (opens_of s)
    framed_stands side f args s runs sit (Value v) = lost (opens_of s)
    framed_stands side f args s runs sit (CalledBack g bs) = lost (opens_of s)
    framed_stands side f args s runs sit Stopped = lost (opens_of s)

  -- a function that is called back
  pub back_stands : (f : ℕ) (args : List ℕ) (s : Layers) → AllSit s → Stands (opens_of s) (called_back l f args (values_in s) (waits_in s))
  back_stands f args s sit = by (has_entry (entry l f) && takes_values (func_of l.code f) args)
    where
      by : (t : Bool) → Stands (opens_of s) (cond t (Entering Replay false f args (values_in s) (waits_in s)) Lost)
      by true = entering Replay false f args s (runs_above r) sit
      by false = lost (opens_of s)

  -- ---- a call's arguments

  -- the arguments of a call, what lies below them, and what is left without its address
  pub record CallTaken (call : Call) (seg : List ℕ) : Type 0 where
    pub args : List ℕ
    pub under_args : List ℕ
    pub rest : List ℕ
    pub leads : Leads l.code height call.then.at (length rest + 1)
    pub same : (vs : List ℕ) → take_args call.args [] (seg ++ vs) ≡ Some (args, under_args ++ vs)
    pub uncovers : (vs : List ℕ) → uncover call.indirect (under_args ++ vs) ≡ rest ++ vs

  counted : (i : Bool) (n : ℕ) → with_address i n ≡ with_address i 0 + n
  counted true n = omega arith
  counted false n = omega arith

  -- without the address
  pub record Uncovered (i : Bool) (k : ℕ) (under_args : List ℕ) : Type 0 where
    pub rest : List ℕ
    pub count : length rest ≡ k
    pub uncovers : (vs : List ℕ) → uncover i (under_args ++ vs) ≡ rest ++ vs

  uncovered : (i : Bool) (k : ℕ) (under_args : List ℕ) → length under_args ≡ k + with_address i 0 → Uncovered i k under_args
  uncovered false k under_args e = record { rest = under_args; count = omega (arith, e); uncovers = λ vs. refl }
  uncovered true k [] e = absurd (omega (arith, e))
  uncovered true k (address ∷ rest) e = record { rest = rest; count = omega (arith, e); uncovers = λ vs. refl }

  pub call_taken : (call : Call) (seg : List ℕ) → SitsCall call seg → CallTaken call seg
  call_taken call seg (k, leads, e) =
      let n = call.args in
      let i = call.indirect in
      let t = takes n [] seg (omega (arith, e, counted i n)) in
      let u = uncovered i k t.rest (omega (arith, e, counted i n, t.left)) in
      record { args = t.args; under_args = t.rest; rest = u.rest; leads = (leads.0, omega (arith, leads.1, u.count)); same = t.same; uncovers = u.uncovers }

-- ---- frames that are left

pub left_frame : (side : Side) (f : Range) (o : Opens) → no_frame side (with_frame side f o) ≡ o
left_frame Replay f o = refl
left_frame System f o = refl

pub first_frame : (side : Side) (f : Range) (o : Opens) → IsFirst f (frames_on side (with_frame side f o))
first_frame Replay f o = refl
first_frame System f o = refl

pub quiet_ends : (side : Side) (want : Want) (o : Opens) → IsQuiet want → EndsInnermost side want o
quiet_ends side Turns o q = tt
quiet_ends side (Loads p at n) o q = tt
quiet_ends side (Stores p at bytes) o q = tt
quiet_ends side (Allocs n) o q = tt
quiet_ends side (Frees at) o q = tt
quiet_ends side (Steps i f args) o q = tt
quiet_ends side (Fails kind) o q = tt
quiet_ends side Outside o q = absurd q
quiet_ends side (Enters i f args bytes) o q = absurd q
quiet_ends side (Leaves at n) o q = absurd q
quiet_ends side (Calls i f args) o q = absurd q
quiet_ends side (Below f args) o q = absurd q
quiet_ends side (Gives f args) o q = absurd q
quiet_ends side (Returns f args v) o q = absurd q
quiet_ends side (CallsBack f args bytes) o q = absurd q
quiet_ends side (UpReturns f v) o q = absurd q
