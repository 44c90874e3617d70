-- Of marks that are no events one alone can be a step.
use Rattle.std.proofs.Common.{◌≡◌, inl, inr, ℕ, ◌+◌, ◌-◌, ◌<◌, Bool, true, false, ◌&&◌, ◌||◌, cond, eqb, List, [], ◌∷◌, length, get_or, Option, Some, None, refl, sym, ap, ◌∙◌, subst, arith, ext_get_or, eqb-true}
use Rattle.std.specs.Prelude.{is_some}
use Rattle.std.proofs.lemmas.Bool.{le-leb, lt-ltb, and_from, and_parts, true≢false}
use Rattle.marks.specs.declared.side.Side.{Side}
use Rattle.marks.specs.declared.side.Side.TheVariants.{System}
use Rattle.marks.specs.Places.{system_pool}
use Rattle.marks.specs.declared.range.Range.{Range}
use Rattle.marks.specs.Ranges.{Piece, within, piece_ranges}
use Rattle.marks.specs.Marks.{Act, Turn, Load, Store, Enter, Leave, Step, Fault, Made, Mark, is_event, side_of}
use Rattle.marks.specs.Bytes.{granted}
use Rattle.marks.specs.Wants.{Want, Outside, Turns, Loads, Stores, Enters, Leaves, Allocs, Frees, Calls, Below, Gives, Returns, CallsBack, UpReturns, Steps, Fails, answer_to, same_numbers, is_above, is_below}
use Rattle.c_builtins.specs.declared.builtin.Builtin.{Builtin}
use Rattle.c_builtins.specs.declared.builtin.Builtin.TheVariants as builtins
use Rattle.c_code.specs.Machine.{first}
use Rattle.c_code.specs.MarkLists.{same_side, reply}
use Rattle.replay_runs.specs.Pool.{IsPlace}
use Rattle.replay_runs.specs.Rules.{AreWhole}
use Rattle.replay_runs.proofs.Replies.{Plain, turn, load, no_load, store, no_store, no_write, enter, full, leave, no_free, no_call, fail, only_events, IsNoStep, same_numbers_true}
use Rattle.whole_runs.specs.World.{World}
use Rattle.whole_runs.specs.Outcomes.{builtin_of}
use Rattle.whole_runs.specs.Memory.{real, Has, HasAll}
use Rattle.whole_runs.specs.Below.{Given, ByPool, Says, NoMore, given, system_blocks, targets, pieces_for}
use Rattle.whole_runs.specs.Steps.{StepOf, GivesStep, IsStep, Agrees, zeros}
use Rattle.whole_runs_laws.proofs.Lasts.{some_if}

-- ---- bytes of a memory

some_one : (x y : ℕ) (o : Option ℕ) → o ≡ Some x → o ≡ Some y → x ≡ y
some_one x y o e f = ap value (sym e ∙ f)
  where
    value : Option ℕ → ℕ
    value None = 0
    value (Some v) = v

inside : (at n i : ℕ) → i < n → within at n (at + i) ≡ true
inside at n i lt = and_from _ _ (le-leb at (at + i) (omega arith)) (lt-ltb (at + i) (at + n) (omega arith))

pub stand_one : (memory : ℕ → Option ℕ) (at : ℕ) (u v : List ℕ) → length u ≡ length v → Has memory at u → Has memory at v → u ≡ v
stand_one memory at u v n h k = ext_get_or 0 u v n (λ i lt.
    let z : at + i - at ≡ i = omega arith in
    let a : memory (at + i) ≡ Some (get_or u i 0) = h (at + i) (inside at (length u) i lt) ∙ ap (λ j. Some (get_or u j 0)) z in
    let b : memory (at + i) ≡ Some (get_or v i 0) = k (at + i) (inside at (length v) i (omega (arith, lt, n))) ∙ ap (λ j. Some (get_or v j 0)) z in
    some_one (get_or u i 0) (get_or v i 0) (memory (at + i)) a b)

abbrev pub first_range : List Range → Range
first_range [] = record { addr = 0; len = 0 }
first_range (r ∷ rs) = r

abbrev pub other_ranges : List Range → List Range
other_ranges [] = []
other_ranges (r ∷ rs) = rs

pub pieces_one : (memory : ℕ → Option ℕ) (ps qs : List Piece) → piece_ranges ps ≡ piece_ranges qs → AreWhole ps → AreWhole qs → HasAll memory ps → HasAll memory qs → ps ≡ qs
pieces_one memory [] [] e f g h k = refl
pieces_one memory [] (q ∷ qs) e f g h k = cc
pieces_one memory (p ∷ ps) [] e f g h k = cc
pieces_one memory (p ∷ ps) (q ∷ qs) e f g h k =
    let same : p.range ≡ q.range = ap first_range e in
    let bytes : p.bytes ≡ q.bytes = stand_one memory q.range.addr p.bytes q.bytes (f.0 ∙ ap (λ r. r.len) same ∙ sym g.0) (subst (λ r. Has memory r.addr p.bytes) same h.0) k.0 in
    let others : ps ≡ qs = pieces_one memory ps qs (ap other_ranges e) f.1 g.1 h.1 k.1 in
    λ i. record { range = same i; bytes = bytes i } ∷ others i

-- ---- blocks

pub place_one : (pool : ℕ) (bs : List Range) (size x y : ℕ) → IsPlace pool bs size x → IsPlace pool bs size y → x ≡ y
place_one pool bs size x y (inl a) (inl b) = let p = a.1 y b.0 in let q = b.1 x a.0 in omega (arith, p, q)
place_one pool bs size x y (inl a) (inr b) = absurd (b.1 x a.0)
place_one pool bs size x y (inr a) (inl b) = absurd (a.1 y b.0)
place_one pool bs size x y (inr a) (inr b) = a.0 ∙ sym b.0

step_path : (f g : ℕ) (xs bs : List ℕ) (v u : ℕ) (is js ps qs : List Piece) (rs ss : List Range) → f ≡ g → xs ≡ bs → v ≡ u → is ≡ js → ps ≡ qs → rs ≡ ss → Step f xs v is ps rs ≡ Step g bs u js qs ss
step_path f g xs bs v u is js ps qs rs ss a b c d e h = λ i. Step (a i) (b i) (c i) (d i) (e i) (h i)

module _ (w : World) (past : List Mark) (t : ℕ) where
  abbrev step_of : ℕ → List ℕ → ℕ → List Piece → List Piece → List Range → StepOf
  step_of f args v is ps rs = record { func = f; args = args; result = v; ins = is; pieces = ps; freed = rs }

  gives_one : (f : ℕ) (args : List ℕ) (v u : ℕ) (is js ps qs : List Piece) (rs ss : List Range) (g : Given) → GivesStep w past (step_of f args v is ps rs) g → GivesStep w past (step_of f args u js qs ss) g → Step f args v is ps rs ≡ Step f args u js qs ss
  gives_one f args v u is js ps qs rs ss ByPool h k = absurd h
  gives_one f args v u is js ps qs rs ss (Says r bs) h k =
      let result : v ≡ u = h.result_is ∙ sym k.result_is in
      step_path f f args args v u is js ps qs rs ss refl refl result (pieces_one (real w past) is js (h.ins ∙ sym k.ins) h.whole k.whole h.read k.read) (h.pieces_are ∙ (ap (λ z. pieces_for (targets w System past f args z) bs) result ∙ sym k.pieces_are)) (h.freed ∙ sym k.freed)
  gives_one f args v u is js ps qs rs ss NoMore h k = absurd h

  step_one : (f : ℕ) (args : List ℕ) (o : Option Builtin) (v u : ℕ) (is js ps qs : List Piece) (rs ss : List Range) → IsStep w past t (step_of f args v is ps rs) o → IsStep w past t (step_of f args u js qs ss) o → Step f args v is ps rs ≡ Step f args u js qs ss
  step_one f args (Some builtins.Malloc) v u is js ps qs rs ss h k =
      let place : v ≡ u = place_one system_pool (system_blocks past) (first args) v u h.place k.place in
      step_path f f args args v u is js ps qs rs ss refl refl place (h.ins ∙ sym k.ins) (h.pieces ∙ (ap (λ z. zeros z (granted z (first args))) place ∙ sym k.pieces)) (h.freed ∙ sym k.freed)
  step_one f args (Some builtins.Free) v u is js ps qs rs ss h k = step_path f f args args v u is js ps qs rs ss refl refl (h.result ∙ sym k.result) (h.ins ∙ sym k.ins) (h.pieces ∙ sym k.pieces) (h.freed ∙ sym k.freed)
  step_one f args (Some builtins.Spawn) v u is js ps qs rs ss h k = gives_one f args v u is js ps qs rs ss (given w past t f args) h k
  step_one f args (Some builtins.Join) v u is js ps qs rs ss h k = gives_one f args v u is js ps qs rs ss (given w past t f args) h k
  step_one f args (Some builtins.Lock) v u is js ps qs rs ss h k = gives_one f args v u is js ps qs rs ss (given w past t f args) h k
  step_one f args (Some builtins.Unlock) v u is js ps qs rs ss h k = gives_one f args v u is js ps qs rs ss (given w past t f args) h k
  step_one f args (Some builtins.Print) v u is js ps qs rs ss h k = gives_one f args v u is js ps qs rs ss (given w past t f args) h k
  step_one f args None v u is js ps qs rs ss h k = gives_one f args v u is js ps qs rs ss (given w past t f args) h k

  module _ (side : Side) where
    plain_pair : (want : Want) (a b : Act) → Plain want a → Plain want b → Agrees w past t side want a → Agrees w past t side want b → a ≡ b
    plain_pair want a b turn turn h k = refl
    plain_pair want a b (load {o} {at} {n} bytes e) (load bs f) h k = ap (Load o at) (stand_one (real w past) at bytes bs (e ∙ sym f) h k)
    plain_pair want a b (load bytes e) no_load h k = absurd k
    plain_pair want a b no_load q h k = absurd h
    plain_pair want a b store store h k = refl
    plain_pair want a b store no_store h k = absurd k
    plain_pair want a b store no_write h k = absurd k
    plain_pair want a b no_store q h k = absurd h
    plain_pair want a b no_write q h k = absurd h
    plain_pair want a b (enter {f = g} {args = vs} {bytes = bytes} at) (enter at') h k = ap (λ z. Enter g vs z bytes) (h.1 ∙ sym k.1)
    plain_pair want a b (enter at) full h k = absurd k
    plain_pair want a b full q h k = absurd h
    plain_pair want a b leave leave h k = refl
    plain_pair want a b no_free q h k = absurd h
    plain_pair want a b (no_call kind ins outs at) q h k = absurd h
    plain_pair want a b fail q h k = absurd h

    pub is_plain : (want : Want) (a : Act) → is_event a ≡ false → IsNoStep want → (is_above want || is_below want) ≡ true → is_some (answer_to want a) ≡ true → Plain want a
    is_plain want a z n b h = only_events want a z n b h

    -- an indirect call below the cut that is no Up
    back_one : (f : ℕ) (args bytes : List ℕ) (a b : Act) → is_event a ≡ false → is_event b ≡ false → is_some (answer_to (CallsBack f args bytes) a) ≡ true → is_some (answer_to (CallsBack f args bytes) b) ≡ true → Agrees w past t side (CallsBack f args bytes) a → Agrees w past t side (CallsBack f args bytes) b → a ≡ b
    unfolding answer_to
    back_one f args bytes (Enter g bs x c) (Enter g' bs' x' c') y z p q h k =
        let u = and_parts (eqb g f) (same_numbers bs args && same_numbers c bytes) (some_if (eqb g f && (same_numbers bs args && same_numbers c bytes)) _ p) in
        let v = and_parts (same_numbers bs args) (same_numbers c bytes) u.1 in
        let u' = and_parts (eqb g' f) (same_numbers bs' args && same_numbers c' bytes) (some_if (eqb g' f && (same_numbers bs' args && same_numbers c' bytes)) _ q) in
        let v' = and_parts (same_numbers bs' args) (same_numbers c' bytes) u'.1 in
        let i1 : g ≡ g' = eqb-true g f u.0 ∙ sym (eqb-true g' f u'.0) in
        let i2 : bs ≡ bs' = same_numbers_true bs args v.0 ∙ sym (same_numbers_true bs' args v'.0) in
        let i3 : x ≡ x' = h.1 ∙ sym k.1 in
        let i4 : c ≡ c' = same_numbers_true c bytes v.1 ∙ sym (same_numbers_true c' bytes v'.1) in
        λ i. Enter (i1 i) (i2 i) (i3 i) (i4 i)
    back_one f args bytes (Fault l cr ins outs at) b y z p q h k = absurd h
    back_one f args bytes a (Fault l cr ins outs at) y z p q h k = absurd k
    back_one f args bytes (Made e) b y z p q h k = absurd (true≢false y)
    back_one f args bytes a (Made e) y z p q h k = absurd (true≢false z)
    back_one f args bytes Turn b y z p q h k = absurd (true≢false (sym p))
    back_one f args bytes (Load o at cs) b y z p q h k = absurd (true≢false (sym p))
    back_one f args bytes (Store o at cs) b y z p q h k = absurd (true≢false (sym p))
    back_one f args bytes (Leave at size) b y z p q h k = absurd (true≢false (sym p))
    back_one f args bytes (Step g bs v ins pieces freed) b y z p q h k = absurd (true≢false (sym p))
    back_one f args bytes a Turn y z p q h k = absurd (true≢false (sym q))
    back_one f args bytes a (Load o at cs) y z p q h k = absurd (true≢false (sym q))
    back_one f args bytes a (Store o at cs) y z p q h k = absurd (true≢false (sym q))
    back_one f args bytes a (Leave at size) y z p q h k = absurd (true≢false (sym q))
    back_one f args bytes a (Step g bs v ins pieces freed) y z p q h k = absurd (true≢false (sym q))

    -- a builtin or external below the cut
    steps_one : (i : Bool) (f : ℕ) (args : List ℕ) (a b : Act) → is_event a ≡ false → is_event b ≡ false → is_some (answer_to (Steps i f args) a) ≡ true → is_some (answer_to (Steps i f args) b) ≡ true → Agrees w past t side (Steps i f args) a → Agrees w past t side (Steps i f args) b → a ≡ b
    unfolding answer_to
    steps_one i f args (Step g bs v is ps rs) (Step g' bs' u js qs ss) y z p q h k =
        let l = and_parts (eqb g f) (same_numbers bs args) (some_if (eqb g f && same_numbers bs args) _ p) in
        let m = and_parts (eqb g' f) (same_numbers bs' args) (some_if (eqb g' f && same_numbers bs' args) _ q) in
        let i1 : g' ≡ g = eqb-true g' f m.0 ∙ sym (eqb-true g f l.0) in
        let i2 : bs' ≡ bs = same_numbers_true bs' args m.1 ∙ sym (same_numbers_true bs args l.1) in
        let moved = subst (λ c. IsStep w past t (step_of g c u js qs ss) (builtin_of g)) i2 (subst (λ c. IsStep w past t (step_of c bs' u js qs ss) (builtin_of c)) i1 k) in
        step_one g bs (builtin_of g) v u is js ps qs rs ss h moved ∙ (λ j. Step (sym i1 j) (sym i2 j) u js qs ss)
    steps_one i f args (Fault l cr ins outs at) b y z p q h k = absurd h
    steps_one i f args a (Fault l cr ins outs at) y z p q h k = absurd k
    steps_one i f args (Made e) b y z p q h k = absurd (true≢false y)
    steps_one i f args a (Made e) y z p q h k = absurd (true≢false z)
    steps_one i f args Turn b y z p q h k = absurd (true≢false (sym p))
    steps_one i f args (Load o at cs) b y z p q h k = absurd (true≢false (sym p))
    steps_one i f args (Store o at cs) b y z p q h k = absurd (true≢false (sym p))
    steps_one i f args (Enter g bs x c) b y z p q h k = absurd (true≢false (sym p))
    steps_one i f args (Leave at size) b y z p q h k = absurd (true≢false (sym p))
    steps_one i f args a Turn y z p q h k = absurd (true≢false (sym q))
    steps_one i f args a (Load o at cs) y z p q h k = absurd (true≢false (sym q))
    steps_one i f args a (Store o at cs) y z p q h k = absurd (true≢false (sym q))
    steps_one i f args a (Enter g bs x c) y z p q h k = absurd (true≢false (sym q))
    steps_one i f args a (Leave at size) y z p q h k = absurd (true≢false (sym q))

    pub none_plain : (want : Want) (a : Act) → is_event a ≡ false → is_some (answer_to want a) ≡ true → Agrees w past t side want a → (b : Act) → is_event b ≡ false → is_some (answer_to want b) ≡ true → Agrees w past t side want b → a ≡ b
    unfolding answer_to
    none_plain (CallsBack f args bytes) a y p h b z q k = back_one f args bytes a b y z p q h k
    none_plain (Steps i f args) a y p h b z q k = steps_one i f args a b y z p q h k
    none_plain want (Made e) y p h b z q k = absurd (true≢false y)
    none_plain (Gives f args) a y p h b z q k = absurd (true≢false (sym p))
    none_plain (Returns f args v) a y p h b z q k = absurd (true≢false (sym p))
    none_plain (Loads o at n) a y p h b z q k = plain_pair (Loads o at n) a b (is_plain (Loads o at n) a y tt refl p) (is_plain (Loads o at n) b z tt refl q) h k
    none_plain (Stores o at bytes) a y p h b z q k = plain_pair (Stores o at bytes) a b (is_plain (Stores o at bytes) a y tt refl p) (is_plain (Stores o at bytes) b z tt refl q) h k
    none_plain (Enters i f args bytes) a y p h b z q k = plain_pair (Enters i f args bytes) a b (is_plain (Enters i f args bytes) a y tt refl p) (is_plain (Enters i f args bytes) b z tt refl q) h k
    none_plain (Leaves at n) a y p h b z q k = plain_pair (Leaves at n) a b (is_plain (Leaves at n) a y tt refl p) (is_plain (Leaves at n) b z tt refl q) h k
    none_plain Turns a y p h b z q k = plain_pair Turns a b (is_plain Turns a y tt refl p) (is_plain Turns b z tt refl q) h k
    none_plain (Frees at) a y p h b z q k = plain_pair (Frees at) a b (is_plain (Frees at) a y tt refl p) (is_plain (Frees at) b z tt refl q) h k
    none_plain (Calls i f args) a y p h b z q k = plain_pair (Calls i f args) a b (is_plain (Calls i f args) a y tt refl p) (is_plain (Calls i f args) b z tt refl q) h k
    none_plain (Fails kind) a y p h b z q k = plain_pair (Fails kind) a b (is_plain (Fails kind) a y tt refl p) (is_plain (Fails kind) b z tt refl q) h k
    none_plain Outside a y p h b z q k = plain_pair Outside a b (is_plain Outside a y tt refl p) (is_plain Outside b z tt refl q) h k
    none_plain (Allocs n) a y p h b z q k = plain_pair (Allocs n) a b (is_plain (Allocs n) a y tt refl p) (is_plain (Allocs n) b z tt refl q) h k
    none_plain (Below f args) a y p h b z q k = plain_pair (Below f args) a b (is_plain (Below f args) a y tt refl p) (is_plain (Below f args) b z tt refl q) h k
    none_plain (UpReturns f v) a y p h b z q k = plain_pair (UpReturns f v) a b (is_plain (UpReturns f v) a y tt refl p) (is_plain (UpReturns f v) b z tt refl q) h k

-- ---- sides

pub side_is : (side : Side) (want : Want) (m : Mark) → is_some (reply side want m) ≡ true → same_side (side_of side m.act) m.side ≡ true
unfolding reply
side_is side want m h = go (same_side (side_of side m.act) m.side) h
  where
    go : (b : Bool) → is_some (cond b (answer_to want m.act) None) ≡ true → b ≡ true
    go true e = refl
    go false e = absurd (true≢false (sym e))
