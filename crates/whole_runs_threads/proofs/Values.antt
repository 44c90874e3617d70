-- What calls of builtins and externals are given is of the type of their result.
use Rattle.std.proofs.Common.{◌≡◌, ◌≢◌, ℕ, zero, suc, ◌-◌, ◌<◌, ◌≤◌, Bool, true, false, cond, ◌&&◌, not, eqb, leb, ltb, List, [], ◌∷◌, get_or, Option, Some, None, refl, sym, ap, ◌∙◌, subst, arith, eqb-true}
use Rattle.std.specs.Prelude.{◌/◌, slice_get, filter, unwrap_or, Contains, reverse}
use Rattle.std.specs.List.{list_all, range_with_len}
use Rattle.std.proofs.lemmas.Bool.{and_parts, ltb-true}
use Rattle.std.proofs.lemmas.List.FromFn.{get_or-range_with_len, length-range_with_len}
use Rattle.std.proofs.lemmas.List.Elements.{All-get_or}
use Rattle.std.proofs.lemmas.List.Sums.{AllPass-from_list_all}
use Rattle.marks.specs.Places.{builtin_count, function_address, thread_count}
use Rattle.marks.specs.Marks.{Mark}
use Rattle.c_builtins.specs.declared.builtin.Builtin.{Builtin}
use Rattle.c_builtins.specs.declared.builtin.Builtin.TheVariants as builtins
use Rattle.c_code.specs.declared.code.FuncInfo.{FuncInfo}
use Rattle.c_code.specs.declared.shape.Shape.{Shape}
use Rattle.c_code.specs.declared.shape.Shape.TheVariants.{Void, Pointer}
use Rattle.c_code.specs.Builtins.{int, Prototype, prototypes, AreBuiltins}
use Rattle.c_code.specs.Values.{is_value}
use Rattle.c_code.specs.Machine.{Laid, Starting, func_of, callee, has_sig, first}
use Rattle.c_code.specs.MarkLists.{Split, Next, Quiet, Wants, Ends, No, Wrong, at_end, lists, result_of, result_shape, state, step}
use Rattle.c_code.specs.Valid.{IsValid, start_sig}
use Rattle.c_code.specs.Typed.{IsResultOf}
use Rattle.system_side.specs.declared.file.Scripted.{Scripted}
use Rattle.whole_runs.specs.World.{World, main_of}
use Rattle.whole_runs.specs.Sides.{own}
use Rattle.whole_runs.specs.Outcomes.{builtin_of, holder, minus_one, started, started_with, used}
use Rattle.whole_runs.specs.Threads as threads
use Rattle.whole_runs.specs.Threads.{beginning, comes, ended_with}
use Rattle.whole_runs.specs.Picks.{is_other}
use Rattle.whole_runs.specs.Below.{Given, ByPool, Says, NoMore, given, given_by, next_answer}
use Rattle.whole_runs.specs.Fits.{IsFit}
use Rattle.system_side.specs.System.{is_thread}
use Rattle.whole_runs_seen.proofs.Answered.{said_all}
use Rattle.whole_runs_seen.proofs.Threads.{AreThreads, func_at, args_at, begins_so}

-- ---- results of builtins

abbrev pub shape_of : Builtin → Shape
shape_of builtins.Malloc = Pointer
shape_of builtins.Free = Void
shape_of builtins.Spawn = int
shape_of builtins.Join = int
shape_of builtins.Lock = int
shape_of builtins.Unlock = int
shape_of builtins.Print = Void

built : (fs : List FuncInfo) (ps : List Prototype) → AreBuiltins fs ps → (f : ℕ) (p : Prototype) → slice_get ps f ≡ Some p → result_shape (slice_get fs f) ≡ p.result
built [] [] h f p e = absurd cc
built [] (q ∷ ps) h f p e = absurd h
built (g ∷ fs) [] h f p e = absurd h
built (g ∷ fs) (q ∷ ps) h zero p e = let same : q ≡ p = cc in h.0.result ∙ ap (λ (x : Prototype). x.result) same
built (g ∷ fs) (q ∷ ps) h (suc f) p e = built fs ps h.1 f p e

abbrev shape_or : Shape → Option Builtin → Shape
shape_or s None = s
shape_or s (Some b) = shape_of b

pub builtin_result : (l : Laid) → IsValid l.code → (f : ℕ) (b : Builtin) → builtin_of f ≡ Some b → result_of l f ≡ shape_of b
builtin_result l valid zero b e = built l.code.builtins prototypes valid.builtins 0 _ refl ∙ ap (shape_or Void) e
builtin_result l valid (suc zero) b e = built l.code.builtins prototypes valid.builtins 1 _ refl ∙ ap (shape_or Void) e
builtin_result l valid (suc (suc zero)) b e = built l.code.builtins prototypes valid.builtins 2 _ refl ∙ ap (shape_or Void) e
builtin_result l valid (suc (suc (suc zero))) b e = built l.code.builtins prototypes valid.builtins 3 _ refl ∙ ap (shape_or Void) e
builtin_result l valid (suc (suc (suc (suc zero)))) b e = built l.code.builtins prototypes valid.builtins 4 _ refl ∙ ap (shape_or Void) e
builtin_result l valid (suc (suc (suc (suc (suc zero))))) b e = built l.code.builtins prototypes valid.builtins 5 _ refl ∙ ap (shape_or Void) e
builtin_result l valid (suc (suc (suc (suc (suc (suc zero)))))) b e = built l.code.builtins prototypes valid.builtins 6 _ refl ∙ ap (shape_or Void) e
builtin_result l valid (suc (suc (suc (suc (suc (suc (suc f))))))) b e = absurd cc

-- ---- small numbers

small_all : list_all (is_value int) (range_with_len 0 33) ≡ true
small_all = refl

small : (n : ℕ) → n ≤ 32 → is_value int n ≡ true
small n le =
    let lt : n < 33 = omega (arith, le) in
    let here : get_or (range_with_len 0 33) n 0 ≡ n = get_or-range_with_len 0 33 n 0 lt ∙ omega arith in
    subst (λ k. is_value int k ≡ true) here (All-get_or (λ k. is_value int k ≡ true) (range_with_len 0 33) n 0 (omega (arith, lt, length-range_with_len 0 33)) (AllPass-from_list_all (is_value int) (range_with_len 0 33) small_all))

minus : is_value int minus_one ≡ true
minus = refl

either : (b : Bool) (x y : ℕ) → is_value int x ≡ true → is_value int y ≡ true → is_value int (cond b x y) ≡ true
either true x y h k = h
either false x y h k = k

-- ---- results of threads

abbrev number_or : ℕ → Option ℕ → ℕ
number_or d None = d
number_or d (Some x) = x

module _ (w : World) (fit : IsFit w) (past : List Mark) (known : AreThreads w past) where
  abbrev l : Laid
  l = w.laid

  callee_sig : (address : ℕ) (f : ℕ) → callee l start_sig address ≡ Some f → has_sig start_sig (func_of l.code f) ≡ true
  callee_sig address f e = by (eqb address (function_address g)) (leb builtin_count g) e
    where
      g : ℕ
      g = (address - function_address 0) / 16

      go : (c : Bool) → has_sig start_sig (func_of l.code g) ≡ c → cond c (Some g) None ≡ Some f → has_sig start_sig (func_of l.code f) ≡ true
      go true d z = let same : g ≡ f = ap (number_or g) z in subst (λ k. has_sig start_sig (func_of l.code k) ≡ true) same d
      go false d z = absurd cc

      by : (a b : Bool) → cond (a && (b && has_sig start_sig (func_of l.code g))) (Some g) None ≡ Some f → has_sig start_sig (func_of l.code f) ≡ true
      by true true h = go (has_sig start_sig (func_of l.code g)) refl h
      by true false h = absurd cc
      by false b h = absurd cc

  of_sig : (o : Option FuncInfo) (f : ℕ) → func_of l.code f ≡ o → has_sig start_sig o ≡ true → result_shape o ≡ int
  of_sig None f e z = absurd cc
  of_sig (Some a) f e z = (fit.code.valid.starts f a e (eqb-true a.sig start_sig z)).1

  thread_gives : (o : Option ℕ) (v : ℕ) → ((f : ℕ) → o ≡ Some f → result_of l f ≡ int) → IsResultOf l o v → is_value int v ≡ true
  thread_gives (Some f) v is h = subst (λ s. is_value s v ≡ true) (is f refl) h
  thread_gives None v is h = absurd h

  thread_int : (t f : ℕ) → func_at w past t ≡ Some f → result_of l f ≡ int
  thread_int zero f e =
      let same : main_of l.code ≡ f = ap (number_or f) e in
      subst (λ g. result_of l g ≡ int) same (ap result_shape fit.code.main.known ∙ fit.code.main.result)
  thread_int (suc t) f e = of_sig (func_of l.code f) f refl (callee_sig (first (started_with (suc t) past)) f e)

  -- a thread that has ended gave an int
  pub ended_gives : (t v : ℕ) → t < started past → comes w past t ≡ Ends v → is_value int v ≡ true
  ended_gives t v lt e =
      let begins = begins_so w past t in
      let there : step Split l (state Split l (Starting (func_at w past t) (args_at w past t)) (own w t past)) ≡ Ends v = subst (λ c. step Split l (state Split l c (own w t past)) ≡ Ends v) begins e in
      let said : lists Split (reverse (own w t past)) l (beginning w past t) ≡ at_end (comes w past t) = said_all Split l (beginning w past t) (own w t past) (known.go_on t lt) in
      let right : lists Split (reverse (own w t past)) l (beginning w past t) ≢ Wrong = λ z. ended_right v (sym (said ∙ ap at_end e) ∙ z) in
      thread_gives (func_at w past t) v (thread_int t) (fit.code.typed.ends (func_at w past t) (args_at w past t) (own w t past) v (known.well t lt) (subst (λ c. lists Split (reverse (own w t past)) l c ≢ Wrong) begins right) there)
    where
      ended_right : (v : ℕ) → at_end (Ends v) ≡ Wrong → ⊥
      ended_right v z = absurd cc

  joined : (t : ℕ) → t < started past → is_value int (unwrap_or (threads.result_of w past t) 0) ≡ true
  joined t lt = by (comes w past t) refl
    where
      by : (n : Next) → comes w past t ≡ n → is_value int (unwrap_or (ended_with n) 0) ≡ true
      by (Quiet c) e = refl
      by (Wants side want to) e = refl
      by (Ends v) e = ended_gives t v lt e
      by No e = refl

  -- ---- what is given

  -- an answer of the file
  first_answer : (b a : Scripted) (f : ℕ) (rest : List Scripted) → is_value (result_of l b.func) b.result ≡ true → ((n : ℕ) → slice_get rest n ≡ Some a → is_value (result_of l f) a.result ≡ true) → (t : Bool) → eqb b.func f ≡ t → (n : ℕ) → slice_get (cond t (b ∷ rest) rest) n ≡ Some a → is_value (result_of l f) a.result ≡ true
  first_answer b a f rest h later true z zero q =
      let same : b ≡ a = cc in
      subst (λ (c : Scripted). is_value (result_of l f) c.result ≡ true) same (subst (λ g. is_value (result_of l g) b.result ≡ true) (eqb-true b.func f z) h)
  first_answer b a f rest h later true z (suc n) q = later n q
  first_answer b a f rest h later false z n q = later n q

  answered : (scripted : List Scripted) (f n : ℕ) (a : Scripted) → ((b : Scripted) → Contains scripted b → is_value (result_of l b.func) b.result ≡ true) → slice_get (filter (λ (b : Scripted). eqb b.func f) scripted) n ≡ Some a → is_value (result_of l f) a.result ≡ true
  answered [] f n a each e = absurd cc
  answered (b ∷ scripted) f n a each e =
      first_answer b a f (filter (λ (c : Scripted). eqb c.func f) scripted) (each b (0, omega arith, refl)) (λ k z. answered scripted f k a (λ c h. each c (suc h.0, (let lt = h.1 in omega (arith, lt)), h.2)) z) (eqb b.func f) refl n e

  says : (o : Option Scripted) (v : ℕ) (pieces : List (List ℕ)) → next_answer o ≡ Says v pieces → (a : Scripted) × (o ≡ Some a) × (v ≡ a.result)
  says None v pieces e = absurd cc
  says (Some a) v pieces e = (a, refl, sym (ap result_in e))
    where
      result_in : Given → ℕ
      result_in (Says u ps) = u
      result_in ByPool = v
      result_in NoMore = v

  external : (f n v : ℕ) (pieces : List (List ℕ)) → next_answer (slice_get (filter (λ (a : Scripted). eqb a.func f) w.file.answers) n) ≡ Says v pieces → is_value (result_of l f) v ≡ true
  external f n v pieces e =
      let s = says (slice_get (filter (λ (a : Scripted). eqb a.func f) w.file.answers) n) v pieces e in
      subst (λ u. is_value (result_of l f) u ≡ true) (sym s.2) (answered w.file.answers f n s.0 (λ b h. (fit.file.answers b h).result_is) s.1)

  said : (u v : ℕ) (ps pieces : List (List ℕ)) → Says u ps ≡ Says v pieces → u ≡ v
  said u v ps pieces e = ap result_in e
    where
      result_in : Given → ℕ
      result_in (Says x qs) = x
      result_in ByPool = u
      result_in NoMore = u

  of_builtin : (t f v : ℕ) (args : List ℕ) (pieces : List (List ℕ)) (b : Builtin) → builtin_of f ≡ Some b → given_by w past t f args (Some b) ≡ Says v pieces → is_value (shape_of b) v ≡ true
  of_builtin t f v args pieces builtins.Malloc is e = absurd cc
  of_builtin t f v args pieces builtins.Free is e = absurd cc
  of_builtin t f v args pieces builtins.Spawn is e =
      subst (λ u. is_value int u ≡ true) (said _ v [] pieces e) (either (leb thread_count (started past)) minus_one (started past) minus (small (started past) known.few))
  of_builtin t f v args pieces builtins.Join is e =
      subst (λ u. is_value int u ≡ true) (said _ v [] pieces e) (by (is_other past t (first args)) refl)
    where
      by : (c : Bool) → is_other past t (first args) ≡ c → is_value int (cond c (unwrap_or (threads.result_of w past (first args)) 0) minus_one) ≡ true
      by true z = joined (first args) (ltb-true _ _ (and_parts (ltb (first args) (started past)) (not (eqb (first args) t)) z).0)
      by false z = minus
  of_builtin t f v args pieces builtins.Lock is e = subst (λ u. is_value int u ≡ true) (said 0 v [] pieces e) refl
  of_builtin t f v args pieces builtins.Unlock is e =
      subst (λ u. is_value int u ≡ true) (said _ v [] pieces e) (either (is_thread t (holder (first args) past)) 0 minus_one refl minus)
  of_builtin t f v args pieces builtins.Print is e = subst (λ u. is_value Void u ≡ true) (said 0 v [] pieces e) refl

  -- of the result's type
  pub given_suits : (t f v : ℕ) (args : List ℕ) (pieces : List (List ℕ)) → given w past t f args ≡ Says v pieces → is_value (result_of l f) v ≡ true
  given_suits t f v args pieces e = by (builtin_of f) refl e
    where
      by : (o : Option Builtin) → builtin_of f ≡ o → given_by w past t f args o ≡ Says v pieces → is_value (result_of l f) v ≡ true
      by (Some b) is z = subst (λ s. is_value s v ≡ true) (sym (builtin_result l fit.code.valid f b is)) (of_builtin t f v args pieces b is z)
      by None is z = external f (used f past) v pieces z
