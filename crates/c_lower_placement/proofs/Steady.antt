-- The code of a statement keeps what valid code keeps.
use Rattle.std.proofs.Common.{◌≡◌, ℕ, suc, ◌+◌, ◌-◌, ◌≤◌, [], ◌∷◌, ◌++◌, length, length-append, Some, refl, sym, ap, ◌∙◌, arith}
use Rattle.std.specs.Prelude.{slice_get}
use Rattle.c_code.specs.declared.instr.Push.TheVariants.{Number}
use Rattle.c_code.specs.declared.instr.Instr.{Instr}
use Rattle.c_code.specs.declared.instr.Instr.TheVariants as instr
use Rattle.c_code.specs.Machine.{Flat}
use Rattle.c_code.specs.Valid.{Keeps, Leads}
use Rattle.c_types_rules.specs.TypedTree.{Body, Value, MaybeValue, NoValue, OneValue, Statement, Statements, Block, Evaluate, Initialise, If, IfElse, While, Do, For, Break, Continue, Return, NoStatements, MoreStatements}
use Rattle.c_semantics.specs.Context.{kind_of}
use Rattle.c_lower_placement.specs.Placement.{offset_of}
use Rattle.c_lower_placement.specs.Code.{Lies, Making, body_code, last_code, one, return_code, statement_code, statements_code, test_code, value_code}
use Rattle.c_lower_placement.specs.Heights.{Kept, MaybeCalls, Stand, StatementCalls, StatementsCall, ValueCalls, body_heights, maybe_depth, return_heights, statement_heights, statement_depth, statements_heights, statements_depth, test_heights, value_heights, value_depth}
use Rattle.c_lower_placement.proofs.Lying.{split}
use Rattle.c_lower_placement.proofs.Keeping.{joined, k_drop, k_local, k_on, k_push, k_skip, leads_at, leads_to, len_app, parted, split_stand, value_begins, value_kept, value_len}

module _ (x : Making) (height : ℕ → ℕ) where
  abbrev code : Flat
  code = x.against.code

  k_finish : (at : ℕ) → height at ≡ 1 → Keeps code height at instr.Finish
  k_finish at e = record { enough = omega (arith, e); few = omega (arith, e); goes_on = e; sound = tt }

  k_turn : (at : ℕ) → height at ≡ 0 → Leads code height (at + 1) 0 → Keeps code height at instr.Turn
  k_turn at e l = record { enough = omega arith; few = omega (arith, e); goes_on = leads_at x height (at + 1) (at + 1) 0 (height at) refl (sym e) l; sound = tt }

  k_back : (n at head : ℕ) → height at ≡ 0 → head + 1 + n ≡ at → slice_get code.instrs head ≡ Some instr.Turn → Leads code height (head + 1) 0 → Keeps code height at (instr.GoBack n)
  k_back n at head e t h l = record {
    enough = omega arith;
    few = omega (arith, e);
    goes_on = leads_at x height (head + 1) (at - n) 0 (height at) (omega arith) (sym e) l;
    sound = (omega arith, let g : at - n - 1 ≡ head = omega arith in ap (λ z. slice_get code.instrs z) g ∙ h);
  }

  -- ---- parts

  test_len : (v : MaybeValue) (n : ℕ) → length (test_heights v) ≡ length (test_code v x n)
  test_len NoValue n = refl
  test_len (OneValue v) n = len_app x height (value_heights v 0) (1 ∷ []) (value_code v x) (one (instr.SkipIfZero n)) (value_len x height v 0) refl

  last_len : (v : MaybeValue) → length (test_heights v) ≡ length (last_code v x)
  last_len NoValue = refl
  last_len (OneValue v) = len_app x height (value_heights v 0) (1 ∷ []) (value_code v x) (one instr.Drop) (value_len x height v 0) refl

  return_len : (v : MaybeValue) → length (return_heights v) ≡ length (return_code v x)
  return_len NoValue = refl
  return_len (OneValue v) = len_app x height (value_heights v 0) (1 ∷ []) (value_code v x) (one instr.Finish) (value_len x height v 0) refl

  test_lead : (v : MaybeValue) (n at : ℕ) → Lies code.instrs at (test_code v x n) → Stand height at (test_heights v) → Leads code height (at + length (test_code v x n)) 0 → Leads code height at 0
  test_lead NoValue n at l s to = leads_at x height (at + 0) at 0 0 (omega arith) refl to
  test_lead (OneValue v) n at l s to = value_begins x height v 0 at (split x (value_code v x) (one (instr.SkipIfZero n)) at l).0 (split_stand x height (value_heights v 0) (1 ∷ []) at s).0

  last_lead : (v : MaybeValue) (at : ℕ) → Lies code.instrs at (last_code v x) → Stand height at (test_heights v) → Leads code height (at + length (last_code v x)) 0 → Leads code height at 0
  last_lead NoValue at l s to = leads_at x height (at + 0) at 0 0 (omega arith) refl to
  last_lead (OneValue v) at l s to = value_begins x height v 0 at (split x (value_code v x) (one instr.Drop) at l).0 (split_stand x height (value_heights v 0) (1 ∷ []) at s).0

  return_lead : (v : MaybeValue) (at : ℕ) → Lies code.instrs at (return_code v x) → Stand height at (return_heights v) → Leads code height at 0
  return_lead NoValue at l s = leads_to x height at (instr.Push (Number 0)) 0 l.0 s.0
  return_lead (OneValue v) at l s = value_begins x height v 0 at (split x (value_code v x) (one instr.Finish) at l).0 (split_stand x height (value_heights v 0) (1 ∷ []) at s).0

  -- a value, and an instruction that takes it
  taken : (i : Instr) (v : Value) (at : ℕ) → ValueCalls v x → Lies code.instrs at (value_code v x ++ one i) → Stand height at (value_heights v 0 ++ (1 ∷ [])) → value_depth v ≤ 64
      → ((n : ℕ) → n + 1 ≡ at + length (value_code v x ++ one i) → height n ≡ 1 → Keeps code height n i) → Kept code height at (value_code v x ++ one i)
  taken i v at u l s le k =
      let c = split x (value_code v x) (one i) at l in
      let d = parted x height (value_heights v 0) (1 ∷ []) (value_code v x) at (value_len x height v 0) s in
      let e = length-append (value_code v x) (one i) in
      let m = at + length (value_code v x) in
      joined x height (value_code v x) (one i) at (value_kept x height v 0 u at c.0 d.0 (leads_to x height m i (0 + 1) c.1.0 (d.1.0 ∙ (let g : 1 ≡ 0 + 1 = omega arith in g))) (omega arith)) (k m (omega arith) d.1.0, tt)

  one_more : 1 ≡ 0 + 1
  one_more = omega arith

  test_kept : (v : MaybeValue) (n at : ℕ) → MaybeCalls v x → Lies code.instrs at (test_code v x n) → Stand height at (test_heights v) → maybe_depth v ≤ 64
      → Leads code height (at + length (test_code v x n)) 0 → Leads code height (at + length (test_code v x n) + n) 0 → Kept code height at (test_code v x n)
  test_kept NoValue n at u l s le to end = tt
  test_kept (OneValue v) n at u l s le to end =
      taken (instr.SkipIfZero n) v at u l s le
      (λ m e h. k_skip x height n m 0 (at + length (test_code (OneValue v) x n) + n) (h ∙ one_more) (omega arith) (omega arith) (leads_at x height (at + length (test_code (OneValue v) x n)) (m + 1) 0 0 (sym e) refl to) end)

  last_kept : (v : MaybeValue) (at : ℕ) → MaybeCalls v x → Lies code.instrs at (last_code v x) → Stand height at (test_heights v) → maybe_depth v ≤ 64 → Leads code height (at + length (last_code v x)) 0 → Kept code height at (last_code v x)
  last_kept NoValue at u l s le to = tt
  last_kept (OneValue v) at u l s le to =
      taken instr.Drop v at u l s le (λ m e h. k_drop x height m 0 (h ∙ one_more) (omega arith) (leads_at x height (at + length (last_code (OneValue v) x)) (m + 1) 0 0 (sym e) refl to))

  return_kept : (v : MaybeValue) (at : ℕ) → MaybeCalls v x → Lies code.instrs at (return_code v x) → Stand height at (return_heights v) → maybe_depth v ≤ 64 → Kept code height at (return_code v x)
  return_kept NoValue at u l s le = (k_push x height (Number 0) at 0 s.0 (omega arith) (leads_at x height (at + 1) (at + 1) 1 (0 + 1) refl one_more (leads_to x height (at + 1) instr.Finish 1 l.1.0 s.1.0)), (k_finish (at + 1) s.1.0, tt))
  return_kept (OneValue v) at u l s le = taken instr.Finish v at u l s le (λ m e h. k_finish m h)

  -- ---- as many heights as instructions

  mutual
    pub statement_len : (z : Statement) (stop again : ℕ) → length (statement_heights z) ≡ length (statement_code z x stop again)
    statement_len (Block zs) stop again = statements_len zs stop again
    statement_len (Evaluate v) stop again = len_app x height (value_heights v 0) (1 ∷ []) (value_code v x) (one instr.Drop) (value_len x height v 0) refl
    statement_len (Initialise place t v) stop again =
        len_app x height (value_heights v 0) (1 ∷ []) (value_code v x) (one (instr.StoreLocal (kind_of t) (offset_of x.against place))) (value_len x height v 0) refl
    statement_len (If v z) stop again =
        let body = statement_code z x stop again in
        len_app x height (value_heights v 0) (1 ∷ statement_heights z) (value_code v x) (instr.SkipIfZero (length body) ∷ body) (value_len x height v 0) (ap suc (statement_len z stop again))
    statement_len (IfElse v z y) stop again =
        let other = statement_code y x stop again in
        let body = statement_code z x (length other + 1 + stop) (length other + 1 + again) in
        let second = instr.GoOn (length other) ∷ other in
        len_app x height (value_heights v 0) (1 ∷ (statement_heights z ++ (0 ∷ statement_heights y))) (value_code v x) (instr.SkipIfZero (length body + 1) ∷ (body ++ second)) (value_len x height v 0)
        (ap suc (len_app x height (statement_heights z) (0 ∷ statement_heights y) body second (statement_len z (length other + 1 + stop) (length other + 1 + again)) (ap suc (statement_len y stop again))))
    statement_len (While from v z) stop again =
        let body = statement_code z x 1 0 in
        let back = one (instr.GoBack (length (value_code v x) + 1 + length body)) in
        ap suc (len_app x height (value_heights v 0) (1 ∷ (statement_heights z ++ (0 ∷ []))) (value_code v x) (instr.SkipIfZero (length body + 1) ∷ (body ++ back)) (value_len x height v 0)
        (ap suc (len_app x height (statement_heights z) (0 ∷ []) body back (statement_len z 1 0) refl)))
    statement_len (Do from z v) stop again =
        let body = statement_code z x (length (value_code v x) + 2) 0 in
        let end = instr.SkipIfZero 1 ∷ one (instr.GoBack (length body + length (value_code v x) + 1)) in
        ap suc (len_app x height (statement_heights z) (value_heights v 0 ++ (1 ∷ (0 ∷ []))) body (value_code v x ++ end) (statement_len z (length (value_code v x) + 2) 0)
        (len_app x height (value_heights v 0) (1 ∷ (0 ∷ [])) (value_code v x) end (value_len x height v 0) refl))
    statement_len (For from first v last z) stop again =
        let final = last_code last x in
        let body = statement_code z x (length final + 1) 0 in
        let over = length body + length final + 1 in
        let test = test_code v x over in
        let back = one (instr.GoBack (length test + length body + length final)) in
        let loop = instr.Turn ∷ (test ++ (body ++ (final ++ back))) in
        len_app x height (statements_heights first) (0 ∷ (test_heights v ++ (statement_heights z ++ (test_heights last ++ (0 ∷ []))))) (statements_code first x (length loop + stop) (length loop + again)) loop (statements_len first (length loop + stop) (length loop + again))
        (ap suc (len_app x height (test_heights v) (statement_heights z ++ (test_heights last ++ (0 ∷ []))) test (body ++ (final ++ back)) (test_len v over)
        (len_app x height (statement_heights z) (test_heights last ++ (0 ∷ [])) body (final ++ back) (statement_len z (length final + 1) 0) (len_app x height (test_heights last) (0 ∷ []) final back (last_len last) refl))))
    statement_len Break stop again = refl
    statement_len Continue stop again = refl
    statement_len (Return from v) stop again = return_len v

    pub statements_len : (zs : Statements) (stop again : ℕ) → length (statements_heights zs) ≡ length (statements_code zs x stop again)
    statements_len NoStatements stop again = refl
    statements_len (MoreStatements z zs) stop again =
        let rest = statements_code zs x stop again in
        len_app x height (statement_heights z) (statements_heights zs) (statement_code z x (length rest + stop) (length rest + again)) rest (statement_len z (length rest + stop) (length rest + again)) (statements_len zs stop again)

  -- ---- the evaluation stack is empty before a statement

  mutual
    pub statement_lead : (z : Statement) (stop again at : ℕ) → Lies code.instrs at (statement_code z x stop again) → Stand height at (statement_heights z) → Leads code height (at + length (statement_code z x stop again)) 0 → Leads code height at 0
    statement_lead (Block zs) stop again at l s to = statements_lead zs stop again at l s to
    statement_lead (Evaluate v) stop again at l s to = value_begins x height v 0 at (split x (value_code v x) (one instr.Drop) at l).0 (split_stand x height (value_heights v 0) (1 ∷ []) at s).0
    statement_lead (Initialise place t v) stop again at l s to =
        value_begins x height v 0 at (split x (value_code v x) (one (instr.StoreLocal (kind_of t) (offset_of x.against place))) at l).0 (split_stand x height (value_heights v 0) (1 ∷ []) at s).0
    statement_lead (If v z) stop again at l s to =
        let body = statement_code z x stop again in
        value_begins x height v 0 at (split x (value_code v x) (instr.SkipIfZero (length body) ∷ body) at l).0 (split_stand x height (value_heights v 0) (1 ∷ statement_heights z) at s).0
    statement_lead (IfElse v z y) stop again at l s to =
        let other = statement_code y x stop again in
        let body = statement_code z x (length other + 1 + stop) (length other + 1 + again) in
        value_begins x height v 0 at (split x (value_code v x) (instr.SkipIfZero (length body + 1) ∷ (body ++ (instr.GoOn (length other) ∷ other))) at l).0 (split_stand x height (value_heights v 0) (1 ∷ (statement_heights z ++ (0 ∷ statement_heights y))) at s).0
    statement_lead (While from v z) stop again at l s to = leads_to x height at instr.Turn 0 l.0 s.0
    statement_lead (Do from z v) stop again at l s to = leads_to x height at instr.Turn 0 l.0 s.0
    statement_lead (For from first v last z) stop again at l s to =
        let final = last_code last x in
        let body = statement_code z x (length final + 1) 0 in
        let test = test_code v x (length body + length final + 1) in
        let loop = instr.Turn ∷ (test ++ (body ++ (final ++ one (instr.GoBack (length test + length body + length final))))) in
        let before = statements_code first x (length loop + stop) (length loop + again) in
        let c = split x before loop at l in
        let d = parted x height (statements_heights first) (0 ∷ (test_heights v ++ (statement_heights z ++ (test_heights last ++ (0 ∷ []))))) before at (statements_len first (length loop + stop) (length loop + again)) s in
        statements_lead first (length loop + stop) (length loop + again) at c.0 d.0 (leads_to x height (at + length before) instr.Turn 0 c.1.0 d.1.0)
    statement_lead Break stop again at l s to = leads_to x height at (instr.GoOn stop) 0 l.0 s.0
    statement_lead Continue stop again at l s to = leads_to x height at (instr.GoOn again) 0 l.0 s.0
    statement_lead (Return from v) stop again at l s to = return_lead v at l s

    pub statements_lead : (zs : Statements) (stop again at : ℕ) → Lies code.instrs at (statements_code zs x stop again) → Stand height at (statements_heights zs) → Leads code height (at + length (statements_code zs x stop again)) 0 → Leads code height at 0
    statements_lead NoStatements stop again at l s to = leads_at x height (at + 0) at 0 0 (omega arith) refl to
    statements_lead (MoreStatements z zs) stop again at l s to =
        let rest = statements_code zs x stop again in
        let first = statement_code z x (length rest + stop) (length rest + again) in
        let c = split x first rest at l in
        let d = parted x height (statement_heights z) (statements_heights zs) first at (statement_len z (length rest + stop) (length rest + again)) s in
        let e = length-append first rest in
        let m = at + length first in
        statement_lead z (length rest + stop) (length rest + again) at c.0 d.0 (statements_lead zs stop again m c.1 d.1 (leads_at x height (at + length (first ++ rest)) (m + length rest) 0 0 (omega arith) refl to))

  -- ---- the code of a statement

  -- two places that are the same
  there : (from to : ℕ) → from ≡ to → Leads code height from 0 → Leads code height to 0
  there from to e l = leads_at x height from to 0 0 e refl l

  mutual
    pub statement_kept : (z : Statement) (stop again at : ℕ) → StatementCalls z x → Lies code.instrs at (statement_code z x stop again) → Stand height at (statement_heights z) → statement_depth z ≤ 64
        → Leads code height (at + length (statement_code z x stop again)) 0 → Leads code height (at + length (statement_code z x stop again) + stop) 0 → Leads code height (at + length (statement_code z x stop again) + again) 0
        → Kept code height at (statement_code z x stop again)
    statement_kept (Block zs) stop again at u l s le to st ag = statements_kept zs stop again at u l s le to st ag
    statement_kept (Evaluate v) stop again at u l s le to st ag =
        taken instr.Drop v at u l s le (λ m e h. k_drop x height m 0 (h ∙ one_more) (omega arith) (there (at + length (statement_code (Evaluate v) x stop again)) (m + 1) (sym e) to))
    statement_kept (Initialise place t v) stop again at u l s le to st ag =
        let offset = offset_of x.against place in
        taken (instr.StoreLocal (kind_of t) offset) v at u l s le
        (λ m e h. k_local x height (kind_of t) offset m 0 (h ∙ one_more) (omega arith) (there (at + length (statement_code (Initialise place t v) x stop again)) (m + 1) (sym e) to))
    statement_kept (If v z) stop again at u l s le to st ag =
        let body = statement_code z x stop again in
        let rest = instr.SkipIfZero (length body) ∷ body in
        let c = split x (value_code v x) rest at l in
        let d = parted x height (value_heights v 0) (1 ∷ statement_heights z) (value_code v x) at (value_len x height v 0) s in
        let e = length-append (value_code v x) rest in
        let m = at + length (value_code v x) in
        let end = at + length (value_code v x ++ rest) in
        let last = there end (m + 1 + length body) (omega (arith, e)) to in
        joined x height (value_code v x) rest at (value_kept x height v 0 u.0 at c.0 d.0 (leads_to x height m (instr.SkipIfZero (length body)) (0 + 1) c.1.0 (d.1.0 ∙ one_more)) (omega arith)) (
          k_skip x height (length body) m 0 (m + 1 + length body) (d.1.0 ∙ one_more) (omega arith) refl (statement_lead z stop again (m + 1) c.1.1 d.1.1 last) last,
          statement_kept z stop again (m + 1) u.1 c.1.1 d.1.1 (omega arith) last (there (end + stop) (m + 1 + length body + stop) (omega (arith, e)) st) (there (end + again) (m + 1 + length body + again) (omega (arith, e)) ag),
        )
    statement_kept (IfElse v z y) stop again at u l s le to st ag =
        let other = statement_code y x stop again in
        let on = length other + 1 + stop in
        let anew = length other + 1 + again in
        let body = statement_code z x on anew in
        let second = instr.GoOn (length other) ∷ other in
        let rest = instr.SkipIfZero (length body + 1) ∷ (body ++ second) in
        let c = split x (value_code v x) rest at l in
        let d = parted x height (value_heights v 0) (1 ∷ (statement_heights z ++ (0 ∷ statement_heights y))) (value_code v x) at (value_len x height v 0) s in
        let m = at + length (value_code v x) in
        let c2 = split x body second (m + 1) c.1.1 in
        let d2 = parted x height (statement_heights z) (0 ∷ statement_heights y) body (m + 1) (statement_len z on anew) d.1.1 in
        let n = m + 1 + length body in
        let e = length-append (value_code v x) rest in
        let e2 = length-append body second in
        let end = at + length (value_code v x ++ rest) in
        let last = there end (n + 1 + length other) (omega (arith, e, e2)) to in
        let stopping = there (end + stop) (n + 1 + length other + stop) (omega (arith, e, e2)) st in
        let going = there (end + again) (n + 1 + length other + again) (omega (arith, e, e2)) ag in
        let leaving = leads_to x height n (instr.GoOn (length other)) 0 c2.1.0 d2.1.0 in
        joined x height (value_code v x) rest at (value_kept x height v 0 u.0 at c.0 d.0 (leads_to x height m (instr.SkipIfZero (length body + 1)) (0 + 1) c.1.0 (d.1.0 ∙ one_more)) (omega arith)) (
          k_skip x height (length body + 1) m 0 (n + 1) (d.1.0 ∙ one_more) (omega arith) (omega arith) (statement_lead z on anew (m + 1) c2.0 d2.0 leaving) (statement_lead y stop again (n + 1) c2.1.1 d2.1.1 last),
          joined x height body second (m + 1)
              (statement_kept z on anew (m + 1) u.1 c2.0 d2.0 (omega arith) leaving (there (n + 1 + length other + stop) (n + on) (omega arith) stopping) (there (n + 1 + length other + again) (n + anew) (omega arith) going))
              (k_on x height (length other) n 0 (n + 1 + length other) d2.1.0 (omega arith) refl last, statement_kept y stop again (n + 1) u.2 c2.1.1 d2.1.1 (omega arith) last stopping going),
        )
    statement_kept (While from v z) stop again at u l s le to st ag =
        let body = statement_code z x 1 0 in
        let by = length (value_code v x) + 1 + length body in
        let back = one (instr.GoBack by) in
        let rest = instr.SkipIfZero (length body + 1) ∷ (body ++ back) in
        let c = split x (value_code v x) rest (at + 1) l.1 in
        let d = parted x height (value_heights v 0) (1 ∷ (statement_heights z ++ (0 ∷ []))) (value_code v x) (at + 1) (value_len x height v 0) s.1 in
        let m = at + 1 + length (value_code v x) in
        let c2 = split x body back (m + 1) c.1.1 in
        let d2 = parted x height (statement_heights z) (0 ∷ []) body (m + 1) (statement_len z 1 0) d.1.1 in
        let n = m + 1 + length body in
        let e = length-append (value_code v x) rest in
        let e2 = length-append body back in
        let head = value_begins x height v 0 (at + 1) c.0 d.0 in
        let last = there (at + length (statement_code (While from v z) x stop again)) (n + 1) (omega (arith, e, e2)) to in
        let returning = leads_to x height n (instr.GoBack by) 0 c2.1.0 d2.1.0 in (
          k_turn at s.0 head,
          joined x height (value_code v x) rest (at + 1) (value_kept x height v 0 u.0 (at + 1) c.0 d.0 (leads_to x height m (instr.SkipIfZero (length body + 1)) (0 + 1) c.1.0 (d.1.0 ∙ one_more)) (omega arith)) (
            k_skip x height (length body + 1) m 0 (n + 1) (d.1.0 ∙ one_more) (omega arith) (omega arith) (statement_lead z 1 0 (m + 1) c2.0 d2.0 returning) last,
            joined x height body back (m + 1) (statement_kept z 1 0 (m + 1) u.1 c2.0 d2.0 (omega arith) returning last (there n (n + 0) (omega arith) returning)) (k_back by n at d2.1.0 (omega arith) l.0 head, tt),
          ),
        )
    statement_kept (Do from z v) stop again at u l s le to st ag =
        let over = length (value_code v x) + 2 in
        let body = statement_code z x over 0 in
        let by = length body + length (value_code v x) + 1 in
        let end = instr.SkipIfZero 1 ∷ one (instr.GoBack by) in
        let rest = value_code v x ++ end in
        let c = split x body rest (at + 1) l.1 in
        let d = parted x height (statement_heights z) (value_heights v 0 ++ (1 ∷ (0 ∷ []))) body (at + 1) (statement_len z over 0) s.1 in
        let m = at + 1 + length body in
        let c2 = split x (value_code v x) end m c.1 in
        let d2 = parted x height (value_heights v 0) (1 ∷ (0 ∷ [])) (value_code v x) m (value_len x height v 0) d.1 in
        let n = m + length (value_code v x) in
        let e = length-append body rest in
        let e2 = length-append (value_code v x) end in
        let testing = value_begins x height v 0 m c2.0 d2.0 in
        let head = statement_lead z over 0 (at + 1) c.0 d.0 testing in
        let last = there (at + length (statement_code (Do from z v) x stop again)) (n + 1 + 1) (omega (arith, e, e2)) to in (
          k_turn at s.0 head,
          joined x height body rest (at + 1) (statement_kept z over 0 (at + 1) u.0 c.0 d.0 (omega arith) testing (there (n + 1 + 1) (m + over) (omega arith) last) (there m (m + 0) (omega arith) testing))
              (joined x height (value_code v x) end m (value_kept x height v 0 u.1 m c2.0 d2.0 (leads_to x height n (instr.SkipIfZero 1) (0 + 1) c2.1.0 (d2.1.0 ∙ one_more)) (omega arith))
              (k_skip x height 1 n 0 (n + 1 + 1) (d2.1.0 ∙ one_more) (omega arith) refl (leads_to x height (n + 1) (instr.GoBack by) 0 c2.1.1.0 d2.1.1.0) last, (k_back by (n + 1) at d2.1.1.0 (omega arith) l.0 head, tt))),
        )
    statement_kept (For from first v last z) stop again at u l s le to st ag =
        let final = last_code last x in
        let leave = length final + 1 in
        let body = statement_code z x leave 0 in
        let over = length body + length final + 1 in
        let test = test_code v x over in
        let by = length test + length body + length final in
        let back = one (instr.GoBack by) in
        let tail = final ++ back in
        let round = test ++ (body ++ tail) in
        let loop = instr.Turn ∷ round in
        let on = length loop + stop in
        let anew = length loop + again in
        let before = statements_code first x on anew in
        let c = split x before loop at l in
        let d = parted x height (statements_heights first) (0 ∷ (test_heights v ++ (statement_heights z ++ (test_heights last ++ (0 ∷ []))))) before at (statements_len first on anew) s in
        let h = at + length before in
        let c2 = split x test (body ++ tail) (h + 1) c.1.1 in
        let d2 = parted x height (test_heights v) (statement_heights z ++ (test_heights last ++ (0 ∷ []))) test (h + 1) (test_len v over) d.1.1 in
        let m = h + 1 + length test in
        let c3 = split x body tail m c2.1 in
        let d3 = parted x height (statement_heights z) (test_heights last ++ (0 ∷ [])) body m (statement_len z leave 0) d2.1 in
        let n = m + length body in
        let c4 = split x final back n c3.1 in
        let d4 = parted x height (test_heights last) (0 ∷ []) final n (last_len last) d3.1 in
        let q = n + length final in
        let e = length-append before loop in
        let e2 = length-append test (body ++ tail) in
        let e3 = length-append body tail in
        let e4 = length-append final back in
        let end = at + length (before ++ loop) in
        let done = there end (q + 1) (omega (arith, e, e2, e3, e4)) to in
        let returning = leads_to x height q (instr.GoBack by) 0 c4.1.0 d4.1.0 in
        let ending = last_lead last n c4.0 d4.0 returning in
        let inside = statement_lead z leave 0 m c3.0 d3.0 ending in
        let head = test_lead v over (h + 1) c2.0 d2.0 inside in
        joined x height before loop at
        (statements_kept first on anew at u.0 c.0 d.0 (omega arith) (leads_to x height h instr.Turn 0 c.1.0 d.1.0) (there (end + stop) (h + on) (omega (arith, e)) st) (there (end + again) (h + anew) (omega (arith, e)) ag)) (
          k_turn h d.1.0 head,
          joined x height test (body ++ tail) (h + 1) (test_kept v over (h + 1) u.1 c2.0 d2.0 (omega arith) inside (there (q + 1) (h + 1 + length test + over) (omega arith) done))
              (joined x height body tail m (statement_kept z leave 0 m u.3 c3.0 d3.0 (omega arith) ending (there (q + 1) (n + leave) (omega arith) done) (there n (n + 0) (omega arith) ending))
              (joined x height final back n (last_kept last n u.2 c4.0 d4.0 (omega arith) returning) (k_back by q h d4.1.0 (omega arith) c.1.0 head, tt))),
        )
    statement_kept Break stop again at u l s le to st ag = (k_on x height stop at 0 (at + 1 + stop) s.0 (omega arith) refl st, tt)
    statement_kept Continue stop again at u l s le to st ag = (k_on x height again at 0 (at + 1 + again) s.0 (omega arith) refl ag, tt)
    statement_kept (Return from v) stop again at u l s le to st ag = return_kept v at u l s (omega arith)

    pub statements_kept : (zs : Statements) (stop again at : ℕ) → StatementsCall zs x → Lies code.instrs at (statements_code zs x stop again) → Stand height at (statements_heights zs) → statements_depth zs ≤ 64
        → Leads code height (at + length (statements_code zs x stop again)) 0 → Leads code height (at + length (statements_code zs x stop again) + stop) 0 → Leads code height (at + length (statements_code zs x stop again) + again) 0
        → Kept code height at (statements_code zs x stop again)
    statements_kept NoStatements stop again at u l s le to st ag = tt
    statements_kept (MoreStatements z zs) stop again at u l s le to st ag =
        let rest = statements_code zs x stop again in
        let on = length rest + stop in
        let anew = length rest + again in
        let first = statement_code z x on anew in
        let c = split x first rest at l in
        let d = parted x height (statement_heights z) (statements_heights zs) first at (statement_len z on anew) s in
        let e = length-append first rest in
        let m = at + length first in
        let end = at + length (first ++ rest) in
        let last = there end (m + length rest) (omega (arith, e)) to in
        let stopping = there (end + stop) (m + length rest + stop) (omega (arith, e)) st in
        let going = there (end + again) (m + length rest + again) (omega (arith, e)) ag in
        joined x height first rest at
        (statement_kept z on anew at u.0 c.0 d.0 (omega arith) (statements_lead zs stop again m c.1 d.1 last) (there (m + length rest + stop) (m + on) (omega arith) stopping) (there (m + length rest + again) (m + anew) (omega arith) going))
        (statements_kept zs stop again m u.1 c.1 d.1 (omega arith) last stopping going)

  -- ---- the code of a body

  -- begins with no values, and keeps what valid code keeps
  pub body_kept : (b : Body) (at : ℕ) → StatementCalls b.statements x → Lies code.instrs at (body_code b x) → Stand height at (body_heights b) → statement_depth b.statements ≤ 64 → Leads code height at 0 × Kept code height at (body_code b x)
  body_kept b at u l s le =
      let end = instr.Push (Number 0) ∷ one instr.Finish in
      let first = statement_code b.statements x 0 0 in
      let c = split x first end at l in
      let d = parted x height (statement_heights b.statements) (0 ∷ (1 ∷ [])) first at (statement_len b.statements 0 0) s in
      let m = at + length first in
      let to = leads_to x height m (instr.Push (Number 0)) 0 c.1.0 d.1.0 in (
        statement_lead b.statements 0 0 at c.0 d.0 to,
        joined x height first end at (statement_kept b.statements 0 0 at u c.0 d.0 le to (there m (m + 0) (omega arith) to) (there m (m + 0) (omega arith) to)) (return_kept NoValue m tt c.1 d.1 (omega arith)),
      )
