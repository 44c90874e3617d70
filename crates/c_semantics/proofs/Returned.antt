-- What follows a function may ask for a value of its result's type, where each `return` converts to it.
use Rattle.std.proofs.Common.{◌≡◌, ℕ, true, cond, Option, Some, None, refl, sym, ap, ◌∙◌}
use Rattle.marks.specs.Wants.{Leaves}
use Rattle.c_code.specs.declared.shape.Shape.{Shape}
use Rattle.c_code.specs.Values.{at_zero, is_value}
use Rattle.c_types_model.specs.Types.{CType}
use Rattle.c_types_rules.specs.TypedTree.{Body, Value, Convert, MaybeValue, NoValue, OneValue, Statement, Statements, Block, Evaluate, Initialise, If, IfElse, While, Do, For, Break, Continue, Return, NoStatements, MoreStatements}
use Rattle.c_types_rules.specs.Limits.{frame_size}
use Rattle.c_types_rules.specs.Sources.{result_of}
use Rattle.c_semantics.specs.Reading.{Marks, wrong, ask}
use Rattle.c_semantics.specs.Context.{Source, body_of, result_shape, shape_of, type_of}
use Rattle.c_semantics.specs.Values.{Here, converted_to, value}
use Rattle.c_semantics.specs.Statements.{Exits, looping, maybe, statement, statements, within}
use Rattle.c_semantics.specs.Calls.{making}
use Rattle.c_semantics.specs.Returned.{IsConverted, IsReturned, Converts, AllConvert, ResultsAreConverted}
use Rattle.c_semantics.proofs.Converted.{converted_is_value, zero_is_value}

-- what follows the end of a function gives the same for values of the type
pub record SameGiven (t : CType) (give other : ℕ → Marks) : Type 0 where
  pub zero : give 0 ≡ other 0
  pub of : (n : ℕ) → is_value (shape_of t) n ≡ true → give n ≡ other n

-- the exits with another way out of the function
abbrev with_give : (ℕ → Marks) → Exits → Exits
with_give give x = record x { give = give }

module _ (t : CType) (h : Here) (give other : ℕ → Marks) (same : SameGiven t give other) where
  given_same : (v : Value) → IsConverted t v → value v h give ≡ value v h other
  given_same (Convert u v) (is, scalar) = λ i. value v h (λ n. at u n is i)
    where
      at : (u : CType) (n : ℕ) → u ≡ t → give (converted_to u n) ≡ other (converted_to u n)
      at u n e = same.of (converted_to u n) (ap (λ c. is_value (shape_of t) (converted_to c n)) e ∙ converted_is_value t n scalar)
  given_same v c = absurd c

  maybe_same : (v : MaybeValue) → IsReturned t v → maybe v h give (give 0) ≡ maybe v h other (other 0)
  maybe_same NoValue c = same.zero
  maybe_same (OneValue v) c = given_same v c

  mutual
    statement_same : (s : Statement) (x : Exits) → Converts t s → statement s h (with_give give x) ≡ statement s h (with_give other x)
    statement_same (Block ss) x c = statements_same ss x c
    statement_same (Evaluate v) x c = refl
    statement_same (Initialise place u v) x c = refl
    statement_same (If v s) x c = λ i. value v h (λ n. at_zero n x.next (statement_same s x c i))
    statement_same (IfElse v s z) x c = λ i. value v h (λ n. at_zero n (statement_same z x c.1 i) (statement_same s x c.0 i))
    statement_same (While from v s) x c = λ i. looping h.side (λ again. value v h (λ n. at_zero n x.next (statement_same s (within x again) c i)))
    statement_same (Do from s v) x c = λ i. looping h.side (λ again. statement_same s (within x (value v h (λ n. at_zero n x.next again))) c i)
    statement_same (For from first v last s) x c =
        let round : Exits → Marks → Marks = λ z again. let body = statement s h (within z (maybe last h (λ n. again) again)) in maybe v h (λ n. at_zero n z.next body) body in
        let rounds : (again : Marks) → round (with_give give x) again ≡ round (with_give other x) again =
        λ again. ap (λ body. maybe v h (λ n. at_zero n x.next body) body) (statement_same s (within x (maybe last h (λ n. again) again)) c.1) in
        let looped : looping h.side (round (with_give give x)) ≡ looping h.side (round (with_give other x)) = λ i. looping h.side (λ again. rounds again i) in
        statements_same first (record x { next = looping h.side (round (with_give give x)) }) c.0 ∙ ap (λ p. statements first h (record x { next = p; give = other })) looped
    statement_same Break x c = refl
    statement_same Continue x c = refl
    statement_same (Return from v) x c = maybe_same v c

    statements_same : (ss : Statements) (x : Exits) → AllConvert t ss → statements ss h (with_give give x) ≡ statements ss h (with_give other x)
    statements_same NoStatements x c = refl
    statements_same (MoreStatements s ss) x c =
        statement_same s (record x { next = statements ss h (with_give give x) }) c.0 ∙ ap (λ p. statement s h (record x { next = p; give = other })) (statements_same ss x c.1)

-- a value of another type is nothing that follows
abbrev pub restricted : Shape → (ℕ → Marks) → ℕ → Marks
restricted shape go v = cond (is_value shape v) (go v) wrong

module _ (s : Source) (h : Here) (t : CType) (go : ℕ → Marks) where
  leaving : Body → (ℕ → Marks) → ℕ → Marks
  leaving b p v = ask h.side (Leaves h.base (frame_size s.program b.locals)) (λ x. p v)

  leaving_same : (b : Body) → SameGiven t (leaving b go) (leaving b (restricted (shape_of t) go))
  unfolding leaving
  leaving_same b =
      let at : (v : ℕ) → is_value (shape_of t) v ≡ true → leaving b go v ≡ leaving b (restricted (shape_of t) go) v =
      λ v e. ap (λ p. ask h.side (Leaves h.base (frame_size s.program b.locals)) (λ x. p)) (sym (ap (λ t. cond t (go v) wrong) e)) in
      record { zero = at 0 (zero_is_value (shape_of t)); of = at }

  -- what a body makes, where only values of the type are given
  pub making_same : (b : Body) → Converts t b.statements → making s (Some b) h go ≡ making s (Some b) h (restricted (shape_of t) go)
  unfolding leaving
  making_same b c =
      let give = leaving b go in
      let other = leaving b (restricted (shape_of t) go) in
      let same = leaving_same b in
      let ends : (ℕ → Marks) → Marks → Exits = λ g p. record { next = p; stop = p; again = p; give = g } in
      statement_same t h give other same b.statements (ends give (give 0)) c ∙ ap (λ p. statement b.statements h (ends other p)) same.zero

pub made_same : (s : Source) (f : ℕ) (h : Here) (go : ℕ → Marks) → ResultsAreConverted s → making s (body_of s f) h go ≡ making s (body_of s f) h (restricted (result_shape s f) go)
made_same s f h go r = by (body_of s f) refl
  where
    by : (o : Option Body) → body_of s f ≡ o → making s o h go ≡ making s o h (restricted (result_shape s f) go)
    by None e = refl
    by (Some b) e = making_same s h (result_of (type_of s f)) go b (r f b e)
