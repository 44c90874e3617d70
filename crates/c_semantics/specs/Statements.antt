-- The marks of statements (C11 6.8).
use Rattle.std.specs.Prelude.{ℕ, zero, suc, length, None}
use Rattle.marks.specs.declared.side.Side.{Side}
use Rattle.marks.specs.Wants.{Turns}
use Rattle.c_code.specs.MarkLists.{Open}
use Rattle.c_code.specs.Values.{at_zero}
use Rattle.c_types_rules.specs.TypedTree.{MaybeValue, NoValue, OneValue, Statement, Statements, Block, Evaluate, Initialise, If, IfElse, While, Do, For, Break, Continue, Return, NoStatements, MoreStatements}
use Rattle.c_semantics.specs.Reading.{Marks, ask}
use Rattle.c_semantics.specs.Values.{Here, value, store, local_address}

-- what follows a statement: at its end, at `break`, at `continue`, and at `return` with a result
pub record Exits : Type 0 where
  pub next : Marks
  pub stop : Marks
  pub again : Marks
  pub give : ℕ → Marks

-- a loop has a Turn in each round, so no more rounds than there are marks
abbrev pub rounds : ℕ → Side → (Marks → Marks) → Marks
rounds zero side round = λ ms. Open
rounds (suc n) side round = ask side Turns (λ x. round (rounds n side round))

abbrev pub looping : Side → (Marks → Marks) → Marks
looping side round = λ ms. rounds (suc (length ms)) side round ms

abbrev pub maybe : MaybeValue → Here → (ℕ → Marks) → (none : Marks) → Marks
maybe NoValue h go none = none
maybe (OneValue v) h go none = value v h go

-- the exits of a loop's body, where the loop goes on with `again`
abbrev pub within : Exits → (again : Marks) → Exits
within x again = record { next = again; stop = x.next; again = again; give = x.give }

abbrev mutual
  pub statement : Statement → Here → Exits → Marks
  statement (Block ss) h x = statements ss h x
  statement (Evaluate v) h x = value v h (λ n. x.next)
  statement (Initialise place t v) h x = value v h (λ n. store h None t (local_address h place) n x.next)
  statement (If v s) h x = value v h (λ n. at_zero n x.next (statement s h x))
  statement (IfElse v s z) h x = value v h (λ n. at_zero n (statement z h x) (statement s h x))
  statement (While from v s) h x = looping h.side (λ again.
      value v h (λ n. at_zero n x.next (statement s h (within x again))))
  statement (Do from s v) h x = looping h.side (λ again.
      statement s h (within x (value v h (λ n. at_zero n x.next again))))
  statement (For from first v last s) h x =
      statements first h (record x {
        next = looping h.side (λ again.
            let body = statement s h (within x (maybe last h (λ n. again) again)) in
            maybe v h (λ n. at_zero n x.next body) body);
      })
  statement Break h x = x.stop
  statement Continue h x = x.again
  statement (Return from v) h x = maybe v h x.give (x.give 0)

  pub statements : Statements → Here → Exits → Marks
  statements NoStatements h x = x.next
  statements (MoreStatements s ss) h x = statement s h (record x { next = statements ss h x })
