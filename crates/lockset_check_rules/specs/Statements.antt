-- What is found in statements.
use Rattle.std.specs.Prelude.{ℕ, false, if◌then◌else◌, List, [], ◌∷◌, ◌++◌, Option, Some, None}
use Rattle.c_types_rules.specs.TypedTree.{MaybeValue, Statement, Statements, Block, Evaluate, Initialise, If, IfElse, While, Do, For, Break, Continue, Return, NoStatements, MoreStatements}
use Rattle.lockset_check_rules.specs.declared.finding.LockFinding.{LockFinding}
use Rattle.lockset_check_rules.specs.declared.finding.LockFinding.TheVariants.{LoopLocks, ReturnLocks}
use Rattle.lockset_check_rules.specs.Mutexes.{Locks, same}
use Rattle.lockset_check_rules.specs.Guards.{Guarded}
use Rattle.lockset_check_rules.specs.After.{maybe_after, statement_after, statements_after, value_after}
use Rattle.lockset_check_rules.specs.Values.{maybe_found, value_found}

-- a loop: the offset of its first word, and what is held at its start
pub record Loop : Type 0 where
  pub from : ℕ
  pub start : Locks

-- where a statement stands: what is held at the start of its function, and in which loop
pub record Within : Type 0 where
  pub start : Locks
  pub loop : Option Loop

-- the same, in a loop of its own
abbrev pub inside : Within → (from : ℕ) → Locks → Within
inside w from s = record w { loop = Some (record { from = from; start = s }) }

-- what is held at the end of a part of a loop, or where the loop is left, differs from what is held at its start
abbrev pub loop_differs : Loop → Locks → List LockFinding
loop_differs l s = if same s l.start then [] else LoopLocks l.from ∷ []

-- the same of a place in a loop, if it is in one
abbrev pub loop_differs_in : Within → Locks → List LockFinding
loop_differs_in w s = elim w.loop [ Some l ↦ loop_differs l s | None ↦ [] ]

-- the same at an end, where it is reached
abbrev pub loop_differs_at : Within → Option Locks → List LockFinding
loop_differs_at w (Some s) = loop_differs_in w s
loop_differs_at w None = []

-- what is held where a function is left, at this offset, differs from what is held at its start
abbrev pub return_differs : Within → (from : ℕ) → Locks → List LockFinding
return_differs w from s = if same s w.start then [] else ReturnLocks from ∷ []

-- the same at an end, where it is reached
abbrev pub return_differs_at : Within → (from : ℕ) → Option Locks → List LockFinding
return_differs_at w from (Some s) = return_differs w from s
return_differs_at w from None = []

-- a condition or last part of a loop, which begins with what is held at the loop's start
abbrev pub part_found : Guarded → Within → MaybeValue → Locks → List LockFinding
part_found r w v s = maybe_found r v s ++ loop_differs_in w (maybe_after v s)

abbrev mutual
  pub statement_found : Guarded → Within → Statement → Locks → List LockFinding
  statement_found r w (Block ss) s = statements_found r w ss s
  statement_found r w (Evaluate v) s = value_found r false v s
  statement_found r w (Initialise place t v) s = value_found r false v s
  statement_found r w (If v a) s = value_found r false v s ++ statement_found r w a (value_after v s)
  statement_found r w (IfElse v a b) s =
      let t = value_after v s in
      value_found r false v s ++ (statement_found r w a t ++ statement_found r w b t)
  statement_found r w (While from v a) s =
      let within = inside w from s in
      (value_found r false v s ++ loop_differs_in within (value_after v s)) ++
      (statement_found r within a s ++ loop_differs_at within (statement_after a s))
  statement_found r w (Do from a v) s =
      let within = inside w from s in
      (statement_found r within a s ++ loop_differs_at within (statement_after a s)) ++
      (value_found r false v s ++ loop_differs_in within (value_after v s))
  statement_found r w (For from first v last a) s =
      statements_found r w first s ++ elim (statements_after first s) [
        | Some t ↦
            let within = inside w from t in
            part_found r within v t ++
            ((statement_found r within a t ++ loop_differs_at within (statement_after a t)) ++
            part_found r within last t)
        | None ↦ []
      ]
  statement_found r w Break s = loop_differs_in w s
  statement_found r w Continue s = loop_differs_in w s
  statement_found r w (Return from v) s = maybe_found r v s ++ return_differs w from (maybe_after v s)

  -- what stands after a statement that doesn't go on isn't looked at
  pub statements_found : Guarded → Within → Statements → Locks → List LockFinding
  statements_found r w NoStatements s = []
  statements_found r w (MoreStatements a rest) s =
      statement_found r w a s ++ elim (statement_after a s) [
        | Some t ↦ statements_found r w rest t
        | None ↦ []
      ]
