-- What the code of stages answers, one stage after the other.
use Rattle.std.proofs.Common.{◌≡◌, ◌≤◌, ℕ, List, Option, Result, Ok, Err, sym, ◌∙◌, arith, inl, inr, subst}
use Rattle.std.specs.Result.{IsErrAnd}
use Rattle.r2_base.specs.Causes.{Rose}
use Rattle.r2_base.specs.Seen.{Store, OnlyReads}
use Rattle.r2_cli_outcome.specs.declared.plan.Plan.{Plan}
use Rattle.r2_cli_outcome.specs.declared.plan.End.{End}
use Rattle.r2_cli_outcome.specs.declared.plan.End.TheVariants.{Planned, ReadFault, NoMemory}
use Rattle.r2_cli_outcome.specs.Outcome.{Outcome}
use Rattle.r2_cli_outcome.specs.Reading.{Sees}
use Rattle.r2_cli_outcome.specs.Stages.{Answer, Stage, Then, passed, ended, on, stop, Comes, done, refused}
use Rattle.r2_cli_outcome.specs.Plans as plan
use Rattle.r2_cli_outcome.specs.Plans.{Answers, gives, ends, EndsAs, IsPlanned, IsEnd, outcome_of}

-- what is seen later was there before
pub sees_before : (a b : Store) → OnlyReads a b → (n : List ℕ) (x : Option (List ℕ)) → Sees b n x → Sees a n x
sees_before a b r n x s = λ told. s (r.told told) ∙ r.same told n

pub reads_then : (a b c : Store) → OnlyReads a b → OnlyReads b c → OnlyReads a c
reads_then a b c r s = record {
  told = λ t. s.told (r.told t);
  same = λ t n. s.same (r.told t) n ∙ r.same t n;
  write_faults = s.write_faults ∙ r.write_faults;
  later = omega (arith, r.later, s.later);
}

pub rose_from : (a b c : ℕ) → a ≤ b → Rose b c → Rose a c
rose_from a b c le (inl h) = inl (omega arith)
rose_from a b c le (inr h) = inr h

pub rose_to : (a b c : ℕ) → Rose a b → b ≤ c → Rose a c
rose_to a b c (inl h) le = inl (omega arith)
rose_to a b c (inr h) le = inr (omega arith)

-- what a stage answers, as an answer of the stages that it begins

pub stopped : {A B : Type 0} (stage : Stage A) (next : A → Stage B) (x y z : ℕ) (end : End) → y ≤ z → EndsAs stage x y end → EndsAs (Then stage next) x z end
stopped stage next x y z (Planned plan) le h = stop h
stopped stage next x y z ReadFault le h = rose_to x y z h le
stopped stage next x y z NoMemory le h = tt

on_ends : {A B : Type 0} (stage : Stage A) (next : A → Stage B) (a : A) (x y z : ℕ) (end : End) → x ≤ y → stage (passed a) → EndsAs (next a) y z end → EndsAs (Then stage next) x z end
on_ends stage next a x y z (Planned plan) le s h = on s h
on_ends stage next a x y z ReadFault le s h = rose_from x y z le h
on_ends stage next a x y z NoMemory le s h = tt

on_value : {T U A B : Type 0} (view : T → A) (see : U → B) (stage : Stage A) (next : A → Stage B) (v : T) (x y z : ℕ) (result : Result U End) → x ≤ y
    → stage (passed (view v)) → Answers see (next (view v)) y z result → Answers see (Then stage next) x z result
on_value view see stage next v x y z (Ok u) le s (gives h) = gives (on s h)
on_value view see stage next v x y z (Err e) le s (ends h) = ends (on_ends stage next (view v) x y z e le s h)

pub value_of : {T A : Type 0} (view : T → A) (stage : Stage A) (x y : ℕ) (v : T) → Answers view stage x y (Ok v) → stage (passed (view v))
value_of view stage x y v (gives h) = h

pub end_of : {T A : Type 0} (view : T → A) (stage : Stage A) (x y : ℕ) (e : End) → Answers view stage x y (Err e) → EndsAs stage x y e
end_of view stage x y e (ends h) = h

pub went_on : {T U A B : Type 0} (view : T → A) (see : U → B) (stage : Stage A) (next : A → Stage B) (v : T) (x y z : ℕ) (result : Result U End) → x ≤ y
    → Answers view stage x y (Ok v) → Answers see (next (view v)) y z result → Answers see (Then stage next) x z result
went_on view see stage next v x y z result le s h = on_value view see stage next v x y z result le (value_of view stage x y v s) h

nothing_ends : {B : Type 0} (stage : Stage B) (x y : ℕ) (end : End) → EndsAs stage 0 0 end → EndsAs stage x y end
nothing_ends stage x y (Planned plan) h = h
nothing_ends stage x y ReadFault (inl h) = absurd (omega arith)
nothing_ends stage x y ReadFault (inr h) = absurd (omega arith)
nothing_ends stage x y NoMemory h = tt

pub read_nothing : {U B : Type 0} (see : U → B) (stage : Stage B) (x y : ℕ) (result : Result U End) → Answers see stage 0 0 result → Answers see stage x y result
read_nothing see stage x y (Ok u) (gives h) = gives h
read_nothing see stage x y (Err e) (ends h) = ends (nothing_ends stage x y e h)

pub is_refused : {A : Type 0} (stage : Stage A) (o : Outcome) (x y : ℕ) (end : End) → stage (ended o) → IsEnd o end → EndsAs stage x y end
is_refused stage o x y (Planned plan) s e = subst (λ (p : Outcome). stage (ended p)) (sym e) s
is_refused stage o x y ReadFault s e = absurd e
is_refused stage o x y NoMemory s e = tt

-- the same of an end that `?` hands on

pub handed_on : {T A U B : Type 0} (view : T → A) (see : U → B) (stage : Stage A) (next : A → Stage B) (x y z : ℕ) (end : End) (result : Result U End) → y ≤ z
    → IsErrAnd result (λ e. e ≡ end) → Answers view stage x y (Err end) → Answers see (Then stage next) x z result
handed_on view see stage next x y z end (Ok u) le is h = absurd is
handed_on view see stage next x y z end (Err e) le is h = ends (subst (λ (k : End). EndsAs (Then stage next) x z k) (sym is) (stopped stage next x y z end le (end_of view stage x y end h)))

pub out_of_memory : {U B : Type 0} (see : U → B) (stage : Stage B) (x y : ℕ) (result : Result U End) → IsErrAnd result (λ e. e ≡ NoMemory) → Answers see stage x y result
out_of_memory see stage x y (Ok u) is = absurd is
out_of_memory see stage x y (Err e) is = ends (subst (λ (k : End). EndsAs stage x y k) (sym is) tt)

-- and of one in the same stage

pub ends_with : {U B : Type 0} (see : U → B) (stage : Stage B) (x y : ℕ) (end : End) (result : Result U End) → IsErrAnd result (λ e. e ≡ end) → EndsAs stage x y end → Answers see stage x y result
ends_with see stage x y end (Ok u) is h = absurd is
ends_with see stage x y end (Err e) is h = ends (subst (λ (k : End). EndsAs stage x y k) (sym is) h)

-- the same answers of a stage that allows more

pub ends_more : {A : Type 0} (s t : Answer A → Type 0) (x y : ℕ) (end : End) → ((ans : Answer A) → s ans → t ans) → EndsAs s x y end → EndsAs t x y end
ends_more s t x y (Planned plan) f h = f (ended (outcome_of plan)) h
ends_more s t x y ReadFault f h = h
ends_more s t x y NoMemory f h = tt

pub answers_more : {T A : Type 0} (view : T → A) (s t : Answer A → Type 0) (x y : ℕ) (result : Result T End) → ((ans : Answer A) → s ans → t ans) → Answers view s x y result → Answers view t x y result
answers_more view s t x y (Ok v) f (gives h) = gives (f (passed (view v)) h)
answers_more view s t x y (Err e) f (ends h) = ends (ends_more s t x y e f h)

-- the plan of a command

plans_end : (command : Answer Outcome → Type 0) (answers : Outcome → Type 0) (x y : ℕ) (end : End) → ((o : Outcome) → Comes command o → answers o) → EndsAs command x y end → IsPlanned answers x y (Err end)
plans_end command answers x y (Planned q) f h = plan.refused (f (outcome_of q) (refused h))
plans_end command answers x y ReadFault f h = plan.unread h
plans_end command answers x y NoMemory f h = plan.no_memory

pub plans : (command : Answer Outcome → Type 0) (answers : Outcome → Type 0) (x y : ℕ) (result : Result Plan End) → ((o : Outcome) → Comes command o → answers o) → Answers outcome_of command x y result → IsPlanned answers x y result
plans command answers x y (Ok q) f (gives h) = plan.whole (f (outcome_of q) (done h))
plans command answers x y (Err e) f (ends h) = plans_end command answers x y e f h

pub plans_refusal : (answers : Outcome → Type 0) (o : Outcome) (x y : ℕ) (end : End) → answers o → IsEnd o end → IsPlanned answers x y (Err end)
plans_refusal answers o x y (Planned q) is e = plan.refused (subst answers (sym e) is)
plans_refusal answers o x y ReadFault is e = absurd e
plans_refusal answers o x y NoMemory is e = plan.no_memory

-- what a plan is

pub of_whole : (answers : Outcome → Type 0) (x y : ℕ) (p : Plan) → IsPlanned answers x y (Ok p) → answers (outcome_of p)
of_whole answers x y p (plan.whole h) = h

refused_plan : (answers : Outcome → Type 0) (x y : ℕ) (p : Plan) → IsPlanned answers x y (Err (Planned p)) → answers (outcome_of p)
refused_plan answers x y p (plan.refused h) = h

pub of_refused : (answers : Outcome → Type 0) (x y : ℕ) (p : Plan) (e : End) → e ≡ Planned p → IsPlanned answers x y (Err e) → answers (outcome_of p)
of_refused answers x y p e is h = refused_plan answers x y p (subst (λ (k : End). IsPlanned answers x y (Err k)) is h)

unread_rose : (answers : Outcome → Type 0) (x y : ℕ) → IsPlanned answers x y (Err ReadFault) → Rose x y
unread_rose answers x y (plan.unread h) = h

pub of_unread : (answers : Outcome → Type 0) (x y : ℕ) (e : End) → e ≡ ReadFault → IsPlanned answers x y (Err e) → Rose x y
of_unread answers x y e is h = unread_rose answers x y (subst (λ (k : End). IsPlanned answers x y (Err k)) is h)
