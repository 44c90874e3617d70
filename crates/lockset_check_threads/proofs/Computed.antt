-- Small sources and marks of their threads, computed.
use Rattle.std.proofs.Common.{◌≡◌, ℕ, zero, suc, ◌-◌, pos, Bool, true, false, cond, eqb, ltb, List, [], ◌∷◌, Option, Some, None, refl, sym, ap, ◌∙◌, subst, arith}
use Rattle.std.specs.Prelude.{slice_get}
use Rattle.std.specs.List.{All}
use Rattle.std.proofs.lemmas.Bool.{eqb-true}
use Rattle.std.proofs.lemmas.Int.{ints}
use Rattle.std.proofs.lemmas.List.Elements.{All-cons, All-nil}
use Rattle.r2_num.specs.declared.kinds.IntKind.TheVariants.{I32}
use Rattle.r2_num.specs.Kinds.{IsValue}
use Rattle.marks.specs.Places.{builtin_count}
use Rattle.c_code.specs.MarkLists.{reply}
use Rattle.marks.specs.Wants.{answer_to}
use Rattle.c_types_rules.specs.TypedTree as typed
use Rattle.c_types_rules.specs.TypedTree.{Statement}
use Rattle.c_types_rules.specs.Sources.{Function}
use Rattle.c_semantics.specs.Context.{body_of, body_or, is_face}
use Rattle.lockset_check_threads.specs.Typed.{InStatement, IsConstantCall, IsPlainCall}
use Rattle.lockset_check_threads.specs.Examples.{MutexesMustBeFree, PointersMustHoldNothing, SomeLocksAreKept, first_holds, lent, locked, locked_below, none_hold, source_of}

-- the body, if there is one, is as this says
abbrev Sort : Type 1
Sort = Statement → Type 0

abbrev BodyIs : Sort → Option typed.Body → Type 0
BodyIs P (Some b) = P b.statements
BodyIs P None = Unit {0}

abbrev AllAre : Sort → List Function → Type 0
AllAre P [] = Unit {0}
AllAre P (f ∷ fs) = BodyIs P f.body × AllAre P fs

body_is : (P : Sort) (o : Option typed.Body) (b : typed.Body) → BodyIs P o → o ≡ Some b → P b.statements
body_is P (Some c) b h e = let same : c ≡ b = cc in subst (λ (x : typed.Body). P x.statements) same h
body_is P None b h e = absurd cc

one_is : (P : Sort) (fs : List Function) (place : ℕ) (b : typed.Body) → AllAre P fs → body_or (slice_get fs place) ≡ Some b → P b.statements
one_is P [] place b h e = absurd cc
one_is P (f ∷ fs) zero b h e = body_is P f.body b h.0 e
one_is P (f ∷ fs) (suc place) b h e = one_is P fs place b h.1 e

bodies_are : (P : Sort) (fs : List Function) (faces : List Bool) → AllAre P fs → (f : ℕ) (b : typed.Body) → body_of (source_of fs faces) f ≡ Some b → P b.statements
bodies_are P fs faces h f b e = by (ltb f builtin_count) e
  where
    by : (low : Bool) → body_or (cond low None (slice_get fs (f - builtin_count))) ≡ Some b → P b.statements
    by true q = absurd cc
    by false q = one_is P fs (f - builtin_count) b h q

abbrev plain : Sort
plain z = InStatement IsPlainCall false z

abbrev constants : Sort
constants z = InStatement IsConstantCall true z

zero_is_int : IsValue I32 (pos 0)
zero_is_int = (omega (arith, ints), omega (arith, ints))

no_mutexes : (f : ℕ) → All (IsValue I32) (none_hold f)
no_mutexes f = All-nil (IsValue I32)

first_mutexes : (f : ℕ) → All (IsValue I32) (first_holds f)
first_mutexes f = by (eqb f 16)
  where
    by : (b : Bool) → All (IsValue I32) (cond b (pos 0 ∷ []) [])
    by true = All-cons (IsValue I32) (pos 0) [] zero_is_int (All-nil (IsValue I32))
    by false = All-nil (IsValue I32)

-- the first function isn't in the interface
first_face : (f : ℕ) → is_face (source_of lent []) f ≡ true → first_holds f ≡ []
first_face f e = by (eqb f 16) refl
  where
    by : (b : Bool) → eqb f 16 ≡ b → cond b (pos 0 ∷ []) [] ≡ []
    by true q =
        let same : f ≡ 16 = eqb-true f 16 q in
        let never : is_face (source_of lent []) 16 ≡ true = sym (ap (is_face (source_of lent [])) same) ∙ e in
        absurd cc
    by false q = refl

pub some_locks_are_kept : SomeLocksAreKept
unfolding reply answer_to
some_locks_are_kept = record {
  comes = record {
    guarded = record {
      guards = refl;
      functions = refl;
      plain = bodies_are plain locked [] (((tt, (tt, tt), ((refl, refl), tt)), ((tt, tt), ((tt, (tt, tt), ((refl, refl), tt)), (tt, tt)))), tt);
      constants = bodies_are constants locked [] (((tt, (tt, tt), (zero_is_int, tt)), ((tt, tt), ((tt, (tt, tt), (zero_is_int, tt)), (tt, tt)))), tt);
      faces = λ f e. refl;
      lock = refl;
      unlock = refl;
      mutexes = no_mutexes;
    };
    nothing = refl;
    wants = refl;
  };
  well = record { reaches = λ q h. refl; pointers = λ q h. refl; locks = (refl, (tt, (tt, (tt, tt)))) };
}

pub pointers_must_hold_nothing : PointersMustHoldNothing
unfolding reply answer_to
pointers_must_hold_nothing = record {
  comes = record {
    guarded = record {
      guards = refl;
      functions = refl;
      plain = bodies_are plain lent [] (((tt, tt), (tt, tt)), tt);
      constants = bodies_are constants lent [] (((tt, tt), (tt, tt)), tt);
      faces = first_face;
      lock = refl;
      unlock = refl;
      mutexes = first_mutexes;
    };
    nothing = refl;
    wants = refl;
  };
  reaches = λ q h. refl;
  locks = (tt, (tt, tt));
  unheld = λ k. let taken_there = k.touches 0 refl in absurd cc;
}

pub mutexes_must_be_free : MutexesMustBeFree
unfolding reply answer_to
mutexes_must_be_free = record {
  comes = record {
    guarded = record {
      guards = refl;
      functions = refl;
      plain = bodies_are plain locked_below (false ∷ true ∷ []) (((tt, (tt, tt), ((refl, refl), tt)), ((tt, tt, omega arith), ((tt, tt), ((tt, (tt, tt), ((refl, refl), tt)), (tt, tt))))), (((tt, (tt, tt), ((refl, refl), tt)), ((tt, (tt, tt), ((refl, refl), tt)), (tt, tt))), tt));
      constants = bodies_are constants locked_below (false ∷ true ∷ []) (((tt, (tt, tt), (zero_is_int, tt)), ((tt, tt, tt), ((tt, tt), ((tt, (tt, tt), (zero_is_int, tt)), (tt, tt))))), (((tt, (tt, tt), (zero_is_int, tt)), ((tt, (tt, tt), (zero_is_int, tt)), (tt, tt))), tt));
      faces = λ f e. refl;
      lock = refl;
      unlock = refl;
      mutexes = no_mutexes;
    };
    nothing = refl;
    wants = refl;
  };
  reaches = λ q h. refl;
  pointers = λ q h. refl;
  unheld = λ k. let taken_there = k.touches 0 refl in absurd cc;
}
