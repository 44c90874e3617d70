-- What a call that is given this value and these pieces has: its function is of the interface, and there is a piece for each region.
use Rattle.std.proofs.Common.{◌≡◌, ℕ, ◌+◌, ◌≤◌, true, false, eqb, List, [], length, map, Option, Some, None, refl, sym, ap, ◌∙◌, subst, arith}
use Rattle.std.specs.Prelude.{is_some, slice_get, filter}
use Rattle.std.proofs.lemmas.Bool.{true≢false}
use Rattle.marks.specs.declared.side.Side.TheVariants.{System}
use Rattle.marks.specs.Places.{builtin_count}
use Rattle.marks.specs.Marks.{Mark}
use Rattle.marks.specs.Opens.{open_calls}
use Rattle.marks.specs.Wants.{Gives}
use Rattle.c_builtins.specs.declared.builtin.Builtin.{Builtin}
use Rattle.c_builtins.specs.declared.builtin.Builtin.TheVariants.{Malloc, Free, Spawn, Join, Lock, Unlock, Print}
use Rattle.c_builtins.specs.Table.{in_interface}
use Rattle.c_code.specs.Machine.{func_of, is_face}
use Rattle.c_code.specs.MarkLists.{result_of}
use Rattle.c_code.specs.Opens.{EndsInnermost, IsFirst, call_below, opens_by}
use Rattle.c_code.specs.Values.{is_value}
use Rattle.replay_runs.specs.Rules.{Closes}
use Rattle.replay_runs.specs.Runs.{marks_of}
use Rattle.system_side.specs.declared.file.Scripted.{Scripted}
use Rattle.whole_runs.specs.World.{World, begin, interface, interface_on}
use Rattle.whole_runs.specs.Sides.{own, seen}
use Rattle.whole_runs.specs.Outcomes.{builtin_of, used}
use Rattle.whole_runs.specs.Below.{ByPool, Says, given, given_by, next_answer}
use Rattle.whole_runs.specs.Steps.{Picked}
use Rattle.whole_runs.specs.Ends.{Follows}
use Rattle.whole_runs.specs.Fits.{IsFit, IsFitAnswer, committed}
use Rattle.whole_runs_memory.proofs.Ends.{ends}
use Rattle.whole_runs_seen.proofs.Wanted.{own_seen}
use Rattle.recorder_system.proofs.Numbers.{number_is}
use Rattle.recorder_returns.specs.Coming.{IsOfInterface}
use Rattle.recorder_returns.proofs.Closing.{are_annotated, first_closes}
use Rattle.recorder_answers.proofs.Faces.{IsBelow}
use Rattle.recorder_answers.proofs.Interfaces.{builtin_said, no_commit, no_outs, same_interface, source_said}
use Rattle.recorder_answers.proofs.Scripted.{of_file, pieces_in}

-- the call that is ended is the innermost one
pub give_closes : (w : World) (fit : IsFit w) (past : List Mark) (follows : Follows w past) (s : Picked w past) (f : ℕ) (args : List ℕ) → s.want ≡ Gives f args → Closes (open_calls (marks_of (begin w) s.thread (seen past))) f args ((interface w).outs f args)
give_closes w fit past follows s f args is = first_closes (interface w) f args (open_calls (marks_of (begin w) s.thread (seen past)))
    (subst (λ ms. IsFirst (record { func = f; args = args }) (map call_below (open_calls ms))) (sym (own_seen w past s.thread))
    (subst (λ x. EndsInnermost s.side x (opens_by (own w s.thread past))) is (ends w fit past follows s)))
    (are_annotated w fit past follows s f args)

module _ (w : World) (fit : IsFit w) (past : List Mark) (f : ℕ) (args : List ℕ) (below : IsBelow w.laid f) where
  -- ---- what it isn't given

  no_pool_builtin : (t : ℕ) (b : Builtin) → builtin_of f ≡ Some b → given_by w past t f args (Some b) ≡ ByPool → in_interface b ≡ false
  no_pool_builtin t Malloc is e = refl
  no_pool_builtin t Free is e = refl
  no_pool_builtin t Spawn is e = absurd cc
  no_pool_builtin t Join is e = absurd cc
  no_pool_builtin t Lock is e = absurd cc
  no_pool_builtin t Unlock is e = absurd cc
  no_pool_builtin t Print is e = absurd cc

  no_pool_file : (o : Option Scripted) → next_answer o ≡ ByPool → ⊥
  no_pool_file (Some a) e = absurd cc
  no_pool_file None e = absurd cc

  -- a builtin that is called so is of the interface
  inside : (b : Builtin) → builtin_of f ≡ Some b → in_interface b ≡ true
  inside b is = sym (fit.placed.modes.builtins b) ∙ (ap (is_face w.laid) (sym (number_is f b is)) ∙ below.face)

  pub no_pool : (t : ℕ) → given w past t f args ≡ ByPool → ⊥
  no_pool t e = by (builtin_of f) refl e
    where
      by : (o : Option Builtin) → builtin_of f ≡ o → given_by w past t f args o ≡ ByPool → ⊥
      by (Some b) is z = true≢false (sym (inside b is) ∙ no_pool_builtin t b is z)
      by None is z = no_pool_file _ z

  -- ---- what it is given

  pub record IsGivenWell (v : ℕ) (pieces : List (List ℕ)) : Type 0 where
    pub said : IsOfInterface w f args v
    pub count : length pieces ≡ length ((interface w).outs f args) + committed (is_some ((interface w).commits f args v))

  module _ (t v : ℕ) (pieces : List (List ℕ)) (value : is_value (result_of w.laid f) v ≡ true) where
    none_given : (b : Builtin) → given_by w past t f args (Some b) ≡ Says v pieces → pieces ≡ []
    none_given Malloc e = absurd cc
    none_given Free e = absurd cc
    none_given Spawn e = sym (ap (pieces_in []) e)
    none_given Join e = sym (ap (pieces_in []) e)
    none_given Lock e = sym (ap (pieces_in []) e)
    none_given Unlock e = sym (ap (pieces_in []) e)
    none_given Print e = sym (ap (pieces_in []) e)

    of_builtin : (b : Builtin) → builtin_of f ≡ Some b → given_by w past t f args (Some b) ≡ Says v pieces → IsGivenWell v pieces
    of_builtin b is e =
        let a = ap length (none_given b e) in
        let o = ap length (no_outs w fit f b is (inside b is) args) in
        let c = ap (λ q. committed (is_some q)) (no_commit w fit f b is (inside b is) args v) in
        record { said = builtin_said w fit f b is (inside b is) args v value; count = omega (arith, a, o, c) }

    of_external : next_answer (slice_get (filter (λ (a : Scripted). eqb a.func f) w.file.answers) (used f past)) ≡ Says v pieces → IsGivenWell v pieces
    of_external e =
        let h = of_file w.file.answers f (used f past) v pieces e in
        let fits : IsFitAnswer w h.answer = fit.file.answers h.answer h.among in
        let source : builtin_count ≤ f = subst (λ g. builtin_count ≤ g) h.func_is fits.source in
        let known : func_of w.laid.code f ≡ Some fits.info = subst (λ g. func_of w.laid.code g ≡ Some fits.info) h.func_is fits.known in
        let same : interface_on w System h.answer.func ≡ interface w = ap (interface_on w System) h.func_is ∙ same_interface w f fits.info source known fit below.face in
        record {
          said = source_said w f fits.info source known fit args v value;
          count = ap length (sym h.pieces_are) ∙ (fits.pieces args
              ∙ (λ j. length ((same j).outs (h.func_is j) args) + committed (is_some ((same j).commits (h.func_is j) args (h.result_is j)))));
        }

    pub given_well : given w past t f args ≡ Says v pieces → IsGivenWell v pieces
    given_well e = by (builtin_of f) refl e
      where
        by : (o : Option Builtin) → builtin_of f ≡ o → given_by w past t f args o ≡ Says v pieces → IsGivenWell v pieces
        by (Some b) is z = of_builtin b is z
        by None is z = of_external z
