-- What the command comes to.
use Rattle.std.proofs.Common.{◌≡◌, ◌∷◌, [], ℕ, List, Option, Result, codes, sym, ◌∙◌, true}
use Rattle.r2_base.specs.Seen.{Contents, Store, Stream, OnlyReads}
use Rattle.r2_cli_outcome.specs.declared.plan.Plan.{Plan}
use Rattle.r2_cli_outcome.specs.declared.plan.End.{End}
use Rattle.r2_cli_outcome.specs.declared.status.Status.{Status}
use Rattle.r2_cli_outcome.specs.World.{World, Later, world}
use Rattle.r2_cli_outcome.specs.Outcome.{Outcome}
use Rattle.r2_cli_outcome.specs.Reading.{Reading, Of, Sees}
use Rattle.r2_cli_outcome.specs.Stages.{Answer, Then, Only, Comes, passed}
use Rattle.r2_cli_outcome.specs.Input.{Input}
use Rattle.r2_cli_outcome.specs.Plans.{Answers, outcome_of}
use Rattle.r2_cli_outcome.specs.Left.{Leaves}
use Rattle.r2_cli_outcome.specs.Finishing.{Finishes}
use Rattle.r2_cli_outcome.proofs.StageLemmas.{sees_before, answers_more, plans}
use Rattle.r2_cli_outcome.proofs.Named.{has, only_name, ReadsOnly, IsNamed, reads_input, named_input, named_last, named_then, named_comes, named_contents, has_first}
use Rattle.r2_cli_outcome.proofs.LeavesLemmas.{leaves_by, leaves_more}
use Rattle.r2_cli_examples.specs.Exchange.{exchange, exchanged, ExchangeOf}

-- what is read later was there before
pub input_before : {T : Type 0} (view : T → List ℕ) (a b : Store) (name word : List ℕ) (most x y : ℕ) (result : Result T End) → OnlyReads a b → Answers view (Input (Sees b) name word most) x y result
    → Answers view (Input (Sees a) name word most) x y result
input_before view a b name word most x y result r h =
    answers_more view (Input (Sees b) name word most) (Input (Sees a) name word most) x y result
    (λ ans. reads_input (name ∷ []) name word most (has_first name []) (Sees b) (Sees a) (λ n found there. sees_before a b r n found) ans) h

apart : (src sys : List ℕ) → (src ≡ sys → ⊥) → (n : List ℕ) → has (src ∷ []) n ≡ true → has (sys ∷ []) n ≡ true → ⊥
apart src sys ne n is it = ne (only_name src n is ∙ sym (only_name sys n it))

named_exchange : (files : Store) (src sys log rep : List ℕ) (ans : Answer Outcome) → (src ≡ sys → ⊥) → exchange (Sees files) src sys log rep ans
    → IsNamed (src ∷ sys ∷ []) files (λ held. exchange (Of held) src sys log rep ans)
named_exchange files src sys log rep ans ne h =
    named_then (src ∷ []) (sys ∷ []) files (λ reading. Input reading src (codes "source") 16)
    (λ reading first. Then (Input reading sys (codes "system") 16) (λ second. Only (passed (exchanged log rep first second)))) ans (apart src sys ne)
    (named_input files src (codes "source") 16)
    (λ first b. named_last (sys ∷ []) files (λ reading. Input reading sys (codes "system") 16) (λ second. Only (passed (exchanged log rep first second))) b (named_input files sys (codes "system") 16)) h

of_contents : (files : Store) (src sys log rep : List ℕ) (o : Outcome) → (src ≡ sys → ⊥) → Comes (exchange (Sees files) src sys log rep) o → ExchangeOf files src sys log rep o
of_contents files src sys log rep o ne h =
    named_contents (src ∷ sys ∷ []) files (λ held. Comes (exchange (Of held) src sys log rep) o)
    (named_comes (src ∷ sys ∷ []) files (λ reading. exchange reading src sys log rep) o (λ ans. named_exchange files src sys log rep ans ne) h)

pub leaves : (src sys log rep : List ℕ) (r s : Store) (o e : Stream) (b : World) (result : Status) (planned : Result Plan End) → (src ≡ sys → ⊥) → OnlyReads r s
    → Answers outcome_of (exchange (Sees r) src sys log rep) r.read_faults s.read_faults planned → Finishes (world s o e) b result planned → Later (world s o e) b
    → Leaves (ExchangeOf r src sys log rep) (world r o e) b result
leaves src sys log rep r s o e b result planned ne reads is finishes later =
    leaves_more (Comes (exchange (Sees r) src sys log rep)) (ExchangeOf r src sys log rep) (world r o e) b result (λ q. of_contents r src sys log rep q ne)
    (leaves_by (Comes (exchange (Sees r) src sys log rep)) r s o e b result planned reads (plans (exchange (Sees r) src sys log rep) (Comes (exchange (Sees r) src sys log rep)) r.read_faults s.read_faults planned (λ q k. k) is) finishes later.reads)
