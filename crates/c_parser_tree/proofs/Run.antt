-- Actions from first to last.
use Rattle.std.proofs.Common.{◌≡◌, ◌∙◌, ℕ, List, [], ◌∷◌, ◌++◌, length, reverse, Option, Result, Ok, Err, IfOk, IfErr, refl, sym, ap, arith}
use Rattle.std.proofs.lemmas.List.{reverse-append}
use Rattle.c_syntax.specs.Nodes.{Nodes}
use Rattle.c_syntax.specs.Stands.{Holds}
use Rattle.c_syntax.specs.Syntax.{Decls}
use Rattle.c_parser_moves.specs.declared.action.Action.{Action}
use Rattle.c_parser_moves.specs.declared.action.Action.TheVariants as acts
use Rattle.c_parser_actions.specs.Builds.{Builds}
use Rattle.c_parser_actions.specs.Pieces.{Piece as Tree, PDecls, act, acted}
use Rattle.c_parser_tree.specs.declared.builder.Builder.{Builder}
use Rattle.c_parser_tree.specs.declared.builder.BuildError.{BuildError}
use Rattle.c_parser_tree.specs.declared.builder.BuildError.TheVariants as errors
use Rattle.c_parser_tree.specs.Built.{Built}
use Rattle.c_parser_tree.specs.IsMade.{IsMade}
use Rattle.c_parser_tree.specs.Made.{made_leaf}
use Rattle.c_parser_tree.specs.Seen.{nodes_seen, stack_seen}
use Rattle.c_parser_tree.specs.Stacks.{no_pieces}
use Rattle.c_parser_tree.specs.Stacked.{Holding, Follows, Steps, IsFinished}
use Rattle.c_parser_tree.specs.Stacked as s
use Rattle.c_parser_tree.specs.Unfit.{IsUnfit}
use Rattle.c_parser_tree.proofs.Broken.{IsBroken, broken_acted}
use Rattle.c_parser_tree.proofs.Likewise.{Stood}
use Rattle.c_parser_tree.proofs.LikeAll.{IsOther, like_all}

acted_first : (out : List Action) (a : Action) (P : List Tree) → acted (out ++ a ∷ []) P ≡ acted out (act a P)
acted_first [] a P = refl
acted_first (b ∷ out) a P = ap (act b) (acted_first out a P)

-- the first of the actions is done, and then the others
pub acted_next : (rest : List Action) (a : Action) (P : List Tree) → acted (reverse (a ∷ rest)) P ≡ acted (reverse rest) (act a P)
acted_next rest a P = ap (λ v. acted v P) (reverse-append (a ∷ []) rest) ∙ acted_first (reverse rest) a P

pub holds_nothing : (b : Builder) → stack_seen b ≡ no_pieces → Holding b []
holds_nothing b e = rw e s.none

pub nothing_left : {X : Type 0} (l : List X) → length l ≡ 0 → l ≡ []
nothing_left [] h = refl
nothing_left (x ∷ xs) h = absurd (omega arith)

follows : (r : Result (Unit {0}) BuildError) (c : Builder) (m : Option Built) (Q : List Tree) → IsMade r c m → Stood m Q → Follows r c Q
follows (Ok _) c m Q e h = rw e at h
follows (Err errors.Unfit) c m Q e h = rw e at h
follows (Err errors.Memory) c m Q e h = tt

-- an action other than a list in braces does what it does to trees
pub steps_other : (a : Action) (b : Builder) (r : Result (Unit {0}) BuildError) (c : Builder) → IsOther a → IsMade r c (made_leaf a (nodes_seen b) (stack_seen b)) → Steps a b r c
steps_other a b r c o m P h = follows r c (made_leaf a (nodes_seen b) (stack_seen b)) (act a P) m (like_all a o (nodes_seen b) (stack_seen b) P h)

pub is_other : (a : Action) → ((f : ℕ) → a ≡ acts.Braces f → ⊥) → IsOther a
is_other (acts.Braces f) h = h f refl
is_other _ h = tt

-- where an action is unfit, the actions build nothing
pub unfit_on : (e : BuildError) (c : Builder) (a : Action) (rest v : List Action) (P : List Tree) → Follows (Err e) c (act a P) → acted (reverse (a ∷ rest)) P ≡ acted (reverse v) [] → IsUnfit v e
unfit_on errors.Unfit c a rest v P h k =
    λ ds built.
    let broken : IsBroken (acted (reverse rest) (act a P)) = broken_acted (reverse rest) (act a P) (rw h tt) in
    let e : acted (reverse rest) (act a P) ≡ PDecls ds ∷ [] = sym (acted_next rest a P) ∙ k ∙ built in
    rw e at broken
unfit_on errors.Memory c a rest v P h k = tt

pub built_end : (r : Result Nodes BuildError) (b : Builder) (v : List Action) (P : List Tree) → IsFinished r b → Holding b P → P ≡ acted (reverse v) [] → IfOk r (λ t. (ds : Decls) → Builds v ds → Holds t ds)
built_end (Ok t) b v P f h k = λ ds built. f ds (let e : P ≡ PDecls ds ∷ [] = k ∙ built in rw e at h)
built_end (Err _) b v P f h k = tt

pub unfit_end : (r : Result Nodes BuildError) (b : Builder) (v : List Action) (P : List Tree) → IsFinished r b → Holding b P → P ≡ acted (reverse v) [] → IfErr r (λ e. IsUnfit v e)
unfit_end (Ok _) b v P f h k = tt
unfit_end (Err errors.Unfit) b v P f h k = λ ds built. f ds (let e : P ≡ PDecls ds ∷ [] = k ∙ built in rw e at h)
unfit_end (Err errors.Memory) b v P f h k = tt
