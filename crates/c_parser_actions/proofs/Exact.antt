-- The machine parses exactly what has a tree.
use Rattle.std.proofs.Common.{◌≡◌, ◌<◌, true, false, List, [], ◌∷◌, ◌++◌, refl, ap, sym, ◌⊎◌, inl, inr}
use Rattle.c_lexer.specs.declared.token.Token.{Token}
use Rattle.c_syntax.specs.Syntax.{Decls, NoDecls}
use Rattle.c_syntax.specs.Sources.{Spells, no_top}
use Rattle.c_parser_moves.specs.declared.action.Action.{Action}
use Rattle.c_parser_moves.specs.declared.action.Action.TheVariants as acts
use Rattle.c_parser_moves.specs.declared.frame.Frame.{Frame}
use Rattle.c_parser_moves.specs.declared.frame.Next.{Next}
use Rattle.c_parser_moves.specs.declared.frame.Next.TheVariants as nx
use Rattle.c_parser_actions.specs.Pieces.{Piece, PDecls, act, acted}
use Rattle.c_parser_moves.proofs.Machine.{Move, move, moved}
use Rattle.c_parser_moves.proofs.MachineSteps.{step, read_next, works}
use Rattle.c_parser_actions.proofs.Weight.{weight}
use Rattle.c_parser_actions.proofs.Runs.{TState, tstate, Reaches, here, go, then}
use Rattle.c_parser_actions.proofs.Good.{Good}
use Rattle.c_parser_actions.proofs.SoundSource.{step_good}
use Rattle.c_parser_actions.proofs.CompleteSource.{complete}
use Rattle.c_parser_actions.proofs.Less.{less_step}

acted_more : (a b : List Action) (P : List Piece) → acted (a ++ b) P ≡ acted a (acted b P)
acted_more [] b P = refl
acted_more (x ∷ a) b P = ap (act x) (acted_more a b P)

-- what a run begins with
abbrev pub start : List Token → TState
start ts = tstate nx.Top (PDecls NoDecls ∷ []) ts []

start_good : (ts : List Token) → Good ts (start ts)
start_good ts = (NoDecls, [], refl, (refl, refl, no_top))

run_good : (all : List Token) {a z : TState} → Reaches a z → Good all a → Good all z
run_good all here h = h
run_good all (go {n = n} {P = P} {ts = ts} {K = K} r) h = run_good all r (step_good all n P ts K h)

-- the pieces of a move's actions
abbrev pub made : Move → TState
made m = tstate m.next (acted m.acts []) m.rest m.opens

pub run_begins : (all : List Token) (out : List Action) (K : List Frame) → out ≡ acts.NoDecls ∷ [] → K ≡ [] → Reaches (start all) (made (move nx.Top out all K))
run_begins all out K e k = rw (e, k) here

pub run_on : (all : List Token) (m : Move) (n : Next) (out : List Action) (ts : List Token) (K : List Frame) → Reaches (start all) (made (move n out ts K)) → m ≡ moved (step n ts K) out → Reaches (start all) (made m)
run_on all m n out ts K r e = rw (e, acted_more (step n ts K).acts out []) (then r (go here))

pub run_less : (m : Move) (n : Next) (out : List Action) (ts : List Token) (K : List Frame) → m ≡ moved (step n ts K) out → works n ≡ true → weight m < weight (move n out ts K)
run_less m n out ts K e w = rw e (less_step n ts K w)

pub run_found : (all : List Token) (n : Next) (out : List Action) (ts : List Token) (K : List Frame) → Reaches (start all) (made (move n out ts K)) → n ≡ nx.End → (ds : Decls) × Spells all ds × (acted out [] ≡ PDecls ds ∷ [])
run_found all n out ts K r e =
    let g = run_good all (rw e at r) (start_good all) in
    (g.0, g.4, g.1)

end_stays : {z : TState} {P : List Piece} {ts : List Token} {K : List Frame} → Reaches (tstate nx.End P ts K) z → z ≡ tstate nx.End P ts K
unfolding step read_next
end_stays here = refl
end_stays (go r) = end_stays r

fail_stays : {z : TState} {P : List Piece} {ts : List Token} {K : List Frame} → Reaches (tstate nx.Fail P ts K) z → z.next ≡ nx.Fail
unfolding step read_next
fail_stays here = refl
fail_stays (go r) = fail_stays r

-- of two states that a run comes to, one comes to the other
meets : {a x y : TState} → Reaches a x → Reaches a y → Reaches x y ⊎ Reaches y x
meets here s = inl s
meets (go r) here = inr (go r)
meets (go r) (go s) = meets r s

end_by : (P : List Piece) (ts : List Token) (K : List Frame) (x : TState) → (Reaches (tstate nx.End P ts K) x ⊎ Reaches x (tstate nx.End P ts K)) → x.next ≡ nx.End → P ≡ x.pieces
end_by P ts K x (inl r) e = sym (ap (λ z. z.pieces) (end_stays r))
end_by P ts K x (inr r) e = end_from x.next x.pieces x.rest x.opens r e
  where
    end_from : (n : Next) (Q : List Piece) (us : List Token) (L : List Frame) → Reaches (tstate n Q us L) (tstate nx.End P ts K) → n ≡ nx.End → P ≡ Q
    end_from n Q us L r e = let q : Reaches (tstate nx.End Q us L) (tstate nx.End P ts K) = rw e at r in ap (λ z. z.pieces) (end_stays q)

-- the pieces at the end of a run are those of each source that has the tokens
one_end : (all : List Token) (x : TState) (ds : Decls) → Reaches (start all) x → x.next ≡ nx.End → Spells all ds → PDecls ds ∷ [] ≡ x.pieces
one_end all x ds r e d = end_by (PDecls ds ∷ []) [] [] x (meets (complete d) r) e

pub one : (all : List Token) (x y : Decls) → Spells all x → Spells all y → x ≡ y
one all x y h k = let e : PDecls y ∷ [] ≡ PDecls x ∷ [] = one_end all (tstate nx.End (PDecls x ∷ []) [] []) y (complete h) refl k in cc

pub run_only : (all : List Token) (n : Next) (out : List Action) (ts : List Token) (K : List Frame) → Reaches (start all) (made (move n out ts K)) → n ≡ nx.End → (ds : Decls) → Spells all ds → acted out [] ≡ PDecls ds ∷ []
run_only all n out ts K r e ds d = sym (one_end all (made (move n out ts K)) ds r e d)

failed : (n : Next) → works n ≡ false → (n ≡ nx.End → ⊥) → n ≡ nx.Fail
failed nx.Fail w h = refl
failed nx.End w h = absurd (h refl)
failed _ w h = cc

no_end : (P Q : List Piece) (ts us : List Token) (K L : List Frame) → (Reaches (tstate nx.End P ts K) (tstate nx.Fail Q us L) ⊎ Reaches (tstate nx.Fail Q us L) (tstate nx.End P ts K)) → ⊥
no_end P Q ts us K L (inl r) = absurd (let e : nx.Fail ≡ nx.End = ap (λ z. z.next) (end_stays r) in cc)
no_end P Q ts us K L (inr r) = absurd (let e : nx.End ≡ nx.Fail = fail_stays r in cc)

pub run_none : (all : List Token) (n : Next) (out : List Action) (ts : List Token) (K : List Frame) → Reaches (start all) (made (move n out ts K)) → works n ≡ false → (n ≡ nx.End → ⊥) → (ds : Decls) → Spells all ds → ⊥
run_none all n out ts K r w h ds d = no_end (PDecls ds ∷ []) (acted out []) [] ts [] K (meets (complete d) (rw (failed n w h) at r))
