-- The greatest clock of the direct predecessors, found along the file.
use Rattle.std.proofs.Common.{◌≡◌, ℕ, ◌≤◌, List, [], ◌∷◌, ◌++◌, inl, inr, ⊎_elim, refl, sym, ap, ◌∙◌, subst, arith, append_assoc}
use Rattle.std.specs.Prelude.{max, ◌⊎◌}
use Rattle.std.proofs.lemmas.Bool.{cases_lt}
use Rattle.log_closure.specs.Events.{LogEvent, In}
use Rattle.log_closure.specs.Wrong.{IsPredecessor, IsGreatestBefore, none_before, greatest_is}
use Rattle.log_reference.specs.Preceding.{LeadsTo}
use Rattle.log_reference.proofs.Splits.{Each, each_none, each_more, In-split, split-in}

-- an event leads to f where it is a direct predecessor of it

pub predecessor_leads : (all : List LogEvent) (e f : LogEvent) → IsPredecessor all e f → (before after : List LogEvent) × (all ≡ before ++ e ∷ after) × LeadsTo f before e
predecessor_leads all e f (inl (i, t, n)) = let (before, after, is) = In-split e all i in (before, after, is, inl (t, n))
predecessor_leads all e f (inr (m, i, (before, after, is, free, own))) = (before, after, is, inr (m, i, free, own))

pub leads_predecessor : (all : List LogEvent) (e f : LogEvent) (before after : List LogEvent) → all ≡ before ++ e ∷ after → LeadsTo f before e → IsPredecessor all e f
leads_predecessor all e f before after is (inl (t, n)) = inl (subst (In e) (sym is) (split-in before e after), t, n)
leads_predecessor all e f before after is (inr (m, i, free, own)) = inr (m, i, (before, after, is, free, own))

-- the greater of two
pub max_is : (a g h : ℕ) → h ≡ max a g → (g ≤ h) × (a ≤ h) × ((h ≡ g) ⊎ (h ≡ a))
max_is a g h e = (omega (arith, e), omega (arith, e), ⊎_elim (λ lt. inl (omega (arith, e, lt))) (λ ge. inr (omega (arith, e, ge))) (cases_lt a g))

-- the greatest is one at most

pub greatest_one : (all : List LogEvent) (f : LogEvent) (g h : ℕ) → IsGreatestBefore all f g → IsGreatestBefore all f h → g ≡ h
greatest_one all f g h (none_before a) (none_before b) = refl
greatest_one all f g h (none_before a) (greatest_is e p b) = absurd (a e p)
greatest_one all f g h (greatest_is e p b) (none_before a) = absurd (a e p)
greatest_one all f g h (greatest_is e p a) (greatest_is d q b) = let x = a d q in let y = b e p in omega (arith, x, y)

-- the greatest of a prefix

-- none of the prefix leads to f, or one with this clock does
abbrev pub Reached : LogEvent → List LogEvent → ℕ → Type 0
Reached f prefix g = (Each (λ before e. LeadsTo f before e → ⊥) prefix × (g ≡ 0)) ⊎ ((before : List LogEvent) × (e : LogEvent) × (after : List LogEvent) × (prefix ≡ before ++ e ∷ after) × LeadsTo f before e × (e.entry.clock ≡ g))

pub record IsGreatestOf (f : LogEvent) (prefix : List LogEvent) (g : ℕ) : Type 0 where
  pub most : Each (λ before e. LeadsTo f before e → e.entry.clock ≤ g) prefix
  pub reached : Reached f prefix g

pub greatest_none : (f : LogEvent) → IsGreatestOf f [] 0
greatest_none f = record { most = each_none (λ before e. LeadsTo f before e → e.entry.clock ≤ 0); reached = inl (each_none (λ before e. LeadsTo f before e → ⊥), refl) }

reached_more : (f : LogEvent) (prefix : List LogEvent) (e : LogEvent) (g : ℕ) → (before : List LogEvent) × (d : LogEvent) × (after : List LogEvent) × (prefix ≡ before ++ d ∷ after) × LeadsTo f before d × (d.entry.clock ≡ g) → Reached f (prefix ++ e ∷ []) g
reached_more f prefix e g (before, d, after, is, leads, clock) =
    inr (before, d, after ++ e ∷ [], ap (λ (l : List LogEvent). l ++ e ∷ []) is ∙ append_assoc before (d ∷ after) (e ∷ []), leads, clock)

pub greatest_more : (f : LogEvent) (prefix : List LogEvent) (e : LogEvent) (g h : ℕ) → IsGreatestOf f prefix g → LeadsTo f prefix e → g ≤ h → e.entry.clock ≤ h → (h ≡ g) ⊎ (h ≡ e.entry.clock) → IsGreatestOf f (prefix ++ e ∷ []) h
greatest_more f prefix e g h old leads ge le is = record {
  most = each_more (λ before x. LeadsTo f before x → x.entry.clock ≤ h) prefix e (λ before x after s l. let z = old.most before x after s l in omega (arith, z, ge)) (λ _. le);
  reached = ⊎_elim (λ same. ⊎_elim (λ (none, zero). here (omega (arith, same, zero, le))) (λ some. subst (Reached f (prefix ++ e ∷ [])) (sym same) (reached_more f prefix e g some)) old.reached) (λ own. here (sym own)) is;
}
  where
    here : e.entry.clock ≡ h → Reached f (prefix ++ e ∷ []) h
    here eq = inr (prefix, e, [], refl, leads, eq)

pub greatest_same : (f : LogEvent) (prefix : List LogEvent) (e : LogEvent) (g : ℕ) → IsGreatestOf f prefix g → (LeadsTo f prefix e → ⊥) → IsGreatestOf f (prefix ++ e ∷ []) g
greatest_same f prefix e g old not = record {
  most = each_more (λ before x. LeadsTo f before x → x.entry.clock ≤ g) prefix e old.most (λ l. absurd (not l));
  reached = ⊎_elim (λ (none, zero). inl (each_more (λ before x. LeadsTo f before x → ⊥) prefix e none not, zero)) (λ some. reached_more f prefix e g some) old.reached;
}

pub greatest_whole : (all : List LogEvent) (f : LogEvent) (g : ℕ) → IsGreatestOf f all g → IsGreatestBefore all f g
greatest_whole all f g h =
    ⊎_elim
    (λ (none, zero). subst (IsGreatestBefore all f) (sym zero) (none_before (λ e p. let (before, after, is, leads) = predecessor_leads all e f p in none before e after is leads)))
    (λ (before, e, after, is, leads, clock). subst (IsGreatestBefore all f) clock (greatest_is e (leads_predecessor all e f before after is leads) (λ d p.
    let (b, a, s, l) = predecessor_leads all d f p in
    let z = h.most b d a s l in omega (arith, z, clock))))
    h.reached
