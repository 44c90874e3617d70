-- Findings that are added.
use Rattle.std.proofs.Common.{◌≡◌, ◌⊎◌, inl, inr, ℕ, ◌+◌, ◌<◌, Bool, true, false, ◌&&◌, List, [], ◌∷◌, ◌++◌, map, get_or, refl, sym, ap, ◌∙◌, subst, arith}
use Rattle.std.specs.List.{Contains}
use Rattle.std.specs.Prelude.{◌↔◌, Option, Some, None, is_some}
use Rattle.std.proofs.lemmas.Bool.{and_from, and_parts, both_ways, cases_lt}
use Rattle.std.proofs.lemmas.List.{get_or_read, map-append}
use Rattle.std.proofs.lemmas.List.Elements.{All-push, Contains-append_left, Contains-push, Contains-push_cases}
use Rattle.c_builtins.specs.Table.{first_source_function}
use Rattle.c_types_program.specs.Declarations.{Declared}
use Rattle.cut_graph_rules.specs.declared.mention.Mention.{Mention}
use Rattle.cut_graph_rules.specs.Sources.{Mentioned}
use Rattle.cut_graph_rules.specs.MayRun.{Names}
use Rattle.cut_graph_rules.specs.Findings as rules
use Rattle.isolation_check_rows.specs.declared.kind.MentionKind.{MentionKind}
use Rattle.isolation_check_rows.specs.Rows.{AreFirst, first_from}
use Rattle.isolation_check_findings.specs.declared.finding.Finding.{Finding}
use Rattle.isolation_check_findings.specs.Found.{AboveBy, Adds, HasLine, IsAboveAt, IsAboveIn, IsBelow, SharedBy, finding_of, function_name, global_name, is_outside}

pub nothing : (P : rules.Finding → Type 0) (old : List Finding) → ((x : rules.Finding) → P x → ⊥) → Adds P old old
nothing P old isnt = record {
  sound = λ x h. inl h;
  kept = λ x h. h;
  complete = λ x h. absurd (isnt x h);
  lines = λ h. h;
}

pub one : (P : rules.Finding → Type 0) (old : List Finding) (e : Finding) → P (finding_of e)
    → ((x : rules.Finding) → P x → x ≡ finding_of e) → HasLine e → Adds P old (old ++ e ∷ [])
one P old e p only line =
    let split : map finding_of (old ++ e ∷ []) ≡ map finding_of old ++ finding_of e ∷ [] = map-append finding_of old (e ∷ []) in
    record {
      sound = λ x h. elim (Contains-push_cases (map finding_of old) (finding_of e) x (subst (λ (l : List rules.Finding). Contains l x) split h)) [
        | inl g ↦ inl g
        | inr s ↦ inr (subst P s p)
      ];
      kept = λ x h. subst (λ (l : List rules.Finding). Contains l x) (sym split) (Contains-append_left (map finding_of old) (finding_of e ∷ []) x h);
      complete = λ x h. subst (λ (y : rules.Finding). Contains (map finding_of (old ++ e ∷ [])) y) (sym (only x h))
          (subst (λ (l : List rules.Finding). Contains l (finding_of e)) (sym split) (Contains-push (map finding_of old) (finding_of e)));
      lines = λ h. All-push HasLine old e h line;
    }

pub zero_of : (P : ℕ → rules.Finding → Type 0) (old : List Finding) → Adds (IsBelow 0 P) old old
zero_of P old = nothing (IsBelow 0 P) old (λ x h. omega (arith, h.1))

pub more : (n : ℕ) (P : ℕ → rules.Finding → Type 0) (a b c : List Finding) → Adds (IsBelow n P) a b → Adds (P n) b c → Adds (IsBelow (n + 1) P) a c
more n P a b c f g = record {
  sound = λ x h. elim (g.sound x h) [
    | inl m ↦ (elim (f.sound x m) [ inl k ↦ inl k | inr q ↦ inr (q.0, omega (arith, q.1), q.2) ])
    | inr q ↦ inr (n, omega arith, q)
  ];
  kept = λ x h. g.kept x (f.kept x h);
  complete = λ x h. elim (cases_lt h.0 n) [
    | inl lt ↦ g.kept x (f.complete x (h.0, lt, h.2))
    | inr ge ↦ (let e : h.0 ≡ n = omega (arith, h.1) in g.complete x (subst (λ (m : ℕ). P m x) e h.2))
  ];
  lines = λ h. g.lines (f.lines h);
}

pub all_below : (i n : ℕ) (P : ℕ → rules.Finding → Type 0) (a b : List Finding) → i ≡ n → Adds (IsBelow i P) a b → Adds (IsBelow n P) a b
all_below i n P a b e h = subst (λ (m : ℕ). Adds (IsBelow m P) a b) e h

pub both : (P Q : rules.Finding → Type 0) (a b c : List Finding) → Adds P a b → Adds Q b c → Adds (λ x. P x ⊎ Q x) a c
both P Q a b c f g = record {
  sound = λ x h. elim (g.sound x h) [
    | inl m ↦ (elim (f.sound x m) [ inl k ↦ inl k | inr q ↦ inr (inl q) ])
    | inr q ↦ inr (inr q)
  ];
  kept = λ x h. g.kept x (f.kept x h);
  complete = λ x h. elim h [ inl p ↦ g.kept x (f.complete x p) | inr q ↦ g.complete x q ];
  lines = λ h. g.lines (f.lines h);
}

pub alike : (P Q : rules.Finding → Type 0) (a b : List Finding) → ((x : rules.Finding) → P x → Q x) → ((x : rules.Finding) → Q x → P x) → Adds P a b → Adds Q a b
alike P Q a b to back f = record {
  sound = λ x h. elim (f.sound x h) [ inl k ↦ inl k | inr q ↦ inr (to x q) ];
  kept = f.kept;
  complete = λ x h. f.complete x (back x h);
  lines = f.lines;
}

-- ---- globals

pub none_of : (o : Option ℕ) → is_some o ≡ false → o ≡ None
none_of None e = refl
none_of (Some x) e = cc

pub some_of : (o : Option ℕ) → is_some o ≡ true → (x : ℕ) × (o ≡ Some x)
some_of None e = cc
some_of (Some x) e = (x, refl)

-- what a row of first functions says of one global
pub read_first : (kind : MentionKind) (count : ℕ → Bool) (many : ℕ) (functions are : List (List Mention)) (row : List (Option ℕ)) (i : ℕ) (x : Option ℕ)
    → AreFirst kind count many functions row → functions ≡ are → i < many → x ≡ get_or row i x
    → x ≡ first_from kind count i first_source_function are
read_first kind count many functions are row i x h e lt read =
    get_or_read row i x (omega (arith, h.size, lt)) read None
    ∙ (h.entries i lt ∙ ap (λ (fs : List (List Mention)). first_from kind count i first_source_function fs) e)

pub by_equal : (p : Declared) (place : ℕ) (a b w x y z : Option ℕ) (old new : List Finding) → a ≡ x → b ≡ y → w ≡ z
    → Adds (SharedBy p place a b w) old new → Adds (SharedBy p place x y z) old new
by_equal p place a b w x y z old new ea eb ew h =
    subst (λ (o : Option ℕ). Adds (SharedBy p place o y z) old new) ea
    (subst (λ (o : Option ℕ). Adds (SharedBy p place a o z) old new) eb
    (subst (λ (o : Option ℕ). Adds (SharedBy p place a b o) old new) ew h))

module _ (p : Declared) (place : ℕ) (old : List Finding) where
  pub without_above : (above below written : Option ℕ) → above ≡ None → Adds (SharedBy p place above below written) old old
  without_above above below written e = nothing (SharedBy p place above below written) old (λ x h. let w : None ≡ Some h.a = sym e ∙ h.has_above in cc)

  pub without_below : (above below written : Option ℕ) → below ≡ None → Adds (SharedBy p place above below written) old old
  without_below above below written e = nothing (SharedBy p place above below written) old (λ x h. let w : None ≡ Some h.b = sym e ∙ h.has_below in cc)

  pub without_written : (above below written : Option ℕ) → written ≡ None → Adds (SharedBy p place above below written) old old
  without_written above below written e = nothing (SharedBy p place above below written) old (λ x h. let w : None ≡ Some h.w = sym e ∙ h.has_written in cc)

  pub with_all : (above below written : Option ℕ) (a b w : ℕ) (e : Finding) → above ≡ Some a → below ≡ Some b → written ≡ Some w
      → finding_of e ≡ rules.Shared (global_name p place) (function_name p a) (function_name p b) → HasLine e
      → Adds (SharedBy p place above below written) old (old ++ e ∷ [])
  with_all above below written a b w e ea eb ew is line =
      one (SharedBy p place above below written) old e
      (record { a = a; b = b; w = w; has_above = ea; has_below = eb; has_written = ew; is = is })
      (λ x h.
      let sa : Some h.a ≡ Some a = sym h.has_above ∙ ea in
      let sb : Some h.b ≡ Some b = sym h.has_below ∙ eb in
      let ia : h.a ≡ a = cc in
      let ib : h.b ≡ b = cc in
      h.is ∙ (ap (λ (n : ℕ). rules.Shared (global_name p place) (function_name p n) (function_name p h.b)) ia
      ∙ (ap (λ (n : ℕ). rules.Shared (global_name p place) (function_name p a) (function_name p n)) ib ∙ sym is)))
      line

-- ---- externals

module _ (p : Declared) (faces : List Bool) (names : Bool) (caller external : ℕ) (old : List Finding) where
  pub not_above : (names && is_outside p faces external) ≡ false → Adds (AboveBy p faces names caller external) old old
  not_above e = nothing (AboveBy p faces names caller external) old
      (λ x h. both_ways (names && is_outside p faces external) e (and_from names (is_outside p faces external) h.named h.outside))

  pub is_above : (e : Finding) → (names && is_outside p faces external) ≡ true
      → finding_of e ≡ rules.Above (function_name p (first_source_function + external)) (function_name p (first_source_function + caller)) → HasLine e
      → Adds (AboveBy p faces names caller external) old (old ++ e ∷ [])
  is_above e t is line =
      let tests = and_parts names (is_outside p faces external) t in
      one (AboveBy p faces names caller external) old e (record { named = tests.0; outside = tests.1; is = is }) (λ x h. h.is ∙ sym is) line

  pub as_named : (n : Mentioned) (new : List Finding) → ((names ≡ true) ↔ Names n (first_source_function + caller) (first_source_function + external))
      → Adds (AboveBy p faces names caller external) old new → Adds (IsAboveAt p n faces caller external) old new
  as_named n new iff h = alike (AboveBy p faces names caller external) (IsAboveAt p n faces caller external) old new
      (λ x a. record { named = iff.0 a.named; outside = a.outside; is = a.is })
      (λ x a. record { named = iff.1 a.named; outside = a.outside; is = a.is }) h

pub where_it_runs : (p : Declared) (n : Mentioned) (faces : List Bool) (count caller : ℕ) (old new : List Finding) (runs : Bool) → runs ≡ true
    → Adds (IsBelow count (IsAboveAt p n faces caller)) old new → Adds (IsAboveIn p n runs faces count caller) old new
where_it_runs p n faces count caller old new runs e h =
    alike (IsBelow count (IsAboveAt p n faces caller)) (IsAboveIn p n runs faces count caller) old new
    (λ x a. record { may_run = e; external = a }) (λ x a. a.external) h

pub where_it_does_not : (p : Declared) (n : Mentioned) (faces : List Bool) (count caller : ℕ) (old : List Finding) (runs : Bool) → runs ≡ false
    → Adds (IsAboveIn p n runs faces count caller) old old
where_it_does_not p n faces count caller old runs e = nothing (IsAboveIn p n runs faces count caller) old (λ x h. both_ways runs e h.may_run)
