-- Tests of checks, by computation: that none fails, or what the first one that fails finds.
use Rattle.std.proofs.Common.{◌≡◌, inl, inr, ⊎_elim, ℕ, zero, suc, ◌+◌, ◌<◌, ◌≤◌, Bool, true, false, ◌&&◌, ◌||◌, not, cond, leb, ltb, Option, Some, None, refl, sym, ap, ◌∙◌, subst, arith}
use Rattle.std.proofs.lemmas.Bool.{le-leb, lt-ltb, leb-true, ltb-true, and_from, and_parts, true≢false, cases_eq, cases_lt}
use Rattle.marks.specs.declared.range.Range.{Range}
use Rattle.marks.specs.Ranges.{within, covers}
use Rattle.replay_runs.specs.Checks.{Finding, Checks, Done, Check, Passes, Least, Finds}

-- each byte of a range passes

unfoldable pub all_from : (ℕ → Bool) → ℕ → ℕ → Bool
all_from p at zero = true
all_from p at (suc n) = p at && all_from p (suc at) n

within_next : (at n x : ℕ) → within at (suc n) x ≡ true → (x ≡ at → ⊥) → within (suc at) n x ≡ true
within_next at n x e ne =
    let q = and_parts (leb at x) (ltb x (at + suc n)) e in
    let a = leb-true at x q.0 in
    let b = ltb-true x (at + suc n) q.1 in
    and_from _ _ (le-leb (suc at) x (omega (arith, a, ne))) (lt-ltb x (suc at + n) (omega (arith, b)))

pub all_from_true : (p : ℕ → Bool) (at n : ℕ) → all_from p at n ≡ true → (x : ℕ) → within at n x ≡ true → p x ≡ true
unfolding all_from
all_from_true p at zero h x e =
    let q = and_parts (leb at x) (ltb x (at + 0)) e in
    let a = leb-true at x q.0 in
    let b = ltb-true x (at + 0) q.1 in
    absurd (omega (arith, a, b))
all_from_true p at (suc n) h x e =
    let q = and_parts (p at) (all_from p (suc at) n) h in
    ⊎_elim (λ z. ap p z ∙ q.0) (λ z. all_from_true p (suc at) n q.1 x (within_next at n x e z)) (cases_eq x at)

pub not_true : (b : Bool) → not b ≡ true → b ≡ false
not_true true e = absurd (true≢false (sym e))
not_true false e = refl

pub not_both : (b : Bool) → not b ≡ true → b ≡ true → ⊥
not_both b n e = true≢false (sym e ∙ not_true b n)

pub false_is : (b : Bool) → not b ≡ false → b ≡ true
false_is true e = refl
false_is false e = absurd (true≢false e)

pub or_false : (a b : Bool) → (a || b) ≡ false → (a ≡ false) × (b ≡ false)
or_false true b h = absurd (true≢false h)
or_false false b h = (refl, h)

pub none_some : {P : Type 0} (f : Finding) → None ≡ Some f → P
none_some f e = cc

-- a test of checks, and what they find where it fails
pub record Tested (cs : Checks) : Type 0 where
  pub test : Bool
  pub passes : test ≡ true → Passes cs
  pub found : Option Finding
  pub finds : (f : Finding) → found ≡ Some f → Finds cs f
  pub some : test ≡ false → (f : Finding) × (found ≡ Some f)

abbrev pub done_tested : Tested Done
done_tested = record { test = true; passes = λ h. tt; found = None; finds = λ f e. none_some f e; some = λ h. absurd (true≢false h) }

-- what one check finds where its test fails
pub record Here (Bad : ℕ → Type 0) (Found : ℕ → Finding → Type 0) (test : Bool) : Type 0 where
  pub none : test ≡ true → (x : ℕ) → Bad x → ⊥
  pub found : Option Finding
  pub least : (f : Finding) → found ≡ Some f → (x : ℕ) × Least Bad x × Found x f
  pub some : test ≡ false → (f : Finding) × (found ≡ Some f)

pub here_or_then : (Bad : ℕ → Type 0) (Found : ℕ → Finding → Type 0) (cs : Checks) (b : Bool) → (b ≡ true → (x : ℕ) → Bad x → ⊥) → (h k : Option Finding) → ((f : Finding) → h ≡ Some f → (x : ℕ) × Least Bad x × Found x f) → ((f : Finding) → k ≡ Some f → Finds cs f) → (f : Finding) → cond b k h ≡ Some f → Finds (Check Bad Found cs) f
here_or_then Bad Found cs true none h k here further f e = inr (none refl, further f e)
here_or_then Bad Found cs false none h k here further f e = inl (here f e)

pub some_found : (b c : Bool) (h k : Option Finding) → (b ≡ false → (f : Finding) × (h ≡ Some f)) → (c ≡ false → (f : Finding) × (k ≡ Some f)) → (b && c) ≡ false → (f : Finding) × (cond b k h ≡ Some f)
some_found true c h k here further e = further e
some_found false c h k here further e = here refl

-- a test of one check, and then of those after it
abbrev pub seek_tested : (Bad : ℕ → Type 0) (Found : ℕ → Finding → Type 0) (cs : Checks) (b : Bool) → Here Bad Found b → Tested cs → Tested (Check Bad Found cs)
seek_tested Bad Found cs b here k = record {
  test = b && k.test;
  passes = λ h. (here.none (and_parts b k.test h).0, k.passes (and_parts b k.test h).1);
  found = cond b k.found here.found;
  finds = here_or_then Bad Found cs b here.none here.found k.found here.least k.finds;
  some = some_found b k.test here.found k.found here.some k.some;
}

-- the first number of a range that is bad

unfoldable pub first_bad : (ℕ → Bool) → ℕ → ℕ → Option ℕ
first_bad good at zero = None
first_bad good at (suc n) = cond (good at) (first_bad good (suc at) n) (Some at)

pub record IsFirst (good : ℕ → Bool) (at n x : ℕ) : Type 0 where
  pub within_is : within at n x ≡ true
  pub is_bad : good x ≡ false
  pub before : (y : ℕ) → at ≤ y → y < x → good y ≡ true

pub first_is : (good : ℕ → Bool) (at n x : ℕ) → first_bad good at n ≡ Some x → IsFirst good at n x
unfolding first_bad
first_is good at zero x e = cc
first_is good at (suc n) x e = go (good at) refl e (λ z. first_is good (suc at) n x z)
  where
    go : (b : Bool) → good at ≡ b → cond b (first_bad good (suc at) n) (Some at) ≡ Some x → (first_bad good (suc at) n ≡ Some x → IsFirst good (suc at) n x) → IsFirst good at (suc n) x
    go false g e further =
        let same : at ≡ x = cc in
        record {
          within_is = and_from _ _ (le-leb at x (omega (arith, same))) (lt-ltb x (at + suc n) (omega (arith, same)));
          is_bad = sym (ap good same) ∙ g;
          before = λ y a b. absurd (omega (arith, a, b, same));
        }
    go true g e further =
        let w = further e in
        let p = and_parts (leb (suc at) x) (ltb x (suc at + n)) w.within_is in
        let low = leb-true (suc at) x p.0 in
        let high = ltb-true x (suc at + n) p.1 in
        record {
          within_is = and_from _ _ (le-leb at x (omega (arith, low))) (lt-ltb x (at + suc n) (omega (arith, high)));
          is_bad = w.is_bad;
          before = λ y a b. ⊎_elim (λ z. ap good z ∙ g) (λ z. w.before y (omega (arith, a, z)) b) (cases_eq y at);
        }

pub none_bad : (good : ℕ → Bool) (at n : ℕ) → first_bad good at n ≡ None → all_from good at n ≡ true
unfolding first_bad all_from
none_bad good at zero e = refl
none_bad good at (suc n) e = go (good at) refl e (λ z. none_bad good (suc at) n z)
  where
    go : (b : Bool) → good at ≡ b → cond b (first_bad good (suc at) n) (Some at) ≡ None → (first_bad good (suc at) n ≡ None → all_from good (suc at) n ≡ true) → (good at && all_from good (suc at) n) ≡ true
    go true g e further = and_from _ _ g (further e)
    go false g e further = cc

-- and there is one where not all pass
pub one_bad : (good : ℕ → Bool) (at n : ℕ) → all_from good at n ≡ false → (x : ℕ) × (first_bad good at n ≡ Some x)
one_bad good at n h = go (first_bad good at n) refl
  where
    go : (o : Option ℕ) → first_bad good at n ≡ o → (x : ℕ) × (first_bad good at n ≡ Some x)
    go (Some x) e = (x, e)
    go None e = absurd (true≢false (sym (none_bad good at n e) ∙ h))

abbrev pub named : (ℕ → Finding) → Option ℕ → Option Finding
named g None = None
named g (Some x) = Some (g x)

pub least_of : (r : Range) (good : ℕ → Bool) (x : ℕ) → IsFirst good r.addr r.len x → (y : ℕ) → covers r y ≡ true → (good y ≡ true → ⊥) → x ≤ y
least_of r good x w y e b =
    ⊎_elim
    (λ z. absurd (b (w.before y (leb-true r.addr y (and_parts (leb r.addr y) (ltb y (r.addr + r.len)) e).0) z)))
    (λ z. omega (arith, z))
    (cases_lt y x)

pub range_least : (r : Range) (P : ℕ → Type 0) (good : ℕ → Bool) → ((x : ℕ) → good x ≡ true → P x → ⊥) → ((x : ℕ) → good x ≡ false → P x) → (g : ℕ → Finding) (o : Option ℕ) → first_bad good r.addr r.len ≡ o → (f : Finding) → named g o ≡ Some f → (x : ℕ) × Least (λ x. (covers r x ≡ true) × P x) x × (f ≡ g x)
range_least r P good fine wrong g None e f h = none_some f h
range_least r P good fine wrong g (Some x) e f h =
    let w = first_is good r.addr r.len x e in
    let same : g x ≡ f = cc in
    (x, ((w.within_is, wrong x w.is_bad), λ y b. least_of r good x w y b.0 (λ z. fine y z b.1)), sym same)

pub range_some : (r : Range) (good : ℕ → Bool) (g : ℕ → Finding) → all_from good r.addr r.len ≡ false → (f : Finding) × (named g (first_bad good r.addr r.len) ≡ Some f)
range_some r good g h = let w = one_bad good r.addr r.len h in (g w.0, ap (named g) w.1)

-- a check of each byte of a range
abbrev pub byte_tested : (r : Range) (P : ℕ → Type 0) (good : ℕ → Bool) → ((x : ℕ) → good x ≡ true → P x → ⊥) → ((x : ℕ) → good x ≡ false → P x) → (g : ℕ → Finding) (cs : Checks) → Tested cs → Tested (Check (λ x. (covers r x ≡ true) × P x) (λ x f. f ≡ g x) cs)
byte_tested r P good fine wrong g cs k = seek_tested _ _ cs (all_from good r.addr r.len) (record {
  none = λ h x b. fine x (all_from_true good r.addr r.len h x b.0) b.1;
  found = named g (first_bad good r.addr r.len);
  least = range_least r P good fine wrong g (first_bad good r.addr r.len) refl;
  some = range_some r good g;
}) k

-- a check of one number, or of none

pub point_least : (k : ℕ) (P : ℕ → Type 0) (good : Bool) → (good ≡ false → P k) → (g : ℕ → Finding) (f : Finding) → cond good None (Some (g k)) ≡ Some f → (x : ℕ) × Least (λ x. (x ≡ k) × P x) x × (f ≡ g x)
point_least k P true wrong g f e = none_some f e
point_least k P false wrong g f e = let same : g k ≡ f = cc in (k, ((refl, wrong refl), λ y b. omega (arith, b.0)), sym same)

pub point_some : (good : Bool) (h : Finding) → good ≡ false → (f : Finding) × (cond good None (Some h) ≡ Some f)
point_some true h e = absurd (true≢false e)
point_some false h e = (h, refl)

abbrev pub point_tested : (k : ℕ) (P : ℕ → Type 0) (good : Bool) → (good ≡ true → P k → ⊥) → (good ≡ false → P k) → (g : ℕ → Finding) (cs : Checks) → Tested cs → Tested (Check (λ x. (x ≡ k) × P x) (λ x f. f ≡ g x) cs)
point_tested k P good fine wrong g cs t = seek_tested _ _ cs good (record {
  none = λ h x b. fine h (subst P b.0 b.1);
  found = cond good None (Some (g k));
  least = point_least k P good wrong g;
  some = point_some good (g k);
}) t

pub plain_least : (P : Type 0) (good : Bool) → (good ≡ false → P) → (g : ℕ → Finding) (f : Finding) → cond good None (Some (g 0)) ≡ Some f → (x : ℕ) × Least (λ x. P) x × (f ≡ g x)
plain_least P true wrong g f e = none_some f e
plain_least P false wrong g f e = let same : g 0 ≡ f = cc in (0, (wrong refl, λ y b. omega arith), sym same)

abbrev pub plain_tested : (P : Type 0) (good : Bool) → (good ≡ true → P → ⊥) → (good ≡ false → P) → (g : ℕ → Finding) (cs : Checks) → Tested cs → Tested (Check (λ x. P) (λ x f. f ≡ g x) cs)
plain_tested P good fine wrong g cs t = seek_tested _ _ cs good (record {
  none = λ h x b. fine h b;
  found = cond good None (Some (g 0));
  least = plain_least P good wrong g;
  some = point_some good (g 0);
}) t
