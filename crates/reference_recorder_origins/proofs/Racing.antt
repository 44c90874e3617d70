-- What is known, and which accesses race.
use Rattle.std.proofs.Common.{◌≡◌, ◌↔◌, ℕ, suc, ◌≤◌, Bool, true, false, cond, ◌&&◌, ◌||◌, not, ◌==◌, max, List, [], ◌∷◌, inl, inr, refl, ap, sym, ◌∙◌, subst}
use Rattle.run_events.specs.declared.key.KeyMark.{KeyMark}
use Rattle.marks.specs.Places.{is_constant}
use Rattle.marks.specs.Marks.{Act, Mark}
use Rattle.marks.specs.Bytes.{late, place, touches, writes}
use Rattle.replay_runs.specs.Runs.{Link, OfThread, OfKey, In, has, keys_of}
use Rattle.replay_runs.specs.Known.{known, learned, learned_keys}
use Rattle.replay_runs.specs.Checks.{Races}
use Rattle.whole_runs.specs.Sides.{seen}
use Rattle.reference_recorder_marks.specs.Marks.{without_origins}
use Rattle.reference_recorder_origins.proofs.Blind.{blank, blind}
use Rattle.reference_recorder_origins.proofs.Parts.{has_same, seen_without}

-- ---- what is known

keys_same : (k j : Link → ℕ → ℕ) → ((l : Link) (t : ℕ) → k l t ≡ j l t) → (qs : List KeyMark) (t : ℕ) →
    learned_keys k qs t ≡ learned_keys j qs t
keys_same k j same [] t = refl
keys_same k j same (q ∷ qs) t =
    ap (λ n. max n (learned_keys k qs t)) (same (OfKey q.key) t) ∙ ap (max (j (OfKey q.key) t)) (keys_same k j same qs t)

learned_same : (k j : Link → ℕ → ℕ) → ((l : Link) (t : ℕ) → k l t ≡ j l t) → (m : Mark) (t : ℕ) →
    learned k (blank m) t ≡ learned j m t
learned_same k j same m t =
    ap (λ qs. max (cond (m.thread == t) (suc m.index) 0) (max (k (OfThread m.thread) t) (learned_keys k qs t)))
    (blind keys_of (λ o at bytes. refl) (λ o at bytes. refl) m.act)
    ∙ ap (λ n. max (cond (m.thread == t) (suc m.index) 0) (max n (learned_keys k (keys_of m.act) t))) (same (OfThread m.thread) t)
    ∙ ap (λ n. max (cond (m.thread == t) (suc m.index) 0) (max (j (OfThread m.thread) t) n)) (keys_same k j same (keys_of m.act) t)

known_step : (m : Mark) (p : List Mark) → ((l : Link) (t : ℕ) → known (without_origins p) l t ≡ known p l t) →
    (l : Link) (t : ℕ) (b : Bool) →
    cond b (learned (known (without_origins p)) (blank m) t) (known (without_origins p) l t) ≡
    cond b (learned (known p) m t) (known p l t)
known_step m p same l t true = learned_same (known (without_origins p)) (known p) same m t
known_step m p same l t false = same l t

known_without : (p : List Mark) (l : Link) (t : ℕ) → known (without_origins p) l t ≡ known p l t
known_without [] l t = refl
known_without (m ∷ p) l t =
    ap (λ b. cond b (learned (known (without_origins p)) (blank m) t) (known (without_origins p) l t)) (has_same m l)
    ∙ known_step m p (known_without p) l t (has m l)

pub known_seen : (l : Link) (t : ℕ) (p : List Mark) → known (seen (without_origins p)) l t ≡ known (seen p) l t
known_seen l t p = ap (λ q. known q l t) (seen_without p) ∙ known_without (seen p) l t

-- ---- races

in_without : (a : Mark) (q : List Mark) → In a (without_origins q) → (b : Mark) × In b q × (a ≡ blank b)
in_without a [] h = absurd h
in_without a (m ∷ q) h = elim h [
  | inl e ↦ (m, inl refl, e)
  | inr more ↦ (let r = in_without a q more in (r.0, inr r.1, r.2))
]

in_blank : (b : Mark) (q : List Mark) → In b q → In (blank b) (without_origins q)
in_blank b [] h = h
in_blank b (m ∷ q) h = elim h [ inl e ↦ inl (ap blank e) | inr more ↦ inr (in_blank b q more) ]

place_same : (m : Mark) → place (blank m) ≡ place m
place_same m = blind (λ a. cond (late a) (suc m.index) m.index) (λ o at bytes. refl) (λ o at bytes. refl) m.act

-- it writes the byte, or touches one that is no constant where the other access writes
abbrev meets : Bool → ℕ → Act → Bool
meets write x a = writes a x || (write && (not (is_constant x) && touches a x))

meets_same : (write : Bool) (x : ℕ) (m : Mark) → meets write x (blank m).act ≡ meets write x m.act
meets_same write x m = blind (meets write x) (λ o at bytes. refl) (λ o at bytes. refl) m.act

races_without : (t : ℕ) (write : Bool) (x u : ℕ) (q : List Mark) →
    Races (without_origins q) t write x u → Races q t write x u
races_without t write x u q h =
    let r = in_without h.0 q h.1 in
    let b : Mark = r.0 in
    let is : h.0 ≡ blank b = r.2 in (
      b,
      r.1,
      sym (ap (λ (m : Mark). m.thread) is) ∙ h.2,
      h.3,
      sym (meets_same write x b) ∙ sym (ap (λ (m : Mark). meets write x m.act) is) ∙ h.4,
      subst (λ n. n ≤ place b) (known_without q (OfThread t) u) (subst (λ n. known (without_origins q) (OfThread t) u ≤ n) (ap place is ∙ place_same b) h.5),
    )

races_with : (t : ℕ) (write : Bool) (x u : ℕ) (q : List Mark) →
    Races q t write x u → Races (without_origins q) t write x u
races_with t write x u q h =
    let b : Mark = h.0 in (
      blank b,
      in_blank b q h.1,
      h.2,
      h.3,
      meets_same write x b ∙ h.4,
      subst (λ n. n ≤ place (blank b)) (sym (known_without q (OfThread t) u)) (subst (λ n. known q (OfThread t) u ≤ n) (sym (place_same b)) h.5),
    )

pub races_seen : (t : ℕ) (write : Bool) (x u : ℕ) (p : List Mark) →
    Races (seen (without_origins p)) t write x u ↔ Races (seen p) t write x u
races_seen t write x u p = (
  λ h. races_without t write x u (seen p) (subst (λ q. Races q t write x u) (seen_without p) h),
  λ h. subst (λ q. Races q t write x u) (sym (seen_without p)) (races_with t write x u (seen p) h),
)
