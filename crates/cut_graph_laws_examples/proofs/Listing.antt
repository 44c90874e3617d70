-- What a list of marks reaches is among what is computed of it.
use Rattle.std.proofs.Common.{◌≡◌, ℕ, true, false, List, [], ◌∷◌, ◌++◌, Some, append_assoc, append-nil, inl, inr, sym, ap, ◌∙◌, subst, arith}
use Rattle.std.specs.List.{Contains}
use Rattle.std.proofs.lemmas.List.Elements.{Contains-append_cases, Contains-append_left, Contains-append_right, Contains-push, Contains-push_cases}
use Rattle.marks.specs.declared.side.Side.{Side}
use Rattle.marks.specs.Marks.{Mark}
use Rattle.marks.specs.Wants.{Want, Answer}
use Rattle.c_code.specs.MarkLists.{Verdict, Expects, reply}
use Rattle.c_semantics.specs.Reading.{Marks}
use Rattle.cut_graph_reached.specs.Reached.{Reach, by_pointer, reached}
use Rattle.cut_graph_reached.specs.Answers.{ModesKept}
use Rattle.cut_graph_laws_examples.specs.Listed.{reached_at, reaches_after, reaches_of}

module _ (p : Marks) where
  here : (side : Side) (want : Want) (m : Mark) (x : Answer) (r : Reach) → reply side want m ≡ Some x → by_pointer want ≡ true → reached side want x ≡ Some r → (v : Verdict) → v ≡ Expects side want → Contains (reached_at false v m) r
  here side want m x r e pointer reaches v h =
      subst (λ (u : Verdict). Contains (reached_at false u m) r) (sym h)
      (rw (e, pointer, reaches) (Contains-push [] r))

  there : (start ms before after : List Mark) (m : Mark) (side : Side) (want : Want) (x : Answer) (r : Reach) → ms ≡ before ++ (m ∷ after) → p (start ++ before) ≡ Expects side want → reply side want m ≡ Some x → by_pointer want ≡ true → reached side want x ≡ Some r
      → Contains (reaches_after false p start ms) r
  there start [] [] after m side want x r e wanted answers pointer reaches = absurd cc
  there start [] (b ∷ before) after m side want x r e wanted answers pointer reaches = absurd cc
  there start (n ∷ ms) [] after m side want x r e wanted answers pointer reaches =
      let same : n ≡ m = cc in
      let now : p start ≡ Expects side want = ap p (sym (append-nil start)) ∙ wanted in
      Contains-append_left (reached_at false (p start) n) (reaches_after false p (start ++ n ∷ []) ms) r
      (subst (λ (k : Mark). Contains (reached_at false (p start) k) r) (sym same) (here side want m x r answers pointer reaches (p start) now))
  there start (n ∷ ms) (b ∷ before) after m side want x r e wanted answers pointer reaches =
      let same : n ≡ b = cc in
      let rest : ms ≡ before ++ (m ∷ after) = cc in
      let on : (start ++ n ∷ []) ++ before ≡ start ++ (b ∷ before) = append_assoc start (n ∷ []) before ∙ ap (λ (k : Mark). start ++ (k ∷ before)) same in
      Contains-append_right (reached_at false (p start) n) (reaches_after false p (start ++ n ∷ []) ms) r
      (there (start ++ n ∷ []) ms before after m side want x r rest (ap p on ∙ wanted) answers pointer reaches)

  abbrev AllMay : (may : Side → ℕ → Type 0) → List Reach → Type 0
  AllMay may [] = Unit {0}
  AllMay may (r ∷ rs) = may r.side r.func × AllMay may rs

  each : (may : Side → ℕ → Type 0) (rs : List Reach) (r : Reach) → AllMay may rs → Contains rs r → may r.side r.func
  each may [] r h c = absurd (omega (arith, c.1))
  each may (q ∷ rs) r h c = elim (Contains-append_cases (q ∷ []) rs r c) [
    | inl k ↦ elim (Contains-push_cases [] q r k) [
      | inl l ↦ absurd (omega (arith, l.1))
      | inr e ↦ subst (λ (y : Reach). may y.side y.func) e h.0
    ]
    | inr k ↦ each may rs r h.1 k
  ]

  -- pointers keep to the modes where all of it may run
  pub all_kept : (may : Side → ℕ → Type 0) (ms : List Mark) (rs : List Reach) → reaches_of false p ms ≡ rs → AllMay may rs → ModesKept may p ms
  all_kept may ms rs e h r k =
      let i = k.reaches in
      let a = i.answered in
      each may rs r h (subst (λ (ys : List Reach). Contains ys r) e (there [] ms a.before a.after a.mark i.side i.want i.answer r a.there a.wanted a.answers k.pointer i.reaches))
