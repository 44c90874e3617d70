-- The first function that mentions something.
use Rattle.std.proofs.Common.{◌≡◌, ◌⊎◌, inl, inr, ℕ, zero, suc, ◌+◌, ◌<◌, ◌≤◌, Bool, true, false, ◌&&◌, List, [], ◌∷◌, length, refl, sym, ap, ◌∙◌, subst, arith}
use Rattle.std.specs.Prelude.{Option, Some, None, slice_get}
use Rattle.std.specs.List.{Contains}
use Rattle.std.proofs.lemmas.Bool.{and_from, and_parts, both_ways}
use Rattle.cut_graph_rules.specs.declared.mention.Mention.{Mention}
use Rattle.isolation_check_rows.specs.declared.kind.MentionKind.{MentionKind}
use Rattle.isolation_check_rows.specs.Rows.{first_from, has, mention_of, noted}
use Rattle.isolation_check_rows.specs.Firsts.{IsFound, IsNowhere, Mentions}
use Rattle.isolation_check_rows.proofs.Has.{contains_has, has_contains}

module _ (kind : MentionKind) (count : ℕ → Bool) (k : ℕ) where
  -- the function after the first ones is the function of the number that comes next
  after : (number : ℕ) (ms : List Mention) (rest : List (List Mention)) (place : ℕ) → Mentions kind count k (number + 1) rest place
      → Mentions kind count k number (ms ∷ rest) (suc place)
  after number ms rest place h = record {
    list = h.list;
    there = h.there;
    counts = let e : number + suc place ≡ number + 1 + place = omega arith in subst (λ (n : ℕ). count n ≡ true) (sym e) h.counts;
    mentions = h.mentions;
  }

  before : (number : ℕ) (ms : List Mention) (rest : List (List Mention)) (place : ℕ) → Mentions kind count k number (ms ∷ rest) (suc place)
      → Mentions kind count k (number + 1) rest place
  before number ms rest place h = record {
    list = h.list;
    there = h.there;
    counts = let e : number + suc place ≡ number + 1 + place = omega arith in subst (λ (n : ℕ). count n ≡ true) e h.counts;
    mentions = h.mentions;
  }

  -- the first one mentions it just where its test says so
  here : (number : ℕ) (ms : List Mention) (rest : List (List Mention)) → (count number && has kind k ms) ≡ true
      → Mentions kind count k number (ms ∷ rest) 0
  here number ms rest e =
      let parts = and_parts (count number) (has kind k ms) e in
      record {
        list = ms;
        there = refl;
        counts = let z : number + 0 ≡ number = omega arith in subst (λ (n : ℕ). count n ≡ true) (sym z) parts.0;
        mentions = has_contains kind k ms parts.1;
      }

  tested : (number : ℕ) (ms : List Mention) (rest : List (List Mention)) → Mentions kind count k number (ms ∷ rest) 0
      → (count number && has kind k ms) ≡ true
  tested number ms rest h =
      let same : ms ≡ h.list = let e : Some ms ≡ Some h.list = h.there in cc in
      let z : number + 0 ≡ number = omega arith in
      let c = subst (λ (n : ℕ). count n ≡ true) z h.counts in
      let m = subst (λ (l : List Mention). Contains l (mention_of kind k)) (sym same) h.mentions in
      and_from (count number) (has kind k ms) c (contains_has kind k ms m.0 m.1 m.2)

  -- no function comes before the first one
  not_below : (number a : ℕ) (functions : List (List Mention)) → IsFound kind count k number functions a → number ≤ a
  not_below number a functions h = let e = h.at in omega arith

  first_here : (number a : ℕ) (ms : List Mention) (rest : List (List Mention)) → (count number && has kind k ms) ≡ true → Some number ≡ Some a
      → IsFound kind count k number (ms ∷ rest) a
  first_here number a ms rest t e =
      let is : a ≡ number = cc in
      record {
        place = 0;
        at = omega (arith, is);
        does = here number ms rest t;
        least = λ other h. omega (arith, is);
      }

  first_after : (number a : ℕ) (ms : List Mention) (rest : List (List Mention)) → (count number && has kind k ms) ≡ false
      → IsFound kind count k (number + 1) rest a → IsFound kind count k number (ms ∷ rest) a
  first_after number a ms rest t h =
      let e = h.at in
      record {
        place = suc h.place;
        at = omega arith;
        does = after number ms rest h.place h.does;
        least = λ other m. least_after other m;
      }
    where
      least_after : (other : ℕ) → Mentions kind count k number (ms ∷ rest) other → a ≤ number + other
      least_after zero m = absurd (both_ways (count number && has kind k ms) t (tested number ms rest m))
      least_after (suc other) m = let l = h.least other (before number ms rest other m) in omega arith

  found_by : (number a : ℕ) (ms : List Mention) (rest : List (List Mention))
      → (first_from kind count k (number + 1) rest ≡ Some a → IsFound kind count k (number + 1) rest a)
      → (t : Bool) → (count number && has kind k ms) ≡ t → first_from kind count k number (ms ∷ rest) ≡ Some a
      → IsFound kind count k number (ms ∷ rest) a
  found_by number a ms rest later true h e =
      first_here number a ms rest h (ap (λ (b : Bool). noted b number (first_from kind count k (number + 1) rest)) (sym h) ∙ e)
  found_by number a ms rest later false h e =
      first_after number a ms rest h (later (ap (λ (b : Bool). noted b number (first_from kind count k (number + 1) rest)) (sym h) ∙ e))

  pub found : (number a : ℕ) (functions : List (List Mention)) → first_from kind count k number functions ≡ Some a
      → IsFound kind count k number functions a
  found number a [] e = cc
  found number a (ms ∷ rest) e = found_by number a ms rest (λ l. found (number + 1) a rest l) (count number && has kind k ms) refl e

  none_by : (number : ℕ) (ms : List Mention) (rest : List (List Mention)) (t : Bool) → (count number && has kind k ms) ≡ t
      → first_from kind count k number (ms ∷ rest) ≡ None
      → ((count number && has kind k ms) ≡ false) × (first_from kind count k (number + 1) rest ≡ None)
  none_by number ms rest true h e =
      let s : Some number ≡ None = ap (λ (b : Bool). noted b number (first_from kind count k (number + 1) rest)) (sym h) ∙ e in cc
  none_by number ms rest false h e = (h, ap (λ (b : Bool). noted b number (first_from kind count k (number + 1) rest)) (sym h) ∙ e)

  not_there : (number : ℕ) (ms : List Mention) (rest : List (List Mention)) → (count number && has kind k ms) ≡ false
      → IsNowhere kind count k (number + 1) rest → (place : ℕ) → Mentions kind count k number (ms ∷ rest) place → ⊥
  not_there number ms rest f later zero h = both_ways (count number && has kind k ms) f (tested number ms rest h)
  not_there number ms rest f later (suc place) h = later place (before number ms rest place h)

  pub nowhere : (number : ℕ) (functions : List (List Mention)) → first_from kind count k number functions ≡ None
      → IsNowhere kind count k number functions
  nowhere number [] e = λ place h. let t : None ≡ Some h.list = h.there in cc
  nowhere number (ms ∷ rest) e =
      let parts = none_by number ms rest (count number && has kind k ms) refl e in
      not_there number ms rest parts.0 (nowhere (number + 1) rest parts.1)
