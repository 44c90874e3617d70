-- Whether mentions name something.
use Rattle.std.proofs.Common.{◌≡◌, ◌⊎◌, inl, inr, ℕ, zero, suc, ◌<◌, Bool, true, false, List, [], ◌∷◌, length, refl, sym, ap, arith}
use Rattle.std.specs.Prelude.{slice_index_or}
use Rattle.std.specs.List.{Contains}
use Rattle.std.proofs.lemmas.Bool.{eq-eqb, eqb-true, or_cases, or_left, or_right}
use Rattle.cut_graph_rules.specs.declared.mention.Mention.{Mention}
use Rattle.cut_graph_rules.specs.declared.mention.Mention.TheVariants.{Function, Global, Written}
use Rattle.isolation_check_rows.specs.declared.kind.MentionKind.{MentionKind}
use Rattle.isolation_check_rows.specs.declared.kind.MentionKind.TheVariants as kinds
use Rattle.isolation_check_rows.specs.Rows.{has, is_here, mention_of, place_of}

names : (kind : MentionKind) (k : ℕ) (m : Mention) → is_here k (place_of kind m) ≡ true → m ≡ mention_of kind k
names kinds.Function k (Function number) e = ap Function (sym (eqb-true k number e))
names kinds.Function k (Global place) e = cc
names kinds.Function k (Written place) e = cc
names kinds.Global k (Function number) e = cc
names kinds.Global k (Global place) e = ap Global (sym (eqb-true k place e))
names kinds.Global k (Written place) e = cc
names kinds.Written k (Function number) e = cc
names kinds.Written k (Global place) e = cc
names kinds.Written k (Written place) e = ap Written (sym (eqb-true k place e))

is_named : (kind : MentionKind) (k : ℕ) → is_here k (place_of kind (mention_of kind k)) ≡ true
is_named kinds.Function k = eq-eqb k k refl
is_named kinds.Global k = eq-eqb k k refl
is_named kinds.Written k = eq-eqb k k refl

named_by : (kind : MentionKind) (k : ℕ) (m : Mention) → m ≡ mention_of kind k → is_here k (place_of kind m) ≡ true
named_by kind k m e = rw e (is_named kind k)

later : (m x : Mention) (ms : List Mention) → Contains ms x → Contains (m ∷ ms) x
later m x ms h = (suc h.0, omega (arith, h.1), h.2)

pub has_contains : (kind : MentionKind) (k : ℕ) (ms : List Mention) → has kind k ms ≡ true → Contains ms (mention_of kind k)
has_contains kind k [] e = cc
has_contains kind k (m ∷ ms) e =
    elim (or_cases (is_here k (place_of kind m)) (has kind k ms) e) [
      | inl h ↦ (0, omega arith, names kind k m h)
      | inr h ↦ later m (mention_of kind k) ms (has_contains kind k ms h)
    ]

pub contains_has : (kind : MentionKind) (k : ℕ) (ms : List Mention) (i : ℕ) → i < length ms
    → slice_index_or ms i (mention_of kind k) ≡ mention_of kind k → has kind k ms ≡ true
contains_has kind k [] i lt e = absurd (omega arith)
contains_has kind k (m ∷ ms) zero lt e = or_left (is_here k (place_of kind m)) (has kind k ms) (named_by kind k m e)
contains_has kind k (m ∷ ms) (suc i) lt e =
    or_right (is_here k (place_of kind m)) (has kind k ms) (contains_has kind k ms i (omega arith) e)
