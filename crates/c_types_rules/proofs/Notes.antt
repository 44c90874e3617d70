-- Notes in turn, and sequences of what is found.
use Rattle.std.proofs.Common.{◌≡◌, ◌||◌, ◌++◌, Bool, true, List, [], refl, sym, ap, ◌∙◌}
use Rattle.std.proofs.lemmas.List.{append_assoc, append-nil}
use Rattle.std.proofs.Math.Bool.{or_assoc}
use Rattle.c_types_rules.specs.Checked.{Checked, Fine, Noted, Broken, Notes, noting, together, ◌>>=◌, ◌>>◌}
use Rattle.c_types_rules.specs.TypedTree.{Typed}

abbrev with_parts : Bool → List Typed → Notes
with_parts b us = record { large = b; unevaluated = us }

pub together_in_turn : (a b c : Notes) → together (together a b) c ≡ together a (together b c)
together_in_turn a b c =
    ap (λ x. with_parts x ((a.unevaluated ++ b.unevaluated) ++ c.unevaluated)) (sym (or_assoc c.large b.large a.large))
    ∙ ap (with_parts ((c.large || b.large) || a.large)) (append_assoc a.unevaluated b.unevaluated c.unevaluated)

-- notes with something too large
pub with_large : (a : Notes) → together a (record { large = true; unevaluated = [] }) ≡ record a { large = true }
with_large a = ap (with_parts true) (append-nil a.unevaluated)

pub noting_twice : {A : Type 0} (m n : Notes) (c : Checked A) → noting m (noting n c) ≡ noting (together m n) c
noting_twice m n (Fine x) = refl
noting_twice m n (Noted k x) = ap (λ z. Noted z x) (sym (together_in_turn m n k))
noting_twice m n (Broken from rule) = refl

pub noting_then : {A B : Type 0} (n : Notes) (c : Checked A) (k : A → Checked B) → (noting n c >>= k) ≡ noting n (c >>= k)
noting_then n (Fine x) k = refl
noting_then n (Noted m x) k = sym (noting_twice n m (k x))
noting_then n (Broken from rule) k = refl

pub noting_after : {A B : Type 0} (n : Notes) (c : Checked A) (d : Checked B) → (noting n c >> d) ≡ noting n (c >> d)
noting_after n (Fine x) d = refl
noting_after n (Noted m x) d = sym (noting_twice n m d)
noting_after n (Broken from rule) d = refl
