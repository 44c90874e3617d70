-- One mention after another, and one function before others.
use Rattle.std.proofs.Common.{◌≡◌, ℕ, ◌+◌, ◌<◌, Bool, true, false, ◌&&◌, ◌||◌, List, [], ◌∷◌, length, drop, get_or, suc, add-one, refl, sym, ap, ◌∙◌, arith}
use Rattle.std.specs.Prelude.{Option, Some, None}
use Rattle.std.proofs.Math.Seq.{drop-cons}
use Rattle.cut_graph_rules.specs.declared.mention.Mention.{Mention}
use Rattle.isolation_check_rows.specs.declared.kind.MentionKind.{MentionKind}
use Rattle.isolation_check_rows.specs.Rows.{AreFirstFrom, IsNoted, entry, first_from, has, is_here, noted, place_of}

-- those from a place on
pub one_at : {A : Type 0} (xs : List A) (i : ℕ) (d : A) → i < length xs → drop i xs ≡ get_or xs i d ∷ drop (i + 1) xs
one_at {A} xs i d lt = drop-cons xs i d lt ∙ ap (λ (n : ℕ). get_or xs i d ∷ drop n xs) (sym (add-one i))

both : (b h : Bool) (f : ℕ) (old : Option ℕ) → noted (b || h) f old ≡ noted h f (noted b f old)
both true true f old = refl
both true false f old = refl
both false true f old = refl
both false false f old = refl

pub noted_first : (kind : MentionKind) (f : ℕ) (m : Mention) (ms : List Mention) (old mid q : List (Option ℕ)) → length mid ≡ length old
    → ((k : ℕ) → k < length old → entry mid k ≡ noted (is_here k (place_of kind m)) f (entry old k))
    → IsNoted kind f mid ms q → IsNoted kind f old (m ∷ ms) q
noted_first kind f m ms old mid q size step h = record {
  size = h.size ∙ size;
  entries = λ k lt. h.entries k (omega (arith, size)) ∙ (ap (noted (has kind k ms) f) (step k lt) ∙ sym (both (is_here k (place_of kind m)) (has kind k ms) f (entry old k)));
}

pub noted_none : (kind : MentionKind) (f : ℕ) (old : List (Option ℕ)) → IsNoted kind f old [] old
noted_none kind f old = record { size = refl; entries = λ k lt. refl }

pub first_before : (kind : MentionKind) (count : ℕ → Bool) (many number : ℕ) (ms : List Mention) (rest : List (List Mention)) (row new : List (Option ℕ))
    → AreFirstFrom kind count many (number + 1) rest row → length new ≡ length row
    → ((k : ℕ) → k < length row → entry new k ≡ noted (count number && has kind k ms) number (entry row k))
    → AreFirstFrom kind count many number (ms ∷ rest) new
first_before kind count many number ms rest row new h size step = record {
  size = size ∙ h.size;
  entries = λ k lt. step k (omega (arith, h.size)) ∙ ap (noted (count number && has kind k ms) number) (h.entries k lt);
}
