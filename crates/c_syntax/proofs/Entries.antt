-- Declarations that share their specifiers, where one more is put after them.
use Rattle.std.proofs.Common.{◌≡◌, ℕ, zero, suc, List, [], ◌∷◌, ◌++◌, length, slice_get, Option, Some, None, refl, sym, ◌∙◌, subst}
use Rattle.std.proofs.lemmas.List.{map-append}
use Rattle.c_syntax.specs.declared.declaration.Decl.{Decl}
use Rattle.c_syntax.specs.declared.decl_table.Entry.{Entry}
use Rattle.c_syntax.specs.Alike.{AreAlike}
use Rattle.c_syntax.specs.Entries.{AreLikeFirsts, decls_of}

-- both are alike to a third
pub alike_by : (a b c : Option Decl) → AreAlike a c → AreAlike b c → AreAlike a b
alike_by (Some a) (Some b) (Some c) h k = (h.0 ∙ sym k.0, h.1 ∙ sym k.1)
alike_by (Some a) (Some b) None h k = absurd h
alike_by (Some a) None c h k = absurd k
alike_by None b c h k = absurd h

-- what is found stays where it is
stays : (ds es : List Decl) (i : ℕ) (a : Option Decl) → AreAlike a (slice_get ds i) → AreAlike a (slice_get (ds ++ es) i)
stays [] es i (Some a) h = absurd h
stays [] es i None h = absurd h
stays (d ∷ ds) es zero a h = h
stays (d ∷ ds) es (suc i) a h = stays ds es i a h

pub all_stay : (ds es : List Decl) (ns : List Entry) → AreLikeFirsts ds ns → AreLikeFirsts (ds ++ es) ns
all_stay ds es [] h = tt
all_stay ds es (n ∷ ns) h = (stays ds es n.first.0 (Some n.decl) h.0, all_stay ds es ns h.1)

put : (ds : List Decl) (ns : List Entry) (e : Entry) → AreLikeFirsts ds ns → AreAlike (Some e.decl) (slice_get ds e.first.0) → AreLikeFirsts ds (ns ++ e ∷ [])
put ds [] e h k = (k, tt)
put ds (n ∷ ns) e h k = (h.0, put ds ns e h.1 k)

-- one more, which is like its first one
pub with_one : (ns : List Entry) (e : Entry) → AreLikeFirsts (decls_of ns) ns → AreAlike (Some e.decl) (slice_get (decls_of ns ++ e.decl ∷ []) e.first.0) → AreLikeFirsts (decls_of (ns ++ e ∷ [])) (ns ++ e ∷ [])
with_one ns e h k =
    subst (λ ds. AreLikeFirsts ds (ns ++ e ∷ [])) (sym (map-append (λ (x : Entry). x.decl) ns (e ∷ [])))
    (put (decls_of ns ++ e.decl ∷ []) ns e (all_stay (decls_of ns) (e.decl ∷ []) ns h) k)

-- the last is itself
pub last_there : (ds : List Decl) (d : Decl) → slice_get (ds ++ d ∷ []) (length ds) ≡ Some d
last_there [] d = refl
last_there (x ∷ ds) d = last_there ds d

-- each is like its first one
pub first_there : (ds : List Decl) (ns : List Entry) (i : ℕ) (e : Entry) → AreLikeFirsts ds ns → slice_get ns i ≡ Some e → AreAlike (Some e.decl) (slice_get ds e.first.0)
first_there ds [] i e h k = absurd cc
first_there ds (n ∷ ns) zero e h k = let same : n ≡ e = cc in subst (λ (x : Entry). AreAlike (Some x.decl) (slice_get ds x.first.0)) same h.0
first_there ds (n ∷ ns) (suc i) e h k = first_there ds ns i e h.1 k

-- two of which the first ones are one
pub share_first : (ns : List Entry) (i j : ℕ) (d e : Entry) → AreLikeFirsts (decls_of ns) ns → slice_get ns i ≡ Some d → slice_get ns j ≡ Some e → d.first.0 ≡ e.first.0 → AreAlike (Some d.decl) (Some e.decl)
share_first ns i j d e h k l f =
    alike_by (Some d.decl) (Some e.decl) (slice_get (decls_of ns) e.first.0)
    (subst (λ n. AreAlike (Some d.decl) (slice_get (decls_of ns) n)) f (first_there (decls_of ns) ns i d h k))
    (first_there (decls_of ns) ns j e h l)

-- one that shares nothing with others is like itself
pub like_itself : (ds : List Decl) (d : Decl) → AreAlike (Some d) (slice_get (ds ++ d ∷ []) (length ds))
like_itself ds d = subst (AreAlike (Some d)) (sym (last_there ds d)) (refl, refl)
