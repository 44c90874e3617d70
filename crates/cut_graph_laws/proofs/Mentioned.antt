-- What a part of a source mentions is granted where the whole is, and so is the global that a path begins with.
use Rattle.std.proofs.Common.{◌≡◌, ℕ, Bool, true, false, cond, List, [], ◌∷◌, ◌++◌, Option, Some, None, sym, subst}
use Rattle.std.specs.List.{Contains}
use Rattle.std.proofs.lemmas.List.Elements.{Contains-append_left, Contains-append_right, Contains-push}
use Rattle.marks.specs.declared.side.Side.{Side}
use Rattle.c_types_rules.specs.TypedTree.{Object, Value, PointerPlus, PlusPointer, PointerMinus, GlobalObject, LocalObject, TextObject, Pointed, Element, MemberOf, Constant, FunctionAddress, ReadOf, AddressOf, Convert, Negate, Complement, Arithmetic, PointerSum, PointerDifference, PointerComparison, Not, Both, Either, Choice, Sequence, Assigned, Changed, Moved, Stepped, CallOf, object_type}
use Rattle.c_semantics.specs.Context.{Source, is_face}
use Rattle.c_semantics.specs.Values.{array_origin, decayed, origin}
use Rattle.cut_graph_rules.specs.declared.mention.Mention.{Mention}
use Rattle.cut_graph_rules.specs.declared.mention.Mention.TheVariants.{Function, Global, Written}
use Rattle.cut_graph_rules.specs.Mentions.{object_mentions, root_written, value_mentions, written_at, written_under}
use Rattle.cut_graph_laws.specs.Granted.{Permits, called_side}

-- ---- the root of a path

root_of : (o : Option ℕ) (g : ℕ) → o ≡ Some g → Contains (written_at o) (Written g)
root_of o g e = subst (λ (x : Option ℕ). Contains (written_at x) (Written g)) (sym e) (Contains-push [] (Written g))

pub written_root : (o : Object) (g : ℕ) → origin o ≡ Some g → Contains (root_written o) (Written g)
written_root o g e = root_of (origin o) g e

one_of : (place g : ℕ) → Some place ≡ Some g → Contains (Global place ∷ []) (Global g)
one_of place g e = let same : place ≡ g = cc in subst (λ (n : ℕ). Contains (Global place ∷ []) (Global n)) same (Contains-push [] (Global place))

decayed_origin : (b : Bool) (o : Option ℕ) (g : ℕ) → cond b o None ≡ Some g → o ≡ Some g
decayed_origin true o g e = e
decayed_origin false o g e = absurd cc

mutual
  -- the global that a path begins with is mentioned
  pub origin_mentioned : (counts : Bool) (o : Object) (g : ℕ) → origin o ≡ Some g → Contains (object_mentions counts o) (Global g)
  origin_mentioned counts (GlobalObject from place t) g e = one_of place g e
  origin_mentioned counts (LocalObject place t) g e = absurd cc
  origin_mentioned counts (TextObject from n) g e = absurd cc
  origin_mentioned counts (Pointed v t) g e = absurd cc
  origin_mentioned counts (Element PointerPlus q i t) g e = Contains-append_left (value_mentions false counts q) (value_mentions counts counts i) (Global g) (array_mentioned counts q g e)
  origin_mentioned counts (Element PlusPointer q i t) g e = Contains-append_left (value_mentions false counts q) (value_mentions counts counts i) (Global g) (array_mentioned counts q g e)
  origin_mentioned counts (Element PointerMinus q i t) g e = absurd cc
  origin_mentioned counts (MemberOf o number t) g e = origin_mentioned counts o g e

  array_mentioned : (counts : Bool) (v : Value) (g : ℕ) → array_origin v ≡ Some g → Contains (value_mentions false counts v) (Global g)
  array_mentioned counts (AddressOf o t) g e = Contains-append_right (written_at (written_under false o t)) (object_mentions counts o) (Global g) (origin_mentioned counts o g (decayed_origin (decayed (object_type o) t) (origin o) g e))
  array_mentioned counts (Constant k n) g e = absurd cc
  array_mentioned counts (FunctionAddress from number t) g e = absurd cc
  array_mentioned counts (ReadOf o) g e = absurd cc
  array_mentioned counts (Convert t v) g e = absurd cc
  array_mentioned counts (Negate k v) g e = absurd cc
  array_mentioned counts (Complement k v) g e = absurd cc
  array_mentioned counts (Arithmetic op k a b) g e = absurd cc
  array_mentioned counts (PointerSum w q i size) g e = absurd cc
  array_mentioned counts (PointerDifference a b size) g e = absurd cc
  array_mentioned counts (PointerComparison op a b) g e = absurd cc
  array_mentioned counts (Not v) g e = absurd cc
  array_mentioned counts (Both a b) g e = absurd cc
  array_mentioned counts (Either a b) g e = absurd cc
  array_mentioned counts (Choice c a b) g e = absurd cc
  array_mentioned counts (Sequence a b) g e = absurd cc
  array_mentioned counts (Assigned o v) g e = absurd cc
  array_mentioned counts (Changed o op k v) g e = absurd cc
  array_mentioned counts (Moved o w i size) g e = absurd cc
  array_mentioned counts (Stepped o w u size) g e = absurd cc
  array_mentioned counts (CallOf f vs t) g e = absurd cc

-- ---- what is granted of mentions

module _ (s : Source) (p : Permits) where
  abbrev pub MentionGranted : Side → Mention → Type 0
  MentionGranted side (Function h) = p.may (called_side side (is_face s h)) h
  MentionGranted side (Global g) = p.touches side g
  MentionGranted side (Written g) = p.writes side g

  abbrev pub AllGranted : (C : Type 0) → Side → List Mention → Type 0
  AllGranted C side ms = C → (m : Mention) → Contains ms m → MentionGranted side m

  pub left : (C : Type 0) (side : Side) (xs ys : List Mention) → AllGranted C side (xs ++ ys) → AllGranted C side xs
  left C side xs ys ok c m k = ok c m (Contains-append_left xs ys m k)

  pub right : (C : Type 0) (side : Side) (xs ys : List Mention) → AllGranted C side (xs ++ ys) → AllGranted C side ys
  right C side xs ys ok c m k = ok c m (Contains-append_right xs ys m k)

  pub may_call : (C : Type 0) (side : Side) (h : ℕ) → AllGranted C side (Function h ∷ []) → C → p.may (called_side side (is_face s h)) h
  may_call C side h ok c = ok c (Function h) (Contains-push [] (Function h))

  pub may_touch : (C : Type 0) (side : Side) (counts : Bool) (o : Object) → AllGranted C side (object_mentions counts o) → C → (g : ℕ) → origin o ≡ Some g → p.touches side g
  may_touch C side counts o ok c g e = ok c (Global g) (origin_mentioned counts o g e)

  pub may_write : (C : Type 0) (side : Side) (o : Object) → AllGranted C side (root_written o) → C → (g : ℕ) → origin o ≡ Some g → p.writes side g
  may_write C side o ok c g e = ok c (Written g) (written_root o g e)
