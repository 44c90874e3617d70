-- What annotations say that keep their rules: sizes and keys of the right types, regions of pointers alone.
use Rattle.std.proofs.Common.{◌≡◌, ℕ, zero, suc, ◌+◌, Bool, true, false, not, ◌&&◌, ◌||◌, List, [], ◌∷◌, ◌++◌, map, Option, Some, None, refl, sym, ap, ◌∙◌, subst, arith}
use Rattle.std.specs.Prelude.{IfSome, if◌then◌else◌, is_some, is_none, slice_get, codes}
use Rattle.std.specs.List.{All}
use Rattle.std.proofs.lemmas.Option.{same_Some}
use Rattle.c_syntax.specs.Syntax.{Decl, Decls, Annots, Annot, Item, Atom, Parts, Rest, Declare, NoDecls, MoreDecls, NoAnnots, MoreAnnots, Annotate, OneFactor, TwoFactors, NameAtom, NumberAtom, ReturnAtom, SizeofAtom}
use Rattle.c_types_model.specs.Types.{CType, CTypes, Void, Integer, PointerTo, ArrayOf, StructOf, UndefinedStruct, FunctionOf, NoTypes, MoreTypes}
use Rattle.c_scopes.specs.Scopes.{same_name}
use Rattle.c_types_rules.specs.Checked.{Checked, Fine, keep, need, ◌>>=◌}
use Rattle.c_types_rules.specs.TypeTests.{is_integer, is_scalar}
use Rattle.c_types_rules.specs.Operators.{size_in}
use Rattle.c_types_rules.specs.TypeTests.{is_complete}
use Rattle.c_types_rules.specs.Environment.{Environment, extents, inner}
use Rattle.c_types_rules.specs.Expressions.{declared_type, parameter_scope}
use Rattle.c_code.specs.declared.shape.Shape.TheVariants as shapes
use Rattle.c_code.specs.Builtins.{Prototype, prototype}
use Rattle.c_semantics.specs.Context.{shape_of, shapes_of}
use Rattle.stub_core.specs.declared.terms.Term.TheVariants.{Const, Param, Return}
use Rattle.stub_core.specs.declared.terms.Size.{Size}
use Rattle.annot_reader_rules.specs.Misplaced.{bare_annots, bare_parts, bare_rest}
use Rattle.annot_reader_rules.specs.Notes.{Notes, Parameter}
use Rattle.annot_reader_rules.specs.Regions.{Marked, Signature, all_marked, alone, first_of, go_together, has_region, is_called, is_function_pointer, is_object_pointer, key_parameter, of_marked, one_item, parameter_named, parameter_notes, place_from, prepares_of, reads_of, size, size_or_own, target, term, unmarked, writes_of}
use Rattle.annot_reader_rules.specs.Functions.{FunctionKind, all_noted, all_parameters, among, bare_within, function_notes, is_empty, is_filled, mutex, named_parameters, names_in, no_holds, noted, nothing, own_parameters, result_parts, two_items}
use Rattle.stub_operations.specs.Operations.{CallSays, ParameterSays}
use Rattle.stub_meaning.specs.Rules.{IsCommitted, IsInteger, IsKey, IsPrepared, IsScalar, IsSize, IsTerm, IsWritten, KeepParameters, KeepsParameter, KeepsRules}
use Rattle.std.proofs.lemmas.List.Elements.{All-append}
use Rattle.c_lower_laws.proofs.Held.{Holds, holds_then, holds_on, holds_after, holds_kept, holds_both}
use Rattle.front_end_laws.proofs.Found.{holds_if, holds_need, holds_value, value}

-- ---- lists

all_push : {X : Type 0} (P : X → Type 0) (xs : List X) (x : X) → All P xs → P x → All P (xs ++ x ∷ [])
all_push P xs x all h = All-append P xs (x ∷ []) all one
  where
    one : All P (x ∷ [])
    one zero d l = h
    one (suc k) d l = absurd (omega arith)

-- ---- what notes say of calls

abbrev pub says_of : Parameter → ParameterSays
says_of p = record { reads = p.reads; writes = p.writes; prepares = p.prepares; callback = p.callback }

abbrev pub notes_say : Notes → CallSays
notes_say n = record { params = map says_of n.params; sync = n.sync; commit = n.commit; cache = n.cache }

abbrev pub prototype_of : CType → CTypes → Prototype
prototype_of r ts = prototype (shapes_of ts) (shape_of r)

-- ---- types and what values tell of them

integer : (u : CType) → is_integer u ≡ true → IsInteger (Some (shape_of u))
integer (Integer k) e = tt
integer Void e = absurd cc
integer (PointerTo t) e = absurd cc
integer (ArrayOf n t) e = absurd cc
integer (StructOf n) e = absurd cc
integer (UndefinedStruct tag) e = absurd cc
integer (FunctionOf r ts) e = absurd cc

scalar : (u : CType) → is_scalar u ≡ true → IsScalar (Some (shape_of u))
scalar (Integer k) e = tt
scalar (PointerTo t) e = tt
scalar Void e = absurd cc
scalar (ArrayOf n t) e = absurd cc
scalar (StructOf n) e = absurd cc
scalar (UndefinedStruct tag) e = absurd cc
scalar (FunctionOf r ts) e = absurd cc

object_pointer : (u : CType) → is_object_pointer u ≡ true → shape_of u ≡ shapes.Pointer
object_pointer (PointerTo t) e = refl
object_pointer Void e = absurd cc
object_pointer (Integer k) e = absurd cc
object_pointer (ArrayOf n t) e = absurd cc
object_pointer (StructOf n) e = absurd cc
object_pointer (UndefinedStruct tag) e = absurd cc
object_pointer (FunctionOf r ts) e = absurd cc

function_pointer : (u : CType) → is_function_pointer u ≡ true → (shape_of u ≡ shapes.Pointer) × (is_object_pointer u ≡ false)
function_pointer (PointerTo t) e = (refl, ap not e)
function_pointer Void e = absurd cc
function_pointer (Integer k) e = absurd cc
function_pointer (ArrayOf n t) e = absurd cc
function_pointer (StructOf n) e = absurd cc
function_pointer (UndefinedStruct tag) e = absurd cc
function_pointer (FunctionOf r ts) e = absurd cc

both_left : (a b : Bool) → (a && b) ≡ true → a ≡ true
both_left true b e = refl
both_left false b e = absurd cc

both_right : (a b : Bool) → (a && b) ≡ true → b ≡ true
both_right true b e = e
both_right false b e = absurd cc

-- ---- parameters by name

named : (at : ℕ) (name : List ℕ) (ds : Decls) (ts : CTypes) (p : ℕ × CType) → place_from at name (named_parameters ds ts) ≡ Some p →
    (k : ℕ) × (p.0 ≡ at + k) × (slice_get (shapes_of ts) k ≡ Some (shape_of p.1))
named at name NoDecls ts p e = absurd cc
named at name (MoreDecls d ds) NoTypes p e = absurd (none d e)
  where
    none : (d : Decl) → place_from at name (named_parameters (MoreDecls d ds) NoTypes) ≡ Some p → ⊥
    none (Declare from an b ps n r) h = absurd cc
named at name (MoreDecls (Declare from an b ps n r) ds) (MoreTypes t ts) p e = by (is_called name n) (λ h. named (suc at) name ds ts p h) e
  where
    by : (b : Bool) → (place_from (suc at) name (named_parameters ds ts) ≡ Some p → (k : ℕ) × (p.0 ≡ suc at + k) × (slice_get (shapes_of ts) k ≡ Some (shape_of p.1))) →
        (if b then Some (at, t) else place_from (suc at) name (named_parameters ds ts)) ≡ Some p →
        (k : ℕ) × (p.0 ≡ at + k) × (slice_get (shapes_of (MoreTypes t ts)) k ≡ Some (shape_of p.1))
    by true later h = let is : (at, t) ≡ p = same_Some (at, t) p h in
        let first : at ≡ p.0 = ap (λ (x : ℕ × CType). x.0) is in
        let second : t ≡ p.1 = ap (λ (x : ℕ × CType). x.1) is in
        (0, omega (arith, first), ap (λ u. Some (shape_of u)) second)
    by false later h = let found = later h in (suc found.0, let e = found.1 in omega (arith, e), found.2)

-- ---- what a function's annotations may speak of

-- its parameters and its result have these types, as far as values tell
pub record Fits (t : Prototype) (s : Signature) : Type 0 where
  pub params : (name : List ℕ) (p : ℕ × CType) → parameter_named s name ≡ Some p → slice_get t.params p.0 ≡ Some (shape_of p.1)
  pub result : t.result ≡ shape_of s.result

module _ (t : Prototype) (s : Signature) (fits : Fits t s) where
  keys : (x : Item) → Holds (IsKey t) (key_parameter s x)
  keys (OneFactor from (NameAtom name)) = holds_need (IsKey t) from 7 (parameter_named s name) _
      (λ p e. holds_kept (IsKey t) from 7 (is_scalar p.1) (Fine p.0) (λ h. subst IsScalar (sym (fits.params name p e)) (scalar p.1 h)))
  keys (OneFactor from (NumberAtom n)) = tt
  keys (OneFactor from ReturnAtom) = tt
  keys (OneFactor from (SizeofAtom d)) = tt
  keys (TwoFactors from a b) = tt

  terms : (from : ℕ) (known : Bool) (a : Atom) → Holds (IsTerm t known) (term s from known a)
  terms from known (NameAtom name) = holds_need (IsTerm t known) from 4 (parameter_named s name) _
      (λ p e. holds_kept (IsTerm t known) from 4 (is_integer p.1) (Fine (Param p.0)) (λ h. subst IsInteger (sym (fits.params name p e)) (integer p.1 h)))
  terms from known (NumberAtom n) = tt
  terms from known ReturnAtom = holds_kept (IsTerm t known) from 4 (known && is_integer s.result) (Fine Return)
      (λ h. (both_left known (is_integer s.result) h, subst (λ x. IsInteger (Some x)) (sym fits.result) (integer s.result (both_right known (is_integer s.result) h))))
  terms from known (SizeofAtom d) = holds_on (IsTerm t known) (declared_type d s.env) _ (λ u. tt)

  sizes : (known : Bool) (x : Item) → Holds (IsSize t known) (size s known x)
  sizes known (OneFactor from a) = holds_then (IsTerm t known) (IsSize t known) (term s from known a) _ (terms from known a) (λ x h. (h, tt))
  sizes known (TwoFactors from a b) = holds_then (IsTerm t known) (IsSize t known) (term s from known a) _ (terms from known a)
      (λ x h. holds_then (IsTerm t known) (IsSize t known) (term s from known b) _ (terms from known b) (λ y k. (h, k)))

  sizes_or_own : (from : ℕ) (known : Bool) (u : CType) (o : Option Item) → Holds (IsSize t known) (size_or_own s from known u o)
  sizes_or_own from known u (Some x) = sizes known x
  sizes_or_own from known u None = holds_kept (IsSize t known) from 6 (is_complete (extents s.env) u) (Fine (record { a = Const (size_in (extents s.env) u); b = None })) (λ e. (tt, tt))

  -- ---- regions of one parameter

  abbrev read_item : Marked → Bool → Option Item
  read_item m out = if out then first_of m.cap m.bsize else m.bsize

  abbrev Reads : (from : ℕ) → CType → Marked → Option Size → Type 0
  Reads from u m o = (m.has_in ≡ false → o ≡ None) ×
      IfSome o (λ z. IsSize t false z × (value (size_or_own s from false u (read_item m m.has_out)) ≡ Some z))

  reads : (from : ℕ) (u : CType) (m : Marked) → Holds (Reads from u m) (reads_of s from u m)
  reads from u m = by m.has_in refl
    where
      one : Checked Size
      one = size_or_own s from false u (read_item m m.has_out)

      by : (b : Bool) → m.has_in ≡ b → Holds (Reads from u m) (if not b then Fine None else (one >>= λ z. Fine (Some z)))
      by true e = holds_then (λ z. IsSize t false z × (value one ≡ Some z)) (Reads from u m) one (λ z. Fine (Some z))
          (holds_both (IsSize t false) (λ z. value one ≡ Some z) one (sizes_or_own from false u (read_item m m.has_out)) (holds_value one))
          (λ z h. (λ no. let bad : true ≡ false = sym e ∙ no in absurd cc, h))
      by false e = (λ no. refl, tt)

  abbrev Writes : (from : ℕ) → CType → Marked → Option (Size × Size) → Type 0
  Writes from u m o = (m.has_out ≡ false → o ≡ None) ×
      IfSome o (λ w. IsWritten t w × (value (size_or_own s from false u (first_of m.cap m.bsize)) ≡ Some w.0))

  writes : (from : ℕ) (u : CType) (m : Marked) → Holds (Writes from u m) (writes_of s from u m)
  writes from u m = by m.has_out refl
    where
      cap : Checked Size
      cap = size_or_own s from false u (first_of m.cap m.bsize)

      used : Checked Size
      used = size_or_own s from true u (first_of m.bsize m.cap)

      by : (b : Bool) → m.has_out ≡ b → Holds (Writes from u m) (if not b then Fine None else (cap >>= λ capacity. used >>= λ u2. Fine (Some (capacity, u2))))
      by true e = holds_then (λ z. IsSize t false z × (value cap ≡ Some z)) (Writes from u m) cap (λ capacity. used >>= λ u2. Fine (Some (capacity, u2)))
          (holds_both (IsSize t false) (λ z. value cap ≡ Some z) cap (sizes_or_own from false u (first_of m.cap m.bsize)) (holds_value cap))
          (λ z h. holds_then (IsSize t true) (Writes from u m) used (λ u2. Fine (Some (z, u2))) (sizes_or_own from true u (first_of m.bsize m.cap))
          (λ u2 k. (λ no. let bad : true ≡ false = sym e ∙ no in absurd cc, ((h.0, k), h.1))))
      by false e = (λ no. refl, tt)

  abbrev Prepares : Option Item → Option (ℕ × Size) → Type 0
  Prepares o p = (o ≡ None → p ≡ None) × IfSome p (IsPrepared t)

  prepares : (from : ℕ) (u : CType) (m : Marked) (o : Option Item) → Holds (Prepares o) (prepares_of s from u m o)
  prepares from u m None = (λ no. refl, tt)
  prepares from u m (Some x) = holds_then (IsKey t) (Prepares (Some x)) (key_parameter s x) _ (keys x)
      (λ key h. holds_then (IsSize t false) (Prepares (Some x)) (size_or_own s from false u m.cap) _ (sizes_or_own from false u m.cap)
      (λ capacity k. (λ no. absurd cc, (h, k))))

  -- ---- one parameter

  region_left : (i o p : Bool) → i ≡ true → (i || (o || p)) ≡ true
  region_left i o p e = ap (λ b. b || (o || p)) e

  region_middle : (i o p : Bool) → o ≡ true → (i || (o || p)) ≡ true
  region_middle true o p e = refl
  region_middle false o p e = ap (λ b. b || p) e

  region_right : (i o p : Bool) → p ≡ true → (i || (o || p)) ≡ true
  region_right true o p e = refl
  region_right false true p e = refl
  region_right false false p e = e

  region_none : (i o p : Bool) → (i || (o || p)) ≡ false → (i ≡ false) × (o ≡ false) × (p ≡ false)
  region_none true o p e = absurd cc
  region_none false true p e = absurd cc
  region_none false false p e = (refl, refl, e)

  pointer_of : (b : Bool) (u : CType) → (not b || is_object_pointer u) ≡ true → b ≡ true → shape_of u ≡ shapes.Pointer
  pointer_of true u e h = object_pointer u e
  pointer_of false u e h = absurd cc

  no_region : (b o : Bool) → (not b || o) ≡ true → o ≡ false → b ≡ false
  no_region true o e h = let bad : true ≡ false = sym e ∙ h in absurd cc
  no_region false o e h = refl

  is_callback : (b f : Bool) → (not b || f) ≡ true → b ≡ true → f ≡ true
  is_callback true f e h = e
  is_callback false f e h = absurd cc

  -- what isn't false is true
  is_there : {A : Type 0} (b : Bool) (x : A) (o : Option A) → o ≡ Some x → (b ≡ false → o ≡ None) → b ≡ true
  is_there true x o e h = refl
  is_there false x o e h = let bad : Some x ≡ None = sym e ∙ h refl in absurd cc

  some_there : {A B : Type 0} (m : Option A) (x : B) (o : Option B) → o ≡ Some x → (m ≡ None → o ≡ None) → is_some m ≡ true
  some_there (Some y) x o e h = refl
  some_there None x o e h = let bad : Some x ≡ None = sym e ∙ h refl in absurd cc

  alone_of : (p : Option Item) (i o c : Bool) → ((is_none p || not (i || o)) && c) ≡ true → is_some p ≡ true → (i ≡ false) × (o ≡ false)
  alone_of None i o c e h = absurd cc
  alone_of (Some x) true o c e h = absurd cc
  alone_of (Some x) false true c e h = absurd cc
  alone_of (Some x) false false c e h = (refl, refl)

  none_of : {A : Type 0} (m : Option A) → is_some m ≡ false → m ≡ None
  none_of None e = refl
  none_of (Some x) e = absurd cc

  module _ (from : ℕ) (u : CType) (m : Marked) (r : Option Size) (w : Option (Size × Size)) (p : Option (ℕ × Size))
      (region : (not (has_region m) || is_object_pointer u) ≡ true) (callback : (not m.callback || is_function_pointer u) ≡ true)
      (together : go_together m ≡ true) (hr : Reads from (target u) m r) (hw : Writes from (target u) m w) (hp : Prepares m.prepare p) where
    read_fits : (o : Option Size) → r ≡ o → IfSome o (λ z. (shape_of u ≡ shapes.Pointer) × IsSize t false z)
    read_fits None e = tt
    read_fits (Some z) e =
        let has : m.has_in ≡ true = is_there m.has_in z r e hr.0 in
        let h : IfSome (Some z) (λ z. IsSize t false z × (value (size_or_own s from false (target u) (read_item m m.has_out)) ≡ Some z)) = subst (λ (o : Option Size). IfSome o (λ z. IsSize t false z × (value (size_or_own s from false (target u) (read_item m m.has_out)) ≡ Some z))) e hr.1 in
        (pointer_of (has_region m) u region (region_left m.has_in m.has_out (is_some m.prepare) has), h.0)

    write_fits : (o : Option (Size × Size)) → w ≡ o → IfSome o (λ z. (shape_of u ≡ shapes.Pointer) × IsWritten t z)
    write_fits None e = tt
    write_fits (Some z) e =
        let has : m.has_out ≡ true = is_there m.has_out z w e hw.0 in
        let h : IfSome (Some z) (λ w. IsWritten t w × (value (size_or_own s from false (target u) (first_of m.cap m.bsize)) ≡ Some w.0)) = subst (λ (o : Option (Size × Size)). IfSome o (λ w. IsWritten t w × (value (size_or_own s from false (target u) (first_of m.cap m.bsize)) ≡ Some w.0))) e hw.1 in
        (pointer_of (has_region m) u region (region_middle m.has_in m.has_out (is_some m.prepare) has), h.0)

    prepare_fits : (o : Option (ℕ × Size)) → p ≡ o → IfSome o (λ z. (shape_of u ≡ shapes.Pointer) × IsPrepared t z × (r ≡ None) × (w ≡ None))
    prepare_fits None e = tt
    prepare_fits (Some z) e =
        let has : is_some m.prepare ≡ true = some_there m.prepare z p e hp.0 in
        let h : IsPrepared t z = subst (λ (o : Option (ℕ × Size)). IfSome o (IsPrepared t)) e hp.1 in
        let free = alone_of m.prepare m.has_in m.has_out _ together has in
        (pointer_of (has_region m) u region (region_right m.has_in m.has_out (is_some m.prepare) has), h, hr.0 free.0, hw.0 free.1)

    whole_fits : (o : Option (Size × Size)) (q : Option Size) → w ≡ o → r ≡ q → IfSome o (λ z. IfSome q (λ y. y ≡ z.0))
    whole_fits None q e f = tt
    whole_fits (Some z) None e f = tt
    whole_fits (Some z) (Some y) e f =
        let has : m.has_out ≡ true = is_there m.has_out z w e hw.0 in
        let cap : IsWritten t z × (value (size_or_own s from false (target u) (first_of m.cap m.bsize)) ≡ Some z.0) = subst (λ (o : Option (Size × Size)). IfSome o (λ w. IsWritten t w × (value (size_or_own s from false (target u) (first_of m.cap m.bsize)) ≡ Some w.0))) e hw.1 in
        let read : IsSize t false y × (value (size_or_own s from false (target u) (read_item m m.has_out)) ≡ Some y) = subst (λ (o : Option Size). IfSome o (λ z. IsSize t false z × (value (size_or_own s from false (target u) (read_item m m.has_out)) ≡ Some z))) f hr.1 in
        same_Some y z.0 (sym read.1 ∙ (ap (λ b. value (size_or_own s from false (target u) (read_item m b))) has ∙ cap.1))

    callback_fits : m.callback ≡ true → (shape_of u ≡ shapes.Pointer) × (r ≡ None) × (w ≡ None) × (p ≡ None)
    callback_fits e =
        let f = function_pointer u (is_callback m.callback (is_function_pointer u) callback e) in
        let none = region_none m.has_in m.has_out (is_some m.prepare) (no_region (has_region m) (is_object_pointer u) region f.1) in
        (f.0, hr.0 none.0, hw.0 none.1, hp.0 (none_of m.prepare none.2))

    kept : KeepsParameter t (shape_of u) (says_of (record { reads = r; writes = w; prepares = p; callback = m.callback }))
    kept = record {
      reads = read_fits r refl;
      writes = write_fits w refl;
      prepares = prepare_fits p refl;
      whole = whole_fits w r refl refl;
      callback = callback_fits;
    }

  abbrev Keeps : CType → Parameter → Type 0
  Keeps u x = KeepsParameter t (shape_of u) (says_of x)

  marked_keeps : (from : ℕ) (u : CType) (m : Marked) → Holds (Keeps u) (of_marked s from u m)
  marked_keeps from u m =
      holds_kept (Keeps u) from 3 (not (has_region m) || is_object_pointer u) _
      (λ region. holds_kept (Keeps u) from 3 (not m.callback || is_function_pointer u) _
      (λ callback. holds_kept (Keeps u) from 5 (go_together m) _
      (λ together. holds_then (Reads from (target u) m) (Keeps u) (reads_of s from (target u) m) _ (reads from (target u) m)
      (λ r hr. holds_then (Writes from (target u) m) (Keeps u) (writes_of s from (target u) m) _ (writes from (target u) m)
      (λ w hw. holds_then (Prepares m.prepare) (Keeps u) (prepares_of s from (target u) m m.prepare) _ (prepares from (target u) m m.prepare)
      (λ p hp. kept from u m r w p region callback together hr hw hp))))))

  pub parameter_keeps : (d : Decl) (u : CType) → Holds (Keeps u) (parameter_notes s d u)
  parameter_keeps (Declare from an b ps n r) u = holds_on (Keeps u) (all_marked an unmarked) _ (λ m. marked_keeps from u m)

  -- ---- the annotations of the function itself

  pub record KeepKeys (n : Notes) : Type 0 where
    pub sync : All (IsKey t) n.sync
    pub commit : IfSome n.commit (IsCommitted t)

  one_word : (x : Annot) (k : FunctionKind) (n : Notes) → KeepKeys n → Holds KeepKeys (noted x s k n)
  one_word (Annotate from word is) k n h =
      holds_if KeepKeys (same_name word (codes "cut")) _ _
      (holds_after KeepKeys (keep from 1 (is_filled is)) _ (holds_after KeepKeys _ _ (holds_after KeepKeys (keep from 9 (not k.is_main)) _
      (holds_on KeepKeys (names_in from is) _ (λ names. record { sync = h.sync; commit = h.commit })))))
      (holds_if KeepKeys (same_name word (codes "sync")) _ _
      (holds_on KeepKeys (need from 1 (one_item is)) _
      (λ x. holds_then (IsKey t) KeepKeys (key_parameter s x) _ (keys x) (λ p key. holds_after KeepKeys (keep from 2 (not (among p n.sync))) _
      (record { sync = all_push (IsKey t) n.sync p h.sync key; commit = h.commit }))))
      (holds_if KeepKeys (same_name word (codes "commit")) _ _
      (holds_on KeepKeys (need from 1 (two_items is)) _
      (λ xs. holds_after KeepKeys (keep from 2 (is_none n.commit)) _ (holds_then (IsKey t) KeepKeys (key_parameter s xs.0) _ (keys xs.0)
      (λ key hk. holds_then (IsSize t true) KeepKeys (size s true xs.1) _ (sizes true xs.1) (λ used hu. record { sync = h.sync; commit = (hk, hu) })))))
      (holds_if KeepKeys (same_name word (codes "cache")) _ _
      (holds_after KeepKeys (alone from is n.cache) _ (record { sync = h.sync; commit = h.commit }))
      (holds_if KeepKeys (same_name word (codes "holds")) _ _
      (holds_on KeepKeys (need from 1 (one_item is)) _
      (λ x. holds_on KeepKeys (mutex x) _ (λ m. holds_after KeepKeys (keep from 2 (not (among m n.holds))) _ (holds_after KeepKeys (keep from 9 (not k.is_main)) _
      (holds_after KeepKeys (keep from 8 k.has_body) _ (record { sync = h.sync; commit = h.commit }))))))
      tt))))

  pub all_words : (xs : Annots) (k : FunctionKind) (n : Notes) → KeepKeys n → Holds KeepKeys (all_noted xs s k n)
  all_words NoAnnots k n h = h
  all_words (MoreAnnots x xs) k n h = holds_then KeepKeys KeepKeys (noted x s k n) (λ m. all_noted xs s k m) (one_word x k n h) (λ m g. all_words xs k m g)

-- ---- all parameters

-- there is a declaration for each type
abbrev pub Enough : Decls → CTypes → Type 0
Enough ds NoTypes = Unit {0}
Enough NoDecls (MoreTypes t ts) = ⊥
Enough (MoreDecls d ds) (MoreTypes t ts) = Enough ds ts

abbrev elsewhere : Signature → Environment → Signature
elsewhere s env = record s { env = env }

fits_elsewhere : (t : Prototype) (s : Signature) (env : Environment) → Fits t s → Fits t (elsewhere s env)
fits_elsewhere t s env f = record { params = f.params; result = f.result }

all_keep : (t : Prototype) (s : Signature) (ds : Decls) (place : ℕ) (ts : CTypes) → Fits t s → Enough ds ts →
    Holds (λ ps. KeepParameters t (shapes_of ts) (map says_of ps)) (all_parameters ds s place ts)
all_keep t s NoDecls place NoTypes f e = tt
all_keep t s NoDecls place (MoreTypes u ts) f e = absurd e
all_keep t s (MoreDecls d ds) place NoTypes f e = tt
all_keep t s (MoreDecls d ds) place (MoreTypes u ts) f e =
    let whole : List Parameter → Type 0 = λ ps. KeepParameters t (shapes_of (MoreTypes u ts)) (map says_of ps) in
    holds_after whole (bare_within d) _ (holds_then (Keeps t s f u) whole (parameter_notes s d u) _ (parameter_keeps t s f d u)
    (λ p h. holds_on whole (parameter_scope d s.env place u) _
    (λ further. holds_then (λ ps. KeepParameters t (shapes_of ts) (map says_of ps)) whole (all_parameters ds (elsewhere s further) (place + 1) ts) _
    (all_keep t (elsewhere s further) ds (place + 1) ts (fits_elsewhere t s further f) e) (λ ps g. (h, g)))))

-- ---- functions

abbrev signature : Parts → CType → CTypes → Environment → Signature
signature ps r ts env = record { params = named_parameters (own_parameters ps) ts; result = r; env = env }

signature_fits : (ps : Parts) (r : CType) (ts : CTypes) (env : Environment) → Fits (prototype_of r ts) (signature ps r ts env)
signature_fits ps r ts env = record {
  params = λ name p e.
      let found = named 0 name (own_parameters ps) ts p e in
      let counted = found.1 in
      let here : p.0 ≡ found.0 = omega (arith, counted) in
      ap (slice_get (shapes_of ts)) here ∙ found.2;
  result = refl;
}

no_keys : (t : Prototype) (s : Signature) (f : Fits t s) → KeepKeys t s f nothing
no_keys t s f = record { sync = λ k d l. absurd (omega arith); commit = tt }

-- what the first declaration of a function says keeps the rules for its type
pub function_keeps : (env : Environment) (k : FunctionKind) (from : ℕ) (an : Annots) (b : _) (ps : Parts) (n : Option (List ℕ)) (rest : Rest) (r : CType) (ts : CTypes) →
    Enough (own_parameters ps) ts → Holds (λ m. KeepsRules (prototype_of r ts) (notes_say m)) (function_notes env k (Declare from an b ps n rest) r ts)
function_keeps env k from an b ps n rest r ts e =
    let t : Prototype = prototype_of r ts in
    let s : Signature = signature ps r ts env in
    let f : Fits t s = signature_fits ps r ts env in
    let whole : Notes → Type 0 = λ m. KeepsRules t (notes_say m) in
    holds_after whole (bare_annots an) _ (holds_after whole (bare_parts (result_parts ps)) _ (holds_after whole (bare_rest rest) _
    (holds_then (KeepKeys t s f) whole (all_noted an s k nothing) _ (all_words t s f an k nothing (no_keys t s f))
    (λ m h. holds_after whole (keep from 8 (no_holds m.holds || is_empty m.cuts)) _
    (holds_then (λ xs. KeepParameters t (shapes_of ts) (map says_of xs)) whole (all_parameters (own_parameters ps) (elsewhere s (inner env)) 0 ts) _
    (all_keep t (elsewhere s (inner env)) (own_parameters ps) 0 ts (fits_elsewhere t s (inner env) f) e)
    (λ xs g. record { params = g; sync = h.sync; commit = h.commit }))))))
