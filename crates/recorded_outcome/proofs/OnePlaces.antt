-- A cut and the strings of its source have their places in one way.
use Rattle.std.proofs.Common.{◌≡◌, ℕ, zero, suc, ◌+◌, ◌-◌, Bool, true, false, List, [], ◌∷◌, ◌++◌, drop, get_or, length, replicate, take, Option, Some, None, refl, sym, ap, ◌∙◌}
use Rattle.std.specs.Prelude.{slice_get}
use Rattle.marks.specs.declared.side.Side.TheVariants.{Replay, System}
use Rattle.marks.specs.Ranges.{bytes_of_number}
use Rattle.memory_map.specs.declared.placed.Place.{Place}
use Rattle.memory_map.specs.declared.placed.Placed.{Placed}
use Rattle.c_types_model.specs.Types.{CType, Void, Integer, PointerTo, ArrayOf, StructOf, UndefinedStruct, FunctionOf}
use Rattle.c_types_model.specs.declared.extent.Extent.{Extent}
use Rattle.c_types_rules.specs.Initials.{Known, Initial, Initials, Number, AddressOfText, AddressOfGlobal, AddressOfFunction, Scalar, Bytes, Listed, NoInitials, MoreInitials, types_in}
use Rattle.c_types_rules.specs.Sources.{Global, Program}
use Rattle.c_semantics.specs.Context.{Source, address_of, member_offset, order_of, size_of}
use Rattle.cut_graph_rules.specs.Findings.{Cut, May}
use Rattle.isolation_check_rules.specs.declared.area.Area.{Area}
use Rattle.isolation_check_rules.specs.Areas.{AreAreas, LiesIn, above, below, shared, written}
use Rattle.isolation_check_rules.specs.Addresses.{addresses_from, first_ends}
use Rattle.isolation_check_rules.specs.Images.{elements, given_image, global_image, image, known_value, members, padded}
use Rattle.isolation_check_rules.specs.Places.{AreFlags, IsPlaced, Literal, addresses_of, bytes_in, global_extents, inits, inits_of, source_of}

-- ---- lists

same_list : {A : Type 0} (xs ys : List A) → length xs ≡ length ys → ((i : ℕ) (x y : A) → slice_get xs i ≡ Some x → slice_get ys i ≡ Some y → x ≡ y) → xs ≡ ys
same_list [] [] e h = refl
same_list [] (y ∷ ys) e h = absurd (cc e)
same_list (x ∷ xs) [] e h = absurd (cc e)
same_list (x ∷ xs) (y ∷ ys) e h =
    let rest : length xs ≡ length ys = cc e in
    ap (λ z. z ∷ xs) (h 0 x y refl refl) ∙ ap (λ zs. y ∷ zs) (same_list xs ys rest (λ i a b. h (suc i) a b))

places_same : (xs ys : List Place) → addresses_of xs ≡ addresses_of ys → inits_of xs ≡ inits_of ys → xs ≡ ys
places_same [] [] e f = refl
places_same [] (y ∷ ys) e f = absurd (cc e)
places_same (x ∷ xs) [] e f = absurd (cc e)
places_same (x ∷ xs) (y ∷ ys) e f =
    let addr : x.addr ≡ y.addr = ap (λ ns. get_or ns 0 0) e in
    let init : x.init ≡ y.init = ap (λ (bs : List (List ℕ)). get_or bs 0 []) f in
    let rest : xs ≡ ys = places_same xs ys (ap (drop 1) e) (ap (drop 1) f) in
    λ j. record { addr = addr j; init = init j } ∷ rest j

-- ---- flags

same_flag : (x y : Bool) → (x ≡ true → y ≡ true) → (y ≡ true → x ≡ true) → x ≡ y
same_flag true true to back = refl
same_flag true false to back = sym (to refl)
same_flag false true to back = back refl
same_flag false false to back = refl

flags_same : (p : Program) (P : ℕ → Type 0) (fs gs : List Bool) → AreFlags p P fs → AreFlags p P gs → fs ≡ gs
flags_same p P fs gs a b =
    same_list fs gs (a.each ∙ sym b.each) (λ i x y f g. same_flag x y (λ h. (b.exact i y g).1 ((a.exact i x f).0 h)) (λ h. (a.exact i x f).1 ((b.exact i y g).0 h)))

-- ---- areas

one_area : (c : Cut) (place : ℕ) (a b : Area) → LiesIn c place a → LiesIn c place b → a ≡ b
one_area c place a b (shared r s n) (shared r' s' n') = refl
one_area c place a b (shared r s n) (below r' s') = absurd (r' r)
one_area c place a b (shared r s n) (above s') = absurd (s' s)
one_area c place a b (shared r s n) (written r' w) = absurd (n w)
one_area c place a b (below r s) (shared r' s' n) = absurd (r r')
one_area c place a b (below r s) (below r' s') = refl
one_area c place a b (below r s) (above s') = absurd (s' s)
one_area c place a b (below r s) (written r' w) = absurd (r r')
one_area c place a b (above s) (shared r' s' n) = absurd (s s')
one_area c place a b (above s) (below r' s') = absurd (s s')
one_area c place a b (above s) (above s') = refl
one_area c place a b (above s) (written r' w) = refl
one_area c place a b (written r w) (shared r' s' n) = absurd (n w)
one_area c place a b (written r w) (below r' s') = absurd (r' r)
one_area c place a b (written r w) (above s') = refl
one_area c place a b (written r w) (written r' w') = refl

areas_same : (c : Cut) (us bs : List Area) → AreAreas c us → AreAreas c bs → us ≡ bs
areas_same c us bs h k = same_list us bs (h.each ∙ sym k.each) (λ i x y f g. one_area c i x y (h.lie i x f) (k.lie i y g))

-- ---- the bytes of globals, by the addresses alone

abbrev or_zero : Option ℕ → ℕ
or_zero (Some n) = n
or_zero None = 0

address_is : (ps : List Place) (n : ℕ) → address_of (slice_get ps n) ≡ or_zero (slice_get (addresses_of ps) n)
address_is [] n = refl
address_is (p ∷ ps) zero = refl
address_is (p ∷ ps) (suc n) = address_is ps n

address_same : (ps qs : List Place) (n : ℕ) → addresses_of ps ≡ addresses_of qs → address_of (slice_get ps n) ≡ address_of (slice_get qs n)
address_same ps qs n e = address_is ps n ∙ (ap (λ (ns : List ℕ). or_zero (slice_get ns n)) e ∙ sym (address_is qs n))

module _ (p : Program) (ls : List Literal) (q r : Placed) (globals : addresses_of q.globals ≡ addresses_of r.globals) (strings : addresses_of q.strings ≡ addresses_of r.strings) where
  abbrev x : Source
  x = source_of p ls q

  abbrev y : Source
  y = source_of p ls r

  known_same : (k : Known) → known_value x k ≡ known_value y k
  known_same (Number n) = refl
  known_same (AddressOfText from) = address_same q.strings r.strings (order_of from x.texts) strings
  known_same (AddressOfGlobal place) = address_same q.globals r.globals place globals
  known_same (AddressOfFunction from number) = refl

  mutual
    image_same : (a : Initial) (t : CType) → image x a t ≡ image y a t
    image_same (Scalar k) t = ap (bytes_of_number (size_of x t)) (known_same k)
    image_same (Bytes bytes) t = refl
    image_same (Listed us) (ArrayOf n t) = ap (padded (size_of x (ArrayOf n t))) (elements_same us t)
    image_same (Listed us) (StructOf number) = ap (padded (size_of x (StructOf number))) (members_same us number (types_in p.structs number) 0 0)
    image_same (Listed us) Void = refl
    image_same (Listed us) (Integer k) = refl
    image_same (Listed us) (PointerTo t) = refl
    image_same (Listed us) (UndefinedStruct tag) = refl
    image_same (Listed us) (FunctionOf s ts) = refl

    elements_same : (us : Initials) (t : CType) → elements x us t ≡ elements y us t
    elements_same NoInitials t = refl
    elements_same (MoreInitials a us) t = λ j. image_same a t j ++ elements_same us t j

    members_same : (us : Initials) (struct : ℕ) (ts : List CType) (place after : ℕ) → members x us struct ts place after ≡ members y us struct ts place after
    members_same NoInitials struct ts place after = refl
    members_same (MoreInitials a us) struct [] place after = refl
    members_same (MoreInitials a us) struct (t ∷ ts) place after = λ j.
        replicate (member_offset x (StructOf struct) place - after) 0 ++
        (image_same a t j ++ members_same us struct ts (place + 1) (member_offset x (StructOf struct) place + size_of x t) j)

  given_same : (o : Option Initial) (t : CType) → given_image x o t ≡ given_image y o t
  given_same (Some a) t = image_same a t
  given_same None t = refl

  global_same : (size : ℕ) (o : Option Initial) (t : CType) → global_image x size o t ≡ global_image y size o t
  global_same size o t = ap (λ bytes. take size (padded size bytes)) (given_same o t)

  inits_same : (gs : List Global) (es : List Extent) → inits x gs es ≡ inits y gs es
  inits_same [] es = refl
  inits_same (g ∷ gs) [] = refl
  inits_same (g ∷ gs) (e ∷ es) = λ j. global_same e.size g.value g.type j ∷ inits_same gs es j

-- ---- all places

pub one_placed : (c : Cut) (ls : List Literal) (q r : Placed) → IsPlaced c ls q → IsPlaced c ls r → q ≡ r
one_placed c ls q r h k =
    let areas : h.areas ≡ k.areas = areas_same c h.areas k.areas h.lie k.lie in
    let strings_at : addresses_of q.strings ≡ addresses_of r.strings = h.strings_at ∙ sym k.strings_at in
    let globals_at : addresses_of q.globals ≡ addresses_of r.globals =
    h.globals_at ∙ (ap (λ us. addresses_from (first_ends (bytes_in ls)) us (global_extents c.program)) areas ∙ sym k.globals_at) in
    let strings : q.strings ≡ r.strings = places_same q.strings r.strings strings_at (h.strings ∙ sym k.strings) in
    let images = inits_same c.program ls q r globals_at strings_at c.program.globals (global_extents c.program) in
    let globals : q.globals ≡ r.globals = places_same q.globals r.globals globals_at (h.globals ∙ (images ∙ sym k.globals)) in
    let replay : q.replay ≡ r.replay = flags_same c.program (May c Replay) q.replay r.replay h.replay k.replay in
    let system : q.system ≡ r.system = flags_same c.program (May c System) q.system r.system h.system k.system in
    let faces : q.faces ≡ r.faces = flags_same c.program (λ f. c.face f ≡ true) q.faces r.faces h.faces k.faces in
    λ j. record { globals = globals j; strings = strings j; replay = replay j; system = system j; faces = faces j }
