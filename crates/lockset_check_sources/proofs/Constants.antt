-- In a table of typed nodes integer constants are of their kinds, and so they are in what stands for a body.
use Rattle.std.proofs.Common.{◌≡◌, ℕ, zero, suc, ◌<◌, List, [], ◌∷◌, length, Some, refl, sym, ap, ◌∙◌, subst, arith}
use Rattle.std.specs.Prelude.{slice_get}
use Rattle.std.specs.List.{All}
use Rattle.std.proofs.lemmas.List.Elements.{All-head, All-tail}
use Rattle.r2_num.specs.Kinds.{IsValue}
use Rattle.c_types_model.specs.Types.{CType, Integer}
use Rattle.c_builtins.specs.declared.builtin.Builtin.{Builtin}
use Rattle.c_builtins.specs.declared.builtin.Builtin.TheVariants.{Malloc, Free, Spawn, Join, Lock, Unlock, Print}
use Rattle.c_types_rules.specs.TypedTree.{Object, Value, Values, Callee, Typed, AnObject, AFunction, AValue, GlobalObject, LocalObject, TextObject, Pointed, Element, MemberOf, Constant, FunctionAddress, ReadOf, AddressOf, Convert, Negate, Complement, Arithmetic, PointerSum, PointerDifference, PointerComparison, Not, Both, Either, Choice, Sequence, Assigned, Changed, Moved, Stepped, CallOf, NoValues, MoreValues, SourceFunction, BuiltinFunction, Through, value_type, typed_type}
use Rattle.c_types_nodes.specs.declared.ids.NodeId.{NodeId}
use Rattle.c_types_nodes.specs.declared.node.Node.{Node}
use Rattle.c_types_nodes.specs.declared.node.Node.TheVariants as nodes
use Rattle.c_types_nodes.specs.Parts.{IsAValue, IsMadeOf, IsRightType, made, part, typed, typed_in, values}
use Rattle.c_types_nodes.specs.Tables.{IsTable, IsValueAt, Table, made_in, typed_of, value_at}
use Rattle.c_types_nodes.proofs.Growing.{node_within}
use Rattle.c_types_table.specs.Tables.{types_of}
use Rattle.lockset_check_threads.specs.Typed.{AllOfKinds, HasConstants, InCallee, InObject, InValue, InValues, IsConstantCall, IsOfKinds}

module _ (xs : List Typed) where
  -- it stands for a node
  abbrev HasValue : Value → Type 0
  HasValue v = (id : NodeId) × (part xs id ≡ Some (AValue v))

  abbrev HasObject : Object → Type 0
  HasObject o = (id : NodeId) × (part xs id ≡ Some (AnObject o))

  abbrev HasCallee : Callee → Type 0
  HasCallee f = (id : NodeId) × (t : CType) × (part xs id ≡ Some (AFunction f t))

  abbrev HaveValues : Values → Type 0
  HaveValues NoValues = Unit {0}
  HaveValues (MoreValues v vs) = HasValue v × HaveValues vs

  -- its parts stand for nodes, and operands are of one kind
  abbrev ObjectMade : Object → Type 0
  ObjectMade (GlobalObject from place t) = Unit {0}
  ObjectMade (LocalObject place t) = Unit {0}
  ObjectMade (TextObject from n) = Unit {0}
  ObjectMade (Pointed v t) = HasValue v
  ObjectMade (Element s p i t) = HasValue p × HasValue i
  ObjectMade (MemberOf o n t) = HasObject o

  abbrev CalleeMade : Callee → Type 0
  CalleeMade (SourceFunction from n) = Unit {0}
  CalleeMade (BuiltinFunction from b) = Unit {0}
  CalleeMade (Through v) = HasValue v

  abbrev ValueMade : Value → Type 0
  ValueMade (Constant k n) = IsValue k n
  ValueMade (FunctionAddress from n t) = Unit {0}
  ValueMade (ReadOf o) = HasObject o
  ValueMade (AddressOf o t) = HasObject o
  ValueMade (Convert t v) = HasValue v
  ValueMade (Negate k v) = HasValue v
  ValueMade (Complement k v) = HasValue v
  ValueMade (Arithmetic op k a b) = HasValue a × HasValue b × (value_type a ≡ Integer k) × IsRightType op k (value_type b)
  ValueMade (PointerSum s p i size) = HasValue p × HasValue i
  ValueMade (PointerDifference a b size) = HasValue a × HasValue b
  ValueMade (PointerComparison op a b) = HasValue a × HasValue b
  ValueMade (Not v) = HasValue v
  ValueMade (Both a b) = HasValue a × HasValue b
  ValueMade (Either a b) = HasValue a × HasValue b
  ValueMade (Choice c a b) = HasValue c × HasValue a × HasValue b × (value_type b ≡ value_type a)
  ValueMade (Sequence a b) = HasValue a × HasValue b
  ValueMade (Assigned o v) = HasObject o × HasValue v
  ValueMade (Changed o op k v) = HasObject o × HasValue v
  ValueMade (Moved o w i size) = HasObject o × HasValue i
  ValueMade (Stepped o w g size) = HasObject o
  ValueMade (CallOf f vs t) = HasCallee f × HaveValues vs

  abbrev TypedMade : Typed → Type 0
  TypedMade (AnObject o) = ObjectMade o
  TypedMade (AFunction f t) = CalleeMade f
  TypedMade (AValue v) = ValueMade v

  have_values : (ids : List NodeId) → All (IsAValue xs) ids → HaveValues (values xs ids)
  have_values [] h = tt
  have_values (id ∷ ids) h = ((id, All-head (IsAValue xs) id ids h), have_values ids (All-tail (IsAValue xs) id ids h))

  -- what a node stands for is made so
  made_so : (n : ℕ) (ts : List CType) (node : Node) → IsMadeOf n xs node → TypedMade (made ts xs node)
  made_so n ts (nodes.GlobalObject from place t) h = tt
  made_so n ts (nodes.LocalObject place t) h = tt
  made_so n ts (nodes.TextObject from length) h = tt
  made_so n ts (nodes.Pointed v t) h = (v, h.0)
  made_so n ts (nodes.Element s p i t) h = ((p, h.0), (i, h.1))
  made_so n ts (nodes.MemberOf o number t) h = (o, h.0)
  made_so n ts (nodes.SourceFunction from number t) h = tt
  made_so n ts (nodes.BuiltinFunction from b t) h = tt
  made_so n ts (nodes.Through v t) h = (v, h.0)
  made_so n ts (nodes.Constant k number) h = h
  made_so n ts (nodes.FunctionAddress from number t) h = tt
  made_so n ts (nodes.ReadOf o) h = (o, h)
  made_so n ts (nodes.AddressOf o t) h = (o, h.0)
  made_so n ts (nodes.Convert t v) h = (v, h.0)
  made_so n ts (nodes.Negate k v) h = (v, h)
  made_so n ts (nodes.Complement k v) h = (v, h)
  made_so n ts (nodes.Arithmetic op k a b) h = ((a, h.0), (b, h.1), h.2, h.3)
  made_so n ts (nodes.PointerSum s p i size) h = ((p, h.0), (i, h.1))
  made_so n ts (nodes.PointerDifference a b size) h = ((a, h.0), (b, h.1))
  made_so n ts (nodes.PointerComparison op a b) h = ((a, h.0), (b, h.1))
  made_so n ts (nodes.Not v) h = (v, h)
  made_so n ts (nodes.Both a b) h = ((a, h.0), (b, h.1))
  made_so n ts (nodes.Either a b) h = ((a, h.0), (b, h.1))
  made_so n ts (nodes.Choice c a b) h = ((c, h.0), (a, h.1), (b, h.2), sym h.3)
  made_so n ts (nodes.Sequence a b) h = ((a, h.0), (b, h.1))
  made_so n ts (nodes.Assigned o v) h = ((o, h.0), (v, h.1))
  made_so n ts (nodes.Changed o op k v) h = ((o, h.0), (v, h.1))
  made_so n ts (nodes.Moved o w i size) h = ((o, h.0), (i, h.1))
  made_so n ts (nodes.Stepped o w g size) h = (o, h)
  made_so n ts (nodes.CallOf f vs t) h = ((f, typed_type (typed xs f), h.0), have_values vs h.1)

-- ---- what stands in a table

entry_there : {A : Type 0} (es : List A) (k : ℕ) → k < length es → (e : A) × (slice_get es k ≡ Some e)
entry_there [] k h = absurd (omega arith)
entry_there (e ∷ es) zero h = (e, refl)
entry_there (e ∷ es) (suc k) h = entry_there es k (omega arith)

some_same : {A : Type 0} (a b : A) → Some a ≡ Some b → a ≡ b
some_same a b e = cc

constant_call : (f : Callee) (vs : Values) → AllOfKinds vs → IsConstantCall f vs
constant_call (SourceFunction from n) vs h = tt
constant_call (Through v) vs h = tt
constant_call (BuiltinFunction from b) vs h = by b
  where
    by : (b : Builtin) → HasConstants b vs
    by Malloc = tt
    by Free = tt
    by Spawn = tt
    by Join = tt
    by Lock = h
    by Unlock = h
    by Print = tt

module _ (t : Table) (sound : IsTable t) where
  abbrev all : List Typed
  all = typed_of t

  there : (id : NodeId) (x : Typed) → part all id ≡ Some x → TypedMade all x
  there id x e =
      let named : part all id ≡ Some (typed all id) = e ∙ ap Some (sym (ap typed_in e)) in
      let q = entry_there t.entries id.0 (node_within t id named) in
      let entry = sound id.0 q.0 q.1 in
      subst (TypedMade all) (some_same (made_in t q.0.node) x (sym entry.meaning ∙ e)) (made_so all (length t.types) (types_of t.types) q.0.node entry.parts)

  mutual
    in_object : (o : Object) → ObjectMade all o → InObject IsConstantCall o
    in_object (GlobalObject from place u) m = tt
    in_object (LocalObject place u) m = tt
    in_object (TextObject from n) m = tt
    in_object (Pointed v u) m = (in_value v (there m.0 (AValue v) m.1)).0
    in_object (Element s p i u) m = ((in_value p (there m.0.0 (AValue p) m.0.1)).0, (in_value i (there m.1.0 (AValue i) m.1.1)).0)
    in_object (MemberOf o n u) m = in_object o (there m.0 (AnObject o) m.1)

    in_value : (v : Value) → ValueMade all v → InValue IsConstantCall v × IsOfKinds v
    in_value (Constant k n) m = (tt, m)
    in_value (FunctionAddress from n u) m = (tt, tt)
    in_value (ReadOf o) m = (in_object o (there m.0 (AnObject o) m.1), tt)
    in_value (AddressOf o u) m = (in_object o (there m.0 (AnObject o) m.1), tt)
    in_value (Convert u v) m = in_value v (there m.0 (AValue v) m.1)
    in_value (Negate k v) m = in_value v (there m.0 (AValue v) m.1)
    in_value (Complement k v) m = in_value v (there m.0 (AValue v) m.1)
    in_value (Not v) m = in_value v (there m.0 (AValue v) m.1)
    in_value (Arithmetic op k a b) m =
        let p = in_value a (there m.0.0 (AValue a) m.0.1) in
        let q = in_value b (there m.1.0 (AValue b) m.1.1) in
        ((p.0, q.0), (p.1, q.1, m.2, m.3))
    in_value (PointerSum s a b size) m =
        let p = in_value a (there m.0.0 (AValue a) m.0.1) in
        let q = in_value b (there m.1.0 (AValue b) m.1.1) in
        ((p.0, q.0), tt)
    in_value (PointerDifference a b size) m =
        let p = in_value a (there m.0.0 (AValue a) m.0.1) in
        let q = in_value b (there m.1.0 (AValue b) m.1.1) in
        ((p.0, q.0), tt)
    in_value (PointerComparison op a b) m =
        let p = in_value a (there m.0.0 (AValue a) m.0.1) in
        let q = in_value b (there m.1.0 (AValue b) m.1.1) in
        ((p.0, q.0), tt)
    in_value (Both a b) m =
        let p = in_value a (there m.0.0 (AValue a) m.0.1) in
        let q = in_value b (there m.1.0 (AValue b) m.1.1) in
        ((p.0, q.0), (p.1, q.1))
    in_value (Either a b) m =
        let p = in_value a (there m.0.0 (AValue a) m.0.1) in
        let q = in_value b (there m.1.0 (AValue b) m.1.1) in
        ((p.0, q.0), (p.1, q.1))
    in_value (Sequence a b) m =
        let p = in_value a (there m.0.0 (AValue a) m.0.1) in
        let q = in_value b (there m.1.0 (AValue b) m.1.1) in
        ((p.0, q.0), tt)
    in_value (Choice c a b) m =
        let o = in_value c (there m.0.0 (AValue c) m.0.1) in
        let p = in_value a (there m.1.0 (AValue a) m.1.1) in
        let q = in_value b (there m.2.0 (AValue b) m.2.1) in
        ((o.0, p.0, q.0), (o.1, p.1, q.1, m.3))
    in_value (Assigned o v) m = ((in_object o (there m.0.0 (AnObject o) m.0.1), (in_value v (there m.1.0 (AValue v) m.1.1)).0), tt)
    in_value (Changed o op k v) m = ((in_object o (there m.0.0 (AnObject o) m.0.1), (in_value v (there m.1.0 (AValue v) m.1.1)).0), tt)
    in_value (Moved o w v size) m = ((in_object o (there m.0.0 (AnObject o) m.0.1), (in_value v (there m.1.0 (AValue v) m.1.1)).0), tt)
    in_value (Stepped o w g size) m = (in_object o (there m.0 (AnObject o) m.1), tt)
    in_value (CallOf f vs u) m =
        let ps = in_values vs m.1 in
        ((in_callee f (there m.0.0 (AFunction f m.0.1) m.0.2), ps.0, constant_call f vs ps.1), tt)

    in_values : (vs : Values) → HaveValues all vs → InValues IsConstantCall vs × AllOfKinds vs
    in_values NoValues m = (tt, tt)
    in_values (MoreValues v vs) m =
        let p = in_value v (there m.0.0 (AValue v) m.0.1) in
        let q = in_values vs m.1 in
        ((p.0, q.0), (p.1, q.1))

    in_callee : (f : Callee) → CalleeMade all f → InCallee IsConstantCall f
    in_callee (SourceFunction from n) m = tt
    in_callee (BuiltinFunction from b) m = tt
    in_callee (Through v) m = (in_value v (there m.0 (AValue v) m.1)).0

  pub value_constant : (id : NodeId) → IsValueAt t id → InValue IsConstantCall (value_at t id)
  value_constant id h = (in_value (value_at t id) (there id (AValue (value_at t id)) h)).0
