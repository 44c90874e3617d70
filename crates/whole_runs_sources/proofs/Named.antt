-- What a function names in code, its source mentions.
use Rattle.std.proofs.Common.{ℕ, Bool, true, false, List, ◌++◌}
use Rattle.std.specs.List.{AllByRecursion, Contains}
use Rattle.std.proofs.lemmas.List.Elements.{All-contains_itself, recursion_from_All}
use Rattle.c_types_rules.specs.TypedTree.{Object, Value, Values, Callee, GlobalObject, LocalObject, TextObject, Pointed, Element, MemberOf, Constant, FunctionAddress, ReadOf, AddressOf, Convert, Negate, Complement, Arithmetic, PointerSum, PointerDifference, PointerComparison, Not, Both, Either, Choice, Sequence, Assigned, Changed, Moved, Stepped, CallOf, NoValues, MoreValues, SourceFunction, BuiltinFunction, Through, MaybeValue, NoValue, OneValue, Statement, Statements, Block, Evaluate, Initialise, If, IfElse, While, Do, For, Break, Continue, Return, NoStatements, MoreStatements}
use Rattle.c_lower.specs.Named.{Name, FunctionName, GlobalName, TextName, callee_names, maybe_names, object_names, statement_names, statements_names, value_names, values_names}
use Rattle.c_lower.proofs.Naming.{both_all, first_all, second_all}
use Rattle.cut_graph_rules.specs.declared.mention.Mention.{Mention}
use Rattle.cut_graph_rules.specs.declared.mention.Mention.TheVariants.{Function, Global}
use Rattle.cut_graph_rules.specs.Mentions.{callee_mentions, maybe_mentions, object_mentions, root_written, statement_mentions, statements_mentions, value_mentions, values_mentions, written_at, written_under}

-- a name of a function is among these mentions, as is one of a global; of strings nothing is said
abbrev pub IsMentioned : List Mention → Name → Type 0
IsMentioned ms (FunctionName f) = Contains ms (Function f)
IsMentioned ms (GlobalName g) = Contains ms (Global g)
IsMentioned ms (TextName n) = Unit {0}

module _ (ms : List Mention) (ts : List ℕ) where
  abbrev In : List Mention → Type 0
  In xs = AllByRecursion (Contains ms) xs

  abbrev Fine : List Name → Type 0
  Fine ns = AllByRecursion (IsMentioned ms) ns

  cat : (ns os : List Name) → Fine ns → Fine os → Fine (ns ++ os)
  cat ns os h k = both_all (IsMentioned ms) ns os h k

  left : (xs ys : List Mention) → In (xs ++ ys) → In xs
  left xs ys h = first_all (Contains ms) xs ys h

  right : (xs ys : List Mention) → In (xs ++ ys) → In ys
  right xs ys h = second_all (Contains ms) xs ys h

  -- names of two parts
  two : (ns os : List Name) (xs ys : List Mention) → (In xs → Fine ns) → (In ys → Fine os) → In (xs ++ ys) → Fine (ns ++ os)
  two ns os xs ys f g h = cat ns os (f (left xs ys h)) (g (right xs ys h))

  mutual
    object_fine : (counts : Bool) (o : Object) → In (object_mentions counts o) → Fine (object_names ts o)
    object_fine counts (GlobalObject from place t) h = (h.0, tt)
    object_fine counts (LocalObject place t) h = tt
    object_fine counts (TextObject from n) h = (tt, tt)
    object_fine counts (Pointed v t) h = value_fine counts counts v h
    object_fine counts (Element s p i t) h =
        cat (value_names ts p) (value_names ts i) (value_fine false counts p (left (value_mentions false counts p) (value_mentions counts counts i) h))
        (value_fine counts counts i (right (value_mentions false counts p) (value_mentions counts counts i) h))
    object_fine counts (MemberOf o number t) h = object_fine counts o h

    value_fine : (here counts : Bool) (v : Value) → In (value_mentions here counts v) → Fine (value_names ts v)
    value_fine here counts (Constant k n) h = tt
    value_fine here counts (FunctionAddress from number t) h = (h.0, tt)
    value_fine here counts (ReadOf o) h = object_fine counts o h
    value_fine here counts (AddressOf o t) h = object_fine counts o (right (written_at (written_under here o t)) (object_mentions counts o) h)
    value_fine here counts (Convert t v) h = value_fine counts counts v h
    value_fine here counts (Negate k v) h = value_fine counts counts v h
    value_fine here counts (Complement k v) h = value_fine counts counts v h
    value_fine here counts (Arithmetic op k a b) h = two (value_names ts a) (value_names ts b) (value_mentions counts counts a) (value_mentions counts counts b) (λ k. value_fine counts counts a k) (λ k. value_fine counts counts b k) h
    value_fine here counts (PointerSum s p i size) h = two (value_names ts p) (value_names ts i) (value_mentions counts counts p) (value_mentions counts counts i) (λ k. value_fine counts counts p k) (λ k. value_fine counts counts i k) h
    value_fine here counts (PointerDifference a b size) h = two (value_names ts a) (value_names ts b) (value_mentions counts counts a) (value_mentions counts counts b) (λ k. value_fine counts counts a k) (λ k. value_fine counts counts b k) h
    value_fine here counts (PointerComparison op a b) h = two (value_names ts a) (value_names ts b) (value_mentions counts counts a) (value_mentions counts counts b) (λ k. value_fine counts counts a k) (λ k. value_fine counts counts b k) h
    value_fine here counts (Not v) h = value_fine counts counts v h
    value_fine here counts (Both a b) h = two (value_names ts a) (value_names ts b) (value_mentions counts counts a) (value_mentions counts counts b) (λ k. value_fine counts counts a k) (λ k. value_fine counts counts b k) h
    value_fine here counts (Either a b) h = two (value_names ts a) (value_names ts b) (value_mentions counts counts a) (value_mentions counts counts b) (λ k. value_fine counts counts a k) (λ k. value_fine counts counts b k) h
    value_fine here counts (Choice c a b) h =
        let arms = value_mentions counts counts a ++ value_mentions counts counts b in
        cat (value_names ts c) (value_names ts a ++ value_names ts b) (value_fine counts counts c (left (value_mentions counts counts c) arms h))
        (two (value_names ts a) (value_names ts b) (value_mentions counts counts a) (value_mentions counts counts b) (λ k. value_fine counts counts a k) (λ k. value_fine counts counts b k) (right (value_mentions counts counts c) arms h))
    value_fine here counts (Sequence a b) h = two (value_names ts a) (value_names ts b) (value_mentions counts counts a) (value_mentions counts counts b) (λ k. value_fine counts counts a k) (λ k. value_fine counts counts b k) h
    value_fine here counts (Assigned o v) h = two (object_names ts o) (value_names ts v) (root_written o ++ object_mentions counts o) (value_mentions counts counts v) (λ k. object_fine counts o (right (root_written o) (object_mentions counts o) k)) (λ k. value_fine counts counts v k) h
    value_fine here counts (Changed o op k v) h = two (object_names ts o) (value_names ts v) (root_written o ++ object_mentions counts o) (value_mentions counts counts v) (λ k. object_fine counts o (right (root_written o) (object_mentions counts o) k)) (λ k. value_fine counts counts v k) h
    value_fine here counts (Moved o w i size) h = two (object_names ts o) (value_names ts i) (root_written o ++ object_mentions counts o) (value_mentions counts counts i) (λ k. object_fine counts o (right (root_written o) (object_mentions counts o) k)) (λ k. value_fine counts counts i k) h
    value_fine here counts (Stepped o w g size) h = object_fine counts o (right (root_written o) (object_mentions counts o) h)
    value_fine here counts (CallOf f vs t) h =
        cat (callee_names ts f) (values_names ts vs) (callee_fine counts f (left (callee_mentions counts f) (values_mentions counts vs) h))
        (values_fine counts vs (right (callee_mentions counts f) (values_mentions counts vs) h))

    values_fine : (counts : Bool) (vs : Values) → In (values_mentions counts vs) → Fine (values_names ts vs)
    values_fine counts NoValues h = tt
    values_fine counts (MoreValues v vs) h =
        cat (value_names ts v) (values_names ts vs) (value_fine counts counts v (left (value_mentions counts counts v) (values_mentions counts vs) h))
        (values_fine counts vs (right (value_mentions counts counts v) (values_mentions counts vs) h))

    callee_fine : (counts : Bool) (f : Callee) → In (callee_mentions counts f) → Fine (callee_names ts f)
    callee_fine counts (SourceFunction from number) h = (h.0, tt)
    callee_fine counts (BuiltinFunction from b) h = (h.0, tt)
    callee_fine counts (Through v) h = value_fine counts counts v h

  maybe_fine : (v : MaybeValue) → In (maybe_mentions v) → Fine (maybe_names ts v)
  maybe_fine NoValue h = tt
  maybe_fine (OneValue v) h = value_fine true true v h

  mutual
    statement_fine : (s : Statement) → In (statement_mentions s) → Fine (statement_names ts s)
    statement_fine (Block ss) h = statements_fine ss h
    statement_fine (Evaluate v) h = value_fine true true v h
    statement_fine (Initialise place t v) h = value_fine true true v h
    statement_fine (If v s) h =
        cat (value_names ts v) (statement_names ts s) (value_fine true true v (left (value_mentions true true v) (statement_mentions s) h)) (statement_fine s (right (value_mentions true true v) (statement_mentions s) h))
    statement_fine (IfElse v s z) h =
        let later = right (value_mentions true true v) (statement_mentions s ++ statement_mentions z) h in
        cat (value_names ts v) (statement_names ts s ++ statement_names ts z) (value_fine true true v (left (value_mentions true true v) (statement_mentions s ++ statement_mentions z) h))
        (cat (statement_names ts s) (statement_names ts z) (statement_fine s (left (statement_mentions s) (statement_mentions z) later)) (statement_fine z (right (statement_mentions s) (statement_mentions z) later)))
    statement_fine (While from v s) h =
        cat (value_names ts v) (statement_names ts s) (value_fine true true v (left (value_mentions true true v) (statement_mentions s) h)) (statement_fine s (right (value_mentions true true v) (statement_mentions s) h))
    statement_fine (Do from s v) h =
        cat (statement_names ts s) (value_names ts v) (statement_fine s (left (statement_mentions s) (value_mentions true true v) h)) (value_fine true true v (right (statement_mentions s) (value_mentions true true v) h))
    statement_fine (For from first v last s) h =
        let later = right (statements_mentions first) (maybe_mentions v ++ (maybe_mentions last ++ statement_mentions s)) h in
        let inner = right (maybe_mentions v) (maybe_mentions last ++ statement_mentions s) later in
        cat (statements_names ts first) (maybe_names ts v ++ (maybe_names ts last ++ statement_names ts s))
        (statements_fine first (left (statements_mentions first) (maybe_mentions v ++ (maybe_mentions last ++ statement_mentions s)) h))
        (cat (maybe_names ts v) (maybe_names ts last ++ statement_names ts s) (maybe_fine v (left (maybe_mentions v) (maybe_mentions last ++ statement_mentions s) later))
        (cat (maybe_names ts last) (statement_names ts s) (maybe_fine last (left (maybe_mentions last) (statement_mentions s) inner)) (statement_fine s (right (maybe_mentions last) (statement_mentions s) inner))))
    statement_fine Break h = tt
    statement_fine Continue h = tt
    statement_fine (Return from v) h = maybe_fine v h

    statements_fine : (ss : Statements) → In (statements_mentions ss) → Fine (statements_names ts ss)
    statements_fine NoStatements h = tt
    statements_fine (MoreStatements s ss) h =
        cat (statement_names ts s) (statements_names ts ss) (statement_fine s (left (statement_mentions s) (statements_mentions ss) h)) (statements_fine ss (right (statement_mentions s) (statements_mentions ss) h))

-- each name of a statement is mentioned where the statement's mentions and others are
pub all_mentioned : (ts : List ℕ) (s : Statement) (others : List Mention) → AllByRecursion (IsMentioned (statement_mentions s ++ others)) (statement_names ts s)
all_mentioned ts s others =
    let ms = statement_mentions s ++ others in
    statement_fine ms ts s (first_all (Contains ms) (statement_mentions s) others (recursion_from_All (Contains ms) ms (All-contains_itself ms)))
