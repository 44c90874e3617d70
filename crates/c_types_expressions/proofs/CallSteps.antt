-- Calls: what is called, each argument, and the call of them.
use Rattle.std.proofs.Common.{◌≡◌, ◌<◌, ℕ, Bool, List, [], ◌∷◌, length, Option, Some, None, Result, Ok, Err, refl, sym, ap, ◌∙◌, subst}
use Rattle.std.specs.List.{All}
use Rattle.std.proofs.lemmas.List.Elements.{All-nil, All-cons}
use Rattle.c_syntax.specs.Syntax.{Call, Expr, Exprs}
use Rattle.c_builtins.specs.declared.builtin.Builtin.{Builtin}
use Rattle.c_builtins.specs.Table.{params_of, prototype_of}
use Rattle.c_types_model.specs.Types.{CType, CTypes, FunctionOf, NoTypes, MoreTypes}
use Rattle.c_types_table.specs.Tables.{type_at}
use Rattle.c_types_rules.specs.Checked.{Checked, Fine, ◌>>=◌, Notes}
use Rattle.c_types_rules.specs.Environment.{Environment}
use Rattle.c_types_rules.specs.Expressions.{arguments, builtin_in, called, expression, start_of}
use Rattle.c_types_rules.specs.TypedTree.{Callee, Values, AFunction, AValue, BuiltinFunction, CallOf, NoValues, MoreValues, typed_type}
use Rattle.c_types_nodes.specs.declared.ids.NodeId.{NodeId}
use Rattle.c_types_nodes.specs.declared.node.Node.TheVariants as nodes
use Rattle.c_types_nodes.specs.Parts.{callee_in, values}
use Rattle.c_types_nodes.specs.Tables.{Table, CanHold, IsFunctionAt, IsValueAt, callee_at, made_in, node_at, typed_at, typed_of}
use Rattle.c_types_operators.specs.declared.calls.CallTarget.{CallTarget}
use Rattle.c_types_operators.specs.declared.error.TypeError.{TypeError}
use Rattle.c_types_operators.specs.declared.error.TypeError.TheVariants.{Rule}
use Rattle.c_types_operators.specs.Answers.{Agrees, IsAt, StandsAt}
use Rattle.c_types_operators.specs.Calls.{IsCalled}
use Rattle.c_types_environment.specs.States.{notes_of, State}
use Rattle.c_types_expressions.specs.Found.{Found, Finds, Stays, AreValues}
use Rattle.c_types_expressions.specs.Pieces.{argument, argument_of, call_target}
use Rattle.c_types_expressions.proofs.Sequences.{passed, found, gone_on, noted_nothing, stopped_in, there}
use Rattle.c_types_expressions.proofs.Kept.{is_value, node_is, value_is}
use Rattle.c_types_expressions.proofs.Operands.{agrees_as}
use Rattle.c_types_expressions.proofs.Arms.{one_goes_on}

-- ---- what is called

abbrev chosen : Option Builtin → Expr → Environment → (from : ℕ) → Checked (Callee × CType × CTypes)
chosen o x E from = elim o [ Some b ↦ called (start_of x) (AFunction (BuiltinFunction (start_of x) b) (prototype_of b)) | None ↦ expression x E >>= called from ]

target_by : (o : Option Builtin) (x : Expr) (E : Environment) (from : ℕ) → o ≡ builtin_in E x → call_target x E from ≡ chosen o x E from
target_by o x E from e = ap (λ p. chosen p x E from) (sym e)

pub builtin_target : (b : Builtin) (x : Expr) (old new : State) (from at : ℕ) (r : Result CallTarget TypeError) → Some b ≡ builtin_in old.env x → at ≡ start_of x → Agrees (IsCalled new.table) (called at (AFunction (BuiltinFunction at b) (prototype_of b))) r →
    (notes_of new) ≡ (notes_of old) → Finds old new (IsCalled new.table) (call_target x old.env from) r
builtin_target b x old new from at r e s h l =
    let P : ℕ → Type 0 = λ n. Agrees (IsCalled new.table) (called n (AFunction (BuiltinFunction n b) (prototype_of b))) r in
    passed (notes_of old) (notes_of new) (IsCalled new.table) _ _ r (target_by (Some b) x old.env from e)
    (noted_nothing (notes_of old) (notes_of new) (IsCalled new.table) (called (start_of x) (AFunction (BuiltinFunction (start_of x) b) (prototype_of b))) r l (subst P s h))

pub callee_stops : (x : Expr) (old new : State) (from : ℕ) (e : TypeError) → None ≡ builtin_in old.env x → Finds old new (StandsAt new.table) (expression x old.env) (Err e) → Finds old new (IsCalled new.table) (call_target x old.env from) (Err e)
callee_stops x old new from e none h =
    passed (notes_of old) (notes_of new) (IsCalled new.table) _ _ (Err e) (target_by None x old.env from none)
    (stopped_in (notes_of old) (notes_of new) (notes_of new) (StandsAt new.table) (IsCalled new.table) (expression x old.env) (called from) e h)

pub callee_target : (x : Expr) (old mid new : State) (from : ℕ) (callee : NodeId) (r : Result CallTarget TypeError) → None ≡ builtin_in old.env x → Finds old mid (StandsAt mid.table) (expression x old.env) (Ok callee) → mid.env ≡ old.env →
    Agrees (IsCalled new.table) (called from (node_at mid.table callee)) r → (notes_of new) ≡ (notes_of mid) → Finds old new (IsCalled new.table) (call_target x old.env from) r
callee_target x old mid new from callee r none p e h l =
    passed (notes_of old) (notes_of new) (IsCalled new.table) _ _ r (target_by None x old.env from none)
    (one_goes_on IsCalled (λ E. called from) old mid new (expression x old.env) callee r p e h l)

-- ---- an argument

argument_is : (x : Expr) (E : Environment) (from : ℕ) (us : CTypes) (t : CType) (ts : CTypes) → us ≡ MoreTypes t ts → argument_of x E from us ≡ (expression x E >>= argument (start_of x) t)
argument_is x E from us t ts e = ap (argument_of x E from) e

pub too_many : (x : Expr) (old : State) (from : ℕ) (us : CTypes) (t : Table) → us ≡ NoTypes → Finds old old (IsAt t) (argument_of x old.env from us) (Err (Rule from 9))
too_many x old from us t e = passed (notes_of old) (notes_of old) (IsAt t) _ _ (Err (Rule from 9)) (ap (argument_of x old.env from) e) (refl, refl)

pub argument_stops : (x : Expr) (old new : State) (from : ℕ) (us : CTypes) (t : CType) (ts : CTypes) (e : TypeError) → us ≡ MoreTypes t ts → Finds old new (StandsAt new.table) (expression x old.env) (Err e) →
    Finds old new (IsAt new.table) (argument_of x old.env from us) (Err e)
argument_stops x old new from us t ts e more h =
    passed (notes_of old) (notes_of new) (IsAt new.table) _ _ (Err e) (argument_is x old.env from us t ts more)
    (stopped_in (notes_of old) (notes_of new) (notes_of new) (StandsAt new.table) (IsAt new.table) (expression x old.env) (argument (start_of x) t) e h)

pub argument_made : (x : Expr) (old mid new : State) (from at : ℕ) (us : CTypes) (t u : CType) (ts : CTypes) (operand : NodeId) (r : Result NodeId TypeError) → us ≡ MoreTypes t ts → u ≡ t → at ≡ start_of x → Finds old mid (StandsAt mid.table) (expression x old.env) (Ok operand) → mid.env ≡ old.env →
    Agrees (IsAt new.table) (argument at u (node_at mid.table operand)) r → (notes_of new) ≡ (notes_of mid) → Finds old new (IsAt new.table) (argument_of x old.env from us) r
argument_made x old mid new from at us t u ts operand r more same starts p e h l =
    passed (notes_of old) (notes_of new) (IsAt new.table) _ _ r (argument_is x old.env from us t ts more)
    (one_goes_on IsAt (λ E. argument (start_of x) t) old mid new (expression x old.env) operand r p e
    (agrees_as (IsAt new.table) _ _ r (ap (λ c. argument (start_of x) c (node_at mid.table operand)) (sym same) ∙ ap (λ n. argument n u (node_at mid.table operand)) (sym starts)) h) l)

-- ---- a call

-- a call by what is called and its arguments
pub call_is : (from : ℕ) (x : Expr) (xs : Exprs) (E : Environment) → expression (Call from x xs) E ≡ (call_target x E from >>= (λ f. arguments xs E from f.2 >>= (λ vs. Fine (AValue (CallOf f.0 vs f.1)))))
call_is from x xs E = refl

-- the numbers of nodes stand for these values
values_are : (t : Table) (vs : Values) (ids : List NodeId) → AreValues t vs ids → values (typed_of t) ids ≡ vs
values_are t NoValues [] h = refl
values_are t NoValues (id ∷ ids) h = absurd h
values_are t (MoreValues v vs) [] h = absurd h
values_are t (MoreValues v vs) (id ∷ ids) h = ap (λ w. MoreValues w (values (typed_of t) ids)) (value_is t id v h.0) ∙ ap (MoreValues v) (values_are t vs ids h.1)

all_values : (t : Table) (vs : Values) (ids : List NodeId) → AreValues t vs ids → All (IsValueAt t) ids
all_values t NoValues [] h = All-nil (IsValueAt t)
all_values t NoValues (id ∷ ids) h = absurd h
all_values t (MoreValues v vs) [] h = absurd h
all_values t (MoreValues v vs) (id ∷ ids) h = All-cons (IsValueAt t) id ids (is_value t id v h.0) (all_values t vs ids h.1)

-- what is called is a function
pub function_inside : (f g : Notes) (t : Table) (c : Checked (Callee × CType × CTypes)) (target : CallTarget) → Found f g (IsCalled t) c (Ok target) → target.function.0 < length t.types
function_inside f g t c target h = let p = there f g (IsCalled t) c target h in p.1.function.inside

is_function : (t : Table) (id : NodeId) (f : Callee) (c : CType) → typed_at t id ≡ Some (AFunction f c) → IsFunctionAt t id
is_function t id f c h = h ∙ (ap (λ g. Some (AFunction g c)) (sym (ap callee_in h)) ∙ ap (λ d. Some (AFunction (callee_at t id) d)) (sym (ap typed_type (node_is t id (AFunction f c) h))))

-- the call can be put into the table
pub call_holds : (old mid end : State) (c : Checked (Callee × CType × CTypes)) (d : Checked Values) (target : CallTarget) (ids : List NodeId) → Finds old mid (IsCalled mid.table) c (Ok target) → Stays mid end → Finds mid end (AreValues end.table) d (Ok ids) →
    CanHold end.table (nodes.CallOf target.callee ids target.result)
call_holds old mid end c d target ids p k q =
    let f = there (notes_of old) (notes_of mid) (IsCalled mid.table) c target p in
    let vs = there (notes_of mid) (notes_of end) (AreValues end.table) d ids q in
    let stays : typed_at end.table target.callee ≡ Some (AFunction f.0.0 (FunctionOf f.0.1 f.0.2)) = k.numbers.nodes target.callee (AFunction f.0.0 (FunctionOf f.0.1 f.0.2)) f.1.callee in
    (is_function end.table target.callee f.0.0 (FunctionOf f.0.1 f.0.2) stays, all_values end.table vs.0 ids vs.1, (k.numbers.types.names target.result f.0.1 f.1.result).inside)

pub target_stops : (old new : State) (from : ℕ) (x : Expr) (xs : Exprs) (e : TypeError) → Finds old new (IsCalled new.table) (call_target x old.env from) (Err e) → Finds old new (StandsAt new.table) (expression (Call from x xs) old.env) (Err e)
target_stops old new from x xs e p =
    stopped_in (notes_of old) (notes_of new) (notes_of new) (IsCalled new.table) (StandsAt new.table) (call_target x old.env from) (λ f. arguments xs old.env from f.2 >>= (λ vs. Fine (AValue (CallOf f.0 vs f.1)))) e p

-- what is called takes what its type says
taken : (t : Table) (f : Callee × CType × CTypes) (target : CallTarget) → IsCalled t f target → params_of (type_at t.types target.function) ≡ f.2
taken t f target h = ap params_of h.function.is

-- the arguments, by what is called
taken_by : (mid end : State) (E : Environment) (from : ℕ) (xs : Exprs) (f : Callee × CType × CTypes) (target : CallTarget) (r : Result (List NodeId) TypeError) → mid.env ≡ E → IsCalled mid.table f target →
    Finds mid end (AreValues end.table) (arguments xs mid.env from (params_of (type_at mid.table.types target.function))) r → Finds mid end (AreValues end.table) (arguments xs E from f.2) r
taken_by mid end E from xs f target r e h q =
    passed (notes_of mid) (notes_of end) (AreValues end.table) _ _ r (ap (arguments xs E from) (sym (taken mid.table f target h)) ∙ ap (λ F. arguments xs F from (params_of (type_at mid.table.types target.function))) (sym e)) q

pub arguments_fail : (old mid end : State) (from : ℕ) (x : Expr) (xs : Exprs) (target : CallTarget) (e : TypeError) → Finds old mid (IsCalled mid.table) (call_target x old.env from) (Ok target) → mid.env ≡ old.env →
    Finds mid end (AreValues end.table) (arguments xs mid.env from (params_of (type_at mid.table.types target.function))) (Err e) → Finds old end (StandsAt end.table) (expression (Call from x xs) old.env) (Err e)
arguments_fail old mid end from x xs target e p same q =
    gone_on (notes_of old) (notes_of mid) (notes_of end) (IsCalled mid.table) (StandsAt end.table) (call_target x old.env from) (λ f. arguments xs old.env from f.2 >>= (λ vs. Fine (AValue (CallOf f.0 vs f.1)))) target (Err e) p (λ f at.
    stopped_in (notes_of mid) (notes_of end) (notes_of end) (AreValues end.table) (StandsAt end.table) (arguments xs old.env from f.2) (λ vs. Fine (AValue (CallOf f.0 vs f.1))) e
    (taken_by mid end old.env from xs f target (Err e) same at q))

-- what the node of a call stands for
call_node : (t : Table) (f : Callee × CType × CTypes) (vs : Values) (target : CallTarget) (ids : List NodeId) → typed_at t target.callee ≡ Some (AFunction f.0 (FunctionOf f.1 f.2)) → type_at t.types target.result ≡ f.1 → AreValues t vs ids →
    made_in t (nodes.CallOf target.callee ids target.result) ≡ AValue (CallOf f.0 vs f.1)
call_node t f vs target ids callee result h =
    ap (λ c. AValue (CallOf c (values (typed_of t) ids) (type_at t.types target.result))) (ap callee_in callee)
    ∙ (ap (λ ws. AValue (CallOf f.0 ws (type_at t.types target.result))) (values_are t vs ids h) ∙ ap (λ c. AValue (CallOf f.0 vs c)) result)

pub call_made : (old mid end new : State) (from : ℕ) (x : Expr) (xs : Exprs) (target : CallTarget) (ids : List NodeId) (id : NodeId) → Finds old mid (IsCalled mid.table) (call_target x old.env from) (Ok target) → mid.env ≡ old.env →
    Finds mid end (AreValues end.table) (arguments xs mid.env from (params_of (type_at mid.table.types target.function))) (Ok ids) → Stays mid end →
    typed_at new.table id ≡ Some (made_in end.table (nodes.CallOf target.callee ids target.result)) → (notes_of new) ≡ (notes_of end) → Finds old new (StandsAt new.table) (expression (Call from x xs) old.env) (Ok id)
call_made old mid end new from x xs target ids id p same q k added l =
    gone_on (notes_of old) (notes_of mid) (notes_of new) (IsCalled mid.table) (StandsAt new.table) (call_target x old.env from) (λ f. arguments xs old.env from f.2 >>= (λ vs. Fine (AValue (CallOf f.0 vs f.1)))) target (Ok id) p (λ f at.
    gone_on (notes_of mid) (notes_of end) (notes_of new) (AreValues end.table) (StandsAt new.table) (arguments xs old.env from f.2) (λ vs. Fine (AValue (CallOf f.0 vs f.1))) ids (Ok id)
    (taken_by mid end old.env from xs f target (Ok ids) same at q) (λ vs are.
    found (notes_of end) (notes_of new) (StandsAt new.table) (AValue (CallOf f.0 vs f.1)) id l
    (added ∙ ap Some (call_node end.table f vs target ids (k.numbers.nodes target.callee (AFunction f.0 (FunctionOf f.1 f.2)) at.callee) (k.numbers.types.names target.result f.1 at.result).is are))))
