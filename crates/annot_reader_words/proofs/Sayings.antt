-- What is said of a node is what is said of itself, and then of what it names.
use Rattle.std.proofs.Common.{◌≡◌, ℕ, List, [], ◌∷◌, ◌++◌, Option, refl, sym, ap, ◌∙◌, subst}
use Rattle.c_syntax.specs.declared.id.DeclId.{DeclId}
use Rattle.c_syntax.specs.declared.id.StmtId.{StmtId}
use Rattle.c_syntax.specs.declared.id.ExprId.{ExprId}
use Rattle.c_syntax.specs.declared.expression.ExprKind.{ExprKind}
use Rattle.c_syntax.specs.declared.declaration.Annot.{Annot}
use Rattle.c_syntax.specs.declared.declaration.Item.{Item}
use Rattle.c_syntax.specs.declared.declaration.Atom.{Atom as Factor}
use Rattle.c_syntax.specs.declared.declaration.Part.{Part}
use Rattle.c_syntax.specs.declared.declaration.Value.{Value as Given}
use Rattle.c_syntax.specs.declared.declaration.Rest.{Rest as After}
use Rattle.c_syntax.specs.declared.statement.StmtKind.{StmtKind}
use Rattle.c_syntax.specs.declared.statement.StmtKind.TheVariants as stmts
use Rattle.c_syntax.specs.declared.statement.Entry.{Entry}
use Rattle.c_syntax.specs.declared.statement.First.{First as Begin}
use Rattle.c_syntax.specs.Nodes.{Nodes}
use Rattle.c_syntax.specs.Syntax.{Expr, Exprs, MaybeExpr, Decls, Annots, Items, Item as Factors, Atom, Parts, Value, Values, Rest, Stmt, Entries, Entry as Stood, First, Name, Number, Char, Text, Binary, Assign, Cond, Prefix, Postfix, SizeofExpr, SizeofType, Cast, Index, Call, Member, Arrow, NoExprs, MoreExprs, NoExpr, OneExpr, Declare, NoDecls, MoreDecls, NoAnnots, MoreAnnots, Annotate, NoItems, MoreItems, OneFactor, TwoFactors, NameAtom, NumberAtom, ReturnAtom, SizeofAtom, NoParts, Pointer, Array, Params, Plain, Braces, NoValues, MoreValues, NoRest, Initial, Body, Members, Block, Expression, If, IfElse, While, Do, For, Break, Continue, Return, NoEntries, MoreEntries, LocalEntry, StmtEntry, NoFirst, LocalFirst, ExprFirst}
use Rattle.c_syntax.specs.Stands.{IsExprAt, IsStmtAt, Stands, StandExprs, StandsMaybe, StandDecls, StandAnnots, StandsItem, StandsEntry, StandItems, StandsAtom, StandParts, StandsValue, StandValues, StandsRest, StandsStmt, StandEntries, StandsFirst}
use Rattle.c_types_rules.specs.Checked.{Checked, Fine, Broken, ◌>>◌}
use Rattle.annot_reader_rules.specs.Misplaced.{bare, bare_exprs, bare_maybe, bare_decl, bare_decls, bare_parts, bare_annots, bare_items, bare_item, bare_atom, bare_value, bare_values, bare_rest, bare_stmt, bare_entries, bare_entry, bare_first, word_out_of_place}
use Rattle.c_syntax_laws.specs.declared.node.Node.{Node}
use Rattle.c_syntax_laws.specs.declared.node.Node.TheVariants as nodes
use Rattle.c_syntax_laws.specs.Named.{named_by, by_exprs, by_decls, by_maybe, by_expr, by_atom, by_second, by_item, by_items, by_annots, by_kind, by_parts, by_value, by_values, by_rest, by_decl, by_entry, by_entries, by_first, by_stmt, by_expr_node, by_stmt_node, by_decl_node}
use Rattle.annot_reader_words.specs.Sayings.{Says, AllSay, first_word, own, own_of}
use Rattle.annot_reader_words.proofs.Composing.{assoc, then_fine}
use Rattle.c_syntax_laws.proofs.Values.{by_value-plain, by_value-braces}

-- ---- lists

abbrev Said : Type 0
Said = Checked (Unit {0})

one : (N : Nodes) (v : Node) (c : Said) → Says N v c → AllSay N (v ∷ []) c
one N v c h = (c, Fine tt, h, refl, sym (then_fine c))

more : (N : Nodes) (v : Node) (vs : List Node) (c d : Said) → Says N v c → AllSay N vs d → AllSay N (v ∷ vs) (c >> d)
more N v vs c d h k = (c, d, h, k, refl)

both : (N : Nodes) (vs ws : List Node) (c d : Said) → AllSay N vs c → AllSay N ws d → AllSay N (vs ++ ws) (c >> d)
both N [] ws c d h k = let P : Said → Type 0 = λ x. AllSay N ws (x >> d) in subst P (sym h) k
both N (v ∷ vs) ws c d (a, b, s, t, e) k = (a, b >> d, s, both N vs ws b d t k, ap (λ x. x >> d) e ∙ assoc a b d)

two : (N : Nodes) (v w : Node) (c d : Said) → Says N v c → Says N w d → AllSay N (v ∷ w ∷ []) (c >> d)
two N v w c d h k = more N v (w ∷ []) c d h (one N w d k)

three : (N : Nodes) (u v w : Node) (b c d : Said) → Says N u b → Says N v c → Says N w d → AllSay N (u ∷ v ∷ w ∷ []) (b >> c >> d)
three N u v w b c d g h k = let P : Said → Type 0 = AllSay N (u ∷ v ∷ w ∷ []) in subst P (sym (assoc b c d)) (more N u (v ∷ w ∷ []) b (c >> d) g (two N v w c d h k))

exprs_say : (N : Nodes) (is : List ExprId) (xs : Exprs) → StandExprs N is xs → AllSay N (by_exprs is) (bare_exprs xs)
exprs_say N is NoExprs e = subst (λ js. AllSay N (by_exprs js) (Fine tt)) (sym e) refl
exprs_say N is (MoreExprs x xs) (i, js, e, p, q) =
    subst (λ ks. AllSay N (by_exprs ks) (bare x >> bare_exprs xs)) (sym e) (more N (nodes.Expr i) (by_exprs js) (bare x) (bare_exprs xs) (x, p, refl) (exprs_say N js xs q))

maybe_says : (N : Nodes) (i : Option ExprId) (x : MaybeExpr) → StandsMaybe N i x → AllSay N (by_maybe i) (bare_maybe x)
maybe_says N i NoExpr e = subst (λ j. AllSay N (by_maybe j) (Fine tt)) (sym e) refl
maybe_says N i (OneExpr x) (a, e, p) = subst (λ j. AllSay N (by_maybe j) (bare x)) (sym e) (one N (nodes.Expr a) (bare x) (x, p, refl))

pub decls_say : (N : Nodes) (is : List DeclId) (xs : Decls) → StandDecls N is xs → AllSay N (by_decls is) (bare_decls xs)
decls_say N is NoDecls e = subst (λ js. AllSay N (by_decls js) (Fine tt)) (sym e) refl
decls_say N is (MoreDecls x xs) (i, js, e, p, q) =
    subst (λ ks. AllSay N (by_decls ks) (bare_decl x >> bare_decls xs)) (sym e) (more N (nodes.Decl i) (by_decls js) (bare_decl x) (bare_decls xs) (x, p, refl) (decls_say N js xs q))

-- ---- annotations

atom_says : (N : Nodes) (a : Factor) (x : Atom) → StandsAtom N a x → AllSay N (by_atom a) (bare_atom x)
atom_says N a (NameAtom n) e = subst (λ v. AllSay N (by_atom v) (Fine tt)) (sym e) refl
atom_says N a (NumberAtom v) e = subst (λ v. AllSay N (by_atom v) (Fine tt)) (sym e) refl
atom_says N a ReturnAtom e = subst (λ v. AllSay N (by_atom v) (Fine tt)) (sym e) refl
atom_says N a (SizeofAtom d) (i, e, p) = subst (λ v. AllSay N (by_atom v) (bare_decl d)) (sym e) (one N (nodes.Decl i) (bare_decl d) (d, p, refl))

item_says : (N : Nodes) (v : Item) (x : Factors) → StandsItem N v x → AllSay N (by_item v) (bare_item x)
item_says N v (OneFactor f x) (_, p, e) =
    let P : Said → Type 0 = AllSay N (by_item v) in
    subst P (then_fine (bare_atom x)) (both N (by_atom v.a) (by_second v.b) (bare_atom x) (Fine tt) (atom_says N v.a x p) (subst (λ b. AllSay N (by_second b) (Fine tt)) (sym e) refl))
item_says N v (TwoFactors f x y) (b, _, p, e, q) =
    both N (by_atom v.a) (by_second v.b) (bare_atom x) (bare_atom y) (atom_says N v.a x p) (subst (λ c. AllSay N (by_second c) (bare_atom y)) (sym e) (atom_says N b y q))

items_say : (N : Nodes) (vs : List Item) (xs : Items) → StandItems N vs xs → AllSay N (by_items vs) (bare_items xs)
items_say N vs NoItems e = subst (λ ws. AllSay N (by_items ws) (Fine tt)) (sym e) refl
items_say N vs (MoreItems x xs) (v, ws, e, p, q) =
    subst (λ us. AllSay N (by_items us) (bare_item x >> bare_items xs)) (sym e) (both N (by_item v) (by_items ws) (bare_item x) (bare_items xs) (item_says N v x p) (items_say N ws xs q))

pub annots_say : (N : Nodes) (vs : List Annot) (xs : Annots) → StandAnnots N vs xs → AllSay N (by_annots vs) (bare_annots xs)
annots_say N vs NoAnnots e = subst (λ ws. AllSay N (by_annots ws) (Fine tt)) (sym e) refl
annots_say N vs (MoreAnnots (Annotate f n is) xs) (v, ws, e, (_, _, p), q) =
    subst (λ us. AllSay N (by_annots us) (bare_items is >> bare_annots xs)) (sym e) (both N (by_items v.items) (by_annots ws) (bare_items is) (bare_annots xs) (items_say N v.items is p) (annots_say N ws xs q))

-- ---- declarators

pub parts_say : (N : Nodes) (vs : List Part) (xs : Parts) → StandParts N vs xs → AllSay N (by_parts vs) (bare_parts xs)
parts_say N vs NoParts e = subst (λ ws. AllSay N (by_parts ws) (Fine tt)) (sym e) refl
parts_say N vs (Pointer f ps) (v, ws, e, _, k, q) =
    subst (λ us. AllSay N (by_parts us) (bare_parts ps)) (sym e) (subst (λ u. AllSay N (by_kind u ++ by_parts ws) (bare_parts ps)) (sym k) (parts_say N ws ps q))
parts_say N vs (Array f x ps) (v, a, ws, e, _, k, p, q) =
    subst (λ us. AllSay N (by_parts us) (bare x >> bare_parts ps)) (sym e) (subst (λ u. AllSay N (by_kind u ++ by_parts ws) (bare x >> bare_parts ps)) (sym k) (more N (nodes.Expr a) (by_parts ws) (bare x) (bare_parts ps) (x, p, refl) (parts_say N ws ps q)))
parts_say N vs (Params f ds ps) (v, is, ws, e, _, k, p, q) =
    subst (λ us. AllSay N (by_parts us) (bare_decls ds >> bare_parts ps)) (sym e) (subst (λ u. AllSay N (by_kind u ++ by_parts ws) (bare_decls ds >> bare_parts ps)) (sym k) (both N (by_decls is) (by_parts ws) (bare_decls ds) (bare_parts ps) (decls_say N is ds p) (parts_say N ws ps q)))

mutual
  value_says : (N : Nodes) (v : Given) (x : Value) → StandsValue N v x → AllSay N (by_value v) (bare_value x)
  value_says N v (Plain x) (a, e, p) = subst (λ vs. AllSay N vs (bare x)) (sym (by_value-plain v a e)) (one N (nodes.Expr a) (bare x) (x, p, refl))
  value_says N v (Braces f xs) (w, e, p) = subst (λ vs. AllSay N vs (bare_values xs)) (sym (by_value-braces v f w e)) (values_say N w.items xs p)

  values_say : (N : Nodes) (vs : List Given) (xs : Values) → StandValues N vs xs → AllSay N (by_values vs) (bare_values xs)
  values_say N vs NoValues e = subst (λ ws. AllSay N (by_values ws) (Fine tt)) (sym e) refl
  values_say N vs (MoreValues x xs) (v, ws, e, p, q) =
      subst (λ us. AllSay N (by_values us) (bare_value x >> bare_values xs)) (sym e) (both N (by_value v) (by_values ws) (bare_value x) (bare_values xs) (value_says N v x p) (values_say N ws xs q))

pub rest_says : (N : Nodes) (v : After) (x : Rest) → StandsRest N v x → AllSay N (by_rest v) (bare_rest x)
rest_says N v NoRest e = subst (λ w. AllSay N (by_rest w) (Fine tt)) (sym e) refl
rest_says N v (Initial x) (w, e, p) = subst (λ u. AllSay N (by_rest u) (bare_value x)) (sym e) (value_says N w x p)
rest_says N v (Body s) (i, e, p) = subst (λ u. AllSay N (by_rest u) (bare_stmt s)) (sym e) (one N (nodes.Stmt i) (bare_stmt s) (s, p, refl))
rest_says N v (Members ds) (is, e, p) = subst (λ u. AllSay N (by_rest u) (bare_decls ds)) (sym e) (decls_say N is ds p)

-- ---- statements

entry_says : (N : Nodes) (v : Entry) (x : Stood) → StandsEntry N v x → AllSay N (by_entry v) (bare_entry x)
entry_says N v (LocalEntry ds) (is, e, p) = subst (λ u. AllSay N (by_entry u) (bare_decls ds)) (sym e) (decls_say N is ds p)
entry_says N v (StmtEntry s) (i, e, p) = subst (λ u. AllSay N (by_entry u) (bare_stmt s)) (sym e) (one N (nodes.Stmt i) (bare_stmt s) (s, p, refl))

entries_say : (N : Nodes) (vs : List Entry) (xs : Entries) → StandEntries N vs xs → AllSay N (by_entries vs) (bare_entries xs)
entries_say N vs NoEntries e = subst (λ ws. AllSay N (by_entries ws) (Fine tt)) (sym e) refl
entries_say N vs (MoreEntries x xs) (v, ws, e, p, q) =
    subst (λ us. AllSay N (by_entries us) (bare_entry x >> bare_entries xs)) (sym e) (both N (by_entry v) (by_entries ws) (bare_entry x) (bare_entries xs) (entry_says N v x p) (entries_say N ws xs q))

first_says : (N : Nodes) (a : Begin) (x : First) → StandsFirst N a x → AllSay N (by_first a) (bare_first x)
first_says N a NoFirst e = subst (λ u. AllSay N (by_first u) (Fine tt)) (sym e) refl
first_says N a (LocalFirst ds) (is, e, p) = subst (λ u. AllSay N (by_first u) (bare_decls ds)) (sym e) (decls_say N is ds p)
first_says N a (ExprFirst x) (i, e, p) = subst (λ u. AllSay N (by_first u) (bare x)) (sym e) (one N (nodes.Expr i) (bare x) (x, p, refl))

for_says : (N : Nodes) (a : Begin) (b c : Option ExprId) (d : StmtId) (x : First) (y z : MaybeExpr) (s : Stmt) → StandsFirst N a x → StandsMaybe N b y → StandsMaybe N c z → StandsStmt N d s →
    AllSay N (by_stmt (stmts.For a b c d)) (bare_first x >> bare_maybe y >> bare_maybe z >> bare_stmt s)
for_says N a b c d x y z s p q r t =
    let last = both N (by_maybe c) (nodes.Stmt d ∷ []) (bare_maybe z) (bare_stmt s) (maybe_says N c z r) (one N (nodes.Stmt d) (bare_stmt s) (s, t, refl)) in
    let later = both N (by_maybe b) (by_maybe c ++ nodes.Stmt d ∷ []) (bare_maybe y) (bare_maybe z >> bare_stmt s) (maybe_says N b y q) last in
    let all = both N (by_first a) (by_maybe b ++ (by_maybe c ++ nodes.Stmt d ∷ [])) (bare_first x) (bare_maybe y >> (bare_maybe z >> bare_stmt s)) (first_says N a x p) later in
    let same : (bare_first x >> bare_maybe y >> bare_maybe z >> bare_stmt s) ≡ (bare_first x >> (bare_maybe y >> (bare_maybe z >> bare_stmt s))) = assoc (bare_first x >> bare_maybe y) (bare_maybe z) (bare_stmt s) ∙ assoc (bare_first x) (bare_maybe y) (bare_maybe z >> bare_stmt s) in
    let P : Said → Type 0 = AllSay N (by_stmt (stmts.For a b c d)) in
    subst P (sym same) all

-- ---- nodes

expr_node : (N : Nodes) (i : ExprId) (f : ℕ) (k : ExprKind) (c : Said) → IsExprAt N i f k → AllSay N (by_expr k) c → AllSay N (named_by N (nodes.Expr i)) c
expr_node N i f k c (e, g, _, s) h =
    let there : named_by N (nodes.Expr i) ≡ by_expr k = ap by_expr_node g ∙ ap by_expr s in
    subst (λ vs. AllSay N vs c) (sym there) h

stmt_node : (N : Nodes) (i : StmtId) (f : ℕ) (k : StmtKind) (c : Said) → IsStmtAt N i f k → AllSay N (by_stmt k) c → AllSay N (named_by N (nodes.Stmt i)) c
stmt_node N i f k c (e, g, _, s) h =
    let there : named_by N (nodes.Stmt i) ≡ by_stmt k = ap by_stmt_node g ∙ ap by_stmt s in
    subst (λ vs. AllSay N vs c) (sym there) h

expr_says : (N : Nodes) (i : ExprId) (x : Expr) → Stands N i x → AllSay N (named_by N (nodes.Expr i)) (bare x)
expr_says N i (Name f n) h = expr_node N i f _ (Fine tt) h refl
expr_says N i (Number f v s d) h = expr_node N i f _ (Fine tt) h refl
expr_says N i (Char f v) h = expr_node N i f _ (Fine tt) h refl
expr_says N i (Text f n) h = expr_node N i f _ (Fine tt) h refl
expr_says N i (Binary f s x y) (a, b, h, p, q) = expr_node N i f _ (bare x >> bare y) h (two N (nodes.Expr a) (nodes.Expr b) (bare x) (bare y) (x, p, refl) (y, q, refl))
expr_says N i (Assign f s x y) (a, b, h, p, q) = expr_node N i f _ (bare x >> bare y) h (two N (nodes.Expr a) (nodes.Expr b) (bare x) (bare y) (x, p, refl) (y, q, refl))
expr_says N i (Cond f x y z) (a, b, c, h, p, q, r) = expr_node N i f _ (bare x >> bare y >> bare z) h (three N (nodes.Expr a) (nodes.Expr b) (nodes.Expr c) (bare x) (bare y) (bare z) (x, p, refl) (y, q, refl) (z, r, refl))
expr_says N i (Prefix f s x) (a, h, p) = expr_node N i f _ (bare x) h (one N (nodes.Expr a) (bare x) (x, p, refl))
expr_says N i (Postfix f s x) (a, h, p) = expr_node N i f _ (bare x) h (one N (nodes.Expr a) (bare x) (x, p, refl))
expr_says N i (SizeofExpr f x) (a, h, p) = expr_node N i f _ (bare x) h (one N (nodes.Expr a) (bare x) (x, p, refl))
expr_says N i (SizeofType f d) (a, h, p) = expr_node N i f _ (bare_decl d) h (one N (nodes.Decl a) (bare_decl d) (d, p, refl))
expr_says N i (Cast f d x) (a, b, h, p, q) = expr_node N i f _ (bare_decl d >> bare x) h (two N (nodes.Decl a) (nodes.Expr b) (bare_decl d) (bare x) (d, p, refl) (x, q, refl))
expr_says N i (Index f x y) (a, b, h, p, q) = expr_node N i f _ (bare x >> bare y) h (two N (nodes.Expr a) (nodes.Expr b) (bare x) (bare y) (x, p, refl) (y, q, refl))
expr_says N i (Call f x xs) (a, is, h, p, q) = expr_node N i f _ (bare x >> bare_exprs xs) h (more N (nodes.Expr a) (by_exprs is) (bare x) (bare_exprs xs) (x, p, refl) (exprs_say N is xs q))
expr_says N i (Member f x n) (a, h, p) = expr_node N i f _ (bare x) h (one N (nodes.Expr a) (bare x) (x, p, refl))
expr_says N i (Arrow f x n) (a, h, p) = expr_node N i f _ (bare x) h (one N (nodes.Expr a) (bare x) (x, p, refl))

stmt_says : (N : Nodes) (i : StmtId) (x : Stmt) → StandsStmt N i x → AllSay N (named_by N (nodes.Stmt i)) (bare_stmt x)
stmt_says N i (Block f es) (vs, h, p) = stmt_node N i f _ (bare_entries es) h (entries_say N vs es p)
stmt_says N i (Expression f x) (a, h, p) = stmt_node N i f _ (bare_maybe x) h (maybe_says N a x p)
stmt_says N i (If f x s) (a, b, h, p, q) = stmt_node N i f _ (bare x >> bare_stmt s) h (two N (nodes.Expr a) (nodes.Stmt b) (bare x) (bare_stmt s) (x, p, refl) (s, q, refl))
stmt_says N i (IfElse f x s z) (a, b, c, h, p, q, r) = stmt_node N i f _ (bare x >> bare_stmt s >> bare_stmt z) h (three N (nodes.Expr a) (nodes.Stmt b) (nodes.Stmt c) (bare x) (bare_stmt s) (bare_stmt z) (x, p, refl) (s, q, refl) (z, r, refl))
stmt_says N i (While f x s) (a, b, h, p, q) = stmt_node N i f _ (bare x >> bare_stmt s) h (two N (nodes.Expr a) (nodes.Stmt b) (bare x) (bare_stmt s) (x, p, refl) (s, q, refl))
stmt_says N i (Do f s x) (a, b, h, p, q) = stmt_node N i f _ (bare_stmt s >> bare x) h (two N (nodes.Stmt a) (nodes.Expr b) (bare_stmt s) (bare x) (s, p, refl) (x, q, refl))
stmt_says N i (For f x y z s) (a, b, c, d, h, p, q, r, t) = stmt_node N i f _ (bare_first x >> bare_maybe y >> bare_maybe z >> bare_stmt s) h (for_says N a b c d x y z s p q r t)
stmt_says N i (Break f) h = stmt_node N i f _ (Fine tt) h refl
stmt_says N i (Continue f) h = stmt_node N i f _ (Fine tt) h refl
stmt_says N i (Return f x) (a, h, p) = stmt_node N i f _ (bare_maybe x) h (maybe_says N a x p)

first_word_is : (N : Nodes) (vs : List Annot) (xs : Annots) → StandAnnots N vs xs → first_word vs ≡ word_out_of_place xs
first_word_is N vs NoAnnots e = ap first_word e
first_word_is N vs (MoreAnnots (Annotate f n is) xs) (v, ws, e, (g, _, _), q) = ap first_word e ∙ ap (λ o. Broken o 1) g

without_words : (an : Annots) (c d : Said) → (word_out_of_place an >> c >> d) ≡ (word_out_of_place an >> (bare_annots an >> (c >> d)))
without_words NoAnnots c d = refl
without_words (MoreAnnots (Annotate f n is) xs) c d = refl

-- what is said of a node is what is said of it by itself, and then of what it names
pub below : (N : Nodes) (v : Node) (c : Said) → Says N v c → (d : Said) × AllSay N (named_by N v) d × (c ≡ (own N v >> d))
below N (nodes.Expr i) c (x, h, e) = (bare x, expr_says N i x h, e)
below N (nodes.Stmt i) c (x, h, e) = (bare_stmt x, stmt_says N i x h, e)
below N (nodes.Decl i) c (Declare f an b ps n r, (d, g, _, p, _, q, _, s), e) =
    let word : own N (nodes.Decl i) ≡ word_out_of_place an = ap own_of g ∙ first_word_is N d.annots an p in
    let there : named_by N (nodes.Decl i) ≡ by_decl d = ap by_decl_node g in
    let inner = both N (by_parts d.parts) (by_rest d.rest) (bare_parts ps) (bare_rest r) (parts_say N d.parts ps q) (rest_says N d.rest r s) in
    let all = both N (by_annots d.annots) (by_parts d.parts ++ by_rest d.rest) (bare_annots an) (bare_parts ps >> bare_rest r) (annots_say N d.annots an p) inner in
    let said : Said = bare_annots an >> (bare_parts ps >> bare_rest r) in
    (said, subst (λ vs. AllSay N vs said) (sym there) all, e ∙ without_words an (bare_parts ps) (bare_rest r) ∙ ap (λ w. w >> said) (sym word))
