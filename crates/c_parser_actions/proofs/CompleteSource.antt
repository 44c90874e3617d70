-- Whatever has a tree is parsed: the machine follows each production of values, statements and whole sources.
use Rattle.std.proofs.Common.{◌≡◌, ℕ, Bool, true, false, List, [], ◌∷◌, Some, None, ◌⊎◌, inl, inr, refl, ap, sym, ◌∙◌, arith}
use Rattle.c_lexer.specs.declared.token.Sign.{Sign}
use Rattle.c_lexer.specs.declared.token.Sign.TheVariants as signs
use Rattle.c_lexer.specs.declared.token.Word.{Word}
use Rattle.c_lexer.specs.declared.token.Word.TheVariants as words
use Rattle.c_lexer.specs.declared.token.Kind.{Kind}
use Rattle.c_lexer.specs.declared.token.Kind.TheVariants as kinds
use Rattle.c_lexer.specs.declared.token.Token.{Token}
use Rattle.c_syntax.specs.declared.declaration.Base.{Base}
use Rattle.c_syntax.specs.Syntax.{MaybeExpr, Decls, Annots, Parts, Value, Values, Rest, Stmt, Entries, First, Declare, NoDecls, NoValues, NoRest, Initial, Body, Members, Expression, Return, NoEntries, LocalFirst, decls_then, values_then}
use Rattle.c_syntax.specs.Levels.{is_type_kind, begins_type, from_of}
use Rattle.c_parser_moves.specs.declared.mark.Punctuator.{Punctuator}
use Rattle.c_parser_moves.specs.declared.mark.Punctuator.TheVariants as marks
use Rattle.c_parser_moves.specs.declared.frame.Naming.TheVariants as namings
use Rattle.c_parser_moves.specs.declared.frame.Target.TheVariants as targets
use Rattle.c_parser_moves.specs.declared.frame.DeclaredIn.{DeclaredIn}
use Rattle.c_parser_moves.specs.declared.frame.DeclaredIn.TheVariants as places
use Rattle.c_parser_moves.specs.declared.frame.Frame.{Frame}
use Rattle.c_parser_moves.specs.declared.frame.Frame.TheVariants as fr
use Rattle.c_parser_moves.specs.declared.frame.Next.TheVariants as nx
use Rattle.c_parser_moves.specs.declared.action.Action.TheVariants as acts
use Rattle.c_parser_moves.specs.Marks.{mark_at, sign_mark, after_at}
use Rattle.c_parser_actions.specs.Pieces.{Piece, PExpr, PMaybe, PDeclr, PSpecs, PDecls, PValue, PValues, PEntries, PStmt, PFirst, PTag, act}
use Rattle.c_parser_moves.proofs.MachineDeclr.{end_next}
use Rattle.c_parser_moves.proofs.MachineSource.{defines_kinds, defines}
use Rattle.c_syntax.specs.Grammar.{IsExpr, IsWords, IsSpecs, IsDeclr, IsDirect, IsAnnotation, Label, Named, Nameless}
use Rattle.c_syntax.specs.declared.specifier.Specifiers.{Specifiers}
use Rattle.c_syntax.specs.TypeWords.{with_word}
use Rattle.c_syntax.specs.Grammar as g
use Rattle.c_syntax.specs.Sources as s
use Rattle.c_syntax.specs.Sources.{IsValue, IsValues, IsInit, IsNames, IsLocal, IsMaybe, IsFirst, IsStmt, IsEntries, IsMembers, IsTops, Spells}
use Rattle.c_parser_actions.proofs.Runs.{TState, tstate, start_expr, Reaches, here, then}
use Rattle.c_parser_actions.proofs.MovesDeclr as of_declr
use Rattle.c_parser_actions.proofs.MovesExpr as of_expr
use Rattle.c_parser_actions.proofs.MovesSource as of_source
use Rattle.c_parser_actions.proofs.MovesDeclr.{DirectEnds}
use Rattle.c_parser_actions.proofs.MovesExpr.{Pops}
use Rattle.c_parser_actions.proofs.MovesSource.{end_pieces, valued}
use Rattle.c_parser_actions.proofs.Firsts.{starts, starts_not, starts_no_type, expr_starts, kind_other}
use Rattle.c_parser_actions.proofs.Types.{wordless, type_begins, specs_taken, type_mark, is_other, struct_refused}
use Rattle.c_parser_actions.proofs.Complete.{complete_expr, closed_run, complete_declr, declr_wordless, complete_annots}

-- what may follow a value
abbrev pub ValueEnd : List Token → Type 0
ValueEnd [] = ⊥
ValueEnd (t ∷ ts) = ((t.kind ≡ kinds.Sign signs.Comma) ⊎ (t.kind ≡ kinds.Sign signs.Semicolon)) ⊎ (t.kind ≡ kinds.Sign signs.CloseBrace)

value_pops : (ts : List Token) → ValueEnd ts → Pops 2 (after_at ts)
value_pops [] h = absurd h
value_pops (t ∷ ts) (inl (inl h)) = rw h (omega arith)
value_pops (t ∷ ts) (inl (inr h)) = rw h tt
value_pops (t ∷ ts) (inr h) = rw h tt

abbrev ValueRun : List Token → Value → List Token → Type 0
ValueRun ts v rest = (P : List Piece) (K : List Frame) → Reaches (tstate nx.Initial P ts K) (tstate nx.ValueDone (PValue v ∷ P) rest K)

-- the last value waits for its sign
abbrev ValuesRun : List Token → Values → List Token → Type 0
ValuesRun ts vs rest = (f : ℕ) (P : List Piece) (K : List Frame) → (ws : Values) × (v : Value) × (vs ≡ values_then ws v) ×
    Reaches (tstate nx.Initial (PValues NoValues ∷ P) ts (fr.Braces f ∷ K)) (tstate nx.ValueDone (PValue v ∷ PValues ws ∷ P) rest (fr.Braces f ∷ K))

-- a value begins with no closing brace
value_begins : {ts rest : List Token} {v : Value} → IsValue ts v rest → mark_at ts ≡ marks.CloseBrace → ⊥
value_begins {ts = ts} (s.plain d) e = starts_not ts marks.CloseBrace (expr_starts d) refl e
value_begins (s.braces h d k) e = absurd (let x : marks.OpenBrace ≡ marks.CloseBrace = rw h at e in cc)
value_begins (s.braces_comma h d k l) e = absurd (let x : marks.OpenBrace ≡ marks.CloseBrace = rw h at e in cc)

mutual
  pub complete_value : {ts rest : List Token} {v : Value} → IsValue ts v rest → ValueEnd rest → ValueRun ts v rest
  complete_value {ts = ts} {rest = rest} (s.plain d) k P K =
      let r = complete_expr d (value_pops rest k) 2 (omega arith) P (fr.Plain ∷ K) in
      of_source.initial_plain (starts_not ts marks.OpenBrace (expr_starts d) refl) (then r.2 (of_expr.value_move (value_pops rest k) r.1 (of_expr.plain_done here)))
  complete_value (s.braces {t = t} e d h) k P K =
      let r = complete_values d (inr h) t.from P K in
      rw r.2 (of_source.initial_braces e (then r.3 (of_source.braces_done h here)))
  complete_value (s.braces_comma {t = t} e d h l) k P K =
      let r = complete_values d (inl (inl h)) t.from P K in
      rw r.2 (of_source.initial_braces e (then r.3 (of_source.braces_comma_done h l here)))

  complete_values : {ts rest : List Token} {vs : Values} → IsValues ts vs rest → ValueEnd rest → ValuesRun ts vs rest
  complete_values (s.first_value {v = v} d) k f P K = (NoValues, v, refl, complete_value d k (PValues NoValues ∷ P) (fr.Braces f ∷ K))
  complete_values (s.more_values {us = us} {vs = vs} {v = v} d e c) k f P K =
      let r = complete_values d (inl (inl e)) f P K in
      (values_then r.0 r.1, v, ap (λ z. values_then z v) r.2, then r.3 (of_source.braces_more e (value_begins c) (complete_value c k (PValues (values_then r.0 r.1) ∷ P) (fr.Braces f ∷ K))))

-- what may follow a name and its value
abbrev NameEnd : List Token → Type 0
NameEnd [] = ⊥
NameEnd (t ∷ ts) = (t.kind ≡ kinds.Sign signs.Comma) ⊎ (t.kind ≡ kinds.Sign signs.Semicolon)

name_value : (ts : List Token) → NameEnd ts → ValueEnd ts
name_value [] h = absurd h
name_value (t ∷ ts) h = inl h

-- what follows a declarator of names
name_direct : {values : Bool} {us rest : List Token} {r : Rest} → IsInit values us r rest → NameEnd rest → DirectEnds (mark_at us) × (wordless us ≡ true)
name_direct {us = []} s.no_init h = absurd h
name_direct {us = t ∷ ts} s.no_init (inl h) = rw h (tt, refl)
name_direct {us = t ∷ ts} s.no_init (inr h) = rw h (tt, refl)
name_direct (s.init v e d) h = rw e (tt, refl)

-- the pieces of a name that waits for its sign, and what comes next
abbrev pub named_state : Rest → DeclaredIn → Bool → Annots → Base → Parts → ℕ → List ℕ → Decls → List Piece → List Token → List Frame → TState
named_state (Initial v) pl first an b ps f n ds P ts K = tstate nx.ValueDone (PValue v ∷ PDeclr ps (Some n) f ∷ PSpecs an b ∷ PDecls ds ∷ P) ts (fr.Init pl ∷ K)
named_state _ pl first an b ps f n ds P ts K = tstate nx.DeclrDone (PDeclr ps (Some n) f ∷ PSpecs an b ∷ PDecls ds ∷ P) ts (fr.Names pl first ∷ K)

-- a name's value may stand at the place
abbrev Fits : Bool → DeclaredIn → Type 0
Fits values pl = values ≡ true → valued pl ≡ true

-- one name, with its value
name_run : {values : Bool} {an : Annots} {b : Base} {ts us rest : List Token} {ps : Parts} {f : ℕ} {n : List ℕ} {r : Rest} → IsDeclr ts ps (Named f n) us → IsInit values us r rest → NameEnd rest →
    (pl : DeclaredIn) → Fits values pl → (first : Bool) (ds : Decls) (P : List Piece) (K : List Frame) →
    Reaches (tstate (nx.Declr namings.Always 0) (PSpecs an b ∷ PDecls ds ∷ P) ts (fr.Names pl first ∷ K)) (named_state r pl first an b ps f n ds P rest K)
name_run {values = values} {an = an} {b = b} {rest = rest} d s.no_init h pl v first ds P K =
    let i : IsInit values rest NoRest rest = s.no_init in
    let q = name_direct i h in
    complete_declr d namings.Always 0 (PSpecs an b ∷ PDecls ds ∷ P) (fr.Names pl first ∷ K) refl tt q.0 q.1
name_run {values = values} {an = an} {b = b} {rest = rest} {ps = ps} {f = f} {n = n} d (s.init {t = t} {ts = ts} {v = z} w e c) h pl v first ds P K =
    let i : IsInit values (t ∷ ts) (Initial z) rest = s.init w e c in
    let q = name_direct i h in
    then (complete_declr d namings.Always 0 (PSpecs an b ∷ PDecls ds ∷ P) (fr.Names pl first ∷ K) refl tt q.0 q.1)
    (of_source.names_value pl e (v w) (complete_value c (name_value rest h) (PDeclr ps (Some n) f ∷ PSpecs an b ∷ PDecls ds ∷ P) (fr.Init pl ∷ K)))

-- what a name may have after its declarator
abbrev Ends : Rest → Type 0
Ends NoRest = Unit {0}
Ends (Initial v) = Unit {0}
Ends _ = ⊥

-- after a name's sign
comma_run : (r : Rest) → Ends r → (t : Token) (pl : DeclaredIn) (first : Bool) (an : Annots) (b : Base) (ps : Parts) (f : ℕ) (n : List ℕ) (ds : Decls) (P : List Piece) {ts : List Token} {K : List Frame} {z : TState} → t.kind ≡ kinds.Sign signs.Comma →
    Reaches (tstate (nx.Declr namings.Always 0) (PSpecs an b ∷ PDecls (decls_then ds (Declare f an b ps (Some n) r)) ∷ P) ts (fr.Names pl false ∷ K)) z →
    Reaches (named_state r pl first an b ps f n ds P (t ∷ ts) K) z
comma_run NoRest q t pl first an b ps f n ds P e r = of_source.names_comma e r
comma_run (Initial v) q t pl first an b ps f n ds P e r = of_source.init_comma e r
comma_run (Body x) q t pl first an b ps f n ds P e r = absurd q
comma_run (Members x) q t pl first an b ps f n ds P e r = absurd q

semicolon_run : (r : Rest) → Ends r → (t : Token) (pl : DeclaredIn) (first : Bool) (an : Annots) (b : Base) (ps : Parts) (f : ℕ) (n : List ℕ) (ds : Decls) (P : List Piece) {ts : List Token} {K : List Frame} {z : TState} → t.kind ≡ kinds.Sign signs.Semicolon →
    Reaches (tstate (end_next pl) (end_pieces pl (PDecls (decls_then ds (Declare f an b ps (Some n) r)) ∷ P)) ts K) z →
    Reaches (named_state r pl first an b ps f n ds P (t ∷ ts) K) z
semicolon_run NoRest q t pl first an b ps f n ds P e r = of_source.names_end pl e r
semicolon_run (Initial v) q t pl first an b ps f n ds P e r = of_source.init_finish pl e r
semicolon_run (Body x) q t pl first an b ps f n ds P e r = absurd q
semicolon_run (Members x) q t pl first an b ps f n ds P e r = absurd q

init_ends : {values : Bool} {ts rest : List Token} {r : Rest} → IsInit values ts r rest → Ends r
init_ends s.no_init = tt
init_ends (s.init v e d) = tt

-- names up to the sign after the last
names_run : {values : Bool} {an : Annots} {b : Base} {before after : Decls} {ts rest : List Token} → IsNames values an b before ts after rest → NameEnd rest → (pl : DeclaredIn) → Fits values pl → (P : List Piece) (K : List Frame) →
    (ds : Decls) × (ps : Parts) × (f : ℕ) × (n : List ℕ) × (r : Rest) × (first : Bool) × Ends r × (after ≡ decls_then ds (Declare f an b ps (Some n) r)) ×
    Reaches (tstate (nx.Declr namings.Always 0) (PSpecs an b ∷ PDecls before ∷ P) ts (fr.Names pl true ∷ K)) (named_state r pl first an b ps f n ds P rest K)
names_run {before = before} (s.first_name {ps = ps} {f = f} {n = n} {r = r} d i) h pl v P K = (before, ps, f, n, r, true, init_ends i, refl, name_run d i h pl v true before P K)
names_run {an = an} {b = b} (s.more_names {t = t} {ds = ds} {ps = ps} {f = f} {n = n} {r = r} d e c i) h pl v P K =
    let q = names_run d (inl e) pl v P K in
    let es : Decls = decls_then q.0 (Declare q.2 an b q.1 (Some q.3) q.4) in
    (es, ps, f, n, r, false, init_ends i, ap (λ z. decls_then z (Declare f an b ps (Some n) r)) q.7, then q.8 (comma_run q.4 q.6 t pl q.5 an b q.1 q.2 q.3 q.0 P e (name_run c i h pl v false es P K)))

-- names with the semicolon
pub all_names : {values : Bool} {an : Annots} {b : Base} {before after : Decls} {t : Token} {ts rest : List Token} → IsNames values an b before ts after (t ∷ rest) → t.kind ≡ kinds.Sign signs.Semicolon → (pl : DeclaredIn) → Fits values pl → (P : List Piece) (K : List Frame) →
    Reaches (tstate (nx.Declr namings.Always 0) (PSpecs an b ∷ PDecls before ∷ P) ts (fr.Names pl true ∷ K)) (tstate (end_next pl) (end_pieces pl (PDecls after ∷ P)) rest K)
all_names {an = an} {b = b} {t = t} d h pl v P K = let q = names_run d (inr h) pl v P K in rw q.7 (then q.8 (semicolon_run q.4 q.6 t pl q.5 an b q.1 q.2 q.3 q.0 P h here))

-- a declaration's names begin with no word
names_wordless : {values : Bool} {an : Annots} {b : Base} {before after : Decls} {ts rest : List Token} → IsNames values an b before ts after rest → NameEnd rest → wordless ts ≡ true
names_wordless (s.first_name d i) h = declr_wordless d (name_direct i h).1
names_wordless (s.more_names d e c i) h = names_wordless d (inl e)

local_run : {ts rest : List Token} {ds : Decls} → IsLocal ts ds rest → (P : List Piece) (K : List Frame) → Reaches (tstate (nx.Names places.Local) P ts K) (tstate nx.Entry (act acts.AddLocal (PDecls ds ∷ P)) rest K)
local_run (s.local c d h) P K = of_declr.names_local (specs_taken c (names_wordless d (inr h))) (all_names d h places.Local (λ x. refl) P K)

for_local_run : {ts rest : List Token} {ds : Decls} → IsLocal ts ds rest → (f : ℕ) (P : List Piece) (K : List Frame) → Reaches (tstate (nx.Names (places.For f)) P ts K) (tstate (nx.ForTest f) (PFirst (LocalFirst ds) ∷ P) rest K)
for_local_run (s.local c d h) f P K = of_declr.names_for (specs_taken c (names_wordless d (inr h))) (all_names d h (places.For f) (λ x. refl) P K)

local_begins : {ts rest : List Token} {ds : Decls} → IsLocal ts ds rest → begins_type ts ≡ true
local_begins (s.local c d h) = type_begins c

first_run : {ts rest : List Token} {a : First} → IsFirst ts a rest → (f : ℕ) (P : List Piece) (K : List Frame) → Reaches (tstate (nx.ForFirst f) P ts K) (tstate (nx.ForTest f) (PFirst a ∷ P) rest K)
first_run {ts = ts} (s.local_first d) f P K = of_source.first_local (type_mark ts marks.Semicolon (local_begins d) refl) (local_begins d) (for_local_run d f P K)
first_run {ts = ts} (s.expr_first d h) f P K = of_source.first_expr (starts_not ts marks.Semicolon (expr_starts d) refl) (starts_no_type ts (expr_starts d)) (then (closed_run (complete_expr d (rw h tt)) (rw h tt) P (fr.ForFirst f ∷ K)) (of_expr.for_first_done h here))
first_run (s.no_first h) f P K = of_source.no_first_move h here

test_run : {t : Token} {ts rest : List Token} {x : MaybeExpr} → IsMaybe ts x (t ∷ rest) → t.kind ≡ kinds.Sign signs.Semicolon → (f : ℕ) (P : List Piece) (K : List Frame) → Reaches (tstate (nx.ForTest f) P ts K) (tstate (nx.ForStep f) (PMaybe x ∷ P) rest K)
test_run s.nothing h f P K = of_source.test_none h here
test_run {ts = ts} (s.something d) h f P K = of_source.test_some (starts_not ts marks.Semicolon (expr_starts d) refl) (then (closed_run (complete_expr d (rw h tt)) (rw h tt) P (fr.ForTest f ∷ K)) (of_expr.for_test_done h here))

step_run : {t : Token} {ts rest : List Token} {x : MaybeExpr} → IsMaybe ts x (t ∷ rest) → t.kind ≡ kinds.Sign signs.CloseParenthesis → (f : ℕ) (P : List Piece) (K : List Frame) → Reaches (tstate (nx.ForStep f) P ts K) (tstate nx.Stmt (PMaybe x ∷ P) rest (fr.ForBody f ∷ K))
step_run s.nothing h f P K = of_source.step_none h here
step_run {ts = ts} (s.something d) h f P K = of_source.step_some (starts_not ts marks.Close (expr_starts d) refl) (then (closed_run (complete_expr d (rw h tt)) (rw h tt) P (fr.ForStep f ∷ K)) (of_expr.for_step_done h here))

return_run : {t u : Token} {ts rest : List Token} {x : MaybeExpr} → t.kind ≡ kinds.Word words.Return → IsMaybe ts x (u ∷ rest) → u.kind ≡ kinds.Sign signs.Semicolon → (P : List Piece) (K : List Frame) → Reaches (tstate nx.Stmt P (t ∷ ts) K) (tstate nx.StmtDone (PStmt (Return t.from x) ∷ P) rest K)
return_run e s.nothing h P K = of_source.return_none e h here
return_run {t = t} {ts = ts} e (s.something d) h P K = of_source.return_some e (starts_not ts marks.Semicolon (expr_starts d) refl) (then (closed_run (complete_expr d (rw h tt)) (rw h tt) P (fr.Return t.from ∷ K)) (of_expr.return_done h here))

other_run : (ts : List Token) {P : List Piece} {K : List Frame} {z : TState} → starts ts ≡ true → Reaches (start_expr 1 P ts (fr.Expression (from_of ts) ∷ K)) z → Reaches (tstate nx.Stmt P ts K) z
other_run [] h r = absurd (let x : false ≡ true = h in cc)
other_run (t ∷ ts) h r = of_source.other_move (kind_other t.kind h) r

expression_run : {t : Token} {ts rest : List Token} {x : MaybeExpr} → IsMaybe ts x (t ∷ rest) → t.kind ≡ kinds.Sign signs.Semicolon → (P : List Piece) (K : List Frame) → Reaches (tstate nx.Stmt P ts K) (tstate nx.StmtDone (PStmt (Expression (from_of ts) x) ∷ P) rest K)
expression_run s.nothing h P K = of_source.empty_move h here
expression_run {ts = ts} (s.something d) h P K = other_run ts (expr_starts d) (then (closed_run (complete_expr d (rw h tt)) (rw h tt) P (fr.Expression (from_of ts) ∷ K)) (of_expr.expression_done h here))

-- a statement begins with neither a brace that closes nor a type
abbrev Begun : List Token → Type 0
Begun ts = (mark_at ts ≡ marks.CloseBrace → ⊥) × (begins_type ts ≡ false)

word_begun : (t : Token) (ts : List Token) (w : Word) → t.kind ≡ kinds.Word w → is_type_kind (kinds.Word w) ≡ false → Begun (t ∷ ts)
word_begun t ts w e h = (λ k. absurd (let x : marks.Other ≡ marks.CloseBrace = rw e at k in cc), rw e h)

sign_begun : (t : Token) (ts : List Token) (x : Sign) → t.kind ≡ kinds.Sign x → (sign_mark x ≡ marks.CloseBrace → ⊥) → Begun (t ∷ ts)
sign_begun t ts x e h = (λ k. h (rw e at k), rw e refl)

maybe_begun : {t : Token} {ts rest : List Token} {x : MaybeExpr} → IsMaybe ts x (t ∷ rest) → t.kind ≡ kinds.Sign signs.Semicolon → Begun ts
maybe_begun {t = t} {rest = rest} s.nothing h = sign_begun t rest _ h (λ k. absurd cc)
maybe_begun {ts = ts} (s.something d) h = (starts_not ts marks.CloseBrace (expr_starts d) refl, starts_no_type ts (expr_starts d))

stmt_begun : {ts rest : List Token} {x : Stmt} → IsStmt ts x rest → Begun ts
stmt_begun (s.block {t = t} {ts = ts} e d h) = sign_begun t ts _ e (λ k. absurd cc)
stmt_begun (s.expression d h) = maybe_begun d h
stmt_begun (s.if_only {t = t} {u = u} {ts = ts} e h d k c n) = word_begun t (u ∷ ts) _ e refl
stmt_begun (s.if_else {t = t} {u = u} {ts = ts} e h d k c w z) = word_begun t (u ∷ ts) _ e refl
stmt_begun (s.while {t = t} {u = u} {ts = ts} e h d k c) = word_begun t (u ∷ ts) _ e refl
stmt_begun (s.do_while {t = t} {ts = ts} e d h k c l m) = word_begun t ts _ e refl
stmt_begun (s.for {t = t} {u = u} {ts = ts} e h d c k b l q) = word_begun t (u ∷ ts) _ e refl
stmt_begun (s.break {t = t} {u = u} {rest = rest} e h) = word_begun t (u ∷ rest) _ e refl
stmt_begun (s.continue {t = t} {u = u} {rest = rest} e h) = word_begun t (u ∷ rest) _ e refl
stmt_begun (s.return {t = t} {ts = ts} e d h) = word_begun t ts _ e refl

mutual
  pub complete_stmt : {ts rest : List Token} {x : Stmt} → IsStmt ts x rest → (P : List Piece) (K : List Frame) → Reaches (tstate nx.Stmt P ts K) (tstate nx.StmtDone (PStmt x ∷ P) rest K)
  complete_stmt (s.block {t = t} e d h) P K = of_source.block_move e (then (complete_entries d t.from P K) (of_source.entry_end h here))
  complete_stmt (s.expression d h) P K = expression_run d h P K
  complete_stmt (s.if_only {t = t} {e = x} e h d k c n) P K =
      of_source.if_move e h (then (closed_run (complete_expr d (rw k tt)) (rw k tt) P (fr.IfCond t.from ∷ K)) (of_expr.if_cond_done k (then (complete_stmt c (PExpr x ∷ P) (fr.IfThen t.from ∷ K)) (of_source.if_done n here))))
  complete_stmt (s.if_else {t = t} {e = x} {s = y} e h d k c w z) P K =
      of_source.if_move e h (then (closed_run (complete_expr d (rw k tt)) (rw k tt) P (fr.IfCond t.from ∷ K)) (of_expr.if_cond_done k (then (complete_stmt c (PExpr x ∷ P) (fr.IfThen t.from ∷ K)) (of_source.else_move w (then (complete_stmt z (PStmt y ∷ PExpr x ∷ P) (fr.IfElse t.from ∷ K)) (of_source.else_done here))))))
  complete_stmt (s.while {t = t} {e = x} e h d k c) P K =
      of_source.while_move e h (then (closed_run (complete_expr d (rw k tt)) (rw k tt) P (fr.WhileCond t.from ∷ K)) (of_expr.while_cond_done k (then (complete_stmt c (PExpr x ∷ P) (fr.WhileBody t.from ∷ K)) (of_source.while_done here))))
  complete_stmt (s.do_while {t = t} {s = y} e d h k c l m) P K =
      of_source.do_move e (then (complete_stmt d P (fr.DoBody t.from ∷ K)) (of_source.do_done h k (then (closed_run (complete_expr c (rw l tt)) (rw l tt) (PStmt y ∷ P) (fr.DoCond t.from ∷ K)) (of_expr.do_cond_done l m here))))
  complete_stmt (s.for {t = t} {a = a} {x = x} {y = y} e h d c k b l q) P K =
      of_source.for_move e h (then (first_run d t.from P K) (then (test_run c k t.from (PFirst a ∷ P) K) (then (step_run b l t.from (PMaybe x ∷ PFirst a ∷ P) K) (then (complete_stmt q (PMaybe y ∷ PMaybe x ∷ PFirst a ∷ P) (fr.ForBody t.from ∷ K)) (of_source.for_done here)))))
  complete_stmt (s.break e h) P K = of_source.break_move e h here
  complete_stmt (s.continue e h) P K = of_source.continue_move e h here
  complete_stmt (s.return e d h) P K = return_run e d h P K

  complete_entries : {ts rest : List Token} {es : Entries} → IsEntries ts es rest → (f : ℕ) (P : List Piece) (K : List Frame) → Reaches (tstate nx.Entry (PEntries NoEntries ∷ P) ts (fr.Block f ∷ K)) (tstate nx.Entry (PEntries es ∷ P) rest (fr.Block f ∷ K))
  complete_entries s.no_entry f P K = here
  complete_entries (s.local_entry {us = us} {es = es} d c) f P K =
      then (complete_entries d f P K) (of_source.entry_local (type_mark us marks.CloseBrace (local_begins c) refl) (local_begins c) (local_run c (PEntries es ∷ P) (fr.Block f ∷ K)))
  complete_entries (s.stmt_entry {es = es} d c) f P K =
      let b = stmt_begun c in
      then (complete_entries d f P K) (of_source.entry_stmt b.0 b.1 (then (complete_stmt c (PEntries es ∷ P) (fr.Block f ∷ K)) (of_source.entry_more here)))

members_run : {ts rest : List Token} {ds : Decls} → IsMembers ts ds rest → (P : List Piece) (K : List Frame) → Reaches (tstate (nx.Names places.Member) (PDecls NoDecls ∷ P) ts K) (tstate nx.MemberEnd (PDecls ds ∷ P) rest K)
members_run (s.first_members c d h) P K = of_declr.names_member (specs_taken c (names_wordless d (inr h))) (all_names d h places.Member (λ x. x) P K)
members_run (s.more_members {us = us} m c d h) P K =
    then (members_run m P K) (of_source.members_more (type_mark us marks.CloseBrace (type_begins c) refl) (of_declr.names_member (specs_taken c (names_wordless d (inr h))) (all_names d h places.Member (λ x. x) P K)))

-- a type at top level begins with a word
word_mark : (t : Token) (ts : List Token) (w : Word) (c : Punctuator) → t.kind ≡ kinds.Word w → mark_at (t ∷ ts) ≡ c → is_other c ≡ false → ⊥
word_mark t ts w c e h k = absurd (let x : marks.Other ≡ c = rw e at h in let y : true ≡ false = ap is_other x ∙ k in cc)

abbrev Opened : List Token → Type 0
Opened [] = Unit {0}
Opened (t ∷ ts) = t.kind ≡ kinds.Sign signs.OpenBrace → ⊥

other_defines : (w : Word) (u v : Kind) (ts : List Token) → (w ≡ words.Struct → ⊥) → defines_kinds (kinds.Word w) u v ts ≡ None
other_defines words.Struct u v ts h = absurd (h refl)
other_defines _ u v ts h = refl

word_defines : (t : Token) (ts : List Token) (w : Word) → t.kind ≡ kinds.Word w → (w ≡ words.Struct → ⊥) → defines (t ∷ ts) ≡ None
unfolding defines
word_defines t [] w e h = refl
word_defines t (u ∷ []) w e h = refl
word_defines t (u ∷ v ∷ ts) w e h = rw e (other_defines w u.kind v.kind ts h)

sign_defines : (x : Sign) (n : List ℕ) (ts : List Token) → (x ≡ signs.OpenBrace → ⊥) → defines_kinds (kinds.Word words.Struct) (kinds.Name n) (kinds.Sign x) ts ≡ None
sign_defines signs.OpenBrace n ts h = absurd (h refl)
sign_defines _ n ts h = refl

third_defines : (v : Kind) (n : List ℕ) (ts : List Token) → (v ≡ kinds.Sign signs.OpenBrace → ⊥) → defines_kinds (kinds.Word words.Struct) (kinds.Name n) v ts ≡ None
third_defines (kinds.Sign x) n ts h = sign_defines x n ts (λ q. h (ap (λ y. kinds.Sign y) q))
third_defines _ n ts h = refl

kind_defines : (t u : Token) (v : Kind) (ts : List Token) (n : List ℕ) → t.kind ≡ kinds.Word words.Struct → u.kind ≡ kinds.Name n → (v ≡ kinds.Sign signs.OpenBrace → ⊥) → defines_kinds t.kind u.kind v ts ≡ None
kind_defines t u v ts n e f h = rw (e, f) (third_defines v n ts h)

tag_defines : (t u : Token) (ts : List Token) (n : List ℕ) → t.kind ≡ kinds.Word words.Struct → u.kind ≡ kinds.Name n → Opened ts → defines (t ∷ u ∷ ts) ≡ None
unfolding defines
tag_defines t u [] n e f h = refl
tag_defines t u (v ∷ ts) n e f h = kind_defines t u v.kind ts n e f h

words_open : {top : Bool} {ts rest : List Token} {r z : Specifiers} → IsWords top ts r z rest → Opened rest → Opened ts
words_open g.no_word h = h
words_open (g.word e k f d) h = λ q. absurd (let x = sym e ∙ q in cc)
words_open (g.tag e k f d) h = λ q. absurd (let x = sym e ∙ q in cc)

no_struct_word : (r z : Specifiers) (w : Word) → with_word r w ≡ Some z → w ≡ words.Struct → ⊥
no_struct_word r z w h e = struct_refused r z (rw e at h)

-- what a declaration at top level begins with
top_begins : {ts rest : List Token} {b : Base} → IsSpecs true ts b rest → Opened rest → (ts ≡ [] → ⊥) × ((defines ts ≡ None) × (mark_at ts ≡ marks.OpenBracket → ⊥))
top_begins (g.specs g.no_word h) o = absurd cc
top_begins (g.specs (g.word {t = t} {ts = ts} {w = w} {r = r} {s = z} e k f d) h) o = ((λ q. absurd cc), (word_defines t ts w e (no_struct_word r z w k), (λ q. word_mark t ts w marks.OpenBracket e q refl)))
top_begins (g.specs (g.tag {t = t} {u = u} {ts = ts} e k f d) h) o = ((λ q. absurd cc), (tag_defines t u ts _ e k (words_open d o), (λ q. word_mark t (u ∷ ts) words.Struct marks.OpenBracket e q refl)))

-- annotations and the type after them
top_run : {ts us vs : List Token} {an : Annots} {b : Base} → IsAnnotation ts an us → IsSpecs true us b vs → wordless vs ≡ true → Opened vs → (P : List Piece) →
    Reaches (tstate nx.Top P ts []) (tstate (nx.Declr namings.Always 0) (PSpecs an b ∷ P) vs (fr.Names places.Top true ∷ []))
top_run {ts = ts} g.no_annotation d w o P = let q = top_begins d o in of_source.top_plain ts q.0 q.1.0 q.1.1 (of_declr.specs_top (specs_taken d w) here)
top_run (g.annotation e a h) d w o P =
    let r = complete_annots a (inr h) targets.Top P [] in
    rw r.4 (of_source.top_annots e (then r.5 (of_declr.annots_done h (of_declr.specs_top (specs_taken d w) here))))

-- a declarator doesn't begin with a brace
direct_opened : {ts rest : List Token} {ps : Parts} {l : Label} → IsDirect ts ps l rest → Opened rest → Opened ts
direct_opened (g.named e) h = λ q. absurd (let x = sym e ∙ q in cc)
direct_opened g.nameless h = h
direct_opened (g.grouped e d z k) h = λ q. absurd (let x = sym e ∙ q in cc)
direct_opened (g.array d e c k) h = direct_opened d (λ q. absurd (let x = sym e ∙ q in cc))
direct_opened (g.function d e c k) h = direct_opened d (λ q. absurd (let x = sym e ∙ q in cc))

named_opened : {ts rest : List Token} {ps : Parts} {f : ℕ} {n : List ℕ} → IsDirect ts ps (Named f n) rest → Opened ts
named_opened (g.named e) = λ q. absurd (let x = sym e ∙ q in cc)
named_opened (g.grouped e d z k) = λ q. absurd (let x = sym e ∙ q in cc)
named_opened (g.array d e c k) = named_opened d
named_opened (g.function d e c k) = named_opened d

declr_opened : {ts rest : List Token} {ps : Parts} {f : ℕ} {n : List ℕ} → IsDeclr ts ps (Named f n) rest → Opened ts
declr_opened (g.direct d) = named_opened d
declr_opened (g.pointer e c d) = λ q. absurd (let x = sym e ∙ q in cc)

names_opened : {values : Bool} {an : Annots} {b : Base} {before after : Decls} {ts rest : List Token} → IsNames values an b before ts after rest → Opened ts
names_opened (s.first_name d i) = declr_opened d
names_opened (s.more_names d e c i) = names_opened d

pub complete_tops : {ts rest : List Token} {ds : Decls} → IsTops ts ds rest → Reaches (tstate nx.Top (PDecls NoDecls ∷ []) ts []) (tstate nx.Top (PDecls ds ∷ []) rest [])
complete_tops s.no_top = here
complete_tops (s.struct {t = t} {n = n} {ds = ds} d e f h m k l) =
    then (complete_tops d) (of_source.struct_move e f h (then (members_run m (PTag t.from n ∷ PDecls ds ∷ []) (fr.Struct ∷ [])) (of_source.members_done k l here)))
complete_tops (s.names {ds = ds} d a c m h) =
    then (complete_tops d) (then (top_run a c (names_wordless m (inr h)) (names_opened m) (PDecls ds ∷ [])) (all_names m h places.Top (λ x. refl) [] []))
complete_tops (s.definition {an = an} {b = b} {ps = ps} {f = f} {n = n} {ds = ds} d a c m h x) =
    then (complete_tops d) (then (top_run a c (declr_wordless m (rw h refl)) (declr_opened m) (PDecls ds ∷ []))
    (then (complete_declr m namings.Always 0 (PSpecs an b ∷ PDecls ds ∷ []) (fr.Names places.Top true ∷ []) refl tt (rw h tt) (rw h refl))
    (of_source.names_body h (then (complete_stmt x (PDeclr ps (Some n) f ∷ PSpecs an b ∷ PDecls ds ∷ []) (fr.Body ∷ [])) (of_source.body_done here)))))

-- the tokens of a source are read to their end
pub complete : {ts : List Token} {ds : Decls} → Spells ts ds → Reaches (tstate nx.Top (PDecls NoDecls ∷ []) ts []) (tstate nx.End (PDecls ds ∷ []) [] [])
complete d = then (complete_tops d) (of_source.top_end here)
