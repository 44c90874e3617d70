-- Values, statements and whole sources by productions (C11 6.7.9, 6.8 and 6.9).
use Rattle.std.specs.Prelude.{◌≡◌, ℕ, Bool, true, false, List, [], ◌∷◌, Some, None}
use Rattle.c_lexer.specs.declared.token.Sign.TheVariants as signs
use Rattle.c_lexer.specs.declared.token.Word.TheVariants as words
use Rattle.c_lexer.specs.declared.token.Kind.TheVariants as kinds
use Rattle.c_lexer.specs.declared.token.Token.{Token}
use Rattle.c_syntax.specs.declared.declaration.Base.{Base}
use Rattle.c_syntax.specs.declared.declaration.Base.TheVariants as bases
use Rattle.c_syntax.specs.Levels.{begins_else, from_of}
use Rattle.c_syntax.specs.Grammar.{IsExpr, IsSpecs, IsDeclr, IsAnnotation, Named}
use Rattle.c_syntax.specs.Syntax.{Expr, MaybeExpr, Decls, Annots, Parts, Value, Values, Rest, Stmt, Entries, First, NoExpr, OneExpr, Declare, NoDecls, NoAnnots, NoParts, Plain, Braces, NoValues, NoRest, Initial, Body, Members, Block, Expression, If, IfElse, While, Do, For, Break, Continue, Return, NoEntries, LocalEntry, StmtEntry, NoFirst, LocalFirst, ExprFirst, values_then, decls_then, entries_then}

mutual
  -- a value without braces is an expression of level 2; a comma may stand after the last in braces
  pub data IsValue : List Token → Value → List Token → Type 0 where
    plain : {ts rest : List Token} {e : Expr} → IsExpr 2 ts e rest → IsValue ts (Plain e) rest
    braces : {t u : Token} {ts rest : List Token} {vs : Values} →
        t.kind ≡ kinds.Sign signs.OpenBrace → IsValues ts vs (u ∷ rest) →
        u.kind ≡ kinds.Sign signs.CloseBrace → IsValue (t ∷ ts) (Braces t.from vs) rest
    braces_comma : {t u v : Token} {ts rest : List Token} {vs : Values} →
        t.kind ≡ kinds.Sign signs.OpenBrace → IsValues ts vs (u ∷ v ∷ rest) →
        u.kind ≡ kinds.Sign signs.Comma → v.kind ≡ kinds.Sign signs.CloseBrace →
        IsValue (t ∷ ts) (Braces t.from vs) rest

  pub data IsValues : List Token → Values → List Token → Type 0 where
    first_value : {ts rest : List Token} {v : Value} → IsValue ts v rest →
        IsValues ts (values_then NoValues v) rest
    more_values : {t : Token} {ts us rest : List Token} {vs : Values} {v : Value} →
        IsValues ts vs (t ∷ us) → t.kind ≡ kinds.Sign signs.Comma → IsValue us v rest →
        IsValues ts (values_then vs v) rest

-- the value after a declarator, or none; a member has none
pub data IsInit (values : Bool) : List Token → Rest → List Token → Type 0 where
  no_init : {ts : List Token} → IsInit values ts NoRest ts
  init : {t : Token} {ts rest : List Token} {v : Value} → values ≡ true →
      t.kind ≡ kinds.Sign signs.Assign → IsValue ts v rest → IsInit values (t ∷ ts) (Initial v) rest

-- a list with commas of names with these annotations and this type, after the declarations before them
pub data IsNames (values : Bool) (an : Annots) (b : Base) (before : Decls) : List Token → Decls →
    List Token → Type 0 where
  first_name : {ts us rest : List Token} {ps : Parts} {f : ℕ} {n : List ℕ} {r : Rest} →
      IsDeclr ts ps (Named f n) us → IsInit values us r rest →
      IsNames values an b before ts (decls_then before (Declare f an b ps (Some n) r)) rest
  more_names : {t : Token} {ts us vs rest : List Token} {ds : Decls} {ps : Parts} {f : ℕ} {n : List ℕ} {r :
      Rest} →
      IsNames values an b before ts ds (t ∷ us) → t.kind ≡ kinds.Sign signs.Comma →
      IsDeclr us ps (Named f n) vs → IsInit values vs r rest →
      IsNames values an b before ts (decls_then ds (Declare f an b ps (Some n) r)) rest

pub data IsLocal : List Token → Decls → List Token → Type 0 where
  local : {t : Token} {ts us rest : List Token} {b : Base} {ds : Decls} →
      IsSpecs false ts b us → IsNames true NoAnnots b NoDecls us ds (t ∷ rest) →
      t.kind ≡ kinds.Sign signs.Semicolon → IsLocal ts ds rest

-- an expression before a token, or none
pub data IsMaybe : List Token → MaybeExpr → List Token → Type 0 where
  nothing : {ts : List Token} → IsMaybe ts NoExpr ts
  something : {ts rest : List Token} {e : Expr} → IsExpr 1 ts e rest → IsMaybe ts (OneExpr e) rest

-- the first part of a for, with its semicolon
pub data IsFirst : List Token → First → List Token → Type 0 where
  local_first : {ts rest : List Token} {ds : Decls} → IsLocal ts ds rest → IsFirst ts (LocalFirst ds) rest
  expr_first : {t : Token} {ts rest : List Token} {e : Expr} → IsExpr 1 ts e (t ∷ rest) →
      t.kind ≡ kinds.Sign signs.Semicolon → IsFirst ts (ExprFirst e) rest
  no_first : {t : Token} {rest : List Token} → t.kind ≡ kinds.Sign signs.Semicolon →
      IsFirst (t ∷ rest) NoFirst rest

mutual
  pub data IsStmt : List Token → Stmt → List Token → Type 0 where
    block : {t u : Token} {ts rest : List Token} {es : Entries} →
        t.kind ≡ kinds.Sign signs.OpenBrace → IsEntries ts es (u ∷ rest) →
        u.kind ≡ kinds.Sign signs.CloseBrace → IsStmt (t ∷ ts) (Block t.from es) rest
    expression : {t : Token} {ts rest : List Token} {x : MaybeExpr} →
        IsMaybe ts x (t ∷ rest) → t.kind ≡ kinds.Sign signs.Semicolon →
        IsStmt ts (Expression (from_of ts) x) rest
    -- an else belongs to the nearest if: none follows one that has none
    if_only : {t u v : Token} {ts us rest : List Token} {e : Expr} {s : Stmt} →
        t.kind ≡ kinds.Word words.If → u.kind ≡ kinds.Sign signs.OpenParenthesis → IsExpr 1 ts e (v ∷ us) →
        v.kind ≡ kinds.Sign signs.CloseParenthesis →
        IsStmt us s rest → begins_else rest ≡ false → IsStmt (t ∷ u ∷ ts) (If t.from e s) rest
    if_else : {t u v w : Token} {ts us ws rest : List Token} {e : Expr} {s z : Stmt} →
        t.kind ≡ kinds.Word words.If → u.kind ≡ kinds.Sign signs.OpenParenthesis → IsExpr 1 ts e (v ∷ us) →
        v.kind ≡ kinds.Sign signs.CloseParenthesis →
        IsStmt us s (w ∷ ws) → w.kind ≡ kinds.Word words.Else → IsStmt ws z rest →
        IsStmt (t ∷ u ∷ ts) (IfElse t.from e s z) rest
    while : {t u v : Token} {ts us rest : List Token} {e : Expr} {s : Stmt} →
        t.kind ≡ kinds.Word words.While → u.kind ≡ kinds.Sign signs.OpenParenthesis →
        IsExpr 1 ts e (v ∷ us) → v.kind ≡ kinds.Sign signs.CloseParenthesis →
        IsStmt us s rest → IsStmt (t ∷ u ∷ ts) (While t.from e s) rest
    do_while : {t u v w x : Token} {ts us rest : List Token} {e : Expr} {s : Stmt} →
        t.kind ≡ kinds.Word words.Do → IsStmt ts s (u ∷ v ∷ us) → u.kind ≡ kinds.Word words.While →
        v.kind ≡ kinds.Sign signs.OpenParenthesis →
        IsExpr 1 us e (w ∷ x ∷ rest) → w.kind ≡ kinds.Sign signs.CloseParenthesis →
        x.kind ≡ kinds.Sign signs.Semicolon →
        IsStmt (t ∷ ts) (Do t.from s e) rest
    for : {t u v w : Token} {ts us vs ws rest : List Token} {a : First} {x y : MaybeExpr} {s : Stmt} →
        t.kind ≡ kinds.Word words.For → u.kind ≡ kinds.Sign signs.OpenParenthesis → IsFirst ts a us →
        IsMaybe us x (v ∷ vs) → v.kind ≡ kinds.Sign signs.Semicolon →
        IsMaybe vs y (w ∷ ws) → w.kind ≡ kinds.Sign signs.CloseParenthesis → IsStmt ws s rest →
        IsStmt (t ∷ u ∷ ts) (For t.from a x y s) rest
    break : {t u : Token} {rest : List Token} → t.kind ≡ kinds.Word words.Break →
        u.kind ≡ kinds.Sign signs.Semicolon → IsStmt (t ∷ u ∷ rest) (Break t.from) rest
    continue : {t u : Token} {rest : List Token} → t.kind ≡ kinds.Word words.Continue →
        u.kind ≡ kinds.Sign signs.Semicolon → IsStmt (t ∷ u ∷ rest) (Continue t.from) rest
    return : {t u : Token} {ts rest : List Token} {x : MaybeExpr} →
        t.kind ≡ kinds.Word words.Return → IsMaybe ts x (u ∷ rest) → u.kind ≡ kinds.Sign signs.Semicolon →
        IsStmt (t ∷ ts) (Return t.from x) rest

  -- what stands in a block
  pub data IsEntries : List Token → Entries → List Token → Type 0 where
    no_entry : {ts : List Token} → IsEntries ts NoEntries ts
    local_entry : {ts us rest : List Token} {ds : Decls} {es : Entries} → IsEntries ts es us →
        IsLocal us ds rest → IsEntries ts (entries_then es (LocalEntry ds)) rest
    stmt_entry : {ts us rest : List Token} {s : Stmt} {es : Entries} → IsEntries ts es us →
        IsStmt us s rest → IsEntries ts (entries_then es (StmtEntry s)) rest

-- the members of a struct
pub data IsMembers : List Token → Decls → List Token → Type 0 where
  first_members : {t : Token} {ts us rest : List Token} {b : Base} {ds : Decls} →
      IsSpecs false ts b us → IsNames false NoAnnots b NoDecls us ds (t ∷ rest) →
      t.kind ≡ kinds.Sign signs.Semicolon → IsMembers ts ds rest
  more_members : {t : Token} {ts us vs rest : List Token} {b : Base} {ds es : Decls} →
      IsMembers ts ds us → IsSpecs false us b vs → IsNames false NoAnnots b ds vs es (t ∷ rest) →
      t.kind ≡ kinds.Sign signs.Semicolon → IsMembers ts es rest

-- the declarations outside any other
pub data IsTops : List Token → Decls → List Token → Type 0 where
  no_top : {ts : List Token} → IsTops ts NoDecls ts
  struct : {t u v w x : Token} {ts us rest : List Token} {n : List ℕ} {ds ms : Decls} →
      IsTops ts ds (t ∷ u ∷ v ∷ us) → t.kind ≡ kinds.Word words.Struct → u.kind ≡ kinds.Name n →
      v.kind ≡ kinds.Sign signs.OpenBrace →
      IsMembers us ms (w ∷ x ∷ rest) → w.kind ≡ kinds.Sign signs.CloseBrace →
      x.kind ≡ kinds.Sign signs.Semicolon →
      IsTops ts (decls_then ds (Declare t.from NoAnnots (bases.Struct n) NoParts None (Members ms))) rest
  names : {t : Token} {ts us vs ws rest : List Token} {an : Annots} {b : Base} {ds es : Decls} →
      IsTops ts ds us → IsAnnotation us an vs → IsSpecs true vs b ws →
      IsNames true an b ds ws es (t ∷ rest) → t.kind ≡ kinds.Sign signs.Semicolon →
      IsTops ts es rest
  definition : {t : Token} {ts us vs ws xs rest : List Token} {an : Annots} {b : Base} {ps : Parts} {f : ℕ}
      {n : List ℕ} {s : Stmt} {ds : Decls} →
      IsTops ts ds us → IsAnnotation us an vs → IsSpecs true vs b ws → IsDeclr ws ps (Named f n) (t ∷ xs) →
      t.kind ≡ kinds.Sign signs.OpenBrace → IsStmt (t ∷ xs) s rest →
      IsTops ts (decls_then ds (Declare f an b ps (Some n) (Body s))) rest

-- the tokens are those of a source with these declarations
abbrev pub Spells : List Token → Decls → Type 0
Spells ts ds = IsTops ts ds []
