-- Expressions, declarators and annotations by productions (C11 6.5, 6.7.2 and 6.7.6). `IsX ts x rest`: the
-- tokens ts begin with an X, whose tree is x, and rest is what follows it.
use Rattle.std.specs.Prelude.{◌≡◌, ℕ, ℤ, suc, Bool, true, false, List, ◌∷◌, Option, Some, None}
use Rattle.c_lexer.specs.declared.token.Sign.{Sign}
use Rattle.c_lexer.specs.declared.token.Sign.TheVariants as signs
use Rattle.c_lexer.specs.declared.token.Suffix.{Suffix}
use Rattle.c_lexer.specs.declared.token.Word.{Word}
use Rattle.c_lexer.specs.declared.token.Word.TheVariants as words
use Rattle.c_lexer.specs.declared.token.Kind.TheVariants as kinds
use Rattle.c_lexer.specs.declared.token.Token.{Token}
use Rattle.c_syntax.specs.declared.declaration.Base.{Base}
use Rattle.c_syntax.specs.declared.specifier.Specifiers.{Specifiers}
use Rattle.c_syntax.specs.Levels.{level_of, is_assignment, is_prefix, is_postfix, opens_type, lone_void, from_of}
use Rattle.c_syntax.specs.TypeWords.{no_words, with_word, with_tag, base_of}
use Rattle.c_syntax.specs.Syntax.{Expr, Exprs, Decl, Decls, Annots, Annot, Items, Item, Atom, Parts, Rest, exprs_then, decls_then, annots_then, items_then, Annotate, Name, Number, Char, Text, Binary, Assign, Cond, Prefix, Postfix, SizeofExpr, SizeofType, Cast, Index, Call, Member, Arrow, NoExprs, Declare, NoDecls, NoAnnots, NoItems, OneFactor, TwoFactors, NameAtom, NumberAtom, ReturnAtom, SizeofAtom, NoParts, Pointer, Array, Params, NoRest}

-- what a declarator declares: a name, or nothing in an abstract one
pub data Label : Type 0 where
  Named : (from : ℕ) → (name : List ℕ) → Label
  Nameless : Label

-- a declaration has the offset of its name, or else of its first token
abbrev pub label_from : ℕ → Label → ℕ
label_from f (Named g n) = g
label_from f Nameless = f

abbrev pub label_name : Label → Option (List ℕ)
label_name (Named g n) = Some n
label_name Nameless = None

abbrev pub declare : ℕ → Annots → Base → Parts → Label → Rest → Decl
declare f an b ps l r = Declare (label_from f l) an b ps (label_name l) r

-- it isn't the abstract declarator without a token
abbrev pub IsSomething : Parts → Label → Type 0
IsSomething NoParts Nameless = ⊥
IsSomething _ _ = Unit {0}

-- words of a type from those before them to all; extern and static stand at top level
pub data IsWords (top : Bool) : List Token → Specifiers → Specifiers → List Token → Type 0 where
  no_word : {ts : List Token} {s : Specifiers} → IsWords top ts s s ts
  word : {t : Token} {ts rest : List Token} {w : Word} {r s z : Specifiers} →
      t.kind ≡ kinds.Word w → with_word r w ≡ Some s → (s.storage ≡ true → top ≡ true) →
      IsWords top ts s z rest → IsWords top (t ∷ ts) r z rest
  tag : {t u : Token} {ts rest : List Token} {n : List ℕ} {r s z : Specifiers} →
      t.kind ≡ kinds.Word words.Struct → u.kind ≡ kinds.Name n → with_tag r n ≡ Some s →
      IsWords top ts s z rest → IsWords top (t ∷ u ∷ ts) r z rest

pub data IsSpecs (top : Bool) : List Token → Base → List Token → Type 0 where
  specs : {ts rest : List Token} {s : Specifiers} {b : Base} → IsWords top ts no_words s rest →
      base_of s ≡ Some b → IsSpecs top ts b rest

pub data IsConsts : List Token → List Token → Type 0 where
  no_const : {ts : List Token} → IsConsts ts ts
  const : {t : Token} {ts rest : List Token} → t.kind ≡ kinds.Word words.Const → IsConsts ts rest →
      IsConsts (t ∷ ts) rest

mutual
  -- level 15
  pub data IsPostfix : List Token → Expr → List Token → Type 0 where
    name : {t : Token} {ts : List Token} {n : List ℕ} → t.kind ≡ kinds.Name n →
        IsPostfix (t ∷ ts) (Name t.from n) ts
    number : {t : Token} {ts : List Token} {v : ℕ} {s : Suffix} {d : Bool} → t.kind ≡ kinds.Number s d v →
        IsPostfix (t ∷ ts) (Number t.from v s d) ts
    char : {t : Token} {ts : List Token} {v : ℤ} → t.kind ≡ kinds.Char v →
        IsPostfix (t ∷ ts) (Char t.from v) ts
    text : {t : Token} {ts : List Token} {n : List ℕ} → t.kind ≡ kinds.Text n →
        IsPostfix (t ∷ ts) (Text t.from n) ts
    group : {t u : Token} {ts rest : List Token} {e : Expr} →
        t.kind ≡ kinds.Sign signs.OpenParenthesis → IsExpr 1 ts e (u ∷ rest) →
        u.kind ≡ kinds.Sign signs.CloseParenthesis →
        IsPostfix (t ∷ ts) e rest
    index : {t u : Token} {ts us rest : List Token} {a i : Expr} →
        IsPostfix ts a (t ∷ us) → t.kind ≡ kinds.Sign signs.OpenBracket → IsExpr 1 us i (u ∷ rest) →
        u.kind ≡ kinds.Sign signs.CloseBracket →
        IsPostfix ts (Index (from_of ts) a i) rest
    call_none : {t u : Token} {ts rest : List Token} {a : Expr} →
        IsPostfix ts a (t ∷ u ∷ rest) → t.kind ≡ kinds.Sign signs.OpenParenthesis →
        u.kind ≡ kinds.Sign signs.CloseParenthesis →
        IsPostfix ts (Call (from_of ts) a NoExprs) rest
    call : {t u : Token} {ts us rest : List Token} {a : Expr} {xs : Exprs} →
        IsPostfix ts a (t ∷ us) → t.kind ≡ kinds.Sign signs.OpenParenthesis → IsArgs us xs (u ∷ rest) →
        u.kind ≡ kinds.Sign signs.CloseParenthesis →
        IsPostfix ts (Call (from_of ts) a xs) rest
    member : {t u : Token} {ts rest : List Token} {a : Expr} {n : List ℕ} →
        IsPostfix ts a (t ∷ u ∷ rest) → t.kind ≡ kinds.Sign signs.Dot → u.kind ≡ kinds.Name n →
        IsPostfix ts (Member (from_of ts) a n) rest
    arrow : {t u : Token} {ts rest : List Token} {a : Expr} {n : List ℕ} →
        IsPostfix ts a (t ∷ u ∷ rest) → t.kind ≡ kinds.Sign signs.Arrow → u.kind ≡ kinds.Name n →
        IsPostfix ts (Arrow (from_of ts) a n) rest
    step : {t : Token} {ts rest : List Token} {a : Expr} {s : Sign} →
        IsPostfix ts a (t ∷ rest) → t.kind ≡ kinds.Sign s → is_postfix s ≡ true →
        IsPostfix ts (Postfix (from_of ts) s a) rest

  -- level 14; what follows sizeof is a type in brackets where it begins like one
  pub data IsUnary : List Token → Expr → List Token → Type 0 where
    postfix : {ts rest : List Token} {e : Expr} → IsPostfix ts e rest → IsUnary ts e rest
    prefix : {t : Token} {ts rest : List Token} {e : Expr} {s : Sign} →
        t.kind ≡ kinds.Sign s → is_prefix s ≡ true → IsUnary ts e rest →
        IsUnary (t ∷ ts) (Prefix t.from s e) rest
    sizeof : {t : Token} {ts rest : List Token} {e : Expr} →
        t.kind ≡ kinds.Word words.Sizeof → opens_type ts ≡ false → IsUnary ts e rest →
        IsUnary (t ∷ ts) (SizeofExpr t.from e) rest
    sizeof_type : {t u v : Token} {ts rest : List Token} {d : Decl} →
        t.kind ≡ kinds.Word words.Sizeof → u.kind ≡ kinds.Sign signs.OpenParenthesis →
        IsTypeName ts d (v ∷ rest) → v.kind ≡ kinds.Sign signs.CloseParenthesis →
        IsUnary (t ∷ u ∷ ts) (SizeofType t.from d) rest
    cast : {t u : Token} {ts us rest : List Token} {d : Decl} {e : Expr} →
        t.kind ≡ kinds.Sign signs.OpenParenthesis → IsTypeName ts d (u ∷ us) →
        u.kind ≡ kinds.Sign signs.CloseParenthesis → IsUnary us e rest →
        IsUnary (t ∷ ts) (Cast t.from d e) rest

  -- levels 1 to 14
  pub data IsExpr : ℕ → List Token → Expr → List Token → Type 0 where
    unary : {ts rest : List Token} {e : Expr} → IsUnary ts e rest → IsExpr 14 ts e rest
    tighter : {l : ℕ} {ts rest : List Token} {e : Expr} → IsExpr (suc l) ts e rest → IsExpr l ts e rest
    binary : {l : ℕ} {t : Token} {ts us rest : List Token} {a b : Expr} {s : Sign} →
        IsExpr l ts a (t ∷ us) → t.kind ≡ kinds.Sign s → level_of s ≡ Some l → IsExpr (suc l) us b rest →
        IsExpr l ts (Binary (from_of ts) s a b) rest
    assign : {t : Token} {ts us rest : List Token} {a b : Expr} {s : Sign} →
        IsUnary ts a (t ∷ us) → t.kind ≡ kinds.Sign s → is_assignment s ≡ true → IsExpr 2 us b rest →
        IsExpr 2 ts (Assign (from_of ts) s a b) rest
    cond : {t u : Token} {ts us vs rest : List Token} {a b c : Expr} →
        IsExpr 4 ts a (t ∷ us) → t.kind ≡ kinds.Sign signs.Question → IsExpr 1 us b (u ∷ vs) →
        u.kind ≡ kinds.Sign signs.Colon → IsExpr 3 vs c rest →
        IsExpr 3 ts (Cond (from_of ts) a b c) rest

  -- a list with commas of at least one
  pub data IsArgs : List Token → Exprs → List Token → Type 0 where
    first_arg : {ts rest : List Token} {e : Expr} → IsExpr 2 ts e rest →
        IsArgs ts (exprs_then NoExprs e) rest
    more_args : {t : Token} {ts us rest : List Token} {xs : Exprs} {e : Expr} →
        IsArgs ts xs (t ∷ us) → t.kind ≡ kinds.Sign signs.Comma → IsExpr 2 us e rest →
        IsArgs ts (exprs_then xs e) rest

  pub data IsTypeName : List Token → Decl → List Token → Type 0 where
    type_name : {ts us rest : List Token} {b : Base} {ps : Parts} →
        IsSpecs false ts b us → IsDeclr us ps Nameless rest →
        IsTypeName ts (declare (from_of ts) NoAnnots b ps Nameless NoRest) rest

  pub data IsDeclr : List Token → Parts → Label → List Token → Type 0 where
    direct : {ts rest : List Token} {ps : Parts} {l : Label} → IsDirect ts ps l rest → IsDeclr ts ps l rest
    pointer : {t : Token} {ts us rest : List Token} {ps : Parts} {l : Label} →
        t.kind ≡ kinds.Sign signs.Star → IsConsts ts us → IsDeclr us ps l rest →
        IsDeclr (t ∷ ts) (Pointer t.from ps) l rest

  pub data IsDirect : List Token → Parts → Label → List Token → Type 0 where
    named : {t : Token} {ts : List Token} {n : List ℕ} → t.kind ≡ kinds.Name n →
        IsDirect (t ∷ ts) NoParts (Named t.from n) ts
    nameless : {ts : List Token} → IsDirect ts NoParts Nameless ts
    grouped : {t u : Token} {ts rest : List Token} {ps : Parts} {l : Label} →
        t.kind ≡ kinds.Sign signs.OpenParenthesis → IsDeclr ts ps l (u ∷ rest) → IsSomething ps l →
        u.kind ≡ kinds.Sign signs.CloseParenthesis →
        IsDirect (t ∷ ts) ps l rest
    array : {t u : Token} {ts us rest : List Token} {ps : Parts} {l : Label} {e : Expr} →
        IsDirect ts ps l (t ∷ us) → t.kind ≡ kinds.Sign signs.OpenBracket → IsExpr 3 us e (u ∷ rest) →
        u.kind ≡ kinds.Sign signs.CloseBracket →
        IsDirect ts (Array t.from e ps) l rest
    function : {t u : Token} {ts us rest : List Token} {ps : Parts} {l : Label} {ds : Decls} →
        IsDirect ts ps l (t ∷ us) → t.kind ≡ kinds.Sign signs.OpenParenthesis → IsParams us ds (u ∷ rest) →
        u.kind ≡ kinds.Sign signs.CloseParenthesis →
        IsDirect ts (Params t.from ds ps) l rest

  -- the one word void says that there is no parameter
  pub data IsParams : List Token → Decls → List Token → Type 0 where
    no_params : {t : Token} {rest : List Token} → t.kind ≡ kinds.Word words.Void →
        lone_void (t ∷ rest) ≡ true → IsParams (t ∷ rest) NoDecls rest
    params : {ts rest : List Token} {ds : Decls} → lone_void ts ≡ false → IsParamList ts ds rest →
        IsParams ts ds rest

  pub data IsParamList : List Token → Decls → List Token → Type 0 where
    first_param : {ts rest : List Token} {d : Decl} → IsParam ts d rest →
        IsParamList ts (decls_then NoDecls d) rest
    more_params : {t : Token} {ts us rest : List Token} {ds : Decls} {d : Decl} →
        IsParamList ts ds (t ∷ us) → t.kind ≡ kinds.Sign signs.Comma → IsParam us d rest →
        IsParamList ts (decls_then ds d) rest

  pub data IsParam : List Token → Decl → List Token → Type 0 where
    param : {ts us vs rest : List Token} {an : Annots} {b : Base} {ps : Parts} {l : Label} →
        IsAnnotation ts an us → IsSpecs false us b vs → IsDeclr vs ps l rest →
        IsParam ts (declare (from_of ts) an b ps l NoRest) rest

  -- annotations in brackets, or none
  pub data IsAnnotation : List Token → Annots → List Token → Type 0 where
    no_annotation : {ts : List Token} → IsAnnotation ts NoAnnots ts
    annotation : {t u : Token} {ts rest : List Token} {an : Annots} →
        t.kind ≡ kinds.Sign signs.OpenBracket → IsAnnots ts an (u ∷ rest) →
        u.kind ≡ kinds.Sign signs.CloseBracket → IsAnnotation (t ∷ ts) an rest

  pub data IsAnnots : List Token → Annots → List Token → Type 0 where
    first_annot : {ts rest : List Token} {x : Annot} → IsAnnot ts x rest →
        IsAnnots ts (annots_then NoAnnots x) rest
    more_annots : {t : Token} {ts us rest : List Token} {xs : Annots} {x : Annot} →
        IsAnnots ts xs (t ∷ us) → t.kind ≡ kinds.Sign signs.Comma → IsAnnot us x rest →
        IsAnnots ts (annots_then xs x) rest

  pub data IsAnnot : List Token → Annot → List Token → Type 0 where
    word_annot : {t : Token} {ts : List Token} {n : List ℕ} → t.kind ≡ kinds.Name n →
        IsAnnot (t ∷ ts) (Annotate t.from n NoItems) ts
    call_annot : {t u v : Token} {ts rest : List Token} {n : List ℕ} {is : Items} →
        t.kind ≡ kinds.Name n → u.kind ≡ kinds.Sign signs.OpenParenthesis → IsItems ts is (v ∷ rest) →
        v.kind ≡ kinds.Sign signs.CloseParenthesis →
        IsAnnot (t ∷ u ∷ ts) (Annotate t.from n is) rest

  pub data IsItems : List Token → Items → List Token → Type 0 where
    first_item : {ts rest : List Token} {x : Item} → IsItem ts x rest →
        IsItems ts (items_then NoItems x) rest
    more_items : {t : Token} {ts us rest : List Token} {xs : Items} {x : Item} →
        IsItems ts xs (t ∷ us) → t.kind ≡ kinds.Sign signs.Comma → IsItem us x rest →
        IsItems ts (items_then xs x) rest

  pub data IsItem : List Token → Item → List Token → Type 0 where
    factor : {ts rest : List Token} {a : Atom} → IsAtom ts a rest →
        IsItem ts (OneFactor (from_of ts) a) rest
    product : {t : Token} {ts us rest : List Token} {a b : Atom} →
        IsAtom ts a (t ∷ us) → t.kind ≡ kinds.Sign signs.Star → IsAtom us b rest →
        IsItem ts (TwoFactors (from_of ts) a b) rest

  pub data IsAtom : List Token → Atom → List Token → Type 0 where
    name_atom : {t : Token} {ts : List Token} {n : List ℕ} → t.kind ≡ kinds.Name n →
        IsAtom (t ∷ ts) (NameAtom n) ts
    number_atom : {t : Token} {ts : List Token} {v : ℕ} {s : Suffix} {d : Bool} →
        t.kind ≡ kinds.Number s d v → IsAtom (t ∷ ts) (NumberAtom v) ts
    return_atom : {t : Token} {ts : List Token} → t.kind ≡ kinds.Word words.Return →
        IsAtom (t ∷ ts) ReturnAtom ts
    sizeof_atom : {t u v : Token} {ts rest : List Token} {d : Decl} →
        t.kind ≡ kinds.Word words.Sizeof → u.kind ≡ kinds.Sign signs.OpenParenthesis →
        IsTypeName ts d (v ∷ rest) → v.kind ≡ kinds.Sign signs.CloseParenthesis →
        IsAtom (t ∷ u ∷ ts) (SizeofAtom d) rest
