-- The nodes of a list with one more at its end.
use Rattle.std.proofs.Common.{◌⊎◌, ℕ, inl, inr}
use Rattle.c_syntax.specs.Syntax.{Expr, Exprs, NoExprs, MoreExprs, exprs_then, Decl, Decls, NoDecls, MoreDecls, decls_then, Annot, Annots, NoAnnots, MoreAnnots, annots_then, Item, Items, NoItems, MoreItems, items_then, Value, Values, NoValues, MoreValues, values_then, Entry, Entries, NoEntries, MoreEntries, entries_then}
use Rattle.c_syntax.specs.Depth.{Lies, LieExprs, LiesDecl, LieDecls, LiesAnnot, LieAnnots, LiesItem, LieItems, LiesValue, LieValues, LiesEntry, LieEntries}

pub exprs_then_from : (xs : Exprs) (z : Expr) (k o : ℕ) → LieExprs xs k o ⊎ Lies z k o → LieExprs (exprs_then xs z) k o
exprs_then_from NoExprs z k o (inl m) = absurd m
exprs_then_from NoExprs z k o (inr m) = inl m
exprs_then_from (MoreExprs x xs) z k o (inl (inl m)) = inl m
exprs_then_from (MoreExprs x xs) z k o (inl (inr m)) = inr (exprs_then_from xs z k o (inl m))
exprs_then_from (MoreExprs x xs) z k o (inr m) = inr (exprs_then_from xs z k o (inr m))

pub exprs_then_to : (xs : Exprs) (z : Expr) (k o : ℕ) → LieExprs (exprs_then xs z) k o → LieExprs xs k o ⊎ Lies z k o
exprs_then_to NoExprs z k o (inl m) = inr m
exprs_then_to NoExprs z k o (inr m) = absurd m
exprs_then_to (MoreExprs x xs) z k o (inl m) = inl (inl m)
exprs_then_to (MoreExprs x xs) z k o (inr m) = elim (exprs_then_to xs z k o m) [ inl a ↦ inl (inr a) | inr a ↦ inr a ]

pub decls_then_from : (xs : Decls) (z : Decl) (k o : ℕ) → LieDecls xs k o ⊎ LiesDecl z k o → LieDecls (decls_then xs z) k o
decls_then_from NoDecls z k o (inl m) = absurd m
decls_then_from NoDecls z k o (inr m) = inl m
decls_then_from (MoreDecls x xs) z k o (inl (inl m)) = inl m
decls_then_from (MoreDecls x xs) z k o (inl (inr m)) = inr (decls_then_from xs z k o (inl m))
decls_then_from (MoreDecls x xs) z k o (inr m) = inr (decls_then_from xs z k o (inr m))

pub decls_then_to : (xs : Decls) (z : Decl) (k o : ℕ) → LieDecls (decls_then xs z) k o → LieDecls xs k o ⊎ LiesDecl z k o
decls_then_to NoDecls z k o (inl m) = inr m
decls_then_to NoDecls z k o (inr m) = absurd m
decls_then_to (MoreDecls x xs) z k o (inl m) = inl (inl m)
decls_then_to (MoreDecls x xs) z k o (inr m) = elim (decls_then_to xs z k o m) [ inl a ↦ inl (inr a) | inr a ↦ inr a ]

pub annots_then_from : (xs : Annots) (z : Annot) (k o : ℕ) → LieAnnots xs k o ⊎ LiesAnnot z k o → LieAnnots (annots_then xs z) k o
annots_then_from NoAnnots z k o (inl m) = absurd m
annots_then_from NoAnnots z k o (inr m) = inl m
annots_then_from (MoreAnnots x xs) z k o (inl (inl m)) = inl m
annots_then_from (MoreAnnots x xs) z k o (inl (inr m)) = inr (annots_then_from xs z k o (inl m))
annots_then_from (MoreAnnots x xs) z k o (inr m) = inr (annots_then_from xs z k o (inr m))

pub annots_then_to : (xs : Annots) (z : Annot) (k o : ℕ) → LieAnnots (annots_then xs z) k o → LieAnnots xs k o ⊎ LiesAnnot z k o
annots_then_to NoAnnots z k o (inl m) = inr m
annots_then_to NoAnnots z k o (inr m) = absurd m
annots_then_to (MoreAnnots x xs) z k o (inl m) = inl (inl m)
annots_then_to (MoreAnnots x xs) z k o (inr m) = elim (annots_then_to xs z k o m) [ inl a ↦ inl (inr a) | inr a ↦ inr a ]

pub items_then_from : (xs : Items) (z : Item) (k o : ℕ) → LieItems xs k o ⊎ LiesItem z k o → LieItems (items_then xs z) k o
items_then_from NoItems z k o (inl m) = absurd m
items_then_from NoItems z k o (inr m) = inl m
items_then_from (MoreItems x xs) z k o (inl (inl m)) = inl m
items_then_from (MoreItems x xs) z k o (inl (inr m)) = inr (items_then_from xs z k o (inl m))
items_then_from (MoreItems x xs) z k o (inr m) = inr (items_then_from xs z k o (inr m))

pub items_then_to : (xs : Items) (z : Item) (k o : ℕ) → LieItems (items_then xs z) k o → LieItems xs k o ⊎ LiesItem z k o
items_then_to NoItems z k o (inl m) = inr m
items_then_to NoItems z k o (inr m) = absurd m
items_then_to (MoreItems x xs) z k o (inl m) = inl (inl m)
items_then_to (MoreItems x xs) z k o (inr m) = elim (items_then_to xs z k o m) [ inl a ↦ inl (inr a) | inr a ↦ inr a ]

pub values_then_from : (xs : Values) (z : Value) (k o : ℕ) → LieValues xs k o ⊎ LiesValue z k o → LieValues (values_then xs z) k o
values_then_from NoValues z k o (inl m) = absurd m
values_then_from NoValues z k o (inr m) = inl m
values_then_from (MoreValues x xs) z k o (inl (inl m)) = inl m
values_then_from (MoreValues x xs) z k o (inl (inr m)) = inr (values_then_from xs z k o (inl m))
values_then_from (MoreValues x xs) z k o (inr m) = inr (values_then_from xs z k o (inr m))

pub values_then_to : (xs : Values) (z : Value) (k o : ℕ) → LieValues (values_then xs z) k o → LieValues xs k o ⊎ LiesValue z k o
values_then_to NoValues z k o (inl m) = inr m
values_then_to NoValues z k o (inr m) = absurd m
values_then_to (MoreValues x xs) z k o (inl m) = inl (inl m)
values_then_to (MoreValues x xs) z k o (inr m) = elim (values_then_to xs z k o m) [ inl a ↦ inl (inr a) | inr a ↦ inr a ]

pub entries_then_from : (xs : Entries) (z : Entry) (k o : ℕ) → LieEntries xs k o ⊎ LiesEntry z k o → LieEntries (entries_then xs z) k o
entries_then_from NoEntries z k o (inl m) = absurd m
entries_then_from NoEntries z k o (inr m) = inl m
entries_then_from (MoreEntries x xs) z k o (inl (inl m)) = inl m
entries_then_from (MoreEntries x xs) z k o (inl (inr m)) = inr (entries_then_from xs z k o (inl m))
entries_then_from (MoreEntries x xs) z k o (inr m) = inr (entries_then_from xs z k o (inr m))

pub entries_then_to : (xs : Entries) (z : Entry) (k o : ℕ) → LieEntries (entries_then xs z) k o → LieEntries xs k o ⊎ LiesEntry z k o
entries_then_to NoEntries z k o (inl m) = inr m
entries_then_to NoEntries z k o (inr m) = absurd m
entries_then_to (MoreEntries x xs) z k o (inl m) = inl (inl m)
entries_then_to (MoreEntries x xs) z k o (inr m) = elim (entries_then_to xs z k o m) [ inl a ↦ inl (inr a) | inr a ↦ inr a ]
