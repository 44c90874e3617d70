-- The nodes of a list with one more at its end.
use Rattle.std.proofs.Common.{◌≡◌, ℕ, ◌+◌, List, Bool, true, false, if◌then◌else◌, Option, Some, refl, arith}
use Rattle.c_syntax.specs.Syntax.{Expr, Exprs, NoExprs, MoreExprs, exprs_then, Decl, Decls, Declare, NoDecls, MoreDecls, decls_then, Annot, Annots, Annotate, NoAnnots, MoreAnnots, annots_then, Item, Items, NoItems, MoreItems, items_then, Value, Values, NoValues, MoreValues, values_then, Entry, Entries, NoEntries, MoreEntries, entries_then, NoRest, Initial, Body, Members}
use Rattle.c_parser_nodes.specs.Counts.{expr_nodes, exprs_nodes, decl_nodes, decls_nodes, annot_nodes, annots_nodes, item_nodes, items_nodes, value_nodes, values_nodes, entry_nodes, entries_nodes, parts_nodes, rest_nodes, list_offset, list_offset_of, is_same_list, top_nodes, tops_nodes}
use Rattle.c_parser_nodes.specs.Tallies.{first_list}

pub exprs_then_nodes : (xs : Exprs) (z : Expr) → exprs_nodes (exprs_then xs z) ≡ exprs_nodes xs + expr_nodes z
exprs_then_nodes NoExprs z = omega arith
exprs_then_nodes (MoreExprs x xs) z = let h = exprs_then_nodes xs z in omega arith

pub decls_then_nodes : (xs : Decls) (z : Decl) → decls_nodes (decls_then xs z) ≡ decls_nodes xs + decl_nodes z
decls_then_nodes NoDecls z = omega arith
decls_then_nodes (MoreDecls x xs) z = let h = decls_then_nodes xs z in omega arith

pub annots_then_nodes : (xs : Annots) (z : Annot) → annots_nodes (annots_then xs z) ≡ annots_nodes xs + annot_nodes z
annots_then_nodes NoAnnots z = omega arith
annots_then_nodes (MoreAnnots x xs) z = let h = annots_then_nodes xs z in omega arith

pub items_then_nodes : (xs : Items) (z : Item) → items_nodes (items_then xs z) ≡ items_nodes xs + item_nodes z
items_then_nodes NoItems z = omega arith
items_then_nodes (MoreItems x xs) z = let h = items_then_nodes xs z in omega arith

pub values_then_nodes : (xs : Values) (z : Value) → values_nodes (values_then xs z) ≡ values_nodes xs + value_nodes z
values_then_nodes NoValues z = omega arith
values_then_nodes (MoreValues x xs) z = let h = values_then_nodes xs z in omega arith

pub entries_then_nodes : (xs : Entries) (z : Entry) → entries_nodes (entries_then xs z) ≡ entries_nodes xs + entry_nodes z
entries_then_nodes NoEntries z = omega arith
entries_then_nodes (MoreEntries x xs) z = let h = entries_then_nodes xs z in omega arith

-- a list begins where its first annotation does
pub list_then : (an : Annots) (f : ℕ) (n : List ℕ) (is : Items) → list_offset (annots_then an (Annotate f n is)) ≡ first_list (list_offset an) (Some f)
list_then NoAnnots f n is = refl
list_then (MoreAnnots (Annotate g m js) an) f n is = refl

-- ---- declarations outside any other

-- the nodes of a declaration, but those of its annotations
abbrev pub bare_nodes : Decl → ℕ
bare_nodes (Declare f an b ps n (Members ds)) = decls_nodes ds
bare_nodes (Declare f an b ps n r) = parts_nodes ps + rest_nodes r

-- where the list of annotations of the last begins
abbrev pub last_list : Option ℕ → Decls → Option ℕ
last_list before NoDecls = before
last_list before (MoreDecls d ds) = last_list (list_offset_of d) ds

pub last_then : (before : Option ℕ) (ds : Decls) (d : Decl) → last_list before (decls_then ds d) ≡ list_offset_of d
last_then before NoDecls d = refl
last_then before (MoreDecls x ds) d = last_then (list_offset_of x) ds d

counted : (same : Bool) (an : Annots) (n : ℕ) → (if same then 0 else annots_nodes an) + n ≡ (if same then n else annots_nodes an + n)
counted true an n = omega arith
counted false an n = refl

-- a declaration counts without its annotations where they are those before
pub by_list : (before : Option ℕ) (d : Decl) → top_nodes before d ≡ (if is_same_list before (list_offset_of d) then bare_nodes d else decl_nodes d)
by_list before (Declare f an b ps n (Members ds)) = either (is_same_list before (list_offset an))
  where
    either : (same : Bool) → decls_nodes ds ≡ (if same then decls_nodes ds else decls_nodes ds)
    either true = refl
    either false = refl
by_list before (Declare f an b ps n NoRest) = counted (is_same_list before (list_offset an)) an (parts_nodes ps + 0)
by_list before (Declare f an b ps n (Initial v)) = counted (is_same_list before (list_offset an)) an (parts_nodes ps + value_nodes v)
by_list before (Declare f an b ps n (Body s)) = counted (is_same_list before (list_offset an)) an (parts_nodes ps + rest_nodes (Body s))

pub tops_then : (before : Option ℕ) (ds : Decls) (d : Decl) → tops_nodes before (decls_then ds d) ≡ tops_nodes before ds + top_nodes (last_list before ds) d
tops_then before NoDecls d = omega arith
tops_then before (MoreDecls x ds) d = let h = tops_then (list_offset_of x) ds d in omega arith
