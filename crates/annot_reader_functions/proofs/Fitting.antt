-- The numbers in the items of a parameter's annotations are such as types can represent.
use Rattle.std.proofs.Common.{ℕ, true, Option, Some, None, Ok, sym, subst}
use Rattle.c_syntax.specs.declared.id.DeclId.{DeclId}
use Rattle.c_syntax.specs.declared.declaration.Decl.{Decl as DeclNode}
use Rattle.c_syntax.specs.Nodes.{Nodes}
use Rattle.c_syntax.specs.Syntax.{Decl, Declare, Annots, Annotate, NoAnnots, MoreAnnots, Item, Items, NoItems, MoreItems}
use Rattle.c_syntax.specs.Stands.{StandAnnots, StandsDecl}
use Rattle.c_syntax_laws.specs.Numbers.{FitsAnnots, FitsItem, FitsItems}
use Rattle.c_types_rules.specs.Checked.{Checked, Fine, Noted, Broken, ◌>>=◌, ◌>>◌}
use Rattle.annot_reader_rules.specs.Regions.{Marked, all_marked, alone, marked, unmarked, with_one}
use Rattle.annot_reader_words.specs.Answers.{Tells}
use Rattle.annot_reader_words.specs.declared.word.ParameterWord.{ParameterWord}
use Rattle.annot_reader_words.specs.declared.word.ParameterWord.TheVariants as words
use Rattle.annot_reader_words.specs.Shown.{Shows}
use Rattle.annot_reader_words.specs.Words.{parameter_word}
use Rattle.annot_reader_functions.specs.declared.marks.Marks.{Marks}
use Rattle.annot_reader_functions.specs.Marking.{AreMarks, marked_by}
use Rattle.annot_reader_functions.specs.Rules.{IsTypeName}
use Rattle.annot_reader_functions.specs.Sizing.{FitsMarked, HasItems}
use Rattle.annot_reader_functions.proofs.Marking.{marked_is}

-- it holds of what is found
abbrev pub Every : {A : Type 0} → (A → Type 0) → Checked A → Type 0
Every P (Fine x) = P x
Every P (Noted n x) = P x
Every P (Broken f r) = Unit {0}

every_then : {A B : Type 0} (P : A → Type 0) (Q : B → Type 0) (c : Checked A) (f : A → Checked B) → Every P c → ((x : A) → P x → Every Q (f x)) → Every Q (c >>= f)
every_then P Q (Fine x) f h k = k x h
every_then P Q (Noted n x) f h k = turned (f x) (k x h)
  where
    turned : (d : Checked _) → Every Q d → Every Q (Noted n x >>= λ y. d)
    turned (Fine y) h = h
    turned (Noted m y) h = h
    turned (Broken a b) h = h
every_then P Q (Broken a b) f h k = tt

every_after : {A B : Type 0} (Q : B → Type 0) (c : Checked A) (y : B) → Q y → Every Q (c >> Fine y)
every_after Q (Fine x) y h = h
every_after Q (Noted n x) y h = h
every_after Q (Broken a b) y h = tt

item_fits : (from : ℕ) (is : Items) (before : Option Item) → FitsItems is → Every FitsItem (with_one from is before)
item_fits from NoItems before h = tt
item_fits from (MoreItems x NoItems) None h = h.0
item_fits from (MoreItems x NoItems) (Some y) h = tt
item_fits from (MoreItems x (MoreItems y ys)) before h = tt

by_word_fits : (w : Option ParameterWord) (from : ℕ) (is : Items) (m : Marked) → FitsItems is → FitsMarked m → Every FitsMarked (marked_by w from is m)
by_word_fits (Some words.In) from is m h k = every_after FitsMarked (alone from is m.has_in) (record m { has_in = true }) (record { bsize = k.bsize; cap = k.cap; prepare = k.prepare })
by_word_fits (Some words.Out) from is m h k = every_after FitsMarked (alone from is m.has_out) (record m { has_out = true }) (record { bsize = k.bsize; cap = k.cap; prepare = k.prepare })
by_word_fits (Some words.Callback) from is m h k = every_after FitsMarked (alone from is m.callback) (record m { callback = true }) (record { bsize = k.bsize; cap = k.cap; prepare = k.prepare })
by_word_fits (Some words.Bsize) from is m h k = every_then FitsItem FitsMarked (with_one from is m.bsize) (λ x. Fine (record m { bsize = Some x })) (item_fits from is m.bsize h) (λ x g. record { bsize = g; cap = k.cap; prepare = k.prepare })
by_word_fits (Some words.Cap) from is m h k = every_then FitsItem FitsMarked (with_one from is m.cap) (λ x. Fine (record m { cap = Some x })) (item_fits from is m.cap h) (λ x g. record { bsize = k.bsize; cap = g; prepare = k.prepare })
by_word_fits (Some words.Prepare) from is m h k = every_then FitsItem FitsMarked (with_one from is m.prepare) (λ x. Fine (record m { prepare = Some x })) (item_fits from is m.prepare h) (λ x g. record { bsize = k.bsize; cap = k.cap; prepare = g })
by_word_fits None from is m h k = tt

all_fit : (an : Annots) (m : Marked) → FitsAnnots an → FitsMarked m → Every FitsMarked (all_marked an m)
all_fit NoAnnots m h k = k
all_fit (MoreAnnots (Annotate from word is) xs) m h k =
    every_then FitsMarked FitsMarked (marked (Annotate from word is) m) (all_marked xs)
    (subst (Every FitsMarked) (sym (marked_is from word is m)) (by_word_fits (parameter_word word) from is m h.0 k))
    (λ n g. all_fit xs n h.1 g)

there : (N : Nodes) (c : Checked Marked) (k : Marks) → Every FitsMarked c → Tells (AreMarks N) c (Ok k) → HasItems N k
there N (Fine m) k h t = (m, t, h)
there N (Noted n m) k h t = (m, t, h)
there N (Broken a b) k h t = absurd t

has_items : (N : Nodes) (an : Annots) (k : Marks) → FitsAnnots an → Tells (AreMarks N) (all_marked an unmarked) (Ok k) → HasItems N k
has_items N an k h t = there N (all_marked an unmarked) k (all_fit an unmarked h (record { bsize = tt; cap = tt; prepare = tt })) t

pub decl_items : (N : Nodes) (i : DeclId) (v : DeclNode) (k : Marks) → IsTypeName N i → ((d : Decl) → StandsDecl N i d → Shows N v d) → ((an : Annots) → StandAnnots N v.annots an → Tells (AreMarks N) (all_marked an unmarked) (Ok k)) → HasItems N k
decl_items N i v k (Declare from an b ps n r, h, f) s t = has_items N an k f.0 (t an (s (Declare from an b ps n r) h).1)
