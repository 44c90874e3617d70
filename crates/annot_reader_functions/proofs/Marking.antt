-- One annotation more of a parameter, by its word.
use Rattle.std.proofs.Common.{◌≡◌, ℕ, Bool, true, false, if◌then◌else◌, List, Some, None, codes, refl}
use Rattle.c_scopes.specs.Scopes.{same_name}
use Rattle.c_syntax.specs.Nodes.{Nodes}
use Rattle.c_syntax.specs.Syntax.{Annots, Annotate, Items, NoAnnots, MoreAnnots}
use Rattle.c_types_rules.specs.Checked.{Broken}
use Rattle.annot_reader_rules.specs.Regions.{Marked, all_marked, marked, unmarked}
use Rattle.annot_reader_words.specs.declared.word.ParameterWord.TheVariants as words
use Rattle.annot_reader_words.specs.Words.{parameter_word}
use Rattle.annot_reader_words.proofs.Folding.{fold, same_after}
use Rattle.annot_reader_words.proofs.Lists.{annots_in}
use Rattle.annot_reader_functions.specs.Marking.{IsMarked, bsize_marked, callback_marked, cap_marked, in_marked, marked_by, out_marked, prepare_marked}

by_tests : (a b c d e g : Bool) (f : ℕ) (is : Items) (m : Marked) →
    (if a then in_marked f is m else if b then out_marked f is m else if c then callback_marked f is m else if d then bsize_marked f is m else if e then cap_marked f is m else if g then prepare_marked f is m else Broken f 1)
    ≡ marked_by (if a then Some words.In else if b then Some words.Out else if c then Some words.Callback else if d then Some words.Bsize else if e then Some words.Cap else if g then Some words.Prepare else None) f is m
by_tests true b c d e g f is m = refl
by_tests false true c d e g f is m = refl
by_tests false false true d e g f is m = refl
by_tests false false false true e g f is m = refl
by_tests false false false false true g f is m = refl
by_tests false false false false false true f is m = refl
by_tests false false false false false false f is m = refl

pub marked_is : (f : ℕ) (word : List ℕ) (is : Items) (m : Marked) → marked (Annotate f word is) m ≡ marked_by (parameter_word word) f is m
marked_is f word is m = by_tests (same_name word (codes "in")) (same_name word (codes "out")) (same_name word (codes "callback")) (same_name word (codes "bsize")) (same_name word (codes "cap")) (same_name word (codes "prepare")) f is m

pub marked_fold : (an : Annots) (m : Marked) → all_marked an m ≡ fold marked (annots_in an) m
marked_fold NoAnnots m = refl
marked_fold (MoreAnnots x xs) m = same_after (marked x m) (λ n. all_marked xs n) (fold marked (annots_in xs)) (marked_fold xs)

pub nothing_marked : (N : Nodes) → IsMarked N (record { has_in = false; has_out = false; callback = false; bsize = None; cap = None; prepare = None }) unmarked
nothing_marked N = record { has_in = refl; has_out = refl; callback = refl; bsize = tt; cap = tt; prepare = tt }
