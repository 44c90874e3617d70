-- Small sources with a function `h`, of number 16; where there is `go`, it has number 17.
use Rattle.std.specs.Prelude.{List, [], ◌∷◌, codes}
use Rattle.c_lexer.specs.declared.token.Sign.TheVariants as signs
use Rattle.c_syntax.specs.Syntax.{Array, Call, Decl, Index, Initial, NoExprs, NoParts, Plain, Pointer, Prefix}
use Rattle.c_types_examples.specs.Small.{call, declaring, int_base, main_giving, name, num, two}
use Rattle.c_types_examples.specs.Heard.{size_of}
use Rattle.cut_graph_examples.specs.Sources.{external, function_pointer, giving, hiding, only}

abbrev h : Decl
h = giving (codes "h") (num 0)

-- int h(void) { return 0; } int main(void) { return h == 0; }
abbrev pub compared : List Decl
compared = h ∷ main_giving (two signs.Equal (name (codes "h")) (num 0)) ∷ []

-- int h(void) { return 0; } int main(void) { int h; return h; }
abbrev pub hidden : List Decl
hidden = h ∷ hiding (codes "main") (codes "h") ∷ []

-- int h(void) { return 0; } int go(void) { return sizeof(h()); } int main(void) { return go(); }
abbrev pub under_sizeof : List Decl
under_sizeof = h ∷ giving (codes "go") (size_of (call (codes "h") NoExprs)) ∷
    main_giving (call (codes "go") NoExprs) ∷ []

-- int h(void) { return 0; } int main(void) { return 0; }
abbrev pub never_named : List Decl
never_named = h ∷ main_giving (num 0) ∷ []

-- int ( *t[1])(void) = { h };
abbrev table : Decl
table = declaring int_base (function_pointer (Array 7 (num 1) NoParts)) (codes "t") (only (name (codes "h")))

-- int h(void) { return 0; } int ( *t[1])(void) = { h };
-- int go(void) { return t[0](); } int main(void) { return go(); }
abbrev pub in_a_value : List Decl
in_a_value = h ∷ table ∷ giving (codes "go") (Call 30 (Index 31 (name (codes "t")) (num 0)) NoExprs) ∷
    main_giving (call (codes "go") NoExprs) ∷ []

-- int h(void) { return 0; } int ( *t[1])(void) = { h }; int ( **q)(void) = t;
-- int go(void) { return ( *q)(); } int main(void) { return go(); }
abbrev pub through_a_pointer : List Decl
through_a_pointer = h ∷ table ∷ declaring int_base (function_pointer (Pointer 7 NoParts)) (codes "q")
    (Initial (Plain (name (codes "t")))) ∷ giving (codes "go")
    (Call 30 (Prefix 31 signs.Star (name (codes "q"))) NoExprs) ∷ main_giving (call (codes "go") NoExprs) ∷ []

-- int h(void); int go(void) { return h(); } int main(void) { return go(); }
abbrev pub called_below : List Decl
called_below = external (codes "h") ∷ giving (codes "go") (call (codes "h") NoExprs) ∷
    main_giving (call (codes "go") NoExprs) ∷ []

-- int h(void); int main(void) { return h == 0; }
abbrev pub compared_external : List Decl
compared_external = external (codes "h") ∷ main_giving (two signs.Equal (name (codes "h")) (num 0)) ∷ []
