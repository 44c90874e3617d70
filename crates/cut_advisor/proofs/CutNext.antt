-- Whether a declaration is the first of a function, by its node.
use Rattle.std.proofs.Common.{◌≡◌, ℕ, Bool, false, if◌then◌else◌, List, length, Option, sym, ap, ◌∙◌}
use Rattle.std.proofs.lemmas.List.{length-map}
use Rattle.c_scopes.specs.Scopes.{innermost, meaning_in}
use Rattle.c_syntax.specs.declared.declaration.Decl.{Decl as DeclNode}
use Rattle.c_syntax.specs.Nodes.{Nodes}
use Rattle.c_syntax.specs.Syntax.{Decl, Decls, Declare, NoRest, Initial, Body, Members}
use Rattle.c_types_rules.specs.Expressions.{declared_name}
use Rattle.c_types_rules.specs.Sources.{Program}
use Rattle.c_types_program.specs.Declarations.{function_in as function_by}
use Rattle.c_types_source.specs.declared.parts.Parts.{Parts as TypedSource}
use Rattle.c_types_source.specs.Sources.{IsTypedSource}
use Rattle.annot_reader_words.specs.Shown.{Shows}
use Rattle.annot_reader_functions.specs.Rules.{function_in}
use Rattle.cut_advisor.specs.CutNodes.{declares_next, has_members, is_next}

-- the number of the function that it declares is looked at, unless it defines a struct
pub next_is : (N : Nodes) (v : DeclNode) (d : Decl) (p : Program) (count : ℕ) → Shows N v d → declares_next p count d ≡ (if has_members v.rest then false else is_next p count (function_in (meaning_in (declared_name v.name) p.names)))
next_is N v (Declare from an b ps n NoRest) p count (_, _, _, _, e, r) =
    let looked : Option (List ℕ) → Bool = λ m. is_next p count (function_in (meaning_in (declared_name m) p.names)) in
    ap looked (sym e) ∙ ap (λ x. if has_members x then false else looked v.name) (sym r)
next_is N v (Declare from an b ps n (Initial x)) p count (_, _, _, _, e, r) =
    let looked : Option (List ℕ) → Bool = λ m. is_next p count (function_in (meaning_in (declared_name m) p.names)) in
    ap looked (sym e) ∙ ap (λ x. if has_members x then false else looked v.name) (sym r.1)
next_is N v (Declare from an b ps n (Body s)) p count (_, _, _, _, e, r) =
    let looked : Option (List ℕ) → Bool = λ m. is_next p count (function_in (meaning_in (declared_name m) p.names)) in
    ap looked (sym e) ∙ ap (λ x. if has_members x then false else looked v.name) (sym r.1)
next_is N v (Declare from an b ps n (Members ds)) p count (_, _, _, _, e, r) =
    let looked : Option (List ℕ) → Bool = λ m. is_next p count (function_in (meaning_in (declared_name m) p.names)) in
    ap (λ x. if has_members x then false else looked v.name) (sym r.1)

-- names are found where functions are declared
pub names_there : (ds : Decls) (p : Program) (s : TypedSource) → IsTypedSource ds p s → innermost s.env.env.scopes ≡ p.names
names_there ds p s t = ap (λ e. innermost e.scopes) t.is.env

-- there are as many functions
pub as_many : (ds : Decls) (p : Program) (s : TypedSource) → IsTypedSource ds p s → length p.functions ≡ length s.functions
as_many ds p s t = ap length (sym t.is.functions) ∙ length-map s.functions (function_by s.env.table)
