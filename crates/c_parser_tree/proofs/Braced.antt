-- Lists of values in braces.
use Rattle.std.proofs.Common.{◌≡◌, ◌∙◌, ℕ, List, [], Some, Result, Ok, Err, Vec, refl, ap, sym}
use Rattle.std.specs.declared.alloc.Global.{Global}
use Rattle.c_syntax.specs.declared.declaration.Value.{Value, roll-Value}
use Rattle.c_syntax.specs.declared.declaration.Value.TheViews.{out-roll-Value}
use Rattle.c_syntax.specs.declared.declaration.Value.TheOpen.{Value-F}
use Rattle.c_syntax.specs.Nodes.{Nodes}
use Rattle.c_syntax.specs.Syntax.{Braces}
use Rattle.c_parser_moves.specs.declared.action.Action.TheVariants as acts
use Rattle.c_parser_actions.specs.Pieces.{Piece as Tree, act}
use Rattle.c_parser_tree.specs.Stacks.{Stacks, push_value}
use Rattle.c_parser_tree.specs.declared.builder.Builder.{Builder}
use Rattle.c_parser_tree.specs.declared.builder.BuildError.{BuildError}
use Rattle.c_parser_tree.specs.declared.builder.BuildError.TheVariants as errors
use Rattle.c_parser_tree.specs.Braced.{IsBraced}
use Rattle.c_parser_tree.specs.Built.{Built, puts}
use Rattle.c_parser_tree.specs.IsMade.{IsMade}
use Rattle.c_parser_tree.specs.Seen.{nodes_seen, stack_seen}
use Rattle.c_parser_tree.specs.Stacked.{Stacked, Follows, Steps}
use Rattle.c_parser_tree.specs.Stacked as s
use Rattle.c_parser_tree.specs.Takes.{values_in}

some_inj : (x y : List Value × Stacks) → Some x ≡ Some y → x ≡ y
some_inj x y e = cc

some_built : (x y : Built) → Some x ≡ Some y → x ≡ y
some_built x y e = cc

pub braced : (r : Result (Unit {0}) BuildError) (f : ℕ) (b c d : Builder) (vs : List Value) (w : Vec Value Global) (v : Value) → v ≡ roll-Value (Value-F.Braces f w) → values_in (stack_seen b) ≡ Some (vs, stack_seen c) → nodes_seen c ≡ nodes_seen b → w.items ≡ vs → IsMade r d (puts (nodes_seen c) (push_value v (stack_seen c))) → IsBraced f (nodes_seen b) (stack_seen b) r d
braced (Ok _) f b c d vs w v o h n k m =
    let x : Built = record { nodes = nodes_seen c; stack = push_value v (stack_seen c) } in
    let y : Built = record { nodes = nodes_seen d; stack = stack_seen d } in
    let same : x ≡ y = some_built x y m in
    let nodes : nodes_seen c ≡ nodes_seen d = ap (λ (z : Built). z.nodes) same in
    let stack : push_value v (stack_seen c) ≡ stack_seen d = ap (λ (z : Built). z.stack) same in
    (w, stack_seen c, rw k h, sym nodes ∙ n, sym stack ∙ ap (λ (x : Value). push_value x (stack_seen c)) o)
braced (Err errors.Unfit) f b c d vs w v o h n k m = absurd cc
braced (Err errors.Memory) f b c d vs w v o h n k m = tt

braces_follow : (r : Result (Unit {0}) BuildError) (f : ℕ) (N : Nodes) (R : Stacks) (c : Builder) (P : List Tree) → IsBraced f N R r c → Stacked N R P → Follows r c (act (acts.Braces f) P)
braces_follow (Ok _) f N _ c _ (w, Q, e, n, k) (s.values {S = R} vs xs p t) =
    let pair = some_inj (vs, R) (w.items, Q) e in
    let e1 : vs ≡ w.items = ap (λ (z : List Value × Stacks). z.0) pair in
    let e2 : R ≡ Q = ap (λ (z : List Value × Stacks). z.1) pair in
    rw (n, k) (s.value _ (Braces f xs) (w, out-roll-Value (Value-F.Braces f w), (rw e1 at p)) (rw e2 at t))
braces_follow (Ok _) f N _ c _ h _ = s.broken (stack_seen c) []
braces_follow (Err errors.Unfit) f N _ c _ e (s.values vs xs p t) = absurd cc
braces_follow (Err errors.Unfit) f N _ c _ e _ = refl
braces_follow (Err errors.Memory) f N R c P e h = tt

pub steps_braces : (f : ℕ) (b : Builder) (r : Result (Unit {0}) BuildError) (c : Builder) → IsBraced f (nodes_seen b) (stack_seen b) r c → Steps (acts.Braces f) b r c
steps_braces f b r c e P h = braces_follow r f (nodes_seen b) (stack_seen b) c P e h
