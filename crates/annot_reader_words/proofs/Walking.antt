-- How a walk over several nodes goes on.
use Rattle.std.proofs.Common.{◌≡◌, ℕ, suc, ◌+◌, ◌<◌, List, [], ◌∷◌, ◌++◌, length, get_or, drop, Result, Ok, Err, sym, subst, add-one, drop-cons}
use Rattle.c_syntax.specs.Nodes.{Nodes}
use Rattle.c_types_rules.specs.Checked.{Checked, Fine, ◌>>◌}
use Rattle.annot_reader_words.specs.declared.error.AnnotationError.{AnnotationError}
use Rattle.c_syntax_laws.specs.declared.node.Node.{Node}
use Rattle.annot_reader_words.specs.Answers.{Passes, Unsaid}
use Rattle.c_syntax_laws.specs.Named.{named_by}
use Rattle.annot_reader_words.specs.Sayings.{AllSay, AreNodes, IsNode, Says, own}
use Rattle.annot_reader_words.proofs.Composing.{goes_on, same_tells, stops_there}
use Rattle.annot_reader_words.proofs.Sayings.{below}

abbrev Said : Type 0
Said = Checked (Unit {0})

abbrev Answer : Type 0
Answer = Result (Unit {0}) AnnotationError

-- what is left to be looked at decides
abbrev pub Decide : Nodes → List Node → Said → Type 0
Decide N vs c = (d : Said) × AllSay N vs d × ((r : Answer) → Passes d r → Passes c r)

pub at_first : (N : Nodes) (vs : List Node) (c : Said) → AllSay N vs c → Decide N vs c
at_first N vs c h = (c, h, λ r k. k)

-- the next node, and what is left after it
abbrev Next : Nodes → Node → List Node → Said → Type 0
Next N v vs c = (a b : Said) × Says N v a × AllSay N vs b × ((r : Answer) → Passes (a >> b) r → Passes c r)

next : (N : Nodes) (vs : List Node) (k : ℕ) (d : Node) (c : Said) → k < length vs → Decide N (drop k vs) c → Next N (get_or vs k d) (drop (k + 1) vs) c
next N vs k d c h (x, s, f) =
    let one : drop k vs ≡ get_or vs k d ∷ drop (suc k) vs = drop-cons vs k d h in
    let t = subst (λ ws. AllSay N ws x) one s in
    let P : List Node → Type 0 = λ ws. AllSay N ws t.1 in
    (t.0, t.1, t.2, rw add-one t.3, λ r p. f r (same_tells Unsaid x (t.0 >> t.1) r t.4 p))

pub next_is_node : (N : Nodes) (vs : List Node) (k : ℕ) (d : Node) (c : Said) → k < length vs → Decide N (drop k vs) c → IsNode N (get_or vs k d)
next_is_node N vs k d c h e = let n = next N vs k d c h e in (n.0, n.2)

-- a rule that the next node breaks is the first that is broken
pub broken_next : (N : Nodes) (vs : List Node) (k : ℕ) (d : Node) (c : Said) (e : AnnotationError) → k < length vs → Decide N (drop k vs) c →
    ((a : Said) → Says N (get_or vs k d) a → Passes a (Err e)) → Passes c (Err e)
broken_next N vs k d c e h g p = let n = next N vs k d c h g in n.4 (Err e) (stops_there Unsaid Unsaid n.0 n.1 e (p n.0 n.2))

-- past a node that breaks no rule
pub past_next : (N : Nodes) (vs : List Node) (k : ℕ) (d : Node) (c : Said) → k < length vs → Decide N (drop k vs) c →
    ((a : Said) → Says N (get_or vs k d) a → Passes a (Ok tt)) → Decide N (drop (k + 1) vs) c
past_next N vs k d c h g p =
    let n = next N vs k d c h g in
    (n.1, n.3, λ r q. n.4 r (goes_on Unsaid Unsaid n.0 n.1 tt r (p n.0 n.2) q))

-- nothing is left
pub at_end : (N : Nodes) (c : Said) → Decide N [] c → Passes c (Ok tt)
at_end N c (d, s, f) = f (Ok tt) (same_tells Unsaid d (Fine tt) (Ok tt) s tt)

-- what a node names are nodes
pub named_nodes : (N : Nodes) (v : Node) → IsNode N v → AreNodes N (named_by N v)
named_nodes N v (c, h) = let b = below N v c h in (b.0, b.1)

-- what is found below a node that has no annotation of its own is what is found there
pub found_below : (N : Nodes) (v : Node) (c : Said) (r : Answer) → Says N v c → Passes (own N v) (Ok tt) → ((d : Said) → AllSay N (named_by N v) d → Passes d r) → Passes c r
found_below N v c r h o f =
    let b = below N v c h in
    same_tells Unsaid c (own N v >> b.0) r b.2 (goes_on Unsaid Unsaid (own N v) b.0 tt r o (f b.0 b.1))

pub found_at : (N : Nodes) (v : Node) (c : Said) (e : AnnotationError) → Says N v c → Passes (own N v) (Err e) → Passes c (Err e)
found_at N v c e h o =
    let b = below N v c h in
    same_tells Unsaid c (own N v >> b.0) (Err e) b.2 (stops_there Unsaid Unsaid (own N v) b.0 e o)

-- what was put into an empty list is what stands there
pub put : (items news olds named : List Node) → items ≡ news → news ≡ olds ++ named → olds ≡ [] → items ≡ named
put items news olds named e g h = cc

pub are_nodes : (N : Nodes) (vs ws : List Node) (c : Said) → vs ≡ ws → AllSay N ws c → AreNodes N vs
are_nodes N vs ws c e h = (c, subst (λ us. AllSay N us c) (sym e) h)

pub say_too : (N : Nodes) (vs ws : List Node) (c : Said) → vs ≡ ws → AllSay N ws c → AllSay N vs c
say_too N vs ws c e h = subst (λ us. AllSay N us c) (sym e) h
