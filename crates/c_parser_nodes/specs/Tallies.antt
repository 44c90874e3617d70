-- Tallies, and a stack of them, the top first.
use Rattle.std.specs.Prelude.{ℕ, zero, suc, ◌+◌, List, [], ◌∷◌, reverse, Option, Some, None, if◌then◌else◌}
use Rattle.c_parser_nodes.specs.Counts.{capped, is_same_list}
use Rattle.c_parser_nodes.specs.declared.tally.Tally.{Tally}
use Rattle.c_parser_nodes.specs.declared.tallies.Tallies.{Tallies}

-- that of a piece that has no node
abbrev pub no_tally : Tally
no_tally = record { nodes = 0; once = 0; list = None }

-- that of an annotation that begins there
abbrev pub leaf : ℕ → Tally
leaf f = record { nodes = 0; once = 0; list = Some f }

-- where the first of two lists in one begins
abbrev pub first_list : Option ℕ → Option ℕ → Option ℕ
first_list None b = b
first_list (Some f) b = Some f

-- that of a list with one more at its end
abbrev pub extended : Tally → Tally → Tally
extended c d = record { nodes = capped (c.nodes + d.nodes); once = c.once; list = first_list c.list d.list }

-- that of a declaration with so many nodes after these annotations
abbrev pub declared : Tally → ℕ → Tally
declared c n = record { nodes = capped (c.nodes + n); once = n; list = c.list }

-- that of declarations with one more
abbrev pub named : Tally → Tally → Tally
named c d = record {
  nodes = capped (c.nodes + d.nodes);
  once = capped (c.once + (if is_same_list c.list d.list then d.once else d.nodes));
  list = d.list;
}

-- that of declarations with one more, a struct's definition with these members
abbrev pub with_struct : Tally → Tally → Tally
with_struct c d = record {
  nodes = capped (c.nodes + d.nodes);
  once = capped (c.once + d.nodes);
  list = None;
}

-- the tally at the top, or that of no node where there is none
abbrev pub top : List Tally → Tally
top [] = no_tally
top (c ∷ cs) = c

-- the tallies below it
abbrev pub rest : List Tally → List Tally
rest [] = []
rest (c ∷ cs) = cs

-- what is below the first so many
abbrev pub rests : ℕ → List Tally → List Tally
rests zero cs = cs
rests (suc n) cs = rest (rests n cs)

-- the nodes of the first so many
abbrev pub sum_of : ℕ → List Tally → ℕ
sum_of zero cs = 0
sum_of (suc n) cs = capped (sum_of n cs + (top (rests n cs)).nodes)

-- the tallies of a stack, the top first
unfoldable pub seen : Tallies → List Tally
seen c = reverse c.stack.items
