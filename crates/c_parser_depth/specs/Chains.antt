-- Longest chains of nodes, and a stack of them, the top first.
use Rattle.std.specs.Prelude.{ℕ, zero, suc, ◌+◌, ◌==◌, nat_lt, nat_le, List, [], ◌∷◌, Option, Some, None, if◌then◌else◌}
use Rattle.source_limits.specs.Limits.{most_holders}
use Rattle.c_parser_depth.specs.declared.chain.Chain.{Chain}

-- the chain of a piece that has no node
abbrev pub no_chain : Chain
no_chain = record { nodes = 0; end = 0 }

-- the count of nodes from which on a chain is too long
abbrev pub counted : ℕ
counted = most_holders + 2

-- the longer of two chains
abbrev pub longer : Chain → Chain → Chain
longer c d = if nat_lt c.nodes d.nodes then d else c

-- the chain below a node at this offset, and that node; nodes of one that is too long aren't counted
abbrev pub under : ℕ → Chain → Chain
under f c = if c.nodes == 0 then record { nodes = 1; end = f } else if nat_lt c.nodes counted then record c
    { nodes = c.nodes + 1 } else c

-- the same below a node that there may be
abbrev pub held_by : Option ℕ → Chain → Chain
held_by None c = c
held_by (Some f) c = under f c

-- the offset of the last node, where too many hold it
abbrev pub deep_end : Chain → Option ℕ
deep_end c = if nat_le counted c.nodes then Some c.end else None

-- the chain at the top, or that of no node where there is none
abbrev pub top : List Chain → Chain
top [] = no_chain
top (c ∷ cs) = c

-- the chains below it
abbrev pub rest : List Chain → List Chain
rest [] = []
rest (c ∷ cs) = cs

-- what is below the first so many
abbrev pub rests : ℕ → List Chain → List Chain
rests zero cs = cs
rests (suc n) cs = rest (rests n cs)

-- the longest of the first so many
abbrev pub longest_of : ℕ → List Chain → Chain
longest_of zero cs = no_chain
longest_of (suc n) cs = longer (longest_of n cs) (top (rests n cs))
