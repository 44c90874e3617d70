-- Rows of functions: for each global, or for each function, one that mentions it.
use Rattle.std.specs.Prelude.{◌≡◌, ℕ, ◌+◌, ◌<◌, ◌==◌, Bool, true, false, ◌&&◌, ◌||◌, List, [], ◌∷◌, length, Option, Some, None, slice_index_or}
use Rattle.c_builtins.specs.Table.{first_source_function}
use Rattle.cut_graph_rules.specs.declared.mention.Mention.{Mention}
use Rattle.cut_graph_rules.specs.declared.mention.Mention.TheVariants.{Function, Global, Written}
use Rattle.isolation_check_rows.specs.declared.kind.MentionKind.{MentionKind}
use Rattle.isolation_check_rows.specs.declared.kind.MentionKind.TheVariants as kinds
use Rattle.isolation_check_rows.specs.declared.sides.Counts.{Counts}
use Rattle.isolation_check_rows.specs.declared.sides.Counts.TheVariants.{Above, Below, Either}

-- ---- mentions

-- what a mention names, where it is of a kind
abbrev pub place_of : MentionKind → Mention → Option ℕ
place_of kinds.Function (Function number) = Some number
place_of kinds.Function (Global place) = None
place_of kinds.Function (Written place) = None
place_of kinds.Global (Function number) = None
place_of kinds.Global (Global place) = Some place
place_of kinds.Global (Written place) = None
place_of kinds.Written (Function number) = None
place_of kinds.Written (Global place) = None
place_of kinds.Written (Written place) = Some place

-- the mention of a kind that names this
abbrev pub mention_of : MentionKind → ℕ → Mention
mention_of kinds.Function k = Function k
mention_of kinds.Global k = Global k
mention_of kinds.Written k = Written k

abbrev pub is_here : (k : ℕ) → Option ℕ → Bool
is_here k (Some place) = k == place
is_here k None = false

-- whether mentions of a kind name this
abbrev pub has : MentionKind → (k : ℕ) → List Mention → Bool
has kind k [] = false
has kind k (m ∷ ms) = is_here k (place_of kind m) || has kind k ms

-- ---- functions that count

abbrev pub flag : List Bool → (number : ℕ) → Bool
flag flags number = slice_index_or flags number false

abbrev pub counts : (above below : List Bool) → Counts → (number : ℕ) → Bool
counts above below Above f = flag above f
counts above below Below f = flag below f
counts above below Either f = flag above f || flag below f

-- ---- rows

abbrev pub entry : List (Option ℕ) → (k : ℕ) → Option ℕ
entry row k = slice_index_or row k None

pub record IsEmpty (count : ℕ) (row : List (Option ℕ)) : Type 0 where
  pub size : length row ≡ count
  pub entries : (k : ℕ) → entry row k ≡ None

-- the entry, once a function has been noted there, or not
abbrev pub noted : Bool → (function : ℕ) → Option ℕ → Option ℕ
noted true function old = Some function
noted false function old = old

-- a function was noted wherever its mentions of a kind say
pub record IsNoted (kind : MentionKind) (function : ℕ) (old : List (Option ℕ)) (ms : List Mention)
    (new : List (Option ℕ)) : Type 0 where
  pub size : length new ≡ length old
  pub entries : (k : ℕ) → k < length old → entry new k ≡ noted (has kind k ms) function (entry old k)

-- of functions from a number on, the first that counts and has a mention of a kind that names this
abbrev pub first_from : MentionKind → (count : ℕ → Bool) → (k number : ℕ) → List (List Mention) → Option ℕ
first_from kind count k number [] = None
first_from kind count k number (ms ∷ rest) =
    noted (count number && has kind k ms) number (first_from kind count k (number + 1) rest)

-- the same from a number on, of each of so many
pub record AreFirstFrom (kind : MentionKind) (count : ℕ → Bool) (many number : ℕ) (functions : List (List Mention))
    (row : List (Option ℕ)) : Type 0 where
  pub size : length row ≡ many
  pub entries : (k : ℕ) → k < many → entry row k ≡ first_from kind count k number functions

abbrev pub AreFirst : MentionKind → (count : ℕ → Bool) → (many : ℕ) → List (List Mention) →
    List (Option ℕ) → Type 0
AreFirst kind count many functions row = AreFirstFrom kind count many first_source_function functions row
