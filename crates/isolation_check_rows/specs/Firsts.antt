-- What it means that a function is the first to mention something.
use Rattle.std.specs.Prelude.{◌≡◌, ℕ, ◌+◌, ◌≤◌, Bool, true, List, Some, slice_get}
use Rattle.std.specs.List.{Contains}
use Rattle.cut_graph_rules.specs.declared.mention.Mention.{Mention}
use Rattle.isolation_check_rows.specs.declared.kind.MentionKind.{MentionKind}
use Rattle.isolation_check_rows.specs.Rows.{mention_of}

-- the function at a place, whose numbers begin with this one, counts, and has a mention of a kind that names this
pub record Mentions (kind : MentionKind) (count : ℕ → Bool) (k number : ℕ) (functions : List (List Mention))
    (place : ℕ) : Type 0 where
  pub list : List Mention
  pub there : slice_get functions place ≡ Some list
  pub counts : count (number + place) ≡ true
  pub mentions : Contains list (mention_of kind k)

-- the function of number a is the first of them
pub record IsFound (kind : MentionKind) (count : ℕ → Bool) (k number : ℕ) (functions : List (List Mention))
    (a : ℕ) : Type 0 where
  pub place : ℕ
  pub at : a ≡ number + place
  pub does : Mentions kind count k number functions place
  pub least : (other : ℕ) → Mentions kind count k number functions other → a ≤ number + other

abbrev pub IsNowhere : MentionKind → (count : ℕ → Bool) → (k number : ℕ) → List (List Mention) → Type 0
IsNowhere kind count k number functions =
    (place : ℕ) → Mentions kind count k number functions place → ⊥
