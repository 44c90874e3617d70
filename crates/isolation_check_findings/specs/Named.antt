-- Which functions a function names.
use Rattle.std.specs.Prelude.{◌≡◌, ◌↔◌, ℕ, ◌+◌, ◌<◌, Bool, true, false, ◌&&◌, ◌||◌, List, [], ◌∷◌, length, is_some, Option}
use Rattle.c_builtins.specs.Table.{first_source_function}
use Rattle.cut_graph_rules.specs.declared.mention.Mention.{Mention}
use Rattle.cut_graph_rules.specs.Sources.{Mentioned}
use Rattle.cut_graph_rules.specs.MayRun.{Names}
use Rattle.isolation_check_rows.specs.declared.kind.MentionKind.TheVariants as kinds
use Rattle.isolation_check_rows.specs.Rows.{entry, has, noted}

-- whether the value of a global with an entry mentions the function
abbrev pub any_value : (k : ℕ) → (tables : List (Option ℕ)) → (values : List (List Mention)) → Bool
any_value k [] values = false
any_value k (t ∷ ts) [] = false
any_value k (t ∷ ts) (v ∷ vs) = (is_some t && has kinds.Function k v) || any_value k ts vs

-- a function was noted wherever these values say
pub record IsNotedByValues (function : ℕ) (old : List (Option ℕ)) (tables : List (Option ℕ))
    (values : List (List Mention)) (new : List (Option ℕ)) : Type 0 where
  pub size : length new ≡ length old
  pub entries : (k : ℕ) → k < length old →
      entry new k ≡ noted (any_value k tables values) function (entry old k)

-- of so many functions of the source, those that this one names have an entry
pub record AreNamed (n : Mentioned) (function count : ℕ) (row : List (Option ℕ)) : Type 0 where
  pub size : length row ≡ first_source_function + count
  pub exact : (k : ℕ) → k < first_source_function + count →
      (is_some (entry row k) ≡ true) ↔ Names n function k
