-- Annotations of functions and globals. `from` is the offset of the node.
use Rattle.std.specs.Prelude.{ℕ, zero, suc, ◌+◌, ◌^◌, ◌==◌, nat_lt, Bool, true, false, not, ◌&&◌, ◌||◌, if◌then◌else◌, List, [], ◌∷◌, ◌++◌, codes, is_some, is_none, Option, Some, None}
use Rattle.c_syntax.specs.Syntax.{Decl, Decls, Annots, Annot, Items, Item, Atom, Parts, Declare, NoDecls, MoreDecls, NoAnnots, MoreAnnots, Annotate, NoItems, MoreItems, OneFactor, TwoFactors, NameAtom, NumberAtom, ReturnAtom, SizeofAtom, NoParts, Pointer, Array, Params}
use Rattle.c_types_model.specs.Types.{CType, CTypes, NoTypes, MoreTypes}
use Rattle.c_scopes.specs.Scopes.{same_name}
use Rattle.stub_core.specs.declared.terms.Size.{Size}
use Rattle.c_types_rules.specs.Checked.{Checked, Fine, Broken, keep, need, ◌>>=◌, ◌>>◌}
use Rattle.c_types_rules.specs.Environment.{Environment, LocalNamed, inner}
use Rattle.c_types_rules.specs.Expressions.{parameter_scope}
use Rattle.annot_reader_rules.specs.Misplaced.{bare_annots, bare_parts, bare_rest}
use Rattle.annot_reader_rules.specs.Notes.{Parameter, Notes}
use Rattle.annot_reader_rules.specs.Regions.{Signature, alone, key_parameter, one_item, parameter_notes, size}

-- what is known of a function beside its annotations
pub record FunctionKind : Type 0 where
  pub is_main : Bool
  pub has_body : Bool

-- ---- words

-- the names in brackets, of which there is one at least
abbrev pub names_in : (from : ℕ) → Items → Checked (List (List ℕ))
names_in from NoItems = Fine []
names_in from (MoreItems (OneFactor at (NameAtom name)) xs) = do
  names ← names_in from xs
  Fine (name ∷ names)
names_in from (MoreItems x xs) = Broken from 1

abbrev pub is_filled : Items → Bool
is_filled NoItems = false
is_filled (MoreItems x xs) = true

abbrev pub among : ℕ → List ℕ → Bool
among n [] = false
among n (m ∷ ms) = (n == m) || among n ms

-- a mutex is a number in the range of int
abbrev pub mutex : Item → Checked ℕ
mutex (OneFactor from (NumberAtom n)) = keep from 8 (nat_lt n (2 ^ 31)) >> Fine n
mutex (OneFactor from a) = Broken from 8
mutex (TwoFactors from a b) = Broken from 8

abbrev pub two_items : Items → Option (Item × Item)
two_items (MoreItems x (MoreItems y NoItems)) = Some (x, y)
two_items _ = None

abbrev pub nothing : Notes
nothing = record { cuts = []; params = []; sync = []; commit = None; cache = false; holds = [] }

abbrev pub cut_word : (from : ℕ) → Items → FunctionKind → Notes → Checked Notes
cut_word from is k n = do
  keep from 1 (is_filled is)
  keep from 2 (no_cut n.cuts)
  keep from 9 (not k.is_main)
  names ← names_in from is
  Fine (record n { cuts = names })
  where
    no_cut : List (List ℕ) → Bool
    no_cut [] = true
    no_cut (c ∷ cs) = false

abbrev pub sync_word : (from : ℕ) → Items → Signature → Notes → Checked Notes
sync_word from is s n = do
  x ← need from 1 (one_item is)
  p ← key_parameter s x
  keep from 2 (not (among p n.sync))
  Fine (record n { sync = n.sync ++ p ∷ [] })

abbrev pub commit_word : (from : ℕ) → Items → Signature → Notes → Checked Notes
commit_word from is s n = do
  xs ← need from 1 (two_items is)
  keep from 2 (is_none n.commit)
  key ← key_parameter s xs.0
  used ← size s true xs.1
  Fine (record n { commit = Some (key, used) })

abbrev pub holds_word : (from : ℕ) → Items → FunctionKind → Notes → Checked Notes
holds_word from is k n = do
  x ← need from 1 (one_item is)
  m ← mutex x
  keep from 2 (not (among m n.holds))
  keep from 9 (not k.is_main)
  keep from 8 k.has_body
  Fine (record n { holds = n.holds ++ m ∷ [] })

-- one annotation of a function more
abbrev pub noted : Annot → Signature → FunctionKind → Notes → Checked Notes
noted (Annotate from word is) s k n =
    if same_name word (codes "cut") then cut_word from is k n
    else if same_name word (codes "sync") then sync_word from is s n
    else if same_name word (codes "commit") then commit_word from is s n
    else if same_name word (codes "cache") then alone from is n.cache >> Fine (record n { cache = true })
    else if same_name word (codes "holds") then holds_word from is k n
    else Broken from 1

abbrev pub all_noted : Annots → Signature → FunctionKind → Notes → Checked Notes
all_noted NoAnnots s k n = Fine n
all_noted (MoreAnnots x xs) s k n = do
  m ← noted x s k n
  all_noted xs s k m

-- ---- functions

-- the declared parameters, and the parts that stand farther from the name
abbrev pub own_parameters : Parts → Decls
own_parameters NoParts = NoDecls
own_parameters (Pointer from ps) = own_parameters ps
own_parameters (Array from x ps) = own_parameters ps
own_parameters (Params from ds NoParts) = ds
own_parameters (Params from ds ps) = own_parameters ps

abbrev pub result_parts : Parts → Parts
result_parts NoParts = NoParts
result_parts (Pointer from ps) = Pointer from (result_parts ps)
result_parts (Array from x ps) = Array from x (result_parts ps)
result_parts (Params from ds NoParts) = NoParts
result_parts (Params from ds ps) = Params from ds (result_parts ps)

abbrev pub named_parameters : Decls → CTypes → List (Option (List ℕ) × CType)
named_parameters NoDecls ts = []
named_parameters (MoreDecls d ds) NoTypes = []
named_parameters (MoreDecls (Declare from an b ps n r) ds) (MoreTypes t ts) =
    (n, t) ∷ named_parameters ds ts

-- annotations in a parameter's own declarator are out of place
abbrev pub bare_within : Decl → Checked (Unit {0})
bare_within (Declare from an b ps n r) = bare_annots an >> bare_parts ps >> bare_rest r

abbrev pub all_parameters : Decls → Signature → (place : ℕ) → CTypes → Checked (List Parameter)
all_parameters NoDecls s place ts = Fine []
all_parameters (MoreDecls d ds) s place NoTypes = Fine []
all_parameters (MoreDecls d ds) s place (MoreTypes t ts) = do
  bare_within d
  p ← parameter_notes s d t
  further ← parameter_scope d s.env place t
  ps ← all_parameters ds (record s { env = further }) (place + 1) ts
  Fine (p ∷ ps)

abbrev pub is_empty : List (List ℕ) → Bool
is_empty [] = true
is_empty (c ∷ cs) = false

abbrev pub no_holds : List ℕ → Bool
no_holds [] = true
no_holds (m ∷ ms) = false

abbrev pub within : Signature → Environment → Signature
within s env = record s { env = env }

-- what the first declaration of a function says of it
abbrev pub function_notes : Environment → FunctionKind → Decl → (result : CType) → CTypes → Checked Notes
function_notes env k (Declare from an b ps n r) t ts = do
  bare_annots an
  bare_parts (result_parts ps)
  bare_rest r
  let signature : Signature = record {
    params = named_parameters (own_parameters ps) ts;
    result = t;
    env =
        env;
  }
  m ← all_noted an signature k nothing
  keep from 8 (no_holds m.holds || is_empty m.cuts)
  params ← all_parameters (own_parameters ps) (within signature (inner env)) 0 ts
  Fine (record m { params = params })

-- ---- later declarations, and globals

abbrev pub nothing_again : Annots → Checked (Unit {0})
nothing_again NoAnnots = Fine tt
nothing_again (MoreAnnots (Annotate from word is) xs) = Broken from 2

abbrev pub none_again : Decls → Checked (Unit {0})
none_again NoDecls = Fine tt
none_again (MoreDecls (Declare from an b ps n r) ds) =
    nothing_again an >> bare_parts ps >> bare_rest r >> none_again ds

-- a later declaration has no annotations, nor have its parameters
abbrev pub declared_later : Decl → Checked (Unit {0})
declared_later (Declare from an b ps n r) = nothing_again an >> none_again (own_parameters ps) >>
    bare_parts (result_parts ps) >> bare_rest r

abbrev pub guard_word : (from : ℕ) → (word : List ℕ) → Items → Option ℕ → Checked (Option ℕ)
guard_word from word is before = do
  keep from 1 (same_name word (codes "guarded_by"))
  x ← need from 1 (one_item is)
  keep from 2 (is_none before)
  m ← mutex x
  Fine (Some m)

abbrev pub guards : Annots → Option ℕ → Checked (Option ℕ)
guards NoAnnots before = Fine before
guards (MoreAnnots (Annotate from word is) xs) before = do
  g ← guard_word from word is before
  guards xs g

-- the mutex that guards a global, if any
abbrev pub global_notes : Decl → Checked (Option ℕ)
global_notes (Declare from an b ps n r) = do
  bare_annots an
  bare_parts ps
  bare_rest r
  guards an None
