-- The declarations of a list.
use Rattle.std.proofs.Common.{◌≡◌, ℕ, zero, suc, ◌<◌, List, [], ◌∷◌, length, get_or, refl, subst, arith}
use Rattle.c_syntax.specs.declared.id.DeclId.{DeclId}
use Rattle.c_syntax.specs.Nodes.{Nodes}
use Rattle.c_syntax.specs.Syntax.{Decls, NoDecls, MoreDecls}
use Rattle.c_syntax.specs.Stands.{StandDecls, StandsDecl}
use Rattle.c_syntax_laws.specs.Numbers.{FitsDecls}
use Rattle.c_types_rules.specs.Environment.{Environment}
use Rattle.c_types_rules.specs.Sources.{Program}
use Rattle.annot_reader_rules.specs.Cuts.{all_noted}
use Rattle.annot_reader_rules.specs.Notes.{Annotated}
use Rattle.annot_reader_words.proofs.Folding.{fold, same_after}
use Rattle.annot_reader_words.proofs.Lists.{decls_in}
use Rattle.annot_reader_functions.specs.Rules.{IsTypeName}
use Rattle.annot_reader_functions.specs.Parameters.{AreDecls}
use Rattle.annot_reader.specs.Reading.{noted_step}

decl_in : (N : Nodes) (is : List DeclId) (ds : Decls) (k : ℕ) (d : DeclId) → StandDecls N is ds → FitsDecls ds → k < length is → IsTypeName N (get_or is k d)
decl_in N [] ds k d h f l = absurd (omega arith)
decl_in N (i ∷ is) NoDecls k d h f l = absurd cc
decl_in N (i ∷ is) (MoreDecls x xs) zero d (j, js, e, p, q) f l = let one : j ≡ i = cc in (x, subst (λ (z : DeclId). StandsDecl N z x) one p, f.0)
decl_in N (i ∷ is) (MoreDecls x xs) (suc k) d (j, js, e, p, q) f l = let rest : js ≡ is = cc in decl_in N is xs k d (subst (λ zs. StandDecls N zs xs) rest q) f.1 (omega arith)

-- the declaration at a place
pub decl_at : (N : Nodes) (is : List DeclId) (k : ℕ) (d : DeclId) → AreDecls N is → k < length is → IsTypeName N (get_or is k d)
decl_at N is k d (ds, h, f) l = decl_in N is ds k d h f l

module _ (env : Environment) (p : Program) where
  pub noted_fold : (ds : Decls) (a : Annotated) → all_noted env p ds a ≡ fold (noted_step env p) (decls_in ds) a
  noted_fold NoDecls a = refl
  noted_fold (MoreDecls d ds) a = same_after (noted_step env p d a) (all_noted env p ds) (fold (noted_step env p) (decls_in ds)) (noted_fold ds)
