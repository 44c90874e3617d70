-- What lists say, as steps one after another.
use Rattle.std.proofs.Common.{◌≡◌, ℕ, Option, refl, ap}
use Rattle.c_syntax.specs.Syntax.{Decl, Decls, Annots, NoDecls, MoreDecls, Declare, NoAnnots, MoreAnnots, Annotate}
use Rattle.c_types_rules.specs.Checked.{Checked, Fine, Noted, Broken, noting, ◌>>=◌, ◌>>◌}
use Rattle.annot_reader_rules.specs.Functions.{guards, guard_word, none_again}
use Rattle.annot_reader_words.specs.Steps.{again, guard_step}
use Rattle.annot_reader_words.proofs.Folding.{fold, same_after}
use Rattle.annot_reader_words.proofs.Lists.{annots_in, decls_in}

pub guards_fold : (an : Annots) (before : Option ℕ) → guards an before ≡ fold guard_step (annots_in an) before
guards_fold NoAnnots before = refl
guards_fold (MoreAnnots (Annotate from word is) xs) before = same_after (guard_word from word is before) (λ g. guards xs g) (fold guard_step (annots_in xs)) (guards_fold xs)

-- a step without a state
abbrev pub again_step : Decl → Unit {0} → Checked (Unit {0})
again_step d s = again d

then_is : {A : Type 0} (c : Checked (Unit {0})) (d : Checked A) (f : Unit {0} → Checked A) → d ≡ f tt → (c >> d) ≡ (c >>= f)
then_is (Fine x) d f e = e
then_is (Noted n x) d f e = ap (noting n) e
then_is (Broken a b) d f e = refl

pub again_fold : (ds : Decls) → none_again ds ≡ fold again_step (decls_in ds) tt
again_fold NoDecls = refl
again_fold (MoreDecls (Declare from an b ps n r) ds) = then_is (again (Declare from an b ps n r)) (none_again ds) (fold again_step (decls_in ds)) (again_fold ds)
