-- What an accepted source is, by whatever is said of it.
use Rattle.std.proofs.Common.{ℕ, List, subst}
use Rattle.c_types_rules.specs.Sources.{Program}
use Rattle.annot_reader_rules.specs.Notes.{Annotated}
use Rattle.front_end.specs.declared.source.CheckedSource.{CheckedSource}
use Rattle.front_end.specs.Answers.{IsAccepted}
use Rattle.cut_check.specs.Sources.{IsOf, Says}
use Rattle.cut_check.proofs.Accepted.{known}
use Rattle.cut_check.proofs.OneText.{one_annotated, one_program}

pub is_said : (bytes cut : List ℕ) (c : CheckedSource) (p : Program) (a : Annotated) → IsAccepted bytes cut c → Says bytes cut p a → IsOf cut p a c
is_said bytes cut c p a accepted says =
    let k = known bytes cut c accepted in
    subst (λ (r : Program). IsOf cut r a c) (one_program k.says says) (subst (λ (n : Annotated). IsOf cut k.program n c) (one_annotated k.says says) k.is)
