use Rattle.isolation_check_rows.proofs.Has.{contains_has, has_contains}
use Rattle.isolation_check_rows.proofs.Firsts.{found, nowhere}
use Rattle.isolation_check_rows.proofs.laws.first_functions_are_found.Goals as goal

pub returns-clause-found : goal.returns-clause-found
returns-clause-found c = λ kind count k number a functions e. found kind count k number a functions e

pub returns-clause-nowhere : goal.returns-clause-nowhere
returns-clause-nowhere c = λ kind count k number functions e. nowhere kind count k number functions e

pub returns-clause-mentions : goal.returns-clause-mentions
returns-clause-mentions c = λ kind k ms. (has_contains kind k ms, λ h. contains_has kind k ms h.0 h.1 h.2)
