use Rattle.std.proofs.Common.{rules, ◌≡◌, ◌∷◌, ◌∙◌}
use Rattle.c_lexer.proofs.spelling.sign_of.Goals as goal

pub returns-in-Some : goal.returns-in-Some
returns-in-Some c =
    let is : c.args.bytes.now ≡ c.in-Some.first.now ∷ c.in-Some.field-0-1.now = search rules in
    rw is (rw is at c.first_sign.ensures ∙ c.signs_with.ensures c.in-Some.field-0-1.now)
