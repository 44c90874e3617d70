use Rattle.std.proofs.Common.{rules, ◌≡◌, ◌∷◌, [], ◌∙◌, ap, sym}
use Rattle.run_events.specs.Words.{pattern, words_of}
use Rattle.run_events.proofs.words.unpack.Goals as goal

pub returns-in-Seven : goal.returns-in-Seven
returns-in-Seven c =
    let e0 : c.of_quarter-in-Seven.result ≡ pattern c.in-Seven.a = search rules in
    let e1 : c.of_quarter-in-Seven-2.result ≡ pattern c.in-Seven.b = search rules in
    let e2 : c.of_quarter-in-Seven-3.result ≡ pattern c.in-Seven.c = search rules in
    let e3 : c.of_quarter-in-Seven-4.result ≡ pattern c.in-Seven.d = search rules in
    let e4 : c.of_quarter-in-Seven-5.result ≡ pattern c.in-Seven.e = search rules in
    let e5 : c.of_quarter-in-Seven-6.result ≡ pattern c.in-Seven.f = search rules in
    let e6 : c.of_quarter-in-Seven-7.result ≡ pattern c.in-Seven.g = search rules in
    (λ i. e0 i ∷ e1 i ∷ e2 i ∷ e3 i ∷ e4 i ∷ e5 i ∷ e6 i ∷ []) ∙ ap words_of (sym c.in-Seven.is)

pub returns-in-Eight : goal.returns-in-Eight
returns-in-Eight c =
    let e0 : c.of_quarter-in-Eight.result ≡ pattern c.in-Eight.a = search rules in
    let e1 : c.of_quarter-in-Eight-2.result ≡ pattern c.in-Eight.b = search rules in
    let e2 : c.of_quarter-in-Eight-3.result ≡ pattern c.in-Eight.c = search rules in
    let e3 : c.of_quarter-in-Eight-4.result ≡ pattern c.in-Eight.d = search rules in
    let e4 : c.of_quarter-in-Eight-5.result ≡ pattern c.in-Eight.e = search rules in
    let e5 : c.of_quarter-in-Eight-6.result ≡ pattern c.in-Eight.f = search rules in
    let e6 : c.of_quarter-in-Eight-7.result ≡ pattern c.in-Eight.g = search rules in
    let e7 : c.of_quarter-in-Eight-8.result ≡ pattern c.in-Eight.h = search rules in
    (λ i. e0 i ∷ e1 i ∷ e2 i ∷ e3 i ∷ e4 i ∷ e5 i ∷ e6 i ∷ e7 i ∷ []) ∙ ap words_of (sym c.in-Eight.is)
