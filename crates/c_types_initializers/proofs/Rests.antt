-- How the values that are left go on from those that were read.
use Rattle.std.proofs.Common.{◌≡◌, ℕ, zero, suc, ◌<◌, ◌≤◌, Bool, List, [], ◌∷◌, ◌++◌, drop, get_or, Some, None, Ok, Err, refl, sym, ap, ◌∙◌, subst, arith, append_assoc, append-nil, drop-cons}
use Rattle.std.specs.Prelude.{Vec, replicate, slice_get}
use Rattle.std.specs.declared.alloc.Global.{Global}
use Rattle.std.proofs.lemmas.Option.{slice_get_within, slice_get-get_or}
use Rattle.c_syntax.specs.declared.declaration.Value.{Value}
use Rattle.c_syntax.specs.Nodes.{Nodes}
use Rattle.c_syntax.specs.Syntax.{Value as Written, Values as Writtens, NoValues, MoreValues}
use Rattle.c_syntax.specs.Stands.{StandsValue, StandValues}
use Rattle.c_types_model.specs.Types.{CType}
use Rattle.c_types_rules.specs.Checked.{Notes, Checked, Fine, Noted, Broken, ◌>>=◌}
use Rattle.c_types_rules.specs.Environment.{Environment}
use Rattle.c_types_rules.specs.Initials as initials
use Rattle.c_types_rules.specs.Initials.{Initials, MoreInitials, NoInitials, elements, initial, members, start_of_value}
use Rattle.c_types_operators.specs.declared.error.TypeError.{TypeError}
use Rattle.c_types_operators.specs.declared.error.TypeError.TheVariants.{Rule, Memory}
use Rattle.c_types_program.specs.declared.global.Initial.{Initial}
use Rattle.c_types_program.specs.Declarations.{initials_in}
use Rattle.c_types_expressions.specs.Found.{Found}
use Rattle.c_types_expressions.proofs.Sequences.{gone_on, same_steps, stopped_in}
use Rattle.c_types_initializers.specs.Values.{AreInitials, IsInitial}

-- what agrees with the values that are left, whose types are these, agrees with all, where those before have what is given
pub record RestOfValues (N : Nodes) (env : Environment) (f g : Notes) (vs : List Value) (ts : List CType) (xs : Writtens) (all : List CType) (given : List Initial) : Type 0 where
  pub rest : Writtens
  pub stand : StandValues N vs rest
  pub go_on : (h : Notes) (zs : List Initial) → Found g h AreInitials (members rest env ts) (Ok zs) → Found f h AreInitials (members xs env all) (Ok (given ++ zs))
  pub stop : (h : Notes) (e : TypeError) → Found g h AreInitials (members rest env ts) (Err e) → Found f h AreInitials (members xs env all) (Err e)

pub all_are_left : (N : Nodes) (env : Environment) (f : Notes) (vs : List Value) (xs : Writtens) (all : List CType) → StandValues N vs xs → RestOfValues N env f f vs all xs all []
all_are_left N env f vs xs all s = record { rest = xs; stand = s; go_on = λ h zs p. p; stop = λ h e p. p }

-- one more
one_more : (f g : Notes) (c : Checked Initials) (x : initials.Initial) (one : Initial) (zs : List Initial) → IsInitial x one → Found f g AreInitials c (Ok zs) → Found f g AreInitials (c >>= (λ ys. Fine (MoreInitials x ys))) (Ok (one ∷ zs))
one_more f g (Fine ys) x one zs h p = (ap (λ i. MoreInitials i (initials_in zs)) h ∙ ap (MoreInitials x) p.0, p.1)
one_more f g (Noted n ys) x one zs h p = (ap (λ i. MoreInitials i (initials_in zs)) h ∙ ap (MoreInitials x) p.0, p.1)
one_more f g (Broken from rule) x one zs h p = absurd p

module _ (N : Nodes) (env : Environment) (f g h : Notes) (v : Value) (vs : List Value) (t : CType) (ts : List CType) (xs : Writtens) (all : List CType) (given : List Initial) where
  pub one_less : (one : Initial) → RestOfValues N env f g (v ∷ vs) (t ∷ ts) xs all given → ((x : Written) → StandsValue N v x → Found g h IsInitial (initial x env t) (Ok one)) → RestOfValues N env f h vs ts xs all (given ++ one ∷ [])
  one_less one r p = by r.rest r.stand r.go_on r.stop
    where
      by : (rest : Writtens) → StandValues N (v ∷ vs) rest
          → ((k : Notes) (zs : List Initial) → Found g k AreInitials (members rest env (t ∷ ts)) (Ok zs) → Found f k AreInitials (members xs env all) (Ok (given ++ zs)))
          → ((k : Notes) (e : TypeError) → Found g k AreInitials (members rest env (t ∷ ts)) (Err e) → Found f k AreInitials (members xs env all) (Err e))
          → RestOfValues N env f h vs ts xs all (given ++ one ∷ [])
      by NoValues s go stop = absurd cc
      by (MoreValues y ys) (w, ws, e, s, u) go stop =
          let first : StandsValue N v y = (let same : w ≡ v = cc in subst (λ z. StandsValue N z y) same s) in
          let others : StandValues N vs ys = (let same : ws ≡ vs = cc in subst (λ z. StandValues N z ys) same u) in
          record {
            rest = ys;
            stand = others;
            go_on = λ k zs q. subst (λ l. Found f k AreInitials (members xs env all) (Ok l)) (sym (append_assoc given (one ∷ []) zs)) (go k (one ∷ zs)
                (gone_on g h k IsInitial AreInitials (initial y env t) (λ x. members ys env ts >>= (λ is. Fine (MoreInitials x is))) one (Ok (one ∷ zs)) (p y first) (λ x i. one_more h k (members ys env ts) x one zs i q)));
            stop = λ k e q. stop k e
                (gone_on g h k IsInitial AreInitials (initial y env t) (λ x. members ys env ts >>= (λ is. Fine (MoreInitials x is))) one (Err e) (p y first) (λ x i. stopped_in h k k AreInitials AreInitials (members ys env ts) (λ is. Fine (MoreInitials x is)) e q));
          }

  pub one_stops : (e : TypeError) → RestOfValues N env f g (v ∷ vs) (t ∷ ts) xs all given → ((x : Written) → StandsValue N v x → Found g h IsInitial (initial x env t) (Err e)) → Found f h AreInitials (members xs env all) (Err e)
  one_stops e r p = by r.rest r.stand r.stop
    where
      by : (rest : Writtens) → StandValues N (v ∷ vs) rest
          → ((k : Notes) (e : TypeError) → Found g k AreInitials (members rest env (t ∷ ts)) (Err e) → Found f k AreInitials (members xs env all) (Err e))
          → Found f h AreInitials (members xs env all) (Err e)
      by NoValues s stop = absurd cc
      by (MoreValues y ys) (w, ws, q, s, u) stop =
          let first : StandsValue N v y = (let same : w ≡ v = cc in subst (λ z. StandsValue N z y) same s) in
          stop h e (stopped_in g h h IsInitial AreInitials (initial y env t) (λ x. members ys env ts >>= (λ is. Fine (MoreInitials x is))) e (p y first))

-- a value too many
pub one_too_many : (N : Nodes) (env : Environment) (f g : Notes) (v : Value) (vs : List Value) (xs : Writtens) (all : List CType) (given : List Initial) (from : ℕ) → RestOfValues N env f g (v ∷ vs) [] xs all given
    → ((x : Written) → StandsValue N v x → from ≡ start_of_value x) → Found f g AreInitials (members xs env all) (Err (Rule from 16))
one_too_many N env f g v vs xs all given from r p = by r.rest r.stand r.stop
  where
    by : (rest : Writtens) → StandValues N (v ∷ vs) rest
        → ((k : Notes) (e : TypeError) → Found g k AreInitials (members rest env []) (Err e) → Found f k AreInitials (members xs env all) (Err e))
        → Found f g AreInitials (members xs env all) (Err (Rule from 16))
    by NoValues s stop = absurd cc
    by (MoreValues y ys) (w, ws, q, s, u) stop =
        let first : StandsValue N v y = (let same : w ≡ v = cc in subst (λ z. StandsValue N z y) same s) in
        stop g (Rule from 16) (p y first, refl)

-- none is left
pub none_left : (N : Nodes) (env : Environment) (f g : Notes) (ts : List CType) (xs : Writtens) (all : List CType) (given : List Initial) → RestOfValues N env f g [] ts xs all given → Found f g AreInitials (members xs env all) (Ok given)
none_left N env f g ts xs all given r = by r.rest r.stand r.go_on
  where
    by : (rest : Writtens) → StandValues N [] rest
        → ((k : Notes) (zs : List Initial) → Found g k AreInitials (members rest env ts) (Ok zs) → Found f k AreInitials (members xs env all) (Ok (given ++ zs)))
        → Found f g AreInitials (members xs env all) (Ok given)
    by NoValues s go = subst (λ l. Found f g AreInitials (members xs env all) (Ok l)) (append-nil given) (go g [] (refl, refl))
    by (MoreValues y ys) (w, ws, e, s, u) go = absurd cc

-- ---- the types that are left

pub type_here : (ts : List CType) (i : ℕ) (t : CType) → slice_get ts i ≡ Some t → drop i ts ≡ t ∷ drop (suc i) ts
type_here ts i t e =
    let lt = slice_get_within ts i t e in
    let same : get_or ts i t ≡ t = (let a = slice_get-get_or ts i t lt in cc) in
    drop-cons ts i t lt ∙ ap (λ x. x ∷ drop (suc i) ts) same

pub no_type_here : (ts : List CType) (i : ℕ) → slice_get ts i ≡ None → drop i ts ≡ []
no_type_here [] zero e = refl
no_type_here [] (suc i) e = refl
no_type_here (t ∷ ts) zero e = absurd cc
no_type_here (t ∷ ts) (suc i) e = no_type_here ts i e

-- ---- elements

-- an array's elements are of one type
pub elements_are : (xs : Writtens) (env : Environment) (n : ℕ) (t : CType) → elements xs env n t ≡ members xs env (replicate n t)
elements_are NoValues env n t = refl
elements_are (MoreValues x xs) env zero t = refl
elements_are (MoreValues x xs) env (suc n) t =
    same_steps (initial x env t) (λ i. elements xs env n t >>= (λ is. Fine (MoreInitials i is))) (λ i. members xs env (replicate n t) >>= (λ is. Fine (MoreInitials i is))) (λ i. ap (λ c. c >>= (λ is. Fine (MoreInitials i is))) (elements_are xs env n t))

pub element_at : (n i : ℕ) (t : CType) → i < n → slice_get (replicate n t) i ≡ Some t
element_at zero i t lt = absurd (omega arith)
element_at (suc n) zero t lt = refl
element_at (suc n) (suc i) t lt = element_at n i t (omega arith)

pub no_element_at : (n i : ℕ) (t : CType) → n ≤ i → slice_get (replicate n t) i ≡ None
no_element_at zero i t le = refl
no_element_at (suc n) zero t le = absurd (omega arith)
no_element_at (suc n) (suc i) t le = no_element_at n i t (omega arith)

-- ---- vectors

pub as_vector : (f g : Notes) (c : Checked Initials) (v : Vec Initial Global) → Found f g AreInitials c (Ok v.items) → Found f g (λ ys w. AreInitials ys w.items) c (Ok v)
as_vector f g (Fine ys) v p = p
as_vector f g (Noted n ys) v p = p
as_vector f g (Broken from rule) v p = absurd p

pub error_as_vector : (f g : Notes) (c : Checked Initials) (e : TypeError) → Found f g AreInitials c (Err e) → Found {B = Vec Initial Global} f g (λ ys w. AreInitials ys w.items) c (Err e)
error_as_vector f g c Memory p = tt
error_as_vector f g (Fine ys) (Rule a b) p = absurd p
error_as_vector f g (Noted n ys) (Rule a b) p = absurd p
error_as_vector f g (Broken from rule) (Rule a b) p = p
