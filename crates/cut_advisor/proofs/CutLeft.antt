-- The declarations that are left decide which cuts a source names.
use Rattle.std.proofs.Common.{◌≡◌, ◌⊎◌, inl, inr, ℕ, zero, suc, ◌+◌, ◌<◌, ◌≤◌, Bool, true, false, List, [], ◌∷◌, length, get_or, drop, refl, sym, ap, ◌∙◌, subst, add-one, drop-cons, length-append, arith}
use Rattle.std.proofs.Math.ListN.{drop_of_length-le}
use Rattle.c_syntax.specs.declared.id.DeclId.{DeclId}
use Rattle.c_syntax.specs.Nodes.{Nodes}
use Rattle.c_syntax.specs.Stands.{Holds, StandDecls, StandsDecl}
use Rattle.c_syntax.specs.Syntax.{Decl, Decls, NoDecls, MoreDecls}
use Rattle.c_types_rules.specs.Checked.{Checked, Fine, Noted, Broken, Notes as Noting, noting, ◌>>=◌}
use Rattle.c_types_rules.specs.Environment.{Environment}
use Rattle.c_types_rules.specs.Sources.{Program, at_file, tags_of}
use Rattle.annot_reader_rules.specs.Cuts.{all_noted, annotations, noted}
use Rattle.annot_reader_rules.specs.Notes.{Annotated}
use Rattle.annot_reader_words.specs.Shown.{IsDecl}
use Rattle.annot_reader.proofs.FunctionTypes.{AreFunctionTypes}
use Rattle.cut_advisor.specs.CutNames.{AreCuts, cuts_of, with_names}
use Rattle.cut_advisor.specs.CutNodes.{declares_next}
use Rattle.cut_advisor.specs.CutPuts.{Puts, PutsIf, decl_names}
use Rattle.cut_advisor.proofs.CutLists.{with_cuts-append}
use Rattle.cut_advisor.proofs.CutSteps.{Adds, one_declared}
use Rattle.cut_advisor.proofs.CutWords.{Gives}

abbrev Names : Type 0
Names = List (List ℕ)

noting_cuts : (n : Noting) (c : Checked Annotated) (ns : Names) → AreCuts c ns → AreCuts (noting n c) ns
noting_cuts n (Fine a) ns h = h
noting_cuts n (Noted m a) ns h = h
noting_cuts n (Broken f r) ns h = tt

-- nothing is said of the whole, where a rule is broken in it
abbrev Unsaid : Checked Annotated → Type 0
Unsaid c = (ns : Names) → AreCuts c ns

module _ (N : Nodes) (env : Environment) (p : Program) (types : AreFunctionTypes p.functions) (c : Checked Annotated) where
  -- those that are left decide, after so many functions and these names
  pub record Decide (is : List DeclId) (count : ℕ) (names : Names) : Type 0 where
    pub rest : Decls
    pub so_far : Annotated
    pub stand : StandDecls N is rest
    pub decide : (ns : Names) → AreCuts (all_noted env p rest so_far) ns → AreCuts c ns
    pub names_are : names ≡ cuts_of so_far
    pub count_is : count ≡ length so_far.functions

  abbrev pub Left : List DeclId → (count : ℕ) → Names → Type 0
  Left is count names = Unsaid c ⊎ Decide is count names

  -- what one declaration adds is what is put
  added : (q : Bool) (d : Decl) (a b : Annotated) (count more : ℕ) (old new : Names) → Adds q d a b → PutsIf q d count old more new → count ≡ length a.functions → old ≡ cuts_of a → (more ≡ length b.functions) × (new ≡ cuts_of b)
  added true d a b count more old new (n, e, cs) (m, s) k o = (
    m ∙ (ap (λ x. x + 1) k ∙ sym (ap length e ∙ length-append a.functions (n ∷ []))),
    s ∙ (ap (λ l. with_names l (decl_names d)) o ∙ (ap (with_names (cuts_of a)) (sym cs) ∙ (sym (with_cuts-append [] a.functions n) ∙ ap (λ fs. cuts_of (record b { functions = fs })) (sym e)))),
  )
  added false d a b count more old new e (m, s) k o = (m ∙ (k ∙ ap length (sym e)), s ∙ (o ∙ ap (λ fs. cuts_of (record b { functions = fs })) (sym e)))

  after : (d : Decl) (ds : Decls) (is : List DeclId) (a : Annotated) (count more : ℕ) (old new : Names) → StandDecls N is ds → ((ns : Names) → AreCuts (noted env p d a >>= all_noted env p ds) ns → AreCuts c ns) → count ≡ length a.functions → old ≡ cuts_of a → Puts p d count old more new
      → Left is more new
  after d ds is a count more old new stand decide k o put = by (noted env p d a) (one_declared env p d a types) decide
    where
      put_here : PutsIf (declares_next p (length a.functions) d) d count old more new
      put_here = subst (λ n. PutsIf (declares_next p n d) d count old more new) k put

      by : (x : Checked Annotated) → Gives (Adds (declares_next p (length a.functions) d) d a) x → ((ns : Names) → AreCuts (x >>= all_noted env p ds) ns → AreCuts c ns) → Left is more new
      by (Fine b) h f = let e = added _ d a b count more old new h put_here k o in inr (record { rest = ds; so_far = b; stand = stand; decide = f; names_are = e.1; count_is = e.0 })
      by (Noted n b) h f =
          let e = added _ d a b count more old new h put_here k o in
          inr (record { rest = ds; so_far = b; stand = stand; decide = λ ns g. f ns (noting_cuts n (all_noted env p ds b) ns g); names_are = e.1; count_is = e.0 })
      by (Broken x r) h f = inl (λ ns. f ns tt)

  first : (i : DeclId) (is : List DeclId) (count more : ℕ) (old new : Names) → Decide (i ∷ is) count old → ((d : Decl) → StandsDecl N i d → Puts p d count old more new) → Left is more new
  first i is count more old new l put = by l.rest l.stand l.decide
    where
      by : (rest : Decls) → StandDecls N (i ∷ is) rest → ((ns : Names) → AreCuts (all_noted env p rest l.so_far) ns → AreCuts c ns) → Left is more new
      by NoDecls s f = absurd cc
      by (MoreDecls d ds) (j, js, e, s, t) f =
          let one : j ≡ i = cc in
          let others : js ≡ is = cc in
          after d ds is l.so_far count more old new (subst (λ zs. StandDecls N zs ds) others t) f l.count_is l.names_are (put d (subst (λ z. StandsDecl N z d) one s))

  pub next : (is : List DeclId) (k : ℕ) (z : DeclId) (count more : ℕ) (old new : Names) → k < length is → Left (drop k is) count old → ((d : Decl) → StandsDecl N (get_or is k z) d → Puts p d count old more new) → Left (drop (k + 1) is) more new
  next is k z count more old new lt (inl u) put = inl u
  next is k z count more old new lt (inr l) put =
      let one : drop k is ≡ get_or is k z ∷ drop (k + 1) is = rw add-one (drop-cons is k z lt) in
      first (get_or is k z) (drop (k + 1) is) count more old new (subst (λ js. Decide js count old) one l) put

  last : (rest : Decls) (a : Annotated) (count : ℕ) (names : Names) → StandDecls N [] rest → ((ns : Names) → AreCuts (all_noted env p rest a) ns → AreCuts c ns) → names ≡ cuts_of a → AreCuts c names
  last NoDecls a count names s f e = f names e
  last (MoreDecls d ds) a count names (j, js, e, s, t) f g = absurd cc

  pub at_end : (is : List DeclId) (k count : ℕ) (names : Names) → length is ≤ k → Left (drop k is) count names → AreCuts c names
  at_end is k count names le (inl u) = u names
  at_end is k count names le (inr l) = last l.rest l.so_far count names (subst (λ js. StandDecls N js l.rest) (drop_of_length-le is le) l.stand) l.decide l.names_are

-- each of the declarations of a source is one
pub one_of : (N : Nodes) (is : List DeclId) (ds : Decls) (k : ℕ) (z : DeclId) → StandDecls N is ds → k < length is → IsDecl N (get_or is k z)
one_of N [] ds k z h l = absurd (omega arith)
one_of N (i ∷ is) NoDecls k z h l = absurd cc
one_of N (i ∷ is) (MoreDecls x xs) zero z (j, js, e, p, q) l = let one : j ≡ i = cc in (x, subst (λ y. StandsDecl N y x) one p)
one_of N (i ∷ is) (MoreDecls x xs) (suc k) z (j, js, e, p, q) l = let rest : js ≡ is = cc in one_of N is xs k z (subst (λ zs. StandDecls N zs xs) rest q) (omega arith)

-- before the first declaration
pub begin : (N : Nodes) (ds : Decls) (p : Program) (types : AreFunctionTypes p.functions) (is : List DeclId) (names : Names) → is ≡ N.tops → Holds N ds → names ≡ [] → Left N (at_file (tags_of ds) p) p types (annotations ds p) is 0 names
begin N ds p types is names same holds none = inr (record {
  rest = ds;
  so_far = record { functions = []; guards = [] };
  stand = subst (λ js. StandDecls N js ds) (sym same) holds;
  decide = λ ns h. h;
  names_are = none;
  count_is = refl;
})
