-- What files and sinks are after some writes, and after more of them.
use Rattle.std.proofs.Common.{◌≡◌, ◌≢◌, ◌≤◌, ◌++◌, ◌∷◌, [], ℕ, List, Bool, true, false, Option, Some, None, Ok, Err, length, take, sym, ◌∙◌, ap, refl, arith, subst, cond, append_assoc, append-nil, bytes_eq}
use Rattle.std.specs.List.{flat_map}
use Rattle.std.proofs.lemmas.List.Concat.{flat_map-append}
use Rattle.std.proofs.lemmas.Slice.Eq.{bytes_eq-Decides}
use Rattle.r2_base.specs.declared.fault.Fault.{Fault}
use Rattle.r2_base.specs.Seen.{Contents, Store, Stream, OnlyReads}
use Rattle.r2_base.specs.Sinks.{TellsGrowth}
use Rattle.r2_cli_outcome.specs.World.{World, Later, world}
use Rattle.r2_cli_outcome.specs.Outcome.{Target, Write, file, out, err}
use Rattle.r2_cli_outcome.specs.After.{After, Adds, held_after, held_after_one, for_out, for_err}

abbrev out_texts : List Write → List ℕ
out_texts ws = flat_map (λ w. for_out w.to w.text) ws

abbrev err_texts : List Write → List ℕ
err_texts ws = flat_map (λ w. for_err w.to w.text) ws

pub adds_none : (old : Option (List ℕ)) → Adds old old []
adds_none None = tt
adds_none (Some bytes) = ap (λ (w : List ℕ). Some w) (sym (append-nil bytes))

pub adds_then : (a b c : Option (List ℕ)) (x y : List ℕ) → Adds a b x → Adds b c y → Adds a c (x ++ y)
adds_then None b c x y p q = tt
adds_then (Some s) b c x y p q =
    let q2 : Adds (Some (s ++ x)) c y = subst (λ (o : Option (List ℕ)). Adds o c y) p q in
    q2 ∙ ap (λ (w : List ℕ). Some w) (append_assoc s x y)

held_then : (xs ys : List Write) (h : Contents) → held_after (xs ++ ys) h ≡ held_after ys (held_after xs h)
held_then [] ys h = refl
held_then (x ∷ xs) ys h = held_then xs ys (held_after_one x.to x.text h)

same_one : (t : Target) (text : List ℕ) (g h : Contents) → ((n : List ℕ) → g n ≡ h n) → (n : List ℕ) → held_after_one t text g n ≡ held_after_one t text h n
same_one (file name) text g h e n = ap (λ (o : Option (List ℕ)). cond (bytes_eq name n) (Some text) o) (e n)
same_one out text g h e n = e n
same_one err text g h e n = e n

same_after : (ws : List Write) (g h : Contents) → ((n : List ℕ) → g n ≡ h n) → (n : List ℕ) → held_after ws g n ≡ held_after ws h n
same_after [] g h e n = e n
same_after (w ∷ ws) g h e n = same_after ws (held_after_one w.to w.text g) (held_after_one w.to w.text h) (same_one w.to w.text g h e) n

pub after_none : (a : World) → After [] a a
after_none a = record { told = λ t. t; files = λ t n. refl; out = adds_none a.out.given; err = adds_none a.err.given }

pub after_reads : (a b : Store) (o e : Stream) → OnlyReads a b → After [] (world a o e) (world b o e)
after_reads a b o e r = record { told = r.told; files = r.same; out = adds_none o.given; err = adds_none e.given }

pub after_then : (xs ys : List Write) (a b c : World) → After xs a b → After ys b c → After (xs ++ ys) a c
after_then xs ys a b c p q = record {
  told = λ t. q.told (p.told t);
  files = λ t n. q.files (p.told t) n ∙ same_after ys b.files.holds (held_after xs a.files.holds) (p.files t) n ∙ sym (ap (λ (h : Contents). h n) (held_then xs ys a.files.holds));
  out = subst (λ (w : List ℕ). Adds a.out.given c.out.given w) (sym (flat_map-append (λ (w : Write). for_out w.to w.text) xs ys)) (adds_then a.out.given b.out.given c.out.given (out_texts xs) (out_texts ys) p.out q.out);
  err = subst (λ (w : List ℕ). Adds a.err.given c.err.given w) (sym (flat_map-append (λ (w : Write). for_err w.to w.text) xs ys)) (adds_then a.err.given b.err.given c.err.given (err_texts xs) (err_texts ys) p.err q.err);
}

pub later_then : (a b c : World) → Later a b → Later b c → Later a c
later_then a b c p q = record { reads = omega (arith, p.reads, q.reads); writes = omega (arith, p.writes, q.writes); out = omega (arith, p.out, q.out); err = omega (arith, p.err, q.err) }

-- what one name holds

pub differ : (name n : List ℕ) → bytes_eq name n ≡ false → name ≡ n → ⊥
differ name n e k = let t = (bytes_eq-Decides name n).1 k in cc

by_name : (b : Bool) (name n : List ℕ) (text : List ℕ) (g h : Contents) → bytes_eq name n ≡ b → g name ≡ Some text → (n ≢ name → g n ≡ h n) → g n ≡ cond b (Some text) (h n)
by_name true name n text g h e here others = ap g (sym ((bytes_eq-Decides name n).0 e)) ∙ here
by_name false name n text g h e here others = others (λ k. differ name n e (sym k))

-- the name holds the text, and no other name changed
pub holds_one : (name text : List ℕ) (g h : Contents) → g name ≡ Some text → ((n : List ℕ) → n ≢ name → g n ≡ h n) → (n : List ℕ) → g n ≡ held_after_one (file name) text h n
holds_one name text g h here others n = by_name (bytes_eq name n) name n text g h refl here (others n)

-- what a sink was given

pub adds_all : (old new : Option (List ℕ)) (text : List ℕ) → TellsGrowth {T = Unit {0}} old new (Ok tt) text → Adds old new text
adds_all None new text grown = tt
adds_all (Some old) None text grown = absurd grown
adds_all (Some old) (Some new) text grown = ap (λ (w : List ℕ). Some w) grown

pub adds_prefix : (old new : Option (List ℕ)) (fault : Fault) (text : List ℕ) → TellsGrowth {T = Unit {0}} old new (Err fault) text → (n : ℕ) × (n ≤ length text) × Adds old new (take n text)
adds_prefix None new fault text grown = (0, omega arith, tt)
adds_prefix (Some old) None fault text grown = absurd grown
adds_prefix (Some old) (Some new) fault text (n, le, e) = (n, le, ap (λ (w : List ℕ). Some w) e)
