-- One flag more.
use Rattle.std.proofs.Common.{◌≡◌, ℕ, zero, suc, ◌+◌, ◌<◌, Bool, List, [], ◌∷◌, ◌++◌, Option, Some, None, Bor, length, refl, sym, ap, ◌∙◌, arith}
use Rattle.std.specs.Prelude.{is_some}
use Rattle.std.specs.Option.{option_copied}
use Rattle.annot_reader.specs.Interface.{Interface}
use Rattle.annot_reader.specs.Interfaces.{annots_at}
use Rattle.cut_graph_paths.specs.Graphs.{flag}
use Rattle.cut_graph.specs.Faces.{AreFaces}

pub copied_some : {A : Type 0} (o : Option (Bor A)) → is_some (option_copied o) ≡ is_some o
copied_some None = refl
copied_some (Some x) = refl

pub none_yet : (i : Interface) → AreFaces i 0 []
none_yet i = record { size = refl; faces = λ f lt. absurd (omega arith) }

length_push : (bs : List Bool) (b : Bool) → length (bs ++ b ∷ []) ≡ length bs + 1
length_push [] b = refl
length_push (x ∷ bs) b = let h = length_push bs b in omega arith

pushed : (bs : List Bool) (b : Bool) (test : ℕ → Bool) → ((f : ℕ) → f < length bs → flag bs f ≡ test f) → b ≡ test (length bs) → (f : ℕ) → f < length bs + 1 → flag (bs ++ b ∷ []) f ≡ test f
pushed [] b test h e zero lt = e
pushed [] b test h e (suc f) lt = absurd (omega arith)
pushed (x ∷ bs) b test h e zero lt = h zero (omega arith)
pushed (x ∷ bs) b test h e (suc f) lt = pushed bs b (λ k. test (suc k)) (λ k small. h (suc k) (omega arith)) e f (omega arith)

pub one_more : (i : Interface) (n : ℕ) (bs : List Bool) (b : Bool) → AreFaces i n bs → b ≡ is_some (annots_at i n) → AreFaces i (n + 1) (bs ++ b ∷ [])
one_more i n bs b h e = record {
  size = length_push bs b ∙ ap (λ (k : ℕ). k + 1) h.size;
  faces = λ f lt.
      pushed bs b (λ k. is_some (annots_at i k)) (λ k small. h.faces k (omega (arith, h.size))) (e ∙ ap (λ k. is_some (annots_at i k)) (sym h.size)) f (omega (arith, h.size));
}
