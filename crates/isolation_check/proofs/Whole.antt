-- All places of a cut, as they are computed.
use Rattle.std.proofs.Common.{◌≡◌, ℕ, zero, suc, ◌+◌, Bool, true, List, [], ◌∷◌, length, map, refl, sym, ap, ◌∙◌, subst, arith}
use Rattle.std.specs.Prelude.{◌↔◌, Some, slice_get}
use Rattle.std.proofs.lemmas.List.{length-map}
use Rattle.marks.specs.declared.side.Side.TheVariants as sides
use Rattle.memory_map.specs.declared.placed.Place.{Place}
use Rattle.memory_map.specs.declared.placed.Placed.{Placed}
use Rattle.c_builtins.specs.Table.{first_source_function}
use Rattle.c_types_rules.specs.Sources as sources
use Rattle.c_types_rules.specs.Sources.{Program}
use Rattle.c_types_program.specs.declared.text.TextLiteral.{TextLiteral}
use Rattle.c_types_program.specs.Declarations.{Declared, function_in, global_in}
use Rattle.c_types_program.specs.Programs.{program_in, texts_in}
use Rattle.cut_graph_rules.specs.Findings.{Cut, May}
use Rattle.cut_graph_rules.specs.Sources.{Mentioned}
use Rattle.isolation_check_findings.specs.Given.{IsCut}
use Rattle.isolation_check_images.specs.Given.{IsSource}
use Rattle.isolation_check_laws.specs.Fits.{FitsAreas}
use Rattle.isolation_check_rows.specs.Rows.{flag}
use Rattle.isolation_check_rules.specs.declared.area.Area.{Area}
use Rattle.isolation_check_rules.specs.Addresses.{addresses_from, first_ends}
use Rattle.isolation_check_rules.specs.Areas.{AreAreas}
use Rattle.isolation_check_rules.specs.Places.{AreFlags, IsPlaced, addresses_of, global_extents, inits, source_of}
use Rattle.isolation_check.specs.Flags.{HasAllFlags}
use Rattle.isolation_check.specs.Literals.{literals_in, strings_in}
use Rattle.isolation_check.specs.Objects.{AreObjects, extents_of}

-- the same objects
pub moved : (p : Declared) (areas : List Area) (strings more globals others : List Place) → strings ≡ more → globals ≡ others → AreObjects p areas strings globals → AreObjects p areas more others
moved p areas strings more globals others es eg o = subst (λ (gs : List Place). AreObjects p areas more gs) eg (subst (λ (ss : List Place). AreObjects p areas ss globals) es o)

texts_are : (texts : List TextLiteral) → map (λ l. l.from) (literals_in texts) ≡ texts_in texts
texts_are [] = refl
texts_are (t ∷ ts) = ap (λ (ns : List ℕ). t.from ∷ ns) (texts_are ts)

flag_there : (flags : List Bool) (f : ℕ) (b : Bool) → slice_get flags f ≡ Some b → flag flags f ≡ b
flag_there [] f b e = cc
flag_there (x ∷ flags) zero b e = cc
flag_there (x ∷ flags) (suc f) b e = flag_there flags f b e

module _ (p : Declared) (n : Mentioned) (aboves belows faces : List Bool) (c : Cut) (k : IsCut p n aboves belows faces c) where
  extents_same : extents_of p ≡ global_extents c.program
  extents_same = ap global_extents k.program

  -- strings and globals fit in their areas
  pub fits_here : FitsAreas (program_in p []) (strings_in p.texts) → FitsAreas c.program (strings_in p.texts)
  fits_here h = subst (λ (q : Program). FitsAreas q (strings_in p.texts)) k.program (record { short = h.short; small = h.small; aligned = h.aligned })

  many : length c.program.functions ≡ length p.functions
  many = sym (ap (λ (q : Program). length q.functions) k.program) ∙ length-map p.functions (function_in p.table)

  pub globals_many : length p.globals ≡ length c.program.globals
  globals_many = sym (length-map p.globals (global_in p.table)) ∙ ap (λ (q : Program). length q.globals) k.program

  flags_are : (P : ℕ → Type 0) (flags : List Bool) → length flags ≡ first_source_function + length p.functions → ((f : ℕ) → (flag flags f ≡ true) ↔ P f) → AreFlags c.program P flags
  flags_are P flags all iff = record {
    each = omega (arith, all, many);
    exact = λ f b e. (λ h. (iff f).0 (flag_there flags f b e ∙ h), λ q. sym (flag_there flags f b e) ∙ (iff f).1 q);
  }

  face_is : (f : ℕ) → (flag faces f ≡ true) ↔ (c.face f ≡ true)
  face_is f = (λ h. sym (k.face f) ∙ h, λ h. k.face f ∙ h)

  pub whole : (areas : List Area) (q : Placed) → AreAreas c areas → AreObjects p areas q.strings q.globals → HasAllFlags p aboves belows faces
      → q.replay ≡ aboves → q.system ≡ belows → q.faces ≡ faces → IsPlaced c (literals_in p.texts) q
  whole areas q lie o all er es ef =
      let s = source_of c.program (literals_in p.texts) q in
      let is : IsSource p (addresses_of q.strings) (addresses_of q.globals) s = record {
        structs = sym (ap (λ (x : Program). x.structs) k.program);
        texts = texts_are p.texts;
        strings = refl;
        globals = refl;
      } in
      record {
        areas = areas;
        lie = lie;
        strings_at = o.strings_at;
        strings = o.string_bytes;
        globals_at = o.globals_at ∙ ap (addresses_from (first_ends (strings_in p.texts)) areas) extents_same;
        globals = o.global_bytes s is
            ∙ (ap (λ (gs : List sources.Global). inits s gs (extents_of p)) (ap (λ (x : Program). x.globals) k.program)
            ∙ ap (inits s c.program.globals) extents_same);
        replay = subst (AreFlags c.program (May c sides.Replay)) (sym er) (flags_are (May c sides.Replay) aboves all.each_above k.replay);
        system = subst (AreFlags c.program (May c sides.System)) (sym es) (flags_are (May c sides.System) belows all.each_below k.system);
        faces = subst (AreFlags c.program (λ f. c.face f ≡ true)) (sym ef) (flags_are (λ f. c.face f ≡ true) faces all.each_face face_is);
      }
