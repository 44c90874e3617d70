use Rattle.std.proofs.Common.{◌∙◌, ap}
use Rattle.std.specs.Prelude.{is_none}
use Rattle.std.proofs.lemmas.Bool.{and_parts, leb-true}
use Rattle.marks.specs.Places.{builtin_count}
use Rattle.annot_reader.specs.Interfaces.{declared_at}
use Rattle.call_operations.specs.Said.{call_says}
use Rattle.call_operations_laws.proofs.Fitting.{inside, of_builtin, of_other, of_source, outside}
use Rattle.call_operations_laws.proofs.fits.generated_stubs_fit.Goals as goal

pub returns : goal.returns
returns c = λ purpose fs i code s are has keep. record {
  sources = λ f info source at face.
      let (g, there, body) = has.listed f info source at in
      (call_says (declared_at i f), keep f info source at, of_source purpose fs i s are f g source there face);
  builtins = of_builtin purpose fs i s are;
  others = of_other purpose fs i s are;
  outside = λ f info o.
      let (g, there, body) = has.listed f info o.source o.known in (
        call_says (declared_at i f),
        keep f info o.source o.known,
        outside purpose fs i s are f g o.source there (body ∙ ap is_none o.external) o.outside,
      );
  none_below = λ f never.
      inside purpose fs i s are f (λ external face.
      let (info, at, body) = has.each f external in
      never info (record {
        source = leb-true builtin_count f (and_parts _ _ external).0;
        known = at;
        external = body;
        outside = face;
      }));
}
