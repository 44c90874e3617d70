-- The code of an image in its place.
use Rattle.c_code.specs.Machine.{Laid}
use Rattle.c_machine.specs.Positions.{laid}
use Rattle.test_marks.specs.declared.image.Image.{Image}

abbrev pub laid_in : Image → Laid
laid_in i = laid i.code i.placed
