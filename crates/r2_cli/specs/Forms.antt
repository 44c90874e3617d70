-- The commands of the code as forms of the command line.
use Rattle.r2_cli.specs.declared.forms.Command.{Command}
use Rattle.r2_cli.specs.declared.forms.Command.TheVariants.{Help, Version, Order, Check, Stubs, Generate, Record}
use Rattle.r2_cli.specs.Words.{Form, help, version, order, check, stubs, gen, recording}

abbrev pub form_of : Command → Form
form_of Help = help
form_of Version = version
form_of (Order log) = order log.now
form_of (Check source cut) = check source.now cut.now
form_of (Stubs source cut) = stubs source.now cut.now
form_of (Generate rounds source system) = gen rounds source.now system.now
form_of (Record source cut system log report) =
    recording source.now cut.now system.now log.now report.now
