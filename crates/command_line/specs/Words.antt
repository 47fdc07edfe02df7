-- The words of the command line.
use Rattle.std.specs.declared.io.ErrorKind.{ErrorKind}
use Rattle.std.specs.declared.io.ErrorKind.TheVariants as kind
use Rattle.command_line.specs.declared.status.Status.{Status}
use Rattle.command_line.specs.declared.status.Status.TheVariants as status

-- The status where the words could not be read: memory was refused, or one of them is no text.
abbrev pub refused_words : ErrorKind → Status
refused_words kind.OutOfMemory = status.OutOfMemory
refused_words _ = status.Usage
