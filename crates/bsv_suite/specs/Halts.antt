-- Why a list is not read to its end, where a file could not be read.
use Rattle.bsv_io.specs.declared.unread.Unread.{Unread}
use Rattle.bsv_io.specs.declared.unread.Unread.TheVariants as unread
use Rattle.bsv_suite.specs.declared.halt.ListHalt.{ListHalt}
use Rattle.bsv_suite.specs.declared.halt.ListHalt.TheVariants as list_halt

abbrev pub list_halt_of : Unread → ListHalt
list_halt_of unread.Failed = list_halt.Unreadable
list_halt_of unread.OutOfMemory = list_halt.OutOfMemory
