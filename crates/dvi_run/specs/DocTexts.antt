-- The faults of a document in words.
use Rattle.std.specs.Prelude.{ℕ, List, ◌++◌, codes, decimal}
use Rattle.std.specs.Fmt.{signed_decimal}
use Rattle.dvi_commands.specs.declared.command.CommandFault.{CommandFault}
use Rattle.dvi_commands.specs.declared.command.CommandFault.TheVariants as command
use Rattle.page_index.specs.declared.faults.DocFault.{DocFault}
use Rattle.page_index.specs.declared.faults.DocFault.TheVariants as doc
use Rattle.page_index.specs.declared.faults.PostField.{PostField}
use Rattle.page_index.specs.declared.faults.PostField.TheVariants as field

abbrev pub command_text : CommandFault → List ℕ
command_text command.Short = codes "short"
command_text (command.Undefined op) = codes "undefined " ++ decimal op
command_text (command.Misplaced op) = codes "misplaced " ++ decimal op
command_text command.NegativeLength = codes "negative length"

abbrev pub field_text : PostField → List ℕ
field_text field.Pointer = codes "pointer"
field_text field.Num = codes "num"
field_text field.Den = codes "den"
field_text field.Mag = codes "mag"
field_text field.Pages = codes "pages"

abbrev pub doc_text : DocFault → List ℕ
doc_text (doc.Truncated at) = codes "truncated"
doc_text (doc.Preamble at) = codes "preamble"
doc_text (doc.Command fault at) = codes "command " ++ command_text fault
doc_text (doc.BackPointer at) = codes "back pointer"
doc_text (doc.FontClash number at) = codes "font clash " ++ signed_decimal number
doc_text (doc.Postamble field at) = codes "postamble " ++ field_text field
doc_text (doc.Trailer at) = codes "trailer"
doc_text (doc.FontDef number at) = codes "font definition " ++ signed_decimal number
doc_text (doc.Scale at) = codes "scale"
doc_text (doc.TooManyPages at) = codes "too many pages"
doc_text (doc.TooLong at) = codes "too long"

-- the byte where the fault stands
abbrev pub doc_place : DocFault → ℕ
doc_place (doc.Truncated at) = at
doc_place (doc.Preamble at) = at
doc_place (doc.Command fault at) = at
doc_place (doc.BackPointer at) = at
doc_place (doc.FontClash number at) = at
doc_place (doc.Postamble field at) = at
doc_place (doc.Trailer at) = at
doc_place (doc.FontDef number at) = at
doc_place (doc.Scale at) = at
doc_place (doc.TooManyPages at) = at
doc_place (doc.TooLong at) = at
