-- The line of each ending, written out.
use Rattle.std.specs.Prelude.{◌≡◌, ℕ, [], codes, negsuc}
use Rattle.drift_rules.specs.declared.faults.PenFault.TheVariants as pen
use Rattle.dvi_commands.specs.declared.command.CommandFault.TheVariants as command
use Rattle.page_index.specs.declared.faults.DocFault.TheVariants as doc
use Rattle.page_index.specs.declared.faults.PostField.TheVariants as field
use Rattle.vf_expand.specs.Faults.{PageFaultValue}
use Rattle.vf_expand.specs.Faults as page
use Rattle.dvi_run.specs.Endings.{EndingValue, Written, Usage, Document, Page, Source, Input, Output, Notes, Memory}
use Rattle.dvi_run.specs.Lines.{line_of}

-- a page counted from 1, its fault, and the byte where that stands
abbrev pub failing : ℕ → PageFaultValue → ℕ → EndingValue
failing number fault at = Page (record { page = number; fault = fault; at = at })

-- a good end has no line, nor has one at which the notes failed
abbrev pub GoodEndsAreSilent : Type 0
GoodEndsAreSilent = (line_of Written ≡ []) × (line_of Notes ≡ [])

abbrev pub ShortLines : Type 0
ShortLines =
    (line_of Usage ≡ codes "dvipbm: usage\n")
    × (line_of Input ≡ codes "dvipbm: input failed\n")
    × (line_of Memory ≡ codes "dvipbm: out of memory\n")

abbrev pub PageLines : Type 0
PageLines =
    (line_of (Output 12) ≡ codes "dvipbm: page 12: output failed\n")
    × (line_of (Source 7) ≡ codes "dvipbm: page 7: font source failed\n")
    × (line_of (failing 1000000 (page.Pen pen.StackDeep) 12345)
    ≡ codes "dvipbm: page 1000000 at 12345: stack deep\n")
    × (line_of (failing 2 page.TooLong 16777295)
    ≡ codes "dvipbm: page 2 at 16777295: too long\n")

abbrev pub DocumentLines : Type 0
DocumentLines =
    (line_of (Document (doc.Command command.Short 7))
    ≡ codes "dvipbm: document: command short at 7\n")
    × (line_of (Document (doc.Command (command.Misplaced 140) 15))
    ≡ codes "dvipbm: document: command misplaced 140 at 15\n")
    × (line_of (Document (doc.Postamble field.Mag 2000000))
    ≡ codes "dvipbm: document: postamble mag at 2000000\n")
    × (line_of (Document (doc.FontClash (negsuc 2147483647) 3))
    ≡ codes "dvipbm: document: font clash -2147483648 at 3\n")
    × (line_of (Document (doc.TooManyPages 46000015))
    ≡ codes "dvipbm: document: too many pages at 46000015\n")
