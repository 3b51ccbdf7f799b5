-- What is wrong with a VF file, in words.
use Rattle.std.specs.Prelude.{ℕ, List, ◌++◌, codes, decimal}
use Rattle.std.specs.Fmt.{signed_decimal}
use Rattle.vf_reader.specs.declared.faults.VfFault.{VfFault}
use Rattle.vf_reader.specs.declared.faults.VfFault.TheVariants as vf
use Rattle.dvi_run.specs.DocTexts.{command_text}

abbrev pub vf_text : VfFault → List ℕ
vf_text vf.Short = codes "short"
vf_text vf.Preamble = codes "preamble"
vf_text (vf.Misplaced op) = codes "misplaced " ++ decimal op
vf_text (vf.Packet c fault) = codes "packet " ++ decimal c ++ codes " " ++ command_text fault
vf_text (vf.Unbalanced c) = codes "unbalanced " ++ decimal c
vf_text (vf.LocalDef k) = codes "local font " ++ signed_decimal k
vf_text (vf.Dimension c) = codes "dimension " ++ decimal c
