-- What is wrong with a font's files, in words.
use Rattle.std.specs.Prelude.{ℕ, List, ◌++◌, codes, decimal}
use Rattle.std.specs.Fmt.{signed_decimal}
use Rattle.tfm_reader.specs.declared.faults.TfmFault.{TfmFault}
use Rattle.tfm_reader.specs.declared.faults.TfmFault.TheVariants as tfm
use Rattle.pk_runs.specs.declared.faults.RunFault.{RunFault}
use Rattle.pk_runs.specs.declared.faults.RunFault.TheVariants as runs
use Rattle.pk_packets.specs.declared.faults.PkFault.{PkFault}
use Rattle.pk_packets.specs.declared.faults.PkFault.TheVariants as pk
use Rattle.gf_reader.specs.declared.faults.GfFault.{GfFault}
use Rattle.gf_reader.specs.declared.faults.GfFault.TheVariants as gf
use Rattle.font_decode.specs.declared.faults.FileKind.{FileKind}
use Rattle.font_decode.specs.declared.faults.FileKind.TheVariants as kind
use Rattle.font_decode.specs.declared.faults.FontFault.{FontFault}
use Rattle.font_decode.specs.declared.faults.FontFault.TheVariants as font
use Rattle.dvi_run.specs.VfTexts.{vf_text}

abbrev pub tfm_text : TfmFault → List ℕ
tfm_text tfm.Short = codes "short"
tfm_text tfm.Counts = codes "counts"
tfm_text (tfm.WidthIndex c) = codes "width index " ++ decimal c
tfm_text (tfm.WidthByte i) = codes "width byte " ++ decimal i
tfm_text tfm.WidthZero = codes "width zero"

abbrev pub raster_text : RunFault → List ℕ
raster_text runs.Short = codes "short"
raster_text runs.Overrun = codes "overrun"
raster_text (runs.SecondRepeat row) = codes "second repeat " ++ decimal row
raster_text runs.TooManyRows = codes "too many rows"

abbrev pub pk_text : PkFault → List ℕ
pk_text pk.Short = codes "short"
pk_text pk.Preamble = codes "preamble"
pk_text (pk.Undefined op) = codes "undefined " ++ decimal op
pk_text (pk.TooBig c) = codes "too big " ++ decimal c
pk_text (pk.Runs c fault) = codes "runs " ++ decimal c ++ codes " " ++ raster_text fault
pk_text pk.FontTooBig = codes "font too big"
pk_text (pk.Length c) = codes "length " ++ decimal c

abbrev pub gf_text : GfFault → List ℕ
gf_text gf.Short = codes "short"
gf_text gf.Preamble = codes "preamble"
gf_text (gf.Misplaced op) = codes "misplaced " ++ decimal op
gf_text (gf.TooBig c) = codes "too big " ++ signed_decimal c
gf_text (gf.Outside c) = codes "outside " ++ signed_decimal c
gf_text gf.FontTooBig = codes "font too big"

abbrev pub kind_text : FileKind → List ℕ
kind_text kind.Tfm = codes "tfm"
kind_text kind.Vf = codes "vf"
kind_text kind.Pk = codes "pk"
kind_text kind.Gf = codes "gf"

abbrev pub font_text : FontFault → List ℕ
font_text (font.Missing kind) = codes "missing " ++ kind_text kind
font_text (font.Tfm fault) = codes "tfm " ++ tfm_text fault
font_text (font.Vf fault) = codes "vf " ++ vf_text fault
font_text (font.Pk fault) = codes "pk " ++ pk_text fault
font_text (font.Gf fault) = codes "gf " ++ gf_text fault
font_text font.Name = codes "name"
font_text font.Size = codes "size"
font_text (font.TooLong kind) = codes "too long " ++ kind_text kind
