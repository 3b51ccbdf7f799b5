use Rattle.pk_packer.proofs.PlainLaws.{plain_bitmaps_are_packed, shaped_rasters_are_their_pixels}
use Rattle.pk_packer.proofs.laws.plain_bitmaps.Goals as goal

pub returns-clause-seen : goal.returns-clause-seen
returns-clause-seen c = shaped_rasters_are_their_pixels

pub returns-clause-packed : goal.returns-clause-packed
returns-clause-packed c = plain_bitmaps_are_packed
