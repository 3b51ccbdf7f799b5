use Rattle.gf_reader.proofs.OutsidePixels.{outside_by_a_pixel}
use Rattle.gf_reader.proofs.PaintedPixels.{black_where_painted}
use Rattle.gf_reader.proofs.laws.paints.Goals as goal

pub returns : goal.returns
returns c = record { black = black_where_painted; outside = outside_by_a_pixel }
