use Rattle.std.proofs.Common.{List, ◌/◌, ℕ, ap, get_or}
use Rattle.std.proofs.lemmas.Bool.Decides.{Decides-eqb}
use Rattle.pk_packer.proofs.Pixels.{bytes_same}
use Rattle.pk_packer.proofs.rows.have_same_byte.Goals as goal

pub returns : goal.returns
returns c = λ e.
    (Decides-eqb (get_or c.row-upper.result.now (c.args.x / 8) 0) (get_or c.row-lower.result.now (c.args.x / 8) 0)).1
    (ap (λ (l : List ℕ). get_or l (c.args.x / 8) 0)
    (bytes_same c.args.bits.now c.args.y c.args.z c.row-upper.result.now c.row-lower.result.now c.requires.upper c.requires.lower c.row-upper.ensures.dots c.row-lower.ensures.dots c.row-upper.ensures.text c.row-lower.ensures.text e))
