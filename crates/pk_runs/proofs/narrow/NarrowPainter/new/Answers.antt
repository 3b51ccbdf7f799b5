use Rattle.std.proofs.Common.{◌+◌, ◌∙◌, Bool, false, ap, sym, arith}
use Rattle.packed_rows.specs.Bitmap.{Bitmap}
use Rattle.packed_rows.specs.Joined.{with_word}
use Rattle.pk_runs.specs.Narrow.{prefix}
use Rattle.pk_runs.specs.declared.painter.Painter.{Painter}
use Rattle.pk_runs.proofs.Kept.{kept_white, white_seen}
use Rattle.pk_runs.proofs.RowWords.{rekept, prefix_none}
use Rattle.pk_runs.proofs.narrow.NarrowPainter.new.Goals as goal

pub invariant_of-result : goal.invariant_of-result
invariant_of-result c = (rekept c.args.bits 0 c.word_of.result 0 0 (kept_white c.args.bits c.requires.narrow c.requires.white), λ i _ few. c.word_of.ensures i few ∙ sym (c.word_of.ensures 63 (omega arith)))

pub returns : goal.returns
returns c = ap (λ (b : Bool). painter (with_word c.args.bits (prefix c.word_of.result 0) 0 (0 + 1)) b) (c.word_of.ensures 63 (omega arith))
    ∙ ap make (prefix_none c.args.bits c.word_of.result 0 (0 + 1) c.requires.narrow ∙ white_seen c.args.bits 0 (0 + 1) c.requires.white)
  where
    make : Bitmap → Painter
    make b = record { bits = b; row = 0; column = 0; copies = 0; repeated = false; black = c.args.black }

    painter : Bitmap → Bool → Painter
    painter q b = record { bits = q; row = 0; column = 0; copies = 0; repeated = false; black = b }
