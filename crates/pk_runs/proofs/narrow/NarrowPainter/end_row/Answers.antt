use Rattle.std.proofs.Common.{◌≡◌, ◌+◌, ◌<◌, ◌∙◌, Bool, false, ap, sym, subst, arith}
use Rattle.packed_rows.specs.Bitmap.{Bitmap}
use Rattle.packed_rows.specs.Joined.{with_word}
use Rattle.packed_rows.specs.Stamped.{word_pixel}
use Rattle.pk_runs.specs.Narrow.{IsKept, prefix}
use Rattle.pk_runs.specs.declared.painter.Painter.{Painter}
use Rattle.pk_runs.proofs.Kept.{kept_ended, seen_ended}
use Rattle.pk_runs.proofs.RowWords.{prefix_none, joined_prefix, rekept, white_after}
use Rattle.pk_runs.proofs.narrow.NarrowPainter.end_row.Goals as goal

pub join_rows-requires-clause-white : goal.join_rows-requires-clause-white
join_rows-requires-clause-white c = white_after c.self.inside.word c.self.inside.column c.self.inside.bits.width c.prefix.result c.self.invariant.0.inside c.prefix.ensures

pub invariant_of-self : goal.invariant_of-self
invariant_of-self c =
    let b = c.self.inside.bits in
    let next = c.self.inside.row + 1 + c.self.inside.copies in
    let set : c.join_rows.new.self ≡ with_word b (prefix c.self.inside.word c.self.inside.column) c.self.inside.row next =
    c.join_rows.ensures ∙ joined_prefix b c.self.inside.word c.self.inside.column c.prefix.result c.self.inside.row next c.self.invariant.0.narrow
    (omega (arith, c.self.invariant.0.narrow, c.self.invariant.0.inside)) c.prefix.ensures in (
      rekept c.join_rows.new.self 0 c.word_of-self-inside.result next 0
          (subst (λ (q : Bitmap). IsKept q 0 next 0) (sym set)
          (kept_ended b (prefix c.self.inside.word c.self.inside.column) c.self.inside.row c.self.inside.column next (omega arith) c.self.invariant.0)),
      λ i _ few. c.word_of-self-inside.ensures i few ∙ sym (c.word_of-self-inside.ensures 63 (omega arith)),
    )

pub returns : goal.returns
returns c =
    let b = c.self.inside.bits in
    let next = c.self.inside.row + 1 + c.self.inside.copies in
    let set : c.join_rows.new.self ≡ with_word b (prefix c.self.inside.word c.self.inside.column) c.self.inside.row next =
    c.join_rows.ensures ∙ joined_prefix b c.self.inside.word c.self.inside.column c.prefix.result c.self.inside.row next c.self.invariant.0.narrow
    (omega (arith, c.self.invariant.0.narrow, c.self.invariant.0.inside)) c.prefix.ensures in
    let narrow : c.join_rows.new.self.width < 64 = subst (λ (q : Bitmap). q.width < 64) (sym set) c.self.invariant.0.narrow in
    ap (painter (with_word c.join_rows.new.self (prefix c.word_of-self-inside.result 0) next (next + 1))) (c.word_of-self-inside.ensures 63 (omega arith) ∙ c.last.ensures)
    ∙ ap make (prefix_none c.join_rows.new.self c.word_of-self-inside.result next (next + 1) narrow)
    ∙ seen_ended b c.join_rows.new.self (prefix c.self.inside.word c.self.inside.column) c.self.inside.row c.self.inside.column c.self.inside.copies c.self.inside.repeated (word_pixel c.self.inside.word 63)
    c.args.self.now set c.requires.low c.self.invariant.0 c.self.view_is
  where
    make : Bitmap → Painter
    make q = record { bits = q; row = c.self.inside.row + 1 + c.self.inside.copies; column = 0; copies = 0; repeated = false; black = (word_pixel c.self.inside.word 63) }

    painter : Bitmap → Bool → Painter
    painter q b = record { bits = q; row = c.self.inside.row + 1 + c.self.inside.copies; column = 0; copies = 0; repeated = false; black = b }
