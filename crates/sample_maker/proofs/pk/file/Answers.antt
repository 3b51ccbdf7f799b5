use Rattle.std.proofs.Common.{ℕ, List, [], sym, subst}
use Rattle.pk_packets.specs.Fonts.{IsPkFile}
use Rattle.sample_maker.proofs.PkRead.{after, file_made, glyphs_again, is_file}
use Rattle.sample_maker.proofs.pk.file.Goals as goal

pub returns-clause-bytes : goal.returns-clause-bytes
returns-clause-bytes c =
    file_made c.args.coding c.args.glyphs.now _ _ _ _ c.new-out.ensures.items c.in_ok-extend_from_slice.ensures.items c.in_ok-append_packets.ensures.appended c.in_ok-append_closing.ensures

pub returns-clause-sound : goal.returns-clause-sound
returns-clause-sound c =
    let way = c.args.coding in
    let glyphs = c.args.glyphs.now in (
      after way [] glyphs,
      subst (λ (bytes : List ℕ). IsPkFile bytes (after way [] glyphs)) (sym (returns-clause-bytes c)) (is_file way glyphs c.in_ok-append_packets.ensures.measured c.requires.codes c.requires.few),
    )

pub returns-clause-read_again : goal.returns-clause-read_again
returns-clause-read_again c = λ items is.
    glyphs_again c.args.coding c.args.glyphs.now c.in_ok-append_packets.ensures.measured c.requires.codes c.requires.few items
    (subst (λ (bytes : List ℕ). IsPkFile bytes items) (returns-clause-bytes c) is)
