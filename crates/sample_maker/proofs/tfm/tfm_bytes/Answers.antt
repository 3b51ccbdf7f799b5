use Rattle.std.proofs.Common.{◌≡◌, subst, sym}
use Rattle.tfm_reader.specs.Right.{IsTfm}
use Rattle.tfm_reader.specs.Tfm.{tfm_width}
use Rattle.sample_maker.specs.TfmFile.{width_given}
use Rattle.sample_maker.proofs.TfmRead.{appended, file_sound, widths_read}
use Rattle.sample_maker.proofs.tfm.tfm_bytes.Goals as goal

pub returns-clause-bytes : goal.returns-clause-bytes
returns-clause-bytes c =
    appended c.args.widths.now _ _ _ _ _ _ _ _ c.counts-counts.ensures.counts c.new-bytes.ensures.items c.in_ok-append_counts.ensures c.in_ok-extend_from_slice.ensures.items c.in_ok-append_indices.ensures c.in_ok-extend_from_slice-2.ensures.items c.in_ok-append_widths.ensures c.in_ok-extend_from_slice-3.ensures.items

pub returns-clause-sound : goal.returns-clause-sound
returns-clause-sound c =
    subst IsTfm (sym (returns-clause-bytes c)) (file_sound c.args.widths.now c.requires.some c.requires.few c.counts-counts.ensures.top c.requires.rising c.requires.fit)

pub returns-clause-read_again : goal.returns-clause-read_again
returns-clause-read_again c = λ code.
    subst (λ bytes. tfm_width bytes code ≡ width_given c.args.widths.now code) (sym (returns-clause-bytes c)) (widths_read c.args.widths.now c.requires.some c.requires.few c.counts-counts.ensures.top c.requires.rising c.requires.fit code)
