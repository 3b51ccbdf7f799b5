use Rattle.std.proofs.Common.{ℕ, ℤ, List, Vec, Global, map, subst, sym}
use Rattle.vf_reader.specs.Fonts.{IsVfFile}
use Rattle.sample_maker.specs.VfFile.{IsFileOf, VfPacket}
use Rattle.sample_maker.proofs.VfRead.{file_made, gives_font, is_file}
use Rattle.sample_maker.proofs.vf.vf_bytes.Goals as goal

seen : List (ℕ × ℤ × Vec ℕ Global) → List VfPacket
seen packets = map (λ p. (p.0, p.1, p.2.items)) packets

pub returns-clause-bytes : goal.returns-clause-bytes
unfolding seen
returns-clause-bytes c =
    file_made c.args.locals.now (seen c.args.packets.now) _ _ _ _ _ c.new-out.ensures.items c.in_ok-extend_from_slice.ensures.items c.in_ok-append_locals.ensures.appended c.in_ok-append_packets.ensures c.in_ok-append_closing.ensures

pub returns-clause-read_again : goal.returns-clause-read_again
unfolding seen
returns-clause-read_again c = λ items is.
    gives_font c.args.locals.now (seen c.args.packets.now) c.requires.locals c.in_ok-append_locals.ensures.spelled c.requires.numbers c.requires.packets c.requires.codes items
    (subst (λ (bytes : List ℕ). IsVfFile bytes items) (returns-clause-bytes c) is)

pub returns-clause-file : goal.returns-clause-file
unfolding seen
returns-clause-file c = λ sizes commands.
    subst (λ (bytes : List ℕ). IsFileOf c.args.locals.now (seen c.args.packets.now) bytes) (sym (returns-clause-bytes c))
    (is_file c.args.locals.now (seen c.args.packets.now) c.requires.locals c.in_ok-append_locals.ensures.spelled c.requires.numbers c.requires.packets c.requires.codes sizes commands)
