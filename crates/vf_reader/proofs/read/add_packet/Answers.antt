use Rattle.vf_reader.proofs.Sound.{packet_sound}
use Rattle.vf_reader.proofs.Spans.{packet_put}
use Rattle.vf_reader.proofs.read.add_packet.Goals as goal

pub returns : goal.returns
returns c = record {
  added = λ bytes rest before here within spans. (
    packet_sound before c.args.packet.now c.head-code.result.0 c.head-code.result.1 c.requires.kind c.head-code.ensures.code c.head-code.ensures.size c.in_ok-judge_program.ensures.sound,
    packet_put bytes c.args.packet.now rest before c.args.packets.now c.put.new.self c.head-code.result.0 c.head-code.result.1 c.args.end c.requires.kind here
        c.requires.place within c.head-code.ensures.code c.head-code.ensures.size c.head-code.ensures.inside c.in_ok-put.ensures spans,
  );
}
