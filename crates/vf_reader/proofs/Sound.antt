-- A packet whose commands were judged.
use Rattle.std.proofs.Common.{◌≡◌, ◌∙◌, ◌-◌, true, ℕ, List, take, drop, length, ap, subst, sym}
use Rattle.std.proofs.lemmas.Bool.{true≢false}
use Rattle.std.proofs.lemmas.List.{take_rest}
use Rattle.dvi_commands.specs.Spelling.{DviCommand}
use Rattle.vf_reader.specs.Items.{code_of, head_size, is_packet, opcode, program_of}
use Rattle.vf_reader.specs.Programs.{AreCommandsOf}
use Rattle.vf_reader.specs.Fonts.{IsItemSound}

pub packet_sound : (before : List (List ℕ)) (packet : List ℕ) (code start : ℕ) → is_packet packet ≡ true → code ≡ code_of packet → start ≡ head_size (opcode packet)
    → (commands : List DviCommand) × AreCommandsOf code (take (length packet - start) (drop start packet)) commands → IsItemSound before packet
packet_sound before packet code start kind code_is start_is are = record {
  packet = λ _.
      let whole : take (length packet - start) (drop start packet) ≡ program_of packet = take_rest packet start ∙ ap (λ (n : ℕ). drop n packet) start_is in
      (are.0, subst (λ (b : List ℕ). AreCommandsOf (code_of packet) b are.0) whole (subst (λ (k : ℕ). AreCommandsOf k (take (length packet - start) (drop start packet)) are.0) code_is are.1));
  local = λ other. absurd (true≢false (sym kind ∙ other));
}
