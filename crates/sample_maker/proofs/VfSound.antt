-- The items of a made VF file have nothing wrong.
use Rattle.std.proofs.Common.{◌≡◌, ◌∙◌, ℕ, true, false, List, [], ◌∷◌, ◌++◌, length, None, Some, refl, sym, ap, subst, arith}
use Rattle.std.specs.Prelude.{nat_lt}
use Rattle.std.proofs.lemmas.Bool.{cond-false, le-ltb, lt-ltb}
use Rattle.vf_reader.specs.Items.{definition_of, is_packet, program_of}
use Rattle.vf_reader.specs.Preamble.{preamble_fault}
use Rattle.vf_reader.specs.Programs.{AreCommandsOf}
use Rattle.vf_reader.specs.Locals.{definition_fault, local_of, local_with, locals_of, with_local}
use Rattle.vf_reader.specs.Fonts.{IsItemSound}
use Rattle.vf_reader.specs.declared.faults.VfFault.TheVariants.{Short}
use Rattle.vf_reader.specs.declared.locals.LocalDef.{LocalDef}
use Rattle.sample_maker.specs.VfFile.{IsLocalSound, IsPacketSound, VfPacket, local_definition, local_item, packet_item, vf_preamble}
use Rattle.sample_maker.proofs.VfItems.{IsDefinitionOf, IsPacketOf}

pub preamble_right : (rest : List ℕ) → preamble_fault (vf_preamble ++ rest) ≡ None
preamble_right rest =
    let n = length (vf_preamble ++ rest) in
    cond-false (nat_lt n 1) (Some Short) _ (le-ltb n 1 (omega arith)) ∙ cond-false (nat_lt n 2) (Some Short) _ (le-ltb n 2 (omega arith))
    ∙ cond-false (nat_lt n 3) (Some Short) _ (le-ltb n 3 (omega arith)) ∙ cond-false (nat_lt n 11) (Some Short) _ (le-ltb n 11 (omega arith))

-- one more local font
pub one_more : (d : LocalDef) (before : List (List ℕ)) → IsDefinitionOf (local_definition d) (local_item d) → local_with (locals_of before) d.number ≡ None → locals_of (local_item d ∷ before) ≡ locals_of before ++ d ∷ []
one_more d before is none =
    let known = locals_of before in
    cond-false (is_packet (local_item d)) known (with_local known (local_of (definition_of (local_item d))) (local_with known (definition_of (local_item d)).number)) is.kind
    ∙ ap (λ x. with_local known (local_of x) (local_with known x.number)) is.definition
    ∙ ap (λ o. with_local known d o) none

sound_sizes : (d : LocalDef) → IsLocalSound d → definition_fault None (local_definition d) ≡ None
sound_sizes d h = rw (lt-ltb 0 d.factor h.factor, lt-ltb d.factor 16777216 h.below, lt-ltb 0 d.points h.points) refl

pub sound_local : (d : LocalDef) (before : List (List ℕ)) → IsDefinitionOf (local_definition d) (local_item d) → local_with (locals_of before) d.number ≡ None → IsLocalSound d → IsItemSound before (local_item d)
sound_local d before is none h = record {
  packet = λ yes. let no : true ≡ false = sym yes ∙ is.kind in cc;
  local = λ _. ap (λ x. definition_fault (local_with (locals_of before) x.number) x) is.definition ∙ ap (λ o. definition_fault o (local_definition d)) none ∙ sound_sizes d h;
}

pub sound_packet : (p : VfPacket) (before : List (List ℕ)) → IsPacketOf p (packet_item p) → IsPacketSound p → IsItemSound before (packet_item p)
sound_packet p before is h = record {
  packet = λ _. (h.0, subst (λ n. AreCommandsOf n (program_of (packet_item p)) h.0) (sym is.code) (subst (λ t. AreCommandsOf p.0 t h.0) (sym is.program) h.1));
  local = λ no. let both : true ≡ false = sym is.kind ∙ no in cc;
}
