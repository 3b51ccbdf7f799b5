-- The pushes and pops of a packet that was judged.
use Rattle.std.proofs.Common.{◌≡◌, ◌∙◌, ℕ, suc, zero, ◌+◌, ◌≤◌, Bool, true, false, cond, List, [], ◌∷◌, ◌++◌, Option, Some, None, refl, sym, ap, subst, arith}
use Rattle.std.specs.Prelude.{IfSome, ◌&&◌, ◌==◌, if◌then◌else◌}
use Rattle.std.proofs.lemmas.List.Sums.{sum_by-cons}
use Rattle.dvi_commands.specs.Spelling.{DviCommand, Push, Pop}
use Rattle.dvi_commands.specs.Reading.{commands_of}
use Rattle.dvi_commands.proofs.Commands.{commands_first, commands_none}
use Rattle.vf_reader.specs.Items.{code_of, is_packet, program_of}
use Rattle.vf_reader.specs.Programs.{AreCommandsOf, AreSoundFrom, command_fault, is_pop, open_after}
use Rattle.vf_reader.specs.Fonts.{AreSound, program_with}
use Rattle.vf_reader.specs.Balance.{IsBalanced, PacketsAreBalanced, is_push, pops, pushes}

-- the commands of a packet are those that its bytes are read as
pub commands_are : (code depth : ℕ) (commands : List DviCommand) (bytes : List ℕ) → AreSoundFrom code depth commands bytes → commands_of bytes ≡ commands
commands_are code depth [] bytes h = ap commands_of h.0 ∙ commands_none
commands_are code depth (c ∷ commands) bytes h =
    ap commands_of h.2.whole ∙ commands_first c h.0 h.1 h.2.spelled ∙ ap (λ (l : List DviCommand). c ∷ l) (commands_are code (open_after depth c) commands h.1 h.4)

-- a command without a fault opens a push or closes one that is open
pub opens : (code depth : ℕ) (c : DviCommand) → command_fault code depth c ≡ None → open_after depth c + cond (is_pop c) 1 0 ≡ depth + cond (is_push c) 1 0
opens code depth Push right = omega arith
opens code zero Pop right = absurd cc
opens code (suc depth) Pop right = omega arith
opens code depth _ right = refl

pushes_cons : (c : DviCommand) (commands : List DviCommand) → pushes (c ∷ commands) ≡ cond (is_push c) 1 0 + pushes commands
pushes_cons c commands = sum_by-cons (λ x. cond (is_push x) 1 0) c commands

pops_cons : (c : DviCommand) (commands : List DviCommand) → pops (c ∷ commands) ≡ cond (is_pop c) 1 0 + pops commands
pops_cons c commands = sum_by-cons (λ x. cond (is_pop x) 1 0) c commands

one_more : (code depth : ℕ) (c : DviCommand) (first : List DviCommand) → command_fault code depth c ≡ None → pops first ≤ pushes first + open_after depth c → pops (c ∷ first) ≤ pushes (c ∷ first) + depth
one_more code depth c first right fewer = omega (arith, fewer, opens code depth c right, pushes_cons c first, pops_cons c first)

-- no beginning pops more than it pushes and what is open before it
few_pops : (code depth : ℕ) (commands : List DviCommand) (bytes : List ℕ) → AreSoundFrom code depth commands bytes
    → (first rest : List DviCommand) → commands ≡ first ++ rest → pops first ≤ pushes first + depth
few_pops code depth commands bytes h [] rest e = omega arith
few_pops code depth [] bytes h (d ∷ first) rest e = absurd cc
few_pops code depth (c ∷ commands) bytes h (d ∷ first) rest e =
    let same : c ≡ d = cc in
    let later : commands ≡ first ++ rest = cc in
    subst (λ (x : DviCommand). pops (x ∷ first) ≤ pushes (x ∷ first) + depth) same
    (one_more code depth c first h.3 (few_pops code (open_after depth c) commands h.1 h.4 first rest later))

-- and all of them pop as many
as_many_pops : (code depth : ℕ) (commands : List DviCommand) (bytes : List ℕ) → AreSoundFrom code depth commands bytes → pops commands ≡ pushes commands + depth
as_many_pops code depth [] bytes h = omega (arith, h.1)
as_many_pops code depth (c ∷ commands) bytes h =
    omega (arith, as_many_pops code (open_after depth c) commands h.1 h.4, opens code depth c h.3, pushes_cons c commands, pops_cons c commands)

pub program_is_balanced : (code : ℕ) (commands : List DviCommand) (bytes : List ℕ) → AreCommandsOf code bytes commands → IsBalanced (commands_of bytes)
program_is_balanced code commands bytes are = subst IsBalanced (sym (commands_are code 0 commands bytes are)) (record {
  own = λ first rest e. omega (arith, few_pops code 0 commands bytes are first rest e);
  as_many = omega (arith, as_many_pops code 0 commands bytes are);
})

last_is_balanced : (items : List (List ℕ)) (c : ℕ) → AreSound items → IfSome (program_with items c) (λ packet. IsBalanced (commands_of packet))
last_is_balanced [] c sound = tt
last_is_balanced (item ∷ before) c sound = by (is_packet item) (code_of item == c) refl (last_is_balanced before c sound.0)
  where
    by : (packet own : Bool) → is_packet item ≡ packet → IfSome (program_with before c) (λ packet. IsBalanced (commands_of packet))
        → IfSome (if packet && own then Some (program_of item) else program_with before c) (λ packet. IsBalanced (commands_of packet))
    by true true packet older = let are = sound.2.packet packet in program_is_balanced (code_of item) are.0 (program_of item) are.1
    by true false packet older = older
    by false own packet older = older

pub packets_are_balanced : PacketsAreBalanced
packets_are_balanced bytes items c packet file there = subst (λ (o : Option (List ℕ)). IfSome o (λ text. IsBalanced (commands_of text))) there (last_is_balanced items c file.sound)
