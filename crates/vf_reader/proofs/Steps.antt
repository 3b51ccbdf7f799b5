-- The commands of a packet, one after another.
use Rattle.std.proofs.Common.{◌≡◌, ◌∙◌, ◌+◌, ◌-◌, ◌<◌, ◌≤◌, inl, inr, ℕ, List, [], ◌∷◌, length, drop, Some, None, refl, sym, ap, subst, arith, length-drop}
use Rattle.std.specs.Prelude.{slice_index, slice_range, IsTrue}
use Rattle.std.proofs.lemmas.List.{get_or-drop, get_or-take}
use Rattle.dvi_commands.specs.Spelling.{DviCommand, Pop, Push, Spells}
use Rattle.dvi_commands.specs.Refusal.{may_stand, refusal}
use Rattle.dvi_commands.specs.Reading.{Begins}
use Rattle.dvi_commands.specs.declared.command.Context.TheVariants as context
use Rattle.dvi_commands.specs.declared.command.CommandFault.{CommandFault}
use Rattle.dvi_commands.proofs.Commands.{parted}
use Rattle.dvi_commands.proofs.Motions.{nothing}
use Rattle.vf_reader.specs.Programs.{AreCommandsOf, AreSoundFrom, IsFaultAfterCommands, IsProgramFault, command_fault, open_after}
use Rattle.vf_reader.specs.declared.faults.VfFault.{VfFault}
use Rattle.vf_reader.specs.declared.faults.VfFault.TheVariants.{Packet, Unbalanced}

-- commands were read up to the bytes that are left, with n pushes open after them
pub record IsReadTo (code : ℕ) (bytes : List ℕ) (depth : ℕ) (rest : List ℕ) : Type 0 where
  pub sound : (commands : List DviCommand) → AreSoundFrom code depth commands rest → (all : List DviCommand) × AreCommandsOf code bytes all
  pub fault : (commands : List DviCommand) (f : VfFault) → IsFaultAfterCommands code depth commands rest f → IsProgramFault code bytes f

pub begun : (code : ℕ) (bytes : List ℕ) → IsReadTo code bytes 0 bytes
begun code bytes = record { sound = λ commands h. (commands, h); fault = λ commands f h. (commands, h) }

one_more : (code depth : ℕ) (bytes before prefix rest : List ℕ) (c : DviCommand) → IsReadTo code bytes depth before → Begins context.Packet c prefix rest before → command_fault code depth c ≡ None
    → IsReadTo code bytes (open_after depth c) rest
one_more code depth bytes before prefix rest c h begins right = record {
  sound = λ commands s. h.sound (c ∷ commands) (prefix, rest, begins, right, s);
  fault = λ commands f s. h.fault (c ∷ commands) f (prefix, rest, begins, right, s);
}

first_of_range : (bytes : List ℕ) (at end : ℕ) → at < end → slice_index (slice_range bytes at end) 0 ≡ slice_index bytes at
first_of_range bytes at end lt = get_or-take (end - at) (drop at bytes) 0 0 (omega arith) ∙ get_or-drop at bytes 0 0 ∙ ap (slice_index bytes) (omega arith)

begins_there : (bytes : List ℕ) (at end : ℕ) (c : DviCommand) → at < end → Spells c (slice_range bytes at end) → IsTrue (may_stand context.Packet (slice_index bytes at))
    → Begins context.Packet c (slice_range bytes at end) (drop end bytes) (drop at bytes)
begins_there bytes at end c lt spelled allowed = record {
  whole = parted bytes at end lt;
  spelled = spelled;
  allowed = subst (λ (b : ℕ). IsTrue (may_stand context.Packet b)) (sym (first_of_range bytes at end lt)) allowed;
}

pub command_read : (code depth at end new : ℕ) (bytes : List ℕ) (c : DviCommand) → IsReadTo code bytes depth (drop at bytes) → at < end → Spells c (slice_range bytes at end)
    → IsTrue (may_stand context.Packet (slice_index bytes at)) → command_fault code depth c ≡ None → new ≡ open_after depth c → IsReadTo code bytes new (drop end bytes)
command_read code depth at end new bytes c h lt spelled allowed right e =
    subst (λ (n : ℕ). IsReadTo code bytes n (drop end bytes)) (sym e)
    (one_more code depth bytes (drop at bytes) (slice_range bytes at end) (drop end bytes) c h (begins_there bytes at end c lt spelled allowed) right)

pub command_wrong : (code depth at end : ℕ) (bytes : List ℕ) (c : DviCommand) (f : VfFault) → IsReadTo code bytes depth (drop at bytes) → at < end → Spells c (slice_range bytes at end)
    → IsTrue (may_stand context.Packet (slice_index bytes at)) → command_fault code depth c ≡ Some f → IsProgramFault code bytes f
command_wrong code depth at end bytes c f h lt spelled allowed wrong =
    h.fault [] f (inr (inr (record { command = c; prefix = slice_range bytes at end; rest = drop end bytes; begins = begins_there bytes at end c lt spelled allowed; wrong = wrong })))

pub not_read : (code depth at : ℕ) (bytes : List ℕ) (found : CommandFault) → IsReadTo code bytes depth (drop at bytes) → at < length bytes → refusal context.Packet (drop at bytes) ≡ Some found
    → IsProgramFault code bytes (Packet code found)
not_read code depth at bytes found h inside refused = h.fault [] (Packet code found) (inr (inl (omega (arith, length-drop at bytes), found, refused, refl)))

nothing_left : (at : ℕ) (bytes : List ℕ) → length bytes ≤ at → drop at bytes ≡ []
nothing_left at bytes end = nothing (drop at bytes) (omega (arith, length-drop at bytes))

pub left_open : (code depth at : ℕ) (bytes : List ℕ) → IsReadTo code bytes depth (drop at bytes) → length bytes ≤ at → 0 < depth → IsProgramFault code bytes (Unbalanced code)
left_open code depth at bytes h end deep = h.fault [] (Unbalanced code) (inl (nothing_left at bytes end, deep, refl))

pub all_read : (code depth at : ℕ) (bytes : List ℕ) → IsReadTo code bytes depth (drop at bytes) → length bytes ≤ at → depth ≤ 0 → (commands : List DviCommand) × AreCommandsOf code bytes commands
all_read code depth at bytes h end even = h.sound [] (nothing_left at bytes end, omega arith)

-- a command opens one push at most
pub few_open : (depth : ℕ) (c : DviCommand) → open_after depth c ≤ depth + 1
few_open depth Push = omega arith
few_open depth Pop = omega arith
few_open depth _ = omega arith
