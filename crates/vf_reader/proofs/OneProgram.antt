-- The commands of a packet have one reading, and one first fault at most.
use Rattle.std.proofs.Common.{◌≡◌, ◌∙◌, inl, inr, ℕ, List, [], ◌∷◌, ◌++◌, length, Option, Some, None, sym, ap, subst, arith, length-append}
use Rattle.dvi_commands.specs.Spelling.{DviCommand, Spells}
use Rattle.dvi_commands.specs.Refusal.{refusal}
use Rattle.dvi_commands.specs.Reading.{Begins}
use Rattle.dvi_commands.specs.declared.command.Context.TheVariants as context
use Rattle.dvi_commands.proofs.OneCommand.{refused_begins}
use Rattle.dvi_commands.proofs.Prefix.{no_spelling_begins_another}
use Rattle.dvi_commands.proofs.Refusals.{spelled_some}
use Rattle.dvi_commands.proofs.Determined.{spelling_determines_the_command}
use Rattle.vf_reader.specs.Programs.{AreSoundFrom, IsFaultAfterCommands, IsFaultHere, command_fault, open_after}
use Rattle.vf_reader.specs.declared.faults.VfFault.{VfFault}
use Rattle.vf_reader.specs.declared.faults.VfFault.TheVariants.{Packet}

-- bytes begin with one command
same_first : (c d : DviCommand) (a b x y bytes : List ℕ) → Begins context.Packet c a x bytes → Begins context.Packet d b y bytes → (c ≡ d) × (x ≡ y)
same_first c d a b x y bytes h k =
    let same = no_spelling_begins_another c d a b x y h.spelled k.spelled (sym h.whole ∙ k.whole) in
    (spelling_determines_the_command c d b (subst (Spells c) same.0 h.spelled) k.spelled, same.1)

-- and no bytes with none
some_there : (c : DviCommand) (prefix rest bytes : List ℕ) → Begins context.Packet c prefix rest bytes → bytes ≡ [] → ⊥
some_there c prefix rest bytes h none =
    let size : length (prefix ++ rest) ≡ 0 = ap length (sym h.whole ∙ none) in
    omega (arith, size, length-append prefix rest, spelled_some c prefix h.spelled)

pub none_some : {A : Type 0} (o : Option A) (x : A) → o ≡ None → o ≡ Some x → ⊥
none_some None x e g = cc
none_some (Some y) x e g = cc

pub some_is : {A : Type 0} (o : Option A) (x y : A) → o ≡ Some x → o ≡ Some y → x ≡ y
some_is None x y e g = cc
some_is (Some z) x y e g = cc

-- where a command begins with nothing wrong there is no fault
no_fault_here : (code depth : ℕ) (bytes : List ℕ) (c : DviCommand) (prefix rest : List ℕ) (f : VfFault) → Begins context.Packet c prefix rest bytes → command_fault code depth c ≡ None → IsFaultHere code depth bytes f → ⊥
no_fault_here code depth bytes c prefix rest f h right (inl left) = some_there c prefix rest bytes h left.0
no_fault_here code depth bytes c prefix rest f h right (inr (inl unread)) = refused_begins context.Packet bytes unread.1 c prefix rest unread.2 h
no_fault_here code depth bytes c prefix rest f h right (inr (inr wrong)) =
    let same = (same_first c wrong.command prefix wrong.prefix rest wrong.rest bytes h wrong.begins).0 in
    none_some (command_fault code depth wrong.command) f (ap (command_fault code depth) (sym same) ∙ right) wrong.wrong

-- nor where the commands end and no push is open
no_fault_at_end : (code depth : ℕ) (bytes : List ℕ) (f : VfFault) → bytes ≡ [] → depth ≡ 0 → IsFaultHere code depth bytes f → ⊥
no_fault_at_end code depth bytes f none even (inl left) = omega (arith, left.1, even)
no_fault_at_end code depth bytes f none even (inr (inl unread)) = omega (arith, unread.0, ap length none)
no_fault_at_end code depth bytes f none even (inr (inr wrong)) = some_there wrong.command wrong.prefix wrong.rest bytes wrong.begins none

pub sound_has_no_fault : (code depth : ℕ) (commands others : List DviCommand) (bytes : List ℕ) (f : VfFault) → AreSoundFrom code depth commands bytes → IsFaultAfterCommands code depth others bytes f → ⊥
sound_has_no_fault code depth [] [] bytes f h e = no_fault_at_end code depth bytes f h.0 h.1 e
sound_has_no_fault code depth [] (d ∷ others) bytes f h e = some_there d e.0 e.1 bytes e.2 h.0
sound_has_no_fault code depth (c ∷ commands) [] bytes f h e = no_fault_here code depth bytes c h.0 h.1 f h.2 h.3 e
sound_has_no_fault code depth (c ∷ commands) (d ∷ others) bytes f h e =
    let same = same_first d c e.0 h.0 e.1 h.1 bytes e.2 h.2 in
    sound_has_no_fault code (open_after depth c) commands others h.1 f h.4
    (subst (λ (b : List ℕ). IsFaultAfterCommands code (open_after depth c) others b f) same.1 (subst (λ (k : DviCommand). IsFaultAfterCommands code (open_after depth k) others e.1 f) same.0 e.4))

one_here : (code depth : ℕ) (bytes : List ℕ) (f g : VfFault) → IsFaultHere code depth bytes f → IsFaultHere code depth bytes g → f ≡ g
one_here code depth bytes f g (inl a) (inl b) = a.2 ∙ sym b.2
one_here code depth bytes f g (inl a) (inr (inl b)) = absurd (omega (arith, b.0, ap length a.0))
one_here code depth bytes f g (inl a) (inr (inr b)) = absurd (some_there b.command b.prefix b.rest bytes b.begins a.0)
one_here code depth bytes f g (inr (inl a)) (inl b) = absurd (omega (arith, a.0, ap length b.0))
one_here code depth bytes f g (inr (inl a)) (inr (inl b)) = a.3 ∙ ap (Packet code) (some_is (refusal context.Packet bytes) a.1 b.1 a.2 b.2) ∙ sym b.3
one_here code depth bytes f g (inr (inl a)) (inr (inr b)) = absurd (refused_begins context.Packet bytes a.1 b.command b.prefix b.rest a.2 b.begins)
one_here code depth bytes f g (inr (inr a)) (inl b) = absurd (some_there a.command a.prefix a.rest bytes a.begins b.0)
one_here code depth bytes f g (inr (inr a)) (inr (inl b)) = absurd (refused_begins context.Packet bytes b.1 a.command a.prefix a.rest b.2 a.begins)
one_here code depth bytes f g (inr (inr a)) (inr (inr b)) =
    let same = (same_first a.command b.command a.prefix b.prefix a.rest b.rest bytes a.begins b.begins).0 in
    some_is (command_fault code depth b.command) f g (ap (command_fault code depth) (sym same) ∙ a.wrong) b.wrong

pub one_program_fault : (code depth : ℕ) (commands others : List DviCommand) (bytes : List ℕ) (f g : VfFault) → IsFaultAfterCommands code depth commands bytes f → IsFaultAfterCommands code depth others bytes g → f ≡ g
one_program_fault code depth [] [] bytes f g h e = one_here code depth bytes f g h e
one_program_fault code depth [] (d ∷ others) bytes f g h e = absurd (no_fault_here code depth bytes d e.0 e.1 f e.2 e.3 h)
one_program_fault code depth (c ∷ commands) [] bytes f g h e = absurd (no_fault_here code depth bytes c h.0 h.1 g h.2 h.3 e)
one_program_fault code depth (c ∷ commands) (d ∷ others) bytes f g h e =
    let same = same_first d c e.0 h.0 e.1 h.1 bytes e.2 h.2 in
    one_program_fault code (open_after depth c) commands others h.1 f g h.4
    (subst (λ (b : List ℕ). IsFaultAfterCommands code (open_after depth c) others b g) same.1 (subst (λ (k : DviCommand). IsFaultAfterCommands code (open_after depth k) others e.1 g) same.0 e.4))
