-- Bytes as commands: the first command, and the rest.
use Rattle.std.proofs.Common.{◌≡◌, ℕ, zero, suc, ◌+◌, ◌-◌, ◌<◌, ◌≤◌, List, [], ◌∷◌, ◌++◌, length, take, drop, refl, sym, ap, subst, ◌∙◌, arith, length-drop, length-take, length-append, Some, None, drop-drop}
use Rattle.std.specs.Prelude.{slice_range}
use Rattle.std.proofs.lemmas.List.{take_at, drop_at, take-append-drop}
use Rattle.dvi_commands.specs.Spelling.{DviCommand, Spells}
use Rattle.dvi_commands.specs.Refusal.{size_of, refusal}
use Rattle.dvi_commands.specs.Reading.{Placed, placed, command_of, placed_in, placed_from, commands_in, commands_of, AreCommands, Reads, PlacedFirst, CommandsFirst}
use Rattle.dvi_commands.specs.ShortestSpelling.{shortest_spelling}
use Rattle.dvi_commands.specs.SpellingLaws.{WrittenIsReadBack}
use Rattle.dvi_commands.specs.declared.command.Context.{Context}
use Rattle.dvi_commands.specs.declared.command.CommandFault.{CommandFault}
use Rattle.dvi_commands.proofs.Prefix.{size-spelling, no_spelling_begins_another}
use Rattle.dvi_commands.proofs.Refusals.{spelled_is_not_refused, spelled_some}
use Rattle.dvi_commands.proofs.Determined.{spelling_determines_the_command, determined_by_bytes}

abbrev prefix_placed : ℕ → List ℕ → ℕ → Placed
prefix_placed at bytes size = placed at (command_of (take size bytes)) (take size bytes)

shorter : (b : ℕ) (bytes : List ℕ) (n : ℕ) → length (b ∷ bytes) ≤ suc n → length (drop (size_of (b ∷ bytes)) (b ∷ bytes)) ≤ n
shorter b bytes n h =
    let some : 1 ≤ size_of (b ∷ bytes) = omega arith in
    omega (arith, length-drop (size_of (b ∷ bytes)) (b ∷ bytes))

placed_enough : (m n at : ℕ) (bytes : List ℕ) → length bytes ≤ m → length bytes ≤ n → placed_in m at bytes ≡ placed_in n at bytes
placed_enough zero zero at bytes h k = refl
placed_enough zero (suc n) at [] h k = refl
placed_enough (suc m) zero at [] h k = refl
placed_enough (suc m) (suc n) at [] h k = refl
placed_enough zero (suc n) at (b ∷ bytes) h k = absurd (omega arith)
placed_enough (suc m) zero at (b ∷ bytes) h k = absurd (omega arith)
placed_enough (suc m) (suc n) at (b ∷ bytes) h k =
    let size = size_of (b ∷ bytes) in
    ap (λ (xs : List Placed). prefix_placed at (b ∷ bytes) size ∷ xs) (placed_enough m n (at + size) (drop size (b ∷ bytes)) (shorter b bytes m h) (shorter b bytes n k))

commands_enough : (m n : ℕ) (bytes : List ℕ) → length bytes ≤ m → length bytes ≤ n → commands_in m bytes ≡ commands_in n bytes
commands_enough zero zero bytes h k = refl
commands_enough zero (suc n) [] h k = refl
commands_enough (suc m) zero [] h k = refl
commands_enough (suc m) (suc n) [] h k = refl
commands_enough zero (suc n) (b ∷ bytes) h k = absurd (omega arith)
commands_enough (suc m) zero (b ∷ bytes) h k = absurd (omega arith)
commands_enough (suc m) (suc n) (b ∷ bytes) h k =
    let size = size_of (b ∷ bytes) in
    ap (λ (xs : List DviCommand). command_of (take size (b ∷ bytes)) ∷ xs) (commands_enough m n (drop size (b ∷ bytes)) (shorter b bytes m h) (shorter b bytes n k))

-- where nothing is left there is no command
pub placed_none : (at : ℕ) → placed_from at [] ≡ []
unfolding placed_from
placed_none at = refl

pub commands_none : commands_of [] ≡ []
unfolding commands_of
commands_none = refl

-- the first command of bytes that begin with its spelling
first_is : (at : ℕ) (c : DviCommand) (prefix rest : List ℕ) (size : ℕ) → Spells c prefix → length prefix ≡ size → prefix_placed at (prefix ++ rest) size ≡ placed at c prefix
first_is at c prefix rest size h e =
    ap (λ (bytes : List ℕ). placed at (command_of bytes) bytes) (take_at prefix rest size e)
    ∙ ap (λ (d : DviCommand). placed at d prefix) (sym (determined_by_bytes c prefix h))

pub placed_first : PlacedFirst
unfolding placed_from
placed_first at c [] rest h = absurd (omega (arith, spelled_some c [] h))
placed_first at c (b ∷ prefix) rest h =
    let whole = b ∷ (prefix ++ rest) in
    let size : size_of whole ≡ length (b ∷ prefix) = size-spelling c (b ∷ prefix) rest h in
    let after : drop (size_of whole) whole ≡ rest = drop_at (b ∷ prefix) rest (size_of whole) (sym size) in
    let room : length rest ≤ length (prefix ++ rest) = omega (arith, length-append prefix rest) in
    let step : placed_from at whole ≡ prefix_placed at whole (size_of whole) ∷ placed_in (length (prefix ++ rest)) (at + size_of whole) (drop (size_of whole) whole) = refl in
    step
    ∙ ap (λ (p : Placed). p ∷ placed_in (length (prefix ++ rest)) (at + size_of whole) (drop (size_of whole) whole)) (first_is at c (b ∷ prefix) rest (size_of whole) h (sym size))
    ∙ ap (λ (xs : List ℕ). placed at c (b ∷ prefix) ∷ placed_in (length (prefix ++ rest)) (at + size_of whole) xs) after
    ∙ ap (λ (n : ℕ). placed at c (b ∷ prefix) ∷ placed_in (length (prefix ++ rest)) (at + n) rest) size
    ∙ ap (λ (xs : List Placed). placed at c (b ∷ prefix) ∷ xs) (placed_enough (length (prefix ++ rest)) (length rest) (at + length (b ∷ prefix)) rest room (omega arith))

pub commands_first : CommandsFirst
unfolding commands_of
commands_first c [] rest h = absurd (omega (arith, spelled_some c [] h))
commands_first c (b ∷ prefix) rest h =
    let whole = b ∷ (prefix ++ rest) in
    let size : size_of whole ≡ length (b ∷ prefix) = size-spelling c (b ∷ prefix) rest h in
    let after : drop (size_of whole) whole ≡ rest = drop_at (b ∷ prefix) rest (size_of whole) (sym size) in
    let room : length rest ≤ length (prefix ++ rest) = omega (arith, length-append prefix rest) in
    let command : command_of (take (size_of whole) whole) ≡ c = ap command_of (take_at (b ∷ prefix) rest (size_of whole) (sym size)) ∙ sym (determined_by_bytes c (b ∷ prefix) h) in
    let step : commands_of whole ≡ command_of (take (size_of whole) whole) ∷ commands_in (length (prefix ++ rest)) (drop (size_of whole) whole) = refl in
    step
    ∙ ap (λ (d : DviCommand). d ∷ commands_in (length (prefix ++ rest)) (drop (size_of whole) whole)) command
    ∙ ap (λ (xs : List ℕ). c ∷ commands_in (length (prefix ++ rest)) xs) after
    ∙ ap (λ (xs : List DviCommand). c ∷ xs) (commands_enough (length (prefix ++ rest)) (length rest) rest room (omega arith))

-- ---- reading on

-- what is left at a place is the command that was read there and what is left behind it
pub parted : (bytes : List ℕ) (at end : ℕ) → at < end → drop at bytes ≡ slice_range bytes at end ++ drop end bytes
parted bytes at end h =
    let sum : at + (end - at) ≡ end = omega arith in
    sym (take-append-drop (end - at) (drop at bytes)) ∙ ap (λ (xs : List ℕ). take (end - at) (drop at bytes) ++ xs) (drop-drop (end - at) at bytes ∙ ap (λ (k : ℕ). drop k bytes) sum)

reads_after : (place : Context) (commands : List DviCommand) (whole prefix rest : List ℕ) (c : DviCommand) → whole ≡ prefix ++ rest → Spells c prefix → AreCommands place commands whole → Reads place rest
reads_after place [] whole prefix rest c e h are =
    let none : length (prefix ++ rest) ≡ 0 = ap length (sym e ∙ are) in
    absurd (omega (arith, none, length-append prefix rest, spelled_some c prefix h))
reads_after place (d ∷ commands) whole prefix rest c e h are =
    let same = no_spelling_begins_another c d prefix are.0 rest are.1 h are.2.spelled (sym e ∙ are.2.whole) in
    record { commands = commands; are = subst (AreCommands place commands) (sym same.1) are.3 }

pub reads_on : (place : Context) (bytes : List ℕ) (at end : ℕ) (c : DviCommand) → at < end → Spells c (slice_range bytes at end) → Reads place (drop at bytes) → Reads place (drop end bytes)
reads_on place bytes at end c h spelled reads = reads_after place reads.commands (drop at bytes) (slice_range bytes at end) (drop end bytes) c (parted bytes at end h) spelled reads.are

not_refused : (place : Context) (commands : List DviCommand) (bytes : List ℕ) → 0 < length bytes → AreCommands place commands bytes → refusal place bytes ≡ None
not_refused place [] bytes some are = absurd (omega (arith, ap length are))
not_refused place (d ∷ commands) bytes some are = ap (refusal place) are.2.whole ∙ spelled_is_not_refused place d are.0 are.1 are.2.spelled are.2.allowed

pub never_refused : (place : Context) (bytes : List ℕ) (f : CommandFault) → 0 < length bytes → Reads place bytes → refusal place bytes ≡ Some f → ⊥
never_refused place bytes f some reads e = let none = not_refused place reads.commands bytes some reads.are in cc

-- the command that was read, and those after it
pub placed_on : (bytes : List ℕ) (at end start : ℕ) (c : DviCommand) → at < end → end ≤ length bytes → Spells c (slice_range bytes at end)
    → placed_from start (drop at bytes) ≡ placed start c (slice_range bytes at end) ∷ placed_from (start + (end - at)) (drop end bytes)
placed_on bytes at end start c h inside spelled =
    let size : length (slice_range bytes at end) ≡ end - at = grind (arith, length-take, length-drop) in
    ap (placed_from start) (parted bytes at end h) ∙ placed_first start c (slice_range bytes at end) (drop end bytes) spelled
    ∙ ap (λ (n : ℕ). placed start c (slice_range bytes at end) ∷ placed_from (start + n) (drop end bytes)) size

pub commands_on : (bytes : List ℕ) (at end : ℕ) (c : DviCommand) → at < end → Spells c (slice_range bytes at end) → commands_of (drop at bytes) ≡ c ∷ commands_of (drop end bytes)
commands_on bytes at end c h spelled = ap commands_of (parted bytes at end h) ∙ commands_first c (slice_range bytes at end) (drop end bytes) spelled

-- ---- writing and reading

pub written_is_read_back : WrittenIsReadBack
written_is_read_back place c rest spelled allowed = (
  record { whole = refl; spelled = spelled; allowed = allowed },
  λ d prefix more begins.
      let same = no_spelling_begins_another d c prefix (shortest_spelling c) more rest begins.spelled spelled (sym begins.whole) in
      (spelling_determines_the_command d c (shortest_spelling c) (subst (Spells d) same.0 begins.spelled) spelled, same.0),
)
