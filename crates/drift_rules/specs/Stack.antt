-- What a page's pushes and pops, and its packets, leave of the saved registers: Knuth, DVItype,
-- "push" and "pop", and VFtoVP, "Virtual property lists" (what the packet of a character begins and
-- ends with).
use Rattle.std.specs.Prelude.{◌≡◌, ℕ, ◌≤◌, ℤ, ◌↔◌, Bool, true, false, List, [], ◌∷◌, ◌++◌, length, Err, IsTrue}
use Rattle.std.specs.List.{count_by}
use Rattle.outside.specs.declared.keys.FontKey.{FontKey}
use Rattle.pixel_round.specs.Pixels.{Fraction}
use Rattle.drift_rules.specs.declared.flat.Registers.{Registers}
use Rattle.drift_rules.specs.declared.faults.PenFault.TheVariants.{StackEmpty, StackDeep}
use Rattle.drift_rules.specs.Position.{FlatCommand, Leads, Step, State, state_after, at_origin, Char, Push, Pop, Enter, Leave, Advance}
use Rattle.drift_rules.specs.Limits.{MAX_SAVED}

-- ---- commands that save and restore: a push and a pop by themselves, or those of a packet's
-- beginning and end

abbrev pub is_push : FlatCommand → Bool
is_push Push = true
is_push Enter = true
is_push _ = false

abbrev pub is_pop : FlatCommand → Bool
is_pop Pop = true
is_pop Leave = true
is_pop _ = false

abbrev pub pushes : List FlatCommand → ℕ
pushes flats = count_by is_push flats

abbrev pub pops : List FlatCommand → ℕ
pops flats = count_by is_pop flats

-- each pop restores what a push of the list saved: no beginning of it has more pops than pushes
abbrev pub PopsItsOwn : List FlatCommand → Type 0
PopsItsOwn flats =
    (first rest : List FlatCommand) → flats ≡ first ++ rest → pops first ≤ pushes first

-- and each push has its pop
pub record IsBalanced (flats : List FlatCommand) : Type 0 where
  pub own : PopsItsOwn flats
  pub as_many : pops flats ≡ pushes flats

-- ---- laws

-- what a push or a packet's beginning saved comes back at its pop or at the packet's end, whatever
-- stands between them: all eight registers, and the sets that were saved below
abbrev pub PopsGiveBack : Type 0
PopsGiveBack =
    (c : Fraction) (s t : State) (push pop : FlatCommand) (flats : List FlatCommand)
    → IsTrue (is_push push) → IsTrue (is_pop pop)
    → IsBalanced flats → Leads c s (push ∷ flats ++ pop ∷ []) t → t ≡ s

-- a virtual character that is set moves the page as a packed one of its width does, whatever its
-- packet holds: all else is as it was
abbrev pub PacketsMoveAsCharacters : Type 0
PacketsMoveAsCharacters =
    (c : Fraction) (s t : State) (packet : List FlatCommand) (key : FontKey) (code : ℕ) (width : ℤ)
    → IsBalanced packet
    → Leads c s (Enter ∷ packet ++ Leave ∷ Advance width ∷ []) t
    → Step c s (Char key code width false) t

-- while a push waits for its pop, the sets that were saved before it stay
abbrev pub SavedStay : Type 0
SavedStay = (c : Fraction) (s t : State) (flats : List FlatCommand) → PopsItsOwn flats
    → Leads c s flats t
    → (above : List Registers) × (t.saved ≡ above ++ s.saved)

-- a page's commands never save more sets than there may be
abbrev pub FewAreSaved : Type 0
FewAreSaved =
    (c : Fraction) (t : State) (flats : List FlatCommand) → Leads c at_origin flats t
    → length t.saved ≤ MAX_SAVED

-- only a pop that finds nothing saved is the one fault, and only a push that finds the most sets
-- saved the other
abbrev pub EmptyAtAPop : Type 0
EmptyAtAPop =
    (c : Fraction) (s : State) (f : FlatCommand) → (state_after c s f ≡ Err StackEmpty) ↔ (IsTrue
    (is_pop f) × (s.saved ≡ []))

abbrev pub DeepAtAPush : Type 0
DeepAtAPush =
    (c : Fraction) (s : State) (f : FlatCommand) → (state_after c s f ≡ Err StackDeep) ↔ (IsTrue
    (is_push f) × (MAX_SAVED ≤ length s.saved))
