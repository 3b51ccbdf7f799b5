-- How one flat command moves the registers: Knuth, DVItype, "Translation to symbolic form" (hh, vv,
-- max_drift and out_space; push and pop).
use Rattle.std.specs.Prelude.{◌≡◌, ℕ, ◌≤◌, ℤ, pos, negsuc, ◌+ℤ◌, ◌-ℤ◌, ◌*ℤ◌, unsigned_abs, Bool, true, false, ◌||◌, List, [], ◌∷◌, length, nat_le, int_le, int_lt, if◌then◌else◌, Result, Ok, Err}
use Rattle.std.specs.List.{AllByRecursion}
use Rattle.std.specs.Arc.{arc_value}
use Rattle.outside.specs.declared.keys.FontKey.{FontKey}
use Rattle.pixel_round.specs.Pixels.{Fraction, round, ceil}
use Rattle.drift_rules.specs.declared.flat.Registers.{Registers}
use Rattle.drift_rules.specs.declared.flat.Flat.{Flat}
use Rattle.drift_rules.specs.declared.flat.Flat.TheVariants as code
use Rattle.drift_rules.specs.declared.faults.PenFault.{PenFault}
use Rattle.drift_rules.specs.declared.faults.PenFault.TheVariants.{Overflow, StackEmpty, StackDeep}
use Rattle.drift_rules.specs.Limits.{MAX_SAVED}

-- a flat command, with all that it names as a value: a character's font, code, width and whether it
-- is put, a rule's height, width and whether it is put, a motion and the space
pub data FlatCommand : Type 0 where
  Skip : FlatCommand
  Char : FontKey → ℕ → ℤ → Bool → FlatCommand
  Rule : ℤ → ℤ → Bool → FlatCommand
  Right : ℤ → ℤ → FlatCommand
  W : ℤ → ℤ → FlatCommand
  X : ℤ → ℤ → FlatCommand
  Down : ℤ → ℤ → FlatCommand
  Y : ℤ → ℤ → FlatCommand
  Z : ℤ → ℤ → FlatCommand
  W0 : ℤ → FlatCommand
  X0 : ℤ → FlatCommand
  Y0 : ℤ → FlatCommand
  Z0 : ℤ → FlatCommand
  Push : FlatCommand
  Pop : FlatCommand
  Enter : FlatCommand
  Leave : FlatCommand
  Advance : ℤ → FlatCommand

-- the registers, and those that were saved, the last ones first
pub record State : Type 0 where
  pub now : Registers
  pub saved : List Registers

abbrev pub zeros : Registers
zeros = record {
  h = pos 0;
  v = pos 0;
  w = pos 0;
  x = pos 0;
  y = pos 0;
  z = pos 0;
  hh = pos 0;
  vv = pos 0;
}

-- a pen: the conversion that it keeps, and the state that it is in
pub record PenView : Type 0 where
  pub conv : Fraction
  pub state : State

-- as a page begins
abbrev pub at_origin : State
at_origin = record { now = zeros; saved = [] }

-- a coordinate that h or v may have
abbrev pub is_held : ℤ → Bool
is_held z = nat_le (unsigned_abs z) 2147483647

-- the drift rule: the pixel place, brought within 2 of the rounded one
abbrev pub after_drift : ℤ → ℤ → ℤ
after_drift place rounded =
    if int_lt (rounded +ℤ pos 2) place then rounded +ℤ pos 2
    else if int_lt place (rounded -ℤ pos 2) then rounded -ℤ pos 2
    else place

-- a motion right so wide that the pixel place is rounded anew: a word space, or a long way back
abbrev pub is_word_space : ℤ → ℤ → Bool
is_word_space p space = int_le space p || int_le p (negsuc 3 *ℤ space)

-- a motion down so high that the pixel place is rounded anew
abbrev pub is_line_space : ℤ → ℤ → Bool
is_line_space p space = int_le (pos 5 *ℤ space) (pos (unsigned_abs p))

-- to a new h, with the pixel place before the drift rule; and to a new v
abbrev pub at_h : Fraction → Registers → ℤ → ℤ → Registers
at_h c r h place = record r { h = h; hh = after_drift place (round c h) }

abbrev pub at_v : Fraction → Registers → ℤ → ℤ → Registers
at_v c r v place = record r { v = v; vv = after_drift place (round c v) }

-- right by p, where the pixel place moves by the rounded motion or is rounded anew; the registers
-- take `r` for what they were, so that a motion that also sets w or x has set it
abbrev pub moved_right : Fraction → Registers → ℤ → ℤ → Registers
moved_right c r p space =
    at_h c r (r.h +ℤ p) (if is_word_space p space then round c (r.h +ℤ p) else r.hh +ℤ round c p)

abbrev pub moved_down : Fraction → Registers → ℤ → ℤ → Registers
moved_down c r p space =
    at_v c r (r.v +ℤ p) (if is_line_space p space then round c (r.v +ℤ p) else r.vv +ℤ round c p)

-- over a character or a rule of a width, whose pixels are given
abbrev pub moved_over : Fraction → Registers → ℤ → ℤ → Registers
moved_over c r width pixels = at_h c r (r.h +ℤ width) (r.hh +ℤ pixels)

-- the state after a step that sets h or v to a number, if that may be held
abbrev pub if_held : ℤ → State → Result State PenFault
if_held z state_after = if is_held z then Ok state_after else Err Overflow

abbrev pub right_by : Fraction → State → Registers → ℤ → ℤ → Result State PenFault
right_by c s set p space = if_held (s.now.h +ℤ p) (record s { now = moved_right c set p space })

abbrev pub down_by : Fraction → State → Registers → ℤ → ℤ → Result State PenFault
down_by c s set p space = if_held (s.now.v +ℤ p) (record s { now = moved_down c set p space })

abbrev pub advance_by : Fraction → State → ℤ → ℤ → Result State PenFault
advance_by c s width pixels =
    if_held (s.now.h +ℤ width) (record s { now = moved_over c s.now width pixels })

-- all eight registers are saved, and these are the next
abbrev pub push_registers : State → Registers → Result State PenFault
push_registers s next =
    if nat_le MAX_SAVED (length s.saved) then Err StackDeep
    else Ok (record { now = next; saved = s.now ∷ s.saved })

-- the registers as a packet begins: where they were, with no motion remembered
abbrev pub on_entry : Registers → Registers
on_entry r = record r { w = pos 0; x = pos 0; y = pos 0; z = pos 0 }

-- all eight registers become those that were saved last, which are saved no longer; nothing is
-- rounded
abbrev pub pop_registers : List Registers → Result State PenFault
pop_registers [] = Err StackEmpty
pop_registers (r ∷ saved) = Ok (record { now = r; saved = saved })

-- the state after a flat command, or why there is none
abbrev pub state_after : Fraction → State → FlatCommand → Result State PenFault
state_after c s Skip = Ok s
state_after c s (Char key code width true) = Ok s
state_after c s (Char key code width false) = advance_by c s width (round c width)
state_after c s (Rule height width true) = Ok s
state_after c s (Rule height width false) = advance_by c s width (ceil c width)
state_after c s (Right p space) = right_by c s s.now p space
state_after c s (W p space) = right_by c s (record s.now { w = p }) p space
state_after c s (X p space) = right_by c s (record s.now { x = p }) p space
state_after c s (W0 space) = right_by c s s.now s.now.w space
state_after c s (X0 space) = right_by c s s.now s.now.x space
state_after c s (Down p space) = down_by c s s.now p space
state_after c s (Y p space) = down_by c s (record s.now { y = p }) p space
state_after c s (Z p space) = down_by c s (record s.now { z = p }) p space
state_after c s (Y0 space) = down_by c s s.now s.now.y space
state_after c s (Z0 space) = down_by c s s.now s.now.z space
state_after c s Push = push_registers s s.now
state_after c s Pop = pop_registers s.saved
state_after c s Enter = push_registers s (on_entry s.now)
state_after c s Leave = pop_registers s.saved
state_after c s (Advance width) = advance_by c s width (round c width)

-- one state may come after another, by a flat command
abbrev pub Step : Fraction → State → FlatCommand → State → Type 0
Step c s f t = state_after c s f ≡ Ok t

-- the states that a list of flat commands leads through, each with the one after it, to the last
abbrev pub Leads : Fraction → State → List FlatCommand → State → Type 0
Leads c s [] t = t ≡ s
Leads c s (f ∷ flats) t = (mid : State) × Step c s f mid × Leads c mid flats t

-- ---- a flat command of the code

abbrev pub value_of_flat : Flat → FlatCommand
value_of_flat code.Skip = Skip
value_of_flat (code.Char key number width put) = Char (arc_value key) number width put
value_of_flat (code.Rule height width put) = Rule height width put
value_of_flat (code.Right by space) = Right by space
value_of_flat (code.W by space) = W by space
value_of_flat (code.X by space) = X by space
value_of_flat (code.Down by space) = Down by space
value_of_flat (code.Y by space) = Y by space
value_of_flat (code.Z by space) = Z by space
value_of_flat (code.W0 space) = W0 space
value_of_flat (code.X0 space) = X0 space
value_of_flat (code.Y0 space) = Y0 space
value_of_flat (code.Z0 space) = Z0 space
value_of_flat code.Push = Push
value_of_flat code.Pop = Pop
value_of_flat code.Enter = Enter
value_of_flat code.Leave = Leave
value_of_flat (code.Advance width) = Advance width

-- ---- a law: hh is never farther than 2 from h converted, nor vv from v

abbrev pub IsNear : ℤ → ℤ → Type 0
IsNear place rounded = unsigned_abs (place -ℤ rounded) ≤ 2

pub record AreNear (c : Fraction) (r : Registers) : Type 0 where
  pub across : IsNear r.hh (round c r.h)
  pub down : IsNear r.vv (round c r.v)

pub record KeepsNear (c : Fraction) (s : State) : Type 0 where
  pub now : AreNear c s.now
  pub saved : AllByRecursion (AreNear c) s.saved

-- a step keeps it
abbrev pub StepsKeepNear : Type 0
StepsKeepNear =
    (c : Fraction) (s t : State) (f : FlatCommand) → KeepsNear c s → Step c s f t → KeepsNear c t

-- so it holds in every state that a page reaches, whatever its commands and their spaces, and
-- however they save and restore
abbrev pub PagesKeepNear : Type 0
PagesKeepNear =
    (c : Fraction) (flats : List FlatCommand) (t : State) → Leads c at_origin flats t
    → KeepsNear c t
