-- Local fonts, one definition more.
use Rattle.std.proofs.Common.{◌≡◌, ◌∙◌, ℕ, Bool, true, false, List, [], ◌∷◌, ◌++◌, Option, Some, None, Bor, sym, ap}
use Rattle.std.specs.Prelude.{is_some, if◌then◌else◌}
use Rattle.std.specs.Option.{option_copied, MatchOption}
use Rattle.std.proofs.lemmas.Bool.{true≢false}
use Rattle.dvi_commands.specs.Spelling.{Definition}
use Rattle.vf_reader.specs.Items.{definition_of, is_packet}
use Rattle.vf_reader.specs.Locals.{definition_fault, local_fault, local_of, local_with, locals_of, with_local}
use Rattle.vf_reader.specs.Fonts.{IsItemSound}
use Rattle.vf_reader.specs.declared.locals.LocalDef.{LocalDef}

-- a reference to what is found
abbrev IsFound : Option (Bor LocalDef) → Option LocalDef → Type 0
IsFound known found = MatchOption known (found ≡ None) (λ local. found ≡ Some local.now)

copied : (known : Option (Bor LocalDef)) (found : Option LocalDef) → IsFound known found → option_copied known ≡ found
copied None found h = sym h
copied (Some local) found h = sym h

pub fault_is : (before : List (List ℕ)) (item : List ℕ) (locals : List LocalDef) (known : Option (Bor LocalDef)) (d : Definition) → locals ≡ locals_of before → d ≡ definition_of item
    → IsFound known (local_with locals d.number) → definition_fault (option_copied known) d ≡ local_fault before item
fault_is before item locals known d are is found =
    ap (λ (o : Option LocalDef). definition_fault o d) (copied known (local_with locals d.number) found)
    ∙ ap (λ (ls : List LocalDef). definition_fault (local_with ls d.number) d) are
    ∙ ap (λ (x : Definition). definition_fault (local_with (locals_of before) x.number) x) is

pub local_sound : (before : List (List ℕ)) (item : List ℕ) → is_packet item ≡ false → local_fault before item ≡ None → IsItemSound before item
local_sound before item kind none = record { packet = λ packet. absurd (true≢false (sym packet ∙ kind)); local = λ _. none }

-- the local fonts with this item
with_item : (before : List (List ℕ)) (item : List ℕ) (locals : List LocalDef) (d : Definition) → is_packet item ≡ false → locals ≡ locals_of before → d ≡ definition_of item
    → with_local locals (local_of d) (local_with locals d.number) ≡ locals_of (item ∷ before)
with_item before item locals d kind are is =
    ap (λ (ls : List LocalDef). with_local ls (local_of d) (local_with ls d.number)) are
    ∙ ap (λ (x : Definition). with_local (locals_of before) (local_of x) (local_with (locals_of before) x.number)) is
    ∙ ap (λ (b : Bool). if b then locals_of before else with_local (locals_of before) (local_of (definition_of item)) (local_with (locals_of before) (definition_of item).number)) (sym kind)

kept_by : (known : Option (Bor LocalDef)) (found : Option LocalDef) (locals : List LocalDef) (local : LocalDef) → IsFound known found → is_some known ≡ true → with_local locals local found ≡ locals
kept_by None found locals local h some = absurd (cc)
kept_by (Some known) found locals local h some = ap (with_local locals local) h

more_by : (known : Option (Bor LocalDef)) (found : Option LocalDef) (locals : List LocalDef) (local : LocalDef) → IsFound known found → is_some known ≡ false → with_local locals local found ≡ locals ++ local ∷ []
more_by None found locals local h none = ap (with_local locals local) h
more_by (Some known) found locals local h none = absurd (cc)

-- no local font is found where none is referred to
pub absent : (known : Option (Bor LocalDef)) (found : Option LocalDef) → IsFound known found → is_some known ≡ false → found ≡ None
absent None found h none = h
absent (Some known) found h none = absurd (cc)

pub locals_kept : (before : List (List ℕ)) (item : List ℕ) (locals : List LocalDef) (known : Option (Bor LocalDef)) (d : Definition) → is_packet item ≡ false → locals ≡ locals_of before → d ≡ definition_of item
    → IsFound known (local_with locals d.number) → is_some known ≡ true → locals ≡ locals_of (item ∷ before)
locals_kept before item locals known d kind are is found some =
    sym (kept_by known (local_with locals d.number) locals (local_of d) found some) ∙ with_item before item locals d kind are is

pub locals_more : (before : List (List ℕ)) (item : List ℕ) (locals new : List LocalDef) (local : LocalDef) (known : Option (Bor LocalDef)) (d : Definition) → is_packet item ≡ false → locals ≡ locals_of before
    → d ≡ definition_of item → IsFound known (local_with locals d.number) → is_some known ≡ false → local ≡ local_of d → new ≡ locals ++ local ∷ [] → new ≡ locals_of (item ∷ before)
locals_more before item locals new local known d kind are is found none same e =
    e ∙ ap (λ (l : LocalDef). locals ++ l ∷ []) same ∙ sym (more_by known (local_with locals d.number) locals (local_of d) found none) ∙ with_item before item locals d kind are is
