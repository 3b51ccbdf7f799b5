-- The keys that a sound reading defines.
use Rattle.std.proofs.Common.{◌≡◌, ℕ, ◌<◌, ◌≤◌, ℤ, Bool, true, false, [], ◌∷◌, arith, Option, Some, None, refl, subst}
use Rattle.std.specs.Option.{option_map}
use Rattle.std.specs.Prelude.{IfSome, ◌&&◌, not, if◌then◌else◌, unsigned_abs}
use Rattle.std.proofs.lemmas.Bool.{and_parts}
use Rattle.std.proofs.lemmas.Int.{ints}
use Rattle.big_endian.specs.Numbers.{int_eq}
use Rattle.outside.specs.declared.keys.FontKey.{FontKey}
use Rattle.dvi_commands.specs.Spelling.{Definition, DviCommand, Define, Spells}
use Rattle.dvi_commands.specs.Reading.{Placed}
use Rattle.outside.specs.Limits.{SIZES}
use Rattle.page_index.specs.Judged.{agrees_with, define_fault, is_size}
use Rattle.page_index.specs.Document.{IsSound, Reading, Sound, font_table, key_of, key_or, whole_fault}
use Rattle.outside.specs.FontKeys.{IsFontKey}
use Rattle.page_index.specs.declared.faults.DocFault.TheVariants.{FontClash, FontDef}

size_fits : (z : ℤ) → is_size z ≡ true → (1 ≤ unsigned_abs z) × (unsigned_abs z < SIZES)
size_fits z h = (grind (arith, ints), grind (arith, ints))

are_sizes : (known : Option FontKey) (at : ℕ) (d : Definition) → define_fault known at d ≡ None → (is_size d.size && is_size d.design) ≡ true
are_sizes known at d h = by (is_size d.size && is_size d.design) (agrees_with known d) h
  where
    by : (sizes agrees : Bool) → (if not sizes then Some (FontDef d.number at) else if not agrees then Some (FontClash d.number at) else None) ≡ None → sizes ≡ true
    by true agrees h = refl
    by false agrees h = cc

-- a definition that nothing is wrong with
key_fits : (res : ℕ) (before : Reading) (p : Placed) (d : Definition) → IsSound res before p → p.command ≡ Define d → IsFontKey (key_of d)
key_fits res before p d h e =
    let right : define_fault (font_table before d.number) p.at d ≡ None = subst (λ (c : DviCommand). whole_fault res before p.at p.bytes c ≡ None) e h.right in
    let spelled : Spells (Define d) p.bytes = subst (λ (c : DviCommand). Spells c p.bytes) e h.spelled in
    let sizes = and_parts (is_size d.size) (is_size d.design) (are_sizes (font_table before d.number) p.at d right) in
    record { size = size_fits d.size sizes.0; design = size_fits d.design sizes.1; area = spelled.1.1.area }

chosen : (is : Bool) (k : FontKey) (o : Option FontKey) → IsFontKey k → IfSome o IsFontKey → IfSome (if is then Some k else o) IsFontKey
chosen true k o here before = here
chosen false k o here before = before

-- each key of the font table
pub fonts_fit : (res : ℕ) (r : Reading) → Sound res r → (k : ℤ) → IfSome (font_table r k) IsFontKey
fonts_fit res [] s k = tt
fonts_fit res (p ∷ before) s k = by p.command refl (fonts_fit res before s.0 k)
  where
    by : (c : DviCommand) → p.command ≡ c → IfSome (font_table before k) IsFontKey → IfSome (key_or (font_table before k) k c) IsFontKey
    by (Define d) e older = chosen (int_eq d.number k) (key_of d) (font_table before k) (key_fits res before p d s.1 e) older
    by _ e older = older

-- what is found after a reference
pub found_fits : {A : Type 0} (seen : A → FontKey) (found : Option A) (o : Option FontKey) → option_map seen found ≡ o → IfSome o IsFontKey → IfSome found (λ a. IsFontKey (seen a))
found_fits seen None o e fits = tt
found_fits seen (Some a) None e fits = cc
found_fits seen (Some a) (Some k) e fits = let same : seen a ≡ k = cc in rw same fits
