-- The items of a made VF file, and what they say.
use Rattle.std.proofs.Common.{◌≡◌, ◌∙◌, ℕ, zero, suc, ◌^◌, ◌<◌, ◌≤◌, inl, inr, ℤ, pos, negsuc, Bool, true, false, List, [], ◌∷◌, ◌++◌, length, refl, ap, arith, append_assoc}
use Rattle.std.specs.Prelude.{nat_le, if◌then◌else◌}
use Rattle.std.proofs.lemmas.Bool.{cases_Bool, le-leb, lt-leb, leb-true}
use Rattle.big_endian.specs.Numbers.{number_bytes}
use Rattle.big_endian.proofs.Bytes.{unsigned_is_read_again}
use Rattle.dvi_commands.specs.Spelling.{Define, Definition, Spells, spelling}
use Rattle.dvi_commands.specs.ShortestSpelling.{number_width}
use Rattle.dvi_commands.proofs.Determined.{determined_by_bytes}
use Rattle.vf_reader.specs.Items.{IsItem, code_of, definition_of, is_packet, program_of}
use Rattle.vf_reader.specs.declared.locals.LocalDef.{LocalDef}
use Rattle.sample_maker.specs.VfFile.{IsLocalSpelled, IsLocalWritable, IsPacketWritable, VfPacket, local_definition, local_item, long_packet, packet_item, short_packet}

-- ---- packets

pub record IsPacketOf (p : VfPacket) (bytes : List ℕ) : Type 0 where
  pub item : IsItem bytes
  pub kind : is_packet bytes ≡ true
  pub code : code_of bytes ≡ p.0
  pub program : program_of bytes ≡ p.2

short_is : (code : ℕ) (width : ℤ) (body : List ℕ) → nat_le (length body) 241 ≡ true → IsPacketOf (code, width, body) (short_packet (code, width, body))
short_is code width body short =
    let few : length body ≤ 241 = leb-true _ _ short in
    record {
      item = record { known = omega arith; whole = rw short (omega arith) };
      kind = le-leb (length body) 242 (omega arith);
      code = rw short refl;
      program = rw short refl;
    }

long_is : (code : ℕ) (width : ℤ) (body : List ℕ) → code < 256 → length body < 2 ^ 32 → IsPacketOf (code, width, body) (long_packet (code, width, body))
long_is code width body small fits = record {
  item = record { known = omega arith; whole = omega (arith, unsigned_is_read_again 4 (length body) (omega arith) (omega arith) fits) };
  kind = refl;
  code = unsigned_is_read_again 4 code (omega arith) (omega arith) (omega (arith, small));
  program = refl;
}

pub packet_is : (p : VfPacket) → IsPacketWritable p → IsPacketOf p (packet_item p)
unfolding packet_item
packet_is p h = elim (cases_Bool (nat_le (length p.2) 241)) [
  | inl short ↦ rw short (short_is p.0 p.1 p.2 short)
  | inr long ↦ rw long (long_is p.0 p.1 p.2 h.code h.commands)
]

-- ---- local fonts

pub record IsDefinitionOf (d : Definition) (bytes : List ℕ) : Type 0 where
  pub item : IsItem bytes
  pub kind : is_packet bytes ≡ false
  pub definition : definition_of bytes ≡ d

defined : (d e : Definition) → Define d ≡ Define e → e ≡ d
defined d e same = cc

by_number : (n : ℕ) (d : Definition) → 1 ≤ n → n ≤ 4 → d.area ≤ length d.name → Spells (Define d) (spelling (Define d) n) → IsDefinitionOf d (spelling (Define d) n)
by_number zero d some few area h = absurd (omega arith)
by_number (suc zero) d some few area h = record { item = record { known = omega arith; whole = omega arith }; kind = refl; definition = defined d _ (determined_by_bytes (Define d) _ h) }
by_number (suc (suc zero)) d some few area h = record { item = record { known = omega arith; whole = omega arith }; kind = refl; definition = defined d _ (determined_by_bytes (Define d) _ h) }
by_number (suc (suc (suc zero))) d some few area h = record { item = record { known = omega arith; whole = omega arith }; kind = refl; definition = defined d _ (determined_by_bytes (Define d) _ h) }
by_number (suc (suc (suc (suc zero)))) d some few area h = record { item = record { known = omega arith; whole = omega arith }; kind = refl; definition = defined d _ (determined_by_bytes (Define d) _ h) }
by_number (suc (suc (suc (suc (suc n))))) d some few area h = absurd (omega arith)

some_width : (a b c : Bool) → (1 ≤ (if a then 1 else if b then 2 else if c then 3 else 4)) × ((if a then 1 else if b then 2 else if c then 3 else 4) ≤ 4)
some_width true b c = (omega arith, omega arith)
some_width false true c = (omega arith, omega arith)
some_width false false true = (omega arith, omega arith)
some_width false false false = (omega arith, omega arith)

width_range : (z : ℤ) → (1 ≤ number_width z) × (number_width z ≤ 4)
width_range (pos m) = some_width _ _ _
width_range (negsuc m) = (omega arith, omega arith)

pub local_is : (d : LocalDef) → IsLocalWritable d → IsLocalSpelled d → IsDefinitionOf (local_definition d) (local_item d)
local_is d w s = by_number (number_width d.number) (local_definition d) (width_range d.number).0 (width_range d.number).1 w.area s.spelled

-- ---- packets as they are appended

pub short_form : (p : VfPacket) → length p.2 ≤ 241 → short_packet p ≡ packet_item p
unfolding packet_item
short_form p few = rw (le-leb (length p.2) 241 few) refl

pub long_form : (p : VfPacket) → 241 < length p.2 → long_packet p ≡ packet_item p
unfolding packet_item
long_form p many = rw (lt-leb (length p.2) 241 many) refl

pub long_joined : (out a b c d body l k w : List ℕ) (n code : ℕ) (width : ℤ) → a ≡ out ++ 242 ∷ [] → b ≡ a ++ l → c ≡ b ++ k → d ≡ c ++ w
    → l ≡ number_bytes 4 (pos n) → k ≡ number_bytes 4 (pos code) → w ≡ number_bytes 4 width → n ≡ length body → d ++ body ≡ out ++ long_packet (code, width, body)
long_joined out a b c d body l k w n code width ea eb ec ed el ek ew en =
    ap (λ t. t ++ body) (ed ∙ ap (λ t. t ++ w) (ec ∙ ap (λ t. t ++ k) (eb ∙ ap (λ t. t ++ l) ea)))
    ∙ five out (242 ∷ []) l k w body
    ∙ ap (λ t. out ++ (242 ∷ (((t ++ k) ++ w) ++ body))) (el ∙ ap (λ m. number_bytes 4 (pos m)) en)
    ∙ ap (λ t. out ++ (242 ∷ (((number_bytes 4 (pos (length body)) ++ t) ++ w) ++ body))) ek
    ∙ ap (λ t. out ++ (242 ∷ (((number_bytes 4 (pos (length body)) ++ number_bytes 4 (pos code)) ++ t) ++ body))) ew
  where
    five : (o z l k w x : List ℕ) → ((((o ++ z) ++ l) ++ k) ++ w) ++ x ≡ o ++ (z ++ (((l ++ k) ++ w) ++ x))
    five o z l k w x = simp append_assoc
