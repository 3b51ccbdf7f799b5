-- The numbers that bytes spell, for the fields of a command.
use Rattle.std.proofs.Common.{◌≡◌, ℕ, zero, suc, ◌+◌, ◌*◌, ◌<◌, ◌≤◌, ℤ, pos, List, [], ◌∷◌, length, take, drop, subst, arith, inl, inr, length-drop, length-take}
use Rattle.std.specs.Prelude.{slice_index}
use Rattle.std.specs.List.{AllByRecursion}
use Rattle.std.proofs.lemmas.Bool.{cases_lt}
use Rattle.big_endian.specs.Numbers.{AreBytes, IsSigned, number_bytes, signed_of, unsigned_of}
use Rattle.big_endian.proofs.Bytes.{signed_is_written_again, unsigned_is_written_again}
use Rattle.dvi_commands.specs.Spelling.{IsOperand, quad}
use Rattle.dvi_commands.specs.Reading.{signed_from}
use Rattle.dvi_commands.proofs.Motions.{AreQuadsFrom}

pub bytes_after : (n : ℕ) (x : List ℕ) → AreBytes x → AreBytes (drop n x)
bytes_after zero x h = h
bytes_after (suc n) [] h = tt
bytes_after (suc n) (b ∷ x) h = bytes_after n x h.1

pub bytes_before : (n : ℕ) (x : List ℕ) → AreBytes x → AreBytes (take n x)
bytes_before zero x h = tt
bytes_before (suc n) [] h = tt
bytes_before (suc n) (b ∷ x) h = (h.0, bytes_before n x h.1)

pub byte_at : (x : List ℕ) (k : ℕ) → AreBytes x → slice_index x k < 256
byte_at [] k h = omega arith
byte_at (b ∷ x) zero h = h.0
byte_at (b ∷ x) (suc k) h = byte_at x k h.1

four_long : (i : ℕ) (fields : List ℕ) → i + 4 ≤ length fields → length (take 4 (drop i fields)) ≡ 4
four_long i fields room = grind (arith, length-take, length-drop)

pub quad_at : (i : ℕ) (fields : List ℕ) → AreBytes fields → i + 4 ≤ length fields → IsSigned 4 (signed_from fields i) × (quad (signed_from fields i) ≡ take 4 (drop i fields))
quad_at i fields few room =
    let piece = take 4 (drop i fields) in
    let long = four_long i fields room in
    let again = signed_is_written_again piece (bytes_before 4 (drop i fields) (bytes_after i fields few)) (omega (arith, long)) (omega (arith, long)) in
    (subst (λ k. IsSigned k (signed_of piece)) long again.1, subst (λ k. number_bytes k (signed_of piece) ≡ piece) long again.0)

-- n numbers of four bytes, from a place on
abbrev pub numbers_from : ℕ → ℕ → List ℕ → List ℤ
numbers_from zero i fields = []
numbers_from (suc n) i fields = signed_from fields i ∷ numbers_from n (i + 4) fields

pub numbers_are : (n i : ℕ) (fields : List ℕ) → AreBytes fields → i + 4 * n ≤ length fields → AllByRecursion (IsSigned 4) (numbers_from n i fields) × AreQuadsFrom i (numbers_from n i fields) fields
numbers_are zero i fields few room = (tt, tt)
numbers_are (suc n) i fields few room =
    let first = quad_at i fields few (omega (arith, room)) in
    let more = numbers_are n (i + 4) fields few (omega (arith, room)) in
    ((first.0, more.0), (first.1, more.1))

-- the number of a character or a font
pub code_of : (fields : List ℕ) → AreBytes fields → 1 ≤ length fields → length fields ≤ 4 → (z : ℤ) × IsOperand (length fields) z × (number_bytes (length fields) z ≡ fields)
code_of fields few low high = elim (cases_lt 3 (length fields)) [
  | inl four ↦
      let long : length fields ≡ 4 = omega arith in
      let again = signed_is_written_again fields few low high in
      (signed_of fields, inr (long, subst (λ k. IsSigned k (signed_of fields)) long again.1), again.0)
  | inr three ↦
      let again = unsigned_is_written_again fields few low high in
      (pos (unsigned_of fields), inl (low, three, again.1), again.0)
]
