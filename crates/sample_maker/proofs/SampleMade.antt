-- The pages of the sample are whole commands, and its document is one.
use Rattle.std.proofs.Common.{◌≡◌, ℕ, zero, suc, ◌+◌, ◌*◌, ◌%◌, ◌≤◌, ℤ, pos, false, List, [], ◌∷◌, ◌++◌, length, map, Option, refl, sym, ap, subst, arith, replicate, inl}
use Rattle.std.specs.Prelude.{All, IsTrue, slice_index}
use Rattle.std.specs.List.{AllByRecursion, flat_map, range_with_len, repeat}
use Rattle.std.proofs.lemmas.Bool.{le-leb}
use Rattle.outside.specs.declared.keys.FontKey.{FontKey}
use Rattle.pixel_round.specs.Limits.{MAX_RESOLUTION}
use Rattle.dvi_commands.specs.Spelling.{DviCommand, Down, FieldsFit, Font, Pop, Push, Set, Spells}
use Rattle.dvi_commands.specs.Refusal.{may_stand}
use Rattle.dvi_commands.specs.Reading.{AreCommands, commands_of}
use Rattle.dvi_commands.specs.declared.command.Context.TheVariants as context
use Rattle.page_index.specs.Limits.{MAX_DOCUMENT_LENGTH}
use Rattle.page_index.specs.Document.{IsDocument, Reading, is_eop}
use Rattle.sample_maker.specs.DviFile.{AreSigned, DefineRightly, GivesBack, IsFontSpelled, IsPageText, IsRightDefinition, IsWritable, document_reading, document_text, fonts_text, key_given}
use Rattle.sample_maker.specs.Sample.{line, sample_document, sample_fonts, sample_page, sample_pages, sample_units}
use Rattle.sample_maker.proofs.PageTexts.{commands_are}
use Rattle.sample_maker.proofs.DviRead.{gives_back}
use Rattle.sample_maker.proofs.DviSize.{document_size, pages_size}
use Rattle.sample_maker.proofs.DviSound.{is_document}

-- ---- the commands of a page

one_more : (c : DviCommand) (prefix rest : List ℕ) (commands : List DviCommand) → Spells c prefix → IsTrue (may_stand context.Page (slice_index prefix 0)) → AreCommands context.Page commands rest
    → AreCommands context.Page (c ∷ commands) (prefix ++ rest)
one_more c prefix rest commands spelled allowed h = (prefix, rest, record { whole = refl; spelled = spelled; allowed = allowed }, h)

-- n characters 65
characters : (n : ℕ) (rest : List ℕ) (commands : List DviCommand) → AreCommands context.Page commands rest → AreCommands context.Page (replicate n (Set (pos 65)) ++ commands) (replicate n 0x41 ++ rest)
characters zero rest commands h = h
characters (suc n) rest commands h = one_more (Set (pos 65)) (0x41 ∷ []) (replicate n 0x41 ++ rest) (replicate n (Set (pos 65)) ++ commands) (0, omega arith, refl) refl (characters n rest commands h)

abbrev line_commands : List DviCommand
line_commands = Push ∷ Set (pos 65) ∷ Set (pos 65) ∷ Set (pos 65) ∷ Set (pos 65) ∷ Pop ∷ Down (pos 40) ∷ []

one_line : (rest : List ℕ) (commands : List DviCommand) → AreCommands context.Page commands rest → AreCommands context.Page (line_commands ++ commands) (line ++ rest)
one_line rest commands h =
    let down = one_more (Down (pos 40)) (0x9e ∷ 0x00 ∷ 0x28 ∷ []) rest commands (2, (omega arith, omega arith, omega arith), refl) refl h in
    let pop = one_more Pop (0x8e ∷ []) (0x9e ∷ 0x00 ∷ 0x28 ∷ rest) (Down (pos 40) ∷ commands) (0, refl, refl) refl down in
    let four = characters 4 (0x8e ∷ 0x9e ∷ 0x00 ∷ 0x28 ∷ rest) (Pop ∷ Down (pos 40) ∷ commands) pop in
    one_more Push (0x8d ∷ []) (replicate 4 0x41 ++ (0x8e ∷ 0x9e ∷ 0x00 ∷ 0x28 ∷ rest)) (replicate 4 (Set (pos 65)) ++ (Pop ∷ Down (pos 40) ∷ commands)) (0, refl, refl) refl four

lines : (k : ℕ) (rest : List ℕ) (commands : List DviCommand) → AreCommands context.Page commands rest → AreCommands context.Page (repeat k line_commands ++ commands) (repeat k line ++ rest)
lines zero rest commands h = h
lines (suc k) rest commands h = one_line (repeat k line ++ rest) (repeat k line_commands ++ commands) (lines k rest commands h)

abbrev last_commands : List DviCommand
last_commands = Font (pos 1) ∷ Set (pos 65) ∷ Set (pos 65) ∷ Set (pos 65) ∷ Set (pos 65) ∷ Set (pos 65) ∷ []

last_line : AreCommands context.Page last_commands (0xac ∷ replicate 5 0x41)
last_line = one_more (Font (pos 1)) (0xac ∷ []) (replicate 5 0x41) (replicate 5 (Set (pos 65))) (0, omega arith, refl) refl (characters 5 [] [] refl)

abbrev commands_on : ℕ → List DviCommand
commands_on i = Font (pos 0) ∷ repeat (1 + i % 3) line_commands ++ last_commands

are_commands : (i : ℕ) → AreCommands context.Page (commands_on i) (sample_page i)
unfolding sample_page
are_commands i =
    one_more (Font (pos 0)) (0xab ∷ []) (repeat (1 + i % 3) line ++ (0xac ∷ replicate 5 0x41)) (repeat (1 + i % 3) line_commands ++ last_commands) (0, omega arith, refl) refl
    (lines (1 + i % 3) (0xac ∷ replicate 5 0x41) last_commands last_line)

-- what holds of each kind of command holds of all
module _ (P : DviCommand → Type 0) (font : (k : ℤ) → P (Font k)) (set : (c : ℤ) → P (Set c)) (push : P Push) (pop : P Pop) (down : (a : ℤ) → P (Down a)) where
  on_lines : (k : ℕ) (commands : List DviCommand) → AllByRecursion P commands → AllByRecursion P (repeat k line_commands ++ commands)
  on_lines zero commands h = h
  on_lines (suc k) commands h =
      (push, (set (pos 65), (set (pos 65), (set (pos 65), (set (pos 65), (pop, (down (pos 40), on_lines k commands h)))))))

  on_page : (i : ℕ) → AllByRecursion P (commands_on i)
  on_page i =
      (font (pos 0), on_lines (1 + i % 3) last_commands (font (pos 1), (set (pos 65), (set (pos 65), (set (pos 65), (set (pos 65), (set (pos 65), tt)))))))

page_is : (i : ℕ) → IsPageText (sample_page i)
page_is i = record {
  commands = commands_on i;
  are = are_commands i;
  no_end = on_page (λ c. is_eop c ≡ false) (λ k. refl) (λ c. refl) refl refl (λ a. refl) i;
}

pages_are_from : (n a : ℕ) → AllByRecursion IsPageText (map sample_page (range_with_len a n))
pages_are_from zero a = tt
pages_are_from (suc n) a = (page_is a, pages_are_from n (a + 1))

pub pages_are : (n : ℕ) → AllByRecursion IsPageText (sample_pages n)
unfolding sample_pages
pages_are n = pages_are_from n 1

-- ---- how long it is

line_size : (k : ℕ) (rest : List ℕ) → length (repeat k line ++ rest) ≡ 9 * k + length rest
line_size zero rest = omega arith
line_size (suc k) rest = omega (arith, line_size k rest)

page_size : (i : ℕ) → length (sample_page i) ≤ 34
unfolding sample_page
page_size i = omega (arith, line_size (1 + i % 3) (0xac ∷ replicate 5 0x41))

pages_short_from : (n a : ℕ) → pages_size (map sample_page (range_with_len a n)) ≤ 80 * n
pages_short_from zero a = omega arith
pages_short_from (suc n) a = omega (arith, page_size a, pages_short_from n (a + 1))

as_many : (n a : ℕ) → length (map sample_page (range_with_len a n)) ≡ n
as_many zero a = refl
as_many (suc n) a = ap suc (as_many n (a + 1))

pub pages_count : (n : ℕ) → length (sample_pages n) ≡ n
unfolding sample_pages
pages_count n = as_many n 1

fonts_size : length (fonts_text sample_fonts) ≡ 57
fonts_size = refl

pub document_short : (n : ℕ) → length (document_text sample_units sample_fonts (sample_pages n)) ≤ 171 + 80 * n
unfolding sample_pages
document_short n = omega (arith, document_size sample_units sample_fonts (map sample_page (range_with_len 1 n)) (pages_are_from n 1), fonts_size, pages_short_from n 1)

-- ---- its definitions

-- commands that define nothing
abbrev DefinesNothing : DviCommand → Type 0
DefinesNothing c = (known : ℤ → Option FontKey) → IsRightDefinition known c

define_nothing : (commands : List DviCommand) → AllByRecursion DefinesNothing commands → (known : ℤ → Option FontKey) → DefineRightly known commands
define_nothing [] h known = tt
define_nothing (c ∷ commands) h known = (h.0 known, define_nothing commands h.1 _)

both : (P : DviCommand → Type 0) (xs ys : List DviCommand) → AllByRecursion P xs → AllByRecursion P ys → AllByRecursion P (xs ++ ys)
both P [] ys h g = g
both P (x ∷ xs) ys h g = (h.0, both P xs ys h.1 g)

nothing_from : (n a : ℕ) → AllByRecursion DefinesNothing (flat_map commands_of (map sample_page (range_with_len a n)))
nothing_from zero a = tt
nothing_from (suc n) a =
    both DefinesNothing (commands_of (sample_page a)) _
    (subst (AllByRecursion DefinesNothing) (sym (commands_are (commands_on a) (sample_page a) (are_commands a))) (on_page DefinesNothing (λ k known. tt) (λ c known. tt) (λ known. tt) (λ known. tt) (λ b known. tt) a))
    (nothing_from n (a + 1))

pages_define : (n : ℕ) → DefineRightly (key_given sample_fonts) (flat_map commands_of (sample_pages n))
unfolding sample_pages
pages_define n = define_nothing _ (nothing_from n 1) _

-- ---- its fonts and units

signed : AreSigned sample_units
signed = record { num = (omega arith, omega arith); den = (omega arith, omega arith); mag = (omega arith, omega arith) }

writable : AllByRecursion IsWritable sample_fonts
writable = (one, (one, (one, tt)))
  where
    one : {k : ℤ} {a b c : ℕ} → IsWritable (k, record { area = 0; name = a ∷ b ∷ c ∷ []; size = 128; design = 128 })
    one = record { key = record { size = (omega arith, omega arith); design = (omega arith, omega arith); area = omega arith }; rest = omega arith }

fields_fit : (k : ℤ) (a b c : ℕ) → FieldsFit (record { number = k; check = 0; size = pos 128; design = pos 128; area = 0; name = a ∷ b ∷ c ∷ [] })
fields_fit k a b c = record { check = omega arith; size = omega arith; design = omega arith; area = omega arith; area_fits = omega arith; name_fits = omega arith }

spelled : All IsFontSpelled sample_fonts
spelled zero f lt = record { spelled = (1, (inl (omega arith, omega arith, omega arith), fields_fit (pos 0) _ _ _), refl) }
spelled (suc zero) f lt = record { spelled = (1, (inl (omega arith, omega arith, omega arith), fields_fit (pos 1) _ _ _), refl) }
spelled (suc (suc zero)) f lt = record { spelled = (1, (inl (omega arith, omega arith, omega arith), fields_fit (pos 2) _ _ _), refl) }
spelled (suc (suc (suc n))) f lt = absurd (omega (arith, lt))

-- ---- the laws

pub is_sample : (n res : ℕ) → 1 ≤ n → n ≤ 1000 → 1 ≤ res → res ≤ MAX_RESOLUTION → (reading : Reading) × IsDocument res (sample_document n) reading
unfolding sample_document
is_sample n res some few fine coarse = (
  document_reading sample_units sample_fonts (sample_pages n),
  is_document sample_units sample_fonts (sample_pages n) signed writable spelled refl (omega (arith, pages_count n, few)) (pages_are n) (omega (arith, document_short n, few)) res
      (le-leb (1270 * res * 1000) (512 * (254000000 * 3)) (omega (arith, coarse))) (pages_define n),
)

pub sample_gives : (n res : ℕ) (reading : Reading) → 1 ≤ n → n ≤ 1000 → IsDocument res (sample_document n) reading → GivesBack sample_units sample_fonts (sample_pages n) res reading
unfolding sample_document
sample_gives n res reading some few is =
    gives_back sample_units sample_fonts (sample_pages n) signed.num.1 signed.den.1 signed.mag.1 spelled refl (omega (arith, pages_count n, few)) (pages_are n) (omega (arith, document_short n, few)) res reading is

pub sample_fits : (n : ℕ) → n ≤ 1000 → length (sample_document n) ≤ MAX_DOCUMENT_LENGTH
unfolding sample_document
sample_fits n few = omega (arith, document_short n, few)
