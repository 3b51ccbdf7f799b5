-- What a command of each kind adds to the sums.
use Rattle.std.proofs.Common.{◌≡◌, ◌∙◌, ◌+◌, ◌-◌, ◌%◌, ◌≤◌, ◌<◌, ◌⊎◌, ℕ, Bool, true, false, List, [], ◌∷◌, ap, arith}
use Rattle.std.specs.Prelude.{◌==◌, ◌||◌, not, if◌then◌else◌}
use Rattle.std.proofs.lemmas.Bool.Decides.{nat_tests}
use Rattle.gf_reader.specs.Items.{is_new_row, is_paint, is_skip, opcode}
use Rattle.gf_reader.specs.Commands.{columns_moved, column_after, row_commands, is_black_after, number_of, paint_length, row_after, sum_of, colour_changes}

-- whether a command is a paint, a skip, or the beginning of a new row
pub record IsKind (item : List ℕ) (paint skip row : Bool) : Type 0 where
  pub paints : is_paint (opcode item) ≡ paint
  pub skips : is_skip (opcode item) ≡ skip
  pub rows : is_new_row (opcode item) ≡ row

pub paint_kind : (item : List ℕ) → opcode item ≤ 66 → IsKind item true false false
paint_kind item low = record { paints = grind (arith, nat_tests); skips = grind (arith, nat_tests); rows = grind (arith, nat_tests) }

pub skip_kind : (item : List ℕ) → 70 ≤ opcode item → opcode item ≤ 73 → IsKind item false true false
skip_kind item high low = record { paints = grind (arith, nat_tests); skips = grind (arith, nat_tests); rows = grind (arith, nat_tests) }

pub row_kind : (item : List ℕ) → 74 ≤ opcode item → opcode item ≤ 238 → IsKind item false false true
row_kind item high low = record { paints = grind (arith, nat_tests); skips = grind (arith, nat_tests); rows = grind (arith, nat_tests) }

-- ---- the sums

abbrev Across : Bool → Bool → List ℕ → ℕ
Across paint row item = if paint then paint_length item else if row then opcode item - 74 else 0

abbrev Down : Bool → Bool → List ℕ → ℕ
Down skip row item = if skip then 1 + number_of item else if row then 1 else 0

abbrev Turns : Bool → Bool → ℕ
Turns paint row = if paint || row then 1 else 0

abbrev Row : Bool → Bool → List (List ℕ) → List (List ℕ)
Row skip row before = if skip || row then [] else row_commands before

pub column_by : (item : List ℕ) (before : List (List ℕ)) (p s r : Bool) → IsKind item p s r → column_after (item ∷ before) ≡ sum_of columns_moved (Row s r before) + Across p r item
column_by item before p s r k =
    ap (λ b. sum_of columns_moved (Row b (is_new_row (opcode item)) before) + Across (is_paint (opcode item)) (is_new_row (opcode item)) item) k.skips
    ∙ ap (λ b. sum_of columns_moved (Row s b before) + Across (is_paint (opcode item)) b item) k.rows
    ∙ ap (λ b. sum_of columns_moved (Row s r before) + Across b r item) k.paints

pub row_by : (item : List ℕ) (before : List (List ℕ)) (p s r : Bool) → IsKind item p s r → row_after (item ∷ before) ≡ row_after before + Down s r item
row_by item before p s r k =
    ap (λ b. row_after before + Down b (is_new_row (opcode item)) item) k.skips ∙ ap (λ b. row_after before + Down s b item) k.rows

pub black_by : (item : List ℕ) (before : List (List ℕ)) (p s r : Bool) → IsKind item p s r → is_black_after (item ∷ before) ≡ ((sum_of colour_changes (Row s r before) + Turns p r) % 2 == 1)
black_by item before p s r k =
    ap (λ b. (sum_of colour_changes (Row b (is_new_row (opcode item)) before) + Turns (is_paint (opcode item)) (is_new_row (opcode item))) % 2 == 1) k.skips
    ∙ ap (λ b. (sum_of colour_changes (Row s b before) + Turns (is_paint (opcode item)) b) % 2 == 1) k.rows
    ∙ ap (λ b. (sum_of colour_changes (Row s r before) + Turns b r) % 2 == 1) k.paints

pub turned : (n : ℕ) → ((n + 1) % 2 == 1) ≡ not (n % 2 == 1)
turned n = grind (arith, nat_tests)

pub no_kind : (item : List ℕ) → 66 < opcode item → ((70 ≤ opcode item) × (73 < opcode item)) ⊎ (opcode item < 70)
    → ((74 ≤ opcode item) × (238 < opcode item)) ⊎ (opcode item < 74) → IsKind item false false false
no_kind item high a b = record { paints = grind (arith, nat_tests); skips = grind (arith, nat_tests); rows = grind (arith, nat_tests) }
