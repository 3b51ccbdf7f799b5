-- The uses that name a sample and the switches of some settings.
use Rattle.std.proofs.Common.{◌≡◌, ◌∙◌, ◌≤◌, ◌<◌, ◌^◌, ℕ, Bool, true, false, List, [], ◌∷◌, ◌++◌}
use Rattle.std.proofs.Common.{length, Option, Some, None, codes, decimal, refl, ap, arith, le-leb}
use Rattle.std.specs.Prelude.{IfSome, bytes_eq, find, nat_le, option_map}
use Rattle.std.specs.Option.{option_map_or}
use Rattle.std.specs.Str.Parse.{digits_value}
use Rattle.std.proofs.lemmas.Bool.{and_from}
use Rattle.std.proofs.lemmas.Fmt.{decimal_nonempty, digits_decimal, digits_value-decimal}
use Rattle.std.proofs.lemmas.Fmt.{length-decimal-le}
use Rattle.command_line.specs.Line.{Choice, Text, Use, are_distinct, choices, is_named, is_used}
use Rattle.command_line.specs.Line.{is_value, number_in, number_of, switch, uses_from}
use Rattle.command_line.specs.Laws.{naming_if, naming_some}
use Rattle.command_line.proofs.Digits.{own}

-- ---- numbers in decimal

pub told : (n : ℕ) → n < 10 ^ 10 → digits_value 10 (decimal n) ≡ n
told n small = digits_value-decimal own n (omega arith)

pub is_value-decimal : (n : ℕ) → n < 10 ^ 10 → is_value (decimal n) ≡ true
is_value-decimal n small =
    let fits : n < 2 ^ 64 = omega arith in
    let few : length (decimal n) ≤ 10 = length-decimal-le 10 n (omega arith) small fits in
    and_from _ _ (and_from _ _ (le-leb 1 _ (decimal_nonempty n fits)) (le-leb _ 10 few))
    (digits_decimal own n fits)

-- where the bounds leave a number no more digits
pub few_digits : (digits n : ℕ) → 1 ≤ digits → n < 10 ^ digits → n < 2 ^ 64
    → nat_le (length (decimal n)) digits ≡ true
few_digits digits n some small fits =
    le-leb _ digits (length-decimal-le digits n some small fits)

-- ---- a switch before other uses

abbrev pub use_of : Choice → ℕ → Use
use_of c n = record { choice = c; value = decimal n }

abbrev pub sample_uses : Option ℕ → List Use
sample_uses None = []
sample_uses (Some n) = use_of (number_in (codes "sample") 1 1000) n ∷ []

abbrev pub switch_uses : Text → Bool → List Use
switch_uses name true = record { choice = switch name; value = [] } ∷ []
switch_uses name false = []

past : (name other : Text) (on : Bool) (us : List Use) → bytes_eq other name ≡ false
    → find (is_named name) (switch_uses other on ++ us) ≡ find (is_named name) us
past name other true us apart = rw apart refl
past name other false us apart = refl

unused : (name other : Text) (on : Bool) (us : List Use) → bytes_eq other name ≡ false
    → is_used name (switch_uses other on ++ us) ≡ is_used name us
unused name other true us apart = rw apart refl
unused name other false us apart = refl

used : (name : Text) (on : Bool) (us : List Use) → bytes_eq name name ≡ true
    → is_used name us ≡ false → is_used name (switch_uses name on ++ us) ≡ on
used name true us own none = rw own refl
used name false us own none = none

distinct_more : (name : Text) (on : Bool) (us : List Use) → is_used name us ≡ false
    → are_distinct us ≡ true → are_distinct (switch_uses name on ++ us) ≡ true
distinct_more name true us none distinct = rw (none, distinct) refl
distinct_more name false us none distinct = distinct

-- ---- all of them

abbrev tolerant_uses : Bool → List Use
tolerant_uses tolerant = switch_uses (codes "tolerant") tolerant

abbrev summary_uses : (summary tolerant : Bool) → List Use
summary_uses summary tolerant = switch_uses (codes "summary") summary ++ tolerant_uses tolerant

abbrev trace_uses : (trace summary tolerant : Bool) → List Use
trace_uses trace summary tolerant =
    switch_uses (codes "trace") trace ++ summary_uses summary tolerant

abbrev packed_uses : (packed trace summary tolerant : Bool) → List Use
packed_uses packed trace summary tolerant =
    switch_uses (codes "packed") packed ++ trace_uses trace summary tolerant

abbrev pub more_uses : Option ℕ → (packed trace summary tolerant : Bool) → List Use
more_uses sample packed trace summary tolerant =
    sample_uses sample ++ packed_uses packed trace summary tolerant

tolerant_spelled : (tolerant : Bool)
    → uses_from choices None (naming_if (codes "tolerant") tolerant) ≡ Some (tolerant_uses tolerant)
tolerant_spelled true = refl
tolerant_spelled false = refl

summary_spelled : (summary tolerant : Bool) → uses_from choices None
    (naming_if (codes "summary") summary ++ naming_if (codes "tolerant") tolerant)
    ≡ Some (summary_uses summary tolerant)
summary_spelled true tolerant = rw (tolerant_spelled tolerant) refl
summary_spelled false tolerant = tolerant_spelled tolerant

trace_spelled : (trace summary tolerant : Bool) → uses_from choices None
    (naming_if (codes "trace") trace
    ++ (naming_if (codes "summary") summary ++ naming_if (codes "tolerant") tolerant))
    ≡ Some (trace_uses trace summary tolerant)
trace_spelled true summary tolerant = rw (summary_spelled summary tolerant) refl
trace_spelled false summary tolerant = summary_spelled summary tolerant

packed_spelled : (packed trace summary tolerant : Bool) → uses_from choices None
    (naming_if (codes "packed") packed ++ (naming_if (codes "trace") trace
    ++ (naming_if (codes "summary") summary ++ naming_if (codes "tolerant") tolerant)))
    ≡ Some (packed_uses packed trace summary tolerant)
packed_spelled true trace summary tolerant = rw (trace_spelled trace summary tolerant) refl
packed_spelled false trace summary tolerant = trace_spelled trace summary tolerant

pub more_spelled : (sample : Option ℕ) (packed trace summary tolerant : Bool)
    → IfSome sample (λ n. (1 ≤ n) × (n ≤ 1000))
    → uses_from choices None (naming_some (codes "sample") sample
    ++ (naming_if (codes "packed") packed ++ (naming_if (codes "trace") trace
    ++ (naming_if (codes "summary") summary ++ naming_if (codes "tolerant") tolerant))))
    ≡ Some (more_uses sample packed trace summary tolerant)
more_spelled None packed trace summary tolerant h = packed_spelled packed trace summary tolerant
more_spelled (Some n) packed trace summary tolerant h =
    let small : n < 10 ^ 10 = omega (arith, h.1) in
    rw (is_value-decimal n small, packed_spelled packed trace summary tolerant) refl

-- ---- what these uses set

none_tolerant : (name : Text) (tolerant : Bool) → bytes_eq (codes "tolerant") name ≡ false
    → is_used name (tolerant_uses tolerant) ≡ false
none_tolerant name true apart = rw apart refl
none_tolerant name false apart = refl

module _ (packed trace summary tolerant : Bool) where
  -- a name that is none of theirs
  no_switch : (name : Text)
      → bytes_eq (codes "packed") name ≡ false → bytes_eq (codes "trace") name ≡ false
      → bytes_eq (codes "summary") name ≡ false → bytes_eq (codes "tolerant") name ≡ false
      → is_used name (packed_uses packed trace summary tolerant) ≡ false
  no_switch name b c d e =
      unused name (codes "packed") packed (trace_uses trace summary tolerant) b
      ∙ (unused name (codes "trace") trace (summary_uses summary tolerant) c
      ∙ (unused name (codes "summary") summary (tolerant_uses tolerant) d
      ∙ none_tolerant name tolerant e))

  pub unnamed : (name : Text) (sample : Option ℕ) → bytes_eq (codes "sample") name ≡ false
      → bytes_eq (codes "packed") name ≡ false → bytes_eq (codes "trace") name ≡ false
      → bytes_eq (codes "summary") name ≡ false → bytes_eq (codes "tolerant") name ≡ false
      → is_used name (more_uses sample packed trace summary tolerant) ≡ false
  unnamed name None a b c d e = no_switch name b c d e
  unnamed name (Some n) a b c d e = rw (a, no_switch name b c d e) refl

  tolerant_here : (t : Bool) → is_used (codes "tolerant") (tolerant_uses t) ≡ t
  tolerant_here true = refl
  tolerant_here false = refl

  summary_here : is_used (codes "summary") (summary_uses summary tolerant) ≡ summary
  summary_here =
      used (codes "summary") summary (tolerant_uses tolerant) refl
      (none_tolerant (codes "summary") tolerant refl)

  trace_none : is_used (codes "trace") (summary_uses summary tolerant) ≡ false
  trace_none =
      unused (codes "trace") (codes "summary") summary (tolerant_uses tolerant) refl
      ∙ none_tolerant (codes "trace") tolerant refl

  packed_none : is_used (codes "packed") (trace_uses trace summary tolerant) ≡ false
  packed_none =
      unused (codes "packed") (codes "trace") trace (summary_uses summary tolerant) refl
      ∙ (unused (codes "packed") (codes "summary") summary (tolerant_uses tolerant) refl
      ∙ none_tolerant (codes "packed") tolerant refl)

  alone : (t : Bool) → are_distinct (tolerant_uses t) ≡ true
  alone true = refl
  alone false = refl

  switches : are_distinct (packed_uses packed trace summary tolerant) ≡ true
  switches =
      distinct_more (codes "packed") packed (trace_uses trace summary tolerant) packed_none
      (distinct_more (codes "trace") trace (summary_uses summary tolerant) trace_none
      (distinct_more (codes "summary") summary (tolerant_uses tolerant)
      (none_tolerant (codes "summary") tolerant refl) (alone tolerant)))

  pub more_distinct : (sample : Option ℕ)
      → are_distinct (more_uses sample packed trace summary tolerant) ≡ true
  more_distinct None = switches
  more_distinct (Some n) = rw (no_switch (codes "sample") refl refl refl refl, switches) refl

  -- each switch
  packed_by : is_used (codes "packed") (packed_uses packed trace summary tolerant) ≡ packed
  packed_by = used (codes "packed") packed (trace_uses trace summary tolerant) refl packed_none

  pub packed_is : (sample : Option ℕ)
      → is_used (codes "packed") (more_uses sample packed trace summary tolerant) ≡ packed
  packed_is None = packed_by
  packed_is (Some n) = packed_by

  trace_by : is_used (codes "trace") (packed_uses packed trace summary tolerant) ≡ trace
  trace_by =
      unused (codes "trace") (codes "packed") packed (trace_uses trace summary tolerant) refl
      ∙ used (codes "trace") trace (summary_uses summary tolerant) refl trace_none

  pub trace_is : (sample : Option ℕ)
      → is_used (codes "trace") (more_uses sample packed trace summary tolerant) ≡ trace
  trace_is None = trace_by
  trace_is (Some n) = trace_by

  summary_by : is_used (codes "summary") (packed_uses packed trace summary tolerant) ≡ summary
  summary_by =
      unused (codes "summary") (codes "packed") packed (trace_uses trace summary tolerant) refl
      ∙ (unused (codes "summary") (codes "trace") trace (summary_uses summary tolerant) refl
      ∙ summary_here)

  pub summary_is : (sample : Option ℕ)
      → is_used (codes "summary") (more_uses sample packed trace summary tolerant) ≡ summary
  summary_is None = summary_by
  summary_is (Some n) = summary_by

  tolerant_by : is_used (codes "tolerant") (packed_uses packed trace summary tolerant) ≡ tolerant
  tolerant_by =
      unused (codes "tolerant") (codes "packed") packed (trace_uses trace summary tolerant) refl
      ∙ (unused (codes "tolerant") (codes "trace") trace (summary_uses summary tolerant) refl
      ∙ (unused (codes "tolerant") (codes "summary") summary (tolerant_uses tolerant) refl
      ∙ tolerant_here tolerant))

  pub tolerant_is : (sample : Option ℕ)
      → is_used (codes "tolerant") (more_uses sample packed trace summary tolerant) ≡ tolerant
  tolerant_is None = tolerant_by
  tolerant_is (Some n) = tolerant_by

  -- the sample's number
  none_found : (t : Bool) → find (is_named (codes "sample")) (tolerant_uses t) ≡ None
  none_found true = refl
  none_found false = refl

  no_sample : find (is_named (codes "sample")) (packed_uses packed trace summary tolerant) ≡ None
  no_sample =
      past (codes "sample") (codes "packed") packed (trace_uses trace summary tolerant) refl
      ∙ (past (codes "sample") (codes "trace") trace (summary_uses summary tolerant) refl
      ∙ (past (codes "sample") (codes "summary") summary (tolerant_uses tolerant) refl
      ∙ none_found tolerant))

  pub sample_is : (sample : Option ℕ) → IfSome sample (λ n. (1 ≤ n) × (n ≤ 1000))
      → number_of (codes "sample") (more_uses sample packed trace summary tolerant) ≡ sample
  sample_is None h = ap (option_map (λ (u : Use). digits_value 10 u.value)) no_sample
  sample_is (Some n) h = ap Some (told n (omega arith))

  pub sample_short : (sample : Option ℕ) → IfSome sample (λ n. (1 ≤ n) × (n ≤ 1000))
      → option_map_or (λ (u : Use). nat_le (length u.value) 7)
      (find (is_named (codes "sample")) (more_uses sample packed trace summary tolerant)) true
      ≡ true
  sample_short None h =
      ap (λ o. option_map_or (λ (u : Use). nat_le (length u.value) 7) o true) no_sample
  sample_short (Some n) h =
      few_digits 7 n (omega arith) (omega (arith, h.1)) (omega (arith, h.1))
