-- What glyphs weigh, where one more is kept.
use Rattle.std.proofs.Common.{◌≡◌, ◌∙◌, inl, inr, ℕ, ◌+◌, ◌-◌, ◌^◌, ◌<◌, ◌≤◌, true, false, cond, Some, None, refl, sym, ap, subst, arith}
use Rattle.std.specs.Prelude.{◌≢◌, ◌==◌, if◌then◌else◌}
use Rattle.std.proofs.lemmas.Bool.{cases_lt, eq-eqb}
use Rattle.std.proofs.lemmas.Bool.Decides.{nat_tests}
use Rattle.code_sums.specs.Sums.{CODES}
use Rattle.code_sums.proofs.Sums.{one_term_changes, sums_are_bounded, terms_are_in_the_sum}
use Rattle.pk_runs.specs.declared.glyph.Glyph.{Glyph}
use Rattle.pk_runs.specs.Glyphs.{Glyphs, glyph_of}
use Rattle.pk_runs.specs.Weights.{IsWeighed, MAX_GLYPH_BYTES, raster_bytes}

pub nothing_weighed : (glyphs : Glyphs) → ((c : ℕ) → glyph_of glyphs c ≡ None) → IsWeighed glyphs 0
nothing_weighed glyphs none =
    let each : (c : ℕ) → raster_bytes (glyph_of glyphs c) ≤ 0 = λ c. let no = ap raster_bytes (none c) in omega (arith, no) in
    record {
      total = let most = sums_are_bounded (λ c. raster_bytes (glyph_of glyphs c)) 0 each in omega (arith, most);
      light = λ c. let no = each c in omega (arith, no);
    }

apart : (k c : ℕ) → c ≢ k → (k == c) ≡ false
apart k c other = elim (cases_lt c k) [
  | inl less ↦ grind (arith, nat_tests)
  | inr least ↦ elim (cases_lt k c) [
    | inl more ↦ grind (arith, nat_tests)
    | inr most ↦ let same : c ≡ k = omega arith in absurd (other same)
  ]
]

module _ (old new : Glyphs) (k : ℕ) (g : Glyph) (code : k < CODES) (w : ℕ) (is : IsWeighed old w) (few : raster_bytes (Some g) ≤ MAX_GLYPH_BYTES)
    (put : (c : ℕ) → glyph_of new c ≡ (if k == c then Some g else glyph_of old c)) where
  others : (c : ℕ) → c ≢ k → raster_bytes (glyph_of new c) ≡ raster_bytes (glyph_of old c)
  others c other = ap raster_bytes (put c ∙ ap (λ b. cond b (Some g) (glyph_of old c)) (apart k c other))

  this : raster_bytes (glyph_of new k) ≡ raster_bytes (Some g)
  this = ap raster_bytes (put k ∙ ap (λ b. cond b (Some g) (glyph_of old k)) (eq-eqb k k refl))

  -- what is replaced was counted
  pub replaced_fits : raster_bytes (glyph_of old k) ≤ w
  replaced_fits = let each = terms_are_in_the_sum (λ c. raster_bytes (glyph_of old c)) k code in let total = is.total in omega (arith, each, total)

  -- and there is room for what comes
  pub weight_fits : w ≤ 2 ^ 57
  weight_fits = let most = sums_are_bounded (λ c. raster_bytes (glyph_of old c)) MAX_GLYPH_BYTES is.light in let total = is.total in omega (arith, most, total)

  pub weighed_put : (v : ℕ) → v ≡ w - raster_bytes (glyph_of old k) + raster_bytes (Some g) → IsWeighed new v
  weighed_put v sum = record {
    total =
        let changed = one_term_changes (λ c. raster_bytes (glyph_of old c)) (λ c. raster_bytes (glyph_of new c)) k code others in
        let fits = replaced_fits in
        let now = this in
        let total = is.total in
        omega (arith, changed, fits, now, total, sum);
    light = λ c.
        subst (λ n. n ≤ MAX_GLYPH_BYTES) (ap raster_bytes (sym (put c)))
        (elim (k == c) as (λ b. raster_bytes (cond b (Some g) (glyph_of old c)) ≤ MAX_GLYPH_BYTES) [
          | true ↦ few
          | false ↦ is.light c
        ]);
  }
