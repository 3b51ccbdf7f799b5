-- A run that is painted row by row until it ends, or the raster does.
use Rattle.std.proofs.Common.{◌≡◌, ◌≢◌, ℕ, ◌+◌, ◌-◌, ◌*◌, ◌<◌, ◌≤◌, ◌⊎◌, inl, inr, refl, sym, ap, subst, ◌∙◌, arith}
use Rattle.std.proofs.lemmas.Bool.{cases_lt}
use Rattle.std.proofs.Math.Nat.{mul-le-mul_left}
use Rattle.pk_runs.specs.Painting.{painted, row_ended, IsReady}
use Rattle.pk_runs.specs.declared.painter.Painter.{Painter}
use Rattle.pk_runs.proofs.Drawn.{RunsOn, painted_size, runs_none, runs_row}
use Rattle.pk_runs.proofs.Steps.{times_rest}

-- a part of a run is painted, wherever the run ends
pub record RunsWhole (n : ℕ) (old : Painter) (left : ℕ) (p : Painter) : Type 0 where
  pub wide : p.bits.width ≡ old.bits.width
  pub high : p.bits.height ≡ old.bits.height
  pub inside : p.column < old.bits.width
  pub ready : IsReady p
  pub low : 0 < left → p.row < p.bits.height
  pub sum : left + p.column + old.bits.width * p.copies + old.bits.width * p.row ≡ n + old.column + old.bits.width * old.copies + old.bits.width * old.row
  pub below : p.bits.height ≤ p.row → (p.column ≡ 0) × (p.copies ≡ 0)
  pub runs : n + old.column + old.bits.width * old.copies + old.bits.width * old.row ≤ old.bits.width * old.bits.height → RunsOn n old left p

pub whole_none : (n : ℕ) (old : Painter) → old.column < old.bits.width → IsReady old → old.row < old.bits.height → RunsWhole n old n old
whole_none n old inside ready low = record {
  wide = refl;
  high = refl;
  inside = inside;
  ready = ready;
  low = λ _. low;
  sum = refl;
  below = λ complete. absurd (omega (arith, complete, low));
  runs = λ room. runs_none n old inside ready room;
}

-- a row is ended
pub whole_row : (n : ℕ) (old : Painter) (left piece : ℕ) (p mid next : Painter) → piece ≡ p.bits.width - p.column → piece ≤ left → mid ≡ painted p piece → next ≡ row_ended mid
    → (0 < left - piece → next.row ≢ next.bits.height) → RunsWhole n old left p → RunsWhole n old (left - piece) next
whole_row n old left piece p mid next is_piece long is_mid is_next low r =
    subst (λ (q : Painter). (0 < left - piece → q.row ≢ q.bits.height) → RunsWhole n old (left - piece) q) (sym is_row) (λ apart. record {
      wide = size.0 ∙ r.wide;
      high = size.1 ∙ r.high;
      inside = omega (arith, r.inside);
      ready = record { low = omega (arith, within, size.1); fit = λ h. omega (arith, h) };
      low = λ some. strict (apart some) (omega (arith, within, size.1));
      sum = omega (arith, r.sum, full, is_piece, long);
      below = λ _. (refl, refl);
      runs = λ room. subst (λ (q : Painter). RunsOn n old (left - piece) q) is_row (runs_row n old left piece p mid next is_piece long is_mid is_next (r.runs room));
    }) low
  where
    is_row : next ≡ row_ended (painted p piece)
    is_row = is_next ∙ ap row_ended is_mid

    size : ((painted p piece).bits.width ≡ p.bits.width) × ((painted p piece).bits.height ≡ p.bits.height)
    size = painted_size p.black p.bits p.column (p.column + piece) p.row (p.row + 1)

    full : p.column + piece ≡ old.bits.width
    full = omega (arith, is_piece, r.inside, r.wide)

    strict : {a b : ℕ} → a ≢ b → a ≤ b → a < b
    strict apart low = omega (arith, apart, low)

    within : p.row + 1 + p.copies ≤ p.bits.height
    within = r.ready.fit (r.low (omega (arith, is_piece, long, r.inside, r.wide)))

-- a row is ended, the last one, and pixels are left
pub whole_over : (n : ℕ) (old : Painter) (left piece : ℕ) (p mid next : Painter) → old.column < old.bits.width → IsReady old → old.row < old.bits.height → piece ≡ p.bits.width - p.column → piece ≤ left
    → mid ≡ painted p piece → next ≡ row_ended mid → 0 < left - piece → next.row ≡ next.bits.height → RunsWhole n old left p
    → (old.bits.width - old.column) + old.bits.width * (old.bits.height - (old.row + 1 + old.copies)) < n
whole_over n old left piece p mid next inside ready low is_piece long is_mid is_next some complete r =
    let size = painted_size p.black p.bits p.column (p.column + piece) p.row (p.row + 1) in
    let is_row : next ≡ row_ended (painted p piece) = is_next ∙ ap row_ended is_mid in
    let last : p.row + (1 + p.copies) ≡ old.bits.height =
    subst (λ (q : Painter). q.row ≡ q.bits.height) is_row complete ∙ size.1 ∙ r.high in
    let rest = times_rest old.bits.width old.bits.height (old.row + 1 + old.copies) (ready.fit low) in
    let all : old.bits.width * (p.row + (1 + p.copies)) ≡ old.bits.width * old.bits.height = ap (λ k. old.bits.width * k) last in
    omega (arith, rest, r.sum, is_piece, long, r.wide, r.inside, all, some, inside)

-- the rest ends within the next row
pub whole_end : (n : ℕ) (old : Painter) (left : ℕ) (p : Painter) → old.column < old.bits.width → IsReady old → old.row < old.bits.height → left < p.bits.width - p.column → RunsWhole n old left p
    → n ≤ (old.bits.width - old.column) + old.bits.width * (old.bits.height - (old.row + 1 + old.copies))
whole_end n old left p inside ready low short r =
    let rest = times_rest old.bits.width old.bits.height (old.row + 1 + old.copies) (ready.fit low) in
    by (cases_lt p.row p.bits.height) rest
  where
    by : (p.row < p.bits.height) ⊎ (p.bits.height ≤ p.row)
        → old.bits.width * (old.bits.height - (old.row + 1 + old.copies)) + old.bits.width * (old.row + 1 + old.copies) ≡ old.bits.width * old.bits.height
        → n ≤ (old.bits.width - old.column) + old.bits.width * (old.bits.height - (old.row + 1 + old.copies))
    by (inl more) rest =
        let within : p.row + 1 + p.copies ≤ old.bits.height = omega (arith, r.ready.fit more, r.high) in
        let rows : old.bits.width * (p.row + 1 + p.copies) ≤ old.bits.width * old.bits.height = mul-le-mul_left old.bits.width within in
        omega (arith, rest, r.sum, rows, short, r.wide, inside)
    by (inr complete) rest =
        let none = r.below complete in
        let above : old.bits.width * p.copies ≡ 0 = ap (λ k. old.bits.width * k) none.1 ∙ omega arith in
        let all : old.bits.width * p.row ≡ old.bits.width * old.bits.height = ap (λ k. old.bits.width * k) (le_antisymm p.row old.bits.height (omega (arith, r.ready.low, r.high)) (omega (arith, complete, r.high))) in
        omega (arith, rest, r.sum, none.0, above, all, spent (cases_lt 0 left), inside)
      where
        le_antisymm : (a b : ℕ) → a ≤ b → b ≤ a → a ≡ b
        le_antisymm a b low high = omega (arith, low, high)

        spent : (0 < left) ⊎ (left ≤ 0) → left ≤ 0
        spent (inl some) = absurd (omega (arith, r.low some, complete))
        spent (inr none) = none
