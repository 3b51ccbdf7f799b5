-- The expander of the code, as its calls see it.
use Rattle.std.specs.Prelude.{◌+◌, ◌≤◌, length, IsTrue, IsSome, IfSome}
use Rattle.drift_rules.specs.Bounds.{IsInReach}
use Rattle.page_index.specs.Limits.{MAX_DOCUMENT_LENGTH}
use Rattle.vf_expand.specs.Limits.{MAX_DEPTH}
use Rattle.vf_expand.specs.Effects.{value_of_current}
use Rattle.vf_expand.specs.Expansion.{Expansion, flat_of_pending, font_of}
use Rattle.vf_expand.specs.Levels.{stack_of, AreLevels}
use Rattle.vf_expand.specs.declared.expander.Expander.TheInside.{Inside}

abbrev pub value_of_expander : Inside → Expansion
value_of_expander x = record {
  tolerant = x.tolerant;
  reading = x.index.now.reading;
  eop = x.start + length x.bytes.now;
  at = x.progress.at;
  budget = x.progress.budget;
  marked = x.progress.marked;
  pending = x.pending;
  current = value_of_current x.level.current;
  stack = stack_of x.bytes.now x.start x.level x.outer;
}

pub record IsWellFormed (x : Inside) : Type 0 where
  pub room : x.start + length x.bytes.now ≤ MAX_DOCUMENT_LENGTH
  pub deep : length x.outer ≤ MAX_DEPTH
  pub levels : AreLevels x.bytes.now x.level x.outer
  pub pending : IfSome x.pending (λ p. IsInReach (flat_of_pending p))
  pub marked : IsTrue x.progress.marked → IsSome (font_of (value_of_current x.level.current))
