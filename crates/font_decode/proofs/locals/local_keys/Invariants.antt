use Rattle.std.proofs.Common.{◌≡◌, ℤ}
use Rattle.std.specs.Prelude.{map, reverse, IsTrue}
use Rattle.std.specs.Option.{option_map}
use Rattle.vf_reader.specs.Locals.{local_with}
use Rattle.font_decode.specs.Fonts.{key_with}
use Rattle.font_decode.specs.Locals.{are_local_sizes, local_key}
use Rattle.font_decode.proofs.locals.local_keys.Given as goal

-- the keys of the local fonts after the next one
abbrev pub invariant-loop-local : goal.invariant-loop-local
invariant-loop-local l = record {
  right : IsTrue (are_local_sizes l.units l.size (reverse (map (λ d. d.now) l.yielded)));
  keys : (n : ℤ) → key_with l.keys n ≡ option_map (local_key l.units l.size) (local_with (reverse (map (λ d. d.now) l.yielded)) n);
}
