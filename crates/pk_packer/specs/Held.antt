-- Nybbles that were written.
use Rattle.std.specs.Prelude.{ℕ, List, [], ◌∷◌, ◌++◌, if◌then◌else◌}
use Rattle.pk_runs.specs.Numbers.{nybbles_of}
use Rattle.pk_packer.specs.declared.nybbles.Nybbles.{Nybbles}

abbrev pub nybbles_written : Nybbles → List ℕ
nybbles_written n = nybbles_of n.bytes.items ++ (if n.half then n.high ∷ [] else [])
