use Rattle.std.proofs.Common.{◌≡◌, ◌≤◌, ◌-◌, ◌++◌, length, take}
use Rattle.std.specs.Io.KnownBytes.{Consumes}
use Rattle.dvi_run.proofs.reading.read_all.Given as goal

abbrev pub invariant-loop-len : goal.invariant-loop-len
invariant-loop-len g l = record {
  inside : l.len ≤ length l.bytes.items;
  few : length l.bytes.items ≤ 67108865;
  taken : Consumes (g.I.Input.left l.initial.input) (g.I.Input.left l.input) (take l.len l.bytes.items);
  given : g.I.Input.taken l.input ≡ g.I.Input.taken l.initial.input ++ take l.len l.bytes.items;
  later : g.I.Input.faults l.initial.input ≤ g.I.Input.faults l.input;
}

abbrev pub decreases-loop-len : goal.decreases-loop-len
decreases-loop-len g l = 67108865 - l.len
