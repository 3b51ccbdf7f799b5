-- The diary of the example: a list of seats, seen as calls.
use Rattle.std.specs.Prelude.{◌≡◌, ℕ, List, [], ◌∷◌, ◌++◌, map, None}
use Rattle.cache_core.specs.declared.calls.Call.{Call}
use Rattle.cache_core.specs.declared.calls.Done.TheVariants.{Hit}
use Rattle.cache_core.specs.declared.common.Common.{Common}

-- all seats look for one key
abbrev pub call_by : ℕ → Call
call_by seat =
    record { seat = seat; key = record { area = 0; name = []; size = 0; design = 0 }; done = Hit }

abbrev pub calls_by : List ℕ → List Call
calls_by seats = map call_by seats

abbrev pub EndsWith : Call → List Call → Type 0
EndsWith c calls = (before : List Call) × (calls ≡ before ++ c ∷ [])

-- a common part, of which a diary says nothing
abbrev pub any_part : Common
any_part = record {
  capacity = 1;
  budget = 1;
  units = record { num = 1; den = 1; mag = 1; res = 1 };
  library = None;
}
