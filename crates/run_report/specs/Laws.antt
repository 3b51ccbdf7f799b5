-- Laws over the texts of histories.
use Rattle.std.specs.Prelude.{◌≡◌, ◌+◌, ◌^◌, ◌<◌, Bool, true, false, List, [], ◌∷◌, ◌++◌, map}
use Rattle.std.specs.List.{All}
use Rattle.outside.specs.declared.keys.FontKey.{FontKey}
use Rattle.cache_core.specs.declared.calls.Call.{Call}
use Rattle.cache_core.specs.declared.calls.Done.{Done}
use Rattle.cache_core.specs.declared.calls.Done.TheVariants.{Hit, Claimed, Busy, Filled, Released}
use Rattle.cache_core.specs.Laws.{is_claim}
use Rattle.run_report.specs.Keys.{shown_byte}
use Rattle.run_report.specs.Trace.{entry_line, trace_text}
use Rattle.run_report.specs.Summary.{count_of, evictions_of, is_busy, is_hit, is_look}

-- looks are those that hit, those that claimed and those that found the key claimed
abbrev pub LooksAreAnswers : Type 0
LooksAreAnswers =
    (history : List Call) → count_of is_look history ≡ count_of is_hit history
    + count_of is_claim history + count_of is_busy history

-- the calls of a kind in two joined histories are those of the one and those of the other
abbrev pub CountsAddUp : Type 0
CountsAddUp =
    (is_kind : Done → Bool) (xs ys : List Call) → count_of is_kind (xs ++ ys) ≡ count_of is_kind xs
    + count_of is_kind ys

-- and so are the evictions
abbrev pub EvictionsAddUp : Type 0
EvictionsAddUp =
    (xs ys : List Call) → evictions_of (xs ++ ys) ≡ evictions_of xs + evictions_of ys

-- the trace of two joined histories is that of the one and then that of the other
abbrev pub TracesAreJoined : Type 0
TracesAreJoined = (xs ys : List Call) → trace_text (xs ++ ys) ≡ trace_text xs ++ trace_text ys

-- ---- what a trace determines

-- sizes that fit their types
abbrev pub IsKey : FontKey → Type 0
IsKey k = (k.size < 2 ^ 32) × (k.design < 2 ^ 32)

abbrev pub AreKeys : List FontKey → Type 0
AreKeys [] = Unit {0}
AreKeys (k ∷ keys) = IsKey k × AreKeys keys

abbrev pub HasKeys : Done → Type 0
HasKeys (Filled weight kept gone) = AreKeys gone
HasKeys _ = Unit {0}

-- a call whose numbers fit their types
pub record IsCall (c : Call) : Type 0 where
  pub seat : c.seat < 2 ^ 32
  pub key : IsKey c.key
  pub done : HasKeys c.done

-- a key as a line shows it: bytes that can't be seen are question marks, and the area isn't printed
-- apart from the name
abbrev pub shown_key : FontKey → FontKey
shown_key k = record k { area = 0; name = map shown_byte k.name }

-- a weight isn't printed, nor are keys where the font wasn't kept: none is evicted there
abbrev pub shown_done : Done → Done
shown_done (Filled weight true gone) = Filled 0 true (map shown_key gone)
shown_done (Filled weight false gone) = Filled 0 false []
shown_done Hit = Hit
shown_done Claimed = Claimed
shown_done Busy = Busy
shown_done Released = Released

abbrev pub shown : Call → Call
shown c = record { seat = c.seat; key = shown_key c.key; done = shown_done c.done }

-- a line determines its call: the seat, the key and what was done, with the keys that were evicted
abbrev pub LinesDetermineCalls : Type 0
LinesDetermineCalls =
    (a b : Call) → IsCall a → IsCall b → entry_line a ≡ entry_line b → shown a ≡ shown b

-- a trace determines its history, call by call
abbrev pub TracesDetermineCalls : Type 0
TracesDetermineCalls =
    (xs ys : List Call) → All IsCall xs → All IsCall ys → trace_text xs ≡ trace_text ys
    → map shown xs ≡ map shown ys
