-- The keys that a worker looked up, and one page more.
use Rattle.std.proofs.Common.{◌≡◌, ℕ, inl, inr, List, [], ◌∷◌, ◌++◌, Option, Some, None, refl, sym, ap, ◌∙◌, append_assoc, append-nil}
use Rattle.std.specs.Option.{option_map}
use Rattle.outside.specs.Library.{FileTable}
use Rattle.outside.specs.declared.keys.FontKey.{FontKey}
use Rattle.page_index.specs.Pages.{Indexed}
use Rattle.turn_lock.specs.Seats.{SeatView}
use Rattle.font_decode.specs.Desks.{GrewBy}
use Rattle.page_draw.specs.Members.{Finding, looks_of}
use Rattle.page_draw.specs.Drawn.{IsBroken}
use Rattle.page_draw.specs.declared.sheet.Sheet.{Sheet}
use Rattle.page_workers.specs.declared.bench.Bench.{Bench}
use Rattle.page_workers.specs.Seats.{BenchFits, asked_at}
use Rattle.dvi_run.specs.Looked.{BrokenLooks, IsLookedUp, IsLookedUpSoFar, WholeLooks}
use Rattle.dvi_run.specs.Rounds.{keys_of}

pub whole_more : (Finds : Finding) (indexed : Indexed) (sheet : Sheet) (pages : List ℕ) (keys : List FontKey) (p : ℕ) (more : List FontKey) → WholeLooks Finds indexed sheet pages keys
    → IsLookedUp Finds indexed sheet p more → WholeLooks Finds indexed sheet (pages ++ p ∷ []) (keys ++ more)
whole_more Finds indexed sheet [] keys p more none one = (more, [], ap (λ (l : List FontKey). l ++ more) none ∙ sym (append-nil more), one, refl)
whole_more Finds indexed sheet (q ∷ pages) keys p more w one =
    (w.0, w.1 ++ more, ap (λ (l : List FontKey). l ++ more) w.2 ∙ append_assoc w.0 w.1 more, w.3, whole_more Finds indexed sheet pages w.1 p more w.4 one)

pub broken_more : (MayBreak : ℕ → Type 0) (Finds : Finding) (indexed : Indexed) (sheet : Sheet) (pages : List ℕ) (keys : List FontKey) (p : ℕ) (more : List FontKey) → MayBreak p → WholeLooks Finds indexed sheet pages keys
    → IsLookedUpSoFar Finds indexed sheet p more → BrokenLooks MayBreak Finds indexed sheet (pages ++ p ∷ []) (keys ++ more)
broken_more MayBreak Finds indexed sheet pages keys p more may w one =
    record { before = pages; page = p; pages_are = refl; may_break = may; first = keys; others = more; keys_are = refl; whole = w; broken = one }

-- where each page that may be cut off may be broken off
pub broken_as : (Cut MayBreak : ℕ → Type 0) (Finds : Finding) (indexed : Indexed) (sheet : Sheet) (pages : List ℕ) (keys : List FontKey) → ((p : ℕ) → Cut p → MayBreak p) → BrokenLooks Cut Finds indexed sheet pages keys
    → BrokenLooks MayBreak Finds indexed sheet pages keys
broken_as Cut MayBreak Finds indexed sheet pages keys f b = record {
  before = b.before;
  page = b.page;
  pages_are = b.pages_are;
  may_break = f b.page b.may_break;
  first = b.first;
  others = b.others;
  keys_are = b.keys_are;
  whole = b.whole;
  broken = b.broken;
}

-- ---- the keys of a seat

pub keys_are : (known : Option FileTable) (bench : Bench) (seat : Option SeatView) → BenchFits known bench seat → asked_at seat ≡ Some (keys_of seat)
keys_are known bench None fits = absurd fits
keys_are known bench (Some s) fits = refl

-- the keys by which a seat's grew
pub keys_grew : (old new : Option SeatView) (more : List FontKey) → asked_at old ≡ Some (keys_of old) → asked_at new ≡ Some (keys_of new) → GrewBy (asked_at old) (asked_at new) more
    → keys_of new ≡ keys_of old ++ more
keys_grew old new more e h grew =
    let there : Some (keys_of new) ≡ Some (keys_of old ++ more) = sym h ∙ (grew ∙ ap (option_map (λ (asked : List FontKey). asked ++ more)) e) in
    cc there

-- a page that was broken off, by the keys alone that were looked up for it
pub broken_keys : (Finds : Finding) (indexed : Indexed) (sheet : Sheet) (i : ℕ) (old new : Option SeatView) → asked_at old ≡ Some (keys_of old) → asked_at new ≡ Some (keys_of new)
    → IsBroken Finds indexed sheet i (asked_at old) (asked_at new) → (more : List FontKey) × (keys_of new ≡ keys_of old ++ more) × IsLookedUpSoFar Finds indexed sheet i more
broken_keys Finds indexed sheet i old new e h b =
    elim b.asked [
      | inl grew ↦ (
        looks_of b.members,
        keys_grew old new (looks_of b.members) e h grew,
        record {
          members = b.members;
          to = b.to;
          units = b.units;
          state = b.state;
          of_document = b.of_document;
          leads = b.leads;
          moved = b.moved;
          asked = inl refl;
        },
      )
      | inr next ↦ (
        looks_of b.members ++ next.0 ∷ [],
        keys_grew old new (looks_of b.members ++ next.0 ∷ []) e h next.4,
        record {
          members = b.members;
          to = b.to;
          units = b.units;
          state = b.state;
          of_document = b.of_document;
          leads = b.leads;
          moved = b.moved;
          asked = inr (next.0, next.1, next.2, next.3, refl);
        },
      )
    ]
