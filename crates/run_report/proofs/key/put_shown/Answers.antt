use Rattle.std.proofs.Common.{◌≡◌, ◌∙◌, ◌+◌, ◌++◌, ◌<◌, ℕ, List, [], ◌∷◌, length, get_or, map, take, sym, ap}
use Rattle.std.proofs.lemmas.List.{map-append, take_more}
use Rattle.run_report.specs.Keys.{shown_byte}
use Rattle.run_report.proofs.Joined.{puts_as, puts_twice}
use Rattle.run_report.proofs.key.put_shown.Goals as goal

-- one byte more
one_more : (bytes : List ℕ) (i : ℕ) (b : ℕ) → i < length bytes → b ≡ shown_byte (get_or bytes i 0) → map shown_byte (take i bytes) ++ b ∷ [] ≡ map shown_byte (take (i + 1) bytes)
one_more bytes i b below is =
    ap (λ (k : ℕ). map shown_byte (take i bytes) ++ k ∷ []) is ∙ sym (map-append shown_byte (take i bytes) (get_or bytes i 0 ∷ []))
    ∙ ap (map shown_byte) (sym (take_more bytes i 0 below))

pub loop-byte-preserved : goal.loop-byte-preserved
loop-byte-preserved g c =
    puts_as (one_more c.args.bytes.now c.loop-byte.byte-index c.shown.result c.loop-byte-test.true c.shown.ensures) (puts_twice c.loop-byte.invariant c.put.ensures)
