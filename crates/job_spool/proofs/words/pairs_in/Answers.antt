use Rattle.std.proofs.Common.{◌≡◌, ◌+◌, ◌<◌, ℕ, List, [], ◌∷◌, ◌++◌, map, length, drop, get_or, ap, sym, ◌∙◌, append_assoc, arith, rules}
use Rattle.std.specs.Prelude.{string_bytes}
use Rattle.std.proofs.lemmas.List.{length-map, map-append}
use Rattle.job_spool.specs.Words.{Names, Text, names_of, pairs_of}
use Rattle.job_spool.specs.declared.words.Pair.{Pair}
use Rattle.job_spool.proofs.Pairs.{two_more}
use Rattle.job_spool.proofs.words.pairs_in.Goals as goal

pub loop-at-preserved : goal.loop-at-preserved
loop-at-preserved c =
    let texts : List Text = map string_bytes c.args.names.now in
    let at : ℕ = c.loop-at.at in
    let size = length-map c.args.names.now string_bytes in
    let inv = c.loop-at.invariant in
    let inside : at + 1 < length c.args.names.now = omega (arith, inv.even, c.loop-at-test.true, c.requires.even) in
    let more = two_more texts at [] (omega (arith, size, inside)) in
    let rest = pairs_of (drop (at + 2) texts) in
    let old = c.loop-at.pairs.items in
    let v = c.in_ok-copied.field-0 in
    let push : c.push.new.self.items ≡ old ++ v ∷ [] = search rules in
    let made : names_of v ≡ record { source = get_or texts at []; target = get_or texts (at + 1) [] } = c.in_ok-copied.ensures in
    record {
      inside = omega (arith, inside);
      even = omega (arith, inv.even);
      pairs =
          ap (λ (l : List Pair). map names_of l ++ rest) push ∙ ap (λ (l : List Names). l ++ rest) (map-append names_of old (v ∷ [])) ∙ append_assoc (map names_of old) (names_of v ∷ []) rest
          ∙ ap (λ (p : Names). map names_of old ++ p ∷ rest) made ∙ ap (λ (l : List Names). map names_of old ++ l) (sym more) ∙ inv.pairs;
    }
