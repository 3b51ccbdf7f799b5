use Rattle.std.proofs.Common.{◌≡◌, ◌∙◌, List, ℕ, pos, Result, Ok, Err, ap, refl, subst, arith}
use Rattle.std.specs.Prelude.{OnOk, if◌then◌else◌}
use Rattle.std.specs.Result.{is_ok}
use Rattle.std.proofs.lemmas.Int.{ints}
use Rattle.big_endian.specs.Numbers.{number_bytes}
use Rattle.dvi_commands.proofs.Motions.{stored}
use Rattle.sample_maker.proofs.VfItems.{long_joined}
use Rattle.sample_maker.proofs.vf.append_long.Goals as goal

on_ok : {A E : Type 0} (r : Result A E) (a b c : List ℕ) → a ≡ (if is_ok r then b else c) → OnOk r (a ≡ b)
on_ok (Ok x) a b c e = e
on_ok (Err x) a b c e = tt

pub returns : goal.returns
returns c =
    let width : stored c.args.width ≡ c.args.width = omega (arith, ints) in
    subst (λ (x : List ℕ). OnOk c.extend_from_slice-4.result (c.extend_from_slice-4.new.self.items ≡ x))
    (long_joined c.args.out.now.items _ _ _ _ c.args.commands.now _ _ _ _ c.args.code c.args.width c.in_ok-push.ensures.items c.in_ok-extend_from_slice.ensures.items c.in_ok-extend_from_slice-2.ensures.items c.in_ok-extend_from_slice-3.ensures.items
    c.to_be_bytes.ensures (c.to_be_bytes-2.ensures ∙ ap (λ (m : ℕ). number_bytes 4 (pos m)) c.from.ensures) (c.word_bytes.ensures ∙ ap (number_bytes 4) width) refl)
    (on_ok c.extend_from_slice-4.result _ _ _ c.extend_from_slice-4.ensures.items)
