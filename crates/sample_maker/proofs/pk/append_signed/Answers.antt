use Rattle.std.proofs.Common.{◌≡◌, ◌∙◌, ◌-◌, ◌++◌, List, ℕ, ap, drop, take, subst}
use Rattle.std.specs.Prelude.{OnOk}
use Rattle.std.specs.Int.{bytes_high_first}
use Rattle.sample_maker.proofs.PkAppended.{low_signed, on_ok, stored_weight}
use Rattle.sample_maker.proofs.pk.append_signed.Goals as goal

pub returns : goal.returns
returns c =
    let n = c.args.n in
    subst (λ (x : List ℕ). OnOk c.extend_from_slice.result (c.extend_from_slice.new.self.items ≡ c.args.out.now.items ++ x))
    (ap (λ t. take (4 - (4 - n)) (drop (4 - n) t)) (c.to_be_bytes.ensures ∙ ap (bytes_high_first 4) (stored_weight c.args.number c.ranges.number))
    ∙ low_signed n c.args.number c.requires.some c.requires.few c.requires.held)
    (on_ok c.extend_from_slice.result _ _ _ c.extend_from_slice.ensures.items)
