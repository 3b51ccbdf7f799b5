use Rattle.std.proofs.Common.{◌≡◌, ◌∙◌, ◌-◌, ◌++◌, List, ℕ, ap, drop, take, subst}
use Rattle.std.specs.Prelude.{OnOk}
use Rattle.sample_maker.proofs.PkAppended.{low_unsigned, on_ok}
use Rattle.sample_maker.proofs.pk.append_unsigned.Goals as goal

pub returns : goal.returns
returns c =
    let n = c.args.n in
    subst (λ (x : List ℕ). OnOk c.extend_from_slice.result (c.extend_from_slice.new.self.items ≡ c.args.out.now.items ++ x))
    (ap (λ t. take (4 - (4 - n)) (drop (4 - n) t)) c.to_be_bytes.ensures ∙ low_unsigned n c.args.number c.requires.some c.requires.few)
    (on_ok c.extend_from_slice.result _ _ _ c.extend_from_slice.ensures.items)
