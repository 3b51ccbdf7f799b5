use Rattle.std.proofs.Common.{◌≡◌, ◌++◌, List, ℕ, pos, to_z, w32, subst, arith}
use Rattle.std.specs.Prelude.{OnOk}
use Rattle.std.proofs.lemmas.Int.{ints}
use Rattle.sample_maker.proofs.Appended.{post_post_same}
use Rattle.sample_maker.proofs.dvi.append_post_post.Goals as goal

pub returns : goal.returns
returns c =
    let post : to_z w32 c.args.post ≡ pos c.args.post = omega (arith, ints, c.requires) in
    subst (λ (x : List ℕ). OnOk c.write_command.result (c.write_command.new.out.items ≡ c.args.out.now.items ++ x)) (post_post_same _ c.args.post post) c.write_command.ensures.written
