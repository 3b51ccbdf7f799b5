use Rattle.outside.proofs.Taken.{all_taken, given, taken}
use Rattle.outside.proofs.memory.MemInputInput.read.Goals as goal

pub returns-clause-bytes : goal.returns-clause-bytes
returns-clause-bytes c =
    let xs = c.args.self.now.bytes.items in
    let at = c.args.self.now.at in
    let same = c.deref-2.ensures.value in (
      taken xs _ c.copy_prefix-n.new.buf at c.copy_prefix-n.result same c.copy_prefix-n.ensures.copied,
      λ none room. all_taken xs _ at c.args.self.now.piece _ c.copy_prefix-n.result same c.args.self.now.inside c.args.self.now.some_piece c.copy_prefix-n.ensures.count none room,
    )

pub returns-clause-taken : goal.returns-clause-taken
returns-clause-taken c =
    let xs = c.args.self.now.bytes.items in
    let at = c.args.self.now.at in
    let same = c.deref-2.ensures.value in (
      given xs _ c.copy_prefix-n.new.buf at c.copy_prefix-n.result same c.copy_prefix-n.ensures.copied,
      λ none room. all_taken xs _ at c.args.self.now.piece _ c.copy_prefix-n.result same c.args.self.now.inside c.args.self.now.some_piece c.copy_prefix-n.ensures.count none room,
    )
