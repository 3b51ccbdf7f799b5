use Rattle.std.proofs.Common.{◌∙◌, Global, Vec, ap, ℕ}
use Rattle.pk_packer.proofs.HeldBytes.{half_left_over, whole_bytes}
use Rattle.pk_packer.specs.Held.{nybbles_written}
use Rattle.pk_packer.specs.Spelling.{HoldNybbles}
use Rattle.std.proofs.Common.{subst, sym}
use Rattle.pk_packer.proofs.nybbles.Nybbles.finish.Goals as goal
use Rattle.pk_packer.proofs.nybbles.Nybbles.finish.Goals.{then-half+in_ok-push, else-half}

pub returns : goal.returns
returns c = elim c.if-half.branch [
  | then-half+in_ok-push w ↦
      half_left_over c.args.self.bytes.items c.if-half.bytes.items c.args.self.high c.args.self.half w.if-half.true c.requires (ap (λ (v : Vec ℕ Global). v.items) w.bytes-is ∙ w.in_ok-push.ensures.items)
  | else-half w ↦
      subst (λ (v : Vec ℕ Global). HoldNybbles v.items (nybbles_written c.args.self)) (sym w.bytes-is) (whole_bytes c.args.self.bytes.items c.args.self.high c.args.self.half w.if-half.false)
]
