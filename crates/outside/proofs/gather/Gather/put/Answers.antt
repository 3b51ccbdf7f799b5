use Rattle.std.proofs.Common.{◌≡◌, ◌∙◌, ◌⊎◌, inl, inr, ◌≤◌, ◌<◌, ◌-◌, ◌++◌, ℕ, List, [], ◌∷◌, length, Option, Vec, Global, refl, sym, ap, append-nil, arith}
use Rattle.std.specs.Option.{option_map_or}
use Rattle.std.specs.Vec.{vec_capacity}
use Rattle.outside.proofs.Growth.{failed_now}
use Rattle.outside.proofs.Pieces.{put_after_failure, put_held, written_past}
use Rattle.outside.specs.Gather.{held, room_of}
use Rattle.outside.proofs.gather.Gather.put.Goals as goal

-- what doesn't fit after what is held was given room, so nothing is held
nothing_held : (held : List ℕ) (size room : ℕ) → (size ≤ room) ⊎ (held ≡ []) → room < size → held ≡ []
nothing_held held size room (inl le) lt = absurd (omega (arith, le, lt))
nothing_held held size room (inr none) lt = none

-- where no byte has room only nothing fits
nothing_put : (bytes : List ℕ) (room : ℕ) → room ≡ 0 → length bytes ≤ room → bytes ≡ []
nothing_put [] room none le = refl
nothing_put (b ∷ bytes) room none le = absurd (omega (arith, none, le))

pub returns-then-self : goal.returns-then-self
returns-then-self g c start before text longer h is = let made = c.make_room.ensures.gathers start before text h in rw is (record {
  gathered = put_after_failure c.make_room.new.self.failed _ _ start _ text c.args.bytes.now c.if-self.true made.gathered;
  cause = made.cause;
})

pub returns-then-bytes-room : goal.returns-then-bytes-room
returns-then-bytes-room g c start before text longer h is = let made = c.make_room.ensures.gathers start before text h in rw is (record {
  gathered = written_past c.write_all.result c.make_room.new.self.failed c.is_err-self.result _ _ start _ _ text c.if-self.false c.is_err-self.ensures.value
      (nothing_held _ (length c.args.bytes.now) _ c.make_room.ensures.room (omega (arith, c.if-bytes-room.true, c.room.ensures))) c.write_all.ensures.grew made.gathered;
  cause = failed_now c.write_all.result before _ _ c.make_room.new.self.failed c.is_err-self.result c.is_err-self.ensures.value made.cause c.write_all.ensures.cause;
})

pub returns-in-Some : goal.returns-in-Some
returns-in-Some g c start before text longer h is = let made = c.make_room.ensures.gathers start before text h in rw is (record {
  gathered = put_held c.make_room.new.self.failed _ c.args.bytes.now _ start _ text c.if-self.false
      ((rw c.unwrap.ensures at c.extend_from_slice.ensures.items) ∙ ap (λ (o : Option (Vec ℕ Global)). option_map_or (λ piece. piece.items) o [] ++ c.args.bytes.now) (sym c.in-Some.is)) made.gathered;
  cause = made.cause;
})

pub returns-in_default : goal.returns-in_default
returns-in_default g c start before text longer h is =
    let made = c.make_room.ensures.gathers start before text h in
    let no_room : room_of c.make_room.new.self ≡ 0 = ap (λ (o : Option (Vec ℕ Global)). option_map_or (λ piece. vec_capacity piece - length piece.items) o 0) c.in_default.is in
    let none = nothing_put c.args.bytes.now _ (c.room.ensures ∙ no_room) c.if-bytes-room.false in
    rw is (record {
      gathered = put_held c.make_room.new.self.failed _ c.args.bytes.now _ start _ text c.if-self.false
          (sym (append-nil _) ∙ ap (λ b. held c.make_room.new.self ++ b) (sym none)) made.gathered;
      cause = made.cause;
    })
