use Rattle.std.proofs.Common.{◌∷◌, None, Some, subst}
use Rattle.std.proofs.lemmas.Result.{err_from_is_err_and}
use Rattle.gf_reader.specs.Reading.{IsRead}
use Rattle.gf_reader.proofs.CharactersRead.{character_read, read_within}
use Rattle.gf_reader.proofs.ItemsRead.{file_read, item_read, item_stop, read_shaped}
use Rattle.gf_reader.proofs.font.GfFont.of_items.Goals as goal

pub returns-in_err-drawing-clause-fault : goal.returns-in_err-drawing-clause-fault
returns-in_err-drawing-clause-fault c =
    let h = c.characters.invariant.read in
    let item = c.in-Some.item.now in
    let next = rw c.in-Some.is at c.in_ok-item.ensures.item in
    let p = err_from_is_err_and c.from_residual-in_err-drawing.result c.from_residual-in_err-drawing.ensures.1 in
    rw (p.1, p.2) (item_stop c.args.bytes.now c.characters.items item c.next.new.self c.characters.sum c.characters.font None c.in_err-drawing.field-0.0 h next.0 next.1
    (c.in_err-drawing.ensures.begun h.items c.characters.font h.sum_is h.read))

pub commands-requires-clause-narrow : goal.commands-requires-clause-narrow
commands-requires-clause-narrow c =
    let h = c.characters.invariant.read in
    let item = c.in-Some.item.now in
    let next = rw c.in-Some.is at c.in_ok-item.ensures.item in
    let drawing = c.in-Some-2.drawing in
    let e = c.in_ok-drawing.ensures.begun h.items c.characters.font h.sum_is h.read in
    let read : IsRead (item ∷ h.items) c.characters.font (Some drawing) = subst (λ o. IsRead (item ∷ h.items) c.characters.font o) c.in-Some-2.is e.1 in
    (read_within (item ∷ h.items) c.characters.font drawing read).narrow

pub commands-requires-clause-low : goal.commands-requires-clause-low
commands-requires-clause-low c =
    let h = c.characters.invariant.read in
    let item = c.in-Some.item.now in
    let next = rw c.in-Some.is at c.in_ok-item.ensures.item in
    let drawing = c.in-Some-2.drawing in
    let e = c.in_ok-drawing.ensures.begun h.items c.characters.font h.sum_is h.read in
    let read : IsRead (item ∷ h.items) c.characters.font (Some drawing) = subst (λ o. IsRead (item ∷ h.items) c.characters.font o) c.in-Some-2.is e.1 in
    (read_within (item ∷ h.items) c.characters.font drawing read).low

pub commands-requires-clause-column : goal.commands-requires-clause-column
commands-requires-clause-column c =
    let h = c.characters.invariant.read in
    let item = c.in-Some.item.now in
    let next = rw c.in-Some.is at c.in_ok-item.ensures.item in
    let drawing = c.in-Some-2.drawing in
    let e = c.in_ok-drawing.ensures.begun h.items c.characters.font h.sum_is h.read in
    let read : IsRead (item ∷ h.items) c.characters.font (Some drawing) = subst (λ o. IsRead (item ∷ h.items) c.characters.font o) c.in-Some-2.is e.1 in
    (read_within (item ∷ h.items) c.characters.font drawing read).column

pub commands-requires-clause-row : goal.commands-requires-clause-row
commands-requires-clause-row c =
    let h = c.characters.invariant.read in
    let item = c.in-Some.item.now in
    let next = rw c.in-Some.is at c.in_ok-item.ensures.item in
    let drawing = c.in-Some-2.drawing in
    let e = c.in_ok-drawing.ensures.begun h.items c.characters.font h.sum_is h.read in
    let read : IsRead (item ∷ h.items) c.characters.font (Some drawing) = subst (λ o. IsRead (item ∷ h.items) c.characters.font o) c.in-Some-2.is e.1 in
    (read_within (item ∷ h.items) c.characters.font drawing read).row

pub returns-in_err-commands-clause-fault : goal.returns-in_err-commands-clause-fault
returns-in_err-commands-clause-fault c =
    let h = c.characters.invariant.read in
    let item = c.in-Some.item.now in
    let next = rw c.in-Some.is at c.in_ok-item.ensures.item in
    let drawing = c.in-Some-2.drawing in
    let e = c.in_ok-drawing.ensures.begun h.items c.characters.font h.sum_is h.read in
    let read : IsRead (item ∷ h.items) c.characters.font (Some drawing) = subst (λ o. IsRead (item ∷ h.items) c.characters.font o) c.in-Some-2.is e.1 in
    let begun = item_read c.args.bytes.now c.characters.items item c.next.new.self c.characters.sum c.begin_character.new.sum c.characters.font c.characters.font None (Some drawing) h next.0 next.1 e.0 read e.2 in
    let p = err_from_is_err_and c.from_residual-in_err-commands.result c.from_residual-in_err-commands.ensures.1 in
    rw (p.1, p.2) (c.in_err-commands.ensures.ended c.args.bytes.now c.begin_character.new.sum c.characters.font begun)

pub keep-requires-clause-narrow : goal.keep-requires-clause-narrow
keep-requires-clause-narrow c =
    let h = c.characters.invariant.read in
    let item = c.in-Some.item.now in
    let next = rw c.in-Some.is at c.in_ok-item.ensures.item in
    let drawing = c.in-Some-2.drawing in
    let e = c.in_ok-drawing.ensures.begun h.items c.characters.font h.sum_is h.read in
    let read : IsRead (item ∷ h.items) c.characters.font (Some drawing) = subst (λ o. IsRead (item ∷ h.items) c.characters.font o) c.in-Some-2.is e.1 in
    let begun = item_read c.args.bytes.now c.characters.items item c.next.new.self c.characters.sum c.begin_character.new.sum c.characters.font c.characters.font None (Some drawing) h next.0 next.1 e.0 read e.2 in
    let at = c.in_ok-commands.ensures.ended c.args.bytes.now c.begin_character.new.sum c.characters.font begun in
    (read_within at.3.items c.characters.font c.commands.new.self at.3.read).narrow

pub keep-requires-clause-low : goal.keep-requires-clause-low
keep-requires-clause-low c =
    let h = c.characters.invariant.read in
    let item = c.in-Some.item.now in
    let next = rw c.in-Some.is at c.in_ok-item.ensures.item in
    let drawing = c.in-Some-2.drawing in
    let e = c.in_ok-drawing.ensures.begun h.items c.characters.font h.sum_is h.read in
    let read : IsRead (item ∷ h.items) c.characters.font (Some drawing) = subst (λ o. IsRead (item ∷ h.items) c.characters.font o) c.in-Some-2.is e.1 in
    let begun = item_read c.args.bytes.now c.characters.items item c.next.new.self c.characters.sum c.begin_character.new.sum c.characters.font c.characters.font None (Some drawing) h next.0 next.1 e.0 read e.2 in
    let at = c.in_ok-commands.ensures.ended c.args.bytes.now c.begin_character.new.sum c.characters.font begun in
    (read_within at.3.items c.characters.font c.commands.new.self at.3.read).low

pub keep-requires-clause-shaped : goal.keep-requires-clause-shaped
keep-requires-clause-shaped c =
    let h = c.characters.invariant.read in
    let item = c.in-Some.item.now in
    let next = rw c.in-Some.is at c.in_ok-item.ensures.item in
    let drawing = c.in-Some-2.drawing in
    let e = c.in_ok-drawing.ensures.begun h.items c.characters.font h.sum_is h.read in
    let read : IsRead (item ∷ h.items) c.characters.font (Some drawing) = subst (λ o. IsRead (item ∷ h.items) c.characters.font o) c.in-Some-2.is e.1 in
    let begun = item_read c.args.bytes.now c.characters.items item c.next.new.self c.characters.sum c.begin_character.new.sum c.characters.font c.characters.font None (Some drawing) h next.0 next.1 e.0 read e.2 in
    let at = c.in_ok-commands.ensures.ended c.args.bytes.now c.begin_character.new.sum c.characters.font begun in
    read_shaped at.3.items c.characters.font c.commands.new.self at.3.read

pub characters-preserved-in_ok-keep : goal.characters-preserved-in_ok-keep
characters-preserved-in_ok-keep c =
    let h = c.characters.invariant.read in
    let item = c.in-Some.item.now in
    let next = rw c.in-Some.is at c.in_ok-item.ensures.item in
    let drawing = c.in-Some-2.drawing in
    let e = c.in_ok-drawing.ensures.begun h.items c.characters.font h.sum_is h.read in
    let read : IsRead (item ∷ h.items) c.characters.font (Some drawing) = subst (λ o. IsRead (item ∷ h.items) c.characters.font o) c.in-Some-2.is e.1 in
    let begun = item_read c.args.bytes.now c.characters.items item c.next.new.self c.characters.sum c.begin_character.new.sum c.characters.font c.characters.font None (Some drawing) h next.0 next.1 e.0 read e.2 in
    let at = c.in_ok-commands.ensures.ended c.args.bytes.now c.begin_character.new.sum c.characters.font begun in
    record {
      read = character_read c.args.bytes.now c.commands.new.items c.begin_character.new.sum c.characters.font c.keep.new.self c.commands.new.self at c.in_ok-keep.ensures;
      few = c.in_ok-drawing.ensures.few;
    }

pub characters-preserved : goal.characters-preserved
characters-preserved c =
    let h = c.characters.invariant.read in
    let item = c.in-Some.item.now in
    let next = rw c.in-Some.is at c.in_ok-item.ensures.item in
    let e = c.in_ok-drawing.ensures.begun h.items c.characters.font h.sum_is h.read in
    let read : IsRead (item ∷ h.items) c.characters.font None = subst (λ o. IsRead (item ∷ h.items) c.characters.font o) c.in_default-2.is e.1 in
    record {
      read = item_read c.args.bytes.now c.characters.items item c.next.new.self c.characters.sum c.begin_character.new.sum c.characters.font c.characters.font None None h next.0 next.1 e.0 read e.2;
      few = c.in_ok-drawing.ensures.few;
    }

pub returns-clause-glyphs : goal.returns-clause-glyphs
returns-clause-glyphs c =
    let h = c.characters.invariant.read in
    let end = rw c.in_default.is at c.in_ok-item.ensures.item in
    file_read c.args.bytes.now c.characters.items end.1 c.characters.sum c.characters.font None h end.0 end.2
