use Rattle.std.proofs.Common.{◌≡◌, ◌++◌, List, ℕ, [], ap, sym, ◌∙◌, append_assoc, append-nil, refl}
use Rattle.pbm_output.proofs.write.join.Goals as goal

-- what is held with a row after it
joined : (text done held row more : List ℕ) → text ≡ done ++ held → more ≡ held ++ row → text ++ row ≡ done ++ more
joined text done held row more e f = ap (λ l. l ++ row) e ∙ append_assoc done held row ∙ ap (λ l. done ++ l) (sym f)

-- with nothing held after it
emptied : (text done held : List ℕ) → text ≡ done → held ≡ [] → text ≡ done ++ held
emptied text done held e f = e ∙ sym (append-nil done) ∙ ap (λ l. done ++ l) (sym f)

pub returns-then-len-gt-PIECE : goal.returns-then-len-gt-PIECE
returns-then-len-gt-PIECE g c start before text h =
    let whole = joined text h.done c.args.piece.now.items c.args.row.now c.extend_from_slice.new.self.items h.text_is c.in-Ok.ensures.items in
    record {
      done = text ++ c.args.row.now;
      gathers = c.put_piece.ensures.put start before h.done (text ++ c.args.row.now) h.gathers whole;
      text_is = emptied _ _ _ refl c.put_piece.ensures.empty;
    }

pub returns-else-len-gt-PIECE : goal.returns-else-len-gt-PIECE
returns-else-len-gt-PIECE g c start before text h =
    record {
      done = h.done;
      gathers = h.gathers;
      text_is = joined text h.done c.args.piece.now.items c.args.row.now c.extend_from_slice.new.self.items h.text_is c.in-Ok.ensures.items;
    }

pub returns-in-Err : goal.returns-in-Err
returns-in-Err g c start before text h =
    let same : text ≡ h.done ++ c.extend_from_slice.new.self.items = h.text_is ∙ ap (λ l. h.done ++ l) (sym c.in-Err.ensures.items) in
    record {
      done = text ++ c.args.row.now;
      gathers = c.put.ensures start before text (text ++ c.args.row.now) (c.put_piece-in-Err.ensures.put start before h.done text h.gathers same) refl;
      text_is = emptied _ _ _ refl c.put_piece-in-Err.ensures.empty;
    }
