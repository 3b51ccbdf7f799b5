use Rattle.std.proofs.Common.{◌≡◌, ℕ, ap, ◌∙◌, arith, refl, subst, None, Some, Ok}
use Rattle.std.proofs.lemmas.Result.{err_from_is_err_and}
use Rattle.drift_rules.specs.Position.{state_after, value_of_flat}
use Rattle.pixel_round.specs.Pixels.{Fraction}
use Rattle.font_decode.specs.Decoding.{IsFontOf}
use Rattle.vf_expand.specs.Course.{course_of}
use Rattle.vf_expand.specs.Expansion.{rest_of}
use Rattle.vf_expand.specs.Faults.{value_of_fault}
use Rattle.page_draw.specs.Inking.{set_in}
use Rattle.page_draw.specs.Lacks.{values_of, with_lack}
use Rattle.page_draw.proofs.Lists.{made, so_far_flat, so_far_miss, so_far_same}
use Rattle.page_draw.proofs.Ends.{broken_so_far, pen_stop}
use Rattle.page_draw.proofs.Other.{comes_alone, fewer_still, no_source, other_stays, stop_as}
use Rattle.page_draw.proofs.flats.draw_flats.Goals as goal

pub returns-in_err-draw_packed_char-clause-stop : goal.returns-in_err-draw_packed_char-clause-stop
returns-in_err-draw_packed_char-clause-stop c =
    let packed = c.in-Some.packed in
    let new = c.next_packed_char.follows.lender-at-none in
    let given = rw c.in-Some.is at c.next_packed_char.follows.holds-at-none in
    let flat = set_in given.key packed in
    let p = err_from_is_err_and c.from_residual.result c.from_residual.ensures.1 in
    let stop = c.in_err-draw_packed_char.ensures.stop given.key in
    rw (p.1, p.2)
    (λ known units indexed i old now conv so_far.
    pen_stop (IsFontOf known units) c.args.pen.now.conv c.args.sheet.now indexed i (rest_of c.flats.expander) c.flats.pen.state (made c.flats.page (values_of c.flats.lacks)) old now
    (c.flats.invariant.drawn known units (course_of c.args.sheet.now.tolerant indexed.reading i) old now so_far) conv
    flat (Some packed.glyph.now) new.at (rest_of new) given.one.given _
    (stop_as c.flats.pen.conv c.args.pen.now.conv c.flats.pen.state flat packed.at new.at _ c.flats.invariant.conv given.place stop))

pub returns-in_err-draw_packed_char-clause-source : goal.returns-in_err-draw_packed_char-clause-source
returns-in_err-draw_packed_char-clause-source c =
    let given = rw c.in-Some.is at c.next_packed_char.follows.holds-at-none in
    let p = err_from_is_err_and c.from_residual.result c.from_residual.ensures.1 in
    rw (p.1, p.2) (no_source _ _ _ (c.in_err-draw_packed_char.ensures.stop given.key))

pub flats-preserved-in-Some : goal.flats-preserved-in-Some
flats-preserved-in-Some c =
    let i = c.flats.invariant in
    let packed = c.in-Some.packed in
    let next = c.next_packed_char.follows.lender-at-none in
    let given = rw c.in-Some.is at c.next_packed_char.follows.holds-at-none in
    let flat = set_in given.key packed in
    let moved = subst (λ (x : Fraction). state_after x c.flats.pen.state flat ≡ Ok c.draw_packed_char.new.pen.state) i.conv (c.in_ok-draw_packed_char.ensures.moved given.key) in
    let inked = c.in_ok-draw_packed_char.ensures.inked given.key in
    record {
      conv = c.draw_packed_char.ensures.conv ∙ i.conv;
      asks = omega (arith, i.asks, given.one.asks);
      steps = omega (arith, i.steps, given.one.fewer);
      drawn = λ known units from old new so_far.
          so_far_flat (IsFontOf known units) c.args.pen.now.conv c.args.sheet.now from (rest_of c.flats.expander) c.flats.pen.state (made c.flats.page (values_of c.flats.lacks)) old new
          (i.drawn known units from old new so_far) flat (Some packed.glyph.now) next.at (rest_of next)
          c.draw_packed_char.new.pen.state c.draw_packed_char.new.page given.one.given moved inked;
    }

pub returns-in_err-other-clause-stop : goal.returns-in_err-other-clause-stop
returns-in_err-other-clause-stop c =
    let r = c.from_residual-in_err-other in
    let p = err_from_is_err_and r.result r.ensures.1 in
    rw (p.1, p.2) (λ known units indexed i old new conv so_far.
    broken_so_far (IsFontOf known units) c.args.pen.now.conv c.args.sheet.now indexed i (rest_of c.flats.expander) c.flats.pen.state (made c.flats.page (values_of c.flats.lacks)) old new
    (c.flats.invariant.drawn known units (course_of c.args.sheet.now.tolerant indexed.reading i) old new so_far) conv)

pub returns-in_err-draw_one-in-Flat-clause-stop : goal.returns-in_err-draw_one-in-Flat-clause-stop
returns-in_err-draw_one-in-Flat-clause-stop c =
    let same = rw c.in_default.is at c.next_packed_char.follows.holds-at-none in
    let given = rw (c.in-Flat.is, same) at c.in_ok-other.ensures.step in
    let flat = value_of_flat c.in-Flat.flat in
    let step = comes_alone c.flats.expander c.next.new.self flat given.0 (rw c.in_default.is at c.next_packed_char.ensures.none refl) given.1 in
    let r = c.from_residual-in_err-draw_one-in-Flat in
    let p = err_from_is_err_and r.result r.ensures.1 in
    let stops = rw c.flats.invariant.conv at c.in_err-draw_one-in-Flat.ensures.stop in
    rw (p.1, p.2)
    (λ known units indexed i old new conv so_far.
    pen_stop (IsFontOf known units) c.args.pen.now.conv c.args.sheet.now indexed i (rest_of c.flats.expander) c.flats.pen.state (made c.flats.page (values_of c.flats.lacks)) old new
    (c.flats.invariant.drawn known units (course_of c.args.sheet.now.tolerant indexed.reading i) old new so_far) conv
    flat None c.next.new.self.at (rest_of c.next.new.self) step.given _ stops)

pub returns-in_err-draw_one-in-Flat-clause-source : goal.returns-in_err-draw_one-in-Flat-clause-source
returns-in_err-draw_one-in-Flat-clause-source c =
    let r = c.from_residual-in_err-draw_one-in-Flat in
    let p = err_from_is_err_and r.result r.ensures.1 in
    rw (p.1, p.2) (no_source _ _ _ c.in_err-draw_one-in-Flat.ensures.stop)

pub flats-preserved-in_ok-draw_one-in-Flat : goal.flats-preserved-in_ok-draw_one-in-Flat
flats-preserved-in_ok-draw_one-in-Flat c =
    let i = c.flats.invariant in
    let same = rw c.in_default.is at c.next_packed_char.follows.holds-at-none in
    let given = rw (c.in-Flat.is, same) at c.in_ok-other.ensures.step in
    let flat = value_of_flat c.in-Flat.flat in
    let step = comes_alone c.flats.expander c.next.new.self flat given.0 (rw c.in_default.is at c.next_packed_char.ensures.none refl) given.1 in
    let moved = rw i.conv at c.in_ok-draw_one-in-Flat.ensures.moved in
    let inked = rw i.conv at c.in_ok-draw_one-in-Flat.ensures.inked in
    record {
      conv = c.draw_one.ensures.conv ∙ i.conv;
      asks = omega (arith, i.asks, step.asks);
      steps = omega (arith, i.steps, step.fewer);
      drawn = λ known units from old new so_far.
          so_far_flat (IsFontOf known units) c.args.pen.now.conv c.args.sheet.now from (rest_of c.flats.expander) c.flats.pen.state (made c.flats.page (values_of c.flats.lacks)) old new
          (i.drawn known units from old new so_far) flat None c.next.new.self.at (rest_of c.next.new.self)
          c.draw_one.new.pen.state c.draw_one.new.page step.given moved inked;
    }

pub flats-preserved-in_ok-draw_one-in-Flat-2 : goal.flats-preserved-in_ok-draw_one-in-Flat-2
flats-preserved-in_ok-draw_one-in-Flat-2 c =
    let i = c.flats.invariant in
    let same = rw c.in_default.is at c.next_packed_char.follows.holds-at-none in
    let given = rw (c.in-Flat.is, same) at c.in_ok-other.ensures.step in
    let flat = value_of_flat c.in-Flat.flat in
    let step = comes_alone c.flats.expander c.next.new.self flat given.0 (rw c.in_default.is at c.next_packed_char.ensures.none refl) given.1 in
    let moved = rw i.conv at c.in_ok-draw_one-in-Flat.ensures.moved in
    let inked = rw i.conv at c.in_ok-draw_one-in-Flat.ensures.inked in
    record {
      conv = c.draw_one.ensures.conv ∙ i.conv;
      asks = omega (arith, i.asks, step.asks);
      steps = omega (arith, i.steps, step.fewer);
      drawn = λ known units from old new so_far.
          so_far_flat (IsFontOf known units) c.args.pen.now.conv c.args.sheet.now from (rest_of c.flats.expander) c.flats.pen.state (made c.flats.page (values_of c.flats.lacks)) old new
          (i.drawn known units from old new so_far) flat None c.next.new.self.at (rest_of c.next.new.self)
          c.draw_one.new.pen.state c.draw_one.new.page step.given moved inked;
    }

pub flats-preserved : goal.flats-preserved
flats-preserved c =
    let i = c.flats.invariant in
    let same = rw c.in_default.is at c.next_packed_char.follows.holds-at-none in
    let step = rw (c.in-Lack.is, same) at c.in_ok-other.ensures.step in
    let fault = value_of_fault c.in-Lack.lack.fault in
    let new = c.next.new.self in
    record {
      conv = i.conv;
      asks = omega (arith, i.asks, step.0.asks);
      steps = omega (arith, i.steps, step.0.fewer);
      drawn = λ known units from old now so_far.
          so_far_miss (IsFontOf known units) c.args.pen.now.conv c.args.sheet.now from (rest_of c.flats.expander) c.flats.pen.state (made c.flats.page (values_of c.flats.lacks)) old now
          (i.drawn known units from old now so_far) fault new.at (rest_of new) (values_of c.add.new.self) step.0.lacked
          (c.in_ok-add-in-Lack.ensures ∙ ap (λ (at : ℕ). with_lack (values_of c.flats.lacks) (record { fault = fault; at = at })) step.1);
    }

pub returns-in_err-add-in-Lack-clause-stop : goal.returns-in_err-add-in-Lack-clause-stop
returns-in_err-add-in-Lack-clause-stop c =
    let r = c.from_residual-in_err-add-in-Lack in
    let p = err_from_is_err_and r.result r.ensures.1 in
    rw (p.1, p.2) (λ known units indexed i old new conv so_far.
    broken_so_far (IsFontOf known units) c.args.pen.now.conv c.args.sheet.now indexed i (rest_of c.flats.expander) c.flats.pen.state (made c.flats.page (values_of c.flats.lacks)) old new
    (c.flats.invariant.drawn known units (course_of c.args.sheet.now.tolerant indexed.reading i) old new so_far) conv)

pub returns-in_default-2 : goal.returns-in_default-2
returns-in_default-2 c =
    let i = c.flats.invariant in
    let none = rw c.in_default.is at c.next_packed_char.follows.holds-at-none in
    let step = rw none at c.in_ok-other.ensures.step in
    let same = other_stays c.flats.expander c.next.new.self c.in_ok-other.other c.in_default-2.not-Flat c.in_default-2.not-Lack step in
    record {
      drawn = λ known units from old new so_far.
          so_far_same (IsFontOf known units) c.args.pen.now.conv c.args.sheet.now from (rest_of c.flats.expander) c.flats.pen.state (made c.flats.page (values_of c.flats.lacks)) old new
          (i.drawn known units from old new so_far) (rest_of c.next.new.self) same.left;
      conv = i.conv;
      asks = omega (arith, i.asks, same.asks);
      steps = fewer_still c.args.expander.now c.flats.expander c.next.new.self c.in_ok-other.other i.steps same.fewer;
      next = same.next;
      fits = c.in_ok-other.ensures.fits;
      source = λ h. absurd cc;
      stop = tt;
    }
