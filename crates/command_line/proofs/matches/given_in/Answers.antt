-- a name has its number where the table has it
use Rattle.std.proofs.Common.{◌≡◌, ◌∙◌, refl, ap, ℕ, true, false, Bool, cond, List, Option, Some}
use Rattle.std.proofs.Common.{None, codes}
use Rattle.std.specs.Prelude.{find, option_map}
use Rattle.std.specs.Str.Parse.{digits_value}
use Rattle.pixel_round.specs.Limits.{MAX_RESOLUTION}
use Rattle.raster_page.specs.Limits.{MAX_PAGE_SIDE}
use Rattle.command_line.specs.Limits.{MAX_ROOM}
use Rattle.command_line.specs.Line.{Text, Use, is_named, is_used, number_of}
use Rattle.command_line.specs.Reads.{is_short_text}
use Rattle.command_line.proofs.Short.{all_short}
use Rattle.command_line.proofs.matches.given_in.Goals as goal

pub number-requires : goal.number-requires
number-requires c = record {
  value = λ v. c.requires.1.digits (codes "res") (1, MAX_RESOLUTION) v refl;
  short = ap is_short_text (c.requires.1.number (codes "res") (1, MAX_RESOLUTION) refl)
      ∙ (all_short c.requires.0 c.requires.2).res;
}

pub number-requires-2 : goal.number-requires-2
number-requires-2 c = record {
  value = λ v. c.requires.1.digits (codes "width") (1, MAX_PAGE_SIDE) v refl;
  short = ap is_short_text (c.requires.1.number (codes "width") (1, MAX_PAGE_SIDE) refl)
      ∙ (all_short c.requires.0 c.requires.2).width;
}

pub number-requires-3 : goal.number-requires-3
number-requires-3 c = record {
  value = λ v. c.requires.1.digits (codes "height") (1, MAX_PAGE_SIDE) v refl;
  short = ap is_short_text (c.requires.1.number (codes "height") (1, MAX_PAGE_SIDE) refl)
      ∙ (all_short c.requires.0 c.requires.2).height;
}

pub number-requires-4 : goal.number-requires-4
number-requires-4 c = record {
  value = λ v. c.requires.1.digits (codes "left") (0, MAX_PAGE_SIDE) v refl;
  short = ap is_short_text (c.requires.1.number (codes "left") (0, MAX_PAGE_SIDE) refl)
      ∙ (all_short c.requires.0 c.requires.2).left;
}

pub number-requires-5 : goal.number-requires-5
number-requires-5 c = record {
  value = λ v. c.requires.1.digits (codes "top") (0, MAX_PAGE_SIDE) v refl;
  short = ap is_short_text (c.requires.1.number (codes "top") (0, MAX_PAGE_SIDE) refl)
      ∙ (all_short c.requires.0 c.requires.2).top;
}

pub number-requires-6 : goal.number-requires-6
number-requires-6 c = record {
  value = λ v. c.requires.1.digits (codes "workers") (1, 32) v refl;
  short = ap is_short_text (c.requires.1.number (codes "workers") (1, 32) refl)
      ∙ (all_short c.requires.0 c.requires.2).workers;
}

pub number-requires-7 : goal.number-requires-7
number-requires-7 c = record {
  value = λ v. c.requires.1.digits (codes "cache") (1, 256) v refl;
  short = ap is_short_text (c.requires.1.number (codes "cache") (1, 256) refl)
      ∙ (all_short c.requires.0 c.requires.2).cache;
}

pub number-requires-8 : goal.number-requires-8
number-requires-8 c = record {
  value = λ v. c.requires.1.digits (codes "sample") (1, 1000) v refl;
  short = ap is_short_text (c.requires.1.number (codes "sample") (1, 1000) refl)
      ∙ (all_short c.requires.0 c.requires.2).sample;
}

pub long_number-requires : goal.long_number-requires
long_number-requires c v = c.requires.1.digits (codes "room") (0, MAX_ROOM) v refl

number_read : (name : Text) (us : List Use) (given : Option ℕ) (found : Option Text)
    → given ≡ option_map (digits_value 10) found
    → found ≡ option_map (λ u. u.value) (find (is_named name) us) → given ≡ number_of name us
number_read name us given found e f = e ∙ ap (option_map (digits_value 10)) f
    ∙ twice (find (is_named name) us)
  where
    twice : (o : Option Use)
        → option_map (digits_value 10) (option_map (λ u. u.value) o)
        ≡ option_map (λ u. digits_value 10 u.value) o
    twice None = refl
    twice (Some u) = refl

switch_read : (used flag : Bool) (text : Option Text)
    → text ≡ Some (cond used (codes "true") (codes "false"))
    → (text ≡ Some (codes "true") → flag ≡ true) → (text ≡ Some (codes "false") → flag ≡ false)
    → flag ≡ used
switch_read used flag text e on off = go used e
  where
    go : (u : Bool) → text ≡ Some (cond u (codes "true") (codes "false")) → flag ≡ u
    go true e = on e
    go false e = off e

pub returns : goal.returns
returns c us reads =
    let res = number_read (codes "res") us _ _ c.number.ensures
    (reads.number (codes "res") (1, MAX_RESOLUTION) refl) in
    let width = number_read (codes "width") us _ _ c.number-2.ensures
    (reads.number (codes "width") (1, MAX_PAGE_SIDE) refl) in
    let height = number_read (codes "height") us _ _ c.number-3.ensures
    (reads.number (codes "height") (1, MAX_PAGE_SIDE) refl) in
    let left = number_read (codes "left") us _ _ c.number-4.ensures
    (reads.number (codes "left") (0, MAX_PAGE_SIDE) refl) in
    let top = number_read (codes "top") us _ _ c.number-5.ensures
    (reads.number (codes "top") (0, MAX_PAGE_SIDE) refl) in
    let workers = number_read (codes "workers") us _ _ c.number-6.ensures
    (reads.number (codes "workers") (1, 32) refl) in
    let cache = number_read (codes "cache") us _ _ c.number-7.ensures
    (reads.number (codes "cache") (1, 256) refl) in
    let room = number_read (codes "room") us _ _ c.long_number.ensures
    (reads.number (codes "room") (0, MAX_ROOM) refl) in
    let sample = number_read (codes "sample") us _ _ c.number-8.ensures
    (reads.number (codes "sample") (1, 1000) refl) in
    let packed = switch_read (is_used (codes "packed") us) _ _
    (reads.switch (codes "packed") refl) c.get_flag.ensures.value c.get_flag.ensures.other in
    let trace = switch_read (is_used (codes "trace") us) _ _
    (reads.switch (codes "trace") refl) c.get_flag-2.ensures.value c.get_flag-2.ensures.other in
    let summary = switch_read (is_used (codes "summary") us) _ _
    (reads.switch (codes "summary") refl) c.get_flag-3.ensures.value
    c.get_flag-3.ensures.other in
    let tolerant = switch_read (is_used (codes "tolerant") us) _ _
    (reads.switch (codes "tolerant") refl) c.get_flag-4.ensures.value
    c.get_flag-4.ensures.other in
    λ i. record {
      res = res i;
      width = width i;
      height = height i;
      left = left i;
      top = top i;
      workers = workers i;
      cache = cache i;
      room = room i;
      sample = sample i;
      packed = packed i;
      trace = trace i;
      summary = summary i;
      tolerant = tolerant i;
    }
