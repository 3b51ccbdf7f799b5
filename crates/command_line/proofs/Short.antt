-- How many digits the numbers of a line have.
use Rattle.std.proofs.Common.{◌≡◌, ◌∙◌, refl, sym, ap, Bool, true, false, ◌&&◌, List, Option, Some}
use Rattle.std.proofs.Common.{None, codes, length}
use Rattle.std.specs.Prelude.{find, nat_le, option_map}
use Rattle.std.specs.List.{list_all}
use Rattle.std.specs.Option.{option_map_or}
use Rattle.std.proofs.lemmas.Bool.{and_parts}
use Rattle.clap.specs.Words.{first_value}
use Rattle.clap.specs.declared.parser.matches.Found.{Found}
use Rattle.command_line.specs.Limits.{MAX_ROOM}
use Rattle.command_line.specs.Line.{Text, Use, choices, is_named, is_short, is_value}
use Rattle.command_line.specs.Reads.{MatchesHold, is_short_text}

-- the text that an option was given
abbrev pub text_given : Text → List Use → Option Text
text_given name us = option_map (λ u. u.value) (find (is_named name) us)

-- the number of an option has at most seven digits
abbrev pub is_few : Text → List Use → Bool
is_few name us =
    option_map_or (λ (u : Use). nat_le (length u.value) 7) (find (is_named name) us) true

use_short : (o : Option Use)
    → option_map_or (λ (u : Use). nat_le (length u.value) 7) o true
    ≡ is_short_text (option_map (λ (u : Use). u.value) o)
use_short None = refl
use_short (Some u) = refl

-- no number of the uses has too many digits, but that of the room, which is looked at as a value
pub record AreShort (us : List Use) : Type 0 where
  pub res : is_short_text (text_given (codes "res") us) ≡ true
  pub width : is_short_text (text_given (codes "width") us) ≡ true
  pub height : is_short_text (text_given (codes "height") us) ≡ true
  pub left : is_short_text (text_given (codes "left") us) ≡ true
  pub top : is_short_text (text_given (codes "top") us) ≡ true
  pub workers : is_short_text (text_given (codes "workers") us) ≡ true
  pub cache : is_short_text (text_given (codes "cache") us) ≡ true
  pub sample : is_short_text (text_given (codes "sample") us) ≡ true

one_short : (name : Text) (us : List Use)
    → is_few name us ≡ true → is_short_text (text_given name us) ≡ true
one_short name us h = sym (use_short (find (is_named name) us)) ∙ h

pub all_short : (us : List Use) → list_all (is_short us) choices ≡ true → AreShort us
all_short us h =
    let res = and_parts _ _ h in
    let width = and_parts _ _ res.1 in
    let height = and_parts _ _ width.1 in
    let left = and_parts _ _ height.1 in
    let top = and_parts _ _ left.1 in
    let workers = and_parts _ _ top.1 in
    let cache = and_parts _ _ workers.1 in
    let room = and_parts _ _ cache.1 in
    let sample = and_parts _ _ room.1 in
    record {
      res = one_short (codes "res") us res.0;
      width = one_short (codes "width") us width.0;
      height = one_short (codes "height") us height.0;
      left = one_short (codes "left") us left.0;
      top = one_short (codes "top") us top.0;
      workers = one_short (codes "workers") us workers.0;
      cache = one_short (codes "cache") us cache.0;
      sample = one_short (codes "sample") us sample.0;
    }

-- a room that is a value is short
pub room_short : (us : List Use) (f : Found) → MatchesHold us f
    → option_map_or (λ (u : Use). nat_le (length u.value) 10) (find (is_named (codes "room")) us)
    true ≡ true
room_short us f hold = go (find (is_named (codes "room")) us)
    (hold.number (codes "room") (0, MAX_ROOM) refl)
  where
    go : (o : Option Use) → first_value f (codes "room") ≡ option_map (λ (u : Use). u.value) o
        → option_map_or (λ (u : Use). nat_le (length u.value) 10) o true ≡ true
    go None e = refl
    go (Some u) e =
        let value : is_value u.value ≡ true =
        hold.digits (codes "room") (0, MAX_ROOM) u.value refl e in
        (and_parts _ _ (and_parts _ _ value).0).1

pub regrouped : (a b c d e f g h room : Bool) → room ≡ true
    → (((((((a && b) && c) && d) && e) && f) && g) && h)
    ≡ (a && (b && (c && (d && (e && (f && (g && (room && (h && true)))))))))
regrouped false b c d e f g h room is = refl
regrouped true false c d e f g h room is = refl
regrouped true true false d e f g h room is = refl
regrouped true true true false e f g h room is = refl
regrouped true true true true false f g h room is = refl
regrouped true true true true true false g h room is = refl
regrouped true true true true true true false h room is = refl
regrouped true true true true true true true false room is = rw is refl
regrouped true true true true true true true true room is = rw is refl

pub same_short : (name : Text) (us : List Use) (found : Option Text) → found ≡ text_given name us
    → is_short_text found ≡ is_few name us
same_short name us found e = ap is_short_text e ∙ sym (use_short (find (is_named name) us))
