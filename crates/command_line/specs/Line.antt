-- The settings that a list of arguments gives.
use Rattle.std.specs.Prelude.{◌*◌, ◌/◌, ◌==◌, ◌&&◌, ◌||◌, ℕ, Bool, true, not, min, nat_le}
use Rattle.std.specs.Prelude.{List, [], ◌∷◌, length, find, codes, bytes_eq, if◌then◌else◌}
use Rattle.std.specs.Prelude.{Option, Some, None, is_some, is_none, option_map, option_and_then}
use Rattle.std.specs.Prelude.{unwrap_or}
use Rattle.std.specs.List.{list_any, list_all, before_first, after_first}
use Rattle.std.specs.Option.{option_map_or}
use Rattle.std.specs.Char.{is_ascii_digit}
use Rattle.std.specs.Str.Parse.{digits_value}
use Rattle.pixel_round.specs.Limits.{MAX_RESOLUTION}
use Rattle.raster_page.specs.Limits.{MAX_PAGE_SIDE}
use Rattle.command_line.specs.declared.settings.Settings.{Settings}
use Rattle.command_line.specs.Limits.{MAX_WORKERS}
use Rattle.command_line.specs.Limits.{MAX_CACHED_FONTS, MAX_ROOM}

abbrev pub Text : Type 0
Text = List ℕ

-- ---- options

-- an option of the program: its name, and the least and the greatest number that it takes; none
-- where it takes no value
pub record Choice : Type 0 where
  pub name : Text
  pub range : Option (ℕ × ℕ)

abbrev pub number_in : Text → ℕ → ℕ → Choice
number_in name least most = record { name = name; range = Some (least, most) }

abbrev pub switch : Text → Choice
switch name = record { name = name; range = None }

abbrev pub choices : List Choice
choices = number_in (codes "res") 1 MAX_RESOLUTION
    ∷ number_in (codes "width") 1 MAX_PAGE_SIDE
    ∷ number_in (codes "height") 1 MAX_PAGE_SIDE
    ∷ number_in (codes "left") 0 MAX_PAGE_SIDE
    ∷ number_in (codes "top") 0 MAX_PAGE_SIDE
    ∷ number_in (codes "workers") 1 MAX_WORKERS
    ∷ number_in (codes "cache") 1 MAX_CACHED_FONTS
    ∷ number_in (codes "room") 0 MAX_ROOM
    ∷ number_in (codes "sample") 1 1000
    ∷ switch (codes "packed")
    ∷ switch (codes "trace")
    ∷ switch (codes "summary")
    ∷ switch (codes "tolerant")
    ∷ []

-- the option of this name, which is given whole
abbrev pub choice_of : List Choice → Text → Option Choice
choice_of table name = find (λ c. bytes_eq c.name name) table

-- one to ten decimal digits
abbrev pub is_value : Text → Bool
is_value text =
    nat_le 1 (length text) && nat_le (length text) 10 && list_all is_ascii_digit text

-- how many digits a value may have, by the greatest number that its option takes: seven, or ten
-- where seven can't spell that
abbrev pub most_digits : ℕ → ℕ
most_digits greatest = if nat_le 10000000 greatest then 10 else 7

-- an option as it was used, with its value; a switch has the empty text
pub record Use : Type 0 where
  pub choice : Choice
  pub value : Text

-- ---- one argument

-- what stands after a first byte c
abbrev pub after_byte : ℕ → Text → Option Text
after_byte c [] = None
after_byte c (x ∷ xs) = if x == c then Some xs else None

-- what stands after two hyphens (45)
abbrev pub after_hyphens : Text → Option Text
after_hyphens argument = option_and_then (after_byte 45) (after_byte 45 argument)

-- a name, and what stands after the first `=` (61), if there is one
abbrev pub name_of : Text → Text
name_of rest = before_first (λ x. x == 61) rest

abbrev pub value_of : Text → Option Text
value_of rest =
    if list_any (λ x. x == 61) rest then Some (after_first (λ x. x == 61) rest) else None

-- what an argument is: no part of a line, an option whose value is the next argument, or the end
-- of an option with all that belongs to it
pub data Part : Type 0 where
  stray : Part
  opens : Choice → Part
  whole : Use → Part

abbrev pub with_value : Choice → Text → Part
with_value c v = if is_value v then whole (record { choice = c; value = v }) else stray

abbrev pub number_part : Choice → Option Text → Part
number_part c None = opens c
number_part c (Some v) = with_value c v

abbrev pub switch_part : Choice → Option Text → Part
switch_part c None = whole (record { choice = c; value = [] })
switch_part c (Some v) = stray

abbrev pub choice_part : Option Choice → Option Text → Part
choice_part None v = stray
choice_part (Some c) v = if is_some c.range then number_part c v else switch_part c v

-- an argument `--name` or `--name=value`, by what stands after its hyphens
abbrev pub option_part : List Choice → Option Text → Part
option_part table None = stray
option_part table (Some rest) = choice_part (choice_of table (name_of rest)) (value_of rest)

-- an argument, where an option may wait for its value
abbrev pub part_of_argument : List Choice → Option Choice → Text → Part
part_of_argument table None argument = option_part table (after_hyphens argument)
part_of_argument table (Some c) argument = with_value c argument

-- ---- all arguments

abbrev pub waiting_after : Part → Option Choice
waiting_after (opens c) = Some c
waiting_after _ = None

abbrev pub use_before : Part → Option (List Use) → Option (List Use)
use_before stray uses = None
use_before (opens c) uses = uses
use_before (whole u) uses = option_map (λ us. u ∷ us) uses

-- the uses that the arguments spell, in their order, where an option may wait for its value; none
-- where an argument is no part of a line, or an option still waits at the end
abbrev pub uses_from : List Choice → Option Choice → List Text → Option (List Use)
uses_from table waiting [] = if is_none waiting then Some [] else None
uses_from table waiting (argument ∷ arguments) =
    let part = part_of_argument table waiting argument in
    use_before part (uses_from table (waiting_after part) arguments)

abbrev pub uses_of : List Text → Option (List Use)
uses_of arguments = uses_from choices None arguments

-- ---- what the uses set

abbrev pub is_named : Text → Use → Bool
is_named name u = bytes_eq u.choice.name name

-- no option is used twice
abbrev pub are_distinct : List Use → Bool
are_distinct [] = true
are_distinct (u ∷ us) = not (list_any (is_named u.choice.name) us) && are_distinct us

-- an option that takes a number was given none, or one with no more digits than it may have
abbrev pub is_short : List Use → Choice → Bool
is_short us c = option_map_or (λ r. option_map_or
    (λ u. nat_le (length u.value) (most_digits r.1)) (find (is_named c.name) us) true) c.range true

-- the number that an option was given
abbrev pub number_of : Text → List Use → Option ℕ
number_of name us = option_map (λ u. digits_value 10 u.value) (find (is_named name) us)

-- a number that is given lies in these bounds
abbrev pub is_within : ℕ → ℕ → Option ℕ → Bool
is_within least most given = option_map_or (λ n. nat_le least n && nat_le n most) given true

-- an option that takes a number was given none, or one in its range
abbrev pub is_in_range : List Use → Choice → Bool
is_in_range us c = option_map_or (λ r. is_within r.0 r.1 (number_of c.name us)) c.range true

abbrev pub number_or : ℕ → Text → List Use → ℕ
number_or default name us = unwrap_or (number_of name us) default

abbrev pub is_used : Text → List Use → Bool
is_used name us = list_any (is_named name) us

-- each option's number, or its default: the sheet is 8.5 by 11 inches, but no side is longer than
-- 20,000 dots, with margins of one inch; it is tolerant where that is asked for
abbrev pub settings_from : List Use → Settings
settings_from us = let res = number_or 300 (codes "res") us in record {
  res = res;
  sheet = record {
    width = number_or (min MAX_PAGE_SIDE (17 * res / 2)) (codes "width") us;
    height = number_or (min MAX_PAGE_SIDE (11 * res)) (codes "height") us;
    left = number_or res (codes "left") us;
    top = number_or res (codes "top") us;
    tolerant = is_used (codes "tolerant") us;
  };
  workers = number_or 1 (codes "workers") us;
  cache = number_or 16 (codes "cache") us;
  room = number_or MAX_ROOM (codes "room") us;
  sample = number_of (codes "sample") us;
  packed = is_used (codes "packed") us;
  trace = is_used (codes "trace") us;
  summary = is_used (codes "summary") us;
}

-- packed fonts are those of a sample
abbrev pub has_sample : (packed : Bool) → (sample : Option ℕ) → Bool
has_sample packed sample = not packed || is_some sample

-- the settings of the uses, where no option is used twice, no number has too many digits, each lies
-- in its range, there are as many workers as are asked for, and packed fonts are asked for with a
-- sample alone
abbrev pub settings_among : ℕ → List Use → Option Settings
settings_among workers us = if are_distinct us && list_all (is_short us) choices
    && list_all (is_in_range us) choices && nat_le (number_or 1 (codes "workers") us) workers
    && has_sample (is_used (codes "packed") us) (number_of (codes "sample") us)
    then Some (settings_from us) else None

-- the settings that the arguments give with n workers at hand, or none
unfoldable pub settings_of : ℕ → List Text → Option Settings
settings_of workers arguments = option_and_then (settings_among workers) (uses_of arguments)
