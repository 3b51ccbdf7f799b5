-- Laws over the settings that arguments give.
use Rattle.std.specs.Prelude.{◌≡◌, ◌≤◌, ℕ, Bool, true, false, List, [], ◌∷◌, ◌++◌}
use Rattle.std.specs.Prelude.{Option, Some, None, codes, decimal}
use Rattle.command_line.specs.declared.settings.Settings.{Settings}
use Rattle.command_line.specs.Settings.{AreSettings, default_settings}
use Rattle.command_line.specs.Line.{Text, Use, choice_of, choices, number_in, settings_of, uses_of}

-- settings that arguments give are within their limits, and ask for no more workers than there are
abbrev pub GivenSettingsAreAllowed : Type 0
GivenSettingsAreAllowed = (workers : ℕ) (arguments : List Text) (s : Settings)
    → settings_of workers arguments ≡ Some s → AreSettings s × (s.workers ≤ workers)

-- no arguments at all give the default settings, wherever there is a worker
abbrev pub NoArgumentsGiveTheDefaults : Type 0
NoArgumentsGiveTheDefaults = (workers : ℕ) → 1 ≤ workers
    → settings_of workers [] ≡ Some default_settings

-- ---- forms of a line

-- a value may stand in the next argument or after `=`, wherever the option stands
abbrev pub ValuesStandApartOrJoined : Type 0
ValuesStandApartOrJoined = (name : Text) (least most : ℕ)
    → choice_of choices name ≡ Some (number_in name least most)
    → (workers : ℕ) (before after : List Text) (value : Text)
    → settings_of workers (before ++ (codes "--" ++ name ++ 61 ∷ value) ∷ after)
    ≡ settings_of workers (before ++ (codes "--" ++ name) ∷ value ∷ after)

-- two options that stand side by side may change places
abbrev pub OptionsStandInAnyOrder : Type 0
OptionsStandInAnyOrder = (before first second after : List Text) (us : List Use) (u v : Use)
    → uses_of before ≡ Some us → uses_of first ≡ Some (u ∷ []) → uses_of second ≡ Some (v ∷ [])
    → (workers : ℕ) → settings_of workers (before ++ (first ++ (second ++ after)))
    ≡ settings_of workers (before ++ (second ++ (first ++ after)))

-- ---- arguments for settings

-- `--name=number`
abbrev pub naming : Text → ℕ → Text
naming name number = codes "--" ++ name ++ 61 ∷ decimal number

abbrev pub naming_some : Text → Option ℕ → List Text
naming_some name None = []
naming_some name (Some number) = naming name number ∷ []

-- `--name` where it is on
abbrev pub naming_if : Text → Bool → List Text
naming_if name true = (codes "--" ++ name) ∷ []
naming_if name false = []

-- arguments that name each of the settings
abbrev pub naming_all : Settings → List Text
naming_all s = naming (codes "res") s.res
    ∷ naming (codes "width") s.sheet.width
    ∷ naming (codes "height") s.sheet.height
    ∷ naming (codes "left") s.sheet.left
    ∷ naming (codes "top") s.sheet.top
    ∷ naming (codes "workers") s.workers
    ∷ naming (codes "cache") s.cache
    ∷ naming (codes "room") s.room
    ∷ naming_some (codes "sample") s.sample
    ++ (naming_if (codes "packed") s.packed
    ++ (naming_if (codes "trace") s.trace
    ++ (naming_if (codes "summary") s.summary
    ++ naming_if (codes "tolerant") s.sheet.tolerant)))

-- all settings within their limits can be given
abbrev pub AllSettingsCanBeGiven : Type 0
AllSettingsCanBeGiven = (workers : ℕ) (s : Settings) → AreSettings s → s.workers ≤ workers
    → settings_of workers (naming_all s) ≡ Some s
