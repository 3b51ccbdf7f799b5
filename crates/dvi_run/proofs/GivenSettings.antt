-- The settings of arguments.
use Rattle.std.proofs.Common.{◌≡◌, ◌∙◌, Option, Some, None, sym}
use Rattle.command_line.specs.declared.settings.Settings.{Settings}

pub same_settings : (o : Option Settings) (a b : Settings) → o ≡ Some a → o ≡ Some b → b ≡ a
same_settings o a b is other = let both : Some a ≡ Some b = sym is ∙ other in cc

pub not_both : {A : Type 0} (o : Option Settings) (s : Settings) → o ≡ None → o ≡ Some s → A
not_both o s none is = let both : None ≡ Some s = sym none ∙ is in absurd cc
