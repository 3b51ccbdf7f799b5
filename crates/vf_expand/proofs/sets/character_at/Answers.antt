use Rattle.dvi_commands.specs.Spelling.{value_of_command}
use Rattle.vf_expand.proofs.SetNext.{no_character, nothing_else}
use Rattle.vf_expand.proofs.sets.character_at.Goals as goal

pub returns-in_default : goal.returns-in_default
returns-in_default c =
    record {
      set = tt;
      readable = tt;
      none = λ is. nothing_else c.args.context c.args.text.now c.args.pos (value_of_command c.command_at-end.result.0) _ c.command_at-end.ensures.commands (no_character _ c.in_default.not-Set c.in_default.not-Put);
    }
