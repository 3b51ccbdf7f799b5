-- A page for which there was no memory.
use Rattle.std.proofs.Common.{◌≡◌, ℕ, List, [], inl, refl}
use Rattle.std.specs.Prelude.{Option, Some}
use Rattle.outside.specs.declared.keys.FontKey.{FontKey}
use Rattle.pixel_round.specs.declared.units.Units.{Units}
use Rattle.drift_rules.specs.Position.{at_origin}
use Rattle.vf_expand.specs.Course.{course_of}
use Rattle.page_index.specs.Pages.{Indexed, document_units}
use Rattle.page_draw.specs.Drawn.{IsBroken}
use Rattle.page_draw.specs.Members.{Finding}
use Rattle.page_draw.specs.declared.sheet.Sheet.{Sheet}
use Rattle.page_draw.proofs.Lists.{grew_none}

-- a page that was not begun, since there was no memory for it
pub not_begun : (Finds : Finding) (indexed : Indexed) (sheet : Sheet) (i : ℕ) (units : Units) (asked : Option (List FontKey)) → document_units indexed.res indexed.reading ≡ Some units → IsBroken Finds indexed sheet i asked asked
not_begun Finds indexed sheet i units asked is = record {
  members = [];
  to = course_of sheet.tolerant indexed.reading i;
  units = units;
  state = at_origin;
  of_document = is;
  leads = refl;
  moved = refl;
  asked = inl (grew_none asked);
}
