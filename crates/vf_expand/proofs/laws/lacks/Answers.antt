use Rattle.vf_expand.proofs.Lacking.{strict_pages_stop_at_a_lack, tolerant_pages_go_on}
use Rattle.vf_expand.proofs.WorkedLacks.{lacks_are_cut, lacks_are_worked}
use Rattle.vf_expand.proofs.laws.lacks.Goals as goal

pub returns : goal.returns
returns c = record {
  tolerant = tolerant_pages_go_on;
  strict = strict_pages_stop_at_a_lack;
  worked = lacks_are_worked;
  cut = lacks_are_cut;
}
