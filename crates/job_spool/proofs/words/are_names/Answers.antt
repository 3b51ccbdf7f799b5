use Rattle.std.proofs.Common.{Bool, ap, ap₂, sym, ◌∙◌}
use Rattle.std.specs.Prelude.{◌&&◌, string_bytes}
use Rattle.std.proofs.lemmas.List.{length-map}
use Rattle.std.proofs.lemmas.List.Folds.{list_all-map}
use Rattle.job_spool.specs.Words.{is_count_of_names, is_name}
use Rattle.job_spool.proofs.words.are_names.Goals as goal

pub returns : goal.returns
returns c =
    let size = length-map c.args.names.now string_bytes in
    ap₂ (λ (a b : Bool). a && b) (c.is_count.ensures ∙ ap is_count_of_names (sym size)) (c.are_given.ensures ∙ sym (list_all-map is_name string_bytes c.args.names.now))
