use Rattle.std.proofs.Common.{subst, sym, ap, ◌∙◌}
use Rattle.dvi_commands.specs.Spelling.{value_of_command}
use Rattle.page_index.specs.Faults.{IsFirstFault}
use Rattle.page_index.specs.Walked.{fonts_after, pages_after, progress_after}
use Rattle.page_index.specs.declared.faults.DocFault.{DocFault}
use Rattle.page_index.specs.declared.progress.Progress.{Progress}
use Rattle.page_index.proofs.Steps.{early_fault, judged_fault, read_as, reads_more, refused_fault}
use Rattle.page_index.proofs.walk.Walk.step.Goals as goal

pub returns-in-Err-clause-stop : goal.returns-in-Err-clause-stop
returns-in-Err-clause-stop c =
    let old = c.args.self.now in
    early_fault c.args.bytes.now c.args.first.now old.progress old.pages.items old.fonts c.requires.read c.requires.going c.in-Err.fault c.in-Err.ensures.fault

pub returns-in-Err-read_command-clause-stop : goal.returns-in-Err-read_command-clause-stop
returns-in-Err-read_command-clause-stop c =
    let old = c.args.self.now in
    subst (λ (f : DocFault). IsFirstFault c.args.first.now.units.res c.args.bytes.now f) (sym c.doc_fault.ensures)
    (refused_fault c.args.bytes.now c.args.first.now old.progress old.pages.items old.fonts c.requires.read c.requires.going c.in_default.ensures.postpost c.in-Err-read_command.fault c.in-Err-read_command.ensures.refused)

pub returns-in-Some-clause-stop : goal.returns-in-Some-clause-stop
returns-in-Some-clause-stop c =
    let old = c.args.self.now in
    judged_fault c.args.bytes.now c.args.first.now old.progress old.pages.items old.fonts c.requires.read c.requires.going c.in_default.ensures.postpost (value_of_command c.in-Ok.read.0) c.in-Ok.read.1
    c.in-Ok.ensures.read c.in-Ok.ensures.place.0 c.in-Ok.ensures.place.1 c.in-Ok.ensures.allowed c.in-Some.fault (sym c.in-Some.ensures)

pub returns-clause-read : goal.returns-clause-read
returns-clause-read c =
    let old = c.args.self.now in
    let command = value_of_command c.in-Ok.read.0 in
    let next = c.in-Ok.read.1 in
    read_as c.args.bytes.now c.args.first.now (progress_after old.progress command next) c.after-self.result
    (pages_after old.progress old.pages.items command) c.keep.new.self.pages.items (fonts_after old.fonts command) c.keep.new.self.fonts
    (c.after-self.ensures ∙ ap (λ (p : Progress). progress_after p command next) c.in_ok-keep.ensures.progress) c.in_ok-keep.ensures.pages c.in_ok-keep.ensures.fonts
    (reads_more c.args.bytes.now c.args.first.now old.progress old.pages.items old.fonts c.requires.read c.requires.going c.in_default.ensures.postpost command next
    c.in-Ok.ensures.read c.in-Ok.ensures.place.0 c.in-Ok.ensures.place.1 c.in-Ok.ensures.allowed (sym c.in_default-fault_of.ensures))
