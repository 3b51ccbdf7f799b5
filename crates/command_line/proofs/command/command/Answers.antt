-- each call adds its option to those before it
use Rattle.std.proofs.Common.{◌∙◌, ap, codes, List, ℕ}
use Rattle.std.proofs.lemmas.Result.{IfOk-weaker}
use Rattle.clap.specs.Words.{App}
use Rattle.command_line.specs.Commands.{with_number, with_switch}
use Rattle.command_line.proofs.command.command.Goals as goal

pub returns : goal.returns
returns c =
    let number = λ (name : List ℕ) (a : App). with_number a name in
    let e1 = c.in_ok-command.ensures ∙ ap (number (codes "res")) c.command_without_options-command.ensures in
    let e2 = c.in_ok-command-2.ensures ∙ ap (number (codes "width")) e1 in
    let e3 = c.in_ok-command-3.ensures ∙ ap (number (codes "height")) e2 in
    let e4 = c.in_ok-command-4.ensures ∙ ap (number (codes "left")) e3 in
    let e5 = c.in_ok-command-5.ensures ∙ ap (number (codes "top")) e4 in
    let e6 = c.in_ok-command-6.ensures ∙ ap (number (codes "workers")) e5 in
    let e7 = c.in_ok-command-7.ensures ∙ ap (number (codes "cache")) e6 in
    let e8 = c.in_ok-command-8.ensures ∙ ap (number (codes "room")) e7 in
    let e9 = c.in_ok-command-9.ensures ∙ ap (number (codes "sample")) e8 in
    let e10 = c.in_ok-command-10.ensures ∙ ap (λ (a : App). with_switch a (codes "packed")) e9 in
    let e11 = c.in_ok-command-11.ensures ∙ ap (λ (a : App). with_switch a (codes "trace")) e10 in
    let e12 = c.in_ok-command-12.ensures ∙ ap (λ (a : App). with_switch a (codes "summary")) e11 in
    IfOk-weaker c.with_switch-4.result _ _
    (λ r h. h ∙ ap (λ (a : App). with_switch a (codes "tolerant")) e12) c.with_switch-4.ensures
