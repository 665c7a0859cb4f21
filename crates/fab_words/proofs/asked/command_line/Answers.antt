use Rattle.std.proofs.Common.{rules, ap, ap₂, ◌≡◌, ◌∙◌}
use Rattle.std.proofs.lemmas.Result.{IfOk-weaker}
use Rattle.clap.specs.Words.{app_of, rule_of, with_rule}
use Rattle.clap.specs.Simple.{app_of_fields}
use Rattle.fab_words.specs.Line.{command_rule, operands_rule, without_help, without_name}
use Rattle.fab_words.proofs.asked.command_line.Goals as goal

pub returns : goal.returns
returns c =
    let command_is : rule_of c.action-command.result ≡ command_rule = search rules in
    let operands_is : rule_of c.action-operands.result ≡ operands_rule = search rules in
    let nameless : app_of c.no_binary_name.result ≡ without_name (app_of c.new-3.result) = ap app_of_fields c.no_binary_name.ensures in
    let helpless : app_of c.disable_help_flag.result ≡ without_help (app_of c.no_binary_name.result) = ap app_of_fields c.disable_help_flag.ensures in
    let one = c.in_ok-arg.ensures.shape (search rules) ∙ ap₂ with_rule (helpless ∙ ap without_help (nameless ∙ ap without_name c.new-3.ensures.app)) command_is in
    IfOk-weaker c.arg-2.result _ _ (λ line adds. adds.shape (search rules) ∙ ap₂ with_rule one operands_is) c.arg-2.ensures
