use Rattle.std.proofs.Common.{◌∙◌, ap, sym}
use Rattle.fab_core.specs.Starts.{given_by}
use Rattle.fab_evidence.specs.Marks.{told_in}
use Rattle.fab_audit.proofs.Comparing.{few_of_told, form_here, right_found, wrong_found}
use Rattle.fab_audit.proofs.Honest.{same_nodes}
use Rattle.fab_audit.proofs.auditing.judged.Goals as goal

pub at_start-requires-clause-nodes : goal.at_start-requires-clause-nodes
at_start-requires-clause-nodes c = c.requires.nodes ∙ sym (same_nodes (given_by c.args.program.value c.args.rights))

pub retell-requires-clause-few : goal.retell-requires-clause-few
retell-requires-clause-few c =
    few_of_told c.args.program.value c.args.bundle.now c.args.rights c.requires.accepted c.requires.bundle c.args.nodes.now c.args.text.now c.args.evidence.now.lines
    c.args.evidence.now.journals c.requires.nodes c.requires.form c.requires.few c.as_slice-2.result.now
    (c.as_slice-2.ensures ∙ c.in_ok-told.ensures ∙ ap (told_in c.args.bundle.now c.args.rights) c.as_slice.ensures)

pub compared-requires-clause-form : goal.compared-requires-clause-form
compared-requires-clause-form c =
    form_here c.args.program.value c.args.bundle.now c.args.rights c.requires.accepted c.requires.bundle c.args.nodes.now c.args.text.now c.args.evidence.now.lines
    c.args.evidence.now.journals c.requires.nodes c.requires.form c.requires.few c.retell.new.core (c.in_ok-all.ensures.given ∙ c.in_ok-core.ensures.given)

pub returns-in-None : goal.returns-in-None
returns-in-None c =
    right_found c.args.program.value c.args.bundle.now c.args.rights c.requires.accepted c.requires.bundle c.args.nodes.now c.args.text.now c.args.evidence.now.lines
    c.args.evidence.now.journals c.requires.nodes c.requires.form c.requires.few c.retell.new.core (c.in_ok-all.ensures.given ∙ c.in_ok-core.ensures.given)
    c.in_ok-all.all c.as_slice-2.result.now c.in_ok-core.core.given c.in_ok-core.ensures.given c.in_ok-all.ensures.ran
    (c.as_slice-2.ensures ∙ c.in_ok-told.ensures ∙ ap (told_in c.args.bundle.now c.args.rights) c.as_slice.ensures)
    c.in_ok-compared.field-0 c.in_ok-compared.ensures.first c.in-None.is c.in_ok-compared.ensures.bytes

pub returns : goal.returns
returns c =
    wrong_found c.args.program.value c.args.bundle.now c.args.rights c.requires.accepted c.requires.bundle c.args.nodes.now c.args.text.now c.args.evidence.now.lines
    c.args.evidence.now.journals c.requires.nodes c.requires.form c.requires.few c.retell.new.core (c.in_ok-all.ensures.given ∙ c.in_ok-core.ensures.given)
    c.in_ok-compared.field-0 c.in-Some.difference c.in_ok-compared.ensures.first c.in-Some.is
