use Rattle.std.proofs.Common.{◌∙◌, Err, subst}
use Rattle.fab_evidence.specs.Texts.{RefusesRightly}
use Rattle.fab_audit.proofs.Comparing.{bad_found, named_there, nodes_are}
use Rattle.fab_audit.proofs.auditing.audit_of.Goals as goal

pub read_audit-requires-clause-named : goal.read_audit-requires-clause-named
read_audit-requires-clause-named c =
    named_there c.args.program.value c.args.bundle.now c.args.rights c.requires.accepted c.requires.bundle c.as_slice.result.now (c.as_slice.ensures ∙ c.in_ok-nodes.ensures)

pub judged-requires-clause-nodes : goal.judged-requires-clause-nodes
judged-requires-clause-nodes c =
    nodes_are c.args.program.value c.args.bundle.now c.args.rights c.requires.accepted c.requires.bundle c.as_slice-in-Ok.result.now (c.as_slice-in-Ok.ensures ∙ c.in_ok-nodes.ensures)

pub returns : goal.returns
returns c =
    rw c.in-Err-Bad.field-0-is (
    bad_found c.args.program.value c.args.bundle.now c.args.rights c.requires.accepted c.requires.bundle c.as_slice.result.now (c.as_slice.ensures ∙ c.in_ok-nodes.ensures)
    c.args.text.now c.in-Err-Bad.at (subst (λ x. RefusesRightly c.args.bundle.now c.as_slice.result.now c.args.text.now (Err x)) c.in-Err-Bad.field-0-is c.in-Err-Bad.ensures.bad))
