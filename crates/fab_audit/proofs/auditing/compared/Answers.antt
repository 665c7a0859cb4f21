use Rattle.std.proofs.Common.{◌∙◌, ◌++◌, ℕ, List, ap, sym, subst, map, refl}
use Rattle.std.specs.List.{AllByRecursion}
use Rattle.fab_replay.proofs.Accepted.{are_numbered}
use Rattle.fab_evidence.specs.declared.shown.ShownJournal.{ShownJournal}
use Rattle.fab_evidence.specs.Texts.{journals_text}
use Rattle.fab_reports.specs.Lines.{AreBytes}
use Rattle.fab_audit.specs.Keeping.{IsShownOf}
use Rattle.fab_audit.specs.Right.{kept_journal}
use Rattle.fab_audit.proofs.Comparing.{barred_is, if_any, if_same, log_long, whole_is}
use Rattle.fab_audit.proofs.Honest.{all_shown}
use Rattle.fab_audit.proofs.auditing.compared.Goals as goal

pub report_of-requires-clause-numbered : goal.report_of-requires-clause-numbered
report_of-requires-clause-numbered c = are_numbered c.args.core.now.given c.is_a_run.ensures.given c.args.program.now c.requires.program

pub returns-then-not-all-clause-first : goal.returns-then-not-all-clause-first
returns-then-not-all-clause-first c =
    let core = c.args.core.now in
    if_same c.first_before_barred.result _ _
    (barred_is core c.args.program.now c.requires.program c.args.evidence.now.lines c.args.evidence.now.journals c.args.text.now c.args.all c.requires.ran
    c.as_slice.result.now _ c.if-not-all.true (c.as_slice.ensures ∙ c.in_ok-kept.ensures) (log_long core.given core.moves c.log.result.now c.log.ensures)) c.first_before_barred.ensures

pub put_all_kept-requires-clause-shown : goal.put_all_kept-requires-clause-shown
put_all_kept-requires-clause-shown c =
    let g = c.args.core.now.given in
    subst (AllByRecursion (IsShownOf g)) (sym c.as_slice-2.ensures)
    (all_shown c.args.program.now g.rights g c.requires.program refl c.args.evidence.now.journals c.requires.form.order)

pub returns-clause-first : goal.returns-clause-first
returns-clause-first c =
    let core = c.args.core.now in
    let kept : List ShownJournal → List ℕ = λ journals. c.in_ok-kept.kept ++ journals_text c.args.program.now (map (kept_journal c.args.program.now core.given.rights core.moves) journals) in
    if_same c.first_difference.result _ _
    (whole_is core c.args.program.now c.requires.program c.args.evidence.now.lines c.args.evidence.now.journals c.args.text.now c.args.all c.requires.ran
    c.in_ok-kept.kept c.as_slice-3.result.now c.if-not-all.false c.in_ok-kept.ensures (c.as_slice-3.ensures ∙ c.in_ok-put_all_kept.ensures.lines ∙ ap kept c.as_slice-2.ensures))
    c.first_difference.ensures

pub returns-clause-bytes : goal.returns-clause-bytes
returns-clause-bytes c =
    let core = c.args.core.now in
    if_any c.first_difference.result (λ yes.
    subst (AllByRecursion (λ j. AreBytes (kept_journal c.args.program.now core.given.rights core.moves j).bytes)) c.as_slice-2.ensures c.in_ok-put_all_kept.ensures.bytes)
