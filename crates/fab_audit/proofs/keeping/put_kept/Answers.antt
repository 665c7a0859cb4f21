use Rattle.std.proofs.Common.{◌∙◌, ap, sym, subst}
use Rattle.fab_evidence.specs.declared.shown.ShownJournal.{ShownJournal}
use Rattle.fab_reports.specs.Lines.{AreBytes}
use Rattle.fab_audit.specs.Right.{kept_journal}
use Rattle.fab_audit.proofs.Kept.{kept_if_failed, kept_if_sound, same_line, told_failed}
use Rattle.fab_audit.proofs.keeping.put_kept.Goals as goal

pub returns-then-has_failed-clause-line : goal.returns-then-has_failed-clause-line
returns-then-has_failed-clause-line c =
    let core = c.args.core.now in
    let journal = c.args.journal.now in
    let told = told_failed core c.args.program.now c.requires.program journal c.log.result.now c.has_failed.result c.log.ensures c.has_failed.ensures in
    let kept = kept_if_failed core c.args.program.now c.requires.program journal (sym told ∙ c.if-has_failed.true) in
    same_line c.args.program.now (kept_journal c.args.program.now core.given.rights core.moves journal) (record { node = journal.node; bytes = c.as_slice.result.now })
    c.put_line.result c.args.out.now c.put_line.new.out (kept ∙ ap (λ bytes. record { node = journal.node; bytes = bytes }) (sym c.as_slice.ensures)) c.put_line.ensures.line

pub returns-then-has_failed-clause-bytes : goal.returns-then-has_failed-clause-bytes
returns-then-has_failed-clause-bytes c =
    let core = c.args.core.now in
    let journal = c.args.journal.now in
    let told = told_failed core c.args.program.now c.requires.program journal c.log.result.now c.has_failed.result c.log.ensures c.has_failed.ensures in
    let kept = kept_if_failed core c.args.program.now c.requires.program journal (sym told ∙ c.if-has_failed.true) in
    subst AreBytes (c.as_slice.ensures ∙ sym (ap (λ (x : ShownJournal). x.bytes) kept)) c.put_line.ensures.bytes

pub returns-else-has_failed-clause-line : goal.returns-else-has_failed-clause-line
returns-else-has_failed-clause-line c =
    let core = c.args.core.now in
    let journal = c.args.journal.now in
    let told = told_failed core c.args.program.now c.requires.program journal c.log.result.now c.has_failed.result c.log.ensures c.has_failed.ensures in
    let kept = kept_if_sound core c.args.program.now c.requires.program journal _ (sym told ∙ c.if-has_failed.false) c.journal.ensures (c.journals_are.ensures journal.node) in
    same_line c.args.program.now (kept_journal c.args.program.now core.given.rights core.moves journal) (record { node = journal.node; bytes = c.bytes.result.now })
    c.put_line-else-has_failed.result c.args.out.now c.put_line-else-has_failed.new.out (kept ∙ ap (λ bytes. record { node = journal.node; bytes = bytes }) (sym c.bytes.ensures))
    c.put_line-else-has_failed.ensures.line

pub returns-else-has_failed-clause-bytes : goal.returns-else-has_failed-clause-bytes
returns-else-has_failed-clause-bytes c =
    let core = c.args.core.now in
    let journal = c.args.journal.now in
    let told = told_failed core c.args.program.now c.requires.program journal c.log.result.now c.has_failed.result c.log.ensures c.has_failed.ensures in
    let kept = kept_if_sound core c.args.program.now c.requires.program journal _ (sym told ∙ c.if-has_failed.false) c.journal.ensures (c.journals_are.ensures journal.node) in
    subst AreBytes (c.bytes.ensures ∙ sym (ap (λ (x : ShownJournal). x.bytes) kept)) c.put_line-else-has_failed.ensures.bytes
