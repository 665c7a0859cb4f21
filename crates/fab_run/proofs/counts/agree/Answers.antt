use Rattle.std.proofs.Common.{length, sym, ◌∙◌}
use Rattle.fab_rights.specs.Computed.{has_bit}
use Rattle.fab_settings.specs.Settings.{setting_of}
use Rattle.fab_reads.specs.Reads.{values_after}
use Rattle.fab_run.proofs.Agreeing.{agreed, rising_before}
use Rattle.fab_run.proofs.counts.agree.Goals as goal

pub values_after-requires : goal.values_after-requires
values_after-requires c =
    record { rising = rising_before (length c.args.seen.now) c.args.counts.now (c.never_fall.ensures.yes c.if-not-never_fall.false) }

pub returns : goal.returns
returns c = λ rights.
    agreed c.args.reading.times c.args.commits.now (values_after (setting_of c.args.program.now rights) (has_bit c.args.reading.classes) c.args.commits.now c.args.reading.oid)
    c.args.seen.now c.args.counts.now c.as_slice.result.now c.is_as_seen.result c.if-seen-reading.false c.requires
    (sym c.if-not-never_fall.false ∙ c.never_fall.ensures.exact) (c.as_slice.ensures ∙ c.in_ok-rows.ensures rights) c.is_as_seen.ensures
