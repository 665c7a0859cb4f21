use Rattle.std.proofs.Common.{sym, ap, subst, ◌∙◌, map}
use Rattle.fab_base.specs.FlatMap.{get}
use Rattle.fab_rights.specs.Computed.{has_bit}
use Rattle.fab_reads.specs.Reads.{NeverFall, fields_of}
use Rattle.fab_reads.specs.Walks.{values_there}
use Rattle.fab_reads.proofs.Walking.{all_read, at_least, one_more, same_values}
use Rattle.fab_reads.proofs.values.values_after.Goals as goal

pub loop-count-preserved : goal.loop-count-preserved
loop-count-preserved c =
    let i = c.loop-count.invariant in
    let at = c.in_ok-gone.ensures in
    let rest_is = c.in-Some.ensures.cases.0 in
    let rising = subst NeverFall rest_is i.rising in
    record {
      there = at.there.0;
      later = at_least c.in_ok-gone.gone c.in-Some.count.now c.in-Some.after.now at.there.1 rising.0;
      rising = rising.1;
      here = at.here ∙ sym at.same;
      read = one_more (values_there c.args.program.now (has_bit c.args.classes) c.args.commits.now c.args.oid) c.loop-count.rows c.push.new.self _ c.in-Some.count.now
          c.in_ok-from_slice.field-0 c.in-Some.after.now c.loop-count.rest.now rest_is c.in_ok-push.ensures.ok
          (c.in_ok-from_slice.ensures ∙ c.values_in.ensures ∙ ap (λ m. fields_of (get m c.args.oid)) at.here) i.read;
    }

pub returns : goal.returns
returns c = λ rights.
    all_read (values_there c.args.program.now (has_bit c.args.classes) c.args.commits.now c.args.oid) c.loop-count.rows _ c.loop-count.rest.now c.in_default.ensures.cases
    c.loop-count.invariant.read
    ∙ ap (λ values. map values c.args.counts.now) (same_values c.args.program.now rights (has_bit c.args.classes) c.args.commits.now c.args.oid)
