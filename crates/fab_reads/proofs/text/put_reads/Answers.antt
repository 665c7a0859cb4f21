use Rattle.std.proofs.Common.{◌-◌, suc, ◌++◌, length, sym, ap, subst, ◌∙◌, arith}
use Rattle.fab_base.specs.FlatMap.{get}
use Rattle.fab_rights.specs.Computed.{has_bit}
use Rattle.fab_reads.specs.Reads.{NeverFall, fields_of, reads_text}
use Rattle.fab_reads.specs.Walks.{values_there}
use Rattle.fab_reads.proofs.Walking.{all_lines, at_least, line_more, same_values}
use Rattle.fab_reads.proofs.text.put_reads.Goals as goal

pub loop-count-preserved : goal.loop-count-preserved
loop-count-preserved c =
    let i = c.loop-count.invariant in
    let at = c.in_ok-gone.ensures in
    let rest_is = c.in-Some.ensures.cases.0 in
    let rising = subst NeverFall rest_is i.rising in
    let long = ap length rest_is in
    let before = i.number in
    record {
      there = at.there.0;
      later = at_least c.in_ok-gone.gone c.in-Some.count.now c.in-Some.after.now at.there.1 rising.0;
      rising = rising.1;
      here = at.here ∙ sym at.same;
      number = omega (arith, long, before);
      lines = line_more c.args.program.now (values_there c.args.program.now (has_bit c.args.classes) c.args.commits.now c.args.oid) c.loop-count.out c.put_read.new.out _
          c.loop-count.number (length c.args.counts.now - length c.in-Some.after.now) c.in-Some.count.now c.values_in.result.now c.in-Some.after.now c.loop-count.rest.now rest_is
          (omega (arith, long, before)) (c.values_in.ensures ∙ ap (λ m. fields_of (get m c.args.oid)) at.here) c.in_ok-put_read.ensures i.lines;
    }

pub returns : goal.returns
returns c = λ rights.
    all_lines c.args.program.now (values_there c.args.program.now (has_bit c.args.classes) c.args.commits.now c.args.oid) c.loop-count.out _ (suc c.loop-count.number) c.loop-count.rest.now
    c.in_default.ensures.cases c.loop-count.invariant.lines
    ∙ ap (λ values. c.args.out.now ++ reads_text c.args.program.now values c.args.counts.now) (same_values c.args.program.now rights (has_bit c.args.classes) c.args.commits.now c.args.oid)
