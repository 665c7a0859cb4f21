use Rattle.fab_gen.specs.Generated.{root_line}
use Rattle.fab_gen.proofs.Lines.{line_more}
use Rattle.fab_gen.proofs.generator.put_roots.Goals as goal

pub loop-place-preserved : goal.loop-place-preserved
loop-place-preserved c =
    line_more (root_line c.args.number c.args.worker) c.loop-place.place c.args.out.now c.loop-place.out c.put_root.new.out c.loop-place.invariant c.in_ok-put_root.ensures
