use Rattle.fab_nested.proofs.Touching.{objects_cut}
use Rattle.fab_nested.proofs.touches.Touches.cut.Goals as goal

pub invariant_of-self : goal.invariant_of-self
invariant_of-self c =
    objects_cut c.args.pairs c.args.objects c.self.inside.noted c.args.self.now c.truncate.new.self c.self.inside.objects c.truncate-2.new.self c.self.view_is c.self.invariant c.requires
    c.truncate.ensures c.truncate-2.ensures
