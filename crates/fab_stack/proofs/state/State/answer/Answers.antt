use Rattle.std.proofs.Common.{subst, sym}
use Rattle.fab_stack.specs.Points.{Lacks, Point}
use Rattle.fab_stack.proofs.Making.{answered_own, own_or_kept}
use Rattle.fab_stack.proofs.state.State.answer.Goals as goal

pub answer-requires : goal.answer-requires
answer-requires c = record { absent = (subst (λ (p : Point). Lacks c.args.oid p) (sym c.self.view_is) c.requires).absent }

pub invariant_of-self : goal.invariant_of-self
invariant_of-self c =
    own_or_kept c.answer.result c.self.inside.frames c.answer.new.self _ c.self.invariant
    (answered_own c.args.oid c.args.version c.args.object c.self.inside.frames c.self.invariant) c.answer.ensures.ok c.answer.ensures.err
