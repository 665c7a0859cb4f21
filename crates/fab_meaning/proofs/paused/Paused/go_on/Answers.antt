use Rattle.std.proofs.Common.{sym, ap, ◌∙◌, subst}
use Rattle.fab_stack.specs.Points.{Lacks, with_answer}
use Rattle.fab_meaning.proofs.Going.{answered_turns, lacks_it}
use Rattle.fab_meaning.proofs.paused.Paused.go_on.Goals as goal

pub answer-requires : goal.answer-requires
answer-requires c = subst (Lacks c.args.self.oid) (sym c.go_back.ensures) (lacks_it c.args.self c.requires 1 c.args.object)

pub returns : goal.returns
returns c =
    answered_turns c.args.self c.requires 1 c.args.object c.answer.new.self c.going.result (c.in_ok-answer.ensures ∙ ap (with_answer c.args.self.oid 1 c.args.object) c.go_back.ensures) c.going.ensures
