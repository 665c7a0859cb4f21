use Rattle.std.proofs.Common.{ℕ, not, ◌==◌, if◌then◌else◌, [], ◌∷◌, ◌∙◌}
use Rattle.fab_base.specs.declared.message.Message.{Message}
use Rattle.fab_base.specs.declared.message.Message.TheVariants.{Abort, Commit}
use Rattle.fab_sent.specs.Messages.{all_spelled}
use Rattle.fab_public.proofs.Outcomes.{if_ok_weaker}
use Rattle.fab_public.proofs.states.Watched.reply.Goals as goal

pub returns : goal.returns
returns c =
    let t = c.args.tid in
    let yes : ℕ × Message = (c.args.sender, Commit t) in
    let no : ℕ × Message = (c.args.sender, Abort t) in
    if_ok_weaker c.outcome.result
    (λ sent h. h ∙ (λ j. all_spelled (if not (t.worker == c.args.worker) then [] else (if c.has-committed.ensures j then yes ∷ [] else (if c.in_ok-votes.ensures j then [] else no ∷ [])))))
    c.outcome.ensures
