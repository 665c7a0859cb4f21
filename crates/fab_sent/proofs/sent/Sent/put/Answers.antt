use Rattle.std.proofs.Common.{ℕ, ◌&&◌, ◌==◌, ◌∷◌, ◌++◌, [], List, if◌then◌else◌, ap, ◌∙◌}
use Rattle.fab_sent.specs.Messages.{messages_in}
use Rattle.fab_sent.proofs.Putting.{one_put}
use Rattle.fab_sent.proofs.sent.Sent.put.Goals as goal

pub returns-in_ok-push : goal.returns-in_ok-push
returns-in_ok-push c = λ n d few fewer.
    one_put c.self.inside.lists.items c.args.sender c.args.receiver c.place.result c.index_mut.result.now c.push.new.self c.args.bytes c.self.invariant
    c.if-sender-lt-NODES.true c.if-receiver-lt-NODES.true c.place.ensures.place c.index_mut.ensures.value c.in_ok-push.ensures.ok n d few fewer
    ∙ ap (λ (l : List (List (List ℕ))). messages_in l n d ++ (if (c.args.sender == n) && (c.args.receiver == d) then c.args.bytes ∷ [] else [])) c.self.view_is
