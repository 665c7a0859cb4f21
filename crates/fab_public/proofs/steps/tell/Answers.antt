use Rattle.std.proofs.Common.{List, ap, ◌∙◌, ◌++◌, ℕ}
use Rattle.std.proofs.lemmas.Result.{on_ok_weaker}
use Rattle.fab_sent.specs.Messages.{messages_in}
use Rattle.fab_public.proofs.Sending.{told_at}
use Rattle.fab_public.proofs.steps.tell.Goals as goal

pub returns : goal.returns
returns c =
    on_ok_weaker c.put_all.result
    (λ h sight P k is n d few fewer. h n d few fewer
    ∙ ap (λ (l : List (List ℕ)). messages_in c.args.sent.now n d ++ l) (told_at sight P c.args.entry.now k c.node_in.result c.args.told c.if-entry.false (c.node_in.ensures sight P) is n d))
    c.put_all.ensures
