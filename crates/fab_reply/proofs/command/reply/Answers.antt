use Rattle.std.proofs.Common.{[], Some, refl, subst}
use Rattle.fab_device.specs.Kept.{Makers}
use Rattle.std.proofs.KnownBytes.{Keeps-refl}
use Rattle.fab_reply.specs.Reply.{Answers, IsCut, JournalsAre, one_reply, unasked, read}
use Rattle.fab_reply.proofs.Replaying.{cut_left}
use Rattle.fab_reply.proofs.Replying.{usage_reply}
use Rattle.fab_reply.proofs.command.reply.Goals as goal

pub returns-in_ok-usage-in-None-clause-given : goal.returns-in_ok-usage-in-None-clause-given
returns-in_ok-usage-in-None-clause-given g c =
    let e = c.in_ok-usage-in-None.ensures in
    rw (c.in-None.is, e.0, e.1) ([], unasked (Keeps-refl (g.S.Source.left c.args.source.now)), one_reply (usage_reply []), refl)

pub returns-in_ok-replied-in-Some-clause-given : goal.returns-in_ok-replied-in-Some-clause-given
returns-in_ok-replied-in-Some-clause-given g c =
    let J = g.M.Journals in
    let old : Makers = J.seen c.args.journals.now in
    let new : Makers = J.seen c.replied.new.journals in
    let status = c.in_ok-replied-in-Some.field-0.0 in
    let reply = c.in_ok-replied-in-Some.field-0.1 in
    rw c.in-Some.is (
      c.in_ok-text-in-Some.text.items,
      read c.in_ok-text-in-Some.ensures.text,
      subst (λ t. Answers (Some c.in-Some.command) t status reply) c.deref.ensures.value c.in_ok-replied-in-Some.ensures.replies,
      subst (λ t. JournalsAre (Some c.in-Some.command) t old new status reply) c.deref.ensures.value c.in_ok-replied-in-Some.ensures.journals,
    )

pub returns-in_err-replied-in-Some-clause-cut : goal.returns-in_err-replied-in-Some-clause-cut
returns-in_err-replied-in-Some-clause-cut g c failed =
    let J = g.M.Journals in
    let old : Makers = J.seen c.args.journals.now in
    let new : Makers = J.seen c.replied.new.journals in
    cut_left c.in-Some.is c.in_ok-text-in-Some.ensures.text (subst (λ t. IsCut c.in-Some.command t old new) c.deref.ensures.value c.in_err-replied-in-Some.ensures.cut)
