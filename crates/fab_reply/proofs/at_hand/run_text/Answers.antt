use Rattle.std.proofs.Common.{◌≢◌, Some, [], inl, inr, refl, subst}
use Rattle.fab_device.specs.Kept.{Makers}
use Rattle.std.proofs.KnownBytes.{Keeps-refl}
use Rattle.std.specs.Io.KnownBytes.{Appends}
use Rattle.fab_front.specs.Reading.{WritesFront}
use Rattle.fab_reply.specs.Reply.{read}
use Rattle.fab_reply.proofs.AtHand.{read_at_once}
use Rattle.fab_reply.proofs.Answering.{ends_so, no_read_fault, no_write_fault, of_answers}
use Rattle.fab_reply.proofs.Replaying.{cut_left}
use Rattle.fab_reply.proofs.at_hand.run_text.Goals as goal

pub returns-in-Ok-write_all-clause-means : goal.returns-in-Ok-write_all-clause-means
returns-in-Ok-write_all-clause-means g c =
    let J = g.M.Journals in
    let w = g.K.Sink.written c.args.sink.now in
    let w' = g.K.Sink.written c.write_all.new.sink in
    let old : Makers = J.seen c.args.journals.now in
    let new : Makers = J.seen c.replied.new.journals in
    ends_so (Some c.args.text.now) (Some []) w w' old new (of_answers c.in-Ok.ensures.replies)
    (record {
      text = c.args.text.now;
      reply = c.in-Ok.reply.1;
      input = read (read_at_once c.args.text.now);
      replies = c.in-Ok.ensures.replies;
      journals = c.in-Ok.ensures.journals;
      all = subst (Appends w w') c.as_slice.ensures c.in-Ok-write_all.ensures.all;
    })

pub returns-in-Ok-write_all-clause-read_never : goal.returns-in-Ok-write_all-clause-read_never
returns-in-Ok-write_all-clause-read_never g c e = no_read_fault (of_answers c.in-Ok.ensures.replies) e

pub returns-in-Ok-write_all-clause-write : goal.returns-in-Ok-write_all-clause-write
returns-in-Ok-write_all-clause-write g c e = no_write_fault (of_answers c.in-Ok.ensures.replies) e

pub returns-in-Err-clause-means : goal.returns-in-Err-clause-means
returns-in-Err-clause-means g c = inl (Keeps-refl (g.K.Sink.written c.args.sink.now), cut_left refl (read_at_once c.args.text.now) c.in-Err.ensures.cut)

pub returns-in-Err-Failed-clause-means : goal.returns-in-Err-Failed-clause-means
returns-in-Err-Failed-clause-means g c =
    let w = g.K.Sink.written c.args.sink.now in
    let w' = g.K.Sink.written c.write_all.new.sink in
    record {
      text = c.args.text.now;
      status = c.in-Ok.reply.0;
      reply = c.in-Ok.reply.1;
      input = read (read_at_once c.args.text.now);
      replies = c.in-Ok.ensures.replies;
      journals = c.in-Ok.ensures.journals;
      some = subst (λ bytes. bytes ≢ []) c.as_slice.ensures c.in-Err-Failed.ensures.some;
      front = subst (WritesFront w w') c.as_slice.ensures c.in-Err-Failed.ensures.front;
    }

pub returns-clause-means : goal.returns-clause-means
returns-clause-means g c =
    let w = g.K.Sink.written c.args.sink.now in
    let w' = g.K.Sink.written c.write_all.new.sink in
    inr (
    record {
      text = c.args.text.now;
      status = c.in-Ok.reply.0;
      reply = c.in-Ok.reply.1;
      input = read (read_at_once c.args.text.now);
      replies = c.in-Ok.ensures.replies;
      journals = c.in-Ok.ensures.journals;
      some = subst (λ bytes. bytes ≢ []) c.as_slice.ensures c.in-Err-Memory.ensures.some;
      front = subst (WritesFront w w') c.as_slice.ensures c.in-Err-Memory.ensures.front;
    })
