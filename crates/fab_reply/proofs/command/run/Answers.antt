use Rattle.std.proofs.Common.{Err, ap, inl, subst}
use Rattle.fab_device.specs.Kept.{Makers}
use Rattle.std.proofs.KnownBytes.{Keeps-refl}
use Rattle.std.specs.Io.KnownBytes.{Appends}
use Rattle.fab_reply.proofs.Answering.{ends_so, no_read_fault, no_write_fault, of_answers}
use Rattle.fab_reply.proofs.command.run.Goals as goal

pub returns-in-Ok-write_all-clause-means : goal.returns-in-Ok-write_all-clause-means
returns-in-Ok-write_all-clause-means g c =
    let J = g.M.Journals in
    let given = c.in-Ok.ensures.given in
    let l = g.S.Source.left c.args.source.now in
    let l' = g.S.Source.left c.reply.new.source in
    let w = g.K.Sink.written c.args.sink.now in
    let w' = g.K.Sink.written c.write_all.new.sink in
    let old : Makers = J.seen c.args.journals.now in
    let new : Makers = J.seen c.reply.new.journals in
    ends_so l l' w w' old new (of_answers given.2)
    (record {
      text = given.0;
      reply = c.in-Ok.reply.1;
      input = given.1;
      replies = given.2;
      journals = given.3;
      all = subst (Appends w w') c.as_slice.ensures c.in-Ok-write_all.ensures.all;
    })

pub returns-in-Ok-write_all-clause-read : goal.returns-in-Ok-write_all-clause-read
returns-in-Ok-write_all-clause-read g c e = no_read_fault (of_answers c.in-Ok.ensures.given.2) e

pub returns-in-Ok-write_all-clause-was_asked : goal.returns-in-Ok-write_all-clause-was_asked
returns-in-Ok-write_all-clause-was_asked g c e = no_read_fault (of_answers c.in-Ok.ensures.given.2) e

pub returns-in-Ok-write_all-clause-unwritten : goal.returns-in-Ok-write_all-clause-unwritten
returns-in-Ok-write_all-clause-unwritten g c e = no_read_fault (of_answers c.in-Ok.ensures.given.2) e

pub returns-in-Ok-write_all-clause-write : goal.returns-in-Ok-write_all-clause-write
returns-in-Ok-write_all-clause-write g c e = no_write_fault (of_answers c.in-Ok.ensures.given.2) e

pub returns-in-Err-Memory-clause-means : goal.returns-in-Err-Memory-clause-means
returns-in-Err-Memory-clause-means g c = inl (Keeps-refl (g.K.Sink.written c.args.sink.now), c.in-Err-Memory.ensures.cut (ap Err c.in-Err-Memory.field-0-is))
