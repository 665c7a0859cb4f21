use Rattle.std.proofs.Common.{inl, subst}
use Rattle.std.proofs.KnownBytes.{Keeps-refl}
use Rattle.std.specs.Io.KnownBytes.{Appends}
use Rattle.fab_drawing.proofs.Endings.{ends_so, no_read_fault, no_write_fault, of_replies}
use Rattle.fab_drawing.proofs.drawing.replied.Goals as goal

pub returns-in-Ok-write_all-clause-means : goal.returns-in-Ok-write_all-clause-means
returns-in-Ok-write_all-clause-means g c =
    let l = g.S.Source.left c.args.source.now in
    let l' = g.S.Source.left c.reply.new.source in
    let w = g.K.Sink.written c.args.sink.now in
    let w' = g.K.Sink.written c.write_all.new.sink in
    ends_so c.args.asked c.in-Ok.reply.0 l l' w w' (of_replies c.in-Ok.ensures.given)
    (record {
      reply = c.in-Ok.reply.1;
      replies = c.in-Ok.ensures.given;
      all = subst (Appends w w') c.as_slice.ensures c.in-Ok-write_all.ensures.all;
    })

pub returns-in-Ok-write_all-clause-read_fault : goal.returns-in-Ok-write_all-clause-read_fault
returns-in-Ok-write_all-clause-read_fault g c e = no_read_fault (of_replies c.in-Ok.ensures.given) e

pub returns-in-Ok-write_all-clause-read_fault_unwritten : goal.returns-in-Ok-write_all-clause-read_fault_unwritten
returns-in-Ok-write_all-clause-read_fault_unwritten g c e = no_read_fault (of_replies c.in-Ok.ensures.given) e

pub returns-in-Ok-write_all-clause-write_fault : goal.returns-in-Ok-write_all-clause-write_fault
returns-in-Ok-write_all-clause-write_fault g c e = no_write_fault (of_replies c.in-Ok.ensures.given) e

pub returns-in-Err-Memory-clause-means : goal.returns-in-Err-Memory-clause-means
returns-in-Err-Memory-clause-means g c = inl (Keeps-refl (g.K.Sink.written c.args.sink.now))
