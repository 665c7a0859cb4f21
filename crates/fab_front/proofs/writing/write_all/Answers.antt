use Rattle.std.proofs.Common.{◌++◌, take, arith, refl, ◌∙◌}
use Rattle.std.proofs.KnownBytes.{Appends-trans}
use Rattle.fab_front.proofs.Bytes.{on_err, fails_front, stops_front, text_on}
use Rattle.fab_front.proofs.writing.write_all.Goals as goal

pub returns-in_err-count-clause-front : goal.returns-in_err-count-clause-front
returns-in_err-count-clause-front g c =
    let d = c.loop-rest.invariant.done in
    on_err c.from_residual.result (fails_front (g.K.Sink.written c.args.sink.now) (g.K.Sink.written c.loop-rest.sink) (g.K.Sink.written c.write.new.self) d.0 c.loop-rest.rest.now c.args.text.now c.in_err-count.field-0.0 d.1 d.2 c.in_err-count.ensures.bytes)

pub returns-then-count-eq0-clause-front : goal.returns-then-count-eq0-clause-front
returns-then-count-eq0-clause-front g c =
    let d = c.loop-rest.invariant.done in
    stops_front (g.K.Sink.written c.args.sink.now) (g.K.Sink.written c.loop-rest.sink) (g.K.Sink.written c.write.new.self) d.0 c.loop-rest.rest.now c.args.text.now c.in_ok-count.count d.1 d.2 c.in_ok-count.ensures.bytes

pub loop-rest-preserved : goal.loop-rest-preserved
loop-rest-preserved g c =
    let d = c.loop-rest.invariant.done in
    record {
      done = (d.0 ++ take c.in_ok-count.count c.loop-rest.rest.now, text_on d.0 c.loop-rest.rest.now c.args.text.now c.in_ok-count.count _ (omega (arith, c.in_ok-count.ensures.bound)) refl d.1, Appends-trans (g.K.Sink.written c.args.sink.now) (g.K.Sink.written c.loop-rest.sink) (g.K.Sink.written c.write.new.self) d.0 _ d.2 c.in_ok-count.ensures.bytes);
      same = c.in_ok-count.ensures.cause.unfailed (λ f. omega (arith, f.0, c.if-count-eq0.false)) ∙ c.loop-rest.invariant.same;
    }
