use Rattle.std.proofs.Common.{arith}
use Rattle.fab_front.proofs.Bytes.{takes_more}
use Rattle.fab_front.proofs.reading.read_by.Goals as goal

pub returns-in_err-extend_from_slice-clause-taken : goal.returns-in_err-extend_from_slice-clause-taken
returns-in_err-extend_from_slice-clause-taken g c =
    takes_more (g.S.Source.left c.args.source.now) (g.S.Source.left c.pieces.source) (g.S.Source.left c.read_piece.new.source) c.pieces.bytes.items c.read_piece.new.buf c.in_ok-count.count 4194305 c.pieces.invariant.most (omega (arith, c.in_ok-count.ensures.most, c.pieces.bytes.ok.0)) c.pieces.invariant.taken c.in_ok-count.ensures.bytes
