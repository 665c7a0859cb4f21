use Rattle.std.proofs.Common.{pos, get_or, refl}
use Rattle.fab_base.specs.declared.object.Value.{Value}
use Rattle.fab_base.specs.declared.object.Value.TheVariants.{Int}
use Rattle.fab_base.specs.FieldSpelling.{value_bytes, IsValue, sent_version}
use Rattle.fab_wire.proofs.Pushes.{more_bytes, more_fits}
use Rattle.fab_wire.proofs.list_writing.put_values.Goals as goal

pub loop-value-preserved : goal.loop-value-preserved
loop-value-preserved c =
    let d : Value = (Int (pos 0)) in
    let i = c.loop-value.value-index in
    let x = get_or c.args.values.now i d in
    record {
      bytes = more_bytes value_bytes c.args.out.now c.args.values.now i d x c.loop-value-test.true refl c.loop-value.invariant.bytes c.in_ok-put_value.ensures.bytes;
      fits = more_fits (IsValue sent_version) c.args.values.now i d x c.loop-value-test.true refl c.loop-value.invariant.fits c.in_ok-put_value.ensures.fits;
    }
