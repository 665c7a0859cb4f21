use Rattle.std.proofs.Common.{ap, ◌∙◌, unwrap_or}
use Rattle.fab_base.specs.declared.object.Value.TheVariants.{Null}
use Rattle.fab_nested.specs.Logs.{heap_of}
use Rattle.fab_nested.proofs.Stepping.{wrote}
use Rattle.fab_nested.proofs.objects.Objects.write_field.Goals as goal

pub returns : goal.returns
returns c = λ x there.
    wrote c.args.oid c.args.field c.args.value x (heap_of c.args.self.now) Null c.set_field-old.new.self c.unwrap_or.result
    c.requires.changed c.requires.ascending there c.set_field-old.ensures.written (c.unwrap_or.ensures ∙ ap (λ r. unwrap_or r Null) c.set_field-old.ensures.before)
