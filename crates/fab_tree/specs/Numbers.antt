-- What a number is that stands in a text: how wide, and which value.
use Rattle.fab_base.specs.declared.object.Value.{Value}
use Rattle.fab_base.specs.declared.object.Value.TheVariants as values
use Rattle.fab_base.specs.declared.object.Width.{Width}
use Rattle.fab_base.specs.declared.object.Width.TheVariants as widths
use Rattle.fab_tree.specs.declared.expression.Number.{Number}
use Rattle.fab_tree.specs.declared.expression.Number.TheVariants as numbers

abbrev pub width_of : Number → Width
width_of (numbers.Int n) = widths.Int

abbrev pub number_value : Number → Value
number_value (numbers.Int n) = values.Int n
