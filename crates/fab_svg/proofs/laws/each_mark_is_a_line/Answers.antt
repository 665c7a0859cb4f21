use Rattle.fab_svg.proofs.Printed.{a_line, in_order, no_part, nothing_else}
use Rattle.fab_svg.proofs.laws.each_mark_is_a_line.Goals as goal

pub returns : goal.returns
returns c = record { lines = in_order; marks = a_line; once = nothing_else; others = no_part }
