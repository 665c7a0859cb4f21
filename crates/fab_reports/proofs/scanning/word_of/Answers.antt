use Rattle.std.proofs.Common.{sym, ◌∙◌, rules}
use Rattle.fab_reports.proofs.Letters.{none_yet, one_letter, word_ascii}
use Rattle.fab_reports.proofs.scanning.word_of.Goals as goal

pub letters-init : goal.letters-init
letters-init c = none_yet c.args.ends.now c.args.bytes.now

pub from_ascii-requires : goal.from_ascii-requires
from_ascii-requires c = word_ascii _ c.letters.invariant.letters

pub letters-preserved : goal.letters-preserved
letters-preserved c =
    one_letter c.args.ends.now c.args.bytes.now c.letters.rest.now c.letters.so_far c.in-Some.byte.now c.in-Some.after.now c.letters.invariant (search rules)
    (sym c.is_end_of.ensures ∙ c.if-is_end_of.false) (sym c.goes_on.ensures ∙ c.if-not-goes_on.false)
