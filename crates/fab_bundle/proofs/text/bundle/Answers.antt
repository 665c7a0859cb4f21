use Rattle.std.proofs.Common.{◌≡◌, length, refl, sym, ap, arith}
use Rattle.fab_reading.specs.Reading.{any, nothing}
use Rattle.fab_bundle.proofs.TextRules.{none_left, passed_too, too_many, bad_token, bad_bracket, more_behind, too_deep}
use Rattle.fab_bundle.proofs.text.bundle.Goals as goal

pub returns-in-Err-Syntax-clause-refused : goal.returns-in-Err-Syntax-clause-refused
returns-in-Err-Syntax-clause-refused c = let r = rw c.in-Err-Syntax.field-0-is at c.in-Err-Syntax.ensures in bad_token any r refl

pub returns-in-Err-Deep-clause-refused : goal.returns-in-Err-Deep-clause-refused
returns-in-Err-Deep-clause-refused c = let r = rw c.in-Err-Deep.field-0-is at c.in-Err-Deep.ensures in bad_bracket r refl

pub returns-in-Err-Deep-clause-deep : goal.returns-in-Err-Deep-clause-deep
returns-in-Err-Deep-clause-deep c = let r = rw c.in-Err-Deep.field-0-is at c.in-Err-Deep.ensures in too_deep (bad_bracket r refl)

pub returns-in-Some-clause-only : goal.returns-in-Some-clause-only
returns-in-Some-clause-only c =
    passed_too (none_left c.in-Ok-default-empty.field-0-1.now (omega (arith, c.in-Ok-default-empty.len_below))) c.in-Ok-default-empty.ensures c.in-Some.ensures

pub returns-in-Some-clause-refused : goal.returns-in-Some-clause-refused
returns-in-Some-clause-refused c =
    too_many (none_left c.in-Ok-default-empty.field-0-1.now (omega (arith, c.in-Ok-default-empty.len_below))) c.in-Ok-default-empty.ensures (sym c.in-Some.ensures)

pub returns-in-Ok-clause-refused : goal.returns-in-Ok-clause-refused
returns-in-Ok-clause-refused c =
    bad_token nothing (more_behind c.in-Ok.ensures (λ e. let l : length c.in-Ok.rest.now ≡ 0 = ap length e in omega (arith, c.in-Ok.len_at_least))) refl
