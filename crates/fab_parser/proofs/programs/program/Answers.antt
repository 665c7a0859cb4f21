use Rattle.std.proofs.Common.{refl}
use Rattle.fab_parser.proofs.TextRules.{part_found, part_farthest, part_depth, bad_token, bad_bracket, too_deep}
use Rattle.fab_parser.proofs.programs.program.Goals as goal

pub returns-in-Ok-clause-found : goal.returns-in-Ok-clause-found
returns-in-Ok-clause-found c = let r = rw c.behind.ensures at c.in-Ok.ensures.read in part_found r refl

pub returns-in-Ok-clause-farthest : goal.returns-in-Ok-clause-farthest
returns-in-Ok-clause-farthest c = let r = rw c.behind.ensures at c.in-Ok.ensures.read in part_farthest _ _ c.requires.within r refl

pub returns-in-Ok-clause-depth : goal.returns-in-Ok-clause-depth
returns-in-Ok-clause-depth c = let r = rw c.behind.ensures at c.in-Ok.ensures.read in part_depth _ _ c.requires.within r refl

pub returns-in-Err-Syntax-clause-refused : goal.returns-in-Err-Syntax-clause-refused
returns-in-Err-Syntax-clause-refused c =
    let s = rw c.in-Err-Syntax.field-0-is at c.in-Err-Syntax.ensures.read in
    let r = rw c.behind.ensures at s in
    let n = rw c.in-Err-Syntax.field-0-is at c.in-Err-Syntax.ensures.none_yet in
    let w = rw c.behind.ensures at n in
    bad_token c.requires.within r w refl

pub returns-in-Err-Deep-clause-refused : goal.returns-in-Err-Deep-clause-refused
returns-in-Err-Deep-clause-refused c =
    let s = rw c.in-Err-Deep.field-0-is at c.in-Err-Deep.ensures.read in
    let r = rw c.behind.ensures at s in
    bad_bracket c.requires.within r refl

pub returns-in-Err-Deep-clause-deep : goal.returns-in-Err-Deep-clause-deep
returns-in-Err-Deep-clause-deep c =
    let s = rw c.in-Err-Deep.field-0-is at c.in-Err-Deep.ensures.read in
    let r = rw c.behind.ensures at s in
    too_deep (bad_bracket c.requires.within r refl)
