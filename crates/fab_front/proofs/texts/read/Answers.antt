use Rattle.fab_front.proofs.Fronts.{one_of_bad, one_of_deep, one_of_many, one_of_whole, bad_by, deep_by, many_by}
use Rattle.fab_front.proofs.texts.read.Goals as goal

pub returns-in-Ok : goal.returns-in-Ok
returns-in-Ok c =
    one_of_whole {ts = c.args.tokens.now} c.requires.short c.requires.lexed c.in-Ok.ensures.depth c.in-Ok.ensures.found c.in-Ok.ensures.within c.in-Ok.ensures.only

pub returns-in-Err-Syntax : goal.returns-in-Err-Syntax
returns-in-Err-Syntax c =
    rw c.place_at-at.ensures (one_of_bad {ts = c.args.tokens.now} c.requires.short c.requires.lexed (bad_by c.in-Err-Syntax.field-0-is c.in-Err-Syntax.ensures.refused))

pub returns-in-Err-DepthLimit : goal.returns-in-Err-DepthLimit
returns-in-Err-DepthLimit c =
    one_of_deep {ts = c.args.tokens.now} c.requires.short c.requires.lexed (deep_by c.in-Err-DepthLimit.field-0-is c.in-Err-DepthLimit.ensures.refused)

pub returns-in-Err-Limit : goal.returns-in-Err-Limit
returns-in-Err-Limit c =
    one_of_many {ts = c.args.tokens.now} c.requires.short c.requires.lexed (many_by c.in-Err-Limit.field-0-is c.in-Err-Limit.ensures.refused)
