use Rattle.std.proofs.Common.{refl}
use Rattle.fab_pauses.proofs.Adding.{decides, one_more, same_last}
use Rattle.fab_pauses.proofs.going.is_one_more.Goals as goal

pub returns-in-Some : goal.returns-in-Some
returns-in-Some c =
    let before = c.args.before.now in
    let o = c.args.oid in
    let answers = c.args.answers.now in
    let last = c.in-Some.last.now in
    decides c.is_same_oid.result (λ same. one_more before o answers before last c.in-Some.ensures same refl)
    (λ other h. other (same_last before o answers before last c.in-Some.ensures h)) c.is_same_oid.ensures
