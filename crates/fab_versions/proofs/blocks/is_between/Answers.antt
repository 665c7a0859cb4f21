use Rattle.std.proofs.Common.{◌≡◌, ◌+◌, ◌<◌, Bool, true, false, not, IsTrue, length, get_or, refl, sym, ◌∙◌, ap, arith}
use Rattle.std.proofs.lemmas.Bool.{true≢false}
use Rattle.fab_base.specs.FlatMap.{is_before}
use Rattle.fab_versions.specs.Blocked.{IsBlockAt}
use Rattle.fab_versions.proofs.Standing.{goes_between}
use Rattle.fab_versions.proofs.blocks.is_between.Goals as goal

holds : (a b : Bool) → a ≡ not b → IsTrue (not a) → b ≡ true
holds a true e h = refl
holds a false e h = absurd (true≢false (sym h ∙ ap not e))

fails : (a b : Bool) → a ≡ not b → a ≡ true → b ≡ false
fails a false e h = refl
fails a true e h = absurd (true≢false (sym h ∙ e))

pub returns : goal.returns
returns c = λ high.
    let blocks = c.args.blocks.now in
    let d = c.index-blocks-at.result in
    let e = c.index-blocks-at-2.result in
    goes_between c.args.oid blocks c.requires c.args.at (omega arith) d e
    (fails c.is_up_to.result (is_before c.args.oid (get_or blocks c.args.at d).0) c.is_up_to.ensures c.if-not-is_up_to.false)
    (holds c.is_up_to-2.result (is_before c.args.oid (get_or blocks (c.args.at + 1) e).0) c.is_up_to-2.ensures high)
