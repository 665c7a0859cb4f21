use Rattle.std.proofs.Common.{sym, ap, refl, ◌∙◌, Some}
use Rattle.std.proofs.lemmas.Result.{IfOk-weaker}
use Rattle.clap.specs.Words.{found_of}
use Rattle.fab_words.proofs.Found.{asked_is, nothing_is, operands_are, texts_of}
use Rattle.fab_words.proofs.asked.asked_of.Goals as goal

pub returns-in-None : goal.returns-in-None
returns-in-None c = nothing_is (found_of c.args.matches.now) c.in-None.ensures

pub returns-in-Some : goal.returns-in-Some
returns-in-Some c =
    let operands = ap texts_of c.unwrap_or-operands.ensures ∙ operands_are (found_of c.args.matches.now) c.get_strs.result _ refl c.get_strs.ensures in
    let is = asked_is (found_of c.args.matches.now) (Some c.in-Some.word) (texts_of c.unwrap_or-operands.result) c.in-Some.ensures operands in
    IfOk-weaker c.asked_with.result _ _ (λ found e. e ∙ sym is) c.asked_with.ensures
