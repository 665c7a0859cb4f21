use Rattle.std.proofs.Common.{rules, ap, sym, subst, map, string_bytes, List, ◌≡◌, ◌∙◌}
use Rattle.std.proofs.lemmas.Result.{IfOk-weaker}
use Rattle.clap.specs.Words.{App, Text, found_of, is_simple, matches_of, rows_of, takes}
use Rattle.fab_asked.specs.Numbers.{IsSized}
use Rattle.fab_words.specs.Line.{asked_in, command_line}
use Rattle.fab_words.proofs.Answering.{dashed, found_asks, refused}
use Rattle.fab_asked.proofs.Sizes.{are_sized}
use Rattle.fab_words.proofs.Taken.{is_simple_line}
use Rattle.fab_words.proofs.asked.asked_task.Goals as goal

pub returns-then-have_dash : goal.returns-then-have_dash
returns-then-have_dash c = record { asked = sym (dashed c.args.words.now (search rules)); sized = tt }

pub returns-in-Ok : goal.returns-in-Ok
returns-in-Ok c =
    let words : List Text = map string_bytes c.args.words.now in
    let line_is = c.in_ok-command_line.ensures in
    let rows : rows_of (found_of c.in-Ok.matches) ≡ matches_of command_line words =
    (c.in-Ok.ensures.matches (ap is_simple line_is ∙ is_simple_line)).0 ∙ ap (λ (a : App). matches_of a words) line_is in
    let is = ap asked_in rows ∙ found_asks c.args.words.now (search rules) in
    record {
      asked = IfOk-weaker c.asked_of.result _ _ (λ found e. e ∙ is) c.asked_of.ensures;
      sized = IfOk-weaker c.asked_of.result _ _ (λ found e. subst IsSized (sym (e ∙ is)) (are_sized c.args.words.now)) c.asked_of.ensures;
    }

pub returns : goal.returns
returns c =
    let words : List Text = map string_bytes c.args.words.now in
    let line_is = c.in_ok-command_line.ensures in
    record {
      asked = sym (refused c.args.words.now (search rules)
          (λ taken. c.in_default.not-OutOfMemory (c.kind.ensures ∙ c.in-Err.ensures.passes (ap (λ (a : App). takes a words) line_is ∙ taken))));
      sized = tt;
    }
