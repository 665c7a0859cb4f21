use Rattle.std.proofs.Common.{IfOk, ◌≡◌, [], sym, ap, subst, ◌∙◌}
use Rattle.fab_base.specs.FlatMap.{FlatMap, put_all}
use Rattle.fab_language.specs.Meaning.{meaning}
use Rattle.fab_protocol.specs.Versions.{Rows, objects_of}
use Rattle.fab_rights.specs.Computed.{has_bit}
use Rattle.fab_world.specs.Serial.{outside}
use Rattle.fab_meaning.specs.Ends.{AreChanges}
use Rattle.fab_serial.proofs.Steps.{none_outside}
use Rattle.fab_serial.proofs.replaying.done_over.Goals as goal

pub returns-then-are_within : goal.returns-then-are_within
returns-then-are_within c =
    let ex = has_bit c.args.classes in
    let none : outside ex (objects_of c.args.commit.now.answers) ≡ [] =
    subst (λ (rows : Rows). outside ex (objects_of rows) ≡ []) c.as_slice-answers.ensures (none_outside ex c.as_slice-answers.result.now (sym c.are_within.ensures ∙ c.if-are_within.true)) in
    subst (λ (m : FlatMap). IfOk c.plain_effect.result (λ e. AreChanges e (meaning c.args.start.now m c.args.request.now c.args.commit.now.tid 1000000)))
    (ap (λ rows. put_all rows c.args.map.now) (sym none)) c.plain_effect.ensures

pub returns-in_ok-known : goal.returns-in_ok-known
returns-in_ok-known c =
    let ex = has_bit c.args.classes in
    subst (λ (m : FlatMap). IfOk c.plain_effect-else-are_within.result (λ e. AreChanges e (meaning c.args.start.now m c.args.request.now c.args.commit.now.tid 1000000)))
    (c.in_ok-known.ensures ∙ ap (λ rows. put_all (outside ex (objects_of rows)) c.args.map.now) c.as_slice-answers.ensures) c.plain_effect-else-are_within.ensures
