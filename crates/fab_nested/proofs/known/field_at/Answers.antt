use Rattle.std.proofs.Common.{Some, option_copied, option_map, ap, sym, ◌∙◌}
use Rattle.fab_language.specs.Meaning.{field_of}
use Rattle.fab_nested.proofs.Over.{found_changed, found_known}
use Rattle.fab_nested.proofs.known.field_at.Goals as goal

pub returns-in-Some : goal.returns-in-Some
returns-in-Some c =
    ap Some c.field_of.ensures
    ∙ sym (ap (option_map (field_of c.args.field)) (found_changed c.args.changed.now c.args.known.now c.args.oid c.in-Some.object.now c.rows.ensures.ascending (sym c.get.ensures ∙ ap option_copied c.in-Some.is)))

pub returns-in_err-get : goal.returns-in_err-get
returns-in_err-get c =
    c.from_residual.ensures
    ∙ sym (ap (option_map (field_of c.args.field)) (found_known c.args.changed.now c.args.known.now c.args.oid c.rows.ensures.ascending (sym c.get.ensures ∙ ap option_copied c.in_default.is)
    ∙ sym c.get-2.ensures
    ∙ ap option_copied c.in_err-get.was))

pub returns : goal.returns
returns c =
    ap Some c.field_of-2.ensures
    ∙ sym (ap (option_map (field_of c.args.field)) (found_known c.args.changed.now c.args.known.now c.args.oid c.rows.ensures.ascending (sym c.get.ensures ∙ ap option_copied c.in_default.is)
    ∙ sym c.get-2.ensures
    ∙ ap option_copied c.in_ok-get.was))
