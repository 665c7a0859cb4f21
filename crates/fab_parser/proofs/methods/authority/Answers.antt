use Rattle.std.proofs.Common.{ap, append-nil, arith, refl, sym, ◌++◌, ◌∙◌, ◌∷◌}
use Rattle.fab_base.specs.declared.token.Mark.TheVariants as m
use Rattle.fab_reading.specs.Reading.{any, is_comma}
use Rattle.fab_reading.proofs.ItemRules.{items_text, last_item, next_item}
use Rattle.fab_reading.proofs.Rules.{alike, one_more, part, read_shorter, sign, sign_shorter, stop_part, whole}
use Rattle.fab_parser.proofs.Chains.{exit}
use Rattle.fab_parser.specs.Pieces.{begins_authority}
use Rattle.fab_parser.proofs.MethodRules.{authority_start, names_meet, nobody_start}
use Rattle.fab_parser.proofs.methods.authority.Goals as goal

pub returns-in-None : goal.returns-in-None
returns-in-None c = rw c.new-found.ensures (whole (nobody_start c.args.tokens.now c.in-None.ensures))

pub returns-in_err-item : goal.returns-in_err-item
returns-in_err-item c =
    exit _ _ _ c.from_residual.result c.from_residual.ensures.1
    (stop_part any c.in_err-item.field-0.0 (authority_start c.in-Some.ensures) c.in_err-item.ensures names_meet items_text)

pub list-init : goal.list-init
list-init c =
    alike _ (part (authority_start c.in-Some.ensures) c.in_ok-item.ensures names_meet) (λ v. ap (λ z. z ++ (c.in_ok-item.item ∷ v)) (sym c.new-found.ensures) ∙ one_more c.new-found.result _ c.in_ok-item.item c.in_ok-push.ensures.ok v)

pub returns-in_err-item-2 : goal.returns-in_err-item-2
returns-in_err-item-2 c =
    exit _ _ _ c.from_residual-in_err-item-2.result c.from_residual-in_err-item-2.ensures.1
    (stop_part any c.in_err-item-2.field-0.0
    (sign (next_item begins_authority is_comma any m.Comma refl c.list.invariant c.in-Some-behind.ensures) c.in-Some-behind.ensures refl) c.in_err-item-2.ensures
    names_meet items_text)

pub list-smaller : goal.list-smaller
list-smaller c = omega (arith, sign_shorter c.in-Some-behind.ensures, read_shorter c.in_ok-item-2.ensures)

pub list-preserved : goal.list-preserved
list-preserved c =
    alike _ (part (sign (next_item begins_authority is_comma any m.Comma refl c.list.invariant c.in-Some-behind.ensures) c.in-Some-behind.ensures refl) c.in_ok-item-2.ensures names_meet) (one_more _ _ _ c.in_ok-push-2.ensures.ok)

pub returns : goal.returns
returns c =
    whole (alike _ (last_item begins_authority is_comma any m.Comma c.list.invariant c.in_default.ensures) (λ v. append-nil _))
