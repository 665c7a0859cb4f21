use Rattle.fab_reading.specs.Reading.{behind_names}
use Rattle.fab_reading.proofs.ItemRules.{separated_text}
use Rattle.fab_parser.proofs.Chains.{exit, texts, free, ◌>>◌, free_stops}
use Rattle.fab_parser.proofs.PartRules.{last_read, last_stops}
use Rattle.fab_parser.proofs.LabelRules.{aspect_text, policy_start}
use Rattle.fab_parser.proofs.labels.policy.Goals as goal

pub returns-in_err-owner : goal.returns-in_err-owner
returns-in_err-owner c =
    exit _ _ _ c.from_residual.result c.from_residual.ensures.1
    (free_stops c.in_err-owner.field-0.0 (policy_start c.args.tokens.now) c.in_err-owner.ensures (search (texts, aspect_text)))

pub returns-in_err-aspect : goal.returns-in_err-aspect
returns-in_err-aspect c =
    exit _ _ _ c.from_residual-in_err-aspect.result c.from_residual-in_err-aspect.ensures.1
    (free_stops c.in_err-aspect.field-0.0 (policy_start c.args.tokens.now >> free c.in_ok-owner.ensures) c.in_err-aspect.ensures separated_text)

pub returns-in_err-others : goal.returns-in_err-others
returns-in_err-others c =
    exit _ _ _ c.from_residual-in_err-others.result c.from_residual-in_err-others.ensures.1
    (last_stops behind_names (λ x h. h) c.in_err-others.field-0.0 (policy_start c.args.tokens.now >> free c.in_ok-owner.ensures >> free c.in_ok-aspect.ensures)
    c.in_err-others.ensures)

pub returns : goal.returns
returns c = last_read (λ x h. h) (policy_start c.args.tokens.now >> free c.in_ok-owner.ensures >> free c.in_ok-aspect.ensures) c.in_ok-others.ensures
