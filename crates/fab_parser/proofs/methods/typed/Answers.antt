use Rattle.std.proofs.Common.{refl}
use Rattle.fab_reading.specs.Reading.{any}
use Rattle.fab_reading.proofs.Rules.{stop_sign}
use Rattle.fab_reading.proofs.TokenRules.{name_text}
use Rattle.fab_parser.proofs.Chains.{exit, texts, free, ◌>>◌, ◌>|◌, free_stops}
use Rattle.fab_parser.proofs.PartRules.{any_weak, last_read, last_stops}
use Rattle.fab_parser.proofs.MethodRules.{typed_start}
use Rattle.fab_parser.proofs.methods.typed.Goals as goal

pub returns-in_err-sort : goal.returns-in_err-sort
returns-in_err-sort c =
    exit _ _ _ c.from_residual.result c.from_residual.ensures.1 (free_stops c.in_err-sort.field-0.0 (typed_start c.args.tokens.now) c.in_err-sort.ensures (search texts))

pub returns-in_err-rest : goal.returns-in_err-rest
returns-in_err-rest c =
    exit _ _ _ c.from_residual-in_err-rest.result c.from_residual-in_err-rest.ensures.1
    (stop_sign c.in_err-rest.field-0.0 (typed_start c.args.tokens.now >> free c.in_ok-sort.ensures) c.in_err-rest.ensures name_text)

pub returns-in_err-label : goal.returns-in_err-label
returns-in_err-label c =
    exit _ _ _ c.from_residual-in_err-label.result c.from_residual-in_err-label.ensures.1
    (last_stops any (any_weak any) c.in_err-label.field-0.0 (typed_start c.args.tokens.now >> free c.in_ok-sort.ensures >| (c.in_ok-rest.ensures, refl))
    c.in_err-label.ensures)

pub returns : goal.returns
returns c =
    last_read (any_weak any) (typed_start c.args.tokens.now >> free c.in_ok-sort.ensures >| (c.in_ok-rest.ensures, refl)) c.in_ok-label.ensures
