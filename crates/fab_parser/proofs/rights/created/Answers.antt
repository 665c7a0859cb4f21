use Rattle.std.proofs.Common.{refl}
use Rattle.fab_reading.specs.Reading.{any}
use Rattle.fab_reading.proofs.Rules.{stop_sign}
use Rattle.fab_parser.proofs.Chains.{exit, texts, free, ◌>>◌, ◌>|◌, free_stops}
use Rattle.fab_parser.proofs.PartRules.{any_weak, last_read, last_stops}
use Rattle.fab_parser.proofs.RightRules.{given_text, created_start}
use Rattle.fab_parser.proofs.rights.created.Goals as goal

pub returns-in_err-class : goal.returns-in_err-class
returns-in_err-class c =
    exit _ _ _ c.from_residual.result c.from_residual.ensures.1
    (free_stops c.in_err-class.field-0.0 (created_start c.args.tokens.now) c.in_err-class.ensures (search (texts, given_text)))

pub returns-in_err-rest : goal.returns-in_err-rest
returns-in_err-rest c =
    exit _ _ _ c.from_residual-in_err-rest.result c.from_residual-in_err-rest.ensures.1
    (stop_sign c.in_err-rest.field-0.0 (created_start c.args.tokens.now >> free c.in_ok-class.ensures) c.in_err-rest.ensures (search (texts, given_text)))

pub returns-in_err-store : goal.returns-in_err-store
returns-in_err-store c =
    exit _ _ _ c.from_residual-in_err-store.result c.from_residual-in_err-store.ensures.1
    (free_stops c.in_err-store.field-0.0 (created_start c.args.tokens.now >> free c.in_ok-class.ensures >| (c.in_ok-rest.ensures, refl)) c.in_err-store.ensures
    given_text)

pub returns-in_err-arguments : goal.returns-in_err-arguments
returns-in_err-arguments c =
    exit _ _ _ c.from_residual-in_err-arguments.result c.from_residual-in_err-arguments.ensures.1
    (last_stops any (any_weak any) c.in_err-arguments.field-0.0 (created_start c.args.tokens.now >> free c.in_ok-class.ensures >| (c.in_ok-rest.ensures, refl)
    >> free c.in_ok-store.ensures) c.in_err-arguments.ensures)

pub returns : goal.returns
returns c =
    last_read (any_weak any) (created_start c.args.tokens.now >> free c.in_ok-class.ensures >| (c.in_ok-rest.ensures, refl) >> free c.in_ok-store.ensures)
    c.in_ok-arguments.ensures
