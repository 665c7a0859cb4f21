use Rattle.std.proofs.Common.{refl}
use Rattle.fab_base.specs.declared.token.Mark.TheVariants as m
use Rattle.fab_reading.proofs.Rules.{stop_sign}
use Rattle.fab_parser.proofs.Chains.{exit, texts, free, ◌>>◌, ◌>|◌, mark_text, free_stops, last_sign, last_sign_stops}
use Rattle.fab_bundle.proofs.PostRules.{bytes_text, post_start}
use Rattle.fab_bundle.proofs.posts.post.Goals as goal

pub returns-in_err-rest : goal.returns-in_err-rest
returns-in_err-rest c =
    exit _ _ _ c.from_residual.result c.from_residual.ensures.1
    (stop_sign c.in_err-rest.field-0.0 (post_start c.args.tokens.now) c.in_err-rest.ensures (search (texts, bytes_text)))

pub returns-in_err-sender : goal.returns-in_err-sender
returns-in_err-sender c =
    exit _ _ _ c.from_residual-in_err-sender.result c.from_residual-in_err-sender.ensures.1
    (free_stops c.in_err-sender.field-0.0 (post_start c.args.tokens.now >| (c.in_ok-rest.ensures, refl)) c.in_err-sender.ensures (search (texts, bytes_text)))

pub returns-in_err-rest-2 : goal.returns-in_err-rest-2
returns-in_err-rest-2 c =
    exit _ _ _ c.from_residual-in_err-rest-2.result c.from_residual-in_err-rest-2.ensures.1
    (stop_sign c.in_err-rest-2.field-0.0 (post_start c.args.tokens.now >| (c.in_ok-rest.ensures, refl) >> free c.in_ok-sender.ensures) c.in_err-rest-2.ensures
    (search (texts, bytes_text)))

pub returns-in_err-receiver : goal.returns-in_err-receiver
returns-in_err-receiver c =
    exit _ _ _ c.from_residual-in_err-receiver.result c.from_residual-in_err-receiver.ensures.1
    (free_stops c.in_err-receiver.field-0.0 (post_start c.args.tokens.now >| (c.in_ok-rest.ensures, refl) >> free c.in_ok-sender.ensures
    >| (c.in_ok-rest-2.ensures, refl)) c.in_err-receiver.ensures (search (texts, bytes_text)))

pub returns-in_err-bytes : goal.returns-in_err-bytes
returns-in_err-bytes c =
    exit _ _ _ c.from_residual-in_err-bytes.result c.from_residual-in_err-bytes.ensures.1
    (free_stops c.in_err-bytes.field-0.0 (post_start c.args.tokens.now >| (c.in_ok-rest.ensures, refl) >> free c.in_ok-sender.ensures >| (c.in_ok-rest-2.ensures, refl)
    >> free c.in_ok-receiver.ensures) c.in_err-bytes.ensures (mark_text m.Semicolon))

pub returns-in_err-rest-3 : goal.returns-in_err-rest-3
returns-in_err-rest-3 c =
    exit _ _ _ c.from_residual-in_err-rest-3.result c.from_residual-in_err-rest-3.ensures.1
    (last_sign_stops c.in_err-rest-3.field-0.0 (post_start c.args.tokens.now >| (c.in_ok-rest.ensures, refl) >> free c.in_ok-sender.ensures
    >| (c.in_ok-rest-2.ensures, refl) >> free c.in_ok-receiver.ensures >> free c.in_ok-bytes.ensures) c.in_err-rest-3.ensures)

pub returns : goal.returns
returns c =
    last_sign (post_start c.args.tokens.now >| (c.in_ok-rest.ensures, refl) >> free c.in_ok-sender.ensures >| (c.in_ok-rest-2.ensures, refl)
    >> free c.in_ok-receiver.ensures >> free c.in_ok-bytes.ensures) (c.in_ok-rest-3.ensures, refl)
