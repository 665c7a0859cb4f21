use Rattle.std.proofs.Common.{refl}
use Rattle.fab_reading.specs.Reading.{any, begins_root, begins_session, behind_list}
use Rattle.fab_reading.proofs.Rules.{stop_part, stop_sign, stop_open}
use Rattle.fab_parser.specs.Pieces.{after_program}
use Rattle.fab_parser.proofs.Chains.{exit, fitting, led, led_last, ◌>>◌, ◌>|◌, inside, outside, led_stops, led_last_stops, last_sign, last_sign_stops}
use Rattle.fab_bundle.specs.Pieces.{begins_post, begins_crash, after_crashes, after_cache}
use Rattle.fab_bundle.proofs.TextRules.{behind_cache, behind_crashes, behind_posts, behind_roots, behind_sessions, start_texts, start_start}
use Rattle.fab_bundle.proofs.text.start.Goals as goal

pub returns-in_err-program : goal.returns-in_err-program
returns-in_err-program c =
    exit _ _ _ c.from_residual.result c.from_residual.ensures.1
    (led_stops after_program c.in_err-program.field-0.0 (start_start c.args.tokens.now) c.in_err-program.ensures refl (search start_texts depth 8))

pub returns-in_err-rest : goal.returns-in_err-rest
returns-in_err-rest c =
    exit _ _ _ c.from_residual-in_err-rest.result c.from_residual-in_err-rest.ensures.1
    (stop_sign c.in_err-rest.field-0.0 (start_start c.args.tokens.now >> led c.in_ok-program.ensures refl) c.in_err-rest.ensures (search start_texts depth 8))

pub returns-in_err-rest-2 : goal.returns-in_err-rest-2
returns-in_err-rest-2 c =
    exit _ _ _ c.from_residual-in_err-rest-2.result c.from_residual-in_err-rest-2.ensures.1
    (stop_open c.in_err-rest-2.field-0.0 (start_start c.args.tokens.now >> led c.in_ok-program.ensures refl >| (c.in_ok-rest.ensures, refl)) c.in_err-rest-2.ensures
    refl (search start_texts depth 7))

pub returns-in_err-roots : goal.returns-in_err-roots
returns-in_err-roots c =
    exit _ _ _ c.from_residual-in_err-roots.result c.from_residual-in_err-roots.ensures.1
    (stop_part (behind_list begins_root any) c.in_err-roots.field-0.0 (start_start c.args.tokens.now >> led c.in_ok-program.ensures refl >| (c.in_ok-rest.ensures, refl)
    >| inside c.in_ok-rest-2.ensures (λ r. refl)) c.in_err-roots.ensures behind_roots (search start_texts depth 6))

pub returns-in_err-sessions : goal.returns-in_err-sessions
returns-in_err-sessions c =
    exit _ _ _ c.from_residual-in_err-sessions.result c.from_residual-in_err-sessions.ensures.1
    (stop_part (behind_list begins_session any) c.in_err-sessions.field-0.0 (start_start c.args.tokens.now >> led c.in_ok-program.ensures refl
    >| (c.in_ok-rest.ensures, refl) >| inside c.in_ok-rest-2.ensures (λ r. refl) >> fitting c.in_ok-roots.ensures behind_roots) c.in_err-sessions.ensures
    behind_sessions (search start_texts))

pub returns-in_err-posts : goal.returns-in_err-posts
returns-in_err-posts c =
    exit _ _ _ c.from_residual-in_err-posts.result c.from_residual-in_err-posts.ensures.1
    (stop_part (behind_list begins_post any) c.in_err-posts.field-0.0 (start_start c.args.tokens.now >> led c.in_ok-program.ensures refl >| (c.in_ok-rest.ensures, refl)
    >| inside c.in_ok-rest-2.ensures (λ r. refl) >> fitting c.in_ok-roots.ensures behind_roots >> fitting c.in_ok-sessions.ensures behind_sessions)
    c.in_err-posts.ensures behind_posts (search start_texts))

pub returns-in_err-crashes : goal.returns-in_err-crashes
returns-in_err-crashes c =
    exit _ _ _ c.from_residual-in_err-crashes.result c.from_residual-in_err-crashes.ensures.1
    (stop_part (behind_list begins_crash any) c.in_err-crashes.field-0.0 (start_start c.args.tokens.now >> led c.in_ok-program.ensures refl
    >| (c.in_ok-rest.ensures, refl) >| inside c.in_ok-rest-2.ensures (λ r. refl) >> fitting c.in_ok-roots.ensures behind_roots
    >> fitting c.in_ok-sessions.ensures behind_sessions >> fitting c.in_ok-posts.ensures behind_posts) c.in_err-crashes.ensures behind_crashes (search start_texts))

pub returns-in_err-kept : goal.returns-in_err-kept
returns-in_err-kept c =
    exit _ _ _ c.from_residual-in_err-kept.result c.from_residual-in_err-kept.ensures.1
    (stop_part after_crashes c.in_err-kept.field-0.0 (start_start c.args.tokens.now >> led c.in_ok-program.ensures refl >| (c.in_ok-rest.ensures, refl)
    >| inside c.in_ok-rest-2.ensures (λ r. refl) >> fitting c.in_ok-roots.ensures behind_roots >> fitting c.in_ok-sessions.ensures behind_sessions
    >> fitting c.in_ok-posts.ensures behind_posts >> fitting c.in_ok-crashes.ensures behind_crashes) c.in_err-kept.ensures behind_cache (search start_texts))

pub returns-in_err-events : goal.returns-in_err-events
returns-in_err-events c =
    exit _ _ _ c.from_residual-in_err-events.result c.from_residual-in_err-events.ensures.1
    (led_last_stops after_cache c.in_err-events.field-0.0 (start_start c.args.tokens.now >> led c.in_ok-program.ensures refl >| (c.in_ok-rest.ensures, refl)
    >| inside c.in_ok-rest-2.ensures (λ r. refl) >> fitting c.in_ok-roots.ensures behind_roots >> fitting c.in_ok-sessions.ensures behind_sessions
    >> fitting c.in_ok-posts.ensures behind_posts >> fitting c.in_ok-crashes.ensures behind_crashes >> fitting c.in_ok-kept.ensures behind_cache)
    c.in_err-events.ensures refl)

pub returns-in_err-rest-3 : goal.returns-in_err-rest-3
returns-in_err-rest-3 c =
    exit _ _ _ c.from_residual-in_err-rest-3.result c.from_residual-in_err-rest-3.ensures.1
    (last_sign_stops c.in_err-rest-3.field-0.0 (start_start c.args.tokens.now >> led c.in_ok-program.ensures refl >| (c.in_ok-rest.ensures, refl)
    >| inside c.in_ok-rest-2.ensures (λ r. refl) >> fitting c.in_ok-roots.ensures behind_roots >> fitting c.in_ok-sessions.ensures behind_sessions
    >> fitting c.in_ok-posts.ensures behind_posts >> fitting c.in_ok-crashes.ensures behind_crashes >> fitting c.in_ok-kept.ensures behind_cache
    >> led_last c.in_ok-events.ensures refl) c.in_err-rest-3.ensures)

pub returns : goal.returns
returns c =
    last_sign (start_start c.args.tokens.now >> led c.in_ok-program.ensures refl >| (c.in_ok-rest.ensures, refl) >| inside c.in_ok-rest-2.ensures (λ r. refl)
    >> fitting c.in_ok-roots.ensures behind_roots >> fitting c.in_ok-sessions.ensures behind_sessions >> fitting c.in_ok-posts.ensures behind_posts
    >> fitting c.in_ok-crashes.ensures behind_crashes >> fitting c.in_ok-kept.ensures behind_cache >> led_last c.in_ok-events.ensures refl)
    (outside _ c.in_ok-rest-3.ensures c.in_ok-rest-2.ensures.1 (λ r. refl))
