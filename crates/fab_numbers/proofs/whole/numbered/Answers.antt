use Rattle.std.proofs.Common.{◌≡◌, map, refl, ap, ◌∙◌}
use Rattle.fab_language.specs.Numbers.{principals_from, pair_of, label_of, class_of, roots_from, session_of, post_of, crash_of, event_of}
use Rattle.fab_language.specs.MethodNumbers.{methods_of}
use Rattle.fab_numbers.proofs.whole.numbered.Goals as goal

pub returns : goal.returns
returns c =
    let nodes : c.in_ok-principals.field-0 ≡ principals_from 0 c.args.tables.now.program.nodes = c.in_ok-principals.ensures ∙ ap (principals_from 0) (c.as_slice-4.ensures ∙ ap (λ s. s.program.nodes) c.start-start.ensures) in
    let pairs : c.in_ok-each_numbered.field-0 ≡ map (pair_of c.args.tables.now) c.args.tables.now.program.delegations = c.in_ok-each_numbered.ensures ∙ ap (map (pair_of c.args.tables.now)) (c.as_slice-5.ensures ∙ ap (λ s. s.program.delegations) c.start-start.ensures) in
    let labels : c.in_ok-each_numbered-2.field-0 ≡ map (label_of c.args.tables.now) c.args.tables.now.program.labels = c.in_ok-each_numbered-2.ensures ∙ ap (map (label_of c.args.tables.now)) (c.as_slice-6.ensures ∙ ap (λ s. s.program.labels) c.start-start.ensures) in
    let classes : c.in_ok-each_numbered-3.field-0 ≡ map (class_of c.args.tables.now) c.args.tables.now.program.classes = c.in_ok-each_numbered-3.ensures ∙ ap (map (class_of c.args.tables.now)) (c.as_slice-7.ensures ∙ ap (λ s. s.program.classes) c.start-start.ensures) in
    let methods : c.in_ok-numbered_methods.field-0 ≡ (methods_of c.args.tables.now c.args.tables.now.program.methods 0).0 = c.in_ok-numbered_methods.ensures ∙ ap (λ ms. (methods_of c.args.tables.now ms 0).0) (c.as_slice-8.ensures ∙ ap (λ s. s.program.methods) c.start-start.ensures) in
    let roots : c.in_ok-roots.roots ≡ roots_from c.args.tables.now 0 c.args.tables.now.roots = c.in_ok-roots.ensures ∙ ap (roots_from c.args.tables.now 0) (c.as_slice.ensures ∙ ap (λ s. s.roots) c.start-start.ensures) in
    let sessions : c.in_ok-sessions.sessions ≡ map (session_of c.args.tables.now) c.args.tables.now.sessions = c.in_ok-sessions.ensures ∙ ap (map (session_of c.args.tables.now)) (c.as_slice-3.ensures ∙ ap (λ s. s.sessions) c.start-start.ensures) in
    let posts : c.in_ok-each_numbered-4.field-0 ≡ map (post_of c.args.tables.now) c.args.tables.now.posts = c.in_ok-each_numbered-4.ensures ∙ ap (map (post_of c.args.tables.now)) (c.as_slice-9.ensures ∙ ap (λ s. s.posts) c.start-start.ensures) in
    let crashes : c.in_ok-each_numbered-5.field-0 ≡ map (crash_of c.args.tables.now) c.args.tables.now.crashes = c.in_ok-each_numbered-5.ensures ∙ ap (map (crash_of c.args.tables.now)) (c.as_slice-10.ensures ∙ ap (λ s. s.crashes) c.start-start.ensures) in
    let schedule : c.in_ok-each_numbered-6.field-0 ≡ map (event_of c.args.tables.now) c.args.tables.now.schedule = c.in_ok-each_numbered-6.ensures ∙ ap (map (event_of c.args.tables.now)) (c.as_slice-11.ensures ∙ ap (λ s. s.schedule) c.start-start.ensures) in
    let cache = ap (λ s. s.cache) c.start-start.ensures in
    rw (nodes, pairs, labels, classes, methods, roots, sessions, posts, crashes, schedule, cache) refl
