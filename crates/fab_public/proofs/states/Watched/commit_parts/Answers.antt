use Rattle.std.proofs.Common.{ap, ◌∙◌}
use Rattle.std.specs.List.{filter}
use Rattle.fab_cache.specs.Caching.{Caching}
use Rattle.fab_protocol.specs.Parts.{puts_of}
use Rattle.fab_protocol.specs.Versions.{Row, Rows}
use Rattle.fab_release.specs.Replay.{puts}
use Rattle.fab_rights.specs.Computed.{has_bit}
use Rattle.fab_public.specs.Settings.{public_at, sight_at}
use Rattle.fab_public.specs.States.{worker_of}
use Rattle.fab_public.proofs.Committing.{caches_behind, committed_is, still_last}
use Rattle.fab_public.proofs.states.Watched.commit_parts.Goals as goal

pub returns-clause-kept : goal.returns-clause-kept
returns-clause-kept c = λ is.
    let s = c.args.setting.now in
    let old = c.args.self.now in
    let parts = c.args.parts.now in
    c.rest.ensures.seen
    ∙ committed_is (sight_at s) (public_at s) c.args.worker old parts (record { tid = c.tid_of-tid.result; stores = c.in_ok-stores.stores; leaves = c.in_ok-copy.copy }) _ _
    c.in_ok-add.ensures (c.tid_of-tid.ensures (sight_at s) (public_at s)) c.in_ok-stores.ensures (c.in_ok-copy.ensures ∙ c.as_slice-rows.ensures ∙ c.in_ok-left.ensures)
    (ap (λ (x : Caching). x.caches) c.take_new.ensures
    ∙ caches_behind (public_at s).cache old c.in_ok-renewed.renewed c.as_slice-puts.result.now (puts (sight_at s) (public_at s) (worker_of old) parts) is c.in_ok-renewed.ensures.behind_puts
    (c.as_slice-puts.ensures ∙ c.in_ok-given.ensures ∙ ap (λ (known : Rows). filter (λ (row : Row). has_bit s.nodes row.0.store) (puts_of known parts)) c.rows-known.ensures))

pub returns-clause-caching : goal.returns-clause-caching
returns-clause-caching c = λ is.
    let s = c.args.setting.now in
    let old = c.args.self.now in
    let parts = c.args.parts.now in
    still_last (public_at s).cache _ (puts (sight_at s) (public_at s) (worker_of old) parts) old.caches.caches
    (ap (λ (x : Caching). x.k) (c.rest.ensures.caches ∙ c.take_new.ensures) ∙ is.limit)
    (ap (λ (x : Caching). x.caches) (c.rest.ensures.caches ∙ c.take_new.ensures)
    ∙ caches_behind (public_at s).cache old c.in_ok-renewed.renewed c.as_slice-puts.result.now (puts (sight_at s) (public_at s) (worker_of old) parts) is c.in_ok-renewed.ensures.behind_puts
    (c.as_slice-puts.ensures ∙ c.in_ok-given.ensures ∙ ap (λ (known : Rows). filter (λ (row : Row). has_bit s.nodes row.0.store) (puts_of known parts)) c.rows-known.ensures))
