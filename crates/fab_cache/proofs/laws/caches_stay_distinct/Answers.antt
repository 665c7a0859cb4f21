use Rattle.fab_protocol.proofs.Caches.{cached_as_many}
use Rattle.fab_cache.proofs.Laying.{cached_few, cached_last, cached_once, empty_last}
use Rattle.fab_cache.proofs.laws.caches_stay_distinct.Goals as goal

pub returns-clause-own : goal.returns-clause-own
returns-clause-own c = cached_last

pub returns-clause-few : goal.returns-clause-few
returns-clause-few c = cached_few

pub returns-clause-once : goal.returns-clause-once
returns-clause-once c = cached_once

pub returns-clause-empty : goal.returns-clause-empty
returns-clause-empty c = λ k stores. empty_last k stores

pub returns-clause-cleared : goal.returns-clause-cleared
returns-clause-cleared c = λ k caches. empty_last k caches

pub returns-clause-as_many : goal.returns-clause-as_many
returns-clause-as_many c = cached_as_many
