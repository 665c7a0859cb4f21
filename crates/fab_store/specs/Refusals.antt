-- What some first reasons to refuse come to, before others.
use Rattle.std.specs.Prelude.{◌≡◌, Bool, Option, Some, None, List, ◌++◌, map}
use Rattle.fab_base.specs.declared.object.Oid.{Oid}
use Rattle.fab_base.specs.declared.message.Answer.{Answer}
use Rattle.fab_base.specs.declared.message.Answer.TheVariants.{Locked}
use Rattle.fab_locks.specs.Conflicts.{bars}
use Rattle.fab_protocol.specs.Stores.{Prepared, first_of}

-- a refusal, or what comes behind it
abbrev pub or_else : Option Answer → Answer → Answer
or_else None answer = answer
or_else (Some refusal) answer = refusal

-- the first of these reasons that holds is the refusal; where there is none, none of them holds
abbrev pub IsFirstOf : List (Bool × Answer) → Option Answer → Type 0
IsFirstOf reasons refusal = (more : List (Bool × Answer)) → first_of (reasons ++ more) ≡ or_else refusal (first_of more)

-- whether each prepared transaction bars a name to one that reads it, or that writes or makes it
abbrev pub barred : Oid → Bool → List Prepared → List (Bool × Answer)
barred o writing prepared = map (λ p. (bars o writing p.1, Locked p.0)) prepared
