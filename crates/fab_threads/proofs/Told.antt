-- What a turn tells of the end.
use Rattle.std.specs.Prelude.{◌≡◌, ℕ, List, Result, Ok, Err, IfOk}
use Rattle.std.proofs.Common.{sym, subst}
use Rattle.fab_world.specs.Machine.{Move}
use Rattle.fab_node.specs.Standing.{GivenModel}
use Rattle.fab_core.specs.Cores.{CoreModel}
use Rattle.fab_exchange.specs.Turns.{AreOver, Turns}
use Rattle.fab_exchange.specs.declared.turn.Turn.{Turn}
use Rattle.fab_exchange.specs.declared.turn.Turn.TheVariants as t
use Rattle.fab_threads.specs.Counts.{OnOver}
use Rattle.fab_threads.specs.Dones.{IsDone}

-- the answer that all is over says that it is, behind the turn as before it
over_turn : (n : ℕ) (old new : CoreModel) (turn : Turn) → new.given ≡ old.given → Turns n old new turn → OnOver turn (IsDone new.given new.moves)
over_turn n old new t.Acted same h = tt
over_turn n old new (t.Evaluate job) same h = tt
over_turn n old new t.Wait same h = tt
over_turn n old new t.Over same h =
    let P : GivenModel → Type 0 = λ x. AreOver x new.moves in
    let Q : List Move → Type 0 = λ moves. AreOver old.given moves in
    record { over = subst P (sym same) (subst Q (sym h.moves) h.over) }

pub over_told : {E : Type 0} (n : ℕ) (old new : CoreModel) (result : Result Turn E) → new.given ≡ old.given → IfOk result (Turns n old new)
    → IfOk result (λ turn. OnOver turn (IsDone new.given new.moves))
over_told n old new (Ok turn) same h = over_turn n old new turn same h
over_told n old new (Err e) same h = tt
