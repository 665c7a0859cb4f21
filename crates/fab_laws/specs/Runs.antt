-- What a run leaves.
use Rattle.fab_language.specs.Meaning.{State, Run, goes, ends}

-- the state behind a run, however it ended
abbrev pub state_behind : {A : Type 0} → Run A → State
state_behind (goes a t) = t
state_behind (ends e t) = t
