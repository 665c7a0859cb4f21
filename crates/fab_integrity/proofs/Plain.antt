-- Of a worker's acts only a restart sends a Boot.
use Rattle.std.specs.Prelude.{ℕ, Bool, true, false, IsFalse, List, [], ◌∷◌, map}
use Rattle.std.specs.List.{AllByRecursion}
use Rattle.std.proofs.Common.{refl}
use Rattle.fab_base.specs.declared.object.Tid.{Tid}
use Rattle.fab_base.specs.declared.message.Message.{Message}
use Rattle.fab_base.specs.declared.message.Message.TheVariants as m
use Rattle.fab_base.proofs.Lists.{all_append}
use Rattle.fab_language.specs.Meaning.{Meant}
use Rattle.fab_rights.specs.declared.rights.Rights.{Rights}
use Rattle.fab_protocol.specs.declared.parts.Parts.{Parts}
use Rattle.fab_protocol.specs.Parts.{stores_of, items_at}
use Rattle.fab_world.specs.Attempts.{parts_of}
use Rattle.fab_world.specs.Workers.{Kept, Attempt, Act, sending, to_all, tid_of, aborts, begins, resumes, takes, gives_up}
use Rattle.fab_world.proofs.WorkerActs.{resumed, silenced, taken}

-- a Boot
abbrev pub is_boot : Message → Bool
is_boot (m.Boot b) = true
is_boot (m.Prepare t items) = false
is_boot (m.Commit t) = false
is_boot (m.Abort t) = false
is_boot (m.Fetch t o) = false
is_boot (m.Object t o version x) = false
is_boot (m.Deny t o reason) = false
is_boot (m.Vote t answer) = false
is_boot (m.Inquire t) = false

-- what is sent is no Boot
abbrev pub IsNoBoot : ℕ × Message → Type 0
IsNoBoot y = IsFalse (is_boot y.1)

-- of an act that sends none
pub record IsPlain (act : Act) : Type 0 where
  pub quiets : AllByRecursion IsNoBoot act.sends

all_told : (ss : List ℕ) (message : Message) → IsFalse (is_boot message) → AllByRecursion IsNoBoot (to_all ss message)
all_told [] message h = tt
all_told (s ∷ ss) message h = (h, all_told ss message h)

all_asked : (t : Tid) (parts : Parts) (ss : List ℕ) → AllByRecursion IsNoBoot (map (λ s. (s, m.Prepare t (items_at parts s))) ss)
all_asked t parts [] = tt
all_asked t parts (s ∷ ss) = (refl, all_asked t parts ss)

module _ (rights : Rights) (k n : ℕ) (kept : Kept) where
  -- each act but a restart
  pub plain_begins : (a : Attempt) → IsPlain (begins rights k n kept a)
  plain_begins a = record { quiets = tt }

  pub plain_resumes : (a : Attempt) (meant : Meant) → IsPlain (resumes rights k n kept a meant)
  plain_resumes a meant =
      let parts : Parts = parts_of a.answers meant in
      resumed rights k n kept a meant IsPlain (record {
        finds = λ site o row is there. record { quiets = tt };
        fetches = λ site o is none. record { quiets = (refl, tt) };
        decides = λ value is none. record { quiets = all_told (stores_of parts) (m.Commit (tid_of n kept a)) refl };
        asks = λ value s ss is at. record {
          quiets = all_append IsNoBoot (map (λ s. (s, m.Prepare (tid_of n kept a) (items_at parts s))) (s ∷ ss)) [] (all_asked (tid_of n kept a) parts (s ∷ ss)) tt;
        };
        fails = λ is. record { quiets = tt };
        stops = λ limit is. record { quiets = tt };
      })

  aborted : (a : Attempt) (parts : Parts) (act : Act) → IsPlain act → IsPlain (sending (aborts rights k n kept a parts) act)
  aborted a parts act h =
      record { quiets = all_append IsNoBoot (aborts rights k n kept a parts) act.sends (all_told (stores_of parts) (m.Abort (tid_of n kept a)) refl) h.quiets }

  pub plain_takes : (s : ℕ) (message : Message) (a : Attempt) (parts : Parts) → IsPlain (takes rights k n kept s message a parts)
  plain_takes s message a parts = taken rights k n kept s a parts message IsPlain (record {
    rests = λ h. record { quiets = tt };
    learns = λ x h. record { quiets = tt };
    denied = λ reason x. record { quiets = tt };
    tires = λ x h. record { quiets = tt };
    tries = λ x h. record { quiets = tt };
    gives_up = λ x h. aborted a parts _ (record { quiets = tt });
    aborts = λ x h. aborted a parts _ (record { quiets = tt });
    decides = λ x h. record { quiets = all_told (stores_of parts) (m.Commit (tid_of n kept a)) refl };
    waits = λ x l ls h. record { quiets = tt };
    commits = λ x h. record { quiets = (refl, tt) };
    forgets = λ x h g. record { quiets = (refl, tt) };
  })

  pub plain_gives_up : (s : ℕ) (a : Attempt) (parts : Parts) → IsPlain (gives_up rights k n kept s a parts)
  plain_gives_up s a parts = silenced rights k n kept s a parts IsPlain (record { quiets = tt }) (λ ls is. aborted a parts _ (record { quiets = tt }))
