-- The numbers of attempts: each act keeps that of its attempt.
use Rattle.std.proofs.Common.{◌≡◌, ℕ, Option, Some, None, refl}
use Rattle.fab_base.specs.declared.message.Message.{Message}
use Rattle.fab_language.specs.Meaning.{Meant}
use Rattle.fab_rights.specs.declared.rights.Rights.{Rights}
use Rattle.fab_protocol.specs.declared.parts.Parts.{Parts}
use Rattle.fab_world.specs.Workers.{Act, Attempt, Kept, gives_up, resumes}
use Rattle.fab_world.proofs.WorkerActs as acts
use Rattle.fab_worker.specs.Models.{WorkerModel}
use Rattle.fab_worker.specs.Plans.{hears}

abbrev Keeps : Attempt → Act → Type 0
Keeps a act = act.attempt.number ≡ a.number

pub resumed : (rights : Rights) (k n : ℕ) (kept : Kept) (a : Attempt) (meant : Meant) → Keeps a (resumes rights k n kept a meant)
resumed rights k n kept a meant =
    acts.resumed rights k n kept a meant (Keeps a)
    (record {
      finds = λ site o row is at. refl;
      fetches = λ site o is at. refl;
      decides = λ value is at. refl;
      asks = λ value s ss is at. refl;
      fails = λ is. refl;
      stops = λ limit is. refl;
    })

pub heard : (x : WorkerModel) (s : ℕ) (message : Option Message) → Keeps x.attempt (hears x s message)
heard x s None = refl
heard x s (Some message) =
    acts.taken x.rights x.program.cache x.node x.kept s x.attempt x.parts message (Keeps x.attempt)
    (record {
      rests = λ h. refl;
      learns = λ h fits. refl;
      denied = λ reason h. refl;
      tires = λ h last. refl;
      tries = λ h last. refl;
      gives_up = λ h last. refl;
      aborts = λ h last. refl;
      decides = λ h none. refl;
      waits = λ h l ls left. refl;
      commits = λ h has. refl;
      forgets = λ h has awaits. refl;
    })

pub silent : (rights : Rights) (k n : ℕ) (kept : Kept) (s : ℕ) (a : Attempt) (parts : Parts) → Keeps a (gives_up rights k n kept s a parts)
silent rights k n kept s a parts = refl
