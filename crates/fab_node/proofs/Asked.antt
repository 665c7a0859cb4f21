-- What a role plans is what the machine's node does.
use Rattle.std.proofs.Common.{◌≡◌, ℕ, suc, true, List, [], length, Option, Some, None, refl, sym, ap, ◌∙◌, subst, if◌then◌else◌}
use Rattle.std.specs.Prelude.{slice_get}
use Rattle.fab_base.specs.declared.message.Message.{Message}
use Rattle.fab_base.specs.FlatMap.{map_of}
use Rattle.fab_language.specs.Evaluation.{map_at_start}
use Rattle.fab_language.specs.Meaning.{meaning}
use Rattle.fab_eval.specs.declared.done.Done.{Done}
use Rattle.fab_eval.specs.Outcomes as outcomes
use Rattle.fab_net.specs.declared.event.Inner.TheVariants as i
use Rattle.fab_protocol.specs.declared.said.Said.{Said}
use Rattle.fab_protocol.specs.Stores as protocol
use Rattle.fab_protocol.specs.Stores.{Shelf, shelf_of}
use Rattle.fab_protocol.specs.Versions.{objects_of}
use Rattle.fab_wire.specs.Reading.{read_message}
use Rattle.fab_attempts.specs.Sessions.{requests_of}
use Rattle.fab_store.specs.Stock as stores
use Rattle.fab_worker.specs.Models.{WorkerModel, parts_at_work, tid_at}
use Rattle.fab_worker.specs.Plans as workers
use Rattle.fab_worker.specs.Plans.{HasItsParts, IsPreparing}
use Rattle.fab_world.specs.Machine.{Node, hears, meant, of_store, parts}
use Rattle.fab_world.specs.Workers.{Attempt, begins, gives_up, kept_of, resumes, stays, takes, tid_of}
use Rattle.fab_settings.specs.Settings.{meant_of, setting_of}
use Rattle.fab_settings.specs.Settings as settings
use Rattle.fab_node.specs.Standing.{GivenModel, StoreStands, WorkerStands}
use Rattle.fab_node.specs.Deeds.{CanResume, alone, deed}
use Rattle.fab_node.proofs.AtWork.{asked, gives_up_same, meant_at, takes_same, work_parts}

-- ---- a worker

module _ (g : GivenModel) (n : ℕ) (x : Node) (worker : WorkerModel) (s : WorkerStands g n x worker) (up : x.up ≡ true) where
  pub begins_as : begins worker.rights worker.program.cache worker.node worker.kept worker.attempt ≡ deed g x (i.Begin n) []
  begins_as = λ j. begins (s.rights j) (s.program j).cache (s.node j) (s.lasts j) (s.attempt up j)

  -- the job is of the request that is at work
  job_request : (done : Done) → CanResume done worker → slice_get (requests_of g.program n) (length (kept_of x.entries).outcomes) ≡ Some done.job.request
  job_request done can = sym (λ j. slice_get (requests_of (s.program j) (s.node j)) (length (s.lasts j).outcomes)) ∙ can.job.request

  same_tid : tid_at worker ≡ tid_of n (kept_of x.entries) x.attempt
  same_tid = λ j. tid_of (s.node j) (s.lasts j) (s.attempt up j)

  job_meant : (done : Done) → CanResume done worker → outcomes.meant_of done.job ≡ meant (setting_of g.program g.rights) (alone x []) n
  job_meant done can =
      let program : done.job.program.value ≡ g.program = can.job.program ∙ s.program in
      let tid : done.job.tid ≡ tid_of n (kept_of x.entries) x.attempt = can.job.tid ∙ same_tid in
      let answers : done.job.answers ≡ x.attempt.answers = can.job.answers ∙ ap (λ (a : Attempt). a.answers) (s.attempt up) in
      (λ j. meaning (program j) (map_of (objects_of (answers j))) done.job.request (tid j) 1000000)
      ∙ sym (meant_at g.program n (length (kept_of x.entries).outcomes) (tid_of n (kept_of x.entries) x.attempt) (map_of (objects_of x.attempt.answers)) done.job.request
      (job_request done can))

  pub resumes_as : (done : Done) → CanResume done worker
      → resumes worker.rights worker.program.cache worker.node worker.kept worker.attempt (outcomes.meant_of done.job) ≡ deed g x (i.Resume n) []
  resumes_as done can =
      (λ j. resumes (s.rights j) (s.program j).cache (s.node j) (s.lasts j) (s.attempt up j) (outcomes.meant_of done.job))
      ∙ ap (resumes g.rights g.program.cache n (kept_of x.entries) x.attempt) (job_meant done can)

  -- the parts at work
  module _ (its : HasItsParts worker) (bytes : List ℕ) where
    parts_here : worker.attempt.phase ≡ x.attempt.phase
    parts_here = ap (λ (a : Attempt). a.phase) (s.attempt up)

    same_parts : IsPreparing x.attempt.phase → worker.parts ≡ parts (setting_of g.program g.rights) (alone x bytes) n
    same_parts preparing =
        its (subst IsPreparing (sym parts_here) preparing)
        ∙ (λ j. parts_at_work (s.program j) (tid_of (s.node j) (s.lasts j) (s.attempt up j)) (s.attempt up j).answers
        (slice_get (requests_of (s.program j) (s.node j)) (length (s.lasts j).outcomes)))
        ∙ ap (parts_at_work g.program (tid_of n (kept_of x.entries) x.attempt) x.attempt.answers) (sym (asked g.program n (length (kept_of x.entries).outcomes)))
        ∙ work_parts g.program (tid_of n (kept_of x.entries) x.attempt) x.attempt.answers (settings.request_at g.program n (suc (length (kept_of x.entries).outcomes)))

    heard_as : (a : ℕ) (heard : Option Message) → workers.hears worker a heard ≡ hears (setting_of g.program g.rights) (alone x bytes) a n heard
    heard_as a None = ap stays (s.attempt up)
    heard_as a (Some message) =
        (λ j. takes (s.rights j) (s.program j).cache (s.node j) (s.lasts j) a message (s.attempt up j) worker.parts)
        ∙ takes_same g.rights g.program.cache n (kept_of x.entries) a x.attempt worker.parts (parts (setting_of g.program g.rights) (alone x bytes) n) same_parts message
        ∙ ap (λ b. if b then takes g.rights g.program.cache n (kept_of x.entries) a message x.attempt (parts (setting_of g.program g.rights) (alone x bytes) n)
        else of_store (setting_of g.program g.rights) x.attempt (protocol.says g.rights n a message (shelf_of (map_at_start g.program) n x.entries))) (sym s.kind)

    pub handles_as : (a : ℕ) → workers.hears worker a (read_message bytes) ≡ deed g x (i.Deliver a n) bytes
    handles_as a = heard_as a (read_message bytes)

  pub silent_as : HasItsParts worker → (store : ℕ)
      → gives_up worker.rights worker.program.cache worker.node worker.kept store worker.attempt worker.parts ≡ deed g x (i.Idle n store) []
  silent_as its store =
      (λ j. gives_up (s.rights j) (s.program j).cache (s.node j) (s.lasts j) store (s.attempt up j) worker.parts)
      ∙ gives_up_same g.rights g.program.cache n (kept_of x.entries) store x.attempt worker.parts (parts (setting_of g.program g.rights) (alone x []) n) (same_parts its [])

-- ---- a store

module _ (g : GivenModel) (n : ℕ) (x : Node) (store : stores.Stock) (s : StoreStands g n x store) (bytes : List ℕ) (a : ℕ) where
  store_hears : (heard : Option Message)
      → of_store (setting_of g.program g.rights) x.attempt (protocol.hears g.rights n a heard (shelf_of (map_at_start g.program) n x.entries))
      ≡ hears (setting_of g.program g.rights) (alone x bytes) a n heard
  store_hears None = refl
  store_hears (Some message) =
      ap (λ b. if b then takes g.rights g.program.cache n (kept_of x.entries) a message x.attempt (parts (setting_of g.program g.rights) (alone x bytes) n)
      else of_store (setting_of g.program g.rights) x.attempt (protocol.says g.rights n a message (shelf_of (map_at_start g.program) n x.entries))) (sym s.no_worker)

  abbrev pub said : Said
  said = protocol.hears store.rights store.node a (read_message bytes) store.shelf

  same_said : said ≡ protocol.hears g.rights n a (read_message bytes) (shelf_of (map_at_start g.program) n x.entries)
  same_said = λ j. protocol.hears (s.rights j) (s.node j) a (read_message bytes) (s.shelf j)

  pub answers_as : of_store (setting_of g.program g.rights) x.attempt said ≡ deed g x (i.Deliver a n) bytes
  answers_as = ap (of_store (setting_of g.program g.rights) x.attempt) same_said ∙ store_hears (read_message bytes)
