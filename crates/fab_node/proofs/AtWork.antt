-- What the definitions of a worker's machine and of its code have in common: the parts at work, and the request that is asked.
use Rattle.std.proofs.Common.{◌≡◌, ◌⊎◌, inl, inr, ℕ, suc, ◌-◌, ◌==◌, false, Bool, List, [], ◌∷◌, map, Option, Some, None, refl, sym, ap, ◌∙◌, if◌then◌else◌, arith}
use Rattle.std.specs.Prelude.{slice_get}
use Rattle.std.specs.List.{filter}
use Rattle.std.proofs.lemmas.Bool.{ne_eqb}
use Rattle.fab_base.specs.declared.object.Oid.{Oid}
use Rattle.fab_base.specs.declared.object.Object.{Object}
use Rattle.fab_base.specs.declared.object.Tid.{Tid}
use Rattle.fab_base.specs.declared.message.Answer.{Answer}
use Rattle.fab_base.specs.declared.message.Message.{Message}
use Rattle.fab_base.specs.declared.message.Message.TheVariants as m
use Rattle.fab_base.specs.FlatMap.{FlatMap, is_among, map_of}
use Rattle.fab_language.specs.declared.ending.Ending.TheVariants as endings
use Rattle.fab_language.specs.Meaning.{Meant, meaning}
use Rattle.fab_tree.specs.declared.resolved.Request.{Request}
use Rattle.fab_tree.specs.declared.resolved.Resolved.{Resolved}
use Rattle.fab_rights.specs.declared.rights.Rights.{Rights}
use Rattle.fab_rights.specs.Computed.{is_store}
use Rattle.fab_net.specs.declared.outcome.ReqOutcome.TheVariants.{Silent}
use Rattle.fab_protocol.specs.declared.parts.Parts.{Parts}
use Rattle.fab_protocol.specs.Versions.{Rows, objects_of, version_of}
use Rattle.fab_attempts.specs.Sessions.{requests_of}
use Rattle.fab_world.specs.Attempts.{parts_of}
use Rattle.fab_world.specs.Workers.{Act, Attempt, Kept, Phase, awaits_object, awaits_vote, got, denied, gives, gives_up, has_decided, inquired, sending, stays, takes, takes_any, voted_by, yes_from, aborts_in}
use Rattle.fab_world.specs.Workers as phases
use Rattle.fab_settings.specs.Settings.{meant_of, request_at}
use Rattle.fab_worker.specs.Models.{parts_at_work}
use Rattle.fab_worker.specs.Plans.{IsPreparing}

-- ---- the request at work

abbrev picked : Resolved → ℕ → Bool → ℕ → Option Request
picked r n none place = if none then None else slice_get (requests_of r n) place

-- behind so many that ended it is the next
pub asked : (r : Resolved) (n ended : ℕ) → request_at r n (suc ended) ≡ slice_get (requests_of r n) ended
asked r n ended =
    let first : (suc ended == 0) ≡ false = ne_eqb (suc ended) 0 (omega arith) in
    let place : suc ended - 1 ≡ ended = omega arith in
    λ i. picked r n (first i) (place i)

pub meant_at : (r : Resolved) (n ended : ℕ) (t : Tid) (N : FlatMap) (request : Request) → slice_get (requests_of r n) ended ≡ Some request
    → meant_of r (request_at r n (suc ended)) t N ≡ meaning r N request t 1000000
meant_at r n ended t N request there = ap (λ (o : Option Request). meant_of r o t N) (asked r n ended ∙ there)

-- ---- parts

none_among : {A : Type 0} (xs : List A) → filter (λ x. false) xs ≡ []
none_among [] = refl
none_among (x ∷ xs) = none_among xs

abbrev bare : FlatMap → Meant
bare N = record { ending = endings.Failed; map = N; written = []; made = []; touches = []; downs = [] }

no_parts_over : (answers : Rows) (N : FlatMap) → record { value = None; touched = []; writes = []; creates = [] } ≡ parts_of answers (bare N)
no_parts_over answers N =
    let written : [] ≡ map (λ (c : Oid × Object). (c.0, version_of answers c.0, c.1)) (filter (λ (c : Oid × Object). is_among c.0 []) N) =
    ap (map (λ (c : Oid × Object). (c.0, version_of answers c.0, c.1))) (sym (none_among N)) in
    let made : [] ≡ filter (λ (c : Oid × Object). is_among c.0 []) N = sym (none_among N) in
    λ i. record { value = None; touched = []; writes = written i; creates = made i }

pub work_parts : (r : Resolved) (t : Tid) (answers : Rows) (request : Option Request)
    → parts_at_work r t answers request ≡ parts_of answers (meant_of r request t (map_of (objects_of answers)))
unfolding parts_at_work
work_parts r t answers None = no_parts_over answers (map_of (objects_of answers))
work_parts r t answers (Some request) = refl

-- ---- only who prepares asks for the parts

module _ (rights : Rights) (k n : ℕ) (kept : Kept) (s : ℕ) (a : Attempt) where
  other_vote : (t : Tid) (one two : Parts) (phase : Phase) → (IsPreparing phase → ⊥)
      → awaits_vote rights k n kept s t a one phase ≡ awaits_vote rights k n kept s t a two phase
  other_vote t one two phases.Idle none = refl
  other_vote t one two phases.Evaluating none = refl
  other_vote t one two (phases.Fetching o) none = refl
  other_vote t one two (phases.Preparing waiting) none = absurd (none tt)

  no_vote : (t : Tid) (one : Parts) (phase : Phase) → (IsPreparing phase → ⊥) → awaits_vote rights k n kept s t a one phase ≡ false
  no_vote t one phases.Idle none = refl
  no_vote t one phases.Evaluating none = refl
  no_vote t one (phases.Fetching o) none = refl
  no_vote t one (phases.Preparing waiting) none = absurd (none tt)

  module _ (one two : Parts) (none : IsPreparing a.phase → ⊥) where
    any_inquired : (t : Tid) → inquired rights k n kept s t a one ≡ inquired rights k n kept s t a two
    any_inquired t = rw (no_vote t one a.phase none, no_vote t two a.phase none) refl

    any_voted : (t : Tid) (answer : Answer)
        → (if awaits_vote rights k n kept s t a one a.phase then voted_by rights k n kept s answer a one else stays a)
        ≡ (if awaits_vote rights k n kept s t a two a.phase then voted_by rights k n kept s answer a two else stays a)
    any_voted t answer = rw (no_vote t one a.phase none, no_vote t two a.phase none) refl

    any_taken : (message : Message) → takes_any rights k n kept s message a one ≡ takes_any rights k n kept s message a two
    any_taken (m.Object t o version x) = refl
    any_taken (m.Deny t o reason) = refl
    any_taken (m.Vote t answer) = any_voted t answer
    any_taken (m.Inquire t) = ap (λ (act : Act). if t.worker == n then act else stays a) (any_inquired t)
    any_taken (m.Fetch t o) = refl
    any_taken (m.Prepare t items) = refl
    any_taken (m.Commit t) = refl
    any_taken (m.Abort t) = refl
    any_taken (m.Boot b) = refl

    takes_other : (message : Message) → takes rights k n kept s message a one ≡ takes rights k n kept s message a two
    takes_other message = ap (λ (act : Act). if is_store rights s then act else stays a) (any_taken message)

    none_aborted : (phase : Phase) → (IsPreparing phase → ⊥) → aborts_in rights k n kept phase a one ≡ aborts_in rights k n kept phase a two
    none_aborted phases.Idle h = refl
    none_aborted phases.Evaluating h = refl
    none_aborted (phases.Fetching o) h = refl
    none_aborted (phases.Preparing waiting) h = absurd (h tt)

  is_preparing : (phase : Phase) → (IsPreparing phase → ⊥) ⊎ IsPreparing phase
  is_preparing phases.Idle = inl (λ h. h)
  is_preparing phases.Evaluating = inl (λ h. h)
  is_preparing (phases.Fetching o) = inl (λ h. h)
  is_preparing (phases.Preparing waiting) = inr tt

  -- two parts that are the same where the attempt is being prepared
  module _ (one two : Parts) (same : IsPreparing a.phase → one ≡ two) where
    pub takes_same : (message : Message) → takes rights k n kept s message a one ≡ takes rights k n kept s message a two
    takes_same message = elim (is_preparing a.phase) [
      | inl none ↦ takes_other one two none message
      | inr preparing ↦ ap (λ (parts : Parts). takes rights k n kept s message a parts) (same preparing)
    ]

    pub gives_up_same : gives_up rights k n kept s a one ≡ gives_up rights k n kept s a two
    gives_up_same = elim (is_preparing a.phase) [
      | inl none ↦ ap (λ sends. sending sends (gives rights k n kept (Silent s) a)) (none_aborted one two none a.phase none)
      | inr preparing ↦ ap (λ (parts : Parts). gives_up rights k n kept s a parts) (same preparing)
    ]
