-- The requests of the public part are those of the bundle, but that what isn't seen of their arguments is blank; and so is what is computed of them.
use Rattle.std.proofs.Common.{◌≡◌, ℕ, zero, suc, ◌-◌, ◌==◌, Bool, true, false, cond, List, [], ◌∷◌, map, Option, Some, None, refl, ap, ◌∙◌}
use Rattle.std.specs.Prelude.{slice_get, option_map, find}
use Rattle.fab_base.specs.declared.object.Tid.{Tid}
use Rattle.fab_base.specs.declared.object.Value.{Value}
use Rattle.fab_base.specs.FlatMap.{FlatMap}
use Rattle.fab_tree.specs.declared.resolved.Asked.{Asked}
use Rattle.fab_tree.specs.declared.resolved.Method.{Method}
use Rattle.fab_tree.specs.declared.resolved.Request.{Request}
use Rattle.fab_tree.specs.declared.resolved.Resolved.{Resolved}
use Rattle.fab_tree.specs.declared.resolved.Session.{Session}
use Rattle.fab_language.specs.Meaning.{meant_by, state_at_start}
use Rattle.fab_attempts.specs.Sessions.{requests_in, requests_of}
use Rattle.fab_settings.specs.Settings.{request_at}
use Rattle.fab_erasure.specs.Erased.{erased, called, entered, unless_skipped, args_shown}
use Rattle.fab_fewer.specs.Blanks.{blanked, locals_of as locals_in}
use Rattle.fab_release.specs.Bundles.{public_args, public_asked, public_part, public_session}

-- lists that are mapped

at_mapped : {A B : Type 0} (f : A → B) (xs : List A) (i : ℕ) → slice_get (map f xs) i ≡ option_map f (slice_get xs i)
at_mapped f [] i = refl
at_mapped f (x ∷ xs) zero = refl
at_mapped f (x ∷ xs) (suc i) = at_mapped f xs i

found_mapped : {A B : Type 0} (f : A → B) (test : B → Bool) (xs : List A) → find test (map f xs) ≡ option_map f (find (λ x. test (f x)) xs)
found_mapped f test [] = refl
found_mapped f test (x ∷ xs) = by (test (f x)) (found_mapped f test xs)
  where
    by : (b : Bool) → find test (map f xs) ≡ option_map f (find (λ y. test (f y)) xs)
        → cond b (Some (f x)) (find test (map f xs)) ≡ option_map f (cond b (Some x) (find (λ y. test (f y)) xs))
    by true e = refl
    by false e = e

module _ (sees shows : ℕ → Bool) (r : Resolved) where
  abbrev pub blank : Request → Request
  blank = blanked sees shows r

  same_args : (m : Option Method) (args : List Value) → public_args sees shows m args ≡ args_shown sees shows (locals_in m) args
  same_args None args = refl
  same_args (Some m) args = refl

  blank_asked : (xs : List Asked) → map (λ asked. asked.request) (map (public_asked sees shows r.methods) xs) ≡ map blank (map (λ asked. asked.request) xs)
  blank_asked [] = refl
  blank_asked (x ∷ xs) =
      ap (λ args. record x.request { args = args } ∷ map (λ asked. asked.request) (map (public_asked sees shows r.methods) xs)) (same_args (slice_get r.methods x.request.method) x.request.args)
      ∙ ap (λ others. blank x.request ∷ others) (blank_asked xs)

  blank_session : (o : Option Session) → requests_in (option_map (public_session sees shows r.methods) o) ≡ map blank (requests_in o)
  blank_session None = refl
  blank_session (Some session) = blank_asked session.requests

  blank_requests : (n : ℕ) → requests_of (public_part sees shows r) n ≡ map blank (requests_of r n)
  blank_requests n =
      ap requests_in (found_mapped (public_session sees shows r.methods) (λ session. session.worker.number == n) r.sessions)
      ∙ blank_session (find (λ session. session.worker.number == n) r.sessions)

  pub public_request : (n number : ℕ) → request_at (public_part sees shows r) n number ≡ option_map blank (request_at r n number)
  public_request n number = by (number == 0)
    where
      by : (b : Bool) → cond b None (slice_get (requests_of (public_part sees shows r) n) (number - 1)) ≡ option_map blank (cond b None (slice_get (requests_of r n) (number - 1)))
      by true = refl
      by false = ap (λ requests. slice_get requests (number - 1)) (blank_requests n) ∙ at_mapped blank (requests_of r n) (number - 1)

  -- the program is the same, so the same is computed over it
  same_calls : (tid : Tid) (depth : ℕ) → called sees shows (public_part sees shows r) tid depth ≡ called sees shows r tid depth
  same_calls tid zero = refl
  same_calls tid (suc depth) = ap (λ call m args. unless_skipped sees shows (slice_get r.methods m) (entered sees shows r.classes tid call (slice_get r.methods m) args)) (same_calls tid depth)

  pub same_erased : (known : FlatMap) (request : Request) (tid : Tid) (fuel : ℕ) (given : List Value)
      → erased sees shows (public_part sees shows r) known request tid fuel given ≡ erased sees shows r known request tid fuel given
  same_erased known request tid fuel given = ap (λ call. meant_by (call request.method request.args (record (state_at_start known fuel) { given = given }))) (same_calls tid 64)
