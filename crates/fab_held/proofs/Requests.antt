-- In a well labelled bundle a request leaves objects at stores that may hold them.
use Rattle.std.proofs.Common.{◌≡◌, ℕ, List, Bool, true, false, Some, refl, sym, ◌∙◌, Option, None}
use Rattle.std.specs.List.{AllByRecursion}
use Rattle.fab_base.specs.declared.object.Oid.{Oid}
use Rattle.fab_base.specs.declared.object.Object.{Object}
use Rattle.fab_base.specs.declared.object.Tid.{Tid}
use Rattle.fab_base.specs.declared.object.Value.{Value}
use Rattle.fab_base.specs.FlatMap.{FlatMap, get}
use Rattle.fab_tree.specs.declared.resolved.Request.{Request}
use Rattle.fab_tree.specs.declared.resolved.Resolved.{Resolved}
use Rattle.fab_language.specs.Evaluation.{tid_of, in_turn}
use Rattle.fab_language.specs.Heaps.{is_among}
use Rattle.fab_language.specs.Meaning.{Meant, meaning}
use Rattle.fab_labelling.specs.Claims.{IsWellLabelled}
use Rattle.fab_labelling.specs.Obligations.{holds}
use Rattle.fab_authority.specs.Decided.{decided}
use Rattle.fab_authority.proofs.Deciding.{Decides-claim}
use Rattle.fab_laws.specs.Changes.{OnlyChanges}
use Rattle.fab_laws.specs.Kinds.{Claim, given, counted, made, claims_of}
use Rattle.fab_laws.specs.Origins.{Passes, MakesPassing, OnlyPassing}
use Rattle.fab_laws.proofs.Changes.{leaves}
use Rattle.fab_laws.proofs.Courses.{course_keeps}
use Rattle.fab_laws.proofs.Placed.{meant_passes}
use Rattle.fab_held.specs.Held.{IsHeld, RefersToHeld, AllHeld, HasOnlyHeld, MakesHeld, OnlyHeld}
use Rattle.fab_held.proofs.Made.{all_made}
use Rattle.fab_base.specs.Values.{referred}
use Rattle.fab_base.proofs.Lists.{all_along}
use Rattle.std.specs.Prelude.{IfSome}

module _ (r : Resolved) where
  -- whether the store of a name may hold the name's class
  abbrev is_held : Oid → Bool
  is_held o = decided r (holds o.store o.class)

  is_so : (o : Oid) → is_held o ≡ true → IsHeld r o
  is_so o = (Decides-claim r (holds o.store o.class)).0

  passing : (v : Value) → RefersToHeld r v → Passes is_held v
  passing v = by (referred v)
    where
      by : (o : Option Oid) → IfSome o (IsHeld r) → IfSome o (λ p. is_held p ≡ true)
      by None h = tt
      by (Some o) h = (Decides-claim r (holds o.store o.class)).1 h

  from_passing : (v : Value) → Passes is_held v → RefersToHeld r v
  from_passing v = by (referred v)
    where
      by : (o : Option Oid) → IfSome o (λ p. is_held p ≡ true) → IfSome o (IsHeld r)
      by None h = tt
      by (Some o) h = is_so o h

  making : (tid : Tid) (c : Claim) → MakesHeld r c → MakesPassing is_held tid c
  making tid (given taker kind) h = tt
  making tid (counted places values) h = tt
  making tid (made store class site) h = λ index below. (Decides-claim r (holds store class)).1 h

  -- the name of an object that was neither written nor made is a known one
  name_behind : (known : FlatMap) (m : Meant) → HasOnlyHeld r known → OnlyChanges known m → OnlyPassing is_held m → (o : Oid) (x : Object) → get m.map o ≡ Some x → IsHeld r o
  name_behind known m h changes p o x e = by (is_among o m.made) (is_among o m.written) refl refl
    where
      by : (a b : Bool) → is_among o m.made ≡ a → is_among o m.written ≡ b → IsHeld r o
      by true b i j = is_so o (p.made o i)
      by false true i j = is_so o (p.written o j)
      by false false i j = h.names o x (sym (changes.others o (rw (i, j) refl)) ∙ e)

  module _ (well : IsWellLabelled r) where
    pub meant_held : (known : FlatMap) (request : Request) (tid : Tid) (fuel : ℕ) → AllHeld r request.args → HasOnlyHeld r known → OnlyHeld r (meaning r known request tid fuel)
    meant_held known request tid fuel args h =
        let p : OnlyPassing is_held (meaning r known request tid fuel) =
        meant_passes is_held r tid (all_along (MakesHeld r) (MakesPassing is_held tid) (making tid) (claims_of r) (all_made r well)) known request fuel
        (all_along (RefersToHeld r) (Passes is_held) passing request.args args)
        (λ o x e. all_along (RefersToHeld r) (Passes is_held) passing x.fields (h.references o x e)) in
        record {
          touched = λ o e. is_so o (p.touched o e);
          written = λ o e. is_so o (p.written o e);
          made = λ o e. is_so o (p.made o e);
          missing = λ site o e. is_so o (p.missing site o e);
          objects = record {
            names = name_behind known (meaning r known request tid fuel) h (leaves known r tid request fuel).changes p;
            references = λ o x e. all_along (Passes is_held) (RefersToHeld r) from_passing x.fields (p.objects o x e);
          };
          result = λ v e. from_passing v (p.result v e);
        }

    pub course_held : (known : FlatMap) (requests : List Request) → AllByRecursion (λ q. AllHeld r q.args) requests → HasOnlyHeld r known → HasOnlyHeld r (in_turn r known requests).map
    course_held known requests a h =
        (course_keeps r (HasOnlyHeld r) (λ q. AllHeld r q.args) (λ e. Unit {0}) (λ m request k args. (tt, (meant_held m request (tid_of request) 1000000 args k).objects)) known requests h a).1
