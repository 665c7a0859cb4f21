use Rattle.std.proofs.Common.{◌≡◌, ℕ, List, All, Contains, sym, ap, ◌∙◌, subst, slice_index}
use Rattle.fab_tree.specs.declared.resolved.Method.{Method}
use Rattle.fab_labelling.specs.Claims.{calls_from, calls_of}
use Rattle.fab_principals.specs.Sets.{in_set}
use Rattle.fab_authority.specs.Authority.{AreOwn}
use Rattle.fab_authority.specs.Called.{AreGrown, Calls, IsSettled}
use Rattle.fab_authority.specs.Decided.{uses_authority}
use Rattle.fab_authority.proofs.Callings.{all_written, are_used, grown_over, settled_over}
use Rattle.fab_authority.proofs.authority.used_sets.Goals as goal

pub returns : goal.returns
returns c =
    let r = c.args.start.now in
    let own = c.in_ok-sets.sets in
    let new = c.settle.new.sets in
    let some = c.leave_one_of_each.new.calls.items in
    let calls : c.in_ok-calls.calls.items ≡ calls_of r = c.in_ok-calls.ensures ∙ ap (calls_from 0) c.as_slice-methods.ensures in
    let grown = subst (λ (ds : Calls). AreGrown ds own.items new) c.as_slice.ensures.value (subst (λ (xs : List ℕ). AreGrown c.as_slice.result.now xs new) c.deref_mut.ensures.value c.settle.ensures.grown) in
    let settled = subst (λ (ds : Calls). All (IsSettled new) ds) c.as_slice.ensures.value c.settle.ensures.settled in
    let is_own = subst (λ (ms : List Method). AreOwn ms own.items) c.as_slice-methods.ensures c.in_ok-sets.ensures in
    let all_grown = grown_over some (calls_of r) own.items new (λ d one. subst (λ (ds : Calls). Contains ds d) calls ((c.leave_one_of_each.ensures d).0 one)) grown in
    let all_settled = settled_over some (calls_of r) new (λ d one. (c.leave_one_of_each.ensures d).1 (subst (λ (ds : Calls). Contains ds d) (sym calls) one)) settled in
    λ m p. subst (λ (xs : List ℕ). in_set (slice_index xs m) p ≡ uses_authority r m p) (sym (all_written new own.items own.len grown.size own.ok.0)) (are_used r own.items new is_own all_grown all_settled m p)
