use Rattle.std.proofs.Common.{◌≡◌, [], map, reverse, Err, refl, sym, ap, ◌∙◌, subst}
use Rattle.std.proofs.lemmas.Result.{err_from_is_err_and}
use Rattle.fab_core.specs.declared.refused.CoreRefused.TheVariants.{Journal as JournalFailed, Memory as WantsMemory}
use Rattle.fab_core.specs.Honest.{AreFor, honest_in}
use Rattle.fab_core.specs.Starts.{AreBack, IsFresh, IsLeft, given_by}
use Rattle.fab_node.specs.Standing.{IsGiven}
use Rattle.fab_core.specs.Cores.{IsCore}
use Rattle.std.specs.List.{AllByRecursion}
use Rattle.fab_core.proofs.Honest.{honest_long}
use Rattle.fab_core.proofs.Left.{all_turned, fresh_all}
use Rattle.fab_core.proofs.AtStart.{core_at_start, journals_keys, turned_keys}
use Rattle.fab_core.proofs.core_state.Core.make.Goals as goal

pub returns-in_err-nodes-clause-back : goal.returns-in_err-nodes-clause-back
returns-in_err-nodes-clause-back g c node back e =
    let J = g.J.Journal in
    let p = err_from_is_err_and c.from_residual.result c.from_residual.ensures.1 in
    let same : p.0 ≡ JournalFailed node back = let both = sym p.1 ∙ e in cc in
    let there = c.in_err-nodes.ensures.back node back (ap Err (sym p.2 ∙ same)) in
    subst (λ given. AreBack given node (map (λ j. (J.faults j, J.sure j)) c.args.journals) (map (λ j. (J.faults j, J.sure j)) back)) c.in-Ok.ensures.given
    (subst (λ keys. AreBack c.in-Ok.given node keys (map (λ j. (J.faults j, J.sure j)) back))
    (turned_keys (λ j. (J.faults j, J.sure j)) _ c.reverse.new.self.items c.reverse.ensures.items ∙ ap (map (λ j. (J.faults j, J.sure j))) c.into_vec-turned.ensures)
    there)

pub returns-in_err-nodes-clause-left : goal.returns-in_err-nodes-clause-left
returns-in_err-nodes-clause-left g c node back e =
    let J = g.J.Journal in
    let p = err_from_is_err_and c.from_residual.result c.from_residual.ensures.1 in
    let same : p.0 ≡ JournalFailed node back = let both = sym p.1 ∙ e in cc in
    let there = c.in_err-nodes.ensures.left node back (ap Err (sym p.2 ∙ same)) in
    subst (λ given. AreFor (λ n j. IsLeft node n (J.content j) (J.synced j)) (honest_in given) back) c.in-Ok.ensures.given there

pub invariant_of-result : goal.invariant_of-result
invariant_of-result g c = (
  subst (IsCore c.in-Ok.given c.in_ok-nodes.nodes.items c.in-Ok.queues c.in-Ok.places.items) (sym c.new.ensures.items)
      (core_at_start c.in-Ok.given
      (subst IsGiven (sym c.in-Ok.ensures.given)
      (record { start = c.requires.accepted.0; program = c.requires.accepted.1; accepted = c.requires.accepted.2; roots = refl }))
      c.in_ok-nodes.nodes.items c.in-Ok.queues c.in-Ok.places.items c.in_ok-nodes.ensures.slots c.in_ok-nodes.ensures.nodes c.in-Ok.ensures.lanes
      c.in-Ok.ensures.sent c.in-Ok.ensures.queue c.in-Ok.ensures.long c.in-Ok.ensures.first),
  c.in_ok-nodes.ensures.places,
)

pub returns-clause-journals : goal.returns-clause-journals
returns-clause-journals g c =
    let J = g.J.Journal in
    journals_keys c.in_ok-nodes.nodes.items ∙ c.in_ok-nodes.ensures.faults
    ∙ turned_keys (λ j. (J.faults j, J.sure j)) _ c.reverse.new.self.items c.reverse.ensures.items
    ∙ ap (map (λ j. (J.faults j, J.sure j))) c.into_vec-turned.ensures

pub returns-in_default-clause-fresh : goal.returns-in_default-clause-fresh
returns-in_default-clause-fresh g c back e =
    let J = g.J.Journal in
    let same : c.args.journals ≡ back = cc in
    let given = given_by c.args.program.value c.args.rights in
    subst (λ js. AreFor (λ n j. IsFresh n (J.content j) (J.synced j)) (honest_in given) js) same
    (fresh_all (λ journal. record { content = J.content journal; synced = J.synced journal; room = J.room journal; faults = J.faults journal; sure = J.sure journal }) g.met.J.Journal.within (honest_in given) c.args.journals (honest_long given 64 ∙ sym c.requires.many) c.requires.content)

pub make_nodes-requires-clause-content : goal.make_nodes-requires-clause-content
make_nodes-requires-clause-content g c =
    let J = g.J.Journal in
    subst (AllByRecursion (λ j. J.content j ≡ [])) (sym (c.reverse.ensures.items ∙ ap reverse c.into_vec-turned.ensures))
    (all_turned (λ j. J.content j ≡ []) c.args.journals c.requires.content)

pub returns-in_err-nodes-clause-fresh : goal.returns-in_err-nodes-clause-fresh
returns-in_err-nodes-clause-fresh g c back e =
    let J = g.J.Journal in
    let p = err_from_is_err_and c.from_residual.result c.from_residual.ensures.1 in
    let same : p.0 ≡ WantsMemory back = let both = sym p.1 ∙ e in cc in
    let there = c.in_err-nodes.ensures.fresh back (ap Err (sym p.2 ∙ same)) in
    subst (λ given. AreFor (λ n j. IsFresh n (J.content j) (J.synced j)) (honest_in given) back) c.in-Ok.ensures.given there

pub returns-in_err-nodes-clause-unfailed : goal.returns-in_err-nodes-clause-unfailed
returns-in_err-nodes-clause-unfailed g c back e =
    let J = g.J.Journal in
    let p = err_from_is_err_and c.from_residual.result c.from_residual.ensures.1 in
    let same : p.0 ≡ WantsMemory back = let both = sym p.1 ∙ e in cc in
    c.in_err-nodes.ensures.unfailed back (ap Err (sym p.2 ∙ same))
    ∙ turned_keys (λ j. (J.faults j, J.sure j)) _ c.reverse.new.self.items c.reverse.ensures.items ∙ ap (map (λ j. (J.faults j, J.sure j))) c.into_vec-turned.ensures
