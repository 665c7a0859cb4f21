use Rattle.std.proofs.Common.{◌≡◌, ◌++◌, [], ◌∷◌, List, ℕ, sym, ap, ◌∙◌, refl, arith}
use Rattle.std.specs.List.{flat_map}
use Rattle.std.proofs.lemmas.Result.{on_ok_weaker}
use Rattle.fab_tree.specs.declared.resolved.Expression.{Expression}
use Rattle.fab_tree.specs.declared.resolved.Operand.{Operand, out-Operand}
use Rattle.fab_labelling.specs.Sites.{sites_in}
use Rattle.fab_check.specs.Sited.{with_sites}
use Rattle.fab_check.proofs.Sitings.{chain_sites, compared_sites, no_form_sites, no_sites, one_site, read_sites, sites_in_parts}
use Rattle.fab_authority.proofs.Walks.{both, end, step}
use Rattle.fab_check.proofs.sites.+sites.Goals as goal

abbrev gathered : List ℕ → List (List ℕ) → List ℕ → List (List ℕ)
gathered pc out ns = with_sites out pc ns

in_parts : (pc : List ℕ) (out : List (List ℕ)) (ns ms : List ℕ) → gathered pc out (ns ++ ms) ≡ gathered pc (gathered pc out ns) ms
in_parts pc out ns ms = sites_in_parts out pc ns ms

abbrev in_other : Operand → List ℕ
in_other u = sites_in (out-Operand u).operand

pub put_expression-returns-in_ok-put_expression-in-Chain :
    goal.put_expression-returns-in_ok-put_expression-in-Chain
put_expression-returns-in_ok-put_expression-in-Chain t c =
    let pc = c.args.pc.now in
    let e = c.in-Chain.first in
    on_ok_weaker c.put_operands.result
    (both (gathered pc) (in_parts pc) c.args.out.now c.put_expression-in-Chain.new.out c.put_operands.new.out (sites_in e) (flat_map in_other c.as_slice.result.now) (sites_in c.args.expression.now)
    (chain_sites c.args.expression.now e c.in-Chain.others c.in-Chain.is ∙ ap (λ (us : List Operand). sites_in e ++ flat_map in_other us) (sym c.as_slice.ensures))
    (c.in_ok-put_expression-in-Chain.ensures ∙ ap (λ (x : Expression). gathered pc c.args.out.now (sites_in x)) c.get-in-Chain.ensures))
    c.put_operands.ensures

pub put_expression-returns-in_ok-put_expression-in-Compared :
    goal.put_expression-returns-in_ok-put_expression-in-Compared
put_expression-returns-in_ok-put_expression-in-Compared t c =
    let pc = c.args.pc.now in
    let e = c.in-Compared.left in
    on_ok_weaker c.put_expression-in-Compared-2.result
    (both (gathered pc) (in_parts pc) c.args.out.now c.put_expression-in-Compared.new.out c.put_expression-in-Compared-2.new.out (sites_in e) (sites_in c.get-in-Compared-2.result.now) (sites_in c.args.expression.now)
    (compared_sites c.args.expression.now e c.in-Compared.right c.in-Compared.comparison c.in-Compared.is ∙ ap (λ (x : Expression). sites_in e ++ sites_in x) (sym c.get-in-Compared-2.ensures))
    (c.in_ok-put_expression-in-Compared.ensures ∙ ap (λ (x : Expression). gathered pc c.args.out.now (sites_in x)) c.get-in-Compared.ensures))
    c.put_expression-in-Compared-2.ensures

pub put_expression-returns-in-Number : goal.put_expression-returns-in-Number
put_expression-returns-in-Number t c = sym (no_sites c.args.out.now c.args.pc.now) ∙ ap (gathered c.args.pc.now c.args.out.now) (sym (no_form_sites c.args.expression.now c.in-Number.is))

pub put_expression-returns-in-Number-2 : goal.put_expression-returns-in-Number-2
put_expression-returns-in-Number-2 t c = sym (no_sites c.args.out.now c.args.pc.now) ∙ ap (gathered c.args.pc.now c.args.out.now) (sym (no_form_sites c.args.expression.now c.in-Number.is))

pub put_expression-returns-in-Number-3 : goal.put_expression-returns-in-Number-3
put_expression-returns-in-Number-3 t c = sym (no_sites c.args.out.now c.args.pc.now) ∙ ap (gathered c.args.pc.now c.args.out.now) (sym (no_form_sites c.args.expression.now c.in-Number.is))

pub put_operands-loop-other-preserved : goal.put_operands-loop-other-preserved
put_operands-loop-other-preserved t c =
    let pc = c.args.pc.now in
    step (gathered pc) (in_parts pc) (flat_map in_other) in_other (λ _ _. refl) c.loop-other.out c.put_expression.new.out (gathered pc c.args.out.now (flat_map in_other c.args.others.now)) c.args.others.now c.loop-other.other-index c.other-item.result
    c.loop-other-test.true c.other-item.is c.in_ok-put_expression.ensures c.loop-other.invariant

pub put_operands-returns : goal.put_operands-returns
put_operands-returns t c =
    let pc = c.args.pc.now in
    end (gathered pc) (in_parts pc) (flat_map in_other) refl (λ out. no_sites out pc) c.loop-other.out (gathered pc c.args.out.now (flat_map in_other c.args.others.now)) c.args.others.now c.loop-other.other-index (omega arith) c.loop-other.invariant

pub put_expression-returns-in-Read : goal.put_expression-returns-in-Read
put_expression-returns-in-Read t c =
    let pc = c.args.pc.now in
    let out = c.args.out.now in
    on_ok_weaker c.put_site.result
    (λ (h : c.put_site.new.out ≡ out ++ pc ∷ []). h ∙ sym (one_site out pc c.in-Read.site) ∙ ap (gathered pc out) (sym (read_sites c.args.expression.now c.in-Read.object c.in-Read.field c.in-Read.site c.in-Read.is)))
    c.put_site.ensures
