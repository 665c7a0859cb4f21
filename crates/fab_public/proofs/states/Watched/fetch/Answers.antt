use Rattle.std.proofs.Common.{ℕ, [], ◌∷◌, ap, ◌∙◌}
use Rattle.fab_base.specs.declared.message.Message.{Message}
use Rattle.fab_base.specs.declared.message.Message.TheVariants.{Fetch}
use Rattle.fab_base.specs.declared.object.Tid.{Tid}
use Rattle.fab_sent.specs.Messages.{all_spelled}
use Rattle.fab_public.specs.Settings.{public_at, sight_at}
use Rattle.fab_public.proofs.Outcomes.{if_ok_weaker}
use Rattle.fab_public.proofs.states.Watched.fetch.Goals as goal

pub returns : goal.returns
returns c =
    let s = c.args.setting.now in
    let o = c.args.oid in
    if_ok_weaker c.one.result
    (λ sent h. h ∙ ap (λ (t : Tid). let told : ℕ × Message = (o.store, Fetch t o) in all_spelled (told ∷ [])) (c.tid_of-tid.ensures (sight_at s) (public_at s)))
    c.one.ensures
