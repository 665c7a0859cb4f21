use Rattle.std.proofs.Common.{ℕ, ◌-◌, List, drop, ap, ◌∙◌, add-one, vec_len, vec_capacity}
use Rattle.fab_queues.specs.Channels.{Traffic, popped}
use Rattle.fab_queues.proofs.Pairs.{rest-drop}
use Rattle.fab_queues.proofs.channel.Channel.pop.Goals as goal

pub returns : goal.returns
returns c =
    let items = c.self.inside.messages.items in
    let view : List (List ℕ) → Traffic = λ w. record { sent = items; waiting = w; spare = vec_capacity c.self.inside.messages - vec_len c.self.inside.messages } in
    ap view (ap (λ n. drop n items) (add-one c.self.inside.gone) ∙ rest-drop c.self.inside.gone items) ∙ ap popped c.self.view_is
