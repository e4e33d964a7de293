-- A number was asked for if one of the requests in order has it.
use Rattle.std.proofs.Common.{ap, ◌∙◌, ℕ, reverse, nat_eq}
use Rattle.std.specs.List.{list_any}
use Rattle.std.proofs.lemmas.List.{reverse-reverse}
use Rattle.fw_base.specs.declared.seat.Seat.{Seat}
use Rattle.fw_filter.proofs.Looking.{any_asked}
use Rattle.fw_filter.proofs.lookup.was_asked.Goals as goal

pub returns : goal.returns
returns c =
    c.is_any_asked.ensures
    ∙ ap (list_any (λ (ask : Seat × ℕ). nat_eq ask.1 c.args.number)) (ap reverse c.oldest_first.ensures ∙ reverse-reverse c.args.asked.now)
    ∙ any_asked c.args.asked.now c.args.number
