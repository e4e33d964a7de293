-- A seat sent a number if one of those in order is such a one.
use Rattle.std.proofs.Common.{ap, ◌∙◌, ℕ, reverse, nat_eq, ◌&&◌}
use Rattle.std.specs.List.{list_any}
use Rattle.std.proofs.lemmas.List.{reverse-reverse}
use Rattle.fw_base.specs.declared.seat.Seat.{Seat}
use Rattle.fw_base.specs.Seats.{seat_eq}
use Rattle.fw_lookup.proofs.Looking.{any_sent}
use Rattle.fw_lookup.proofs.was_sent.Goals as goal

pub returns : goal.returns
returns c =
    c.is_any_sent.ensures
    ∙ ap (list_any (λ (one : Seat × ℕ). seat_eq one.0 c.args.seat && nat_eq one.1 c.args.number)) (ap reverse c.oldest_first.ensures ∙ reverse-reverse c.args.sent.now)
    ∙ any_sent c.args.sent.now c.args.seat c.args.number
