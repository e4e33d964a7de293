-- One of those that are kept is of a greater number if one of them in order is.
use Rattle.std.proofs.Common.{ap, ◌∙◌, ℕ, List, reverse, nat_lt}
use Rattle.std.specs.List.{list_any}
use Rattle.std.proofs.lemmas.List.{reverse-reverse}
use Rattle.fw_frame.specs.View.{Entry}
use Rattle.fw_exec.proofs.Keyed.{any_above}
use Rattle.fw_exec.proofs.kept.keeps_above.Goals as goal

pub returns : goal.returns
returns c =
    c.is_any_above.ensures
    ∙ ap (list_any (λ (k : ℕ × Entry × List ℕ). nat_lt c.args.number k.0)) (ap reverse c.oldest_first.ensures ∙ reverse-reverse c.args.kept.now)
    ∙ any_above c.args.kept.now c.args.number
