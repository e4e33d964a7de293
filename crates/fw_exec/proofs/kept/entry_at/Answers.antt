-- The newest of a number is the last of those in order.
use Rattle.std.proofs.Common.{ap, ◌∙◌, ℕ, List, reverse, nat_eq}
use Rattle.std.specs.List.{find}
use Rattle.std.specs.Option.{option_map}
use Rattle.std.proofs.lemmas.List.{reverse-reverse}
use Rattle.fw_frame.specs.View.{Entry}
use Rattle.fw_lookup.proofs.Looking.{find_first}
use Rattle.fw_exec.proofs.kept.entry_at.Goals as goal

pub returns : goal.returns
returns c =
    c.last_entry.ensures
    ∙ ap (λ (kept : List (ℕ × Entry × List ℕ)). option_map (λ agreed. agreed.1) (find (λ agreed. nat_eq agreed.0 c.args.number) kept)) (ap reverse c.oldest_first.ensures ∙ reverse-reverse c.args.kept.now)
    ∙ find_first (λ (agreed : ℕ × Entry × List ℕ). (agreed.0, agreed.1)) c.args.kept.now c.args.number
