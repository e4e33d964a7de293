-- The newest of a number is the last of those in order.
use Rattle.std.proofs.Common.{ap, ◌∙◌, ℕ, List, reverse, nat_eq}
use Rattle.std.specs.List.{find}
use Rattle.std.specs.Option.{option_map}
use Rattle.std.proofs.lemmas.List.{reverse-reverse}
use Rattle.fw_lookup.proofs.Looking.{find_first}
use Rattle.fw_lookup.proofs.bytes_at.Goals as goal

pub returns : goal.returns
returns c =
    c.last_bytes.ensures
    ∙ ap (λ (kept : List (ℕ × List ℕ)). option_map (λ one. one.1) (find (λ one. nat_eq one.0 c.args.number) kept)) (ap reverse c.oldest_first.ensures ∙ reverse-reverse c.args.kept.now)
    ∙ find_first (λ (one : ℕ × List ℕ). one) c.args.kept.now c.args.number
