-- One executor more, or the one that is left out.
use Rattle.std.proofs.Common.{◌≡◌, ℕ, suc, ◌+◌, ◌-◌, ◌<◌, Bool, true, false, List, [], ◌∷◌, ◌++◌, map, sym, ap, ◌∙◌, refl, append_assoc, arith}
use Rattle.std.specs.Prelude.{filter, if◌then◌else◌}
use Rattle.fw_list.specs.Lists.{numbers_from}
use Rattle.fw_base.specs.declared.seat.Seat.{Seat}
use Rattle.fw_base.specs.declared.seat.Seat.TheVariants as seats

apart : (q : ℕ → Bool) (k : ℕ) (rest : List ℕ) → map seats.Exec (filter q (k ∷ [])) ++ map seats.Exec (filter q rest) ≡ map seats.Exec (filter q (k ∷ rest))
apart q k rest =
    elim (q k) as (λ t. map seats.Exec (if t then k ∷ [] else []) ++ map seats.Exec (filter q rest) ≡ map seats.Exec (if t then k ∷ filter q rest else filter q rest)) [ true ↦ refl | false ↦ refl ]

pub others_more : (q : ℕ → Bool) (all more whole : List Seat) (k end : ℕ) → k < end → more ≡ all ++ map seats.Exec (filter q (k ∷ []))
    → all ++ map seats.Exec (filter q (numbers_from k (end - k))) ≡ whole → more ++ map seats.Exec (filter q (numbers_from (k + 1) (end - (k + 1)))) ≡ whole
others_more q all more whole k end below made parts =
    let left : end - k ≡ suc (end - (k + 1)) = omega arith in
    let rest = numbers_from (k + 1) (end - (k + 1)) in
    ap (λ (xs : List Seat). xs ++ map seats.Exec (filter q rest)) made
    ∙ append_assoc all (map seats.Exec (filter q (k ∷ []))) (map seats.Exec (filter q rest))
    ∙ ap (λ (xs : List Seat). all ++ xs) (apart q k rest)
    ∙ ap (λ (n : ℕ). all ++ map seats.Exec (filter q (numbers_from k n))) (sym left)
    ∙ parts
