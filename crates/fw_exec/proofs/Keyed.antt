-- Whether a greater number is kept, as a search of a list.
use Rattle.std.proofs.Common.{◌≡◌, ℕ, List, [], ◌∷◌, Bool, ◌||◌, refl, nat_lt, ap}
use Rattle.std.specs.List.{list_any}
use Rattle.fw_trace.specs.Executor.{keeps_above}

pub any_above : {E M : Type 0} (list : List (ℕ × E × M)) (n : ℕ) → list_any (λ (k : ℕ × E × M). nat_lt n k.0) list ≡ keeps_above list n
any_above [] n = refl
any_above (x ∷ list) n = ap (λ (b : Bool). nat_lt n x.0 || b) (any_above list n)
