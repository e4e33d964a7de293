use Rattle.std.proofs.Common.{◌≡◌, ◌-◌, ◌+◌, ◌∙◌, suc, List, [], ◌∷◌, ◌++◌, length, set, ap, ap₂, sym, refl, arith}
use Rattle.std.proofs.lemmas.Slice.{take-put_mid, drop-put_mid}
use Rattle.std.proofs.lemmas.List.{take-append-drop, drop_all, append-nil}
use Rattle.fw_shamir.specs.declared.sharing.Point.{Point}
use borrow.Rule.Slice.PartMut.{put_mid}
use Rattle.fw_shamir.proofs.sharing.copy_after.Goals as goal

-- the points written after the first
after_first : (p : Point) (xs ys ps : List Point) → length xs ≡ suc (length ps) → ys ≡ ps → put_mid 1 (length (set xs 0 p) - 1) (set xs 0 p) ys ≡ p ∷ ps
after_first p [] ys ps count is = absurd (omega arith)
after_first p (x ∷ xs) ys ps count is =
    let count_ys : length ys ≡ length ps = ap length is in
    let all = put_mid 1 (length (p ∷ xs) - 1) (p ∷ xs) ys in
    sym (take-append-drop (1 + length ys) all)
    ∙ ap₂ (λ (a b : List Point). a ++ b)
    (take-put_mid 1 (length (p ∷ xs) - 1) (p ∷ xs) ys (1 + length ys) refl (omega arith))
    (drop-put_mid 1 (length (p ∷ xs) - 1) (p ∷ xs) ys (1 + length ys) (omega arith) (omega arith) (omega arith) ∙ drop_all (1 + length ys) (p ∷ xs) (omega arith))
    ∙ append-nil (p ∷ ys) ∙ ap (λ (rest : List Point). p ∷ rest) is

pub returns-clause-same : goal.returns-clause-same
returns-clause-same c = after_first (record { at = 0; value = c.args.byte }) c.args.copy.now c.copy_bytes.new.copy c.args.points.now (omega arith) c.copy_bytes.ensures.same
