-- What was in an outbox stays in front, and what is left to send is sent.
use Rattle.std.proofs.Common.{◌≡◌, ℕ, suc, ◌+◌, ◌-◌, ◌<◌, List, [], ◌∷◌, ◌++◌, length, map, take, drop, sym, ap, ◌∙◌, arith, append_assoc}
use Rattle.std.proofs.Math.Seq.{take-append_seam}
use Rattle.std.proofs.lemmas.List.{take-append-drop}
use Rattle.fw_list.specs.Lists.{numbers_from}

pub begins_more : {A : Type 0} (old out : List A) (x : A) → take (length old) out ≡ old → take (length old) (out ++ x ∷ []) ≡ old
begins_more old out x begins =
    let rest = drop (length old) out in
    let parts : out ≡ old ++ rest = sym (take-append-drop (length old) out) ∙ ap (λ front. front ++ rest) begins in
    ap (λ all. take (length old) (all ++ x ∷ [])) parts
    ∙ ap (take (length old)) (append_assoc old rest (x ∷ []))
    ∙ take-append_seam old (rest ++ x ∷ [])

-- one more of the numbered ones
pub numbered_more : {A : Type 0} (f : ℕ → A) (all whole : List A) (k end : ℕ) → k < end → all ++ map f (numbers_from k (end - k)) ≡ whole → (all ++ f k ∷ []) ++ map f (numbers_from (k + 1) (end - (k + 1))) ≡ whole
numbered_more f all whole k end below parts =
    let left : end - k ≡ suc (end - (k + 1)) = omega arith in
    append_assoc all (f k ∷ []) (map f (numbers_from (k + 1) (end - (k + 1))))
    ∙ ap (λ n. all ++ map f (numbers_from k n)) (sym left)
    ∙ parts
