-- Lists that are made of numbers, one more at a time.
use Rattle.std.proofs.Common.{◌≡◌, ℕ, ◌+◌, zero, suc, List, [], ◌∷◌, ◌++◌, map, sym, ap, ◌∙◌, append_assoc, arith}
use Rattle.std.specs.Prelude.{flat_map}
use Rattle.std.proofs.lemmas.List.{append-nil, map_push}
use Rattle.std.proofs.lemmas.List.Concat.{flat_map-append}
use Rattle.fw_list.specs.Lists.{numbers_from}

numbers_more : (first k : ℕ) → numbers_from first (suc k) ≡ numbers_from first k ++ (first + k) ∷ []
numbers_more first zero = ap (λ n. n ∷ []) (let e : first ≡ first + 0 = omega arith in e)
numbers_more first (suc k) =
    ap (λ ns. first ∷ ns) (numbers_more (first + 1) k ∙ ap (λ n. numbers_from (first + 1) k ++ n ∷ []) (let e : first + 1 + k ≡ first + suc k = omega arith in e))

one_more : (first k n : ℕ) → n ≡ first + k → numbers_from first (k + 1) ≡ numbers_from first k ++ n ∷ []
one_more first k n e =
    ap (numbers_from first) (let s : k + 1 ≡ suc k = omega arith in s) ∙ numbers_more first k ∙ ap (λ m. numbers_from first k ++ m ∷ []) (sym e)

pub pushed_number : (k : ℕ) (before now : List ℕ) → now ≡ before ++ numbers_from 0 k → now ++ k ∷ [] ≡ before ++ numbers_from 0 (k + 1)
pushed_number k before now is =
    ap (λ xs. xs ++ k ∷ []) is ∙ append_assoc before (numbers_from 0 k) (k ∷ []) ∙ ap (λ xs. before ++ xs) (sym (one_more 0 k k (omega arith)))

pub pushed : {A : Type 0} (make : ℕ → A) (first k n : ℕ) (before now : List A) → n ≡ first + k → now ≡ before ++ map make (numbers_from first k) → now ++ make n ∷ [] ≡ before ++ map make (numbers_from first (k + 1))
pushed make first k n before now e is =
    ap (λ xs. xs ++ make n ∷ []) is ∙ append_assoc before (map make (numbers_from first k)) (make n ∷ [])
    ∙ ap (λ xs. before ++ xs) (sym (ap (map make) (one_more first k n e) ∙ map_push make (numbers_from first k) n))

pub pushed_row : {A : Type 0} (make : ℕ → List A) (k : ℕ) (before now : List A) → now ≡ before ++ flat_map make (numbers_from 0 k) → now ++ make k ≡ before ++ flat_map make (numbers_from 0 (k + 1))
pushed_row make k before now is =
    ap (λ xs. xs ++ make k) is ∙ append_assoc before (flat_map make (numbers_from 0 k)) (make k)
    ∙ ap (λ xs. before ++ xs)
    (sym (ap (flat_map make) (one_more 0 k k (omega arith)) ∙ flat_map-append make (numbers_from 0 k) (k ∷ []) ∙ ap (λ xs. flat_map make (numbers_from 0 k) ++ xs) (append-nil (make k))))
