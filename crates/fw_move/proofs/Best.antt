-- The best proof of a number, of those that are kept.
use Rattle.std.proofs.Common.{◌≡◌, ℕ, suc, ◌+◌, ◌-◌, ◌<◌, Bool, true, false, nat_eq, List, [], ◌∷◌, ◌++◌, map, filter_map, take, reverse, length, get_or, Option, Some, None, refl, sym, ap, ◌∙◌, add-one, arith, append_assoc}
use Rattle.std.specs.Prelude.{if◌then◌else◌}
use Rattle.std.specs.List.{cons_option}
use Rattle.std.proofs.Math.Seq.{take-suc}
use Rattle.std.proofs.lemmas.List.{reverse-append}
use Rattle.fw_list.specs.Lists.{numbers_from}
use Rattle.fw_frame.specs.View.{Proof}
use Rattle.fw_rules.specs.Agree.{best, better, proofs_of}
use Rattle.fw_owned.specs.declared.owned.OwnedProof.{OwnedProof}
use Rattle.fw_owned.specs.Pieces.{proof_of}

abbrev pub best_at : List OwnedProof → ℕ → Option Proof
best_at proofs n = best (proofs_of n (map proof_of proofs))

-- the best so far, with one proof more
abbrev pub best_with : ℕ → Proof → Option Proof → Option Proof
best_with n p o = if nat_eq p.number n then better p o else o

one_more : (b : Bool) (p : Proof) (ps : List Proof) → (if b then better p (best ps) else best ps) ≡ best (if b then p ∷ ps else ps)
one_more true p ps = refl
one_more false p ps = refl

up_to_place : {A : Type 0} (items all : List A) (k : ℕ) (item : A) → items ≡ all → k < length items → item ≡ get_or items k item → take (k + 1) all ≡ take k all ++ item ∷ []
up_to_place items all k item same below is =
    ap (take (k + 1)) (sym same) ∙ ap (λ (n : ℕ). take n items) (add-one k) ∙ take-suc items k item below ∙ ap (λ (x : _). take k items ++ x ∷ []) (sym is) ∙ ap (λ (l : List _). take k l ++ item ∷ []) same

-- of the items up to a place, the newest first
pub best_next : (n : ℕ) (items all : List OwnedProof) (k : ℕ) (item : OwnedProof) (old new : Option Proof) → items ≡ all → k < length items → item ≡ get_or items k item
    → old ≡ best_at (reverse (take k all)) n → new ≡ best_with n (proof_of item) old → new ≡ best_at (reverse (take (k + 1) all)) n
best_next n items all k item old new same below at before is =
    let more : reverse (take (k + 1) all) ≡ item ∷ reverse (take k all) = ap reverse (up_to_place items all k item same below at) ∙ reverse-append (take k all) (item ∷ []) in
    is ∙ ap (best_with n (proof_of item)) before
    ∙ one_more (nat_eq item.number n) (proof_of item) (proofs_of n (map proof_of (reverse (take k all))))
    ∙ ap (λ (l : List OwnedProof). best_at l n) (sym more)

-- ---- for each number

given : (o : Option Proof) (rest : List Proof) (p : Proof) → o ≡ Some p → cons_option o rest ≡ p ∷ rest
given o rest p e = rw e refl

missing : (o : Option Proof) (rest : List Proof) → o ≡ None → cons_option o rest ≡ rest
missing o rest e = rw e refl

first_left : (f : ℕ → Option Proof) (n k end : ℕ) → k < end → filter_map f (numbers_from n (end - k)) ≡ cons_option (f n) (filter_map f (numbers_from (n + 1) (end - (k + 1))))
first_left f n k end below =
    let left : end - k ≡ suc (end - (k + 1)) = omega arith in
    rw left refl

-- a number at which there is one
pub number_with : (f : ℕ → Option Proof) (so_far new whole : List Proof) (p : Proof) (k end : ℕ) → k < end → f (k + 1) ≡ Some p → new ≡ so_far ++ p ∷ []
    → so_far ++ filter_map f (numbers_from (k + 1) (end - k)) ≡ whole → new ++ filter_map f (numbers_from (k + 1 + 1) (end - (k + 1))) ≡ whole
number_with f so_far new whole p k end below one more parts =
    let rest : List Proof = filter_map f (numbers_from (k + 1 + 1) (end - (k + 1))) in
    ap (λ (l : List Proof). l ++ rest) more ∙ append_assoc so_far (p ∷ []) rest
    ∙ ap (λ (l : List Proof). so_far ++ l) (sym (first_left f (k + 1) k end below ∙ given (f (k + 1)) rest p one)) ∙ parts

-- one at which there is none
pub number_without : (f : ℕ → Option Proof) (so_far whole : List Proof) (k end : ℕ) → k < end → f (k + 1) ≡ None
    → so_far ++ filter_map f (numbers_from (k + 1) (end - k)) ≡ whole → so_far ++ filter_map f (numbers_from (k + 1 + 1) (end - (k + 1))) ≡ whole
number_without f so_far whole k end below none parts =
    let rest : List Proof = filter_map f (numbers_from (k + 1 + 1) (end - (k + 1))) in
    ap (λ (l : List Proof). so_far ++ l) (sym (first_left f (k + 1) k end below ∙ missing (f (k + 1)) rest none)) ∙ parts
