-- Enough seats of a kind have a correct one among them: counting by tests over a list of numbers.
use Rattle.std.proofs.Common.{ℕ, zero, suc, ◌+◌, ◌*◌, ◌<◌, ◌≤◌, ◌≡◌, ◌≢◌, inl, inr, Bool, true, false, cond, ◌&&◌, ◌||◌, not, nat_eq, List, [], ◌∷◌, length, All, AllPairs, Contains, count_by, sum_by, arith, refl, sym, ◌∙◌, ap, subst}
use Rattle.std.proofs.lemmas.Bool.{eqb-true, eq-eqb, and_parts, not-true, cases_Bool, cases_eq, or_cases}
use Rattle.std.proofs.lemmas.List.Elements.{All-head, All-tail}
use Rattle.std.proofs.lemmas.List.Sums.{sum_by-cons}
use Rattle.fw_list.specs.Lists.{numbers_from}
use Rattle.fw_base.specs.declared.params.Params.{Params}
use Rattle.fw_base.specs.Sizes.{agreements, width}
use Rattle.fw_quorum.specs.Quorum.{faulty_below, faulty_in_row, FewNodesFaulty, FewFiltersFaulty, IsGroup, IsQuorum, HasCorrect, SharesCorrect, HasCorrectRow}
use Rattle.fw_quorum.proofs.Members.{contains_none, contains_first, contains_later, contains_cases, contains_numbers, numbers_within}

-- a sum over a list, by its first element and the rest
abbrev pub total : {A : Type 0} → (A → ℕ) → List A → ℕ
total f [] = 0
total f (x ∷ xs) = f x + total f xs

pub sum_by_total : {A : Type 0} (f : A → ℕ) (xs : List A) → sum_by f xs ≡ total f xs
sum_by_total f [] = refl
sum_by_total f (x ∷ xs) = sum_by-cons f x xs ∙ ap (λ s. f x + s) (sum_by_total f xs)

abbrev pub one_if : Bool → ℕ
one_if b = cond b 1 0

-- how many of a list pass a test
abbrev pub tally : (ℕ → Bool) → List ℕ → ℕ
tally p ns = total (λ n. one_if (p n)) ns

pub count_by_tally : (p : ℕ → Bool) (ns : List ℕ) → count_by p ns ≡ tally p ns
count_by_tally p ns = sum_by_total (λ n. one_if (p n)) ns

both_once : (a b : Bool) → one_if a + one_if b ≤ 1 + one_if (a && b)
both_once true true = omega arith
both_once true false = omega arith
both_once false true = omega arith
both_once false false = omega arith

-- what passes each of two tests is at most the whole list and what passes both
tally_both : (p q : ℕ → Bool) (ns : List ℕ) → tally p ns + tally q ns ≤ length ns + tally (λ n. p n && q n) ns
tally_both p q [] = omega arith
tally_both p q (n ∷ ns) = omega (arith, both_once (p n) (q n), tally_both p q ns)

split_once : (a b : Bool) → one_if a ≤ one_if b + one_if (a && not b)
split_once true true = omega arith
split_once true false = omega arith
split_once false true = omega arith
split_once false false = omega arith

-- what passes one test passes another, or it and not the other
pub tally_split : (p q : ℕ → Bool) (ns : List ℕ) → tally p ns ≤ tally q ns + tally (λ n. p n && not (q n)) ns
tally_split p q [] = omega arith
tally_split p q (n ∷ ns) = omega (arith, split_once (p n) (q n), tally_split p q ns)

either_once : (a b : Bool) → (a ≡ true → b ≡ false) → one_if a + one_if b ≤ one_if (a || b)
either_once true true apart = absurd (cc (apart refl))
either_once true false apart = omega arith
either_once false true apart = omega arith
either_once false false apart = omega arith

-- what passes one of two tests that nothing passes both of
tally_either : (p q : ℕ → Bool) (ns : List ℕ) → ((n : ℕ) → p n ≡ true → q n ≡ false) → tally p ns + tally q ns ≤ tally (λ n. p n || q n) ns
tally_either p q [] apart = omega arith
tally_either p q (n ∷ ns) apart = omega (arith, either_once (p n) (q n) (apart n), tally_either p q ns apart)

-- where some pass, there is one
pub tally_some : (p : ℕ → Bool) (ns : List ℕ) → 0 < tally p ns → (n : ℕ) × (p n ≡ true)
tally_some p [] some = absurd (omega (arith, some))
tally_some p (n ∷ ns) some = found (p n) refl (tally_some p ns)
  where
    found : (b : Bool) → p n ≡ b → (0 < tally p ns → (m : ℕ) × (p m ≡ true)) → (m : ℕ) × (p m ≡ true)
    found true e rest = (n, e)
    found false e rest = rest (let k : 0 < one_if false + tally p ns = subst (λ (b : Bool). 0 < one_if b + tally p ns) e some in omega (arith, k))

-- where none pass, each fails
tally_none : (p : ℕ → Bool) (ns : List ℕ) (n : ℕ) → tally p ns ≡ 0 → Contains ns n → p n ≡ false
tally_none p [] n none h = absurd (contains_none n h)
tally_none p (m ∷ ns) n none h = elim (contains_cases m ns n h) [
  | inl e ↦ subst (λ (x : ℕ). p x ≡ false) e (first (p m) refl)
  | inr r ↦ tally_none p ns n (omega (arith, none)) r
]
  where
    first : (b : Bool) → p m ≡ b → p m ≡ false
    first false e = e
    first true e = absurd (let k : one_if true + tally p ns ≡ 0 = subst (λ (b : Bool). one_if b + tally p ns ≡ 0) e none in omega (arith, k))

-- a sum below the length of the list has a term that is 0
pub total_zero : (f : ℕ → ℕ) (ns : List ℕ) → total f ns < length ns → (n : ℕ) × Contains ns n × (f n ≡ 0)
total_zero f [] small = absurd (omega (arith, small))
total_zero f (n ∷ ns) small = found (f n) refl (total_zero f ns)
  where
    found : (k : ℕ) → f n ≡ k → (total f ns < length ns → (m : ℕ) × Contains ns m × (f m ≡ 0)) → (m : ℕ) × Contains (n ∷ ns) m × (f m ≡ 0)
    found zero e rest = (n, contains_first n ns, e)
    found (suc k) e rest = let r = rest (omega (arith, small, e)) in (r.0, contains_later n ns r.0 r.1, r.2)

pub length_numbers : (first count : ℕ) → length (numbers_from first count) ≡ count
length_numbers first zero = refl
length_numbers first (suc count) = omega (arith, length_numbers (first + 1) count)

-- whether a list has a number
abbrev has : List ℕ → ℕ → Bool
has [] n = false
has (x ∷ xs) n = nat_eq x n || has xs n

has-contains : (xs : List ℕ) (n : ℕ) → has xs n ≡ true → Contains xs n
has-contains [] n e = absurd (cc)
has-contains (x ∷ xs) n e = elim (or_cases (nat_eq x n) (has xs n) e) [
  | inl h ↦ subst (Contains (x ∷ xs)) (eqb-true x n h) (contains_first x xs)
  | inr h ↦ contains_later x xs n (has-contains xs n h)
]

-- a number is counted once among numbers that hold it
tally_at : (x first count : ℕ) → first ≤ x → x < first + count → 0 < tally (nat_eq x) (numbers_from first count)
tally_at x first zero low high = absurd (omega (arith, low, high))
tally_at x first (suc count) low high = elim (cases_eq x first) [
  | inl e ↦ rw (eq-eqb x first e) (omega arith)
  | inr n ↦ omega (arith, tally_at x (first + 1) count (omega (arith, low, n)) (omega (arith, high)))
]

later-differ : (x : ℕ) (xs : List ℕ) → AllPairs (λ i j. i ≢ j) (x ∷ xs) → (n : ℕ) → Contains xs n → x ≢ n
later-differ x xs distinct n h = λ e. distinct 0 (suc h.0) n (omega arith) (omega (arith, h.1)) (e ∙ sym h.2)

later-distinct : (x : ℕ) (xs : List ℕ) → AllPairs (λ i j. i ≢ j) (x ∷ xs) → AllPairs (λ i j. i ≢ j) xs
later-distinct x xs distinct = λ i j d less within. distinct (suc i) (suc j) d (omega (arith, less)) (omega (arith, within))

-- a list hasn't a number that it doesn't contain
has-not : (xs : List ℕ) (n : ℕ) → (Contains xs n → ⊥) → has xs n ≡ false
has-not xs n absent = elim (cases_Bool (has xs n)) [ inl e ↦ absurd (absent (has-contains xs n e)) | inr e ↦ e ]

-- distinct members below n are each counted
tally_members : (n : ℕ) (members : List ℕ) → AllPairs (λ i j. i ≢ j) members → All (λ i. i < n) members → length members ≤ tally (has members) (numbers_from 0 n)
tally_members n [] distinct below = omega arith
tally_members n (x ∷ xs) distinct below =
    let small : x < n = All-head (λ i. i < n) x xs below in
    omega (
      arith,
      tally_members n xs (later-distinct x xs distinct) (All-tail (λ i. i < n) x xs below),
      tally_at x 0 n (omega arith) (omega (arith, small)),
      tally_either (nat_eq x) (has xs) (numbers_from 0 n) (λ m e. has-not xs m (λ h. later-differ x xs distinct m h (eqb-true x m e))),
    )

-- more members than there are faulty ones have one that isn't
pub one_correct : (count most : ℕ) (faulty : ℕ → Bool) (members : List ℕ) → faulty_below count faulty ≤ most → IsGroup count (most + 1) members → HasCorrect faulty members
one_correct count most faulty members few group =
    let ns = numbers_from 0 count in
    let found = tally_some (λ n. has members n && not (faulty n)) ns
    (omega (arith, few, count_by_tally faulty ns, group.enough, tally_members count members group.distinct group.below, tally_split (has members) faulty ns)) in
    let parts = and_parts (has members found.0) (not (faulty found.0)) found.1 in
    (found.0, has-contains members found.0 parts.0, not-true (faulty found.0) parts.1)

-- two groups that have more members together than there are numbers and faulty ones share one that isn't
pub share_correct : (count most first second : ℕ) (faulty : ℕ → Bool) (xs ys : List ℕ) → count + most < first + second → faulty_below count faulty ≤ most → IsGroup count first xs → IsGroup count second ys → SharesCorrect faulty xs ys
share_correct count most first second faulty xs ys many few one two =
    let ns = numbers_from 0 count in
    let found = tally_some (λ n. (has xs n && has ys n) && not (faulty n)) ns
    (omega (
      arith,
      many,
      few,
      count_by_tally faulty ns,
      length_numbers 0 count,
      one.enough,
      two.enough,
      tally_members count xs one.distinct one.below,
      tally_members count ys two.distinct two.below,
      tally_both (has xs) (has ys) ns,
      tally_split (λ n. has xs n && has ys n) faulty ns,
    )) in
    let parts = and_parts (has xs found.0 && has ys found.0) (not (faulty found.0)) found.1 in
    let both = and_parts (has xs found.0) (has ys found.0) parts.0 in
    (found.0, has-contains xs found.0 both.0, has-contains ys found.0 both.1, not-true (faulty found.0) parts.1)

pub quorums_share_correct : (p : Params) (faulty : ℕ → Bool) (xs ys : List ℕ) → FewNodesFaulty p faulty → IsQuorum p xs → IsQuorum p ys → SharesCorrect faulty xs ys
quorums_share_correct p faulty xs ys few one two = share_correct (agreements p) p.f (2 * p.f + 1) (2 * p.f + 1) faulty xs ys (omega arith) few one two

pub row_correct : (p : Params) (faulty : ℕ → ℕ → Bool) → FewFiltersFaulty p faulty → HasCorrectRow p faulty
row_correct p faulty few =
    let rows = numbers_from 0 (width p) in
    let found = total_zero (faulty_in_row p faulty) rows (omega (arith, few, sum_by_total (faulty_in_row p faulty) rows, length_numbers 0 (width p))) in
    let row = found.0 in
    let within = numbers_within row 0 (width p) found.1 in (
      row,
      omega (arith, within.1),
      λ column small.
          tally_none (faulty row) rows column (sym (count_by_tally (faulty row) rows) ∙ found.2) (contains_numbers column 0 (width p) (omega arith) (omega (arith, small))),
    )
