-- Tests of all of a list, and how many numbers of a range can stand in order.
use Rattle.std.proofs.Common.{ℕ, ◌+◌, ◌<◌, ◌≤◌, inl, inr, Bool, nat_lt, List, [], ◌∷◌, map, length, arith, IsTrue, refl, subst, sym}
use Rattle.std.specs.List.{list_all}
use Rattle.std.proofs.lemmas.Bool.{and_parts, and_from, ltb-true}
use Rattle.fw_list.specs.Numbers.{ascending}
use Rattle.fw_trace.specs.Lists.{In}

-- what passes a test, once it is mapped
pub mapped_at : {A B : Type 0} (test : B → Bool) (f : A → B) (xs : List A) (x : A) → IsTrue (list_all test (map f xs)) → In x xs → IsTrue (test (f x))
mapped_at test f [] x h i = absurd i
mapped_at {A = A} test f (y ∷ xs) x h (inl e) =
    subst (λ (z : A). IsTrue (test (f z))) (sym e) (and_parts (test (f y)) (list_all test (map f xs)) h).0
mapped_at test f (y ∷ xs) x h (inr i) = mapped_at test f xs x (and_parts (test (f y)) (list_all test (map f xs)) h).1 i

pub mapped_all : {A B : Type 0} (test : B → Bool) (f : A → B) (xs : List A) → ((x : A) → In x xs → IsTrue (test (f x))) → IsTrue (list_all test (map f xs))
mapped_all test f [] each = refl
mapped_all test f (x ∷ xs) each =
    and_from (test (f x)) (list_all test (map f xs)) (each x (inl refl)) (mapped_all test f xs (λ y i. each y (inr i)))

pub all_at : {A : Type 0} (test : A → Bool) (xs : List A) (x : A) → IsTrue (list_all test xs) → In x xs → IsTrue (test x)
all_at test [] x h i = absurd i
all_at {A = A} test (y ∷ xs) x h (inl e) = subst (λ (z : A). IsTrue (test z)) (sym e) (and_parts (test y) (list_all test xs) h).0
all_at test (y ∷ xs) x h (inr i) = all_at test xs x (and_parts (test y) (list_all test xs) h).1 i

pub all_from : {A : Type 0} (test : A → Bool) (xs : List A) → ((x : A) → In x xs → IsTrue (test x)) → IsTrue (list_all test xs)
all_from test [] each = refl
all_from test (x ∷ xs) each = and_from (test x) (list_all test xs) (each x (inl refl)) (all_from test xs (λ y i. each y (inr i)))

-- what stands behind a number in order is above it
above : (x : ℕ) (xs : List ℕ) (y : ℕ) → IsTrue (ascending (x ∷ xs)) → In y xs → x < y
above x [] y up i = absurd i
above x (z ∷ xs) y up (inl e) = let first = ltb-true x z (and_parts (nat_lt x z) (ascending (z ∷ xs)) up).0 in omega (arith, first, e)
above x (z ∷ xs) y up (inr i) =
    let parts = and_parts (nat_lt x z) (ascending (z ∷ xs)) up in
    let first = ltb-true x z parts.0 in
    let rest = above z xs y parts.1 i in
    omega (arith, first, rest)

behind : (x : ℕ) (xs : List ℕ) → IsTrue (ascending (x ∷ xs)) → IsTrue (ascending xs)
behind x [] up = refl
behind x (y ∷ xs) up = (and_parts (nat_lt x y) (ascending (y ∷ xs)) up).1

-- no more than there are in the range
pub few : (least end : ℕ) (xs : List ℕ) → least ≤ end → IsTrue (ascending xs) → ((x : ℕ) → In x xs → (least ≤ x) × (x < end)) → length xs + least ≤ end
few least end [] range up within = omega (arith, range)
few least end (x ∷ xs) range up within =
    let first = within x (inl refl) in
    let low = first.0 in
    let high = first.1 in
    let rest = few (x + 1) end xs (omega (arith, high)) (behind x xs up) (λ y i. (omega (arith, above x xs y up i), (within y (inr i)).1)) in
    omega (arith, rest, low)
