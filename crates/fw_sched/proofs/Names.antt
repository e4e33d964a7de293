-- The least of the names that a document doesn't have: the first of them, since the names of a table ascend.
use Rattle.std.proofs.Common.{◌≡◌, ℕ, true, false, Less, nat_cmp, List, [], ◌∷◌, Option, None, Some, IfSome, String, Global, string_bytes, refl, ap, inl, inr}
use Rattle.std.proofs.lemmas.Bool.{cases_Bool}
use Rattle.std.specs.Cmp.Lexicographic.{slice_cmp}
use Rattle.std.specs.List.{AllByRecursion}
use Rattle.std.specs.List.Sorted.{IsStrictlySortedBy}
use Rattle.std.specs.Map.{keys_of}
use Rattle.std.specs.Ordering.{is_lt}
use Rattle.std.specs.String.{string_cmp}
use Rattle.toml.specs.View.{members_view}
use Rattle.toml.specs.declared.value.Value.{Value}
use Rattle.fw_sched.specs.Members.{is_known, lesser, least_other}

abbrev pub Entry : Type 0
Entry = String Global × Value

-- below the lesser of two
below_lesser : (name one : List ℕ) (other : Option (List ℕ)) → slice_cmp nat_cmp name one ≡ Less → IfSome other (λ x. slice_cmp nat_cmp name x ≡ Less) → slice_cmp nat_cmp name (lesser one other) ≡ Less
below_lesser name one None below all = below
below_lesser name one (Some x) below all =
    elim (cases_Bool (is_lt (slice_cmp nat_cmp one x))) [
      | inl less ↦ rw less below
      | inr more ↦ rw more all
    ]

-- a name that is below all is below the least of the others
below_least : (name : String Global) (es : List Entry) → AllByRecursion (λ y. string_cmp name y ≡ Less) (keys_of es) → IfSome (least_other (members_view es)) (λ x. slice_cmp nat_cmp (string_bytes name) x ≡ Less)
below_least name [] below = tt
below_least name (e ∷ es) below =
    elim (cases_Bool (is_known (string_bytes e.0))) [
      | inl known ↦ rw known (below_least name es below.1)
      | inr other ↦ rw other (below_lesser (string_bytes name) (string_bytes e.0) (least_other (members_view es)) below.0 (below_least name es below.1))
    ]

lesser_below : (name : List ℕ) (other : Option (List ℕ)) → IfSome other (λ x. slice_cmp nat_cmp name x ≡ Less) → lesser name other ≡ name
lesser_below name None below = refl
lesser_below name (Some x) below = rw below refl

pub first_other : (e : Entry) (es : List Entry) → IsStrictlySortedBy string_cmp (keys_of (e ∷ es)) → is_known (string_bytes e.0) ≡ false → least_other (members_view (e ∷ es)) ≡ Some (string_bytes e.0)
unfolding IsStrictlySortedBy
first_other e es sorted other = rw other (ap Some (lesser_below (string_bytes e.0) (least_other (members_view es)) (below_least e.0 es sorted.0)))

pub known_first : (e : Entry) (es : List Entry) → is_known (string_bytes e.0) ≡ true → least_other (members_view (e ∷ es)) ≡ least_other (members_view es)
known_first e es known = rw known refl

pub ascend_behind : (e : Entry) (es : List Entry) → IsStrictlySortedBy string_cmp (keys_of (e ∷ es)) → IsStrictlySortedBy string_cmp (keys_of es)
unfolding IsStrictlySortedBy
ascend_behind e es sorted = sorted.1
