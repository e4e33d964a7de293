-- From a reader's two answers to the one that it gives.
use Rattle.std.proofs.Common.{◌≡◌, ◌≢◌, Bool, true, false, Option, Some, None, Result, Ok, Err, IfOk, OnErr, IfSome, IfNone, refl, sym, ap, ◌∙◌, subst, if◌then◌else◌}
use Rattle.std.specs.Prelude.{◌↔◌}
use Rattle.std.specs.Bool.{Decides}

-- where at most one thing is meant, a reader answers with the one that is
pub each_of : {A E : Type 0} (P : A → Type 0) (r : Result (Option A) E) → ((a b : A) → P a → P b → a ≡ b)
    → IfOk r (λ found. IfSome found P) → IfOk r (λ found. IfNone found ((a : A) → P a → ⊥)) → IfOk r (λ found. (a : A) → P a → found ≡ Some a)
each_of P (Ok (Some x)) one found none = λ a is. ap Some (one x a found is)
each_of P (Ok None) one found none = λ a is. absurd (none a is)
each_of P (Err e) one found none = tt

-- what holds in any case holds where memory was wanted
pub in_any_case : {A E : Type 0} (P : Type 0) (r : Result A E) → P → OnErr r P
in_any_case P (Ok x) p = tt
in_any_case P (Err e) p = p

-- a thing that is given where a test holds
given_where : {A : Type 0} (test : Bool) (x y : A) → (if test then Some x else None) ≡ Some y → (test ≡ true) × (x ≡ y)
given_where true x y e = (refl, cc)
given_where false x y e = cc

-- where a thing can only be this one, and a test decides what is meant, this one behind the test is what is meant
pub meant_where : {A : Type 0} (P : A → Type 0) (test : A → Bool) (this : A) → ((a : A) → Decides (test a) (P a)) → ((a : A) → P a → this ≡ a)
    → (a : A) → P a ↔ ((if test this then Some this else None) ≡ Some a)
meant_where P test this decides only a = (
  λ is. ap (λ x. if test x then Some x else None) (only a is) ∙ ap (λ t. if t then Some a else None) ((decides a).1 is),
  λ e. let given = given_where (test this) this a e in subst P given.1 ((decides this).0 given.0),
)

-- what is no thing is none
never : {A : Type 0} (v : Option A) → ((a : A) → v ≢ Some a) → v ≡ None
never None none = refl
never (Some a) none = absurd (none a refl)

-- where a value is what is meant, a reader answers with that value
pub value_of : {A E : Type 0} (P : A → Type 0) (v : Option A) (r : Result (Option A) E) → ((a : A) → P a ↔ (v ≡ Some a))
    → IfOk r (λ found. IfSome found P) → IfOk r (λ found. IfNone found ((a : A) → P a → ⊥)) → IfOk r (λ found. found ≡ v)
value_of P v (Ok (Some x)) same found none = sym ((same x).0 found)
value_of P v (Ok None) same found none = sym (never v (λ a e. none a ((same a).1 e)))
value_of P v (Err e) same found none = tt
