-- What a test lets through, and whether something was found.
use Rattle.std.proofs.Common.{◌≡◌, Bool, true, false, not, refl, sym, subst, Option, Some, None, is_some}
use Rattle.std.proofs.lemmas.Option.{none-some}
use Rattle.fw_means.specs.Means.{when}

pub when-some : {A : Type 0} (b : Bool) (o : Option A) (y : A) → when b o ≡ Some y → (b ≡ true) × (o ≡ Some y)
when-some true o y e = (refl, e)
when-some false o y e = absurd (none-some y e)

pub when-false : {A : Type 0} (b : Bool) (o : Option A) → b ≡ false → when b o ≡ None
when-false true o e = cc
when-false false o e = refl

pub when-none : {A : Type 0} (b : Bool) (y : A) → when b (Some y) ≡ None → b ≡ false
when-none true y e = absurd (none-some y (sym e))
when-none false y e = refl

-- a test that asks for more chooses no more
pub when-less : {A : Type 0} (b c : Bool) (o : Option A) → (c ≡ true → b ≡ true) → when b o ≡ None → when c o ≡ None
when-less b true o f h = subst (λ (z : Bool). when z o ≡ None) (f refl) h
when-less b false o f h = refl

pub when-never : {A : Type 0} (b c : Bool) (y z : A) → (c ≡ true → b ≡ true) → when b (Some y) ≡ None → when c (Some z) ≡ None
when-never b false y z f h = refl
when-never b true y z f h = absurd (none-some y (sym (subst (λ (t : Bool). when t (Some y) ≡ None) (f refl) h)))

pub when-nothing : {A : Type 0} (b : Bool) (o : Option A) → o ≡ None → when b o ≡ None
when-nothing true o e = e
when-nothing false o e = refl

pub is_some-none : {A : Type 0} (o : Option A) → not (is_some o) ≡ true → o ≡ None
is_some-none None e = refl
is_some-none (Some x) e = cc

pub none-not_some : {A : Type 0} (o : Option A) → o ≡ None → not (is_some o) ≡ true
none-not_some None e = refl
none-not_some (Some x) e = cc

pub some-not_none : {A : Type 0} (o : Option A) (x : A) → o ≡ Some x → not (is_some o) ≡ false
some-not_none None x e = cc
some-not_none (Some y) x e = refl
