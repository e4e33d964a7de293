-- What is known of a value that is told.
use Rattle.std.proofs.Common.{◌≡◌, Option, Some, None, IfSome, sym, subst}

-- what holds of a value holds of the one that is told
pub told : {A : Type 0} (Q : A → Type 0) (o : Option A) (x : A) → IfSome o (λ y. x ≡ y) → Q x → IfSome o Q
told Q None x same q = tt
told Q (Some y) x same q = subst Q same q

-- the same, the other way round
pub told_back : {A : Type 0} (Q : A → Type 0) (o : Option A) (x : A) → IfSome o (λ y. y ≡ x) → Q x → IfSome o Q
told_back Q None x same q = tt
told_back Q (Some y) x same q = subst Q (sym same) q
