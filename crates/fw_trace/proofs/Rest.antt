-- The test of rest is rest: each frame between correct seats was delivered.
use Rattle.std.proofs.Common.{◌≡◌, ℕ, zero, suc, ◌+◌, Bool, true, false, ◌&&◌, ◌||◌, not, List, [], ◌∷◌, Some, IsTrue, refl, sym, subst, arith, ◌↔◌}
use Rattle.std.specs.Prelude.{slice_get}
use Rattle.std.proofs.lemmas.Bool.{false≢true, and_parts, and_from}
use Rattle.std.proofs.lemmas.Option.{none-some, same_Some}
use Rattle.fw_trace.specs.declared.Sent.{Sent}
use Rattle.fw_trace.specs.declared.Logged.{Logged}
use Rattle.fw_trace.specs.Trace.{Rules, IsAtRest, rests_from, was_delivered}

-- each frame of these, the first of which stands at place k, was delivered if it is between correct seats
abbrev Rest : {M O : Type 0} → Rules M O → List (Logged M O) → ℕ → List (Sent M) → Type 0
Rest {M} r log k pool =
    (j : ℕ) (s : Sent M) → slice_get pool j ≡ Some s → IsTrue (r.correct s.from) → IsTrue (r.correct s.to) → IsTrue (was_delivered log (k + j))

-- one frame
one : (a b d : Bool) → IsTrue (not (a && b) || d) → IsTrue a → IsTrue b → IsTrue d
one true true d h x y = h
one true false d h x y = absurd (false≢true y)
one false b d h x y = absurd (false≢true x)

one_back : (a b d : Bool) → (IsTrue a → IsTrue b → IsTrue d) → IsTrue (not (a && b) || d)
one_back true true d h = h refl refl
one_back true false d h = refl
one_back false b d h = refl

rest : {M O : Type 0} (r : Rules M O) (log : List (Logged M O)) (k : ℕ) (pool : List (Sent M)) → IsTrue (rests_from r log k pool) → Rest r log k pool
rest r log k [] h = λ j s e from to. absurd (none-some s e)
rest {M} {O} r log k (x ∷ pool) h = at (rest r log (k + 1) pool)
  where
    parts : IsTrue (not (r.correct x.from && r.correct x.to) || was_delivered log k) × IsTrue (rests_from r log (k + 1) pool)
    parts = and_parts (not (r.correct x.from && r.correct x.to) || was_delivered log k) (rests_from r log (k + 1) pool) h

    at : (IsTrue (rests_from r log (k + 1) pool) → Rest r log (k + 1) pool) → Rest r log k (x ∷ pool)
    at more zero s e from to =
        let same : s ≡ x = sym (same_Some x s e) in
        let here : k ≡ k + 0 = omega arith in
        subst (λ n. IsTrue (was_delivered log n)) here
        (one (r.correct x.from) (r.correct x.to) (was_delivered log k) parts.0
        (subst (λ (y : Sent _). IsTrue (r.correct y.from)) same from) (subst (λ (y : Sent _). IsTrue (r.correct y.to)) same to))
    at more (suc j) s e from to =
        let there : k + 1 + j ≡ k + suc j = omega arith in
        subst (λ n. IsTrue (was_delivered log n)) there (more parts.1 j s e from to)

rest_back : {M O : Type 0} (r : Rules M O) (log : List (Logged M O)) (k : ℕ) (pool : List (Sent M)) → Rest r log k pool → IsTrue (rests_from r log k pool)
rest_back r log k [] all = refl
rest_back r log k (x ∷ pool) all =
    let here : k + 0 ≡ k = omega arith in
    and_from (not (r.correct x.from && r.correct x.to) || was_delivered log k) (rests_from r log (k + 1) pool)
    (one_back (r.correct x.from) (r.correct x.to) (was_delivered log k) (λ from to. subst (λ n. IsTrue (was_delivered log n)) here (all 0 x refl from to)))
    (rest_back r log (k + 1) pool (λ j s e from to. let there : k + suc j ≡ k + 1 + j = omega arith in subst (λ n. IsTrue (was_delivered log n)) there (all (suc j) s e from to)))

pub rest_is : {M O : Type 0} (r : Rules M O) (log : List (Logged M O)) (pool : List (Sent M)) → IsTrue (rests_from r log 0 pool) ↔ IsAtRest r (record { pool = pool; log = log })
rest_is r log pool = (
  λ h j s e from to. let same : 0 + j ≡ j = omega arith in subst (λ n. IsTrue (was_delivered log n)) same (rest r log 0 pool h j s e from to),
  λ all. rest_back r log 0 pool (λ j s e from to. let same : j ≡ 0 + j = omega arith in subst (λ n. IsTrue (was_delivered log n)) same (all j s e from to)),
)
