-- The shares that say the same, and the reply that they make.
use Rattle.std.proofs.Common.{◌≡◌, ℕ, ◌+◌, ◌≤◌, List, [], ◌∷◌, ◌++◌, Bool, true, false, ◌&&◌, not, nat_eq, map, length, take, All, Option, Some, None, refl, sym, ap, ap₂, subst, ◌∙◌, arith, inl, inr, IsTrue, Bor}
use Rattle.std.specs.List.{zip}
use Rattle.std.specs.Prelude.{bytes_eq}
use Rattle.std.proofs.lemmas.Bool.{cases_Bool, eq-eqb, eqb-true}
use Rattle.std.proofs.lemmas.List.{map-append, take_all, append-nil, length-map}
use Rattle.std.proofs.lemmas.List.Elements.{filter-append, All-filter, All-append, All-cons, All-nil, All-map}
use Rattle.std.proofs.lemmas.Slice.Eq.{bytes_eq-Decides}
use Rattle.fw_list.specs.declared.limits.TheConstants.{SIGNATURE_LEN}
use Rattle.fw_base.specs.declared.params.Params.{Params}
use Rattle.fw_base.specs.Sizes.{accepted}
use Rattle.fw_trace.specs.Filter.{has_share}
use Rattle.fw_frame.specs.View.{Given, Replies}
use Rattle.fw_frame.proofs.Rows.{All_map_at}
use Rattle.fw_shamir.specs.Polynomial.{AreDistinct}
use Rattle.fw_means.specs.Means.{when, joined_values, written}
use Rattle.fw_rules.specs.Roles.{is_equal, same_answers, joined}
use Rattle.fw_share.specs.declared.kept.KeptShare.{KeptShare}
use Rattle.fw_share.specs.Shares.{Share, IsWhole, AreFirsts, valued}
use Rattle.fw_share.specs.Combining.{joining, equal_to, made_by}
use Rattle.fw_share.proofs.Firsts.{distinct, firsts-more}

-- ---- a test, and what it gives

pub when-both : {A : Type 0} (kept many : Bool) (x : Option A) → kept ≡ false → many ≡ true → when (not kept && many) x ≡ x
when-both false true x e f = refl
when-both true many x e f = absurd (let no : ⊥ = cc in no)
when-both false false x e f = absurd (let no : ⊥ = cc in no)

pub when-not : {A : Type 0} (kept many : Bool) (x : Option A) → many ≡ false → when (not kept && many) x ≡ None
when-not false false x e = refl
when-not true many x e = refl
when-not false true x e = absurd (let no : ⊥ = cc in no)

neq-eqb : (a b : ℕ) → (a ≡ b → ⊥) → nat_eq a b ≡ false
neq-eqb a b other = elim (cases_Bool (nat_eq a b)) [
  | inr fails ↦ fails
  | inl holds ↦ absurd (other (eqb-true a b holds))
]

-- ---- a share says what it says

pub same-refl : (gs : List Given) → same_answers gs gs ≡ true
same-refl [] = refl
same-refl (g ∷ gs) =
    let client = eq-eqb g.client g.client refl in
    let stamp = eq-eqb g.stamp g.stamp refl in
    let body : bytes_eq g.body g.body ≡ true = (bytes_eq-Decides g.body g.body).1 refl in
    let rest = same-refl gs in
    rw (client, stamp, body, rest) refl

pub equal-self : (s : Share) → is_equal s.number s s ≡ true
equal-self s =
    let number = eq-eqb s.number s.number refl in
    let answers = same-refl s.value.0 in
    rw (number, answers) refl

-- ---- one more share

pub equal-more : (s t : Share) (kept : List Share) → is_equal s.number s t ≡ true → equal_to s (kept ++ t ∷ []) ≡ equal_to s kept ++ t ∷ []
equal-more s t kept same =
    filter-append (is_equal s.number s) kept (t ∷ []) ∙ (rw same refl)

pub other-more : (s t : Share) (kept : List Share) → is_equal s.number s t ≡ false → equal_to s (kept ++ t ∷ []) ≡ equal_to s kept
other-more s t kept other =
    filter-append (is_equal s.number s) kept (t ∷ []) ∙ (rw other (append-nil (equal_to s kept)))

-- what is read of the shares that say the same
pub read-more : {A : Type 0} (f : Share → A) (s : Share) (kept : List KeptShare) (one : KeptShare) (got : List A) → is_equal s.number s (valued one) ≡ true
    → got ≡ map f (equal_to s (map valued kept)) → got ++ f (valued one) ∷ [] ≡ map f (equal_to s (map valued (kept ++ one ∷ [])))
read-more f s kept one got same before =
    ap (λ xs. xs ++ f (valued one) ∷ []) before
    ∙ sym (map-append f (equal_to s (map valued kept)) (valued one ∷ []))
    ∙ ap (map f) (sym (equal-more s (valued one) (map valued kept) same))
    ∙ ap (λ xs. map f (equal_to s xs)) (sym (map-append valued kept (one ∷ [])))

pub read-other : {A : Type 0} (f : Share → A) (s : Share) (kept : List KeptShare) (one : KeptShare) (got : List A) → is_equal s.number s (valued one) ≡ false
    → got ≡ map f (equal_to s (map valued kept)) → got ≡ map f (equal_to s (map valued (kept ++ one ∷ [])))
read-other f s kept one got other before =
    before
    ∙ ap (map f) (sym (other-more s (valued one) (map valued kept) other))
    ∙ ap (λ xs. map f (equal_to s xs)) (sym (map-append valued kept (one ∷ [])))

pub read-all : {A : Type 0} (f : Share → A) (s : Share) (kept : List Share) (got : List A) → got ≡ map f (equal_to s kept) → got ++ f s ∷ [] ≡ map f (equal_to s (kept ++ s ∷ []))
read-all f s kept got before =
    ap (λ xs. xs ++ f s ∷ []) before
    ∙ sym (map-append f (equal_to s kept) (s ∷ []))
    ∙ ap (map f) (sym (equal-more s s kept (equal-self s)))

-- ---- what the shares are joined from

-- an executor is one of seven
pub exec-most : (p : Params) → IsTrue (accepted p) → (s : Share) → IsWhole p s → s.exec ≤ 7
exec-most p sizes s whole = let below = whole.exec in grind arith

pub points-distinct : (s : Share) (kept : List Share) → AreFirsts kept → has_share kept s.number s.exec ≡ false → AreDistinct (map (λ (t : Share). t.exec + 1) (equal_to s (kept ++ s ∷ [])))
points-distinct s kept firsts first = distinct s.number s (kept ++ s ∷ []) (firsts-more kept s firsts first)

pub values-long : (p : Params) (s : Share) (kept : List Share) (values : List (Bor (List ℕ))) → All (IsWhole p) kept → IsWhole p s
    → map (λ (v : Bor (List ℕ)). v.now) values ≡ map (λ (t : Share). t.value.1) (equal_to s (kept ++ s ∷ [])) → All (λ (v : Bor (List ℕ)). length v.now ≡ SIGNATURE_LEN) values
values-long p s kept values whole new same =
    let P : List ℕ → Type 0 = λ xs. length xs ≡ SIGNATURE_LEN in
    let all : All (IsWhole p) (kept ++ s ∷ []) = All-append (IsWhole p) kept (s ∷ []) whole (All-cons (IsWhole p) s [] new (All-nil _)) in
    let equal : All (IsWhole p) (equal_to s (kept ++ s ∷ [])) = All-filter (is_equal s.number s) (IsWhole p) (kept ++ s ∷ []) all in
    let long : All P (map (λ (v : Bor (List ℕ)). v.now) values) =
    subst (All P) (sym same) (All-map P (λ (t : Share). t.value.1) (equal_to s (kept ++ s ∷ [])) (λ k d below. (equal k d below).values)) in
    λ k d below. All_map_at P (λ (v : Bor (List ℕ)). v.now) values k d below long

zip-maps : {A B C : Type 0} (f : A → B) (g : A → C) (xs : List A) → zip (map f xs) (map g xs) ≡ map (λ x. (f x, g x)) xs
zip-maps f g [] = refl
zip-maps f g (x ∷ xs) = ap (λ ps. (f x, g x) ∷ ps) (zip-maps f g xs)

-- the reply is made
pub reply-made : (p : Params) (s : Share) (kept : List Share) (points : List ℕ) (values : List (List ℕ)) (secrets bytes : List ℕ)
    → has_share kept s.number s.exec ≡ false
    → points ≡ map (λ (t : Share). t.exec + 1) (equal_to s (kept ++ s ∷ []))
    → values ≡ map (λ (t : Share). t.value.1) (equal_to s (kept ++ s ∷ []))
    → length values ≡ p.g + 1
    → secrets ≡ joined_values (zip points values)
    → bytes ≡ written (Replies (record { number = s.number; answers = s.value.0; values = secrets }))
    → Some bytes ≡ made_by p kept s
reply-made p s kept points values secrets bytes first ps vs count joins wrote =
    let equal = equal_to s (kept ++ s ∷ []) in
    let many : length equal ≡ p.g + 1 = sym (length-map equal (λ (t : Share). t.value.1)) ∙ ap length (sym vs) ∙ count in
    let all : take (p.g + 1) equal ≡ equal = take_all (p.g + 1) equal (omega arith) in
    let pairs : zip points values ≡ map (λ (t : Share). (t.exec + 1, t.value.1)) (take (p.g + 1) equal) =
    ap₂ zip ps vs ∙ zip-maps (λ (t : Share). t.exec + 1) (λ (t : Share). t.value.1) equal ∙ ap (map (λ (t : Share). (t.exec + 1, t.value.1))) (sym all) in
    let reply : bytes ≡ written (Replies (joined (joining p) s.number s.value.0 equal)) =
    wrote ∙ ap (λ xs. written (Replies (record { number = s.number; answers = s.value.0; values = xs }))) (joins ∙ ap joined_values pairs) in
    let test : nat_eq (length equal) (p.g + 1) ≡ true = eq-eqb (length equal) (p.g + 1) many in
    ap Some reply ∙ sym (when-both (has_share kept s.number s.exec) (nat_eq (length equal) (p.g + 1)) _ first test)

-- it isn't made
pub reply-not-made : (p : Params) (s : Share) (kept : List Share) (values : List (List ℕ))
    → values ≡ map (λ (t : Share). t.value.1) (equal_to s (kept ++ s ∷ [])) → (length values ≡ p.g + 1 → ⊥) → None ≡ made_by p kept s
reply-not-made p s kept values vs other =
    let equal = equal_to s (kept ++ s ∷ []) in
    let same : length values ≡ length equal = ap length vs ∙ length-map equal (λ (t : Share). t.value.1) in
    sym (when-not (has_share kept s.number s.exec) (nat_eq (length equal) (p.g + 1)) _ (neq-eqb (length equal) (p.g + 1) (λ e. other (same ∙ e))))
