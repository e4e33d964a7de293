-- The first reply of a number is made where the rule makes it.
use Rattle.std.proofs.Common.{◌≡◌, ℕ, ◌+◌, ◌≤◌, ◌<◌, List, [], ◌∷◌, ◌++◌, Bool, true, false, ◌&&◌, ◌⊎◌, not, nat_eq, nat_le, length, Option, Some, None, refl, sym, ap, ap₂, ◌∙◌, arith, inl, inr}
use Rattle.std.specs.Prelude.{IfSome, bytes_eq, filter}
use Rattle.std.proofs.lemmas.Bool.{cases_Bool, and_parts, eq-eqb, eqb-true, eqb-false, leb-false, le-leb, lt-leb}
use Rattle.std.proofs.lemmas.List.{length-append, append-nil}
use Rattle.std.proofs.lemmas.List.Elements.{filter-append}
use Rattle.std.proofs.lemmas.Slice.Eq.{bytes_eq-Decides}
use Rattle.fw_base.specs.declared.params.Params.{Params}
use Rattle.fw_trace.specs.Filter.{has_share}
use Rattle.fw_frame.specs.View.{Given, Replies}
use Rattle.fw_means.specs.Means.{when}
use Rattle.fw_rules.specs.Means.{Means}
use Rattle.fw_rules.specs.Choices.{first_some}
use Rattle.fw_rules.specs.Roles.{is_equal, same_given, same_answers, joined, combined_with, combined_of}
use Rattle.fw_share.specs.Shares.{Share}
use Rattle.fw_share.specs.Combining.{joining, equal_to, made_by, added_if, made_if}
use Rattle.fw_share.proofs.Joined.{equal-self, equal-more}

-- ---- answers that are found the same are the same

given-same : (g h : Given) → same_given g h ≡ true → g ≡ h
given-same g h same =
    let front = and_parts (nat_eq g.client h.client && nat_eq g.stamp h.stamp) (bytes_eq g.body h.body) same in
    let parts = and_parts (nat_eq g.client h.client) (nat_eq g.stamp h.stamp) front.0 in
    let client = eqb-true g.client h.client parts.0 in
    let stamp = eqb-true g.stamp h.stamp parts.1 in
    let body : g.body ≡ h.body = (bytes_eq-Decides g.body h.body).0 front.1 in
    ap (λ (c : ℕ). record { client = c; stamp = g.stamp; body = g.body }) client
    ∙ ap (λ (s : ℕ). record { client = h.client; stamp = s; body = g.body }) stamp
    ∙ ap (λ (b : List ℕ). record { client = h.client; stamp = h.stamp; body = b }) body

pub answers-same : (gs hs : List Given) → same_answers gs hs ≡ true → gs ≡ hs
answers-same [] [] same = refl
answers-same [] (h ∷ hs) same = absurd (let no : ⊥ = cc in no)
answers-same (g ∷ gs) [] same = absurd (let no : ⊥ = cc in no)
answers-same (g ∷ gs) (h ∷ hs) same =
    let parts = and_parts (same_given g h) (same_answers gs hs) same in
    ap₂ (λ (x : Given) (xs : List Given). x ∷ xs) (given-same g h parts.0) (answers-same gs hs parts.1)

-- ---- what is looked for

-- f has this value or none
abbrev NoneOr : {A B : Type 0} → (A → Option B) → Option B → A → Type 0
NoneOr f r x = (f x ≡ None) ⊎ (f x ≡ r)

abbrev Each : {A : Type 0} → (A → Type 0) → List A → Type 0
Each P [] = Unit {0}
Each P (x ∷ xs) = P x × Each P xs

found-last : {A B : Type 0} (f : A → Option B) (xs : List A) (last : A) (r : Option B) → f last ≡ r → Each (NoneOr f r) xs → first_some f (xs ++ last ∷ []) ≡ r
found-last f [] last None is each = rw is refl
found-last f [] last (Some y) is each = rw is refl
found-last {B = B} f (x ∷ xs) last r is each = elim each.0 [
  | inl none ↦ rw none (found-last f xs last r is each.1)
  | inr some ↦ by r some (found-last f xs last r is each.1)
]
  where
    by : (o : Option B) → f x ≡ o → first_some f (xs ++ last ∷ []) ≡ o → ◌≡◌ {A = Option B} (elim (f x) [ Some y ↦ Some y | None ↦ first_some f (xs ++ last ∷ []) ]) o
    by None here rest = rw here rest
    by (Some y) here rest = rw here refl

none-each : {A B : Type 0} (f : A → Option B) (xs : List A) → first_some f xs ≡ None → Each (λ x. f x ≡ None) xs
none-each f [] none = tt
none-each {B = B} f (x ∷ xs) none = by (f x) refl none (λ e. none-each f xs e)
  where
    by : (o : Option B) → f x ≡ o → ◌≡◌ {A = Option B} (elim o [ Some y ↦ Some y | None ↦ first_some f xs ]) None → (first_some f xs ≡ None → Each (λ y. f y ≡ None) xs) → (f x ≡ None) × Each (λ y. f y ≡ None) xs
    by None here rest go = (here, go rest)
    by (Some y) here rest go = absurd (let no : ⊥ = cc in no)

each-more : {A : Type 0} (P Q : A → Type 0) → ((x : A) → P x → Q x) → (xs : List A) → Each P xs → Each Q xs
each-more P Q more [] each = tt
each-more P Q more (x ∷ xs) each = (more x each.0, each-more P Q more xs each.1)

-- ---- which replies are made

when-same : {A : Type 0} (kept number many least : Bool) (x : Option A) → kept ≡ false → number ≡ true → least ≡ many → when (not kept && many) x ≡ when (number && least) x
when-same false true many least x e f same = ap (λ b. when b x) (sym same)
when-same true number many least x e f same = absurd (let no : ⊥ = cc in no)
when-same false false many least x e f same = absurd (let no : ⊥ = cc in no)

some-none : {A : Type 0} (b : Bool) (x : A) → when b (Some x) ≡ None → b ≡ false
some-none false x e = refl
some-none true x e = absurd (let no : ⊥ = cc in no)

-- what a share makes, by its number and its answers
abbrev made-of : Means (List ℕ) → ℕ → List Share → ℕ → List Given → Option (List ℕ)
made-of k n kept number answers =
    let equal = filter (λ (t : Share). nat_eq t.number n && same_answers t.value.0 answers) kept in
    when (nat_eq number n && nat_le (k.params.g + 1) (length equal)) (Some (k.write (Replies (joined k n answers equal))))

same-made : (k : Means (List ℕ)) (n : ℕ) (kept : List Share) (s t : Share) → t.number ≡ s.number → t.value.0 ≡ s.value.0 → combined_with k n kept t ≡ combined_with k n kept s
same-made k n kept s t number answers = ap₂ (λ m gs. made-of k n kept m gs) number answers

-- a share that isn't like the last one makes what it made without it
apart-made : (k : Means (List ℕ)) (n : ℕ) (kept : List Share) (s t : Share) → is_equal n t s ≡ false → combined_with k n (kept ++ s ∷ []) t ≡ combined_with k n kept t
apart-made k n kept s t other =
    let equal : filter (is_equal n t) (kept ++ s ∷ []) ≡ filter (is_equal n t) kept =
    filter-append (is_equal n t) kept (s ∷ []) ∙ (rw other (append-nil (filter (is_equal n t) kept))) in
    ap (λ (es : List Share). when (nat_eq t.number n && nat_le (k.params.g + 1) (length es)) (Some (k.write (Replies (joined k n t.value.0 es))))) equal

-- another number makes nothing
off-made : (k : Means (List ℕ)) (n : ℕ) (kept : List Share) (t : Share) → nat_eq t.number n ≡ false → combined_with k n kept t ≡ None
off-made k n kept t other = rw other refl

none-or : (k : Means (List ℕ)) (kept : List Share) (s t : Share) → combined_with k s.number kept t ≡ None → NoneOr (combined_with k s.number (kept ++ s ∷ [])) (combined_with k s.number (kept ++ s ∷ []) s) t
none-or k kept s t none = elim (cases_Bool (nat_eq t.number s.number)) [
  | inr other ↦ inl (off-made k s.number (kept ++ s ∷ []) t other)
  | inl number ↦ elim (cases_Bool (is_equal s.number t s)) [
    | inr apart ↦ inl (apart-made k s.number kept s t apart ∙ none)
    | inl same ↦
        let answers = answers-same s.value.0 t.value.0 (and_parts (nat_eq s.number s.number) (same_answers s.value.0 t.value.0) same).1 in
        inr (same-made k s.number (kept ++ s ∷ []) s t (eqb-true t.number s.number number) (sym answers))
  ]
]

-- ---- how many shares are equal

few-of : (k : Means (List ℕ)) (kept : List Share) (s t : Share) → combined_with k s.number kept t ≡ None → is_equal s.number s t ≡ true → length (filter (is_equal s.number s) kept) < k.params.g + 1
few-of k kept s t none same =
    let parts = and_parts (nat_eq t.number s.number) (same_answers t.value.0 s.value.0) same in
    let made : combined_with k s.number kept s ≡ None = sym (same-made k s.number kept s t (eqb-true t.number s.number parts.0) (answers-same t.value.0 s.value.0 parts.1)) ∙ none in
    let number = eq-eqb s.number s.number refl in
    let test = some-none (nat_eq s.number s.number && nat_le (k.params.g + 1) (length (filter (is_equal s.number s) kept))) _ made in
    let fails : nat_le (k.params.g + 1) (length (filter (is_equal s.number s) kept)) ≡ false = rw number at test in
    leb-false (k.params.g + 1) (length (filter (is_equal s.number s) kept)) fails

few-in : (k : Means (List ℕ)) (kept : List Share) (s : Share) (xs : List Share) → Each (λ t. combined_with k s.number kept t ≡ None) xs
    → (length (filter (is_equal s.number s) xs) ≡ 0) ⊎ (length (filter (is_equal s.number s) kept) < k.params.g + 1)
few-in k kept s [] each = inl refl
few-in k kept s (t ∷ xs) each = elim (cases_Bool (is_equal s.number s t)) [
  | inl same ↦ inr (few-of k kept s t each.0 same)
  | inr other ↦ elim (few-in k kept s xs each.1) [
    | inl nothing ↦ inl (rw other nothing)
    | inr few ↦ inr few
  ]
]

few : (k : Means (List ℕ)) (kept : List Share) (s : Share) → Each (λ t. combined_with k s.number kept t ≡ None) kept → length (filter (is_equal s.number s) kept) ≤ k.params.g
few k kept s each = elim (few-in k kept s kept each) [
  | inl nothing ↦ omega arith
  | inr less ↦ omega arith
]

tests-agree : (m n : ℕ) → m ≤ n → nat_le n m ≡ nat_eq m n
tests-agree m n most = elim (cases_Bool (nat_eq m n)) [
  | inl same ↦ let e = eqb-true m n same in le-leb n m (omega arith) ∙ sym same
  | inr other ↦ let apart = eqb-false m n other in lt-leb n m (omega arith) ∙ sym other
]

-- ---- the first reply

pub first-combined : (p : Params) (s : Share) (kept : List Share) → has_share kept s.number s.exec ≡ false → combined_of (joining p) s.number kept ≡ None → made_by p kept s ≡ combined_of (joining p) s.number (kept ++ s ∷ [])
first-combined p s kept first none =
    let k = joining p in
    let all = none-each (combined_with k s.number kept) kept none in
    let each = each-more (λ t. combined_with k s.number kept t ≡ None) (NoneOr (combined_with k s.number (kept ++ s ∷ [])) (combined_with k s.number (kept ++ s ∷ []) s)) (none-or k kept s) kept all in
    let found = found-last (combined_with k s.number (kept ++ s ∷ [])) kept s (combined_with k s.number (kept ++ s ∷ []) s) refl each in
    let more : length (equal_to s (kept ++ s ∷ [])) ≡ length (equal_to s kept) + 1 = ap length (equal-more s s kept (equal-self s)) ∙ length-append (equal_to s kept) (s ∷ []) in
    let most = few k kept s all in
    let agree = tests-agree (length (equal_to s (kept ++ s ∷ []))) (p.g + 1) (omega arith) in
    let number = eq-eqb s.number s.number refl in
    when-same (has_share kept s.number s.exec) (nat_eq s.number s.number) (nat_eq (length (equal_to s (kept ++ s ∷ []))) (p.g + 1)) (nat_le (p.g + 1) (length (equal_to s (kept ++ s ∷ [])))) _ first number agree
    ∙ sym found

-- the same of what may be a share
pub first-made : (p : Params) (o : Option Share) (old new : List Share) (made : Option (List ℕ)) → made ≡ made_if p old o → new ≡ added_if old o
    → IfSome o (λ s. has_share old s.number s.exec ≡ false → combined_of (joining p) s.number old ≡ None → made ≡ combined_of (joining p) s.number new)
first-made p None old new made makes adds = tt
first-made p (Some s) old new made makes adds = λ first none.
    let kept : new ≡ old ++ s ∷ [] = adds ∙ (rw first refl) in
    makes ∙ first-combined p s old first none ∙ ap (combined_of (joining p) s.number) (sym kept)
