-- The shares that a reply is joined of: equal answers, distinct executors, and how many.
use Rattle.std.proofs.Common.{ℕ, zero, suc, ◌+◌, ◌≡◌, ◌≢◌, inl, inr, Bool, true, false, cond, ◌&&◌, nat_eq, min, List, [], ◌∷◌, length, take, Some, refl, sym, ◌∙◌, ap, arith, true≢false}
use Rattle.std.specs.Prelude.{filter}
use Rattle.std.proofs.lemmas.Bool.{eqb-true, eq-eqb, and_parts, and_from}
use Rattle.std.proofs.lemmas.List.{length-take}
use Rattle.fw_trace.specs.declared.Share as shares
use Rattle.fw_trace.specs.Filter.{has_share}
use Rattle.fw_trace.specs.Lists.{In}
use Rattle.fw_trace.proofs.Words.{In-filter}
use Rattle.fw_frame.specs.View.{Given, Replies}
use Rattle.fw_rules.specs.Means.{Means}
use Rattle.fw_rules.specs.Roles.{Valued, same_answers, is_equal, joined, combined_of}
use Rattle.fw_law_words.proofs.Lists.{In-take}
use Rattle.fw_law_words.proofs.Roles as words
use Rattle.fw_law_filter.specs.Heard.{AreApart}
use Rattle.fw_law_filter.proofs.Holding.{or_false}
use Rattle.fw_law_sources.specs.Joined.{AreByDistinct}

-- ---- distinct executors

-- a share is there under its number and executor
has_share-in : (ss : List (shares.Share Valued)) (t : shares.Share Valued) (n j : ℕ) → has_share ss n j ≡ false → In t ss → t.number ≡ n → t.exec ≢ j
has_share-in [] t n j h i e = absurd i
has_share-in (s ∷ ss) t n j h (inl same) e = λ f. (
    let parts = or_false (nat_eq s.number n && nat_eq s.exec j) (has_share ss n j) h in
    let number : s.number ≡ n = ap (λ (u : shares.Share Valued). u.number) (sym same) ∙ e in
    let exec : s.exec ≡ j = ap (λ (u : shares.Share Valued). u.exec) (sym same) ∙ f in
    true≢false (sym (and_from (nat_eq s.number n) (nat_eq s.exec j) (eq-eqb s.number n number) (eq-eqb s.exec j exec)) ∙ parts.0))
has_share-in (s ∷ ss) t n j h (inr i) e = has_share-in ss t n j (or_false (nat_eq s.number n && nat_eq s.exec j) (has_share ss n j) h).1 i e

-- those of one number that pass a test are by distinct executors
filter_distinct : (test : shares.Share Valued → Bool) (n : ℕ) → ((s : shares.Share Valued) → test s ≡ true → s.number ≡ n) → (ss : List (shares.Share Valued)) → AreApart ss → AreByDistinct (filter test ss)
filter_distinct test n f [] a = tt
filter_distinct test n f (s ∷ ss) a = by (test s) refl (filter_distinct test n f ss a.1)
  where
    by : (b : Bool) → test s ≡ b → AreByDistinct (filter test ss) → AreByDistinct (cond b (s ∷ filter test ss) (filter test ss))
    by true e rest = (
      λ t i. (let w = In-filter test t ss i in has_share-in ss t s.number s.exec a.0 w.0 (f t w.1 ∙ sym (f s e))),
      rest,
    )
    by false e rest = rest

take_distinct : (count : ℕ) (ss : List (shares.Share Valued)) → AreByDistinct ss → AreByDistinct (take count ss)
take_distinct zero ss d = tt
take_distinct (suc count) [] d = tt
take_distinct (suc count) (s ∷ ss) d = (λ t i. d.0 t (In-take count ss t i), take_distinct count ss d.1)

-- ---- the shares that make a reply

pub record Combines {M : Type 0} (k : Means M) (n : ℕ) (kept : List (shares.Share Valued)) (m : M) : Type 0 where
  pub answers : List Given
  pub equal : List (shares.Share Valued)
  pub count : length (take (k.params.g + 1) equal) ≡ k.params.g + 1
  pub each : (s : shares.Share Valued) → In s (take (k.params.g + 1) equal) → In s kept × (s.number ≡ n) × (s.value.0 ≡ answers)
  pub distinct : AreByDistinct (take (k.params.g + 1) equal)
  pub is : m ≡ k.write (Replies (joined k n answers equal))

equal_is : (n : ℕ) (s t : shares.Share Valued) → is_equal n s t ≡ true → (t.number ≡ n) × (t.value.0 ≡ s.value.0)
equal_is n s t e =
    let both = and_parts (nat_eq t.number n) (same_answers t.value.0 s.value.0) e in
    (eqb-true t.number n both.0, words.answers_same t.value.0 s.value.0 both.1)

pub combines : {M : Type 0} (k : Means M) (n : ℕ) (kept : List (shares.Share Valued)) (m : M) → AreApart kept → combined_of k n kept ≡ Some m → Combines k n kept m
combines k n kept m apart e =
    let c = words.combines k n kept m e in
    let equal = filter (is_equal n c.share) kept in
    let enough = c.enough in
    let long : length (take (k.params.g + 1) equal) ≡ min (k.params.g + 1) (length equal) = length-take (k.params.g + 1) equal in
    record {
      answers = c.share.value.0;
      equal = equal;
      count = omega (arith, enough, long);
      each = λ t i. (let w = In-filter (is_equal n c.share) t kept (In-take (k.params.g + 1) equal t i) in let same = equal_is n c.share t w.1 in (w.0, same.0, same.1));
      distinct = take_distinct (k.params.g + 1) equal (filter_distinct (is_equal n c.share) n (λ t q. (equal_is n c.share t q).0) kept apart);
      is = c.is;
    }
