-- What the rules read and combine: admitted frames, the replies that a node holds, and the reply that shares make.
use Rattle.std.proofs.Common.{ℕ, ◌+◌, ◌≡◌, ◌≤◌, true, ◌&&◌, nat_eq, nat_le, List, [], ◌∷◌, length, Option, Some, None, refl, sym, ◌∙◌, ap, ap₂, subst}
use Rattle.std.specs.Prelude.{option_and_then, filter, bytes_eq}
use Rattle.std.proofs.lemmas.Bool.{eqb-true, leb-true, and_parts}
use Rattle.std.proofs.lemmas.Option.{none-some, same_Some}
use Rattle.std.proofs.lemmas.Slice.Eq.{bytes_eq-Decides}
use Rattle.fw_base.specs.declared.seat.Seat.{Seat}
use Rattle.fw_trace.specs.declared.Share as shares
use Rattle.fw_trace.specs.Lists.{In}
use Rattle.fw_frame.specs.View.{Given, Reply, Frame, Replies}
use Rattle.fw_rules.specs.Means.{Means}
use Rattle.fw_rules.specs.Choices.{admitted}
use Rattle.fw_rules.specs.Agree.{Self, Node, numbers, reply_to, reply_at, reply_if}
use Rattle.fw_rules.specs.Roles.{Valued, same_given, same_answers, joined, is_equal, combined_with, combined_of}
use Rattle.fw_law_words.proofs.Tests.{when-some}
use Rattle.fw_law_words.proofs.Firsts.{first_some-in}

-- an admitted frame, and what is made of it
pub record Admits {M B : Type 0} (k : Means M) (seat from : Seat) (m : M) (f : Frame → Option B) (y : B) : Type 0 where
  pub frame : Frame
  pub read : admitted k seat from m ≡ Some frame
  pub gives : f frame ≡ Some y

pub admits : {M B : Type 0} (k : Means M) (seat from : Seat) (m : M) (f : Frame → Option B) (y : B) → option_and_then f (admitted k seat from m) ≡ Some y → Admits k seat from m f y
admits {M = M} {B = B} k seat from m f y e = by (admitted k seat from m) refl e
  where
    by : (o : Option Frame) → admitted k seat from m ≡ o → option_and_then f o ≡ Some y → Admits k seat from m f y
    by None q h = absurd (none-some y h)
    by (Some v) q h = record { frame = v; read = q; gives = h }

-- a reply that a node finds it holds
pub held_reply : {M : Type 0} (me : Self M) (x : Node) (c s : ℕ) (reply : Reply) → reply_to me x c s ≡ Some reply → In reply x.heard.held
held_reply me x c s reply e =
    let n = first_some-in (reply_at x c s) (numbers me) reply e in
    let r = first_some-in (reply_if c s n.0) x.heard.held reply n.2 in
    let w = when-some _ _ reply r.2 in
    subst (λ (z : Reply). In z x.heard.held) (same_Some _ _ w.1) r.1

-- ---- answers that are found the same are the same

given_same : (g h : Given) → same_given g h ≡ true → g ≡ h
given_same g h same =
    let front = and_parts (nat_eq g.client h.client && nat_eq g.stamp h.stamp) (bytes_eq g.body h.body) same in
    let both = and_parts (nat_eq g.client h.client) (nat_eq g.stamp h.stamp) front.0 in
    let client = eqb-true g.client h.client both.0 in
    let stamp = eqb-true g.stamp h.stamp both.1 in
    let body : g.body ≡ h.body = (bytes_eq-Decides g.body h.body).0 front.1 in
    ap (λ (c : ℕ). record { client = c; stamp = g.stamp; body = g.body }) client
    ∙ ap (λ (s : ℕ). record { client = h.client; stamp = s; body = g.body }) stamp
    ∙ ap (λ (b : List ℕ). record { client = h.client; stamp = h.stamp; body = b }) body

pub answers_same : (gs hs : List Given) → same_answers gs hs ≡ true → gs ≡ hs
answers_same [] [] same = refl
answers_same [] (h ∷ hs) same = absurd (let no : ⊥ = cc in no)
answers_same (g ∷ gs) [] same = absurd (let no : ⊥ = cc in no)
answers_same (g ∷ gs) (h ∷ hs) same =
    let both = and_parts (same_given g h) (same_answers gs hs) same in
    ap₂ (λ (x : Given) (xs : List Given). x ∷ xs) (given_same g h both.0) (answers_same gs hs both.1)

-- ---- the reply that is made of shares

pub record Combines {M : Type 0} (k : Means M) (n : ℕ) (kept : List (shares.Share Valued)) (m : M) : Type 0 where
  pub share : shares.Share Valued
  pub there : In share kept
  pub number : share.number ≡ n
  pub enough : k.params.g + 1 ≤ length (filter (is_equal n share) kept)
  pub is : m ≡ k.write (Replies (joined k n share.value.0 (filter (is_equal n share) kept)))

pub combines : {M : Type 0} (k : Means M) (n : ℕ) (kept : List (shares.Share Valued)) (m : M) → combined_of k n kept ≡ Some m → Combines k n kept m
combines k n kept m e =
    let s = first_some-in (combined_with k n kept) kept m e in
    let equal = filter (is_equal n s.0) kept in
    let made = k.write (Replies (joined k n s.0.value.0 equal)) in
    let w = when-some _ (Some made) m s.2 in
    let both = and_parts (nat_eq s.0.number n) (nat_le (k.params.g + 1) (length equal)) w.0 in
    record {
      share = s.0;
      there = s.1;
      number = eqb-true s.0.number n both.0;
      enough = leb-true (k.params.g + 1) (length equal) both.1;
      is = sym (same_Some made m w.1);
    }
