-- The first valid agreed frame of each number.
use Rattle.std.proofs.Common.{Less, Greater, ◌≡◌, ℕ, zero, suc, ◌+◌, ◌-◌, ◌<◌, ◌≤◌, Bool, true, false, ◌&&◌, cond, nat_eq, nat_lt, nat_le, ◌^◌, List, [], ◌∷◌, ◌++◌, map, length, max, Option, Some, None, refl, sym, ap, ◌∙◌, subst, arith, inl, inr, IsTrue, get_or, drop}
use Rattle.std.specs.Prelude.{option_map, is_some, IfSome, IfNone}
use Rattle.std.specs.BTreeMap.{BTreeMap, get, is_at, Updates}
use Rattle.std.specs.Ordering.{nat_cmp, is_eq}
use Rattle.std.specs.Cmp.{nat_cmp_is}
use Rattle.std.proofs.lemmas.Option.{none-some, same_Some}
use Rattle.std.proofs.lemmas.Bool.{cases_Bool, eqb-true, eqb-false, leb-true, ltb-true, ltb-false, and_parts}
use Rattle.std.proofs.lemmas.List.{drop_more}
use Rattle.std.proofs.lemmas.List.Elements.{All-nil, All-cons, All-head}
use Rattle.fw_list.specs.Lists.{numbers_from}
use Rattle.fw_base.specs.declared.params.Params.{Params}
use Rattle.fw_base.specs.Sizes.{accepted}
use Rattle.fw_trace.specs.declared.Sent.{Sent}
use Rattle.fw_trace.specs.Lists.{front_of, first_at, greatest_of}
use Rattle.fw_trace.specs.Run as runs
use Rattle.fw_list.specs.declared.limits.TheConstants.{BODY_LEN}
use Rattle.fw_frame.specs.declared.frame.Entry as held
use Rattle.fw_frame.specs.declared.frame.Entry.TheVariants as held_entry
use Rattle.fw_frame.specs.declared.frame.Request as held_request
use Rattle.fw_frame.specs.Plain.{plain_request}
use Rattle.fw_frame.specs.Frames.{PlainFrame, PlainEntry}
use Rattle.fw_frame.specs.Frames as frames
use Rattle.fw_frame.specs.Ranges.{number_fits, entry_fits, asker_fits, body_fits, signers_fit, view_fits, values_fit, frame_fits}
use Rattle.fw_frame.specs.Undoing.{frame_in}
use Rattle.fw_frame.specs.View.{Entry, Request, viewed, viewed_entry, viewed_request}
use Rattle.fw_frame.proofs.Undoing.{frame_in-only}
use Rattle.fw_directory.specs.Directories.{PlainDirectory}
use Rattle.fw_valid.specs.Validity.{IsValidFrame}
use Rattle.fw_means.specs.Means.{when, is_valid}
use Rattle.fw_means.proofs.Admitting.{frame_decided}
use Rattle.fw_lengths.proofs.Options.{when-some}
use Rattle.fw_rules.specs.World.{agreed_frame, agreed_in}
use Rattle.fw_hand.specs.Hands.{PlainHand}
use Rattle.fw_report.specs.declared.summary.AgreedLine.{AgreedLine}
use Rattle.fw_seen.specs.Summary.{agreed_lines}
use Rattle.fw_seen.specs.Entries.{seen, kept_entry, first_of, found_at, AreOpenable}

-- ---- what bytes tell

pub none_read : (d : PlainDirectory) (bytes : List ℕ) → frame_in d.params bytes ≡ None → agreed_in d bytes ≡ None
none_read d bytes none = rw none refl

pub read_is : (d : PlainDirectory) (bytes : List ℕ) (f : PlainFrame) → frame_in d.params bytes ≡ Some f → agreed_in d bytes ≡ when (is_valid d f) (agreed_frame (viewed f))
read_is d bytes f found = elim (cases_Bool (is_valid d f)) [
  | inl passed ↦ rw (found, passed) refl
  | inr failed ↦ rw (found, failed) refl
]

when_none : {A : Type 0} (b : Bool) → when {A = A} b None ≡ None
when_none true = refl
when_none false = refl

-- a frame of another kind tells nothing
pub other_kind : (d : PlainDirectory) (bytes : List ℕ) (f : PlainFrame) → frame_in d.params bytes ≡ Some f → agreed_frame (viewed f) ≡ None → agreed_in d bytes ≡ None
other_kind d bytes f found other = read_is d bytes f found ∙ ap (when (is_valid d f)) other ∙ when_none (is_valid d f)

-- nor does one that isn't valid
pub not_valid : (d : PlainDirectory) (bytes : List ℕ) (f : PlainFrame) → frame_in d.params bytes ≡ Some f → ¬ IsValidFrame d f → agreed_in d bytes ≡ None
not_valid d bytes f found wrong = elim (cases_Bool (is_valid d f)) [
  | inl passed ↦ absurd (wrong ((frame_decided d f).0 passed))
  | inr failed ↦ read_is d bytes f found ∙ ap (λ b. when b (agreed_frame (viewed f))) failed
]

pub is_agreed : (d : PlainDirectory) (bytes : List ℕ) (f : PlainFrame) → frame_in d.params bytes ≡ Some f → IsValidFrame d f → agreed_in d bytes ≡ agreed_frame (viewed f)
is_agreed d bytes f found valid = read_is d bytes f found ∙ ap (λ b. when b (agreed_frame (viewed f))) ((frame_decided d f).1 valid)

-- where a check gives none, and where it gives some
pub invalid_is : {A : Type 0} (o : Option A) (P : Type 0) → is_some o ≡ false → IfNone o P → P
invalid_is None P none p = p
invalid_is (Some x) P none p = absurd (let no : ⊥ = cc in no)

pub valid_is : {A : Type 0} (o : Option A) (Q : A → Type 0) (P : Type 0) → is_some o ≡ true → IfSome o (λ x. Q x × P) → P
valid_is None Q P some p = absurd (let no : ⊥ = cc in no)
valid_is (Some x) Q P some p = p.1

-- ---- what is kept

pub first_none : {A : Type 0} (o : Option A) → o ≡ first_of o None
first_none None = refl
first_none (Some x) = refl

-- nothing is told
pub kept_same : (k : Option Entry) (n : ℕ) (told : Option (ℕ × Entry)) → told ≡ None → k ≡ first_of k (found_at n told)
kept_same k n told none = first_none k ∙ ap (λ o. first_of k (found_at n o)) (sym none)

-- one more frame of those that are left
pub kept_more : (k : Option Entry) (told : Option (ℕ × Entry)) (rest : Option Entry) (n : ℕ)
    → first_of (first_of k (found_at n told)) rest ≡ first_of k (elim told [ None ↦ rest | Some found ↦ cond (nat_eq found.0 n) (Some found.1) rest ])
kept_more (Some e) told rest n = refl
kept_more None None rest n = refl
kept_more None (Some found) rest n = elim (cases_Bool (nat_eq found.0 n)) [
  | inl same ↦ rw same refl
  | inr other ↦ rw other refl
]

-- two numbers that differ
apart : (k q : ℕ) → nat_eq k q ≡ false → is_at (nat_cmp k) q ≡ false
apart k q differ =
    let other = eqb-false k q differ in
    elim (cases_Bool (nat_lt k q)) [
      | inl less ↦ ap is_eq (sym (nat_cmp_is k q Less (ltb-true k q less)))
      | inr more ↦ let above = ltb-false k q more in ap is_eq (sym (nat_cmp_is k q Greater (omega (arith, other, above))))
    ]

kept_by : (old new : Option held.Entry) (e : held.Entry) (b : Bool) → (b ≡ true → (new ≡ Some e) × (old ≡ None)) → (b ≡ false → new ≡ old)
    → option_map seen new ≡ first_of (option_map seen old) (cond b (Some (seen e)) None)
kept_by old new e true hit miss = ap (option_map seen) (hit refl).0 ∙ sym (ap (λ o. first_of (option_map seen o) (Some (seen e))) (hit refl).1)
kept_by old new e false hit miss = ap (option_map seen) (miss refl) ∙ first_none (option_map seen old)

not_some : {A : Type 0} (o : Option A) → is_some o ≡ false → o ≡ None
not_some None none = refl
not_some (Some x) none = absurd (let no : ⊥ = cc in no)

-- an entry is kept of a number that had none
pub kept_new : (old new : BTreeMap ℕ held.Entry) (number : ℕ) (e : held.Entry) (told : Option (ℕ × Entry)) → Updates nat_cmp old new number (Some e) → is_some (get nat_cmp old number) ≡ false
    → told ≡ Some (number, seen e) → (n : ℕ) → kept_entry new n ≡ first_of (kept_entry old n) (found_at n told)
kept_new old new number e told updates none tells n =
    kept_by (get nat_cmp old n) (get nat_cmp new n) e (nat_eq number n)
    (λ same. let is = eqb-true number n same in subst (λ k. (get nat_cmp new k ≡ Some e) × (get nat_cmp old k ≡ None)) is (updates.1, not_some (get nat_cmp old number) none))
    (λ differ. updates.2 n (apart number n differ))
    ∙ ap (λ o. first_of (kept_entry old n) (found_at n o)) (sym tells)

-- one frame more of a pool
pub entries_more : (reads : List ℕ → Option (ℕ × Entry)) (pool : List (Sent (List ℕ))) (i : ℕ) (s : Sent (List ℕ)) (bytes : List ℕ) (old new : Option Entry) (n : ℕ) → i < length pool → s ≡ get_or pool i s → bytes ≡ s.message
    → first_of old (runs.entry_at reads (drop i pool) n) ≡ runs.entry_at reads pool n → new ≡ first_of old (found_at n (reads bytes))
    → first_of new (runs.entry_at reads (drop (i + 1) pool) n) ≡ runs.entry_at reads pool n
entries_more reads pool i s bytes old new n inside read is before kept =
    let rest = runs.entry_at reads (drop (i + 1) pool) n in
    ap (λ o. first_of o rest) (kept ∙ ap (λ m. first_of old (found_at n (reads m))) is)
    ∙ kept_more old (reads s.message) rest n
    ∙ ap (λ xs. first_of old (runs.entry_at reads xs n)) (sym (drop_more pool i s inside ∙ ap (λ x. x ∷ drop (i + 1) pool) (sym read)))
    ∙ before

-- ---- the numbers and entries of agreed frames

-- a request can be opened
pub openable_request : (e : held.Entry) (r : held_request.Request) → e ≡ held_entry.Request r → AreOpenable (seen e) → (r.stamp < 2 ^ 31) × (length r.body.now ≡ BODY_LEN)
openable_request e r is opens =
    let whole : AreOpenable (seen (held_entry.Request r)) = subst (λ x. AreOpenable (seen x)) is opens in
    All-head (λ (q : Request). (q.stamp < 2 ^ 31) × (length q.body ≡ BODY_LEN)) (viewed_request (plain_request r)) [] whole

-- within the deployment: a number of the list, and requests that can be opened
abbrev InList : Params → ℕ × Entry → Type 0
InList p found = (found.0 ≤ p.numbers) × AreOpenable found.1

few : (p : Params) → IsTrue (accepted p) → (p.numbers ≤ 64) × (p.stamps ≤ 16)
few p sizes = (grind arith, grind arith)

entry_opens : (p : Params) → IsTrue (accepted p) → (e : PlainEntry) → entry_fits p e ≡ true → AreOpenable (viewed_entry e)
entry_opens p sizes None fit = All-nil _
entry_opens p sizes (Some r) fit =
    let whole = and_parts (asker_fits p r.client r.stamp && body_fits r.body) (values_fit r.sig) fit in
    let both = and_parts (asker_fits p r.client r.stamp) (body_fits r.body) whole.0 in
    let asker = and_parts (nat_lt r.client p.clients) (nat_le 1 r.stamp && nat_le r.stamp p.stamps) both.0 in
    let stamp : r.stamp ≤ p.stamps = leb-true r.stamp p.stamps (and_parts (nat_le 1 r.stamp) (nat_le r.stamp p.stamps) asker.1).1 in
    let most = (few p sizes).1 in
    All-cons (λ (q : Request). (q.stamp < 2 ^ 31) × (length q.body ≡ BODY_LEN)) _ [] (omega (arith, stamp, most), eqb-true (length r.body) BODY_LEN both.1) (All-nil _)

frame_in_list : (p : Params) → IsTrue (accepted p) → (f : PlainFrame) → frame_fits p f ≡ true → (found : ℕ × Entry) → agreed_frame (viewed f) ≡ Some found → InList p found
frame_in_list p sizes (frames.Request r) fit found is = absurd (let no : ⊥ = cc in no)
frame_in_list p sizes (frames.Propose view number entry sig) fit found is = absurd (let no : ⊥ = cc in no)
frame_in_list p sizes (frames.Vote phase view number agree digest sig) fit found is = absurd (let no : ⊥ = cc in no)
frame_in_list p sizes (frames.Change c) fit found is = absurd (let no : ⊥ = cc in no)
frame_in_list p sizes (frames.NewView view changes sig) fit found is = absurd (let no : ⊥ = cc in no)
frame_in_list p sizes (frames.Share number exec client stamp body shares) fit found is = absurd (let no : ⊥ = cc in no)
frame_in_list p sizes (frames.Reply number client stamp body secrets) fit found is = absurd (let no : ⊥ = cc in no)
frame_in_list p sizes (frames.Want number) fit found is = absurd (let no : ⊥ = cc in no)
frame_in_list p sizes (frames.Agreed view number entry signers) fit found is =
    let whole = and_parts (view_fits p view && number_fits p number && entry_fits p entry) (signers_fit p signers) fit in
    let three = and_parts (view_fits p view && number_fits p number) (entry_fits p entry) whole.0 in
    let two = and_parts (view_fits p view) (number_fits p number) three.0 in
    let least : number ≤ p.numbers = leb-true number p.numbers (and_parts (nat_le 1 number) (nat_le number p.numbers) two.1).1 in
    subst (InList p) (same_Some (number, viewed_entry entry) found is) (least, entry_opens p sizes entry three.1)

in_list : (d : PlainDirectory) → IsTrue (accepted d.params) → (bytes : List ℕ) (found : ℕ × Entry) → agreed_in d bytes ≡ Some found → InList d.params found
in_list d sizes bytes found tells = by (frame_in d.params bytes) refl
  where
    by : (o : Option PlainFrame) → frame_in d.params bytes ≡ o → InList d.params found
    by None e = absurd (let no : None ≡ Some found = sym (none_read d bytes e) ∙ tells in none-some found no)
    by (Some f) e =
        frame_in_list d.params sizes f (frame_in-only d.params bytes f e).fits found
        (when-some (is_valid d f) (agreed_frame (viewed f)) found (sym (read_is d bytes f e) ∙ tells)).1

-- ---- the first of each number

above_step : {A : Type 0} (reads : A → Option (ℕ × Entry)) (x : A) (xs : List A) (n : ℕ) (o : Option (ℕ × Entry)) → reads x ≡ o → greatest_of reads (x ∷ xs) < n
    → (greatest_of reads xs < n → first_at reads xs n ≡ None) → first_at reads (x ∷ xs) n ≡ None
above_step reads x xs n None e above rest = rw (e, first_at) (rest (rw (e, greatest_of) at above))
above_step reads x xs n (Some found) e above rest =
    let over : max found.0 (greatest_of reads xs) < n = rw (e, greatest_of) at above in
    elim (cases_Bool (nat_eq found.0 n)) [
      | inl same ↦ absurd (let is = eqb-true found.0 n same in omega (arith, over, is))
      | inr other ↦ rw (e, first_at) (rw other (rest (omega (arith, over))))
    ]

-- nothing is found above the greatest number
none_above : {A : Type 0} (reads : A → Option (ℕ × Entry)) (xs : List A) (n : ℕ) → greatest_of reads xs < n → first_at reads xs n ≡ None
none_above reads [] n above = refl
none_above reads (x ∷ xs) n above = above_step reads x xs n (reads x) refl above (none_above reads xs n)

holds_step : {A : Type 0} (reads : A → Option (ℕ × Entry)) (P : ℕ × Entry → Type 0) (x : A) (xs : List A) (n : ℕ) (e : Entry) (o : Option (ℕ × Entry)) → reads x ≡ o → ((found : ℕ × Entry) → reads x ≡ Some found → P found)
    → first_at reads (x ∷ xs) n ≡ Some e → (first_at reads xs n ≡ Some e → P (n, e)) → P (n, e)
holds_step reads P x xs n e None none each is rest = rest (rw (none, first_at) at is)
holds_step reads P x xs n e (Some found) some each is rest = elim (cases_Bool (nat_eq found.0 n)) [
  | inl same ↦
      let told : Some found.1 ≡ Some e = rw same at (rw (some, first_at) at is) in
      subst (λ k. P (k, e)) (eqb-true found.0 n same) (subst (λ y. P (found.0, y)) (same_Some found.1 e told) (each found some))
  | inr other ↦ rest (rw other at (rw (some, first_at) at is))
]

-- what holds of all that is told holds of what is found
found_holds : {A : Type 0} (reads : A → Option (ℕ × Entry)) (P : ℕ × Entry → Type 0) → ((x : A) (found : ℕ × Entry) → reads x ≡ Some found → P found)
    → (xs : List A) (n : ℕ) (e : Entry) → first_at reads xs n ≡ Some e → P (n, e)
found_holds reads P each [] n e is = absurd (none-some e is)
found_holds reads P each (x ∷ xs) n e is = holds_step reads P x xs n e (reads x) refl (each x) is (found_holds reads P each xs n e)

-- the entry of a number can be opened
pub found_opens : (d : PlainDirectory) → IsTrue (accepted d.params) → (pool : List (Sent (List ℕ))) (n : ℕ) (e : Entry) → runs.entry_at (agreed_in d) pool n ≡ Some e → AreOpenable e
found_opens d sizes pool n e is = (found_holds (λ (s : Sent (List ℕ)). agreed_in d s.message) (InList d.params) (λ s found told. in_list d sizes s.message found told) pool n e is).1

greatest_step : {A : Type 0} (reads : A → Option (ℕ × Entry)) (most : ℕ) (x : A) (xs : List A) (o : Option (ℕ × Entry)) → reads x ≡ o → ((found : ℕ × Entry) → reads x ≡ Some found → found.0 ≤ most)
    → greatest_of reads xs ≤ most → greatest_of reads (x ∷ xs) ≤ most
greatest_step reads most x xs None e each rest = rw (e, greatest_of) rest
greatest_step reads most x xs (Some found) e each rest = let one = each found e in rw (e, greatest_of) (omega (arith, one, rest))

greatest_within : {A : Type 0} (reads : A → Option (ℕ × Entry)) (most : ℕ) → ((x : A) (found : ℕ × Entry) → reads x ≡ Some found → found.0 ≤ most) → (xs : List A) → greatest_of reads xs ≤ most
greatest_within reads most each [] = omega arith
greatest_within reads most each (x ∷ xs) = greatest_step reads most x xs (reads x) refl (each x) (greatest_within reads most each xs)

-- ---- up to the first number that has none

front_more : {A : Type 0} (o : Option A) (xs ys : List (Option A)) → front_of xs ≡ front_of ys → front_of (o ∷ xs) ≡ front_of (o ∷ ys)
front_more None xs ys same = refl
front_more (Some x) xs ys same = ap (λ l. x ∷ l) same

front_none : {A : Type 0} (o : Option A) (xs : List (Option A)) → o ≡ None → front_of (o ∷ xs) ≡ []
front_none o xs none = rw none refl

front_same : (f : ℕ → Option Entry) (first n m : ℕ) → n ≤ m → ((k : ℕ) → first + n ≤ k → f k ≡ None) → front_of (map f (numbers_from first m)) ≡ front_of (map f (numbers_from first n))
front_same f first zero zero below none = refl
front_same f first zero (suc m) below none = front_none (f first) (map f (numbers_from (first + 1) m)) (none first (omega arith))
front_same f first (suc n) zero below none = absurd (omega arith)
front_same f first (suc n) (suc m) below none =
    front_more (f first) _ _ (front_same f (first + 1) n m (omega arith) (λ k above. none k (omega arith)))

-- all numbers of the list are gone through
pub list_is : (d : PlainDirectory) → IsTrue (accepted d.params) → (pool : List (Sent (List ℕ))) → front_of (map (runs.entry_at (agreed_in d) pool) (numbers_from 1 d.params.numbers)) ≡ runs.agreed_list (agreed_in d) pool
list_is d sizes pool =
    let reads : Sent (List ℕ) → Option (ℕ × Entry) = λ s. agreed_in d s.message in
    front_same (runs.entry_at (agreed_in d) pool) 1 (greatest_of reads pool) d.params.numbers
    (greatest_within reads d.params.numbers (λ s found told. (in_list d sizes s.message found told).0) pool)
    (λ k above. none_above reads pool k (omega arith))

-- no lines yet, and all numbers are left
pub lines_begin : (d : PlainDirectory) (p : Params) (hand : PlainHand) (pool : List (Sent (List ℕ))) (lines : List AgreedLine) → p ≡ d.params → IsTrue (accepted d.params) → lines ≡ []
    → lines ++ agreed_lines hand 1 (front_of (map (runs.entry_at (agreed_in d) pool) (numbers_from 1 (p.numbers - 0)))) ≡ agreed_lines hand 1 (runs.agreed_list (agreed_in d) pool)
lines_begin d p hand pool lines same sizes none =
    let all : p.numbers - 0 ≡ p.numbers = omega arith in
    ap (λ ls. ls ++ agreed_lines hand 1 (front_of (map (runs.entry_at (agreed_in d) pool) (numbers_from 1 (p.numbers - 0))))) none
    ∙ ap (λ n. agreed_lines hand 1 (front_of (map (runs.entry_at (agreed_in d) pool) (numbers_from 1 n)))) (all ∙ ap (λ (q : Params). q.numbers) same)
    ∙ ap (agreed_lines hand 1) (list_is d sizes pool)
