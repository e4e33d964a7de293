-- The spelling of texts is one to one, for all kinds and across kinds.
use Rattle.std.proofs.Common.{◌≡◌, ℕ, zero, suc, Bool, true, ◌&&◌, nat_lt, nat_le, List, [], ◌∷◌, ◌++◌, length, refl, sym, ap, ◌∙◌, arith, append_assoc, append-nil}
use Rattle.std.specs.Prelude.{flat_map, if◌then◌else◌}
use Rattle.std.specs.List.{list_all}
use Rattle.std.proofs.lemmas.Bool.{leb-true, and_parts}
use Rattle.fw_base.specs.declared.slot.Slot.{Slot}
use Rattle.fw_base.specs.declared.slot.Slot.TheVariants as slots
use Rattle.fw_base.specs.declared.slot.Place.{Place}
use Rattle.fw_base.specs.Places.{slot_name}
use Rattle.fw_list.specs.Numbers.{u32}
use Rattle.fw_text.specs.Texts.{Text, Value, Asked, Nothing, Voted, Changed, Begun, Answered, Listed, Heading, text_bytes, vote_tag, place_bytes, listed_bytes, heading_bytes}
use Rattle.fw_law_text.specs.OneText.{number_fits, place_numbers, listed_fits, heading_fits, text_fits, OneText}
use Rattle.fw_law_text.proofs.Fronts.{IsKnown, items_known, number_known, pair_known, listed_known, heading_known}

-- ---- kinds

abbrev tag_of : Text → ℕ
tag_of (Value place value) = 1
tag_of (Asked client stamp body) = 16
tag_of Nothing = 17
tag_of (Voted phase view number digest) = vote_tag phase
tag_of (Changed view agree proofs) = 20
tag_of (Begun view changes) = 21
tag_of (Answered number client stamp body) = 22

-- the bytes behind the tag
abbrev rest_of : Text → List ℕ
rest_of (Value place value) = place_bytes place ++ value
rest_of (Asked client stamp body) = u32 client ++ u32 stamp ++ body
rest_of Nothing = []
rest_of (Voted phase view number digest) = u32 view ++ u32 number ++ digest
rest_of (Changed view agree proofs) = u32 view ++ u32 agree ++ u32 (length proofs) ++ flat_map listed_bytes proofs
rest_of (Begun view changes) = u32 view ++ u32 (length changes) ++ flat_map heading_bytes changes
rest_of (Answered number client stamp body) = u32 number ++ u32 client ++ u32 stamp ++ body

spelled : (x : Text) → text_bytes x ≡ tag_of x ∷ rest_of x
unfolding text_bytes
spelled (Value place value) = refl
spelled (Asked client stamp body) = refl
spelled Nothing = refl
spelled (Voted phase view number digest) = refl
spelled (Changed view agree proofs) = refl
spelled (Begun view changes) = refl
spelled (Answered number client stamp body) = refl

abbrev kind_of : Text → ℕ
kind_of (Value place value) = 0
kind_of (Asked client stamp body) = 1
kind_of Nothing = 2
kind_of (Voted phase view number digest) = 3
kind_of (Changed view agree proofs) = 4
kind_of (Begun view changes) = 5
kind_of (Answered number client stamp body) = 6

-- a tag tells the kind
abbrev kind_at : ℕ → ℕ
kind_at tag =
    if nat_lt tag 16 then 0 else (if nat_lt tag 17 then 1 else (if nat_lt tag 18 then 2 else (if nat_lt tag 20 then 3 else (if nat_lt tag 21 then 4 else (if nat_lt tag 22 then 5 else 6)))))

kind_there : (x : Text) → kind_at (tag_of x) ≡ kind_of x
kind_there (Value place value) = refl
kind_there (Asked client stamp body) = refl
kind_there Nothing = refl
kind_there (Voted zero view number digest) = refl
kind_there (Voted (suc k) view number digest) = refl
kind_there (Changed view agree proofs) = refl
kind_there (Begun view changes) = refl
kind_there (Answered number client stamp body) = refl

head_is : (x y : ℕ) (xs ys : List ℕ) → x ∷ xs ≡ y ∷ ys → (x ≡ y) × (xs ≡ ys)
head_is x y xs ys e = (cc, cc)

-- ---- places

-- a slot, from its kind and its numbers
abbrev slot_of : ℕ → ℕ → ℕ → ℕ → Slot
slot_of zero a b c = slots.Reply a
slot_of (suc zero) a b c = slots.Prepare a b c
slot_of (suc (suc zero)) a b c = slots.Commit a b c
slot_of (suc (suc (suc zero))) a b c = slots.Change a b
slot_of (suc (suc (suc (suc zero)))) a b c = slots.NewView a b
slot_of (suc (suc (suc (suc (suc zero))))) a b c = slots.Request a b
slot_of (suc (suc (suc (suc (suc (suc k)))))) a b c = slots.Reply a

named : (s : Slot) → slot_of (slot_name s).kind (slot_name s).a (slot_name s).b (slot_name s).c ≡ s
named (slots.Prepare v n i) = refl
named (slots.Commit v n i) = refl
named (slots.Change v i) = refl
named (slots.NewView v i) = refl
named (slots.Request c s) = refl
named (slots.Reply n) = refl

abbrev made : Slot → ℕ → ℕ → ℕ → Place
made slot bit side point = record { slot = slot; bit = bit; side = side; point = point }

abbrev place_of : ℕ → List ℕ → Place
place_of kind (a ∷ b ∷ c ∷ bit ∷ side ∷ point ∷ more) = made (slot_of kind a b c) bit side point
place_of kind _ = made (slots.Reply 0) 0 0 0

place_there : (place : Place) → place_of (slot_name place.slot).kind (place_numbers place) ≡ place
place_there place = ap (λ (s : Slot). made s place.bit place.side place.point) (named place.slot)

place_known : (p q : Place) (r s : List ℕ) → list_all number_fits (place_numbers p) ≡ true → list_all number_fits (place_numbers q) ≡ true → place_bytes p ++ r ≡ place_bytes q ++ s → (p ≡ q) × (r ≡ s)
place_known p q r s f g e =
    let parts = head_is (slot_name p.slot).kind (slot_name q.slot).kind (flat_map u32 (place_numbers p) ++ r) (flat_map u32 (place_numbers q) ++ s) e in
    let numbers = items_known u32 number_fits number_known (place_numbers p) (place_numbers q) r s f g refl parts.1 in
    (sym (place_there p) ∙ ap (λ (k : ℕ). place_of k (place_numbers p)) parts.0 ∙ ap (place_of (slot_name q.slot).kind) numbers.0 ∙ place_there q, numbers.1)

-- ---- texts of one kind

same_phase : (p q : ℕ) → nat_le p 1 ≡ true → nat_le q 1 ≡ true → vote_tag p ≡ vote_tag q → p ≡ q
same_phase zero zero f g t = refl
same_phase zero (suc k) f g t = absurd (omega arith)
same_phase (suc j) zero f g t = absurd (omega arith)
same_phase (suc j) (suc k) f g t = omega (arith, leb-true (suc j) 1 f, leb-true (suc k) 1 g)

-- a list that stands at the end
list_known : {X : Type 0} (spelled : X → List ℕ) (fits : X → Bool) → IsKnown spelled fits → (xs ys : List X) → list_all fits xs ≡ true → list_all fits ys ≡ true → length xs ≡ length ys → flat_map spelled xs ≡ flat_map spelled ys → xs ≡ ys
list_known spelled fits known xs ys f g l e =
    (items_known spelled fits known xs ys [] [] f g l (append-nil (flat_map spelled xs) ∙ e ∙ sym (append-nil (flat_map spelled ys)))).0

three : (a b c : Bool) → (a && b && c) ≡ true → (a ≡ true) × (b ≡ true) × (c ≡ true)
three a b c fits = let outer = and_parts (a && b) c fits in let inner = and_parts a b outer.0 in (inner.0, inner.1, outer.1)

same_vote : (p v n q w m : ℕ) (d e : List ℕ) → text_fits (Voted p v n d) ≡ true → text_fits (Voted q w m e) ≡ true → vote_tag p ≡ vote_tag q → u32 v ++ u32 n ++ d ≡ u32 w ++ u32 m ++ e → Voted p v n d ≡ Voted q w m e
same_vote p v n q w m d e f g t same =
    let one = three (nat_le p 1) (number_fits v) (number_fits n) f in
    let other = three (nat_le q 1) (number_fits w) (number_fits m) g in
    let parts = pair_known v n w m d e one.1 one.2 other.1 other.2 same in
    ap (λ z. Voted z v n d) (same_phase p q one.0 other.0 t) ∙ ap (λ z. Voted q z n d) parts.0 ∙ ap (λ z. Voted q w z d) parts.1 ∙ ap (λ z. Voted q w m z) parts.2

same_change : (v i w j : ℕ) (ls ms : List Listed) → text_fits (Changed v i ls) ≡ true → text_fits (Changed w j ms) ≡ true → rest_of (Changed v i ls) ≡ rest_of (Changed w j ms) → Changed v i ls ≡ Changed w j ms
same_change v i w j ls ms f g same =
    let one = and_parts (number_fits v && number_fits i && number_fits (length ls)) (list_all listed_fits ls) f in
    let numbers = three (number_fits v) (number_fits i) (number_fits (length ls)) one.0 in
    let other = and_parts (number_fits w && number_fits j && number_fits (length ms)) (list_all listed_fits ms) g in
    let others = three (number_fits w) (number_fits j) (number_fits (length ms)) other.0 in
    let flat = sym (append_assoc (u32 v ++ u32 i) (u32 (length ls)) (flat_map listed_bytes ls)) ∙ same ∙ append_assoc (u32 w ++ u32 j) (u32 (length ms)) (flat_map listed_bytes ms) in
    let parts = pair_known v i w j (u32 (length ls) ++ flat_map listed_bytes ls) (u32 (length ms) ++ flat_map listed_bytes ms) numbers.0 numbers.1 others.0 others.1 flat in
    let count = number_known (length ls) (length ms) (flat_map listed_bytes ls) (flat_map listed_bytes ms) numbers.2 others.2 parts.2 in
    let list = list_known listed_bytes listed_fits listed_known ls ms one.1 other.1 count.0 count.1 in
    ap (λ z. Changed z i ls) parts.0 ∙ ap (λ z. Changed w z ls) parts.1 ∙ ap (λ z. Changed w j z) list

same_start : (v w : ℕ) (hs ks : List Heading) → text_fits (Begun v hs) ≡ true → text_fits (Begun w ks) ≡ true → rest_of (Begun v hs) ≡ rest_of (Begun w ks) → Begun v hs ≡ Begun w ks
same_start v w hs ks f g same =
    let one = three (number_fits v) (number_fits (length hs)) (list_all heading_fits hs) f in
    let other = three (number_fits w) (number_fits (length ks)) (list_all heading_fits ks) g in
    let parts = pair_known v (length hs) w (length ks) (flat_map heading_bytes hs) (flat_map heading_bytes ks) one.0 one.1 other.0 other.1 same in
    let list = list_known heading_bytes heading_fits heading_known hs ks one.2 other.2 parts.1 parts.2 in
    ap (λ z. Begun z hs) parts.0 ∙ ap (λ z. Begun w z) list

same_answer : (n c s m d t : ℕ) (b e : List ℕ) → text_fits (Answered n c s b) ≡ true → text_fits (Answered m d t e) ≡ true → rest_of (Answered n c s b) ≡ rest_of (Answered m d t e) → Answered n c s b ≡ Answered m d t e
same_answer n c s m d t b e f g same =
    let one = three (number_fits n) (number_fits c) (number_fits s) f in
    let other = three (number_fits m) (number_fits d) (number_fits t) g in
    let flat = sym (append_assoc (u32 n ++ u32 c) (u32 s) b) ∙ same ∙ append_assoc (u32 m ++ u32 d) (u32 t) e in
    let parts = pair_known n c m d (u32 s ++ b) (u32 t ++ e) one.0 one.1 other.0 other.1 flat in
    let stamp = number_known s t b e one.2 other.2 parts.2 in
    ap (λ z. Answered z c s b) parts.0 ∙ ap (λ z. Answered m z s b) parts.1 ∙ ap (λ z. Answered m d z b) stamp.0 ∙ ap (λ z. Answered m d t z) stamp.1

same_request : (c s d t : ℕ) (b e : List ℕ) → text_fits (Asked c s b) ≡ true → text_fits (Asked d t e) ≡ true → rest_of (Asked c s b) ≡ rest_of (Asked d t e) → Asked c s b ≡ Asked d t e
same_request c s d t b e f g same =
    let one = and_parts (number_fits c) (number_fits s) f in
    let other = and_parts (number_fits d) (number_fits t) g in
    let parts = pair_known c s d t b e one.0 one.1 other.0 other.1 same in
    ap (λ z. Asked z s b) parts.0 ∙ ap (λ z. Asked d z b) parts.1 ∙ ap (λ z. Asked d t z) parts.2

same_value : (p q : Place) (v w : List ℕ) → text_fits (Value p v) ≡ true → text_fits (Value q w) ≡ true → rest_of (Value p v) ≡ rest_of (Value q w) → Value p v ≡ Value q w
same_value p q v w f g same =
    let parts = place_known p q v w f g same in
    ap (λ z. Value z v) parts.0 ∙ ap (λ z. Value q z) parts.1

-- ---- all texts

one_kind : (x y : Text) → text_fits x ≡ true → text_fits y ≡ true → kind_of x ≡ kind_of y → tag_of x ≡ tag_of y → rest_of x ≡ rest_of y → x ≡ y
one_kind (Value p v) (Value q w) f g k t e = same_value p q v w f g e
one_kind (Asked c s b) (Asked d u e) f g k t same = same_request c s d u b e f g same
one_kind Nothing Nothing f g k t e = refl
one_kind (Voted p v n d) (Voted q w m e) f g k t same = same_vote p v n q w m d e f g t same
one_kind (Changed v i ls) (Changed w j ms) f g k t e = same_change v i w j ls ms f g e
one_kind (Begun v hs) (Begun w ks) f g k t e = same_start v w hs ks f g e
one_kind (Answered n c s b) (Answered m d u e) f g k t same = same_answer n c s m d u b e f g same
one_kind x y f g k t e = absurd (omega arith)

pub one_text : OneText
one_text x y f g same =
    let parts = head_is (tag_of x) (tag_of y) (rest_of x) (rest_of y) (sym (spelled x) ∙ same ∙ spelled y) in
    one_kind x y f g (sym (kind_there x) ∙ ap kind_at parts.0 ∙ kind_there y) parts.0 parts.1
