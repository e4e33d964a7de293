-- A node's first change to a view after a change more, and who sent changes for a view or for more.
use Rattle.std.proofs.Common.{◌≡◌, ℕ, zero, suc, ◌-◌, ◌<◌, List, [], ◌∷◌, ◌++◌, Bool, true, false, ◌&&◌, not, nat_eq, nat_lt, nat_le, map, length, filter, get_or, Option, Some, None, refl, sym, ap, ◌∙◌, inl, inr}
use Rattle.std.specs.Prelude.{Result, Ok, Err, ⊤, OnOk, All, is_some, if◌then◌else◌}
use Rattle.std.specs.Result.{is_err}
use Rattle.std.specs.List.{find, list_any}
use Rattle.std.specs.Option.{option_map}
use Rattle.std.proofs.lemmas.Bool.{cases_Bool}
use Rattle.std.proofs.lemmas.List.Elements.{All-nil, All-cons, All-append}
use Rattle.fw_list.specs.declared.memory.Memory.{Memory}
use Rattle.fw_list.specs.Lists.{numbers_from}
use Rattle.fw_base.specs.declared.params.Params.{Params}
use Rattle.fw_base.specs.Sizes.{agreements}
use Rattle.fw_frame.specs.View.{Changes}
use Rattle.fw_means.specs.Means.{when, written}
use Rattle.fw_rules.specs.Choices.{first_some}
use Rattle.fw_rules.specs.Agree.{Node, Self}
use Rattle.fw_view.specs.Counted.{Counted, frame_of, frame_with, calls_for, join}
use Rattle.fw_view.specs.Counted as counts
use Rattle.fw_view.proofs.Senders.{each_view, any_same}
use Rattle.fw_rules.specs.Views.{Turn, Start, joins_at, joins}
use Rattle.fw_rules.specs.Views as rule
use Rattle.fw_owned.specs.declared.owned.OwnedChange.{OwnedChange}
use Rattle.fw_owned.specs.Pieces.{change_of}
use Rattle.fw_owned.proofs.Found.{any_map, mapped_some}
use Rattle.fw_heard.specs.Changed.{AreCounted, first_of}

-- ---- changes in a list

-- the frame of a change
abbrev pub frame_for : OwnedChange → List ℕ
frame_for c = written (Changes (change_of c))

stays : (frame : List ℕ) (b : Bool) (o : Option (List ℕ)) → is_some o ≡ true → o ≡ (if b && not (is_some o) then Some frame else o)
stays frame true (Some f) e = refl
stays frame false (Some f) e = refl
stays frame b None e = absurd (let no : ⊥ = cc in no)

-- one more at the end is found where none was
find_more : (p : OwnedChange → Bool) (changes : List OwnedChange) (c : OwnedChange)
    → option_map frame_for (find p (changes ++ c ∷ [])) ≡ (if p c && not (is_some (option_map frame_for (find p changes))) then Some (frame_for c) else option_map frame_for (find p changes))
find_more p [] c = elim (cases_Bool (p c)) [ inl is ↦ rw is refl | inr other ↦ rw other refl ]
find_more p (k ∷ changes) c = elim (cases_Bool (p k)) [
  | inl is ↦ rw is (stays (frame_for c) (p c) (Some (frame_for k)) refl)
  | inr other ↦ rw other (find_more p changes c)
]

-- one change more is counted
pub more_counted : (old new : Counted) (changes : List OwnedChange) (c : OwnedChange) → AreCounted old changes → ((view agree : ℕ) → frame_of new view agree ≡ frame_with old c.view c.agree (frame_for c) view agree) → AreCounted new (changes ++ c ∷ [])
more_counted old new changes c all one view agree =
    one view agree
    ∙ ap (λ (o : Option (List ℕ)). if nat_eq c.view view && nat_eq c.agree agree && not (is_some o) then Some (frame_for c) else o) (all view agree)
    ∙ sym (find_more (λ k. nat_eq k.view view && nat_eq k.agree agree) changes c)

-- ---- who sent changes

any_some : (p : OwnedChange → Bool) (changes : List OwnedChange) → list_any p changes ≡ is_some (find p changes)
any_some p [] = refl
any_some p (k ∷ changes) = elim (cases_Bool (p k)) [ inl is ↦ rw is refl | inr other ↦ rw other (any_some p changes) ]

-- a change to a view stands in the list where the count has its frame
one_view : (t : Counted) (changes : List OwnedChange) → AreCounted t changes → (i v : ℕ) → list_any (λ k. nat_eq k.view v && nat_eq k.agree i) changes ≡ is_some (frame_of t v i)
one_view t changes all i v =
    any_some (λ k. nat_eq k.view v && nat_eq k.agree i) changes
    ∙ sym (mapped_some frame_for (first_of changes v i))
    ∙ ap is_some (sym (all v i))

-- for a view or for more, by the count and by the rule
same_sent : (t : Counted) (changes : List OwnedChange) → AreCounted t changes → All (λ k. k.view < t.params.views) changes → (x : Node) → x.heard.changes ≡ map change_of changes → (w i : ℕ) → counts.sent_for t w i ≡ rule.sent_for x w i
same_sent t changes all below x heard w i =
    let views : ℕ = t.params.views in
    let each : list_any (λ k. nat_eq k.agree i && nat_le w k.view) changes ≡ list_any (λ v. list_any (λ (k : OwnedChange). nat_eq k.view v && nat_eq k.agree i) changes) (numbers_from w (views - w)) = each_view (λ (k : OwnedChange). k.view) (λ (k : OwnedChange). k.agree) changes views w i below in
    sym (each ∙ any_same (λ v. list_any (λ (k : OwnedChange). nat_eq k.view v && nat_eq k.agree i) changes) (λ v. is_some (frame_of t v i)) (one_view t changes all i) (numbers_from w (views - w)))
    ∙ any_map change_of (λ c. nat_eq c.agree i && nat_le w c.view) changes
    ∙ ap (list_any (λ c. nat_eq c.agree i && nat_le w c.view)) (sym heard)

-- ---- views that are called for

filter_same : (p q : ℕ → Bool) → ((n : ℕ) → p n ≡ q n) → (ns : List ℕ) → filter p ns ≡ filter q ns
filter_same p q same [] = refl
filter_same p q same (n ∷ ns) = elim (cases_Bool (q n)) [
  | inl is ↦
      let first : p n ≡ true = same n ∙ is in
      rw (first, is) (ap (λ (rest : List ℕ). n ∷ rest) (filter_same p q same ns))
  | inr other ↦
      let first : p n ≡ false = same n ∙ other in
      rw (first, other) (filter_same p q same ns)
]

-- whether the view is joined
abbrev called : ℕ → ℕ → Params → List ℕ → Option Turn
called own w p others = when (nat_lt own w && nat_lt p.f (length others)) (Some (Start w))

same_at : (t : Counted) (changes : List OwnedChange) → AreCounted t changes → All (λ k. k.view < t.params.views) changes → (me : Self (List ℕ)) (x : Node) → me.means.params ≡ t.params → x.heard.changes ≡ map change_of changes → (w : ℕ)
    → joins_at me x w ≡ when (calls_for t x.own.view me.own w) (Some (Start w))
same_at t changes all below me x sizes heard w =
    ap (λ (p : Params). called x.own.view w p (filter (λ i. not (nat_eq i me.own) && rule.sent_for x w i) (numbers_from 0 (agreements p)))) sizes
    ∙ ap (called x.own.view w t.params) (sym (filter_same (λ i. not (nat_eq i me.own) && counts.sent_for t w i) (λ i. not (nat_eq i me.own) && rule.sent_for x w i) (λ i. ap (λ b. not (nat_eq i me.own) && b) (same_sent t changes all below x heard w i)) (numbers_from 0 (agreements t.params))))

found_step : (w : ℕ) (o : Option ℕ) (rest f : Option Turn) (b : Bool) → f ≡ when b (Some (Start w)) → option_map Start o ≡ rest → option_map Start (if b then Some w else o) ≡ elim f [ Some y ↦ Some y | None ↦ rest ]
found_step w o rest f true e more = rw e refl
found_step w o rest f false e more = rw e more

-- from the greatest view down
found_down : (p : ℕ → Bool) (f : ℕ → Option Turn) → ((w : ℕ) → f w ≡ when (p w) (Some (Start w))) → (n : ℕ) → option_map Start (find p (counts.views_down n)) ≡ first_some f (rule.views_down n)
found_down p f is zero = refl
found_down p f is (suc n) = found_step n (find p (counts.views_down n)) (first_some f (rule.views_down n)) (f n) (p n) (is n) (found_down p f is n)

-- the view to join of the count is that of the rule
pub same_join : (t : Counted) (changes : List OwnedChange) → AreCounted t changes → All (λ k. k.view < t.params.views) changes → (me : Self (List ℕ)) (x : Node) → me.means.params ≡ t.params → x.heard.changes ≡ map change_of changes
    → option_map Start (join t x.own.view me.own) ≡ joins me x
same_join t changes all below me x sizes heard =
    found_down (calls_for t x.own.view me.own) (joins_at me x) (same_at t changes all below me x sizes heard) t.params.views
    ∙ ap (λ (p : Params). first_some (joins_at me x) (rule.views_down p.views)) (sym sizes)

-- ---- a change at the end of a list

pub last_of : (changes : List OwnedChange) (c d : OwnedChange) → get_or (changes ++ c ∷ []) (length changes) d ≡ c
last_of [] c d = refl
last_of (k ∷ changes) c d = last_of changes c d

pub if_ok : (r : Result ⊤ Memory) (P : Type 0) → is_err r ≡ false → OnOk r P → P
if_ok (Ok x) P e kept = kept
if_ok (Err why) P e kept = absurd (let no : ⊥ = cc in no)

pub all_more : (p : Params) (changes : List OwnedChange) (c : OwnedChange) → All (λ k. k.view < p.views) changes → c.view < p.views → All (λ k. k.view < p.views) (changes ++ c ∷ [])
all_more p changes c all below =
    All-append (λ (k : OwnedChange). k.view < p.views) changes (c ∷ []) all (All-cons (λ (k : OwnedChange). k.view < p.views) c [] below (All-nil (λ (k : OwnedChange). k.view < p.views)))
