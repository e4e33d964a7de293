-- A deal has one directory: each of its rows is one of a slot at a point, and so each digest is that of a place.
use Rattle.std.proofs.Common.{◌≡◌, ℕ, zero, suc, ◌+◌, ◌-◌, ◌*◌, ◌/◌, ◌%◌, ◌<◌, ◌≤◌, List, [], ◌∷◌, ◌++◌, length, take, drop, refl, sym, ap, ◌∙◌, arith, IsTrue, inl, inr, length-drop}
use Rattle.std.proofs.lemmas.List.{take-append-drop, drop-drop}
use Rattle.std.proofs.lemmas.Bool.{cases_lt, lt-ltb, le-leb, and_from}
use Rattle.std.proofs.Math.Nat.{div-lt_iff_lt-mul, mod-lt}
use Rattle.std.proofs.lemmas.Nat.{div-add-mod'}
use Rattle.fw_list.specs.Numbers.{within}
use Rattle.fw_list.specs.declared.limits.TheConstants.{ROW_LEN}
use Rattle.fw_base.specs.declared.params.Params.{Params}
use Rattle.fw_base.specs.declared.slot.Slot.{Slot}
use Rattle.fw_base.specs.declared.slot.Slot.TheVariants as slots
use Rattle.fw_base.specs.declared.slot.Place.{Place}
use Rattle.fw_base.specs.Sizes.{agreements, executors, keys}
use Rattle.fw_base.specs.Places.{slot_fits, last_point, place_fits, row_index, place_index, votes}
use Rattle.fw_text.specs.Bits.{value_at}
use Rattle.fw_text.specs.Texts.{hash, Value}
use Rattle.fw_secret.specs.Dealt.{Origin, dealt}
use Rattle.fw_directory.specs.Directories.{PlainDirectory, rows, digest_at}
use Rattle.fw_deal.specs.Deals.{IsDirectoryOf}

-- a place in lines of a width, by its line and its column
record InLines (place lines width : ℕ) : Type 0 where
  line : ℕ
  column : ℕ
  below : line < lines
  within : column < width
  whole : line * width + column ≡ place

in_lines : (place lines width : ℕ) → place < lines * width → InLines place lines width
in_lines place lines zero below = absurd (omega arith)
in_lines place lines (suc w) below = record {
  line = place / suc w;
  column = place % suc w;
  below = (div-lt_iff_lt-mul (omega arith)).1 below;
  within = mod-lt place (omega arith);
  whole = div-add-mod' place (suc w);
}

-- the slot and the point of a row
record RowOf (p : Params) (row : ℕ) : Type 0 where
  slot : Slot
  point : ℕ
  fits : IsTrue (slot_fits p slot)
  at : point ≤ last_point p slot
  index : row_index p slot point ≡ row

-- a number from 1 on, by the one before it
from_one : (n m : ℕ) → n < m → IsTrue (within 1 (n + 1) m)
from_one n m below = and_from _ _ (le-leb 1 (n + 1) (omega arith)) (le-leb (n + 1) m (omega arith))

-- the view, the number and the node of a row of votes
record VoteOf (p : Params) (row : ℕ) : Type 0 where
  view : ℕ
  before : ℕ
  agree : ℕ
  views : view < p.views
  numbers : before < p.numbers
  agrees : agree < agreements p
  index : (view * p.numbers + before) * agreements p + agree ≡ row

vote_of : (p : Params) (row : ℕ) → row < votes p → VoteOf p row
vote_of p row below =
    let line = in_lines row (p.views * p.numbers) (agreements p) below in
    let view = in_lines line.line p.views p.numbers line.below in
    record {
      view = view.line;
      before = view.column;
      agree = line.column;
      views = view.below;
      numbers = view.within;
      agrees = line.within;
      index = ap (λ l. l * agreements p + line.column) view.whole ∙ line.whole;
    }

one_back : (n : ℕ) → (n + 1) - 1 ≡ n
one_back n = omega arith

vote_fits : (p : Params) (row : ℕ) (v : VoteOf p row) → IsTrue (slot_fits p (slots.Prepare v.view (v.before + 1) v.agree))
vote_fits p row v = and_from _ _ (and_from _ _ (lt-ltb v.view p.views v.views) (from_one v.before p.numbers v.numbers)) (lt-ltb v.agree (agreements p) v.agrees)

vote_index : (p : Params) (row : ℕ) (v : VoteOf p row) → (v.view * p.numbers + ((v.before + 1) - 1)) * agreements p + v.agree ≡ row
vote_index p row v = ap (λ b. (v.view * p.numbers + b) * agreements p + v.agree) (one_back v.before) ∙ v.index

-- the same behind a start
moved : (start a row : ℕ) → start ≤ row → a ≡ row - start → start + a ≡ row
moved start a row from same = omega arith

moved_by : (start a b row : ℕ) → start ≤ row → a + b ≡ row - start → start + a + b ≡ row
moved_by start a b row from same = omega arith

prepare_row : (p : Params) (row : ℕ) → row < votes p → RowOf p row
prepare_row p row below =
    let v = vote_of p row below in
    record { slot = slots.Prepare v.view (v.before + 1) v.agree; point = 0; fits = vote_fits p row v; at = omega arith; index = vote_index p row v }

commit_row : (p : Params) (row : ℕ) → votes p ≤ row → row - votes p < votes p → RowOf p row
commit_row p row from below =
    let v = vote_of p (row - votes p) below in
    record {
      slot = slots.Commit v.view (v.before + 1) v.agree;
      point = 0;
      fits = vote_fits p (row - votes p) v;
      at = omega arith;
      index = moved_by (votes p) _ v.agree row from (vote_index p (row - votes p) v);
    }

change_row : (p : Params) (row : ℕ) → 2 * votes p ≤ row → row - 2 * votes p < p.views * agreements p → RowOf p row
change_row p row from below =
    let v = in_lines (row - 2 * votes p) p.views (agreements p) below in
    record {
      slot = slots.Change v.line v.column;
      point = 0;
      fits = and_from _ _ (lt-ltb v.line p.views v.below) (lt-ltb v.column (agreements p) v.within);
      at = omega arith;
      index = moved_by (2 * votes p) _ v.column row from v.whole;
    }

new_view_row : (p : Params) (row : ℕ) → 2 * votes p + p.views * agreements p ≤ row → row - (2 * votes p + p.views * agreements p) < p.views * agreements p → RowOf p row
new_view_row p row from below =
    let v = in_lines (row - (2 * votes p + p.views * agreements p)) p.views (agreements p) below in
    record {
      slot = slots.NewView v.line v.column;
      point = 0;
      fits = and_from _ _ (lt-ltb v.line p.views v.below) (lt-ltb v.column (agreements p) v.within);
      at = omega arith;
      index = moved_by (2 * votes p + p.views * agreements p) _ v.column row from v.whole;
    }

request_row : (p : Params) (row : ℕ) → 2 * votes p + 2 * (p.views * agreements p) ≤ row → row - (2 * votes p + 2 * (p.views * agreements p)) < p.clients * p.stamps → RowOf p row
request_row p row from below =
    let start = 2 * votes p + 2 * (p.views * agreements p) in
    let v = in_lines (row - start) p.clients p.stamps below in
    record {
      slot = slots.Request v.line (v.column + 1);
      point = 0;
      fits = and_from _ _ (lt-ltb v.line p.clients v.below) (from_one v.column p.stamps v.within);
      at = omega arith;
      index = ap (λ b. start + v.line * p.stamps + b) (one_back v.column) ∙ moved_by start _ v.column row from v.whole;
    }

reply_row : (p : Params) (row : ℕ) → keys p ≤ row → row - keys p < p.numbers * (executors p + 1) → RowOf p row
reply_row p row from below =
    let v = in_lines (row - keys p) p.numbers (executors p + 1) below in
    record {
      slot = slots.Reply (v.line + 1);
      point = v.column;
      fits = from_one v.line p.numbers v.below;
      at = omega (arith, v.within);
      index = ap (λ b. keys p + b * (executors p + 1) + v.column) (one_back v.line) ∙ moved_by (keys p) _ v.column row from v.whole;
    }

-- each row is one of a slot at a point
row_of : (p : Params) (row : ℕ) → row < rows p → RowOf p row
row_of p row below =
    let v : ℕ = votes p in
    let c : ℕ = p.views * agreements p in
    let r : ℕ = p.clients * p.stamps in
    elim (cases_lt row v) [
      | inl small ↦ prepare_row p row small
      | inr one ↦ elim (cases_lt row (2 * v)) [
        | inl small ↦ commit_row p row one (omega arith)
        | inr two ↦ elim (cases_lt row (2 * v + c)) [
          | inl small ↦ change_row p row two (omega arith)
          | inr three ↦ elim (cases_lt row (2 * v + 2 * c)) [
            | inl small ↦ new_view_row p row three (omega arith)
            | inr four ↦ elim (cases_lt row (2 * v + 2 * c + r)) [
              | inl small ↦ request_row p row four (omega arith)
              | inr five ↦ reply_row p row five (omega arith)
            ]
          ]
        ]
      ]
    ]

-- the place of an index
record PlaceOf (p : Params) (index : ℕ) : Type 0 where
  place : Place
  fits : IsTrue (place_fits p place)
  index_is : place_index p place ≡ index

place_of : (p : Params) (index : ℕ) → index < 512 * rows p → PlaceOf p index
place_of p index below =
    let row : ℕ = index / 512 in
    let k : ℕ = index % 512 in
    let r = row_of p row (omega arith) in
    record {
      place = record { slot = r.slot; bit = k / 2; side = k % 2; point = r.point };
      fits = and_from _ _ (and_from _ _ (and_from _ _ r.fits (lt-ltb (k / 2) 256 (omega arith))) (lt-ltb (k % 2) 2 (omega arith))) (and_from _ _ (le-leb 0 r.point (omega arith)) (le-leb r.point (last_point p r.slot) r.at));
      index_is = ap (λ x. x * 512 + 2 * (k / 2) + k % 2) r.index ∙ (let whole : row * 512 + 2 * (k / 2) + k % 2 ≡ index = omega arith in whole);
    }

-- lists of so many values are one where each value is
one_list : (n : ℕ) (xs ys : List ℕ) → length xs ≡ 32 * n → length ys ≡ 32 * n → ((k : ℕ) → k < n → value_at xs k ≡ value_at ys k) → xs ≡ ys
one_list zero [] [] long wide each = refl
one_list zero (x ∷ xs) ys long wide each = absurd (omega arith)
one_list zero [] (y ∷ ys) long wide each = absurd (omega arith)
one_list (suc n) xs ys long wide each =
    let first : take 32 xs ≡ take 32 ys = each 0 (omega arith) in
    let next : (k : ℕ) → k < n → value_at (drop 32 xs) k ≡ value_at (drop 32 ys) k = λ k below. shifted xs k ∙ each (k + 1) (omega arith) ∙ sym (shifted ys k) in
    let rest : drop 32 xs ≡ drop 32 ys = one_list n (drop 32 xs) (drop 32 ys) (omega (arith, length-drop 32 xs)) (omega (arith, length-drop 32 ys)) next in
    sym (take-append-drop 32 xs) ∙ ap (λ front. front ++ drop 32 xs) first ∙ ap (λ back. take 32 ys ++ back) rest ∙ take-append-drop 32 ys
  where
    shifted : (zs : List ℕ) (k : ℕ) → value_at (drop 32 zs) k ≡ value_at zs (k + 1)
    shifted zs k =
        let place : 32 + 32 * k ≡ 32 * (k + 1) = omega arith in
        ap (take 32) (drop-drop (32 * k) 32 zs) ∙ ap (λ n. take 32 (drop n zs)) place

-- with the same sizes
same_digests : (o : Origin) (d e : PlainDirectory) → IsDirectoryOf o d → IsDirectoryOf o e → d.digests ≡ e.digests
same_digests o d e one other =
    one_list (512 * rows o.params) d.digests e.digests
    (one.whole.whole ∙ ap (λ p. ROW_LEN * rows p) one.sizes ∙ (let whole : ROW_LEN * rows o.params ≡ 32 * (512 * rows o.params) = omega arith in whole))
    (other.whole.whole ∙ ap (λ p. ROW_LEN * rows p) other.sizes ∙ (let whole : ROW_LEN * rows o.params ≡ 32 * (512 * rows o.params) = omega arith in whole))
    (λ k below.
    let at = place_of o.params k below in
    ap (value_at d.digests) (sym at.index_is ∙ ap (λ p. place_index p at.place) (sym one.sizes))
    ∙ one.each at.place at.fits ∙ sym (other.each at.place at.fits)
    ∙ ap (value_at e.digests) (ap (λ p. place_index p at.place) other.sizes ∙ at.index_is))

pub one_directory : (o : Origin) (d e : PlainDirectory) → IsDirectoryOf o d → IsDirectoryOf o e → d ≡ e
one_directory o d e one other =
    ap (λ p. made p d.digests) (one.sizes ∙ sym other.sizes) ∙ ap (made e.params) (same_digests o d e one other)
  where
    made : Params → List ℕ → PlainDirectory
    made p digests = record { params = p; digests = digests }
