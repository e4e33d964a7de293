-- The tests of a frame decide whether it is valid.
use Rattle.std.proofs.Common.{ℕ, zero, suc, ◌+◌, ◌<◌, ◌≤◌, ◌≡◌, ◌∙◌, refl, sym, ap, subst, arith, Bool, true, false, List, [], ◌∷◌, Option, Some, None, inl, inr}
use Rattle.std.specs.Bool.{Decides}
use Rattle.std.specs.List.{list_all, All}
use Rattle.std.specs.Prelude.{IfSome, IfNone, option_map}
use Rattle.std.proofs.lemmas.Bool.{and_from, and_parts, cases_Bool, cases_eq}
use Rattle.std.proofs.lemmas.List.Elements.{All-nil, All-cons, All-head, All-tail}
use Rattle.std.proofs.lemmas.Slice.Eq.{bytes_eq-Decides}
use Rattle.fw_list.specs.Lists.{numbers_from}
use Rattle.fw_base.specs.declared.params.Params.{Params}
use Rattle.fw_base.specs.declared.seat.Seat.{Seat}
use Rattle.fw_base.specs.Seats.{fits, linked}
use Rattle.fw_text.specs.Texts.{hash}
use Rattle.fw_frame.specs.declared.frame.Frame.{Frame}
use Rattle.fw_frame.specs.Frames.{PlainFrame}
use Rattle.fw_frame.specs.Parts.{PlainPart, digested_parts}
use Rattle.fw_frame.specs.Plain.{plain}
use Rattle.fw_frame.specs.Undoing.{frame_in}
use Rattle.fw_frame.specs.View.{viewed}
use Rattle.fw_directory.specs.Directories.{PlainDirectory}
use Rattle.fw_valid.specs.Validity.{IsValidPart, IsValidFrame}
use Rattle.fw_means.specs.Means.{is_listed, is_valid_part, is_valid, valid_in, admitted_by}

-- what passes at each of some numbers passes at all of them
pub tests_from : (test : ℕ → Bool) (first count : ℕ) → ((b : ℕ) → first ≤ b → b < first + count → test b ≡ true) → list_all test (numbers_from first count) ≡ true
tests_from test first zero each = refl
tests_from test first (suc count) each =
    and_from (test first) (list_all test (numbers_from (first + 1) count)) (each first (omega arith) (omega arith))
    (tests_from test (first + 1) count (λ b low below. each b (omega arith) (omega arith)))

-- and the other way round
pub tests_at : (test : ℕ → Bool) (first count : ℕ) → list_all test (numbers_from first count) ≡ true → (b : ℕ) → first ≤ b → b < first + count → test b ≡ true
tests_at test first zero passed b low below = absurd (omega arith)
tests_at test first (suc count) passed b low below =
    let parts = and_parts (test first) (list_all test (numbers_from (first + 1) count)) passed in
    elim (cases_eq b first) [
      | inl same ↦ subst (λ k. test k ≡ true) (sym same) parts.0
      | inr other ↦ tests_at test (first + 1) count parts.1 b (omega arith) (omega arith)
    ]

-- a test that decides of each item decides of a list
pub all_decided : {X : Type 0} (test : X → Bool) (P : X → Type 0) → ((x : X) → Decides (test x) (P x)) → (xs : List X) → Decides (list_all test xs) (All P xs)
all_decided test P each [] = (λ passed. All-nil P, λ all. refl)
all_decided test P each (x ∷ xs) =
    let rest = all_decided test P each xs in (
      λ passed. let parts = and_parts (test x) (list_all test xs) passed in All-cons P x xs ((each x).0 parts.0) (rest.0 parts.1),
      λ all. and_from (test x) (list_all test xs) ((each x).1 (All-head P x xs all)) (rest.1 (All-tail P x xs all)),
    )

pub part_decided : (d : PlainDirectory) (part : PlainPart) → Decides (is_valid_part d part) (IsValidPart d part)
part_decided d part = (
  λ passed b below. (bytes_eq-Decides _ _).0 (tests_at (is_listed d part) 0 256 passed b (omega arith) (omega arith)),
  λ valid. tests_from (is_listed d part) 0 256 (λ b low below. (bytes_eq-Decides _ _).1 (valid b (omega arith))),
)

pub frame_decided : (d : PlainDirectory) (frame : PlainFrame) → Decides (is_valid d frame) (IsValidFrame d frame)
frame_decided d frame = all_decided (is_valid_part d) (IsValidPart d) (part_decided d) (digested_parts d.params hash frame)

-- ---- what bytes give

pub valid_none : (d : PlainDirectory) (bytes : List ℕ) → frame_in d.params bytes ≡ None → valid_in d bytes ≡ None
valid_none d bytes none = rw none refl

pub valid_some : (d : PlainDirectory) (bytes : List ℕ) (frame : PlainFrame) → frame_in d.params bytes ≡ Some frame → IsValidFrame d frame → valid_in d bytes ≡ Some (viewed frame)
valid_some d bytes frame found valid =
    let passed : is_valid d frame ≡ true = (frame_decided d frame).1 valid in
    rw (found, passed) refl

pub valid_not : (d : PlainDirectory) (bytes : List ℕ) (frame : PlainFrame) → frame_in d.params bytes ≡ Some frame → ¬ IsValidFrame d frame → valid_in d bytes ≡ None
valid_not d bytes frame found wrong = elim (cases_Bool (is_valid d frame)) [
  | inl passed ↦ absurd (wrong ((frame_decided d frame).0 passed))
  | inr failed ↦ rw (found, failed) refl
]

-- ---- what bytes from a seat give, by what was found of the directory's sizes

pub from_unfit : (d : PlainDirectory) (p : Params) (own from : Seat) (bytes : List ℕ) → p ≡ d.params → false ≡ fits p from → None ≡ admitted_by d own from bytes
from_unfit d p own from bytes same unfit =
    let is : fits d.params from ≡ false = ap (λ (q : Params). fits q from) (sym same) ∙ sym unfit in
    rw is refl

pub from_apart : (d : PlainDirectory) (p : Params) (own from : Seat) (bytes : List ℕ) → p ≡ d.params → true ≡ fits p from → false ≡ linked p from own → None ≡ admitted_by d own from bytes
from_apart d p own from bytes same fit apart =
    let is : fits d.params from ≡ true = ap (λ (q : Params). fits q from) (sym same) ∙ sym fit in
    let link : linked d.params from own ≡ false = ap (λ (q : Params). linked q from own) (sym same) ∙ sym apart in
    rw (is, link) refl

pub from_linked : (d : PlainDirectory) (p : Params) (own from : Seat) (bytes : List ℕ) → p ≡ d.params → true ≡ fits p from → true ≡ linked p from own → valid_in d bytes ≡ admitted_by d own from bytes
from_linked d p own from bytes same fit together =
    let is : fits d.params from ≡ true = ap (λ (q : Params). fits q from) (sym same) ∙ sym fit in
    let link : linked d.params from own ≡ true = ap (λ (q : Params). linked q from own) (sym same) ∙ sym together in
    rw (is, link) refl

-- the frame that was read
pub read_is : (d : PlainDirectory) (p : Params) (bytes : List ℕ) (read : Option Frame) → p ≡ d.params → option_map plain read ≡ frame_in p bytes → frame_in d.params bytes ≡ option_map plain read
read_is d p bytes read same is = ap (λ (q : Params). frame_in q bytes) (sym same) ∙ sym is

-- a frame that was checked
pub checked_is : (d : PlainDirectory) (bytes : List ℕ) (frame : Frame) (checked : Option Frame) → frame_in d.params bytes ≡ Some (plain frame)
    → IfSome checked (λ c. (c ≡ frame) × IsValidFrame d (plain frame)) → IfNone checked (¬ IsValidFrame d (plain frame)) → option_map (λ c. viewed (plain c)) checked ≡ valid_in d bytes
checked_is d bytes frame None found valid wrong = sym (valid_not d bytes (plain frame) found wrong)
checked_is d bytes frame (Some c) found valid wrong = ap (λ (f : Frame). Some (viewed (plain f))) valid.0 ∙ sym (valid_some d bytes (plain frame) found valid.1)
