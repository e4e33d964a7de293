-- How checks of pieces, one behind the other, are a check of all.
use Rattle.std.proofs.Common.{ℕ, suc, ◌+◌, ◌*◌, ◌<◌, ◌≤◌, ◌≡◌, ◌∙◌, refl, sym, ap, subst, arith, Bool, true, false, List, [], ◌∷◌, ◌++◌, length, take, drop, map, All, IsTrue, length-append}
use Rattle.std.specs.Prelude.{◌↔◌, flat_map}
use Rattle.std.proofs.Math.Nat.{mul-add, mul-le-mul_right}
use Rattle.std.proofs.lemmas.Bool.{both_ways}
use Rattle.std.proofs.lemmas.List.{map-append, take_at, drop_at}
use Rattle.std.proofs.lemmas.List.Elements.{All-nil, All-cons, All-head, All-append, All-same, All-take, All-drop}
use Rattle.std.proofs.lemmas.Grind.{flat_map-append}
use Rattle.fw_base.specs.declared.slot.Slot.{Slot}
use Rattle.fw_base.specs.declared.slot.Slot.TheVariants as slots
use Rattle.fw_text.specs.Texts.{Text, Voted, hash}
use Rattle.fw_lamport.specs.Signature.{IsValid}
use Rattle.fw_frame.specs.Frames.{PlainSigner, PlainChange}
use Rattle.fw_frame.specs.Parts.{Piece, Signed, Unsigned, PlainPart, digested, part_of, proof_pieces, change_pieces, change_text, signature, vote_slot, signer_piece, signer_pieces}
use Rattle.fw_directory.specs.Directories.{PlainDirectory, row_at}
use Rattle.fw_valid.specs.Validity.{IsValidPart}
use Rattle.fw_valid.specs.Checks.{Checks, parts_in}

-- ---- the parts of pieces

pub parts_in-append : (xs ys : List Piece) → parts_in (xs ++ ys) ≡ parts_in xs ++ parts_in ys
parts_in-append xs ys = ap (map (digested hash)) (flat_map-append part_of xs ys) ∙ map-append (digested hash) (flat_map part_of xs) (flat_map part_of ys)

pub count-append : (xs ys : List Piece) → length (parts_in (xs ++ ys)) ≡ length (parts_in xs) + length (parts_in ys)
count-append xs ys = ap length (parts_in-append xs ys) ∙ length-append (parts_in xs) (parts_in ys)

-- each view change has a part, which is its own signature
pub count-changes : (cs : List PlainChange) → length cs ≤ length (parts_in (flat_map (change_pieces hash) cs))
count-changes [] = omega arith
count-changes (c ∷ cs) =
    let whole : length (parts_in (change_pieces hash c ++ flat_map (change_pieces hash) cs)) ≡ length (parts_in (change_pieces hash c)) + length (parts_in (flat_map (change_pieces hash) cs)) =
    count-append (change_pieces hash c) (flat_map (change_pieces hash) cs) in
    let own : 1 ≤ length (parts_in (change_pieces hash c)) = last c in
    omega (arith, whole, own, count-changes cs)
  where
    last : (c : PlainChange) → 1 ≤ length (parts_in (change_pieces hash c))
    last c =
        let own : List Piece = signature (slots.Change c.view c.agree) (change_text hash c) c.sig ∷ [] in
        let whole : length (parts_in (change_pieces hash c)) ≡ length (parts_in (flat_map (proof_pieces hash) c.proofs)) + 1 = count-append (flat_map (proof_pieces hash) c.proofs) own in
        omega (arith, whole)

valid_front : (d : PlainDirectory) (xs ys : List PlainPart) → All (IsValidPart d) (xs ++ ys) → All (IsValidPart d) xs
valid_front d xs ys all = All-same (IsValidPart d) xs (take (length xs) (xs ++ ys)) (sym (take_at xs ys (length xs) refl)) (All-take (IsValidPart d) (length xs) (xs ++ ys) all)

valid_back : (d : PlainDirectory) (xs ys : List PlainPart) → All (IsValidPart d) (xs ++ ys) → All (IsValidPart d) ys
valid_back d xs ys all = All-same (IsValidPart d) ys (drop (length xs) (xs ++ ys)) (sym (drop_at xs ys (length xs) refl)) (All-drop (IsValidPart d) (length xs) (xs ++ ys) all)

valid_parts : (d : PlainDirectory) (xs ys : List Piece) → All (IsValidPart d) (parts_in (xs ++ ys)) → All (IsValidPart d) (parts_in xs ++ parts_in ys)
valid_parts d xs ys all = All-same (IsValidPart d) (parts_in xs ++ parts_in ys) (parts_in (xs ++ ys)) (sym (parts_in-append xs ys)) all

valid_both : (d : PlainDirectory) (xs ys : List Piece) → All (IsValidPart d) (parts_in xs) → All (IsValidPart d) (parts_in ys) → All (IsValidPart d) (parts_in (xs ++ ys))
valid_both d xs ys front back = All-same (IsValidPart d) (parts_in (xs ++ ys)) (parts_in xs ++ parts_in ys) (parts_in-append xs ys) (All-append (IsValidPart d) (parts_in xs) (parts_in ys) front back)

-- ---- checks

-- nothing, and what nothing signs, is valid
pub checks_nothing : (d : PlainDirectory) (each s : ℕ) → Checks d each true s s []
checks_nothing d each s = record { valid = ((λ is. All-nil (IsValidPart d)), (λ all. refl)); most = omega arith; least = λ is. omega arith }

pub checks_unsigned : (d : PlainDirectory) (each s : ℕ) (text : Text) → Checks d each true s s (Unsigned text ∷ [])
checks_unsigned d each s text = record { valid = ((λ is. All-nil (IsValidPart d)), (λ all. refl)); most = omega arith; least = λ is. omega arith }

-- one part, by as many steps as its verification takes
pub checks_part : (d : PlainDirectory) (slot : Slot) (point : ℕ) (rows digest values : List ℕ) (text : Text) (found : Bool) (s t : ℕ) → rows ≡ row_at d slot point → digest ≡ hash text → (IsTrue found ↔ IsValid rows slot point digest values) → t ≤ s + 256 → (found ≡ true → t ≡ s + 256) → Checks d 256 found s t (Signed (record { slot = slot; point = point; text = text; values = values }) ∷ [])
checks_part d slot point rows digest values text found s t same_rows same_digest valid most all =
    let part : PlainPart = record { slot = slot; point = point; digest = hash text; values = values } in
    let here : IsTrue found ↔ IsValidPart d part =
    subst (λ z. IsTrue found ↔ IsValid z slot point (hash text) values) same_rows (subst (λ z. IsTrue found ↔ IsValid rows slot point z values) same_digest valid) in
    record {
      valid = ((λ is. All-cons (IsValidPart d) part [] (here.0 is) (All-nil (IsValidPart d))), (λ every. here.1 (All-head (IsValidPart d) part [] every)));
      most = omega arith;
      least = λ is. omega (arith, all is);
    }

-- pieces that are valid, and then more
pub checks_more : (d : PlainDirectory) (each : ℕ) (first found : Bool) (s t u : ℕ) (xs ys : List Piece) → first ≡ true → Checks d each first s t xs → Checks d each found t u ys → Checks d each found s u (xs ++ ys)
checks_more d each first found s t u xs ys is_valid before after =
    let count = count-append xs ys in
    record {
      valid = ((λ is. valid_both d xs ys (before.valid.0 is_valid) (after.valid.0 is)), (λ every. after.valid.1 (valid_back d (parts_in xs) (parts_in ys) (valid_parts d xs ys every))));
      most = rw (count, mul-add each (length (parts_in xs)) (length (parts_in ys))) (omega (arith, before.most, after.most));
      least = λ is. rw count (omega (arith, before.least is_valid, after.least is));
    }

-- where some are not valid, all are not
pub checks_stop : (d : PlainDirectory) (each : ℕ) (first : Bool) (s t : ℕ) (xs ys : List Piece) → first ≡ false → Checks d each first s t xs → Checks d each false s t (xs ++ ys)
checks_stop d each first s t xs ys is_wrong before =
    let count = count-append xs ys in
    record {
      valid = ((λ is. absurd (both_ways false refl is)), (λ every. absurd (both_ways first is_wrong (before.valid.1 (valid_front d (parts_in xs) (parts_in ys) (valid_parts d xs ys every))))));
      most = rw (count, mul-add each (length (parts_in xs)) (length (parts_in ys))) (omega (arith, before.most));
      least = λ is. absurd (both_ways false refl is);
    }

-- more steps for each part may be taken
pub checks_within : (d : PlainDirectory) (each more : ℕ) (found : Bool) (s t : ℕ) (xs : List Piece) → each ≤ more → Checks d each found s t xs → Checks d more found s t xs
checks_within d each more found s t xs less checks =
    let greater : each * length (parts_in xs) ≤ more * length (parts_in xs) = mul-le-mul_right (length (parts_in xs)) less in
    record { valid = checks.valid; most = omega (arith, checks.most, greater); least = checks.least }

-- a step before the first part
pub checks_after_step : (d : PlainDirectory) (found : Bool) (s t u : ℕ) (xs : List Piece) → t ≡ s + 1 → 0 < length (parts_in xs) → Checks d 256 found t u xs → Checks d 257 found s u xs
checks_after_step d found s t u xs one some checks = record {
  valid = checks.valid;
  most = omega (arith, checks.most);
  least = λ is. omega (arith, checks.least is);
}

-- at most a step more for each part
pub checks_before_steps : (d : PlainDirectory) (found : Bool) (s t u more : ℕ) (xs : List Piece) → u ≡ t + more → more ≤ length (parts_in xs) → Checks d 257 found s t xs → Checks d 258 found s u xs
checks_before_steps d found s t u more xs some few checks = record {
  valid = checks.valid;
  most = omega (arith, checks.most);
  least = λ is. omega (arith, checks.least is);
}

-- a vote in its slot
pub checks_signer : (d : PlainDirectory) (found : Bool) (s t phase view number : ℕ) (entry : List ℕ) (signer : PlainSigner) (slot : Slot) → slot ≡ vote_slot phase view number signer.agree → Checks d 256 found s t (Signed (record { slot = slot; point = 0; text = Voted phase view number entry; values = signer.sig }) ∷ []) → Checks d 256 found s t (signer_piece phase view number entry signer ∷ [])
checks_signer d found s t phase view number entry signer slot same checks =
    subst (λ z. Checks d 256 found s t (Signed (record { slot = z; point = 0; text = Voted phase view number entry; values = signer.sig }) ∷ [])) same checks

-- each vote has a part
pub count-signers : (phase view number : ℕ) (entry : List ℕ) (signers : List PlainSigner) → length (parts_in (signer_pieces phase view number entry signers)) ≡ length signers
count-signers phase view number entry [] = refl
count-signers phase view number entry (s ∷ signers) = ap suc (count-signers phase view number entry signers)
