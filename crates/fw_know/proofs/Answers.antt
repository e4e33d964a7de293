-- What is found under a digest, and what is answered.
use Rattle.std.proofs.Common.{◌≡◌, ◌≢◌, ℕ, List, [], ◌∷◌, ◌++◌, Bool, true, false, map, Option, Some, None, Ok, Err, Result, bytes_eq, refl, sym, ap, ◌∙◌, subst, nat_cmp}
use Rattle.std.specs.Map.{lookup}
use Rattle.std.specs.BTreeMap.{is_at}
use Rattle.std.specs.Cmp.Lexicographic.{slice_cmp}
use Rattle.fw_frame.specs.declared.shown.Text.{Text}
use Rattle.fw_know.specs.declared.texts.TextFault.{TextFault}
use Rattle.fw_know.specs.declared.texts.TextFault.TheVariants as fault
use Rattle.fw_know.specs.Books.{given, clash, is_among, entry_text, text_under, is_text, IsBookOf}
use Rattle.fw_know.specs.Answering.{Refuses, Finds}
use Rattle.fw_know.proofs.Books.{Entries, held, same_bytes, one_clash, clash_last, is_there}

pub kept_true : (under : Option (List ℕ)) (text : List ℕ) (r : Result Bool TextFault) (b : Bool) → Finds under text r → r ≡ Ok b → b ≡ true → under ≡ Some text
kept_true under text r b finds is same = subst (Finds under text) (is ∙ ap (λ (x : Bool). Ok x) same) finds

pub kept_false : (under : Option (List ℕ)) (text : List ℕ) (r : Result Bool TextFault) (b : Bool) → Finds under text r → r ≡ Ok b → b ≡ false → under ≡ None
kept_false under text r b finds is same = subst (Finds under text) (is ∙ ap (λ (x : Bool). Ok x) same) finds

abbrev found_in : Entries → List ℕ → Option (List ℕ)
found_in entries digest = lookup (is_at (slice_cmp nat_cmp digest)) entries

pub told_fault : (entries : Entries) (book texts : List Text) (digest text : List ℕ) (f : TextFault) → IsBookOf book texts → map entry_text entries ≡ book → Finds (found_in entries digest) text (Err f)
    → Refuses (clash (texts ++ given digest text ∷ [])) (given digest text) f
told_fault entries book texts digest text (fault.Clash old new) is same finds = (
  clash_last book texts (given digest text) (given digest old) is (one_clash book texts digest text old is (held entries book digest (Some old) same finds.0) finds.1.0),
  finds.1.1,
)
told_fault entries book texts digest text fault.Memory is same finds = tt

other_text : (under : Option (List ℕ)) (text : List ℕ) → (under ≢ Some text) → is_text under text ≡ true → false ≡ true
other_text None text other is = is
other_text (Some old) text other is = absurd (other (ap (λ (t : List ℕ). Some t) (same_bytes old text is)))

pub not_there : (entries : Entries) (book texts : List Text) (digest text : List ℕ) (f : TextFault) → IsBookOf book texts → map entry_text entries ≡ book → is_among (given digest text) texts ≡ true
    → Finds (found_in entries digest) text (Err f) → false ≡ true
not_there entries book texts digest text (fault.Clash old new) is same among finds =
    sym finds.1.0 ∙ is_there book texts digest text (Some old) is among (held entries book digest (Some old) same finds.0)
not_there entries book texts digest text fault.Memory is same among finds =
    other_text (found_in entries digest) text finds (is_there book texts digest text (found_in entries digest) is among (held entries book digest (found_in entries digest) same refl))
