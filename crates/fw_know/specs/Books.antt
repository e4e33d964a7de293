-- Texts that were hashed: when two of them clash, and what a book of them keeps.
use Rattle.std.specs.Prelude.{◌≡◌, ℕ, Bool, true, false, ◌&&◌, not, List, [], ◌∷◌, ◌++◌, Option, Some, None, bytes_eq}
use Rattle.std.specs.List.{find, list_any}
use Rattle.std.specs.Option.{option_map}
use Rattle.fw_frame.specs.declared.shown.Text.{Text}

abbrev pub given : List ℕ → List ℕ → Text
given digest text = record { digest = digest; text = text }

-- two different texts have one digest
abbrev pub clashes : Text → Text → Bool
clashes a b = bytes_eq a.digest b.digest && not (bytes_eq a.text b.text)

-- the first of these texts that clashes with another one
abbrev pub clash_in : List Text → Text → Option Text
clash_in texts new = find (λ old. clashes new old) texts

-- of texts in order, the first that clashes with one before it, behind that one
abbrev pub clash_or : Option Text → Text → Option (Text × Text) → Option (Text × Text)
clash_or None new rest = rest
clash_or (Some old) new rest = Some (old, new)

abbrev pub first_clash : List Text → List Text → Option (Text × Text)
first_clash before [] = None
first_clash before (new ∷ more) = clash_or (clash_in before new) new (first_clash (before ++ new ∷ []) more)

abbrev pub clash : List Text → Option (Text × Text)
clash texts = first_clash [] texts

-- ---- the book

abbrev pub same_text : Text → Text → Bool
same_text a b = bytes_eq a.digest b.digest && bytes_eq a.text b.text

-- whether a text with its digest stands in a list
abbrev pub is_among : Text → List Text → Bool
is_among text texts = list_any (same_text text) texts

-- an entry of the book
abbrev pub entry_text : List ℕ × List ℕ → Text
entry_text entry = given entry.0 entry.1

-- what the book has under a digest
abbrev pub text_under : List Text → List ℕ → Option (List ℕ)
text_under book digest = option_map (λ (t : Text). t.text) (find (λ (t : Text). bytes_eq digest t.digest) book)

abbrev pub is_text : Option (List ℕ) → List ℕ → Bool
is_text None text = false
is_text (Some old) text = bytes_eq old text

-- these texts were added, and no others: each is what the book has under its digest. So no two of them clash
abbrev pub IsBookOf : List Text → List Text → Type 0
IsBookOf book texts = (t : Text) → is_among t texts ≡ is_text (text_under book t.digest) t.text
