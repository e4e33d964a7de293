-- What a book answers to a text.
use Rattle.std.specs.Prelude.{◌≡◌, ◌≢◌, ℕ, ⊤, Bool, true, false, bytes_eq, List, Option, Some, None, Ok, Err, Result}
use Rattle.fw_frame.specs.declared.shown.Text.{Text}
use Rattle.fw_know.specs.declared.texts.TextFault.{TextFault}
use Rattle.fw_know.specs.declared.texts.TextFault.TheVariants as fault
use Rattle.fw_know.specs.Books.{given}

-- the first clash of the texts with this one behind them is this text's with that one. Memory may be wanted in any case
abbrev pub Refuses : Option (Text × Text) → Text → TextFault → Type 0
Refuses found new (fault.Clash old given_text) = (found ≡ Some (given new.digest old, new)) × (given_text ≡ new.text)
Refuses found new fault.Memory = ⊤

-- that, or there is none
abbrev pub Answers : {A : Type 0} → Option (Text × Text) → Text → Result A TextFault → Type 0
Answers found new (Ok done) = found ≡ None
Answers found new (Err f) = Refuses found new f

-- what is found under its digest: the text itself, nothing, or another text. Memory may be wanted where that is another text
abbrev pub Finds : Option (List ℕ) → List ℕ → Result Bool TextFault → Type 0
Finds under text (Ok true) = under ≡ Some text
Finds under text (Ok false) = under ≡ None
Finds under text (Err (fault.Clash old given_text)) = (under ≡ Some old) × ((bytes_eq old text ≡ false) × (given_text ≡ text))
Finds under text (Err fault.Memory) = under ≢ Some text
